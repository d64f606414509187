-- A body asks for one thing, and its texts have the bounds of the texts of rows.
use Rattle.std.proofs.Common.{◌≡◌, ◌≤◌, ℕ, subst, List, Option, Some, None, Result, Ok, Err, inl, inr, sym, ◌∙◌, ap, length, chars, nat_le, not, ◌&&◌, arith, true, false, Bool}
use Rattle.std.specs.List.{list_any}
use Rattle.std.proofs.lemmas.Bool.Decides.{nat_tests}
use Rattle.inet_num.specs.Net.{Address, Cidr}
use Rattle.inet_num.proofs.Readings.{reading_is_one}
use Rattle.ipam_data.specs.Texts.{is_control}
use Rattle.ipam_data.specs.Hosts.{Masked}
use Rattle.ipam_data.specs.declared.replies.FieldName.{FieldName}
use Rattle.ipam_data.specs.declared.kinds.Kind.{Kind}
use Rattle.ipam_data.specs.declared.kinds.Kind.TheVariants.{Vrfs, Rirs, Roles, Aggregates, Prefixes, Ranges, Addresses}
use Rattle.ipam_data.specs.declared.calls.Draft.{Draft}
use Rattle.ipam_data.specs.declared.calls.Edit.{Edit}
use Rattle.ipam_data.specs.declared.replies.Refusal.{Refusal}
use Rattle.serde_json.specs.Data.{Data}
use Rattle.serde_json.specs.Find.{as_str}
use Rattle.ipam_json.specs.Bodies.{IsObjectText, IsObjectOf, IsEditObjectOf, IsTextOf}
use Rattle.ipam_json.specs.Blocks.{IsBlockReading, IsBlockValue, IsBlockMember, IsBlockEdit, block_refusal}
use Rattle.ipam_json.specs.Hosts.{IsHostReading, IsHostValue, IsHostMember, IsHostEdit}
use Rattle.ipam_json.specs.Outcomes.{given, IsGiven}
use Rattle.ipam_json.specs.Aggregates.{aggregate_draft, aggregate_edit}
use Rattle.ipam_json.specs.Prefixes.{prefix_draft, prefix_edit}
use Rattle.ipam_json.specs.Ranges.{range_draft, range_edit}
use Rattle.ipam_json.specs.Addresses.{address_draft, address_edit}
use Rattle.ipam_json.specs.Laws.{BodyIsOne, EditIsOne, BoundsAreThose}

one_block : (text : List ℕ) (a b : Result Cidr Refusal) → IsBlockReading text a → IsBlockReading text b → a ≡ b
one_block text (Ok a) (Ok b) h k = ap Ok (reading_is_one.blocks text a b h k)
one_block text (Ok a) (Err e) h k = absurd (reading_is_one.apart text a k.0 h k.1)
one_block text (Err e) (Ok b) h k = absurd (reading_is_one.apart text b h.0 k h.1)
one_block text (Err e) (Err f) h k = ap Err (h.2 ∙ ap block_refusal (reading_is_one.faults text h.0 k.0 h.1 k.1) ∙ sym k.2)

one_value : (text : Option (List ℕ)) (a b : Result Cidr Refusal) → IsBlockValue text a → IsBlockValue text b → a ≡ b
one_value None a b h k = h ∙ sym k
one_value (Some text) a b h k = one_block text a b h k

one_member : (d : Option Data) (a b : Result Cidr Refusal) → IsBlockMember d a → IsBlockMember d b → a ≡ b
one_member None a b h k = h ∙ sym k
one_member (Some d) a b h k = one_value (as_str d) a b h k

one_host : (key : FieldName) (text : List ℕ) (a b : Result Masked Refusal) → IsHostReading key text a → IsHostReading key text b → a ≡ b
one_host key text (Ok a) (Ok b) h k =
    let one = reading_is_one.hosts text a.addr b.addr a.len b.len h k in
    ap (λ (x : Address). let host : Masked = record { addr = x; len = a.len } in Ok host) one.0
    ∙ ap (λ (x : ℕ). let host : Masked = record { addr = b.addr; len = x } in Ok host) one.1
one_host key text (Ok a) (Err e) h k = absurd (reading_is_one.host_apart text a.addr a.len k.0.0 h k.0.1)
one_host key text (Err e) (Ok b) h k = absurd (reading_is_one.host_apart text b.addr b.len h.0.0 k h.0.1)
one_host key text (Err e) (Err f) h k = ap Err (h.1 ∙ sym k.1)

one_host_value : (key : FieldName) (text : Option (List ℕ)) (a b : Result Masked Refusal) → IsHostValue key text a → IsHostValue key text b → a ≡ b
one_host_value key None a b h k = h ∙ sym k
one_host_value key (Some text) a b h k = one_host key text a b h k

one_host_member : (key : FieldName) (d : Option Data) (a b : Result Masked Refusal) → IsHostMember key d a → IsHostMember key d b → a ≡ b
one_host_member key None a b h k = h ∙ sym k
one_host_member key (Some d) a b h k = one_host_value key (as_str d) a b h k

one_object : (kind : Kind) (d : Data) (a b : Result Draft Refusal) → IsObjectOf kind d a → IsObjectOf kind d b → a ≡ b
one_object Vrfs d a b h k = h ∙ sym k
one_object Rirs d a b h k = h ∙ sym k
one_object Roles d a b h k = h ∙ sym k
one_object Aggregates d a b h k = h.2 ∙ ap (λ (block : Result Cidr Refusal). aggregate_draft block d) (one_member _ h.0 k.0 h.1 k.1) ∙ sym k.2
one_object Prefixes d a b h k = h.2 ∙ ap (λ (block : Result Cidr Refusal). prefix_draft block d) (one_member _ h.0 k.0 h.1 k.1) ∙ sym k.2
one_object Ranges d a b h k =
    h.4 ∙ ap (λ (start : Result Masked Refusal). range_draft start h.1 d) (one_host_member _ _ h.0 k.0 h.2 k.2)
    ∙ ap (λ (end : Result Masked Refusal). range_draft k.0 end d) (one_host_member _ _ h.1 k.1 h.3 k.3) ∙ sym k.4
one_object Addresses d a b h k = h.2 ∙ ap (λ (host : Result Masked Refusal). address_draft host d) (one_host_member _ _ h.0 k.0 h.1 k.1) ∙ sym k.2

same_data : (body : List ℕ) (d e : Data) → IsObjectText body d → IsObjectText body e → d ≡ e
same_data body d e h k = let same : Some d ≡ Some e = sym h.value ∙ k.value in cc

-- what is given is one where its readings are
module _ {A : Type 0} (IsRight : Result A Refusal → Type 0) (one : (a b : Result A Refusal) → IsRight a → IsRight b → a ≡ b) where
  one_given : (a b : Result (Option A) Refusal) → IsGiven IsRight a → IsGiven IsRight b → a ≡ b
  one_given (Ok None) b h k = absurd h
  one_given (Ok (Some a)) (Ok None) h k = absurd k
  one_given (Err e) (Ok None) h k = absurd k
  one_given (Ok (Some a)) (Ok (Some b)) h k = ap given (one (Ok a) (Ok b) h k)
  one_given (Ok (Some a)) (Err f) h k = ap given (one (Ok a) (Err f) h k)
  one_given (Err e) (Ok (Some b)) h k = ap given (one (Err e) (Ok b) h k)
  one_given (Err e) (Err f) h k = ap given (one (Err e) (Err f) h k)

one_edit : (d : Option Data) (a b : Result (Option Cidr) Refusal) → IsBlockEdit d a → IsBlockEdit d b → a ≡ b
one_edit None a b h k = h ∙ sym k
one_edit (Some d) a b h k = one_given (IsBlockMember (Some d)) (one_member (Some d)) a b h k

one_host_edit : (key : FieldName) (d : Option Data) (a b : Result (Option Masked) Refusal) → IsHostEdit key d a → IsHostEdit key d b → a ≡ b
one_host_edit key None a b h k = h ∙ sym k
one_host_edit key (Some d) a b h k = one_given (IsHostMember key (Some d)) (one_host_member key (Some d)) a b h k

one_edit_object : (kind : Kind) (d : Data) (a b : Result Edit Refusal) → IsEditObjectOf kind d a → IsEditObjectOf kind d b → a ≡ b
one_edit_object Vrfs d a b h k = h ∙ sym k
one_edit_object Rirs d a b h k = h ∙ sym k
one_edit_object Roles d a b h k = h ∙ sym k
one_edit_object Aggregates d a b h k = h.2 ∙ ap (λ (block : Result (Option Cidr) Refusal). aggregate_edit block d) (one_edit _ h.0 k.0 h.1 k.1) ∙ sym k.2
one_edit_object Prefixes d a b h k = h.2 ∙ ap (λ (block : Result (Option Cidr) Refusal). prefix_edit block d) (one_edit _ h.0 k.0 h.1 k.1) ∙ sym k.2
one_edit_object Ranges d a b h k =
    h.4 ∙ ap (λ (start : Result (Option Masked) Refusal). range_edit start h.1 d) (one_host_edit _ _ h.0 k.0 h.2 k.2)
    ∙ ap (λ (end : Result (Option Masked) Refusal). range_edit k.0 end d) (one_host_edit _ _ h.1 k.1 h.3 k.3) ∙ sym k.4
one_edit_object Addresses d a b h k = h.2 ∙ ap (λ (host : Result (Option Masked) Refusal). address_edit host d) (one_host_edit _ _ h.0 k.0 h.1 k.1) ∙ sym k.2

-- where an object asks for one thing, so does a body
module _ {A : Type 0} (IsObject : Data → Result A Refusal → Type 0) (one : (d : Data) (a b : Result A Refusal) → IsObject d a → IsObject d b → a ≡ b) where
  one_value_text : (d e : Data) (a b : Result A Refusal) → d ≡ e → IsObject d a → IsObject e b → a ≡ b
  one_value_text d e a b same h k = one e a b (subst (λ (x : Data). IsObject x a) same h) k

  one_text : (body : List ℕ) (a b : Result A Refusal) → IsTextOf IsObject body a → IsTextOf IsObject body b → a ≡ b
  one_text body a b (inl h) (inl k) = one_value_text h.0 k.0 a b (same_data body h.0 k.0 h.1 k.1) h.2 k.2
  one_text body a b (inl h) (inr k) = absurd (k.0 h.0 h.1)
  one_text body a b (inr h) (inl k) = absurd (h.0 k.0 k.1)
  one_text body a b (inr h) (inr k) = h.1 ∙ sym k.1

pub body_is_one : BodyIsOne
body_is_one kind = one_text (IsObjectOf kind) (one_object kind)

pub edit_is_one : EditIsOne
edit_is_one kind = one_text (IsEditObjectOf kind) (one_edit_object kind)

plain_bounds : (least most n : ℕ) (bad : Bool) → (nat_le least n && nat_le n most && not bad) ≡ true → (least ≤ n) × (n ≤ most) × (bad ≡ false)
plain_bounds least most n true h = grind (arith, nat_tests)
plain_bounds least most n false h = grind (arith, nat_tests)

bounds_plain : (least most n : ℕ) (bad : Bool) → least ≤ n → n ≤ most → bad ≡ false → (nat_le least n && nat_le n most && not bad) ≡ true
bounds_plain least most n bad p q r = rw r (grind (arith, nat_tests))

pub bounds_are_those : BoundsAreThose
bounds_are_those least most text = (
  (λ h. let p = plain_bounds least most (length (chars text)) (list_any is_control (chars text)) h in record { enough = p.0; few = p.1; plain = p.2 }),
  (λ h. bounds_plain least most (length (chars text)) (list_any is_control (chars text)) h.enough h.few h.plain),
)
