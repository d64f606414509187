-- Claims: items that are read one after another.
use Rattle.std.proofs.Common.{◌≡◌, ◌≢◌, ◌⊎◌, if◌then◌else◌, ℕ, ◌+◌, ◌≤◌, ◌<◌, List, [], ◌∷◌, ◌++◌, length, get_or, take, drop, map, Some, None, Result, Ok, Err, inl, inr, sym, ◌∙◌, ap, refl, arith, true, false, Bool}
use Rattle.std.proofs.lemmas.List.{map-append, take_more, take-append-drop}
use Rattle.std.proofs.lemmas.List.Folds.{list_all-map}
use Rattle.std.specs.List.{list_all}
use Rattle.ipam_data.specs.declared.calls.Answered.{Answered}
use Rattle.ipam_data.specs.declared.replies.Refusal.{Refusal}
use Rattle.ipam_data.specs.declared.replies.FieldName.TheVariants.{Body}
use Rattle.ipam_data.specs.declared.replies.Refusal.TheVariants.{BadJson, Field, Memory}
use Rattle.serde_json.specs.Data.{Data}
use Rattle.serde_json.specs.Find.{as_array}
use Rattle.serde_json.specs.View.{items_of}
use Rattle.ipam_json.specs.Outcomes.{OrMemory}
use Rattle.ipam_json.specs.Claims.{IsJsonText, IsClaimOf, is_object, values_of, list_checked, with_item, items_in, one_claim, list_claim, claim_by, claim_of}

-- the values of an array are those that it was made of
pub values_are : (ds : List Data) → values_of (items_of ds) ≡ ds
values_are [] = refl
values_are (d ∷ ds) = ap (λ (rest : List Data). d ∷ rest) (values_are ds)

-- what a list of values is, as it is seen
module _ {V : Type 0} (view : V → Data) where
  pub checked_none : (list : List V) → length list ≡ 0 → list_checked (map view list) ≡ Err (Field Body)
  checked_none [] e = refl
  checked_none (v ∷ vs) e = absurd (omega arith)

  by_test : (list : List V) → length list ≢ 0 → (b : Bool) → list_all (λ (v : V). is_object (view v)) list ≡ b
      → list_checked (map view list) ≡ if b then Ok tt else Err BadJson
  by_test [] n b e = absurd (n refl)
  by_test (v ∷ vs) n b e = ap (λ (x : Bool). if x then Ok tt else Err BadJson) (list_all-map is_object view (v ∷ vs) ∙ e)

  pub checked_well : (list : List V) → length list ≢ 0 → list_all (λ (v : V). is_object (view v)) list ≡ true → list_checked (map view list) ≡ Ok tt
  checked_well list n e = by_test list n true e

  pub checked_ill : (list : List V) → length list ≢ 0 → list_all (λ (v : V). is_object (view v)) list ≡ false → list_checked (map view list) ≡ Err BadJson
  checked_ill list n e = by_test list n false e

abbrev both : {A : Type 0} → Result (List A) Refusal → Result (List A) Refusal → Result (List A) Refusal
both (Ok a) (Ok b) = Ok (a ++ b)
both (Ok a) (Err e) = Err e
both (Err e) r = Err e

with_both : {A : Type 0} (h : Result A Refusal) (s t : Result (List A) Refusal) → with_item h (both s t) ≡ both (with_item h s) t
with_both (Ok a) (Ok s) (Ok t) = refl
with_both (Ok a) (Ok s) (Err e) = refl
with_both (Ok a) (Err e) t = refl
with_both (Err e) s t = refl

from_none : {A : Type 0} (t : Result (List A) Refusal) → t ≡ both (Ok []) t
from_none (Ok b) = refl
from_none (Err e) = refl

one_more_has : {A : Type 0} (h : Result A Refusal) (t : Result (List A) Refusal) (items : List A) → with_item h t ≡ Ok items → 1 ≤ length items
one_more_has (Ok a) (Ok rest) items e = let same : items ≡ a ∷ rest = cc in rw same (omega arith)
one_more_has (Ok a) (Err f) items e = absurd (cc)
one_more_has (Err f) t items e = absurd (cc)

module _ {A : Type 0} (read_item : Data → Result A Refusal) where
  joined : (xs ys : List Data) → items_in read_item (xs ++ ys) ≡ both (items_in read_item xs) (items_in read_item ys)
  joined [] ys = from_none (items_in read_item ys)
  joined (x ∷ xs) ys = ap (λ (r : Result (List A) Refusal). with_item (read_item x) r) (joined xs ys) ∙ with_both (read_item x) (items_in read_item xs) (items_in read_item ys)

  module _ {V : Type 0} (view : V → Data) where
    -- one more value
    longer : (list : List V) (i : ℕ) (v : V) → i < length list → v ≡ get_or list i v
        → items_in read_item (map view (take (i + 1) list)) ≡ both (items_in read_item (map view (take i list))) (items_in read_item (view v ∷ []))
    longer list i v h is =
        let more : take (i + 1) list ≡ take i list ++ v ∷ [] = take_more list i v h ∙ ap (λ (x : V). take i list ++ x ∷ []) (sym is) in
        ap (λ (xs : List V). items_in read_item (map view xs)) more ∙ ap (items_in read_item) (map-append view (take i list) (v ∷ [])) ∙ joined (map view (take i list)) (view v ∷ [])

    -- one more item
    pub items_more : (list : List V) (i : ℕ) (v : V) (items : List A) (item : A) → i < length list → v ≡ get_or list i v
        → items_in read_item (map view (take i list)) ≡ Ok items → read_item (view v) ≡ Ok item
        → items_in read_item (map view (take (i + 1) list)) ≡ Ok (items ++ item ∷ [])
    items_more list i v items item h is before one =
        longer list i v h is ∙ ap (λ (r : Result (List A) Refusal). both r (items_in read_item (view v ∷ []))) before
        ∙ ap (λ (r : Result A Refusal). both (Ok items) (with_item r (Ok []))) one

    -- the first that is refused
    items_stop : (list : List V) (i : ℕ) (v : V) (items : List A) (e : Refusal) → i < length list → v ≡ get_or list i v
        → items_in read_item (map view (take i list)) ≡ Ok items → read_item (view v) ≡ Err e → items_in read_item (map view list) ≡ Err e
    items_stop list i v items e h is before one =
        let upto : items_in read_item (map view (take (i + 1) list)) ≡ Err e =
        longer list i v h is ∙ ap (λ (r : Result (List A) Refusal). both r (items_in read_item (view v ∷ []))) before
        ∙ ap (λ (r : Result A Refusal). both (Ok items) (with_item r (Ok []))) one in
        ap (λ (xs : List V). items_in read_item (map view xs)) (sym (take-append-drop (i + 1) list))
        ∙ ap (items_in read_item) (map-append view (take (i + 1) list) (drop (i + 1) list))
        ∙ joined (map view (take (i + 1) list)) (map view (drop (i + 1) list))
        ∙ ap (λ (r : Result (List A) Refusal). both r (items_in read_item (map view (drop (i + 1) list)))) upto

    pub items_refused : (list : List V) (i : ℕ) (v : V) (items : List A) (e : Refusal) → i < length list → v ≡ get_or list i v
        → items_in read_item (map view (take i list)) ≡ Ok items → (e ≡ Memory) ⊎ (read_item (view v) ≡ Err e)
        → (e ≡ Memory) ⊎ (items_in read_item (map view list) ≡ Err e)
    items_refused list i v items e h is before (inl memory) = inl memory
    items_refused list i v items e h is before (inr one) = inr (items_stop list i v items e h is before one)

  -- a list that was checked gives an item
  pub some_items : (ds : List Data) (u : Unit {0}) (items : List A) → list_checked ds ≡ Ok u → items_in read_item ds ≡ Ok items → 1 ≤ length items
  some_items [] u items c e = absurd (cc)
  some_items (d ∷ ds) u items c e = one_more_has (read_item d) (items_in read_item ds) items e

  -- what a body asks for whose value is an array
  by_list : (d : Data) (ds : List Data) → as_array d ≡ Some (items_of ds) → claim_of read_item d ≡ list_claim read_item ds
  by_list d ds e = ap (claim_by read_item d) e ∙ ap (list_claim read_item) (values_are ds)

  pub claimed_by_list : (body : List ℕ) (d : Data) (ds : List Data) (answer : Result (Answered × List A) Refusal) → IsJsonText body d → as_array d ≡ Some (items_of ds)
      → OrMemory (λ r. list_claim read_item ds ≡ r) answer → OrMemory (IsClaimOf read_item body) answer
  claimed_by_list body d ds (Ok a) h e c = inl (d, h, by_list d ds e ∙ c)
  claimed_by_list body d ds (Err f) h e (inl memory) = inl memory
  claimed_by_list body d ds (Err f) h e (inr c) = inr (inl (d, h, by_list d ds e ∙ c))

  pub claimed_by_one : (body : List ℕ) (d : Data) (answer : Result (Answered × List A) Refusal) → IsJsonText body d → as_array d ≡ None
      → OrMemory (λ r. one_claim read_item d ≡ r) answer → OrMemory (IsClaimOf read_item body) answer
  claimed_by_one body d (Ok a) h e c = inl (d, h, ap (claim_by read_item d) e ∙ c)
  claimed_by_one body d (Err f) h e (inl memory) = inl memory
  claimed_by_one body d (Err f) h e (inr c) = inr (inl (d, h, ap (claim_by read_item d) e ∙ c))

  -- a body asks for one thing
  same_value : (body : List ℕ) (d e : Data) → IsJsonText body d → IsJsonText body e → d ≡ e
  same_value body d e h k = let same : Some d ≡ Some e = sym h.value ∙ k.value in cc

  pub one_answer : (body : List ℕ) (a b : Result (Answered × List A) Refusal) → IsClaimOf read_item body a → IsClaimOf read_item body b → a ≡ b
  one_answer body a b (inl h) (inl k) = sym h.2 ∙ ap (claim_of read_item) (same_value body h.0 k.0 h.1 k.1) ∙ k.2
  one_answer body a b (inl h) (inr k) = absurd (k.0 h.0 h.1)
  one_answer body a b (inr h) (inl k) = absurd (h.0 k.0 k.1)
  one_answer body a b (inr h) (inr k) = h.1 ∙ sym k.1
