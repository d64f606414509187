-- A body asks for one thing, and its names have the bounds of names.
use Rattle.std.proofs.Common.{◌≡◌, ◌↔◌, ℕ, List, Some, Result, Bool, true, false, IsTrue, inl, inr, sym, ◌∙◌, ap, refl}
use Rattle.ipam_data.specs.Texts.{IsName}
use Rattle.serde_json.specs.Data.{Data}
use Rattle.ipam_json.specs.Bodies.{IsObjectText}
use Rattle.ipam_json.specs.Members.{is_plain}
use Rattle.ipam_json.proofs.Claimed.{one_answer}
use Rattle.ipam_json.proofs.Unique.{bounds_are_those}
use Rattle.pool_json.specs.declared.bodies.RequestRefusal.{RequestRefusal}
use Rattle.pool_json.specs.Bodies.{IsOfObject, claim_item, range_draft}
use Rattle.pool_json.specs.Edits.{member_edit, range_edit}
use Rattle.pool_json.specs.Laws.{ClaimIsOne, EditIsOne, RangeBodyIsOne}

same_data : (body : List ℕ) (d e : Data) → IsObjectText body d → IsObjectText body e → d ≡ e
same_data body d e h k = let same : Some d ≡ Some e = sym h.value ∙ k.value in cc

object_is_one : {A : Type 0} (read : Data → Result A RequestRefusal) (body : List ℕ) (a b : Result A RequestRefusal) → IsOfObject read body a → IsOfObject read body b → a ≡ b
object_is_one read body a b (inl h) (inl k) = sym h.2 ∙ ap read (same_data body h.0 k.0 h.1 k.1) ∙ k.2
object_is_one read body a b (inl h) (inr k) = absurd (k.0 h.0 h.1)
object_is_one read body a b (inr h) (inl k) = absurd (h.0 k.0 k.1)
object_is_one read body a b (inr h) (inr k) = h.1 ∙ sym k.1

pub range_body_is_one : RangeBodyIsOne
range_body_is_one body a b h k = object_is_one range_draft body a b h k

pub edit_is_one : EditIsOne
edit_is_one = record {
  ranges = λ body a b h k. object_is_one range_edit body a b h k;
  members = λ kind body a b h k. object_is_one (member_edit kind) body a b h k;
}

pub claim_is_one : ClaimIsOne
claim_is_one kind body a b h k = one_answer (claim_item kind) body a b h k

one_test : (a b : Bool) → (IsTrue a → IsTrue b) → (IsTrue b → IsTrue a) → a ≡ b
one_test true true h k = refl
one_test false false h k = refl
one_test true false h k = let e : false ≡ true = h refl in cc
one_test false true h k = let e : false ≡ true = k refl in cc

-- the test of a name is that of its bounds
pub name_test : (text : List ℕ) (b : Bool) → IsTrue b ↔ IsName text → b ≡ is_plain 1 100 text
name_test text b h = one_test b (is_plain 1 100 text) (λ x. (bounds_are_those 1 100 text).1 (h.0 x)) (λ y. h.1 ((bounds_are_those 1 100 text).0 y))
