-- Items that record chosen numbers, read one after another.
use Rattle.std.proofs.Common.{◌≡◌, ◌⊎◌, ℕ, ◌+◌, ◌≤◌, ◌<◌, Bool, true, false, List, [], ◌∷◌, ◌++◌, drop, get_or, length, map, take, Option, Some, None, Result, Ok, Err, inl, inr, sym, ◌∙◌, ap, refl, arith, if◌then◌else◌}
use Rattle.std.specs.List.{list_all}
use Rattle.std.proofs.lemmas.List.{map-append, take_more, take-append-drop}
use Rattle.ipam_data.specs.declared.calls.Answered.{Answered}
use Rattle.ipam_data.specs.declared.calls.Answered.TheVariants.{AsOne, AsList}
use Rattle.ipam_data.specs.declared.replies.Refusal.{Refusal}
use Rattle.ipam_data.specs.declared.replies.Refusal.TheVariants.{BadJson, Memory}
use Rattle.serde_json.specs.Data.{Data}
use Rattle.serde_json.specs.Find.{as_array}
use Rattle.serde_json.specs.View.{items_of}
use Rattle.ipam_json.specs.Outcomes.{OrMemory, then as and_then}
use Rattle.ipam_json.specs.Claims.{IsClaimOf, IsJsonText, IsNoJsonText, claim_by, is_object, items_in, list_checked, list_claim, one_claim, with_item}
use Rattle.ipam_json.proofs.Claimed.{one_answer, values_are}
use Rattle.number_pools.specs.declared.calls.Chosen.{Chosen}
use Rattle.number_pools.specs.declared.rows.PoolKind.{PoolKind}
use Rattle.pool_json.specs.declared.bodies.RequestRefusal.{RequestRefusal}
use Rattle.pool_json.specs.declared.bodies.RequestRefusal.TheVariants.{Common}
use Rattle.pool_json.specs.Bodies.{OrWant}
use Rattle.pool_json.specs.Laws.{RecordIsOne}
use Rattle.pool_json.specs.Records.{IsRecord, answered_as, as_data, chosen_by, chosen_in, chosen_item, recorded, with_chosen}

-- the name of an item is refused
pub ill_chosen : (kind : PoolKind) (o : Option ℕ) (n : ℕ) (name : Result (List ℕ) Refusal) (e : Refusal) → o ≡ Some n → OrMemory (λ r. name ≡ r) (Err e)
    → OrWant (λ r. chosen_by kind o name ≡ r) (Err (Common e))
ill_chosen kind o n name e q (inl memory) = inl (ap Common memory)
ill_chosen kind o n name e q (inr is) = inr (ap (λ (x : Option ℕ). chosen_by kind x name) q ∙ ap (chosen_by kind (Some n)) is)

-- ---- one after another

abbrev Many : Type 0
Many = Result (List Chosen) RequestRefusal

abbrev both : Many → Many → Many
both (Ok a) (Ok b) = Ok (a ++ b)
both (Ok a) (Err e) = Err e
both (Err e) r = Err e

with_both : (h : Result Chosen RequestRefusal) (s t : Many) → with_chosen h (both s t) ≡ both (with_chosen h s) t
with_both (Ok a) (Ok s) (Ok t) = refl
with_both (Ok a) (Ok s) (Err e) = refl
with_both (Ok a) (Err e) t = refl
with_both (Err e) s t = refl

from_none : (t : Many) → t ≡ both (Ok []) t
from_none (Ok b) = refl
from_none (Err e) = refl

module _ (kind : PoolKind) where
  joined : (xs ys : List Data) → chosen_in kind (xs ++ ys) ≡ both (chosen_in kind xs) (chosen_in kind ys)
  joined [] ys = from_none (chosen_in kind ys)
  joined (x ∷ xs) ys = ap (with_chosen (chosen_item kind x)) (joined xs ys) ∙ with_both (chosen_item kind x) (chosen_in kind xs) (chosen_in kind ys)

  module _ {V : Type 0} (view : V → Data) where
    longer : (list : List V) (i : ℕ) (v : V) → i < length list → v ≡ get_or list i v
        → chosen_in kind (map view (take (i + 1) list)) ≡ both (chosen_in kind (map view (take i list))) (chosen_in kind (view v ∷ []))
    longer list i v h is =
        let more : take (i + 1) list ≡ take i list ++ v ∷ [] = take_more list i v h ∙ ap (λ (x : V). take i list ++ x ∷ []) (sym is) in
        ap (λ (xs : List V). chosen_in kind (map view xs)) more ∙ ap (chosen_in kind) (map-append view (take i list) (v ∷ [])) ∙ joined (map view (take i list)) (view v ∷ [])

    -- one more item
    pub chosen_more : (list : List V) (i : ℕ) (v : V) (items : List Chosen) (item : Chosen) → i < length list → v ≡ get_or list i v
        → chosen_in kind (map view (take i list)) ≡ Ok items → chosen_item kind (view v) ≡ Ok item
        → chosen_in kind (map view (take (i + 1) list)) ≡ Ok (items ++ item ∷ [])
    chosen_more list i v items item h is before one =
        longer list i v h is ∙ ap (λ (r : Many). both r (chosen_in kind (view v ∷ []))) before
        ∙ ap (λ (r : Result Chosen RequestRefusal). both (Ok items) (with_chosen r (Ok []))) one

    chosen_stop : (list : List V) (i : ℕ) (v : V) (items : List Chosen) (e : RequestRefusal) → i < length list → v ≡ get_or list i v
        → chosen_in kind (map view (take i list)) ≡ Ok items → chosen_item kind (view v) ≡ Err e → chosen_in kind (map view list) ≡ Err e
    chosen_stop list i v items e h is before one =
        let upto : chosen_in kind (map view (take (i + 1) list)) ≡ Err e =
        longer list i v h is ∙ ap (λ (r : Many). both r (chosen_in kind (view v ∷ []))) before
        ∙ ap (λ (r : Result Chosen RequestRefusal). both (Ok items) (with_chosen r (Ok []))) one in
        ap (λ (xs : List V). chosen_in kind (map view xs)) (sym (take-append-drop (i + 1) list))
        ∙ ap (chosen_in kind) (map-append view (take (i + 1) list) (drop (i + 1) list))
        ∙ joined (map view (take (i + 1) list)) (map view (drop (i + 1) list))
        ∙ ap (λ (r : Many). both r (chosen_in kind (map view (drop (i + 1) list)))) upto

    -- the first that is refused
    pub chosen_refused : (list : List V) (i : ℕ) (v : V) (items : List Chosen) (e : RequestRefusal) → i < length list → v ≡ get_or list i v
        → chosen_in kind (map view (take i list)) ≡ Ok items → (e ≡ Common Memory) ⊎ (chosen_item kind (view v) ≡ Err e)
        → (e ≡ Common Memory) ⊎ (chosen_in kind (map view list) ≡ Err e)
    chosen_refused list i v items e h is before (inl memory) = inl memory
    chosen_refused list i v items e h is before (inr one) = inr (chosen_stop list i v items e h is before one)

  -- ---- the objects of a body

  one_more_has : (h : Result Chosen RequestRefusal) (t : Many) (items : List Chosen) → with_chosen h t ≡ Ok items → 1 ≤ length items
  one_more_has (Ok a) (Ok rest) items e = let same : items ≡ a ∷ rest = cc in rw same (omega arith)
  one_more_has (Ok a) (Err f) items e = absurd (cc)
  one_more_has (Err f) t items e = absurd (cc)

  -- a list that was checked gives an item
  pub some_chosen : (ds : List Data) (u : Unit {0}) (items : List Chosen) → list_checked ds ≡ Ok u → chosen_in kind ds ≡ Ok items → 1 ≤ length items
  some_chosen [] u items c e = absurd (cc)
  some_chosen (d ∷ ds) u items c e = one_more_has (chosen_item kind d) (chosen_in kind ds) items e

  items_all : (ds : List Data) → items_in as_data ds ≡ Ok ds
  items_all [] = refl
  items_all (d ∷ ds) = ap (λ (r : Result (List Data) Refusal). with_item (as_data d) r) (items_all ds)

  abbrev claim_from : List Data → Result (Unit {0}) Refusal → Result (Answered × List Data) Refusal
  claim_from ds (Ok u) = and_then (items_in as_data ds) (λ items. Ok (AsList, items))
  claim_from ds (Err e) = Err e

  same_claim : (ds : List Data) (r : Result (Unit {0}) Refusal) → list_checked ds ≡ r → list_claim as_data ds ≡ claim_from ds r
  same_claim ds (Ok u) h = ap (λ (r : Result (Unit {0}) Refusal). and_then r (λ _. and_then (items_in as_data ds) (λ items. Ok (AsList, items)))) h
  same_claim ds (Err e) h = ap (λ (r : Result (Unit {0}) Refusal). and_then r (λ _. and_then (items_in as_data ds) (λ items. Ok (AsList, items)))) h

  -- a list that is ill, and one that is well
  pub list_ill : (ds : List Data) (e : Refusal) → list_checked ds ≡ Err e → recorded kind (list_claim as_data ds) ≡ Err (Common e)
  list_ill ds e h = ap (recorded kind) (same_claim ds (Err e) h)

  well : (ds : List Data) (u : Unit {0}) → list_checked ds ≡ Ok u → recorded kind (list_claim as_data ds) ≡ answered_as AsList (chosen_in kind ds)
  well ds u h =
      ap (recorded kind) (same_claim ds (Ok u) h)
      ∙ ap (λ (r : Result (List Data) Refusal). recorded kind (and_then r (λ items. Ok (AsList, items)))) (items_all ds)

  pub list_made : (ds : List Data) (u : Unit {0}) (items : List Chosen) → list_checked ds ≡ Ok u → chosen_in kind ds ≡ Ok items → recorded kind (list_claim as_data ds) ≡ Ok (AsList, items)
  list_made ds u items h e = well ds u h ∙ ap (answered_as AsList) e

  pub list_refused : (ds : List Data) (u : Unit {0}) (e : RequestRefusal) → list_checked ds ≡ Ok u → (e ≡ Common Memory) ⊎ (chosen_in kind ds ≡ Err e)
      → (e ≡ Common Memory) ⊎ (recorded kind (list_claim as_data ds) ≡ Err e)
  list_refused ds u e h (inl memory) = inl memory
  list_refused ds u e h (inr is) = inr (well ds u h ∙ ap (answered_as AsList) is)

  -- one object, and none
  pub one_ill : (d : Data) → is_object d ≡ false → recorded kind (one_claim as_data d) ≡ Err (Common BadJson)
  one_ill d h = ap (λ (b : Bool). recorded kind (if b then and_then (as_data d) (λ a. Ok (AsOne, a ∷ [])) else Err BadJson)) h

  one_well : (d : Data) → is_object d ≡ true → recorded kind (one_claim as_data d) ≡ answered_as AsOne (with_chosen (chosen_item kind d) (Ok []))
  one_well d h = ap (λ (b : Bool). recorded kind (if b then and_then (as_data d) (λ a. Ok (AsOne, a ∷ [])) else Err BadJson)) h

  pub one_made : (d : Data) (item : Chosen) → is_object d ≡ true → chosen_item kind d ≡ Ok item → recorded kind (one_claim as_data d) ≡ Ok (AsOne, item ∷ [])
  one_made d item h e = one_well d h ∙ ap (λ (r : Result Chosen RequestRefusal). answered_as AsOne (with_chosen r (Ok []))) e

  pub one_refused : (d : Data) (e : RequestRefusal) → is_object d ≡ true → (e ≡ Common Memory) ⊎ (chosen_item kind d ≡ Err e)
      → (e ≡ Common Memory) ⊎ (recorded kind (one_claim as_data d) ≡ Err e)
  one_refused d e h (inl memory) = inl memory
  one_refused d e h (inr is) = inr (one_well d h ∙ ap (λ (r : Result Chosen RequestRefusal). answered_as AsOne (with_chosen r (Ok []))) is)

  -- ---- the body

  pub record_by_list : (body : List ℕ) (d : Data) (ds : List Data) (answer : Result (Answered × List Chosen) RequestRefusal) → IsJsonText body d → as_array d ≡ Some (items_of ds)
      → OrWant (λ r. recorded kind (list_claim as_data ds) ≡ r) answer → OrWant (IsRecord kind body) answer
  record_by_list body d ds answer h e c = go answer c
    where
      objects : IsClaimOf as_data body (list_claim as_data ds)
      objects = inl (d, h, ap (claim_by as_data d) e ∙ ap (list_claim as_data) (values_are ds))

      go : (answer : Result (Answered × List Chosen) RequestRefusal) → OrWant (λ r. recorded kind (list_claim as_data ds) ≡ r) answer → OrWant (IsRecord kind body) answer
      go (Ok a) c = (list_claim as_data ds, objects, c)
      go (Err f) (inl memory) = inl memory
      go (Err f) (inr c) = inr (list_claim as_data ds, objects, c)

  pub record_by_one : (body : List ℕ) (d : Data) (answer : Result (Answered × List Chosen) RequestRefusal) → IsJsonText body d → as_array d ≡ None
      → OrWant (λ r. recorded kind (one_claim as_data d) ≡ r) answer → OrWant (IsRecord kind body) answer
  record_by_one body d answer h e c = go answer c
    where
      objects : IsClaimOf as_data body (one_claim as_data d)
      objects = inl (d, h, ap (claim_by as_data d) e)

      go : (answer : Result (Answered × List Chosen) RequestRefusal) → OrWant (λ r. recorded kind (one_claim as_data d) ≡ r) answer → OrWant (IsRecord kind body) answer
      go (Ok a) c = (one_claim as_data d, objects, c)
      go (Err f) (inl memory) = inl memory
      go (Err f) (inr c) = inr (one_claim as_data d, objects, c)

  -- no JSON text
  pub record_of_none : (body : List ℕ) (e : Refusal) → (e ≡ Memory) ⊎ (IsNoJsonText body × (e ≡ BadJson)) → OrWant (IsRecord kind body) (Err (Common e))
  record_of_none body e (inl memory) = inl (ap Common memory)
  record_of_none body e (inr h) =
      inr (Err BadJson, inr (h.0, refl), ap (λ (x : Refusal). let bad : Result (Answered × List Chosen) RequestRefusal = Err (Common x) in bad) (sym h.1))

pub record_is_one : RecordIsOne
record_is_one kind body a b h k = sym h.2 ∙ ap (recorded kind) (one_answer as_data body h.0 k.0 h.1 k.1) ∙ k.2
