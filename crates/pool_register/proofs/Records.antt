-- Chosen numbers that are to be recorded: what refuses them, and the members that are made of them.
use Rattle.std.proofs.Common.{◌≡◌, ℕ, zero, suc, ◌+◌, ◌≤◌, ◌<◌, ◌==◌, ◌||◌, Bool, List, [], ◌∷◌, ◌++◌, drop, get_or, length, take, Some, None, refl, ap, sym, ◌∙◌, subst, arith, if◌then◌else◌}
use Rattle.std.specs.List.{list_any}
use Rattle.std.proofs.lemmas.List.{length-map, map-append, take_more}
use Rattle.ipam_data.specs.Checks.{first as first_of}
use Rattle.ipam_data.proofs.Verdicts.{none_rest}
use Rattle.number_pools.specs.declared.rows.PoolKind.{PoolKind}
use Rattle.number_pools.specs.declared.rows.NumberRange.{NumberRange}
use Rattle.number_pools.specs.declared.rows.Member.{Member}
use Rattle.number_pools.specs.declared.calls.Chosen.{Chosen}
use Rattle.number_pools.specs.declared.calls.Quantity.TheVariants.{Items}
use Rattle.number_pools.specs.declared.calls.TheConstants.{MOST_CLAIMED}
use Rattle.number_pools.specs.declared.calls.PoolRefusal.{PoolRefusal}
use Rattle.number_pools.specs.declared.calls.PoolRefusal.TheVariants.{Absent, Repeated}
use Rattle.number_pools.specs.declared.calls.PoolCall.TheVariants as call
use Rattle.number_pools.specs.declared.calls.PoolReply.TheVariants.{Claimed, Refused}
use Rattle.number_pools.specs.Rows.{Pools}
use Rattle.number_pools.specs.Steps.{Check, is_number_taken, is_outside, is_repeated, made_members, member_limits, names_of, numbers_of, plain_pool_step, range_at, record_checks, record_step, recorded, too_many, unfit, with_record}
use Rattle.pool_register.specs.declared.planned.Update.TheVariants.{Claim}
use Rattle.pool_register.specs.declared.planned.Planned.TheVariants.{Change}
use Rattle.pool_register.specs.Planned.{IsPlannedAs}
use Rattle.pool_register.proofs.Plans.{can_make, made_length, spent_each, unless_none, unless_some}

-- ---- the items one after another

any_number : (items : List Chosen) (n : ℕ) → list_any (λ m. m == n) (numbers_of items) ≡ list_any (λ (c : Chosen). c.number == n) items
any_number [] n = refl
any_number (x ∷ xs) n = ap (λ (t : Bool). (x.number == n) || t) (any_number xs n)

-- an earlier item has the number
pub repeated_is : (items : List Chosen) (n : ℕ) (b : Bool) → b ≡ list_any (λ c. c.number == n) items → (let c : Check = if b then Some (Repeated n) else None in c) ≡ is_repeated (numbers_of items) n
repeated_is items n b e =
    ap (λ (t : Bool). let c : Check = if t then Some (Repeated n) else None in c) (e ∙ sym (any_number items n))

-- a check of an item refuses, whatever follows
stop_at : (a b c rest : Check) (why : PoolRefusal) → first_of (a ∷ b ∷ c ∷ []) ≡ Some why → first_of (a ∷ b ∷ c ∷ rest ∷ []) ≡ Some why
stop_at (Some x) b c rest why e = e
stop_at None (Some x) c rest why e = e
stop_at None None (Some x) rest why e = e
stop_at None None None rest why e = cc

-- the numbers from a place on begin with the one that stands there
from_place : (items : List Chosen) (at : ℕ) (c : Chosen) → at < length items → numbers_of (drop at items) ≡ (get_or items at c).number ∷ numbers_of (drop (suc at) items)
from_place [] at c l = absurd (omega arith)
from_place (x ∷ xs) zero c l = refl
from_place (x ∷ xs) (suc at) c l = from_place xs at c (omega arith)

to_place : (items : List Chosen) (at : ℕ) (c : Chosen) → at < length items → numbers_of (take (at + 1) items) ≡ numbers_of (take at items) ++ (get_or items at c).number ∷ []
to_place items at c l = ap numbers_of (take_more items at c l) ∙ map-append (λ (x : Chosen). x.number) (take at items) (get_or items at c ∷ [])

named_to_place : (items : List Chosen) (at : ℕ) (c : Chosen) → at < length items → names_of (take (at + 1) items) ≡ names_of (take at items) ++ (get_or items at c).name ∷ []
named_to_place items at c l = ap names_of (take_more items at c l) ∙ map-append (λ (x : Chosen). x.name) (take at items) (get_or items at c ∷ [])

-- one member more
made_last : (id range : ℕ) (ns : List ℕ) (names : List (List ℕ)) (n k : ℕ) (name : List ℕ) → length ns ≡ k → length names ≡ k
    → made_members id range (ns ++ n ∷ []) (names ++ name ∷ []) ≡ made_members id range ns names ++ record { id = id + k; range = range; number = n; name = name } ∷ []
made_last id range [] [] n k name e f =
    let z : id ≡ id + k = omega arith in ap (λ (j : ℕ). let o : Member = record { id = j; range = range; number = n; name = name } in o ∷ []) z
made_last id range [] (y ∷ ys) n k name e f = absurd (omega arith)
made_last id range (x ∷ xs) [] n k name e f = absurd (omega arith)
made_last id range (x ∷ xs) (y ∷ ys) n zero name e f = absurd (omega arith)
made_last id range (x ∷ xs) (y ∷ ys) n (suc k) name e f =
    let j : id + 1 + k ≡ id + suc k = omega arith in
    ap (λ (ms : List Member). record { id = id; range = range; number = x; name = y } ∷ ms)
    (made_last (id + 1) range xs ys n k name (omega arith) (omega arith)
    ∙ ap (λ (i : ℕ). let o : Member = record { id = i; range = range; number = n; name = name } in made_members (id + 1) range xs ys ++ o ∷ []) j)

pub record_row : (id range : ℕ) (items : List Chosen) (k next : ℕ) (c d : Chosen) (m : Member) (out new : List Member) → k < length items → c ≡ get_or items k d
    → m ≡ record { id = next; range = range; number = c.number; name = c.name } → new ≡ out ++ m ∷ [] → out ≡ made_members id range (numbers_of (take k items)) (names_of (take k items)) → next ≡ id + k
    → new ≡ made_members id range (numbers_of (take (k + 1) items)) (names_of (take (k + 1) items))
record_row id range items k next c d m out new l is row p o e =
    let many : length (take k items) ≡ k = taken items k (omega arith) in
    let g = get_or items k d in
    let last : Member = record { id = id + k; range = range; number = g.number; name = g.name } in
    let same : m ≡ last = row ∙ (λ i. record { id = e i; range = range; number = (is i).number; name = (is i).name }) in
    p ∙ (λ i. o i ++ same i ∷ [])
    ∙ sym (made_last id range (numbers_of (take k items)) (names_of (take k items)) g.number k g.name
    (length-map (take k items) (λ (x : Chosen). x.number) ∙ many) (length-map (take k items) (λ (x : Chosen). x.name) ∙ many))
    ∙ (λ i. made_members id range (sym (to_place items k d l) i) (sym (named_to_place items k d l) i))
  where
    taken : (xs : List Chosen) (n : ℕ) → n ≤ length xs → length (take n xs) ≡ n
    taken xs zero l = refl
    taken [] (suc n) l = absurd (omega arith)
    taken (x ∷ xs) (suc n) l = (let h = taken xs n (omega arith) in omega arith)

module _ (s : Pools) (range : NumberRange) (items : List Chosen) where
  -- what is refused of the items from a place on
  abbrev pub unfit_from : ℕ → Check
  unfit_from at = unfit s range (numbers_of (take at items)) (numbers_of (drop at items))

  -- the checks of one number behind those before a place
  abbrev pub number_checks : ℕ → ℕ → List Check
  number_checks at n = is_outside range n ∷ is_number_taken s range n ∷ is_repeated (numbers_of (take at items)) n ∷ []

  opened : (at : ℕ) (c : Chosen) → at < length items
      → unfit_from at ≡ first_of (is_outside range (get_or items at c).number ∷ is_number_taken s range (get_or items at c).number ∷ is_repeated (numbers_of (take at items)) (get_or items at c).number ∷ unfit_from (at + 1) ∷ [])
  opened at c l =
      let n = (get_or items at c).number in
      let q : suc at ≡ at + 1 = omega arith in
      ap (λ (ns : List ℕ). unfit s range (numbers_of (take at items)) ns) (from_place items at c l)
      ∙ ap (λ (before : List ℕ). first_of (is_outside range n ∷ is_number_taken s range n ∷ is_repeated (numbers_of (take at items)) n ∷ unfit s range before (numbers_of (drop (suc at) items)) ∷ [])) (sym (to_place items at c l))
      ∙ ap (λ (k : ℕ). first_of (is_outside range n ∷ is_number_taken s range n ∷ is_repeated (numbers_of (take at items)) n ∷ unfit s range (numbers_of (take (at + 1) items)) (numbers_of (drop k items)) ∷ [])) q

  pub stops : (at : ℕ) (d : Chosen) (why : PoolRefusal) → at < length items → first_of (number_checks at (get_or items at d).number) ≡ Some why → unfit_from at ≡ Some why
  stops at d why l e =
      opened at d l ∙ stop_at (is_outside range (get_or items at d).number) (is_number_taken s range (get_or items at d).number) (is_repeated (numbers_of (take at items)) (get_or items at d).number) (unfit_from (at + 1)) why e

  -- ---- the plan

  pub record_refused : (why : PoolRefusal) → first_of (record_checks s range items) ≡ Some why → record_step s range.id items (Some range) ≡ (s, Refused why)
  record_refused why e = unless_some (first_of (record_checks s range items)) why s (with_record s range items) (Claimed (recorded s range items)) e

  pub record_made : (made : List Member) → first_of (record_checks s range items) ≡ None → made ≡ recorded s range items → IsPlannedAs s (record_step s range.id items (Some range)) (Change (Claim made))
  record_made made e m =
      let n = length items in
      let numbers : length (numbers_of items) ≡ n = length-map items (λ (c : Chosen). c.number) in
      let names : length (names_of items) ≡ n = length-map items (λ (c : Chosen). c.name) in
      let e1 = none_rest (too_many Items MOST_CLAIMED n) (unfit s range [] (numbers_of items) ∷ member_limits s n) e in
      let e2 = none_rest (unfit s range [] (numbers_of items)) (member_limits s n) e1 in
      let many : length (recorded s range items) ≡ n = made_length s.members.next range.id (numbers_of items) (names_of items) (numbers ∙ sym names) ∙ names in
      subst (λ (ms : List Member). IsPlannedAs s (record_step s range.id items (Some range)) (Change (Claim ms))) (sym m) (
        unless_none (first_of (record_checks s range items)) s (with_record s range items) (Claimed (recorded s range items)) e ∙ spent_each s (recorded s range items) n many,
        can_make s range.id (numbers_of items) (names_of items) (numbers ∙ sym names) (ap (λ (k : ℕ). first_of (member_limits s k)) names ∙ e2),
      )

pub record_absent : (s : Pools) (kind : PoolKind) (id : ℕ) (list : Bool) (items : List Chosen) → range_at s.ranges.rows kind id ≡ None
    → plain_pool_step s (call.Record kind id list items) ≡ (s, Refused (Absent id))
record_absent s kind id list items e = ap (record_step s id items) e
