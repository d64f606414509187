-- Chosen numbers that no check refuses are free numbers of their range, each once.
use Rattle.std.proofs.Common.{◌≡◌, ◌==◌, ◌&&◌, ◌||◌, ◌++◌, ℕ, Bool, true, false, nat_le, List, [], ◌∷◌, find, Some, None, refl, sym, ◌∙◌, arith, if◌then◌else◌}
use Rattle.std.specs.List.{list_any}
use Rattle.std.proofs.lemmas.Bool.Decides.{nat_tests}
use Rattle.ipam_data.specs.RowList.{least}
use Rattle.ipam_data.proofs.RowLists.{eq_true, find_none}
use Rattle.ipam_data.proofs.Kept.{none_from_map}
use Rattle.ipam_data.proofs.Verdicts.{none_head, none_rest, test_holds}
use Rattle.number_pools.specs.declared.calls.PoolRefusal.TheVariants.{Outside, Taken, Repeated}
use Rattle.number_pools.specs.declared.rows.NumberRange.{NumberRange}
use Rattle.number_pools.specs.Rows.{Pools, member_id}
use Rattle.number_pools.specs.Free.{holds, pool_of}
use Rattle.number_pools.specs.Steps.{Check, is_number_taken, is_outside, is_repeated, unfit}
use Rattle.number_pools.proofs.Given.{AreOpen, IsFree, IsNoneOf, none_hold}

-- none of the later numbers is one of those before
abbrev pub AreNew : List ℕ → List ℕ → Type 0
AreNew before [] = Unit {0}
AreNew before (n ∷ ns) = (list_any (λ m. m == n) before ≡ false) × AreNew before ns

any_of_two : (p : ℕ → Bool) (before : List ℕ) (n : ℕ) → list_any p (before ++ n ∷ []) ≡ false → (list_any p before ≡ false) × (p n ≡ false)
any_of_two p [] n e = go (p n) refl e
  where
    go : (t : Bool) → p n ≡ t → (t || false) ≡ false → (false ≡ false) × (p n ≡ false)
    go true t e = cc
    go false t e = (refl, t)
any_of_two p (m ∷ ms) n e = go (p m) e (any_of_two p ms n)
  where
    go : (t : Bool) → (t || list_any p (ms ++ n ∷ [])) ≡ false → (list_any p (ms ++ n ∷ []) ≡ false → (list_any p ms ≡ false) × (p n ≡ false))
        → ((t || list_any p ms) ≡ false) × (p n ≡ false)
    go true e ih = cc
    go false e ih = ih e

-- new behind one number more: new behind those before it, and other than that one
new_behind : (before : List ℕ) (n : ℕ) (ns : List ℕ) → AreNew (before ++ n ∷ []) ns → AreNew before ns
new_behind before n [] h = tt
new_behind before n (m ∷ ms) h = ((any_of_two (λ x. x == m) before n h.0).0, new_behind before n ms h.1)

other_than : (ranges : List NumberRange) (before : List ℕ) (n : ℕ) (ns : List ℕ) → AreNew (before ++ n ∷ []) ns → IsNoneOf ranges n ns
other_than ranges before n [] h = tt
other_than ranges before n (m ∷ ms) h =
    let f = (any_of_two (λ x. x == m) before n h.0).1 in
    ((λ e. let t : true ≡ false = sym (eq_true n m e) ∙ f in cc), other_than ranges before n ms h.1)

both : (a b : Bool) → (a && b) ≡ true → (a ≡ true) × (b ≡ true)
both true b e = (refl, e)
both false b e = cc

not_any : (t : Bool) (n : ℕ) → (let c : Check = if t then Some (Repeated n) else None in c) ≡ None → t ≡ false
not_any true n e = cc
not_any false n e = refl

pub are_open : (s : Pools) (range : NumberRange) (before ns : List ℕ) → unfit s range before ns ≡ None → AreOpen s.ranges.rows s.members.rows range ns × AreNew before ns
are_open s range before [] e = (tt, tt)
are_open s range before (n ∷ ns) e =
    let out = is_outside range n in
    let taken = is_number_taken s range n in
    let again = is_repeated before n in
    let rest = unfit s range (before ++ n ∷ []) ns in
    let e1 = none_rest out (taken ∷ again ∷ rest ∷ []) e in
    let e2 = none_rest taken (again ∷ rest ∷ []) e1 in
    let e3 = none_rest again (rest ∷ []) e2 in
    let within = both (nat_le range.first n) (nat_le n range.last) (test_holds (nat_le range.first n && nat_le n range.last) (Outside n) (none_head out (taken ∷ again ∷ rest ∷ []) e)) in
    let low = within.0 in
    let high = within.1 in
    let test = holds s.ranges.rows (pool_of range) n in
    let none = none_from_map member_id (find test s.members.rows) (none_from_map (Taken n) (least member_id test s.members.rows) (none_head taken (again ∷ rest ∷ []) e1)) in
    let free : IsFree s.ranges.rows s.members.rows (pool_of range) n = none_hold s.ranges.rows s.members.rows (pool_of range) n (λ x c. find_none test s.members.rows x none c) in
    let later = are_open s range (before ++ n ∷ []) ns (none_head rest [] e3) in (
      (grind (arith, nat_tests), grind (arith, nat_tests), free, other_than s.ranges.rows before n ns later.1, later.0),
      (not_any (list_any (λ m. m == n) before) n (none_head again (rest ∷ []) e2), new_behind before n ns later.1),
    )
