-- Members that a call makes, one for each number and name: what they are, and that they are stored beside those that were there.
use Rattle.std.proofs.Common.{◌≡◌, ◌⊎◌, ◌↔◌, ℕ, zero, suc, ◌+◌, ◌<◌, ◌≤◌, ◌==◌, Bool, true, false, Contains, List, [], ◌∷◌, length, fold, Some, refl, ap, sym, ◌∙◌, subst, arith, if◌then◌else◌, inl, inr}
use Rattle.std.specs.List.{slice_get}
use Rattle.ipam_data.specs.RowList.{RowList, appended, row_at, with_row}
use Rattle.ipam_data.proofs.RowLists.{contains_cases, contains_head, contains_rest, contains_with, eq_false}
use Rattle.number_pools.specs.declared.rows.Member.{Member}
use Rattle.number_pools.specs.Rows.{Pools, member_id}
use Rattle.number_pools.specs.Lawful.{IsLawfulPools}
use Rattle.number_pools.specs.Steps.{made_members}
use Rattle.claim_laws.proofs.Lists.{contains_place}
use Rattle.claim_laws.proofs.Withstand.{id_under, with_stays}
use Rattle.number_laws.specs.Claims.{HaveNewIds}

-- member k has number k, name k and the id k past the first
pub record IsRow (range next : ℕ) (ns : List ℕ) (names : List (List ℕ)) (k : ℕ) (x : Member) : Type 0 where
  pub number : ℕ
  pub picked : slice_get ns k ≡ Some number
  pub has : x.number ≡ number
  pub name : List ℕ
  pub named : slice_get names k ≡ Some name
  pub says : x.name ≡ name
  pub own : x.range ≡ range
  pub id_is : x.id ≡ next + k

module _ (range : ℕ) where
  abbrev pub one : ℕ → ℕ → List ℕ → Member
  one next n name = record { id = next; range = range; number = n; name = name }

  pub row_of : (next : ℕ) (ns : List ℕ) (names : List (List ℕ)) (k : ℕ) (x : Member) → slice_get (made_members next range ns names) k ≡ Some x → IsRow range next ns names k x
  row_of next [] names k x q = cc
  row_of next (n ∷ ns) [] k x q = cc
  row_of next (n ∷ ns) (name ∷ names) zero x q =
      let e : one next n name ≡ x = cc in
      subst (IsRow range next (n ∷ ns) (name ∷ names) zero) e (record { number = n; picked = refl; has = refl; name = name; named = refl; says = refl; own = refl; id_is = omega arith })
  row_of next (n ∷ ns) (name ∷ names) (suc k) x q =
      let r = row_of (next + 1) ns names k x q in
      let i = r.id_is in
      record { number = r.number; picked = r.picked; has = r.has; name = r.name; named = r.named; says = r.says; own = r.own; id_is = omega arith }

  pub many_made : (next : ℕ) (ns : List ℕ) (names : List (List ℕ)) → length names ≤ length ns → length (made_members next range ns names) ≡ length names
  many_made next [] [] l = refl
  many_made next [] (name ∷ names) l = absurd (omega arith)
  many_made next (n ∷ ns) [] l = refl
  many_made next (n ∷ ns) (name ∷ names) l = ap suc (many_made (next + 1) ns names (omega arith))

  -- ---- they are stored

  put_there : (xs : List Member) (m : Member) → Contains (with_row member_id xs m) m
  put_there [] m = contains_head m []
  put_there (x ∷ xs) m = go (x.id == m.id) (put_there xs m)
    where
      go : (t : Bool) → Contains (with_row member_id xs m) m → Contains (if t then m ∷ xs else x ∷ with_row member_id xs m) m
      go true ih = contains_head m xs
      go false ih = contains_rest x m (with_row member_id xs m) ih

  old_stay : (kept : RowList Member) (next : ℕ) (ns : List ℕ) (names : List (List ℕ)) (x : Member) → x.id < next → Contains kept.rows x
      → Contains (fold (appended member_id) kept (made_members next range ns names)).rows x
  old_stay kept next [] names x l c = c
  old_stay kept next (n ∷ ns) [] x l c = c
  old_stay kept next (n ∷ ns) (name ∷ names) x l c =
      old_stay (appended member_id kept (one next n name)) (next + 1) ns names x (omega arith) (with_stays member_id kept.rows (one next n name) x c (eq_false next x.id (λ q. omega arith)))

  new_are : (kept : RowList Member) (next : ℕ) (ns : List ℕ) (names : List (List ℕ)) (x : Member) → Contains (made_members next range ns names) x
      → Contains (fold (appended member_id) kept (made_members next range ns names)).rows x
  new_are kept next [] names x c = let l = c.1 in absurd (omega arith)
  new_are kept next (n ∷ ns) [] x c = let l = c.1 in absurd (omega arith)
  new_are kept next (n ∷ ns) (name ∷ names) x c = elim (contains_cases (one next n name) x (made_members (next + 1) range ns names) c) [
    | inl e ↦ subst (λ (y : Member). Contains (fold (appended member_id) (appended member_id kept (one next n name)) (made_members (next + 1) range ns names)).rows y) e
        (old_stay (appended member_id kept (one next n name)) (next + 1) ns names (one next n name) (omega arith) (put_there kept.rows (one next n name)))
    | inr d ↦ new_are (appended member_id kept (one next n name)) (next + 1) ns names x d
  ]

pub are_these : (kept : RowList Member) (rows : List Member) (x : Member) → Contains (fold (appended member_id) kept rows).rows x → Contains kept.rows x ⊎ Contains rows x
are_these kept [] x c = inl c
are_these kept (m ∷ ms) x c = elim (are_these (appended member_id kept m) ms x c) [
  | inl d ↦ elim (contains_with member_id kept.rows m x d) [ inl e ↦ inr (0, omega arith, e) | inr b ↦ inl b ]
  | inr d ↦ inr (contains_rest m x ms d)
]

module _ (s : Pools) (range : ℕ) (ns : List ℕ) (names : List (List ℕ)) (h : IsLawfulPools s) where
  abbrev pub made : List Member
  made = made_members s.members.next range ns names

  pub row_at_place : (x : Member) → Contains made x → (k : ℕ) × IsRow range s.members.next ns names k x
  row_at_place x c = let p = contains_place made x c in (p.0, row_of range s.members.next ns names p.0 x p.1)

  pub made_new : HaveNewIds s made
  made_new = record {
    next = λ x c. (let w = row_at_place x c in let i = w.1.id_is in omega arith);
    above = λ y c. id_under member_id s.members.next s.members.rows y h.members.below c;
    rise = λ i j x y p q l. (
        let a = (row_of range s.members.next ns names i x p).id_is in
        let b = (row_of range s.members.next ns names j y q).id_is in
        omega arith);
  }

  pub made_each : (k : ℕ) (name : List ℕ) (x : Member) → slice_get names k ≡ Some name → slice_get made k ≡ Some x → (x.name ≡ name) × (x.range ≡ range)
  made_each k name x p q =
      let w = row_of range s.members.next ns names k x q in
      let e : Some w.name ≡ Some name = sym w.named ∙ p in
      let same : w.name ≡ name = cc in
      (w.says ∙ same, w.own)

  pub made_number : (k n : ℕ) (x : Member) → slice_get ns k ≡ Some n → slice_get made k ≡ Some x → x.number ≡ n
  made_number k n x p q =
      let w = row_of range s.members.next ns names k x q in
      let e : Some w.number ≡ Some n = sym w.picked ∙ p in
      let same : w.number ≡ n = cc in
      w.has ∙ same

  pub made_stored : (x : Member) → Contains (fold (appended member_id) s.members made).rows x ↔ (Contains s.members.rows x ⊎ Contains made x)
  made_stored x = (
    are_these s.members made x,
    (λ c. elim c [
      | inl d ↦ old_stay range s.members s.members.next ns names x (id_under member_id s.members.next s.members.rows x h.members.below d) d
      | inr d ↦ new_are range s.members s.members.next ns names x d
    ]),
  )
