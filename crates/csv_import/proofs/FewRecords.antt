-- A text has no more records than bytes, and one: each that is read takes a byte at least, or is the last.
use Rattle.std.proofs.Common.{◌≡◌, ℕ, ◌+◌, ◌≤◌, Bool, true, false, List, [], ◌∷◌, length, Option, Some, None, ap, ◌∙◌, subst, arith, if◌then◌else◌}
use Rattle.csv.specs.Machine.{Read, ends_at_end, field_after, fields_after, is_end, next_record, step}
use Rattle.csv.specs.Reading.{AreRecords, Reached, default_config, is_bom, strip_bom}
use Rattle.csv.specs.declared.parser.Config.{Config}
use Rattle.csv.specs.declared.parser.State.{State}
use Rattle.csv.specs.declared.parser.State.TheVariants as st

-- ---- what is left behind a record

either_left : (t : Bool) (one : Read) (other : Option Read) (p : Read) (n : ℕ) → (if t then Some one else other) ≡ Some p → length one.2 ≤ n → (other ≡ Some p → length p.2 ≤ n) → length p.2 ≤ n
either_left true one other p n e short rest = (let same : one ≡ p = cc in subst (λ (q : Read). length q.2 ≤ n) same short)
either_left false one other p n e short rest = rest e

last_left : (t : Bool) (one p : Read) → (if t then Some one else None) ≡ Some p → one ≡ p
last_left true one p e = cc
last_left false one p e = cc

last_read : (cfg : Config) (s : State) (fields : List (List ℕ)) (field : List ℕ) (p : Read) → next_record cfg s fields field [] ≡ Some p → (st.StartRecord ≡ p.1) × ([] ≡ p.2)
unfolding next_record
last_read cfg s fields field p e = (let same = last_left (ends_at_end s) _ p e in (ap (λ (q : Read). q.1) same, ap (λ (q : Read). q.2) same))

shorter : (cfg : Config) (s : State) (fields : List (List ℕ)) (field : List ℕ) (c : ℕ) (rest : List ℕ) (p : Read) → next_record cfg s fields field (c ∷ rest) ≡ Some p → length p.2 ≤ length rest
unfolding next_record
shorter cfg s fields field c [] p e =
    let to = (step cfg s c).0 in
    let act = (step cfg s c).1 in
    either_left (is_end act) (fields_after act fields field, to, []) (next_record cfg to (fields_after act fields field) (field_after act c field) []) p 0 e (omega arith)
    (λ f. subst (λ (xs : List ℕ). length xs ≤ 0) (last_read cfg to (fields_after act fields field) (field_after act c field) p f).1 (omega arith))
shorter cfg s fields field c (d ∷ more) p e =
    let to = (step cfg s c).0 in
    let act = (step cfg s c).1 in
    either_left (is_end act) (fields_after act fields field, to, d ∷ more) (next_record cfg to (fields_after act fields field) (field_after act c field) (d ∷ more)) p (length (d ∷ more)) e (omega arith)
    (λ f. let h = shorter cfg to (fields_after act fields field) (field_after act c field) d more p f in omega arith)

-- ---- all records

nothing_read : (cfg : Config) (p : Read) → next_record cfg st.StartRecord [] [] [] ≡ Some p → ⊥
unfolding next_record
nothing_read cfg p e = cc

few_reached : (cfg : Config) (s t : State) (xs ys : List ℕ) (rows : List (List (List ℕ))) → Reached cfg s xs rows t ys → length rows ≤ length xs + 1
unfolding Reached
few_reached cfg s t xs ys [] h = omega arith
few_reached cfg s t [] ys (r ∷ []) h = omega arith
few_reached cfg s t [] ys (r ∷ q ∷ rows) h =
    let last = last_read cfg s [] [] h.0 h.1 in
    let next = h.3.1 in
    absurd (nothing_read cfg h.3.0 (ap (λ (a : State). next_record cfg a [] [] []) last.0 ∙ ap (λ (zs : List ℕ). next_record cfg h.0.1 [] [] zs) last.1 ∙ next))
few_reached cfg s t (x ∷ xs) ys (r ∷ rows) h =
    let rest = few_reached cfg h.0.1 t h.0.2 ys rows h.3 in
    let less = shorter cfg s [] [] x xs h.0 h.1 in
    omega arith

strip_shorter : (xs : List ℕ) → length (strip_bom xs) ≤ length xs
unfolding strip_bom
strip_shorter [] = omega arith
strip_shorter (a ∷ []) = omega arith
strip_shorter (a ∷ b ∷ []) = omega arith
strip_shorter (a ∷ b ∷ c ∷ rest) = go (is_bom a b c)
  where
    go : (t : Bool) → length (if t then rest else a ∷ b ∷ c ∷ rest) ≤ length (a ∷ b ∷ c ∷ rest)
    go true = omega arith
    go false = omega arith

pub few_records : (text : List ℕ) (rows : List (List (List ℕ))) → AreRecords default_config st.StartRecord (strip_bom text) rows → length rows ≤ length text + 1
few_records text rows h =
    let few = few_reached default_config st.StartRecord h.0 (strip_bom text) h.1 rows h.2 in
    let short = strip_shorter text in
    omega arith
