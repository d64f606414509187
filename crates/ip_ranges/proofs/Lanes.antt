-- Each table and family has a lane of its own.
use Rattle.std.proofs.Common.{◌≡◌, ◌≢◌, ℕ, ◌+◌, ◌*◌, ◌==◌, ◌&&◌, Bool, true, false, refl, sym, ◌∙◌, arith}
use Rattle.std.proofs.lemmas.Bool.Decides.{nat_tests}
use Rattle.inet_num.specs.declared.Family.{Family}
use Rattle.inet_num.specs.declared.Family.TheVariants.{V4, V6}
use Rattle.inet_num.specs.Blocks.{same_family}
use Rattle.ipam_data.specs.declared.kinds.Table.{Table}
use Rattle.ipam_data.specs.declared.kinds.Table.TheVariants.{Global, Of}
use Rattle.ipam_data.specs.Tables.{same_table}
use Rattle.placed_book.proofs.RowPlaces.{eq_true, eq_false}
use Rattle.ip_ranges.specs.Tracks.{lane_of}

and_true : (b : Bool) → (b && true) ≡ b
and_true true = refl
and_true false = refl

and_false : (b : Bool) → (b && false) ≡ false
and_false true = refl
and_false false = refl

twice : (n m : ℕ) → (2 * (n + 1) == 2 * (m + 1)) ≡ (n == m)
twice n m = go (n == m) refl where
  go : (s : Bool) → (n == m) ≡ s → (2 * (n + 1) == 2 * (m + 1)) ≡ s
  go true s = let e : n ≡ m = grind (arith, nat_tests, s) in eq_true _ _ (omega arith)
  go false s = let e : n ≢ m = grind (arith, nat_tests, s) in eq_false _ _ (omega arith)

twice_and_one : (n m : ℕ) → (2 * (n + 1) + 1 == 2 * (m + 1) + 1) ≡ (n == m)
twice_and_one n m = go (n == m) refl where
  go : (s : Bool) → (n == m) ≡ s → (2 * (n + 1) + 1 == 2 * (m + 1) + 1) ≡ s
  go true s = let e : n ≡ m = grind (arith, nat_tests, s) in eq_true _ _ (omega arith)
  go false s = let e : n ≢ m = grind (arith, nat_tests, s) in eq_false _ _ (omega arith)

-- two lanes are one just where table and family are
pub lane_same : (a b : Table) (f g : Family) → (lane_of a f == lane_of b g) ≡ (same_table a b && same_family f g)
lane_same Global Global V4 V4 = refl
lane_same Global Global V4 V6 = refl
lane_same Global Global V6 V4 = refl
lane_same Global Global V6 V6 = refl
lane_same Global (Of m) V4 V4 = eq_false 0 (2 * (m + 1)) (omega arith)
lane_same Global (Of m) V4 V6 = eq_false 0 (2 * (m + 1) + 1) (omega arith)
lane_same Global (Of m) V6 V4 = eq_false 1 (2 * (m + 1)) (omega arith)
lane_same Global (Of m) V6 V6 = eq_false 1 (2 * (m + 1) + 1) (omega arith)
lane_same (Of n) Global V4 V4 = eq_false (2 * (n + 1)) 0 (omega arith)
lane_same (Of n) Global V4 V6 = eq_false (2 * (n + 1)) 1 (omega arith)
lane_same (Of n) Global V6 V4 = eq_false (2 * (n + 1) + 1) 0 (omega arith)
lane_same (Of n) Global V6 V6 = eq_false (2 * (n + 1) + 1) 1 (omega arith)
lane_same (Of n) (Of m) V4 V4 = twice n m ∙ sym (and_true (n == m))
lane_same (Of n) (Of m) V4 V6 = eq_false (2 * (n + 1)) (2 * (m + 1) + 1) (omega arith) ∙ sym (and_false (n == m))
lane_same (Of n) (Of m) V6 V4 = eq_false (2 * (n + 1) + 1) (2 * (m + 1)) (omega arith) ∙ sym (and_false (n == m))
lane_same (Of n) (Of m) V6 V6 = twice_and_one n m ∙ sym (and_true (n == m))
