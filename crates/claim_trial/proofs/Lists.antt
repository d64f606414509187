-- Lists that tests build, one item after another.
use Rattle.std.proofs.Common.{◌≡◌, ℕ, ◌+◌, ◌≤◌, List, [], ◌∷◌, ◌++◌, sym, subst, IsPermutation}
use Rattle.std.specs.List.{AllByRecursion}
use Rattle.std.proofs.lemmas.List.{append-nil, append_assoc}
use Rattle.std.proofs.lemmas.List.Elements.{All-from_recursion, recursion_from_All}
use Rattle.std.proofs.lemmas.List.Sorted.{All-permutation}
use Rattle.inet_num.specs.declared.Span.{Span}
use Rattle.inet_num.specs.Net.{width_of, Cidr}
use Rattle.block_space.specs.Usable.{AreApart, AreSingles}

-- what holds of each holds of one more
pub all_more : {X : Type 0} (P : X → Type 0) (xs : List X) (y : X) → AllByRecursion P xs → P y → AllByRecursion P (xs ++ y ∷ [])
all_more P [] y h k = (k, tt)
all_more P (x ∷ xs) y h k = (h.0, all_more P xs y h.1 k)

-- a space of single addresses with one more
pub one_more_single : (b : Cidr) (old new : List Cidr) → AreSingles old → b.len ≡ width_of b.family → IsPermutation (b ∷ old) new → AreSingles new
one_more_single b old new h single put =
    recursion_from_All (λ (c : Cidr). c.len ≡ width_of c.family) new (All-permutation (λ (c : Cidr). c.len ≡ width_of c.family) (b ∷ old) new put (All-from_recursion (λ (c : Cidr). c.len ≡ width_of c.family) (b ∷ old) (single, h)))

-- spans in order with one more behind them
pub one_more_apart : (from : ℕ) (spans : List Span) (span : Span) → ((more : List Span) → AreApart from more → AreApart 0 (spans ++ more)) → from ≤ span.first.value → span.first.value ≤ span.last.value
    → (more : List Span) → AreApart (span.last.value + 1) more → AreApart 0 ((spans ++ span ∷ []) ++ more)
one_more_apart from spans span h low order more rest = subst (AreApart 0) (sym (append_assoc spans (span ∷ []) more)) (h (span ∷ more) (low, order, rest))

pub all_apart : (from : ℕ) (spans : List Span) → ((more : List Span) → AreApart from more → AreApart 0 (spans ++ more)) → AreApart 0 spans
all_apart from spans h = subst (AreApart 0) (append-nil spans) (h [] tt)
