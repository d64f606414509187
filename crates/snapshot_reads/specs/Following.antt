-- The rule of the two copies: what holds of the copy that is shown, and of what the writer and the readers know.
use Rattle.std.specs.Prelude.{◌≡◌, ℕ, List, length, fold, Option, Some}
use mathlib.Core.Option.{some}
use mathlib.Core.List.{IsPrefix}
use lib.ListN.{get_elem?}
use Rattle.snapshot_reads.specs.declared.copies.Twin.{Twin}
use Rattle.snapshot_reads.specs.declared.copies.Known.{Known}

module _ {K L C : Type 0} where
  -- what is known fits the copy: the lists before the first change are these, and the known history begins the copy's
  pub record Fits (start : L) (x : Twin K C) (k : Known L C) : Type 0 where
    pub opening : k.opening.value ≡ start
    pub book : k.seen.book ≡ x.seen.book
    pub seen : IsPrefix k.seen.log x.seen.log

  -- the rule
  pub record Follows (lists : K → L) (after : L → C → L) (x : Twin K C) (views : List (Option (Known L C))) : Type 0 where
    -- the lists before the first change
    pub opening : L
    -- the copy counts its changes
    pub count : x.count ≡ length x.seen.log
    -- the copy is what the changes make of these lists
    pub lists_are : lists x.value ≡ fold after opening x.seen.log
    -- what anybody knows fits the copy
    pub each : (seat : ℕ) (k : Known L C) → get_elem? views seat ≡ some (Some k) → Fits opening x k

  -- the writer knows the lists and the history of the copy that it shows
  abbrev pub HasBegun : (K → L) → Option (Known L C) → Twin K C → Twin K C → Option (Known L C) → Type 0
  HasBegun lists v x y w = w ≡ Some (record { opening = record { marker = record {}; value = lists y.value }; seen = y.seen })

  -- the writer knows the history of the copy that it shows
  abbrev pub HasShown : Option (Known L C) → Twin K C → Twin K C → Option (Known L C) → Type 0
  HasShown v x y w = (k : Known L C) → v ≡ Some k → w ≡ Some (record k { seen = y.seen })

  -- what a reader that knew k knows of the copy that it took
  pub record IsSight (lists : K → L) (after : L → C → L) (k : Known L C) (x : Twin K C) (w : Option (Known L C)) : Type 0 where
    pub view : w ≡ Some (record k { seen = x.seen })
    pub book : k.seen.book ≡ x.seen.book
    pub more : IsPrefix k.seen.log x.seen.log
    pub count : x.count ≡ length x.seen.log
    pub lists_are : lists x.value ≡ fold after k.opening.value x.seen.log

  -- a reader took the copy that is shown
  abbrev pub HasSeen : (K → L) → (L → C → L) → Option (Known L C) → Twin K C → Twin K C → Option (Known L C) → Type 0
  HasSeen lists after v x y w = (k : Known L C) → v ≡ Some k → IsSight lists after k x w
