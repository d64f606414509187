-- What the pieces of a range are, by the book of ranges.
use Rattle.std.proofs.Common.{◌≡◌, ℕ, List, Option, Some, Result, Ok, Err, IfOk}
use Rattle.std.specs.List.{AllByRecursion}
use Rattle.inet_num.specs.Net.{Cidr}
use Rattle.ipam_data.specs.declared.range.IpRange.{IpRange}
use Rattle.ip_ranges.specs.Pieces.{ArePieces}

-- each of them is of the range's family
pub of_family : {V E : Type 0} (blocks_of : V → List Cidr) (r : Result V E) (found : Option IpRange) (range : IpRange) → found ≡ Some range → IfOk r (λ v. (row : IpRange) → found ≡ Some row → ArePieces row (blocks_of v))
    → IfOk r (λ v. AllByRecursion (λ b. b.family ≡ range.ends.start.family) (blocks_of v))
of_family blocks_of (Ok v) found range e h = (h range e).family
of_family blocks_of (Err x) found range e h = h
