-- Spaces of hosts, in which an address is its own block: which addresses they have. And the addresses of a range that may be given out.
use Rattle.std.specs.Prelude.{◌≡◌, ℕ, Bool, List, [], if◌then◌else◌}
use Rattle.inet_num.specs.Net.{Cidr, HasAddress}
use Rattle.inet_num.specs.Free.{is_taken}
use Rattle.ipam_data.specs.declared.range.IpRange.{IpRange}
use Rattle.ipam_data.specs.Claims.{numbers_in}

-- of the addresses of a block the space has those that pass the test
pub record HasHosts (within : Cidr) (hosted : ℕ → Bool) (held : List Cidr) : Type 0 where
  pub each : (a : ℕ) → HasAddress within a → is_taken held a ≡ hosted a

-- the space has just the addresses that pass the test
pub record HasJust (hosted : ℕ → Bool) (held : List Cidr) : Type 0 where
  pub each : (a : ℕ) → is_taken held a ≡ hosted a

-- the numbers of a range that may be given out: those of one that somebody else fills are not
abbrev pub given_numbers : IpRange → List ℕ
given_numbers row = if row.mark_populated then [] else numbers_in row
