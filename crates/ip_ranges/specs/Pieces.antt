-- A range as blocks.
use Rattle.std.specs.Prelude.{◌≡◌, ◌+◌, ◌-◌, ◌≤◌, List, length}
use Rattle.std.specs.List.{flat_map, AllByRecursion}
use Rattle.inet_num.specs.Net.{Cidr, IsBlock}
use Rattle.inet_num.specs.Count.{numbers_from, addresses_of}
use Rattle.ipam_data.specs.declared.range.IpRange.{IpRange}
use Rattle.span_set.specs.Runs.{IsBetween}
use Rattle.span_set.specs.Blocks.{NoneIsShorter}

-- the fewest blocks of a range, in address order: their addresses are just the range's, one after another. There are 64 at most: fewer
-- than 2^32 addresses need a block of each size once on the way up and once on the way down
pub record ArePieces (row : IpRange) (blocks : List Cidr) : Type 0 where
  pub addresses : flat_map addresses_of blocks ≡ numbers_from row.ends.start.value (row.ends.end.value + 1 - row.ends.start.value)
  pub family : AllByRecursion (λ b. b.family ≡ row.ends.start.family) blocks
  pub lawful : AllByRecursion IsBlock blocks
  pub fewest : NoneIsShorter row.ends.start.family (IsBetween row.ends.start.value row.ends.end.value) blocks
  pub few : length blocks ≤ 64
