use Rattle.std.proofs.Common.{◌-◌}
use Rattle.inet_num.specs.Net.{width_of}
use Rattle.radix_tree.proofs.links.Linked.+available_below.Given as goal

abbrev pub decreases-available_below : goal.decreases-available_below
decreases-available_below g l = width_of l.land.family - l.land.len
