use Rattle.std.proofs.Common.{◌-◌}
use Rattle.inet_num.specs.Net.{width_of}
use Rattle.radix_tree.proofs.fits.+place_in.Given as goal

abbrev pub decreases-place_in : goal.decreases-place_in
decreases-place_in l = width_of l.land.family - l.land.len
