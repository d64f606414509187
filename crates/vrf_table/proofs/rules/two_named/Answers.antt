use Rattle.std.proofs.Common.{refl}
use Rattle.ipam_data.specs.Vrfs.{ids_named}
use Rattle.vrf_table.proofs.rules.two_named.Goals as goal

pub returns : goal.returns
unfolding ids_named
returns c = rw (c.second_named-other.ensures, c.first_named-one.ensures) refl
