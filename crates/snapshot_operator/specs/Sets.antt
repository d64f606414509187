-- Two equal pairs of lists are equal in one way: so what is said of such lists by equations is a fact, with one proof at most.
use Rattle.std.specs.Prelude.{List}
use mathlib.Core.Path.{ap}
use mathlib.Core.List.{is_set as List-set}
use base.Stored.{Coded-set}
use Rattle.ipam_data.specs.contracts.vrf.Vrf as vrf
use Rattle.ipam_data.specs.contracts.prefix.Prefix as prefix
use Rattle.ipam_data.specs.declared.vrf.Vrf.{Vrf}
use Rattle.ipam_data.specs.declared.prefix.Prefix.{Prefix}
use Rattle.snapshot_rows.specs.Lists.{Lists}

vrfs_set : IsSet (List Vrf)
vrfs_set = List-set (Coded-set vrf.the_row.coded)

prefixes_set : IsSet (List Prefix)
prefixes_set = List-set (Coded-set prefix.the_row.coded)

pub Lists-set : IsSet Lists
Lists-set a b p q = λ i j. record {
  vrfs = vrfs_set a.vrfs b.vrfs (ap (λ (l : Lists). l.vrfs) p) (ap (λ (l : Lists). l.vrfs) q) i j;
  prefixes = prefixes_set a.prefixes b.prefixes (ap (λ (l : Lists). l.prefixes) p) (ap (λ (l : Lists). l.prefixes) q) i j;
}
