use Rattle.std.proofs.Common.{◌≡◌, ◌∷◌, map, take}
use Rattle.ipam_data.specs.declared.vrf.Vrf.{Vrf}
use Rattle.ipam_data.specs.declared.kinds.Table.TheVariants.{Global, Of}
use Rattle.register_plans.proofs.candidates.all_tables.Given as goal

abbrev pub invariant-vrfs : goal.invariant-vrfs
invariant-vrfs l = l.tables.items ≡ Global ∷ map (λ (vrf : Vrf). Of vrf.id) (take l.vrf-index l.row_tables.vrfs.rows)
