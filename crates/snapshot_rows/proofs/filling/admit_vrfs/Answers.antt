use Rattle.std.proofs.Common.{List, ◌∷◌, ◌++◌, [], ap, sym, subst, ◌∙◌}
use Rattle.ipam_data.specs.declared.vrf.Vrf.{Vrf}
use Rattle.ipam_data.specs.RowList.{AllBelow}
use Rattle.ipam_data.specs.Rows.{vrf_id}
use Rattle.register_tables.specs.Held.{state_of}
use Rattle.snapshot_rows.specs.Lists.{Lists}
use Rattle.snapshot_rows.proofs.Placing.{below_front, one_more}
use Rattle.snapshot_rows.proofs.filling.admit_vrfs.Goals as goal

pub loop-row-init : goal.loop-row-init
loop-row-init c = λ i. record { vrfs = c.requires.none_yet i; prefixes = (state_of c.args.tables.now).prefixes.rows }

pub admit_vrf-requires-clause-low : goal.admit_vrf-requires-clause-low
admit_vrf-requires-clause-low c = (below_front vrf_id 0 c.args.rows.now c.loop-row.row-index c.row-item.result c.requires.ordered c.loop-row-test.true c.row-item.is).1

pub admit_vrf-requires-clause-above : goal.admit_vrf-requires-clause-above
admit_vrf-requires-clause-above c =
    let below = (below_front vrf_id 0 c.args.rows.now c.loop-row.row-index c.row-item.result c.requires.ordered c.loop-row-test.true c.row-item.is).0 in
    subst (AllBelow vrf_id c.row-item.result.id) (sym (ap (λ (l : Lists). l.vrfs) c.loop-row.invariant)) below

pub loop-row-preserved : goal.loop-row-preserved
loop-row-preserved c =
    let x = c.row-item.result in
    c.in_ok-admit_vrf.ensures
    ∙ (ap (λ (l : Lists). record { vrfs = l.vrfs ++ x ∷ []; prefixes = l.prefixes }) c.loop-row.invariant
    ∙ ap (λ (rows : List Vrf). record { vrfs = rows; prefixes = (state_of c.args.tables.now).prefixes.rows }) (one_more c.args.rows.now c.loop-row.row-index x c.loop-row-test.true c.row-item.is))
