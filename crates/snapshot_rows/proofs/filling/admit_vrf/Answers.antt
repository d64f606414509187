use Rattle.std.proofs.Common.{rules, ◌≡◌, ◌<◌, ◌≤◌, ◌∙◌, ◌++◌, ◌∷◌, [], List, ap, sym, subst, inr}
use Rattle.ipam_data.specs.declared.vrf.Vrf.{Vrf}
use Rattle.ipam_data.specs.declared.replies.View.TheVariants.{Vrf as VrfView}
use Rattle.ipam_data.specs.Updates.{with_view}
use Rattle.ipam_data.specs.RowList.{AllBelow}
use Rattle.ipam_data.specs.Rows.{vrf_id}
use Rattle.ipam_data.proofs.RowLists.{with_row_above}
use Rattle.register_tables.specs.Held.{state_of}
use Rattle.snapshot_rows.specs.Lists.{Lists, lists_of}
use Rattle.snapshot_rows.proofs.Placing.{on_ok}
use Rattle.snapshot_rows.proofs.filling.admit_vrf.Goals as goal

pub admit-requires : goal.admit-requires
admit-requires c =
    let same : c.in_ok-row.row ≡ c.args.row.now = search rules in
    let low : 1 ≤ c.in_ok-row.row.id = subst (λ (r : Vrf). 1 ≤ r.id) (sym same) c.requires.low in
    let high : c.in_ok-row.row.id < 4294967296 = search rules in
    record {
      fits = record {
        low = low;
        high = high;
        place = inr (subst (λ (r : Vrf). AllBelow vrf_id r.id (state_of c.args.tables.now).vrfs.rows) (sym same) c.requires.above);
      };
    }

pub returns : goal.returns
returns c =
    let same : c.in_ok-row.row ≡ c.args.row.now = search rules in
    let above = subst (λ (r : Vrf). AllBelow vrf_id r.id (state_of c.args.tables.now).vrfs.rows) (sym same) c.requires.above in
    let made : Vrf → Lists = λ row. record { vrfs = (state_of c.args.tables.now).vrfs.rows ++ row ∷ []; prefixes = (state_of c.args.tables.now).prefixes.rows } in
    let as_rows : List Vrf → Lists = λ rows. record { vrfs = rows; prefixes = (state_of c.args.tables.now).prefixes.rows } in
    on_ok (state_of c.admit.new.self ≡ with_view (state_of c.args.tables.now) (VrfView c.in_ok-row.row)) (lists_of (state_of c.admit.new.self) ≡ made c.args.row.now) c.admit.result
    (λ put. ap lists_of put ∙ (ap as_rows (with_row_above vrf_id (state_of c.args.tables.now).vrfs.rows c.in_ok-row.row above) ∙ ap made same))
    c.admit.ensures.ok
