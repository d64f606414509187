use Rattle.std.proofs.Common.{rules, ◌≡◌, ◌<◌, ◌≤◌, ◌∙◌, ◌++◌, ◌∷◌, [], List, ap, sym, subst, inr}
use Rattle.ipam_data.specs.declared.prefix.Prefix.{Prefix}
use Rattle.ipam_data.specs.declared.replies.View.TheVariants.{Prefix as PrefixView}
use Rattle.ipam_data.specs.Updates.{with_view}
use Rattle.ipam_data.specs.RowList.{AllBelow}
use Rattle.ipam_data.specs.Rows.{prefix_id}
use Rattle.ipam_data.proofs.RowLists.{with_row_above}
use Rattle.register_tables.specs.Held.{state_of}
use Rattle.snapshot_rows.specs.Lists.{Lists, lists_of}
use Rattle.snapshot_rows.proofs.Placing.{on_ok}
use Rattle.snapshot_rows.proofs.filling.admit_prefix.Goals as goal

pub admit-requires : goal.admit-requires
admit-requires c =
    let same : c.in_ok-row.row ≡ c.args.row.now = search rules in
    let low : 1 ≤ c.in_ok-row.row.id = subst (λ (r : Prefix). 1 ≤ r.id) (sym same) c.requires.low in
    let high : c.in_ok-row.row.id < 4294967296 = search rules in
    record {
      fits = record {
        low = low;
        high = high;
        place = inr (subst (λ (r : Prefix). AllBelow prefix_id r.id (state_of c.args.tables.now).prefixes.rows) (sym same) c.requires.above);
      };
    }

pub returns : goal.returns
returns c =
    let same : c.in_ok-row.row ≡ c.args.row.now = search rules in
    let above = subst (λ (r : Prefix). AllBelow prefix_id r.id (state_of c.args.tables.now).prefixes.rows) (sym same) c.requires.above in
    let made : Prefix → Lists = λ row. record { vrfs = (state_of c.args.tables.now).vrfs.rows; prefixes = (state_of c.args.tables.now).prefixes.rows ++ row ∷ [] } in
    let as_rows : List Prefix → Lists = λ rows. record { vrfs = (state_of c.args.tables.now).vrfs.rows; prefixes = rows } in
    on_ok (state_of c.admit.new.self ≡ with_view (state_of c.args.tables.now) (PrefixView c.in_ok-row.row 0 0)) (lists_of (state_of c.admit.new.self) ≡ made c.args.row.now) c.admit.result
    (λ put. ap lists_of put ∙ (ap as_rows (with_row_above prefix_id (state_of c.args.tables.now).prefixes.rows c.in_ok-row.row above) ∙ ap made same))
    c.admit.ensures.ok
