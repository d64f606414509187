use Rattle.std.proofs.Common.{◌≡◌, false, sym, subst}
use Rattle.std.proofs.lemmas.List.Elements.{Contains-get_or}
use Rattle.ipam_data.proofs.RowLists.{find_none}
use Rattle.stored_tables.specs.declared.tables.Row.{Row}
use Rattle.stored_tables.specs.Migration.{is_misshapen}
use Rattle.stored_tables.proofs.migration.migrate_rows.Goals as goal

pub migrate_row-requires : goal.migrate_row-requires
migrate_row-requires c =
    subst (λ (r : Row). is_misshapen r ≡ false) (sym c.row-item.is)
    (find_none is_misshapen c.args.rows.now _ c.requires (Contains-get_or c.args.rows.now c.loop-row.row-index c.row-item.result c.loop-row-test.true))
