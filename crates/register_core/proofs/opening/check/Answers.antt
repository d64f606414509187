use Rattle.register_tables.specs.Held.{state_of}
use Rattle.register_core.proofs.Loading.{fit, opened}
use Rattle.register_core.proofs.opening.check.Goals as goal

pub fill-requires : goal.fill-requires
fill-requires c =
    fit c.args.tables c.args.global_unique c.as_slice-rows.result.now c.as_slice-nexts.result.now c.read_all.new.views.items c.in_ok-kind.field-0 (state_of c.bare-row_tables.result)
    c.requires c.as_slice-rows.ensures c.in_ok-kind.ensures c.in_default.is c.bare-row_tables.ensures.state

pub returns-in-None : goal.returns-in-None
returns-in-None c =
    opened c.args.tables c.args.global_unique c.as_slice-rows.result.now c.as_slice-nexts.result.now c.read_all.new.views.items c.in_ok-kind.field-0 c.first_overfull.result c.first_bad_next-bad_next.result c.in-Ok-None.field-0
    (state_of c.bare-row_tables.result) (state_of c.fill.new.row_tables)
    c.requires c.as_slice-rows.ensures c.as_slice-nexts.ensures c.if-tables-ne-VERSION.false c.in_ok-kind.ensures c.in_default.is c.first_overfull.ensures c.in_default-first_overfull.is
    c.bare-row_tables.ensures.state c.bare-row_tables.ensures.nexts c.in-Ok-None.ensures.breach c.in-Ok-None.field-0-is c.in-Ok-None.ensures.state c.first_bad_next-bad_next.ensures c.in-None.is
