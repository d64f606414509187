use Rattle.std.proofs.Common.{◌∙◌, sym, refl}
use Rattle.register_tables.specs.Held.{state_of}
use Rattle.register_plans.proofs.ImportPlans.{next_is, tried}
use Rattle.register_plans.proofs.TakenBack.{back_again}
use Rattle.register_plans.proofs.imports.tried.try_rows.Goals as goal

pub returns-in-Ok-clause-state : goal.returns-in-Ok-clause-state
returns-in-Ok-clause-state c =
    back_again (state_of c.args.row_tables.now) (state_of c.make_all-made.new.row_tables) (state_of c.take_back.new.row_tables) c.args.kind c.next-start.result
    (c.next-start.ensures ∙ sym (next_is c.args.row_tables.now c.args.kind)) c.make_all-made.ensures.ahead c.take_back.ensures

pub returns-in-Err-clause-state : goal.returns-in-Err-clause-state
returns-in-Err-clause-state c =
    back_again (state_of c.args.row_tables.now) (state_of c.make_all-made.new.row_tables) (state_of c.take_back.new.row_tables) c.args.kind c.next-start.result
    (c.next-start.ensures ∙ sym (next_is c.args.row_tables.now c.args.kind)) c.make_all-made.ensures.ahead c.take_back.ensures

pub returns-in-Ok-clause-made : goal.returns-in-Ok-clause-made
returns-in-Ok-clause-made c =
    tried (state_of c.args.row_tables.now) c.args.kind c.args.rows.now c.make_all-made.new.row_tables c.in-Ok.records.items (record { records = c.in-Ok.records; next = c.next-next.result }) c.in-Ok.ensures.made c.next-next.ensures refl
