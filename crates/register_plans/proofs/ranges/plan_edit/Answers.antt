use Rattle.std.proofs.Common.{sym, ◌∙◌, refl}
use Rattle.ipam_data.specs.Ranges.{range_rules}
use Rattle.register_tables.specs.Held.{state_of}
use Rattle.register_plans.proofs.Verdicts.{own_found}
use Rattle.register_plans.proofs.ranges.plan_edit.Goals as goal

pub plan_edited-requires : goal.plan_edited-requires
plan_edited-requires c = own_found range_rules (state_of c.args.row_tables.now) c.args.id c.in-Some.old.now c.in-Some.old.now (sym c.found.ensures ∙ rw c.in-Some.is refl) refl
