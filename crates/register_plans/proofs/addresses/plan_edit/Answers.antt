use Rattle.std.proofs.Common.{sym, ◌∙◌, refl}
use Rattle.ipam_data.specs.Addresses.{address_rules}
use Rattle.ipam_data.specs.Fields.{edited_address}
use Rattle.ipam_data.proofs.DraftLaws.{address_stays}
use Rattle.register_tables.specs.Held.{state_of}
use Rattle.register_plans.proofs.Verdicts.{change_planned}
use Rattle.register_plans.proofs.addresses.plan_edit.Goals as goal

pub returns : goal.returns
returns c =
    change_planned address_rules (state_of c.args.row_tables.now) c.args.id (edited_address c.args.edit.now) c.in-Some.old.now c.in_ok-row-in-Some.row c.plan_replace.result
    (sym c.found.ensures ∙ rw c.in-Some.is refl) c.in_ok-row-in-Some.ensures (address_stays c.args.edit.now c.in-Some.old.now) c.plan_replace.ensures
