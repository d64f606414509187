use Rattle.std.proofs.Common.{◌≡◌, sym, ◌∙◌}
use Rattle.ipam_data.specs.Checks.{first}
use Rattle.ipam_data.specs.Plans.{no_seats}
use Rattle.register_plans.proofs.ImportRecords.{creation_broken, creation_free}
use Rattle.register_tables.specs.Held.{state_of}
use Rattle.register_plans.proofs.imports.checks.check_row.Goals as goal

pub returns-in-Some : goal.returns-in-Some
returns-in-Some g c = sym (creation_broken g.T.Listed.rules (state_of c.args.row_tables.now) c.args.row.now c.in-Some.rule (sym c.broken.ensures ∙ c.in-Some.is))

pub returns : goal.returns
returns g c =
    let seats : c.no_room_for_one.result ≡ first (no_seats g.T.Listed.rules (state_of c.args.row_tables.now) 1) = (rw (c.kind.ensures, c.most.ensures, c.count.ensures.count, c.next.ensures) at c.no_room_for_one.ensures) in
    seats ∙ sym (creation_free g.T.Listed.rules (state_of c.args.row_tables.now) c.args.row.now (sym c.broken.ensures ∙ c.in_default.is))
