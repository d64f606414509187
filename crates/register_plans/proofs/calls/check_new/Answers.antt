use Rattle.std.proofs.Common.{◌≡◌, sym, ◌∙◌}
use Rattle.ipam_data.specs.Checks.{first}
use Rattle.ipam_data.specs.Plans.{no_seats}
use Rattle.register_plans.proofs.Verdicts.{new_broken, new_full, new_logged}
use Rattle.register_tables.specs.Held.{state_of}
use Rattle.register_plans.proofs.calls.check_new.Goals as goal

pub returns-in-Some : goal.returns-in-Some
returns-in-Some g c = sym (new_broken g.T.Listed.rules (state_of c.args.row_tables.now) c.args.row.now c.in-Some.rule (sym c.broken.ensures ∙ c.in-Some.is))

pub returns-in-Some-no_room_for_one : goal.returns-in-Some-no_room_for_one
returns-in-Some-no_room_for_one g c =
    let seats : c.no_room_for_one.result ≡ first (no_seats g.T.Listed.rules (state_of c.args.row_tables.now) 1) = (rw (c.kind.ensures, c.most.ensures, c.count.ensures.count, c.next.ensures) at c.no_room_for_one.ensures) in
    sym (new_full g.T.Listed.rules (state_of c.args.row_tables.now) c.args.row.now c.in-Some-no_room_for_one.refusal (sym c.broken.ensures ∙ c.in_default.is) (sym seats ∙ c.in-Some-no_room_for_one.is))

pub returns : goal.returns
returns g c =
    let seats : c.no_room_for_one.result ≡ first (no_seats g.T.Listed.rules (state_of c.args.row_tables.now) 1) = (rw (c.kind.ensures, c.most.ensures, c.count.ensures.count, c.next.ensures) at c.no_room_for_one.ensures) in
    new_logged g.T.Listed.rules (state_of c.args.row_tables.now) c.args.row.now c.no_log_for_one.result (sym c.broken.ensures ∙ c.in_default.is) (sym seats ∙ c.in_default-no_room_for_one.is) (rw c.spent.ensures at c.no_log_for_one.ensures)
