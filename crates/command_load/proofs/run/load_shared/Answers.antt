use Rattle.std.proofs.Common.{sym}
use Rattle.std.proofs.lemmas.List.{length-map}
use Rattle.register_core.specs.Machines.{pair_of}
use Rattle.command_load.proofs.AllClaims.{all_loaded}
use Rattle.command_load.proofs.run.load_shared.Goals as goal

pub returns-then-made : goal.returns-then-made
returns-then-made g c =
    let few = c.requires.few in
    let e = c.close.ensures in
    all_loaded c.args.count c.args.workers c.args.seat c.create-seat.result.0 c.claim_all-seat.result.0 c.claim_all-seat.result.1 _ _ few
    c.requires.first.0 (c.create-seat.ensures.made c.if-made.true) c.claim_all-seat.ensures.came e.log_is_seen (sym (length-map c.close.result.log pair_of)) e.entries_have_seats e.ended_entries_are_kept
