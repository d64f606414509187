use Rattle.std.proofs.Common.{ap, is_some, map, sym, ◌∙◌}
use Rattle.ipam_data.specs.State.{State}
use Rattle.register_core.specs.Machines.{Seen, pair_of}
use Rattle.register_core.proofs.MachineFits.{replay_pairs, seen_replay}
use Rattle.register_core.proofs.machine.RegisterMachine.entries.Goals as goal

pub returns-clause-replayed : goal.returns-clause-replayed
returns-clause-replayed g c =
    let tells = is_some (g.K.Keeper.told c.args.self.now.keeper) in
    let opening = c.args.self.now.opening in
    let log = c.args.self.now.log in
    ap (λ (s : State). let it : Seen = record { state = s; tells = tells } in it) (c.replayed.ensures ∙ sym (replay_pairs opening log)) ∙ sym (seen_replay opening tells (map pair_of log))
