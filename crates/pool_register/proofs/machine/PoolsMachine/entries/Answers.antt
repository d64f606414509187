use Rattle.std.proofs.Common.{ap, is_some, sym, ◌∙◌}
use Rattle.number_pools.specs.Rows.{Pools}
use Rattle.pool_register.specs.Kept.{Seen}
use Rattle.pool_register.proofs.MachineFits.{seen_replay}
use Rattle.pool_register.proofs.machine.PoolsMachine.entries.Goals as goal

pub returns-clause-replayed : goal.returns-clause-replayed
returns-clause-replayed g c =
    let tells = is_some (g.K.PoolKeeper.told c.args.self.now.keeper) in
    ap (λ (s : Pools). let seen : Seen = record { pools = s; tells = tells } in seen) c.replayed.ensures ∙ sym (seen_replay c.args.self.now.opening tells c.args.self.now.log)
