use Rattle.std.proofs.Common.{ap, subst, ◌∙◌, Err}
use Rattle.std.proofs.Math.Logic.{⊎_map}
use Rattle.ipam_keeper.specs.Keeping.{IsRaised}
use Rattle.ipam_keeper.proofs.FaultLemmas.{still_back}
use Rattle.command_store.specs.Outside.{stores}
use Rattle.command_store.proofs.Refused.{back_after, raised_later}
use Rattle.command_lists.specs.declared.table.TableStop.TheVariants.{Opening}
use Rattle.command_lists.proofs.ReadBack.{read_back, stopped_back, read_are_of}
use Rattle.command_lists.proofs.table.read_table.Goals as goal

pub returns-in-Ok-clause-read : goal.returns-in-Ok-clause-read
returns-in-Ok-clause-read g c =
    read_back c.args.asked.now (stores g.O.KeeperOpener.stored g.O.KeeperOpener.faults c.args.opener.now) (stores g.O.KeeperOpener.stored g.O.KeeperOpener.faults c.done.new.self)
    c.in-Ok.register.state c.in-Ok.ensures.state (λ v. v.items) c.blocks_in-blocks.result c.blocks_in-blocks.ensures.there c.blocks_in-blocks.ensures.blocks

pub returns-in-Ok-clause-family : goal.returns-in-Ok-clause-family
returns-in-Ok-clause-family g c = read_are_of c.args.asked.now c.in-Ok.register.state (λ v. v.items) c.blocks_in-blocks.result c.blocks_in-blocks.ensures.blocks

pub returns-in-Ok-clause-stop : goal.returns-in-Ok-clause-stop
returns-in-Ok-clause-stop g c =
    stopped_back c.args.asked.now (stores g.O.KeeperOpener.stored g.O.KeeperOpener.faults c.args.opener.now) (stores g.O.KeeperOpener.stored g.O.KeeperOpener.faults c.done.new.self)
    c.in-Ok.register.state c.in-Ok.ensures.state _ _ _ c.blocks_in-blocks.result c.open_store.ensures.later
    (subst (λ k. IsRaised (g.O.KeeperOpener.faults c.open_store.new.opener) (g.O.Kept.Keeper.faults k) (g.O.KeeperOpener.faults c.done.new.self)) c.into_keeper.ensures c.done.ensures.raised)
    c.blocks_in-blocks.ensures.stop

pub returns-in-Ok-clause-same : goal.returns-in-Ok-clause-same
returns-in-Ok-clause-same g c =
    back_after _ _ _ _ _ _ _ c.in-Ok.ensures.lent c.in-Ok.ensures.stays (ap g.O.Kept.Keeper.told c.into_keeper.ensures ∙ c.blocks_in-blocks.ensures.told) c.in-Ok.ensures.told c.done.ensures.returned

pub returns-in-Ok-clause-later : goal.returns-in-Ok-clause-later
returns-in-Ok-clause-later g c = raised_later _ _ _ _ c.open_store.ensures.later c.done.ensures.raised

pub returns-in-Ok-clause-still : goal.returns-in-Ok-clause-still
returns-in-Ok-clause-still g c =
    still_back _ _ _ _ _ c.in-Ok.ensures.still c.in-Ok.ensures.fresh (⊎_map (λ stop. stop) (λ same. ap g.O.Kept.Keeper.faults c.into_keeper.ensures ∙ same) c.blocks_in-blocks.ensures.still) c.done.ensures.raised

pub returns-in-Err-clause-still : goal.returns-in-Err-clause-still
returns-in-Err-clause-still g c = ⊎_map (λ k. ap Err (ap Opening k)) (λ same. same) c.in-Err.ensures.err_still
