use Rattle.std.proofs.Common.{refl}
use Rattle.command_mirror.proofs.Ended.{of_ran}
use Rattle.command_mirror.proofs.register.mirror_opened.Goals as goal

pub returns : goal.returns
returns g c = record {
  mirror = λ first errors lent same few fresh loaded starts.
      of_ran g.So.Source.reads g.O.Kept.Keeper.told g.O.Kept.Keeper.faults c.args.asked.now _ _ _ _ c.args.register c.mirror_register-register.result.0
      (record {
        kept = c.into_keeper.result;
        mid = g.O.KeeperOpener.faults c.args.opener.now;
        lent = g.O.KeeperOpener.lent c.args.opener.now;
        mid_stored = g.O.KeeperOpener.stored c.args.opener.now;
        loaded = loaded;
        none = c.requires.fresh;
        begun = c.replayed.ensures;
        well = fresh;
        starts = starts;
        replayed = c.replayed-2.ensures;
        tells = c.told.ensures;
        same = c.into_keeper.ensures;
        later = few;
        raised = c.done.ensures.raised;
        out = lent;
        stays = same;
        returned = c.done.ensures.returned;
        silent = refl;
      })
      c.args.input.now c.mirror_register-register.new.input c.mirror_register-register.result.1 c.status_of.result c.status_of.ensures c.mirror_register-register.ensures.later c.mirror_register-register.ensures.ran;
}
