use Rattle.std.proofs.Common.{ap, subst, List}
use mathlib.Core.List.{IsPrefix}
use Rattle.snapshot_reads.proofs.Lists.{prefix_shorter}
use Rattle.snapshot_reads.proofs.history.begins.Goals as goal

pub returns : goal.returns
returns g c =
    let both = c.learn.new.self.log in
    let this : IsPrefix c.args.first.now.log both = subst (λ (l : List g.row.C.Denot). IsPrefix l both) (ap (λ s. s.log) c.again-both.ensures) c.learn.ensures.2 in
    prefix_shorter c.args.first.now.log c.args.second.now.log both this c.learn.ensures.3 c.requires.count
