use Rattle.std.proofs.Common.{◌^◌, sym, subst}
use Rattle.inet_num.specs.Net.{width_of}
use Rattle.span_set.specs.Runs.{AreApart, EndBelow}
use Rattle.span_set.proofs.Members.{either}
use Rattle.span_set.proofs.SpanSet.subtract.Goals as goal

pub invariant_of-self : goal.invariant_of-self
invariant_of-self c =
    let limit = 2 ^ width_of c.self.inside.family in
    record {
      apart = either c.subtract_run.result c.subtract_run.ensures.apart c.subtract_run.ensures.err (λ h. h) (λ e. subst (AreApart 0) (sym e) c.self.invariant.apart);
      within = either c.subtract_run.result c.subtract_run.ensures.within c.subtract_run.ensures.err (λ h. h limit c.self.invariant.within) (λ e. subst (EndBelow limit) (sym e) c.self.invariant.within);
    }
