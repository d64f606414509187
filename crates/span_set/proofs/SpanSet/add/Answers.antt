use Rattle.std.proofs.Common.{◌^◌, ◌<◌, sym, ◌∙◌, ap, subst}
use Rattle.inet_num.specs.Net.{width_of}
use Rattle.span_set.specs.Runs.{AreApart, EndBelow}
use Rattle.span_set.proofs.Members.{either}
use Rattle.span_set.proofs.SpanSet.add.Goals as goal

pub invariant_of-self : goal.invariant_of-self
invariant_of-self c =
    let same = c.requires.last_family ∙ sym (ap (λ s. s.family) c.self.view_is) in
    let limit = 2 ^ width_of c.self.inside.family in
    let fits : c.value-2.result < 2 ^ width_of c.self.inside.family = rw c.value-2.ensures.value (subst (λ f. c.args.span.last.value < 2 ^ width_of f) same c.value-2.ensures.in_range) in
    record {
      apart = either c.add_run.result c.add_run.ensures.apart c.add_run.ensures.err (λ h. h) (λ e. subst (AreApart 0) (sym e) c.self.invariant.apart);
      within = either c.add_run.result c.add_run.ensures.within c.add_run.ensures.err (λ h. h limit fits c.self.invariant.within) (λ e. subst (EndBelow limit) (sym e) c.self.invariant.within);
    }
