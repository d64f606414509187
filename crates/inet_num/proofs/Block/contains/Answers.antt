use Rattle.std.proofs.Common.{ap, sym, ◌∙◌, refl}
use Rattle.inet_num.specs.Net.{last_of}
use Rattle.inet_num.proofs.Aligned.{start_test, not_longer}
use Rattle.inet_num.proofs.Numbers.{below_test}
use Rattle.inet_num.proofs.Block.contains.Goals as goal

pub returns-then-other-self : goal.returns-then-other-self
returns-then-other-self c = rw (← c.self.view_is, ← c.other.view_is) ((λ t. cc), (λ h. absurd (not_longer _ _ c.self.invariant c.if-other-self.true h)))

pub returns-then-self-other : goal.returns-then-self-other
returns-then-self-other c =
    let n = ap (λ a. a.value) (c.result.view_is ∙ c.last.ensures ∙ ap last_of (sym c.self.view_is)) in
    rw (← c.self.view_is, ← c.other.view_is) (start_test _ _ _ c.other.invariant c.self.invariant (sym (c.if-not-is.ensures.0 refl)) c.if-other-self.false c.if-self-other.true n)

pub returns-else-self-other : goal.returns-else-self-other
returns-else-self-other c = rw (← c.self.view_is, ← c.other.view_is) (below_test _ _ c.if-self-other.false)
