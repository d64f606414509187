use Rattle.inet_num.proofs.Numbers.{shorter_test}
use Rattle.inet_num.proofs.Block.strictly_inside.Goals as goal

pub returns-else-other-self : goal.returns-else-other-self
returns-else-other-self c = rw (← c.self.view_is, ← c.other.view_is) (shorter_test _ _ c.other.invariant.short c.self.invariant.short c.if-other-self.false)
