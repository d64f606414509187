use Rattle.std.proofs.Common.{◌-◌, sym, ◌∙◌, ap, subst, arith}
use Rattle.inet_num.specs.Net.{Address, IsBlock, enclosing_of}
use Rattle.inet_num.proofs.Cuts.{around_is, lawful_around}
use Rattle.inet_num.proofs.Block.enclosing.Goals as goal

pub invariant_of-result : goal.invariant_of-result
invariant_of-result c =
    let a : Address = record { family = c.self.inside.family; value = c.self.inside.first } in
    let short = c.self.invariant.short in
    subst IsBlock (sym (around_is a (c.self.inside.len - 1) c.low_ones.result c.low_ones.ensures)) (lawful_around a (c.self.inside.len - 1) (omega arith) c.self.invariant.in_range)

pub returns-clause-some : goal.returns-clause-some
returns-clause-some c =
    let a : Address = record { family = c.self.inside.family; value = c.self.inside.first } in
    around_is a (c.self.inside.len - 1) c.low_ones.result c.low_ones.ensures ∙ ap enclosing_of c.self.view_is
