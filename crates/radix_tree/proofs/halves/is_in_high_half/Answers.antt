use Rattle.std.proofs.Common.{ap, ◌∙◌, arith, IsTrue, false}
use Rattle.inet_num.specs.Net.{Cidr, Address, width_of}
use Rattle.inet_num.proofs.Numbers.{len_of_strictly}
use Rattle.radix_tree.proofs.Descent.{half_by_first}
use Rattle.radix_tree.proofs.halves.is_in_high_half.Goals as goal

pub unreachable-requires : goal.unreachable-requires
unreachable-requires c =
    let inside = c.requires.inside in
    let less = len_of_strictly c.args.block.now c.args.around.now c.requires.lawful_around.short c.requires.lawful.short inside in
    let short = c.requires.lawful.short in
    let same = ap width_of inside.inside.family in
    let f : IsTrue false = c.in-None.ensures.cause.1 (omega arith) in cc

pub returns : goal.returns
returns c =
    let first = ap (λ (a : Address). a.value) c.first.ensures in
    let high = ap (λ (b : Cidr). b.first) c.in-Some.ensures.some in
    let own = ap (λ (a : Address). a.value) c.first-in-Some.ensures in
    rw (c.value-in-Some.ensures.value ∙ own) (half_by_first c.args.block.now c.args.around.now c.requires.lawful c.requires.lawful_around c.requires.inside c.value.result (c.value.ensures.value ∙ first ∙ high))
