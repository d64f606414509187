use Rattle.std.proofs.Common.{◌≡◌, ℕ, arith}
use Rattle.std.proofs.lemmas.Bool.Decides.{nat_tests}
use Rattle.aggregates.proofs.Overlaps.{are_beside}
use Rattle.aggregates.proofs.blocks.has_other.Goals as goal

pub returns-else-around-ne0 : goal.returns-else-around-ne0
returns-else-around-ne0 g c = λ none.
    let around : c.around.result ≡ 0 = (let t = c.if-around-ne0.false in grind (arith, nat_tests)) in
    let inside : c.counting.result ≡ 0 = grind (arith, nat_tests) in
    are_beside (g.S.Space.family_of c.args.space.now) c.args.block (g.S.Space.held c.args.space.now) c.around.result c.counting.result c.bounds.ensures c.requires c.lawful.ensures
    c.around.ensures c.counting.ensures around inside
