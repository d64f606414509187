use Rattle.std.proofs.Common.{ℕ, Option, sym, subst}
use Rattle.radix_tree.specs.Shape.{HasLink}
use Rattle.radix_tree.proofs.Covered.{covered_no_link}
use Rattle.radix_tree.proofs.Summed.{covered_is}
use Rattle.radix_tree.proofs.links.Linked.covered_below.Goals as goal

pub returns-in_default : goal.returns-in_default
returns-in_default g c = λ place land within here inside. sym (covered_no_link c.args.self.now c.requires.sound.tree place c.args.at land within here c.in_default.is)

pub returns : goal.returns
returns g c = λ place land within here inside.
    let t = c.args.self.now in
    let id = c.in-Some.id in
    let n = c.visit-node.result.now in
    let e = c.visit-node.ensures.node in
    let link = subst (λ (x : Option ℕ). HasLink t place x land) c.in-Some.is here in
    covered_is t c.requires.sound c.requires.frees id n e (c.requires.long id n c.in-Some.is e) place land within link (inside id n c.in-Some.is e)
