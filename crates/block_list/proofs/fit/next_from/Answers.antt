use Rattle.std.proofs.Common.{◌∙◌, refl, ap}
use Rattle.inet_num.specs.declared.Family.{Family}
use Rattle.inet_num.specs.Net.{Address}
use Rattle.block_list.proofs.Places.{place_here}
use Rattle.block_list.proofs.fit.next_from.Goals as goal

pub returns-in-Some : goal.returns-in-Some
returns-in-Some c =
    place_here c.args.within.now c.args.len c.args.from c.in_ok-of.field-0 c.in-Some.place c.family.ensures.lawful c.requires.long c.requires.short c.requires.inside
    (c.in_ok-of.ensures.some ∙ ap (λ (f : Family). let a : Address = record { family = f; value = c.args.from } in a) c.family.ensures.family) c.in-Some.ensures.some (c.in-Some.ensures.cause.0 refl)
