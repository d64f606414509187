use Rattle.std.proofs.Common.{◌∙◌, ap, map}
use Rattle.prefix_list.specs.Lists.{addresses_of_list}
use Rattle.prefix_list.specs.Routes.{exactly}
use Rattle.prefix_list.proofs.JustSets.{ok_one}
use Rattle.command_lists.specs.Texts.{AreFewest}
use Rattle.command_lists.proofs.Listed.{family_kept}
use Rattle.command_lists.proofs.list.fewest_entries.Goals as goal

pub returns : goal.returns
returns c = λ family of.
    let few = c.in_ok-blocks.ensures in
    let blocks = c.in_ok-blocks.blocks.items in
    let fewest : AreFewest (addresses_of_list c.args.prefixes.now) blocks =
    record { ordered = few.ordered; lawful = few.lawful; addresses = few.addresses; shortest = few.shortest } in
    ok_one c.exact_entries.result
    (λ v h. (blocks, fewest, family_kept family c.args.prefixes.now blocks of few.lawful few.addresses, h ∙ ap (map exactly) c.deref.ensures.value))
    c.exact_entries.ensures.entries
