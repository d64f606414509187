use Rattle.std.proofs.Common.{◌∙◌, ap, map}
use Rattle.prefix_list.specs.Lists.{addresses_beyond}
use Rattle.prefix_list.specs.Routes.{exactly}
use Rattle.prefix_list.proofs.JustSets.{ok_one}
use Rattle.command_lists.specs.Texts.{AreFewest}
use Rattle.command_lists.proofs.check.exactly_beyond.Goals as goal

pub returns : goal.returns
returns c =
    let few = c.in_ok-blocks.ensures in
    let fewest : AreFewest (addresses_beyond c.args.have.now c.args.by.now) c.in_ok-blocks.blocks.items =
    record { ordered = few.ordered; lawful = few.lawful; addresses = few.addresses; shortest = few.shortest } in
    ok_one c.exact_entries.result (λ v h. (c.in_ok-blocks.blocks.items, fewest, h ∙ ap (map exactly) c.deref.ensures.value)) c.exact_entries.ensures.entries
