use Rattle.std.proofs.Common.{sym, subst, List}
use Rattle.inet_num.specs.Net.{Cidr}
use Rattle.prefix_list.specs.Lists.{addresses_beyond, AreOf}
use Rattle.command_lists.specs.Reading.{IsExactly}
use Rattle.command_lists.proofs.check.compare.Goals as goal

pub difference_of-requires : goal.difference_of-requires
difference_of-requires g c = (c.args.asked.now.family, c.requires, subst (AreOf c.args.asked.now.family) (sym c.deref.ensures.value) c.in_ok-list.ensures.family)

pub returns-clause-compared : goal.returns-clause-compared
returns-clause-compared g c =
    let table = c.args.table.now in
    record {
      list = c.in_ok-list.list.items;
      given = c.in_ok-list.ensures.list;
      missing = subst (λ (bs : List Cidr). IsExactly (addresses_beyond table bs) c.in_ok-found.found.missing.items) c.deref.ensures.value c.in_ok-found.ensures.missing;
      beyond = subst (λ (bs : List Cidr). IsExactly (addresses_beyond bs table) c.in_ok-found.found.beyond.items) c.deref.ensures.value c.in_ok-found.ensures.beyond;
    }
