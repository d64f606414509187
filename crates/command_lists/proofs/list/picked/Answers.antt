use Rattle.std.proofs.Common.{sym, subst, IfOk}
use Rattle.command_words.specs.declared.asked.Matching.{Matching}
use Rattle.command_lists.specs.Reading.{ArePicked}
use Rattle.command_lists.proofs.list.picked.Goals as goal

pub returns-in-Addresses : goal.returns-in-Addresses
returns-in-Addresses c =
    let asked = c.args.asked.now in
    subst (λ (m : Matching). IfOk c.fewest_entries.result (λ v. ArePicked m asked.family c.args.prefixes.now v.items)) (sym c.in-Addresses.is) (c.fewest_entries.ensures asked.family c.requires)
