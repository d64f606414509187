use Rattle.std.proofs.Common.{◌+◌, ◌∙◌, sym}
use Rattle.ip_addresses.proofs.Sharing.{none_there, past_itself}
use Rattle.ip_addresses.proofs.clashes.clash_behind.Goals as goal

pub returns-in-0 : goal.returns-in-0
returns-in-0 g c = none_there c.args.book.now.rows c.args.row.now (c.args.index + 1) (sym c.count_rivals.ensures ∙ c.in-0.is)

pub returns-in-1 : goal.returns-in-1
returns-in-1 g c = c.only_clash.ensures ∙ past_itself c.args.book.now.rows c.args.row.now c.args.index c.in_order.ensures.ordered c.requires.at
