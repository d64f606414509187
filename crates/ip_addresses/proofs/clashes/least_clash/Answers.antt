use Rattle.std.proofs.Common.{◌∙◌, sym}
use Rattle.ip_addresses.proofs.Sharing.{unshared_least, none_there, past_none}
use Rattle.ip_addresses.proofs.clashes.least_clash.Goals as goal

pub returns-then-not-shares : goal.returns-then-not-shares
returns-then-not-shares g c = c.rival.ensures ∙ unshared_least c.args.book.now.rows c.args.row.now (sym c.shares.ensures ∙ c.if-not-shares.true)

pub returns-in-0 : goal.returns-in-0
returns-in-0 g c = none_there c.args.book.now.rows c.args.row.now 0 (sym c.count_rivals.ensures ∙ c.in-0.is)

pub returns-in-1 : goal.returns-in-1
returns-in-1 g c = c.only_clash.ensures ∙ past_none c.args.book.now.rows c.args.row.now c.in_order.ensures.ordered
