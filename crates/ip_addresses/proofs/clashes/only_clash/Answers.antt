use Rattle.std.proofs.Common.{◌≡◌, subst, Bool, Some, None, cond}
use Rattle.ipam_data.specs.RowList.{least}
use Rattle.ipam_data.specs.Rows.{address_id}
use Rattle.ip_addresses.specs.Book.{clashes_past}
use Rattle.ip_addresses.proofs.Sharing.{none_first, is_not_missing, only_it}
use Rattle.ip_addresses.proofs.clashes.only_clash.Goals as goal

pub returns-in_default : goal.returns-in_default
returns-in_default g c = none_first c.args.book.now.rows c.args.row.now c.args.past c.in_default.ensures

pub returns-in_default-get : goal.returns-in_default-get
returns-in_default-get g c = absurd (is_not_missing c.args.book.now.rows c.args.row.now c.in_order.ensures.ordered c.in-Some.id c.in-Some.ensures c.in_default-get.ensures)

pub returns-then-is_clashing_past : goal.returns-then-is_clashing_past
returns-then-is_clashing_past g c =
    subst (λ (b : Bool). cond b (Some c.in-Some-get.other.now.id) None ≡ least address_id (clashes_past c.args.past c.args.row.now) c.args.book.now.rows) c.if-is_clashing_past.true
    (only_it c.args.book.now.rows c.args.row.now c.in_order.ensures.ordered c.in-Some.id c.in-Some.ensures c.args.past c.in-Some-get.other.now c.in-Some-get.ensures c.requires.one c.is_clashing_past.result c.is_clashing_past.ensures)

pub returns : goal.returns
returns g c =
    subst (λ (b : Bool). cond b (Some c.in-Some-get.other.now.id) None ≡ least address_id (clashes_past c.args.past c.args.row.now) c.args.book.now.rows) c.if-is_clashing_past.false
    (only_it c.args.book.now.rows c.args.row.now c.in_order.ensures.ordered c.in-Some.id c.in-Some.ensures c.args.past c.in-Some-get.other.now c.in-Some-get.ensures c.requires.one c.is_clashing_past.result c.is_clashing_past.ensures)
