use Rattle.std.proofs.Common.{◌≡◌, ◌∙◌, sym, ap, arith, Option, Some, None, option_map}
use Rattle.ipam_data.specs.declared.address.IpAddress.{IpAddress}
use Rattle.ipam_data.specs.RowList.{is_rival}
use Rattle.ipam_data.specs.Rows.{address_id}
use Rattle.ipam_data.specs.Addresses.{clashes}
use Rattle.placed_book.proofs.Searches.{some_within, from_no, from_yes}
use Rattle.ip_addresses.proofs.clashes.clash_from.Goals.{in-Some+else-is_clashing, in_default}
use Rattle.ip_addresses.proofs.clashes.clash_from.Goals as goal

pub returns-then-is_clashing : goal.returns-then-is_clashing
returns-then-is_clashing g c =
    sym (ap (λ (o : Option IpAddress). option_map address_id o)
    (from_yes (is_rival address_id clashes c.args.row.now) c.args.book.now.rows c.args.from c.rows.index c.in-Some.other.now (omega arith) (sym c.in-Some.ensures) (sym c.is_clashing.ensures ∙ c.if-is_clashing.true) c.rows.invariant))

pub rows-preserved : goal.rows-preserved
rows-preserved g c = elim c.match-at.branch [
  | in-Some+else-is_clashing w ↦ from_no (is_rival address_id clashes c.args.row.now) c.args.book.now.rows c.args.from c.rows.index w.in-Some.other.now (omega arith) (sym w.in-Some.ensures) (sym w.is_clashing.ensures ∙ w.if-is_clashing.false) c.rows.invariant
  | in_default w ↦ (let some = some_within c.args.book.now.rows c.rows.index (omega arith) in let wrong : None ≡ Some some.0 = w.in_default.ensures ∙ some.1 in cc)
]
