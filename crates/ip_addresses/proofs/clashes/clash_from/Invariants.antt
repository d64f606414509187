use Rattle.std.proofs.Common.{◌≡◌, ◌-◌, None, find, take, drop}
use Rattle.ipam_data.specs.RowList.{is_rival}
use Rattle.ipam_data.specs.Rows.{address_id}
use Rattle.ipam_data.specs.Addresses.{clashes}
use Rattle.ip_addresses.proofs.clashes.clash_from.Given as goal

abbrev pub invariant-rows : goal.invariant-rows
invariant-rows g l = find (is_rival address_id clashes l.row) (take (l.index - l.from) (drop l.from l.book.rows)) ≡ None
