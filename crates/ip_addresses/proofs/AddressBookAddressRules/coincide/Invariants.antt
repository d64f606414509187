use Rattle.std.proofs.Common.{◌≡◌, drop}
use Rattle.ipam_data.specs.RowList.{least_pair}
use Rattle.ipam_data.specs.Rows.{address_id}
use Rattle.ipam_data.specs.Addresses.{clash_in}
use Rattle.ip_addresses.proofs.AddressBookAddressRules.coincide.Given as goal

abbrev pub invariant-rows : goal.invariant-rows
invariant-rows g l = least_pair address_id (clash_in l.table) l.self.rows ≡ least_pair address_id (clash_in l.table) (drop l.index l.self.rows)
