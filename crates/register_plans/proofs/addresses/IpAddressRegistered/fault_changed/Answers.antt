use Rattle.std.proofs.Common.{sym, ◌∙◌}
use Rattle.ipam_data.specs.Addresses.{address_rules, address_fault, address_barred}
use Rattle.ipam_data.specs.Tables.{table_of, is_enforcing}
use Rattle.register_tables.specs.Held.{state_of}
use Rattle.register_plans.specs.Broken.{own_row}
use Rattle.register_plans.proofs.Verdicts.{pair_refuses, pair_passes}
use Rattle.register_plans.proofs.addresses.IpAddressRegistered.fault_changed.Goals as goal

pub returns-in-Some : goal.returns-in-Some
returns-in-Some c =
    let s = state_of c.args.row_tables.now in
    let row = c.args.self.now in
    sym (pair_refuses (address_fault s.addresses.rows row (is_enforcing s.global_unique s.vrfs.rows (table_of row.vrf))) (address_barred s.ranges.rows (own_row address_rules s row) row) c.in-Some.rule (sym c.fault.ensures ∙ c.in-Some.is))

pub returns-in-None : goal.returns-in-None
returns-in-None c =
    let s = state_of c.args.row_tables.now in
    let row = c.args.self.now in
    c.barred_changed.ensures
    ∙ sym (pair_passes (address_fault s.addresses.rows row (is_enforcing s.global_unique s.vrfs.rows (table_of row.vrf))) (address_barred s.ranges.rows (own_row address_rules s row) row) (sym c.fault.ensures ∙ c.in-None.is))
