use Rattle.std.proofs.Common.{None, sym, ◌∙◌}
use Rattle.ipam_data.specs.Addresses.{address_rules, address_fault}
use Rattle.ipam_data.specs.Tables.{table_of, is_enforcing}
use Rattle.register_tables.specs.Held.{state_of}
use Rattle.register_tables.proofs.Firsts.{head_refuses, head_passes}
use Rattle.register_plans.proofs.Verdicts.{one}
use Rattle.register_plans.proofs.addresses.standing_fault.Goals as goal

pub returns-in-Some : goal.returns-in-Some
returns-in-Some c =
    let s = state_of c.args.row_tables.now in
    sym (head_refuses (address_rules.references s c.args.row.now) (address_rules.faults s None c.args.row.now) c.in-Some.rule (sym c.missing.ensures ∙ c.in-Some.is))

pub returns-in-None : goal.returns-in-None
returns-in-None c =
    let s = state_of c.args.row_tables.now in
    let row = c.args.row.now in
    c.fault.ensures
    ∙ sym (head_passes (address_rules.references s row) (address_rules.faults s None row) (sym c.missing.ensures ∙ c.in-None.is)
    ∙ one (address_fault s.addresses.rows row (is_enforcing s.global_unique s.vrfs.rows (table_of row.vrf))))
