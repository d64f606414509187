use Rattle.std.proofs.Common.{◌≡◌, ◌∙◌, sym, ap, true, false}
use Rattle.ipam_data.specs.declared.kinds.Table.{Table}
use Rattle.ipam_data.specs.Tables.{table_of, same_table}
use Rattle.ip_addresses.proofs.Sharing.{pair_in_no_table, pair_found, pair_none}
use Rattle.ip_addresses.proofs.clashes.pair_at.Goals as goal

pub returns-then-not-is_one_table : goal.returns-then-not-is_one_table
returns-then-not-is_one_table g c = λ x e.
    let other : same_table (table_of c.in-Some.row.now.vrf) c.args.table ≡ false = ap (λ (t : Table). same_table t c.args.table) (sym c.of.ensures) ∙ sym c.is_one_table.ensures ∙ c.if-not-is_one_table.true in
    pair_in_no_table c.args.table c.args.book.now.rows c.args.index c.in-Some.row.now x c.in-Some.ensures e other

pub returns-in-Some-clash_behind : goal.returns-in-Some-clash_behind
returns-in-Some-clash_behind g c = λ x e.
    let own : same_table (table_of c.in-Some.row.now.vrf) c.args.table ≡ true = ap (λ (t : Table). same_table t c.args.table) (sym c.of.ensures) ∙ sym c.is_one_table.ensures ∙ c.if-not-is_one_table.false in
    pair_found c.args.table c.args.book.now.rows c.args.index c.in-Some.row.now x c.in-Some.ensures e c.in_order.ensures.ordered own c.in-Some-clash_behind.other c.in-Some-clash_behind.ensures

pub returns-in-None-clash_behind : goal.returns-in-None-clash_behind
returns-in-None-clash_behind g c = λ x e.
    let own : same_table (table_of c.in-Some.row.now.vrf) c.args.table ≡ true = ap (λ (t : Table). same_table t c.args.table) (sym c.of.ensures) ∙ sym c.is_one_table.ensures ∙ c.if-not-is_one_table.false in
    pair_none c.args.table c.args.book.now.rows c.args.index c.in-Some.row.now x c.in-Some.ensures e c.in_order.ensures.ordered own c.in-None-clash_behind.ensures
