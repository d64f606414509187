use Rattle.std.proofs.Common.{◌∙◌, ℕ, ◌<◌, ◌≤◌, ◌^◌, List, length, map, take, sym, arith}
use Rattle.register_tables.specs.Held.{state_of}
use Rattle.register_plans.specs.ReadyRows.{key_of_row}
use Rattle.register_plans.proofs.CountedKeys.{left_small, few_taken, count_next}
use Rattle.register_plans.proofs.imports.keys.count_kind.Goals as goal

pub count-requires : goal.count-requires
count-requires g c = λ n e.
    let rules = g.T.Listed.rules in
    let rows = (rules.row_list (state_of c.args.row_tables.now)).rows in
    let counted : List (List ℕ) = map (key_of_row rules) (take c.records.index rows) in
    let small : n ≤ length counted = left_small c.records.left c.requires.0 counted c.deref.result.now n (c.records.invariant c.requires.0 c.requires.1) e in
    let few : length counted ≤ length rows = few_taken (key_of_row rules) c.records.index rows in
    let all : length rows < 2 ^ 30 = c.count-count.ensures.few in
    omega arith

pub records-preserved : goal.records-preserved
records-preserved g c = λ keys left.
    let rules = g.T.Listed.rules in
    let rows = (rules.row_list (state_of c.args.row_tables.now)).rows in
    let counted : List (List ℕ) = map (key_of_row rules) (take c.records.index rows) in
    count_next rules c.count.new.self keys rows c.records.index c.row_at_index-row.result.now c.deref.result.now
    (sym c.row_at_index-row.ensures) (c.deref.ensures ∙ c.in_ok-key.ensures)
    (c.count.ensures keys counted (c.records.invariant keys left))
