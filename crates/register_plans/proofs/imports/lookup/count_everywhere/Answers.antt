use Rattle.std.proofs.Common.{◌≡◌, ◌∙◌, ℕ, List, Bool, cond, ap, sym, arith}
use Rattle.std.specs.Prelude.{bytes_eq}
use Rattle.register_tables.specs.Held.{state_of}
use Rattle.register_plans.specs.ReadyRows.{key_of_row}
use Rattle.register_plans.proofs.LookedUp.{keys_counted_next}
use Rattle.register_plans.proofs.imports.lookup.count_everywhere.Goals as goal
use Rattle.register_plans.proofs.imports.lookup.count_everywhere.Goals.{then-eq, else-eq}

pub records-preserved : goal.records-preserved
records-preserved g c =
    let rules = g.T.Listed.rules in
    let rows = (rules.row_list (state_of c.args.row_tables.now)).rows in
    let key : List ℕ = c.args.key.now in
    let own : List ℕ = c.as_str.result.now in
    let same : own ≡ key_of_row rules c.row_at_index-row.result.now = c.as_str.ensures.value ∙ c.in_ok-own.ensures in
    let next = keys_counted_next rules key rows c.records.index c.row_at_index-row.result.now own (sym c.row_at_index-row.ensures) same in
    let before = c.records.invariant.counted in
    let few = c.records.invariant.few in
    let test : c.eq.result ≡ bytes_eq key own = c.eq.ensures in
    elim c.if-eq.branch [
      | then-eq w ↦ (
          let one : cond {A = ℕ} (bytes_eq key own) 1 0 ≡ 1 = ap (λ (b : Bool). cond {A = ℕ} b 1 0) (sym test ∙ w.if-eq.true) in
          let is = w.count-is in record { counted = omega (arith, next, before, one, is); few = omega (arith, few, is) })
      | else-eq w ↦ (
          let none : cond {A = ℕ} (bytes_eq key own) 1 0 ≡ 0 = ap (λ (b : Bool). cond {A = ℕ} b 1 0) (sym test ∙ w.if-eq.false) in
          let is = w.count-is in record { counted = omega (arith, next, before, none, is); few = omega (arith, few, is) })
    ]
