-- The faults of all live seats are counted.
use Rattle.std.proofs.Common.{◌≡◌, ◌∙◌, ℕ, ◌+◌, ◌≤◌, Bool, true, false, cond, map, inl, inr, refl, sym, ap, subst, arith}
use mathlib.Core.Option.{some}
use lib.ListN.{get_elem?}
use Rattle.atomic_table.proofs.Lists.{at_map}
use Rattle.history_lock.specs.Machines.{Meaning, Reaches}
use Rattle.history_lock.specs.Numbers.{holding_of}
use Rattle.history_lock.specs.Views.{HasTurn, tickets_held, faults_of}
use Rattle.history_lock.specs.LockRule.{Board, KeepsOneHistory, total}
use Rattle.history_lock.specs.Bounds.{FaultsAreBounded, HasCount, live_faults}
use Rattle.history_lock.specs.declared.views.View.{View}
use Rattle.history_lock.specs.declared.views.Stage.{Stage}
use Rattle.history_lock.specs.declared.views.Stage.TheVariants.{Idle, Waits, Turns}
use Rattle.history_lock.proofs.Holds.{alive}
use Rattle.history_lock.proofs.Keeps.{reaches_same}
use Rattle.history_lock.proofs.Totals.{total_le}

one_ticket : (stage : Stage) → HasTurn stage → 1 ≤ tickets_held stage
one_ticket Idle h = absurd h
one_ticket (Waits t) h = absurd h
one_ticket (Turns t) h = omega arith

at_most : (live : Bool) (n : ℕ) → cond live n 0 ≤ n
at_most true n = omega arith
at_most false n = omega arith

module _ {M S C A : Type 0} (W : Meaning M S C A) (key : M) (s : Board M S C) (h : KeepsOneHistory W key s) where
  live_at_most : total live_faults s.views ≤ total faults_of s.views
  live_at_most = total_le live_faults faults_of s.views (λ i v e. at_most v.live v.faults)

  -- the seat with the turn is live
  turn_live : (j : ℕ) (v : View S C) → get_elem? s.views j ≡ some v → HasTurn v.stage → v.live ≡ true
  turn_live j v at turn =
      let heavy = (h.each j v at).heavy in
      let one = one_ticket v.stage turn in
      alive h.history (map holding_of s.views) j (holding_of v) h.numbers (at_map holding_of s.views j v at) (omega arith)

  some_count : (count : ℕ) × HasCount W s count
  some_count = elim h.place as (λ _. (count : ℕ) × HasCount W s count) [
    | inl p ↦ (W.faults p.0, inl (p.0, p.1, refl))
    | inr p ↦ (p.2.total, inr (p.0, p.1, p.2, p.3, p.4, refl))
  ]

  each_count : (count : ℕ) → HasCount W s count → Reaches (W.faults key + total live_faults s.views) count
  each_count count (inl (x, e, c)) = elim h.place as (λ _. Reaches (W.faults key + total live_faults s.views) count) [
    | inl p ↦ let same : p.0 ≡ x = cc (p.1, e) in
        let few = live_at_most in
        reaches_same _ _ _ (omega arith) (subst (Reaches (W.faults key + total faults_of s.views)) (ap W.faults same ∙ sym c) p.2.count)
    | inr p ↦ cc (p.0, e)
  ]
  each_count count (inr (e, j, v, at, turn, c)) =
      let few = live_at_most in
      let f = h.each j v at in
      let base = (f.start (turn_live j v at turn)).1 in
      let lead = (f.turn turn).total in
      subst (Reaches (W.faults key + total live_faults s.views)) (sym c) (reaches_same _ (v.base + total faults_of s.views) _ (omega arith) lead)

  counted : ((count : ℕ) × HasCount W s count) × ((count : ℕ) → HasCount W s count → Reaches (W.faults key + total live_faults s.views) count)
  counted = (some_count, each_count)

pub bounded : {M S C A : Type 0} (W : Meaning M S C A) → FaultsAreBounded W
bounded W key s h = counted W key s h
