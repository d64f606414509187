-- Histories: what each step keeps up to a call that releases it, a replay keeps from one place to another, if no entry between releases it.
use Rattle.std.proofs.Common.{◌<◌, ◌∷◌, ◌≡◌, ◌≤◌, ◌⊎◌, Bool, Contains, IsSome, List, None, Option, Some, [], ap, arith, false, inl, inr, length, refl, subst, suc, sym, take, true, zero, ℕ}
use Rattle.std.specs.List.{AllByRecursion, slice_get}
use Rattle.ipam_data.specs.Addresses.{address_rules}
use Rattle.ipam_data.specs.Aggregates.{aggregate_rules}
use Rattle.ipam_data.specs.Plans.{KindRules}
use Rattle.ipam_data.specs.Prefixes.{prefix_rules}
use Rattle.ipam_data.specs.Ranges.{range_rules}
use Rattle.ipam_data.specs.Replays.{Entry, is_accepted, replay}
use Rattle.ipam_data.specs.Rirs.{rir_rules}
use Rattle.ipam_data.specs.Roles.{role_rules}
use Rattle.ipam_data.specs.RowList.{AllBelow, row_at}
use Rattle.ipam_data.specs.State.{State}
use Rattle.ipam_data.specs.Steps.{plain_step}
use Rattle.ipam_data.specs.Vrfs.{vrf_rules}
use Rattle.ipam_data.specs.declared.calls.Call.{Call}
use Rattle.ipam_data.proofs.Kept.{found_there}
use Rattle.ipam_data.proofs.Quiet.{steps_stay}
use Rattle.claim_laws.specs.Histories.{IdsNeverReturn, IsBetween, NeverTwice}
use Rattle.claim_laws.specs.Rows.{IdsOfKindAreNew, IsListed, IsMade}
use Rattle.claim_laws.proofs.Listed.{step_listed}
use Rattle.claim_laws.proofs.NewIds.{ids_are_new}
use Rattle.claim_laws.proofs.Withstand.{id_under}

-- ---- places of a history

-- nothing is asked of entries
pub none_asked : (history : List Entry) → AllByRecursion (λ (e : Entry). Unit {0}) history
none_asked [] = tt
none_asked (e ∷ es) = (tt, none_asked es)

-- the state after the entry of a place
pub after_entry : (history : List Entry) (i : ℕ) (s : State) (e : Entry) → slice_get history i ≡ Some e → replay s (take (suc i) history) ≡ (plain_step (replay s (take i history)) e.call).0
after_entry [] i s e q = cc
after_entry (f ∷ fs) zero s e q = (let same : f ≡ e = cc in ap (λ (g : Entry). (plain_step s g.call).0) same)
after_entry (f ∷ fs) (suc i) s e q = after_entry fs i (plain_step s f.call).0 e q

-- an accepted entry from one place on and before another, with a call that is such in its state
pub record IsFrom (s : State) (history : List Entry) (from to : ℕ) (Is : State → Call → Type 0) : Type 0 where
  pub place : ℕ
  pub entry : Entry
  pub from_on : from ≤ place
  pub before : place < to
  pub there : slice_get history place ≡ Some entry
  pub accepted : is_accepted (plain_step (replay s (take place history)) entry.call).1 ≡ true
  pub is : Is (replay s (take place history)) entry.call

pub between : (s : State) (history : List Entry) (i j : ℕ) (Is : State → Call → Type 0) → IsFrom s history (suc i) j Is → IsBetween s history i j Is
between s history i j Is t = record { place = t.place; after = (let a = t.from_on in omega arith); before = t.before; entry = t.entry; there = t.there; accepted = t.accepted; is = t.is }

later : (s : State) (e : Entry) (es : List Entry) (from to : ℕ) (Is : State → Call → Type 0) → IsFrom (plain_step s e.call).0 es from to Is → IsFrom s (e ∷ es) (suc from) (suc to) Is
later s e es from to Is t = record {
  place = suc t.place;
  entry = t.entry;
  from_on = (let a = t.from_on in omega arith);
  before = (let a = t.before in omega arith);
  there = t.there;
  accepted = t.accepted;
  is = t.is;
}

sooner : (s : State) (history : List Entry) (to : ℕ) (Is : State → Call → Type 0) → IsFrom s history 1 to Is → IsFrom s history zero to Is
sooner s history to Is t = record { place = t.place; entry = t.entry; from_on = omega arith; before = t.before; there = t.there; accepted = t.accepted; is = t.is }

-- of states that each step keeps so, where the calls are so
module _ (Good : State → Type 0) (Ok : Call → Type 0) (steps : (s : State) (call : Call) → Good s → Ok call → Good (plain_step s call).0) where
  -- each state of a replay is one
  pub good_at : (history : List Entry) (n : ℕ) (s : State) → Good s → AllByRecursion (λ (e : Entry). Ok e.call) history → Good (replay s (take n history))
  good_at history zero s h b = h
  good_at [] (suc n) s h b = h
  good_at (e ∷ es) (suc n) s h b = good_at es n (plain_step s e.call).0 (steps s e.call h b.0) b.1

  module _ (P : State → Type 0) (Releases : State → Call → Type 0) (keeps : (s : State) (call : Call) → Good s → is_accepted (plain_step s call).1 ≡ true → P s → P (plain_step s call).0 ⊎ Releases s call) where
    step_keeps : (s : State) (e : Entry) (es : List Entry) (to : ℕ) → Good s → P s → P (plain_step s e.call).0 ⊎ IsFrom s (e ∷ es) zero (suc to) Releases
    step_keeps s e es to h p = go (is_accepted (plain_step s e.call).1) refl
      where
        go : (a : Bool) → is_accepted (plain_step s e.call).1 ≡ a → P (plain_step s e.call).0 ⊎ IsFrom s (e ∷ es) zero (suc to) Releases
        go false a = inl (subst P (sym (steps_stay s e.call a)) p)
        go true a = elim (keeps s e.call h a p) [
          | inl q ↦ inl q
          | inr r ↦ inr (record { place = zero; entry = e; from_on = omega arith; before = omega arith; there = refl; accepted = a; is = r })
        ]

    pub kept_to : (history : List Entry) (from to : ℕ) (s : State) → from ≤ to → to ≤ length history → Good s → AllByRecursion (λ (e : Entry). Ok e.call) history → P (replay s (take from history))
        → P (replay s (take to history)) ⊎ IsFrom s history from to Releases
    kept_to history zero zero s l m h b p = inl p
    kept_to history (suc from) zero s l m h b p = absurd (omega arith)
    kept_to [] from (suc to) s l m h b p = absurd (omega arith)
    kept_to (e ∷ es) zero (suc to) s l m h b p =
        go (step_keeps s e es to h p) (λ q. kept_to es zero to (plain_step s e.call).0 (omega arith) (omega arith) (steps s e.call h b.0) b.1 q)
      where
        go : P (plain_step s e.call).0 ⊎ IsFrom s (e ∷ es) zero (suc to) Releases
            → (P (plain_step s e.call).0 → P (replay (plain_step s e.call).0 (take to es)) ⊎ IsFrom (plain_step s e.call).0 es zero to Releases)
            → P (replay (plain_step s e.call).0 (take to es)) ⊎ IsFrom s (e ∷ es) zero (suc to) Releases
        go (inr r) ih = inr r
        go (inl q) ih = elim (ih q) [ inl k ↦ inl k | inr r ↦ inr (sooner s (e ∷ es) (suc to) Releases (later s e es zero to Releases r)) ]
    kept_to (e ∷ es) (suc from) (suc to) s l m h b p = elim (kept_to es from to (plain_step s e.call).0 (omega arith) (omega arith) (steps s e.call h b.0) b.1 p) [
      | inl q ↦ inl q
      | inr r ↦ inr (later s e es from to Releases r)
    ]

-- ---- rows that a call made

module _ {T : Type 0} (rules : KindRules T) (new : IdsOfKindAreNew rules) where
  -- a row that a call made has an id from the next one on
  pub made_above : (s : State) (call : Call) (x : T) → IsMade rules s call x → (rules.row_list s).next ≤ rules.id x
  made_above s call x m = elim ((new s call).1 x m.0) [
    | inl old ↦ go (row_at rules.id (rules.row_list s).rows (rules.id x)) refl old
    | inr l ↦ l
  ]
    where
      go : (found : Option T) → row_at rules.id (rules.row_list s).rows (rules.id x) ≡ found → IsSome found → (rules.row_list s).next ≤ rules.id x
      go None e h = cc
      go (Some y) e h = let f = found_there rules.id (rules.row_list s).rows (rules.id x) y e in absurd (m.1 y f.0 f.1)

  -- a call that made something was accepted
  pub made_accepted : (s : State) (call : Call) (x : T) → IsMade rules s call x → is_accepted (plain_step s call).1 ≡ true
  made_accepted s call x m = go (is_accepted (plain_step s call).1) refl
    where
      go : (t : Bool) → is_accepted (plain_step s call).1 ≡ t → is_accepted (plain_step s call).1 ≡ true
      go true e = e
      go false e = absurd (m.1 x (subst (λ (t : State). Contains (rules.row_list t).rows x) (steps_stay s call e) m.0) refl)

  next_rises : (history : List Entry) (i j : ℕ) (s : State) → i ≤ j → (rules.row_list (replay s (take i history))).next ≤ (rules.row_list (replay s (take j history))).next
  next_rises history zero zero s l = omega arith
  next_rises history (suc i) zero s l = absurd (omega arith)
  next_rises [] i (suc j) s l = go i
    where
      go : (i : ℕ) → (rules.row_list (replay s (take i []))).next ≤ (rules.row_list s).next
      go zero = omega arith
      go (suc i) = omega arith
  next_rises (e ∷ es) zero (suc j) s l =
      let one = (new s e.call).0 in
      let rest = next_rises es zero j (plain_step s e.call).0 (omega arith) in
      omega arith
  next_rises (e ∷ es) (suc i) (suc j) s l = next_rises es i j (plain_step s e.call).0 (omega arith)

  -- so no id is given twice
  pub never_twice : ((s : State) → IsListed s → AllBelow rules.id (rules.row_list s).next (rules.row_list s).rows) → NeverTwice rules
  never_twice below s history i j one other x y h l p q m n =
      let steps : (t : State) (call : Call) → IsListed t → Unit {0} → IsListed (plain_step t call).0 = λ t call g u. step_listed t call g in
      let at : IsListed (replay s (take (suc i) history)) = good_at IsListed (λ call. Unit {0}) steps history (suc i) s h (none_asked history) in
      let there : Contains (rules.row_list (replay s (take (suc i) history))).rows x = subst (λ (t : State). Contains (rules.row_list t).rows x) (sym (after_entry history i s one p)) m.0 in
      let under = id_under rules.id (rules.row_list (replay s (take (suc i) history))).next (rules.row_list (replay s (take (suc i) history))).rows x (below (replay s (take (suc i) history)) at) there in
      let up = next_rises history (suc i) j s (omega arith) in
      let above = made_above (replay s (take j history)) other.call y n in
      omega arith

pub ids_never_return : IdsNeverReturn
ids_never_return = record {
  vrfs = never_twice vrf_rules ids_are_new.vrfs (λ s h. h.vrfs.below);
  rirs = never_twice rir_rules ids_are_new.rirs (λ s h. h.rirs.below);
  roles = never_twice role_rules ids_are_new.roles (λ s h. h.roles.below);
  aggregates = never_twice aggregate_rules ids_are_new.aggregates (λ s h. h.aggregates.below);
  prefixes = never_twice prefix_rules ids_are_new.prefixes (λ s h. h.prefixes.below);
  ranges = never_twice range_rules ids_are_new.ranges (λ s h. h.ranges.below);
  addresses = never_twice address_rules ids_are_new.addresses (λ s h. h.addresses.below);
}
