-- What a step does to the numbers.
use Rattle.std.proofs.Common.{◌≡◌, ℕ, ◌≤◌, Bool, true, false, List, map, set, refl, sym, ap, ◌∙◌, subst, inl, inr, ⊎_elim, arith}
use mathlib.Core.Logic.{dite}
use mathlib.Core.Option.{some, some-injective}
use native.Mathlib.Decide.{ℕ_discrete}
use lib.ListN.{get_elem?}
use lib.Seq.{map-set}
use Rattle.atomic_table.proofs.Lists.{set_again, at_map}
use Rattle.history_lock.specs.declared.views.View.{View}
use Rattle.history_lock.specs.Replies.{ReplyKind, grown}
use Rattle.history_lock.proofs.Entries.{own_grown_else}
use Rattle.history_lock.specs.Numbers.{Holding, holding_of, OwnsNumber, KeepsNumbers}

module _ {S C : Type 0} where
  pub holds_same : (vs : List (View S C)) (i : ℕ) (v w : View S C) → get_elem? vs i ≡ some v → holding_of w ≡ holding_of v → map holding_of (set vs i w) ≡ map holding_of vs
  holds_same vs i v w at e = map-set holding_of vs i w ∙ (ap (set (map holding_of vs) i) e ∙ set_again (map holding_of vs) i (holding_of v) (at_map holding_of vs i v at))

module _ {C : Type 0} where
  -- a live seat's number gets an entry, or none does
  pub numbers_grow : (k : ReplyKind) (c : C) (h : List (ℕ × C)) (hs : List (Holding C)) (id : ℕ) (me : Holding C) → KeepsNumbers h hs → get_elem? hs id ≡ some me → me.live ≡ true → KeepsNumbers (grown k (me.number, c) h) hs
  numbers_grow k c h hs id me r at live =
      let own_mine : OwnsNumber me me.number = (live, omega arith, (let z = (r.sized id me at live).0 in omega arith)) in record {
        sized = r.sized;
        spent = r.spent;
        apart = r.apart;
        idle = λ i x n at' owns other. own_grown_else k n (me.number, c) h
            (λ e. let same = r.apart i id x me n at' at owns (subst (OwnsNumber me) e own_mine) in other (sym e ∙ ap (λ (y : Holding C). y.number) (some-injective me x (sym at ∙ (ap (get_elem? hs) (sym same) ∙ at')))))
            ∙ r.idle i x n at' owns other;
        known = λ n. dite (ℕ_discrete me.number n) (λ e. inr (id, me, at, live, inl (sym e)))
            (λ other. ⊎_elim (λ none. inl (own_grown_else k n (me.number, c) h other ∙ none)) inr (r.known n));
        gone = λ i x e at' live' in_it. let g = r.gone i x e at' live' in_it in
            (g.0, own_grown_else k e.0 (me.number, c) h (λ is. g.0 id me at (subst (OwnsNumber me) is own_mine)) ∙ g.1);
      }

  -- of a seat with a weight
  pub alive : (h : List (ℕ × C)) (hs : List (Holding C)) (id : ℕ) (me : Holding C) → KeepsNumbers h hs → get_elem? hs id ≡ some me → 1 ≤ me.weight → me.live ≡ true
  alive h hs id me r at heavy = go me.live refl
    where
      go : (b : Bool) → me.live ≡ b → me.live ≡ true
      go true e = e
      go false e = let z = r.spent id me at e in absurd (omega arith)
