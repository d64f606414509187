-- The numbers over a split and a join.
use Rattle.std.proofs.Common.{◌≡◌, ◌≢◌, ◌⊎◌, ℕ, zero, suc, ◌+◌, ◌-◌, ◌<◌, ◌≤◌, true, false, true≢false, List, [], ◌∷◌, ◌++◌, length, set, refl, sym, ap, ◌∙◌, subst, inl, inr, ⊎_elim, arith}
use Rattle.std.specs.Prelude.{Contains}
use Rattle.std.proofs.lemmas.List.Elements.{Contains-append_left, Contains-append_right, Contains-append_cases}
use mathlib.Core.Logic.{dite}
use mathlib.Core.Option.{some, some-injective, some-ne-none}
use native.Mathlib.Decide.{ℕ_discrete}
use lib.ListN.{get_elem?}
use Rattle.atomic_table.proofs.Lists.{at_set, set_here, set_else, at_longer}
use Rattle.history_lock.specs.Replay.{own_entries}
use Rattle.history_lock.specs.Numbers.{Holding, OwnsNumber, BearsNumber, KeepsNumbers}

module _ {A : Type 0} where
  pub in_list : (l : List A) (i : ℕ) (a : A) → get_elem? l i ≡ some a → i < length l
  in_list [] i a e = absurd (some-ne-none a (sym e))
  in_list (x ∷ xs) zero a e = omega arith
  in_list (x ∷ xs) (suc i) a e = let h = in_list xs i a e in omega arith

  -- an element of a longer list
  pub at_end : (l : List A) (a b : A) (j : ℕ) → get_elem? (l ++ a ∷ []) j ≡ some b → (get_elem? l j ≡ some b) ⊎ ((j ≡ length l) × (a ≡ b))
  at_end [] a b zero e = inr (refl, some-injective a b e)
  at_end [] a b (suc j) e = absurd (some-ne-none b (sym e))
  at_end (x ∷ xs) a b zero e = inl e
  at_end (x ∷ xs) a b (suc j) e = ⊎_elim inl (λ (t : (j ≡ length xs) × (a ≡ b)). inr (ap suc t.0, t.1)) (at_end xs a b j e)

  pub length_set : (l : List A) (i : ℕ) (a : A) → length (set l i a) ≡ length l
  length_set [] i a = refl
  length_set (x ∷ xs) zero a = refl
  length_set (x ∷ xs) (suc i) a = ap suc (length_set xs i a)

  pub one_at : (l : List A) (i j : ℕ) (a b : A) → get_elem? l i ≡ some a → get_elem? l j ≡ some b → i ≡ j → a ≡ b
  one_at l i j a b e d is = some-injective a b (sym e ∙ (ap (get_elem? l) is ∙ d))

module _ {C : Type 0} where
  -- the seat id, which had me, keeps l, and the new seat has r
  pub numbers_split : (h : List (ℕ × C)) (hs : List (Holding C)) (id k : ℕ) (me l r : (Holding C)) → KeepsNumbers h hs → get_elem? hs id ≡ some me → me.live ≡ true → 1 ≤ k → k < me.spare
      → l ≡ record me { spare = me.spare - k; weight = me.weight - k } → r ≡ record { live = true; number = me.number + (me.spare - k); spare = k; weight = k; ended = [] }
      → KeepsNumbers h (set hs id l ++ r ∷ [])
  numbers_split h hs id k me l r n at live some_part less is_l is_r =
      let z = n.sized id me at live in
      let fits = z.1 in
      let small = z.2 in
      let l_live : l.live ≡ true = ap (λ (y : (Holding C)). y.live) is_l ∙ live in
      let r_live : r.live ≡ true = ap (λ (y : (Holding C)). y.live) is_r in
      let l_number : l.number ≡ me.number = ap (λ (y : (Holding C)). y.number) is_l in
      let r_number : r.number ≡ me.number + (me.spare - k) = ap (λ (y : (Holding C)). y.number) is_r in
      let l_spare : l.spare ≡ me.spare - k = ap (λ (y : (Holding C)). y.spare) is_l in
      let r_spare : r.spare ≡ k = ap (λ (y : (Holding C)). y.spare) is_r in
      let l_weight : l.weight ≡ me.weight - k = ap (λ (y : (Holding C)). y.weight) is_l in
      let r_weight : r.weight ≡ k = ap (λ (y : (Holding C)). y.weight) is_r in
      let l_owns : (m : ℕ) → OwnsNumber l m → OwnsNumber me m × (m < me.number + (me.spare - k)) = λ m o. let a = o.1 in let b = o.2 in ((live, omega arith, omega arith), omega arith) in
      let r_owns : (m : ℕ) → OwnsNumber r m → OwnsNumber me m × (me.number + (me.spare - k) ≤ m) = λ m o. let a = o.1 in let b = o.2 in ((live, omega arith, omega arith), omega arith) in
      let Old : ℕ → (Holding C) → Type 0 = λ i x. (i ≢ id) × (get_elem? hs i ≡ some x) in
      let cases : (i : ℕ) (x : (Holding C)) → get_elem? (set hs id l ++ r ∷ []) i ≡ some x → (((i ≡ id) × (l ≡ x)) ⊎ Old i x) ⊎ ((i ≡ length (set hs id l)) × (r ≡ x)) = λ i x e.
      ⊎_elim (λ (t : get_elem? (set hs id l) i ≡ some x). inl (⊎_elim (λ (u : (i ≡ id) × (l ≡ x)). inl u) (λ (u : (i ≢ id) × (get_elem? hs i ≡ some x)). inr u) (at_set hs id i l x t))) inr (at_end (set hs id l) r x i e) in
      let each : (P : ℕ → (Holding C) → Type 0) → P id l → P (length (set hs id l)) r → ((i : ℕ) (x : (Holding C)) → i ≢ id → get_elem? hs i ≡ some x → P i x) → (i : ℕ) (x : (Holding C)) → get_elem? (set hs id l ++ r ∷ []) i ≡ some x → P i x = λ P on_l on_r others i x e.
      ⊎_elim (⊎_elim (λ (t : (i ≡ id) × (l ≡ x)). subst (λ (y : ℕ × (Holding C)). P y.0 y.1) (λ c. (sym t.0 c, t.1 c)) on_l) (λ (t : Old i x). others i x t.0 t.1))
      (λ (t : (i ≡ length (set hs id l)) × (r ≡ x)). subst (λ (y : ℕ × (Holding C)). P y.0 y.1) (λ c. (sym t.0 c, t.1 c)) on_r) (cases i x e) in
      let P_apart : ℕ → (Holding C) → Type 0 = λ i x. (j : ℕ) (y : (Holding C)) (m : ℕ) → get_elem? (set hs id l ++ r ∷ []) j ≡ some y → OwnsNumber x m → OwnsNumber y m → i ≡ j in record {
        sized = each (λ i x. x.live ≡ true → (1 ≤ x.spare) × (x.spare ≤ x.weight) × (x.number + x.spare ≤ 65536)) (λ _. (omega arith, omega arith, omega arith)) (λ _. (omega arith, omega arith, omega arith)) (λ i x other e. n.sized i x e);
        spent = each (λ i x. x.live ≡ false → x.weight ≡ 0) (λ e. absurd (true≢false (sym l_live ∙ e))) (λ e. absurd (true≢false (sym r_live ∙ e))) (λ i x other e. n.spent i x e);
        apart = λ i j x y m e d. each P_apart
            (λ j y m d o. each (λ j y. OwnsNumber y m → id ≡ j) (λ p. refl) (λ p. let a = (l_owns m o).1 in let b = (r_owns m p).1 in absurd (omega arith)) (λ j y other d p. n.apart id j me y m at d (l_owns m o).0 p) j y d)
            (λ j y m d o. each (λ j y. OwnsNumber y m → length (set hs id l) ≡ j) (λ p. let a = (r_owns m o).1 in let b = (l_owns m p).1 in absurd (omega arith)) (λ p. refl) (λ j y other d p. absurd (other (sym (n.apart id j me y m at d (r_owns m o).0 p)))) j y d)
            (λ i x other e j y m d o. each (λ j y. OwnsNumber y m → i ≡ j) (λ p. n.apart i id x me m e at o (l_owns m p).0) (λ p. absurd (other (n.apart i id x me m e at o (r_owns m p).0))) (λ j y other' d p. n.apart i j x y m e d o p) j y d)
            i x e j y m d;
        idle = λ i x m e. each (λ i x. OwnsNumber x m → m ≢ x.number → own_entries m h ≡ [])
            (λ o other. n.idle id me m at (l_owns m o).0 (λ is. other (is ∙ sym l_number)))
            (λ o other. n.idle id me m at (r_owns m o).0 (λ is. let a = (r_owns m o).1 in omega arith))
            (λ i x apart e o other. n.idle i x m e o other) i x e;
        known = λ m. ⊎_elim inl (λ (t : (i : ℕ) × (x : (Holding C)) × (get_elem? hs i ≡ some x) × (x.live ≡ true) × BearsNumber x m). inr (dite (ℕ_discrete t.0 id)
            (λ is. let same : t.1 ≡ me = one_at hs t.0 id t.1 me t.2 at is in (
              id,
              l,
              at_longer (set hs id l) (r ∷ []) id l (set_here hs id l (in_list hs id me at)),
              l_live,
              subst (λ (y : (Holding C)). BearsNumber y m) (sym is_l) (let b : BearsNumber me m = subst (λ (y : (Holding C)). BearsNumber y m) same t.4 in ⊎_elim inl inr b),
            ))
            (λ other. (t.0, t.1, at_longer (set hs id l) (r ∷ []) t.0 t.1 (set_else hs id t.0 l other ∙ t.2), t.3, t.4)))) (n.known m);
        gone = λ i x e at' on c.
            let no_owner : (m : ℕ) → ((j : ℕ) (y : (Holding C)) → get_elem? hs j ≡ some y → ¬ OwnsNumber y m) → (j : ℕ) (y : (Holding C)) → get_elem? (set hs id l ++ r ∷ []) j ≡ some y → ¬ OwnsNumber y m = λ m none.
            each (λ j y. ¬ OwnsNumber y m) (λ o. none id me at (l_owns m o).0) (λ o. none id me at (r_owns m o).0) (λ j y other d. none j y d) in
            each (λ i x. x.live ≡ true → Contains x.ended e → ((j : ℕ) (y : (Holding C)) → get_elem? (set hs id l ++ r ∷ []) j ≡ some y → ¬ OwnsNumber y e.0) × (own_entries e.0 h ≡ e.1))
            (λ on c. let g = n.gone id me e at live (subst (λ (y : (Holding C)). Contains y.ended e) is_l c) in (no_owner e.0 g.0, g.1))
            (λ on c. let d : Contains {X = ℕ × List (ℕ × C)} [] e = subst (λ (y : (Holding C)). Contains y.ended e) is_r c in let z' = d.1 in absurd (omega arith))
            (λ i x other at' on c. let g = n.gone i x e at' on c in (no_owner e.0 g.0, g.1)) i x at' on c;
      }

  here_alone : (e : ℕ × List (ℕ × C)) → Contains (e ∷ []) e
  here_alone e = (0, omega arith, refl)

  just : (e x : ℕ × List (ℕ × C)) → Contains (e ∷ []) x → e ≡ x
  just e x c = go c.0 c.1 c.2
    where
      go : (k : ℕ) → k < 1 → Rattle.std.specs.Prelude.slice_index_or (e ∷ []) k x ≡ x → e ≡ x
      go zero l is = is
      go (suc k) l is = absurd (omega arith)

  -- the seat id, which had me, takes in the seat other, which had ot
  pub numbers_join : (h : List (ℕ × C)) (hs : List (Holding C)) (id other : ℕ) (me ot b d : (Holding C)) (m : List (ℕ × C)) → KeepsNumbers h hs → get_elem? hs id ≡ some me → get_elem? hs other ≡ some ot → other ≢ id → me.live ≡ true → ot.live ≡ true
      → own_entries ot.number h ≡ m → b ≡ record me { weight = me.weight + ot.weight; ended = (me.ended ++ ot.ended) ++ (ot.number, m) ∷ [] } → d ≡ record { live = false; number = 0; spare = 0; weight = 0; ended = [] }
      → KeepsNumbers h (set (set hs id b) other d)
  numbers_join h hs id other me ot b d m n at at' apart live live' has is_b is_d =
      let z = n.sized id me at live in
      let z' = n.sized other ot at' live' in
      let b_live : b.live ≡ true = ap (λ (y : Holding C). y.live) is_b ∙ live in
      let d_dead : d.live ≡ false = ap (λ (y : Holding C). y.live) is_d in
      let b_number : b.number ≡ me.number = ap (λ (y : Holding C). y.number) is_b in
      let b_spare : b.spare ≡ me.spare = ap (λ (y : Holding C). y.spare) is_b in
      let b_weight : b.weight ≡ me.weight + ot.weight = ap (λ (y : Holding C). y.weight) is_b in
      let d_weight : d.weight ≡ 0 = ap (λ (y : Holding C). y.weight) is_d in
      let b_ended : b.ended ≡ (me.ended ++ ot.ended) ++ (ot.number, m) ∷ [] = ap (λ (y : Holding C). y.ended) is_b in
      let dead : (on : d.live ≡ true) → ⊥ = λ on. true≢false (sym on ∙ d_dead) in
      let b_owns : (k : ℕ) → OwnsNumber b k → OwnsNumber me k = λ k o. let x = o.1 in let y = o.2 in (live, omega arith, omega arith) in
      let each : (P : ℕ → Holding C → Type 0) → P id b → P other d → ((i : ℕ) (x : Holding C) → i ≢ id → i ≢ other → get_elem? hs i ≡ some x → P i x) → (i : ℕ) (x : Holding C) → get_elem? (set (set hs id b) other d) i ≡ some x → P i x = λ P on_b on_d others i x e.
      ⊎_elim (λ (t : (i ≡ other) × (d ≡ x)). subst (λ (y : ℕ × Holding C). P y.0 y.1) (λ c. (sym t.0 c, t.1 c)) on_d)
      (λ (t : (i ≢ other) × (get_elem? (set hs id b) i ≡ some x)). ⊎_elim (λ (u : (i ≡ id) × (b ≡ x)). subst (λ (y : ℕ × Holding C). P y.0 y.1) (λ c. (sym u.0 c, u.1 c)) on_b)
      (λ (u : (i ≢ id) × (get_elem? hs i ≡ some x)). others i x u.0 t.0 u.1) (at_set hs id i b x t.1)) (at_set (set hs id b) other i d x e) in
      let here : get_elem? (set (set hs id b) other d) id ≡ some b = set_else (set hs id b) other id d (λ e. apart (sym e)) ∙ set_here hs id b (in_list hs id me at) in
      let P_apart : ℕ → Holding C → Type 0 = λ i x. (j : ℕ) (y : Holding C) (k : ℕ) → get_elem? (set (set hs id b) other d) j ≡ some y → OwnsNumber x k → OwnsNumber y k → i ≡ j in
      let new : (e : ℕ × List (ℕ × C)) → Contains b.ended e → (Contains me.ended e ⊎ Contains ot.ended e) ⊎ ((ot.number, m) ≡ e) = λ e c. ⊎_elim (λ u. inl (Contains-append_cases me.ended ot.ended e u)) (λ u. inr (just (ot.number, m) e u))
      (Contains-append_cases (me.ended ++ ot.ended) ((ot.number, m) ∷ []) e (subst (λ l. Contains l e) b_ended c)) in
      let left : (e : ℕ × List (ℕ × C)) → Contains me.ended e → Contains b.ended e = λ e c. subst (λ l. Contains l e) (sym b_ended) (Contains-append_left (me.ended ++ ot.ended) ((ot.number, m) ∷ []) e (Contains-append_left me.ended ot.ended e c)) in
      let right : (e : ℕ × List (ℕ × C)) → Contains ot.ended e → Contains b.ended e = λ e c. subst (λ l. Contains l e) (sym b_ended) (Contains-append_left (me.ended ++ ot.ended) ((ot.number, m) ∷ []) e (Contains-append_right me.ended ot.ended e c)) in
      let last : Contains b.ended (ot.number, m) = subst (λ l. Contains l (ot.number, m)) (sym b_ended) (Contains-append_right (me.ended ++ ot.ended) ((ot.number, m) ∷ []) (ot.number, m) (here_alone (ot.number, m))) in
      let no_owner : (k : ℕ) → ((j : ℕ) (y : Holding C) → j ≢ other → get_elem? hs j ≡ some y → ¬ OwnsNumber y k) → (j : ℕ) (y : Holding C) → get_elem? (set (set hs id b) other d) j ≡ some y → ¬ OwnsNumber y k = λ k none.
      each (λ j y. ¬ OwnsNumber y k) (λ o. none id me (λ e. apart (sym e)) at (b_owns k o)) (λ o. dead o.0) (λ j y _ not_other d'. none j y not_other d') in record {
        sized = each (λ i x. x.live ≡ true → (1 ≤ x.spare) × (x.spare ≤ x.weight) × (x.number + x.spare ≤ 65536)) (λ _. let f = z.0 in let g = z.1 in let s = z.2 in (omega arith, omega arith, omega arith)) (λ on. absurd (dead on)) (λ i x _ _ e. n.sized i x e);
        spent = each (λ i x. x.live ≡ false → x.weight ≡ 0) (λ e. absurd (true≢false (sym b_live ∙ e))) (λ _. d_weight) (λ i x _ _ e. n.spent i x e);
        apart = λ i j x y k e d'. each P_apart
            (λ j y k d' o. each (λ j y. OwnsNumber y k → id ≡ j) (λ _. refl) (λ p. absurd (dead p.0)) (λ j y _ _ d' p. n.apart id j me y k at d' (b_owns k o) p) j y d')
            (λ j y k d' o p. absurd (dead o.0))
            (λ i x _ _ e j y k d' o. each (λ j y. OwnsNumber y k → i ≡ j) (λ p. n.apart i id x me k e at o (b_owns k p)) (λ p. absurd (dead p.0)) (λ j y _ _ d' p. n.apart i j x y k e d' o p) j y d')
            i x e j y k d';
        idle = λ i x k e. each (λ i x. OwnsNumber x k → k ≢ x.number → own_entries k h ≡ []) (λ o not. n.idle id me k at (b_owns k o) (λ is. not (is ∙ sym b_number))) (λ o _. absurd (dead o.0)) (λ i x _ _ e o not. n.idle i x k e o not) i x e;
        known = λ k. ⊎_elim inl (λ (t : (i : ℕ) × (x : Holding C) × (get_elem? hs i ≡ some x) × (x.live ≡ true) × BearsNumber x k). inr (dite (ℕ_discrete t.0 id)
            (λ is. let same : t.1 ≡ me = one_at hs t.0 id t.1 me t.2 at is in (id, b, here, b_live, ⊎_elim (λ e. inl (e ∙ (ap (λ (y : Holding C). y.number) same ∙ sym b_number))) (λ c. inr (c.0, left (k, c.0) (subst (λ (y : Holding C). Contains y.ended (k, c.0)) same c.1))) t.4))
            (λ not_id. dite (ℕ_discrete t.0 other)
            (λ is. let same : t.1 ≡ ot = one_at hs t.0 other t.1 ot t.2 at' is in (id, b, here, b_live, ⊎_elim (λ e. inr (m, subst (λ (w : ℕ). Contains b.ended (w, m)) (sym (e ∙ ap (λ (y : Holding C). y.number) same)) last)) (λ c. inr (c.0, right (k, c.0) (subst (λ (y : Holding C). Contains y.ended (k, c.0)) same c.1))) t.4))
            (λ not_other. (t.0, t.1, set_else (set hs id b) other t.0 d not_other ∙ (set_else hs id t.0 b not_id ∙ t.2), t.3, t.4))))) (n.known k);
        gone = λ i x e. λ at'' on c. each (λ i x. x.live ≡ true → Contains x.ended e → ((j : ℕ) (y : Holding C) → get_elem? (set (set hs id b) other d) j ≡ some y → ¬ OwnsNumber y e.0) × (own_entries e.0 h ≡ e.1))
            (λ _ c. ⊎_elim (⊎_elim
            (λ u. let g = n.gone id me e at live u in (no_owner e.0 (λ j y _ d'. g.0 j y d'), g.1))
            (λ u. let g = n.gone other ot e at' live' u in (no_owner e.0 (λ j y _ d'. g.0 j y d'), g.1)))
            (λ (u : (ot.number, m) ≡ e). subst (λ (q : ℕ × List (ℕ × C)). ((j : ℕ) (y : Holding C) → get_elem? (set (set hs id b) other d) j ≡ some y → ¬ OwnsNumber y q.0) × (own_entries q.0 h ≡ q.1)) u
            (no_owner ot.number (λ j y not_other d' o. not_other (n.apart j other y ot ot.number d' at' o (live', omega arith, (let f = z'.0 in omega arith)))), has))
            (new e c))
            (λ on _. absurd (dead on))
            (λ i x _ _ e' on c. let g = n.gone i x e e' on c in (no_owner e.0 (λ j y _ d'. g.0 j y d'), g.1)) i x at'' on c;
      }
