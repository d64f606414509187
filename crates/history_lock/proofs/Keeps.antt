-- Each step keeps the rule of the lock.
use Rattle.std.proofs.Common.{◌≡◌, ◌≢◌, ◌⊎◌, ℕ, ◌+◌, ◌-◌, ◌%◌, ◌^◌, ◌<◌, ◌≤◌, List, [], ◌∷◌, ◌++◌, map, Bool, true, false, suc, true≢false, length, get_or, set, refl, sym, ap, ◌∙◌, subst, inl, inr, ⊎_elim, arith, length-append}
use Rattle.std.proofs.Math.Nat.{mod-add-mod, mod-eq_of_lt}
use Rattle.std.specs.Prelude.{Contains, take, slice_get, Option, Some, None}
use Rattle.std.proofs.Math.Seq.{take-append_seam, take-length}
use mathlib.Core.Logic.{dite}
use mathlib.Core.Option.{none, some, some-injective, some-ne-none}
use native.Mathlib.Decide.{ℕ_discrete}
use lib.ListN.{get_elem?}
use lib.Seq.{set-get_or}
use Rattle.atomic_table.specs.Table.{State, Me, opening, step, keeps, takes, gives, stepped, rest, Allows}
use Rattle.atomic_table.proofs.Lists.{set_here, set_else, set_again, one_turn, at_map}
use Rattle.history_lock.specs.Replies.{ReplyKind, accepted, fault, memory, plain, grown, rise_of, failures_of, AnswersAs}
use Rattle.history_lock.specs.Machines.{Meaning, Reaches, last_count, IsAct}
use Rattle.history_lock.specs.Replay.{replay}
use Rattle.history_lock.specs.declared.views.View.{View}
use Rattle.history_lock.specs.declared.views.Stage.{Stage}
use Rattle.history_lock.specs.declared.views.Stage.TheVariants.{Idle, Waits, Turns}
use Rattle.history_lock.specs.LockRule.{total, FitsRule, IsAtHome, KeepsOneHistory, Board}
use Rattle.history_lock.specs.Views.{tickets_held, HasTicket, HasTurn, tickets_of, weight_of, faults_of, waiting, rested, leading, first_view, told}
use Rattle.history_lock.specs.Moves.{Token, IsTaken, HasDrawn, HasLooked, HasPublished, HasPassed, HasRung}
use mathlib.Core.List.{IsPrefix}
use Rattle.history_lock.specs.Replay.{own_entries}
use Rattle.history_lock.specs.Numbers.{Holding, holding_of, OwnsNumber, KeepsNumbers}
use Rattle.history_lock.specs.Seats.{seat_view_of, IsCall}
use Rattle.atomic_table.specs.Seated.{TableId}
use Rattle.history_lock.proofs.Entries.{own_grown_else, own_grown_same}
use Rattle.history_lock.proofs.Holds.{holds_same, numbers_grow, alive}
use Rattle.history_lock.proofs.Totals.{total_set, total_le, total_two}
use Rattle.history_lock.proofs.Lists.{put, put_here, put_else, prefix_same, prefix_more, prefix_length, prefix_trans, each_set, single}

-- the count after a call
pub reaches : (k : ReplyKind) (m n : ℕ) → m ≤ n → (k ≡ fault → (m < n) ⊎ (last_count ≤ n)) → Reaches (m + failures_of k) n
reaches accepted m n up f = inl (omega arith)
reaches memory m n up f = inl (omega arith)
reaches plain m n up f = inl (omega arith)
reaches fault m n up f = ⊎_elim (λ l. inl (omega arith)) (λ l. inr l) (f refl)

-- a bound on the first count is one on a later count
pub reaches_on : (a b m n : ℕ) → a ≤ b → Reaches b m → Reaches m n → Reaches a n
reaches_on a b m n le first next = ⊎_elim (λ l. ⊎_elim (λ l'. inl (omega arith)) (λ l'. inr l') next) (λ l. ⊎_elim (λ l'. inr (omega arith)) (λ l'. inr l') next) first

pub reaches_same : (a b m : ℕ) → a ≤ b → Reaches b m → Reaches a m
reaches_same a b m le first = ⊎_elim (λ l. inl (omega arith)) (λ l. inr l) first

pub reaches_more : (a m k : ℕ) → Reaches a m → Reaches (a + k) (m + k)
reaches_more a m k first = ⊎_elim (λ l. inl (omega arith)) (λ l. inr (omega arith)) first

module _ {C : Type 0} where
  pub grows : (k : ReplyKind) (e : ℕ × C) (xs ys : List (ℕ × C)) → IsPrefix xs ys → IsPrefix xs (grown k e ys)
  grows accepted e xs ys p = prefix_more xs ys (e ∷ []) p
  grows fault e xs ys p = p
  grows memory e xs ys p = p
  grows plain e xs ys p = p

  pub length-grown : (k : ReplyKind) (e : ℕ × C) (xs : List (ℕ × C)) → length (grown k e xs) ≡ length xs + rise_of k
  length-grown accepted e xs = length-append xs (e ∷ [])
  length-grown fault e xs = omega arith
  length-grown memory e xs = omega arith
  length-grown plain e xs = omega arith

past_three : (a b c k : ℕ) (l : List ℕ) (i : ℕ) → set (a ∷ b ∷ c ∷ l) (3 + i) k ≡ a ∷ b ∷ c ∷ set l i k
past_three a b c k l i = let e : suc (suc (suc i)) ≡ 3 + i = omega arith in subst (λ n. set (a ∷ b ∷ c ∷ l) n k ≡ a ∷ b ∷ c ∷ set l i k) e refl

abbrev first_or : {A : Type 0} → A → List A → A
first_or d [] = d
first_or d (x ∷ xs) = x

sole : {A : Type 0} (x y : A) → x ∷ [] ≡ y ∷ [] → x ≡ y
sole x y e = ap (first_or x) e

module _ {M S C A : Type 0} (W : Meaning M S C A) (key : M) where
  abbrev V : Type 0
  V = View S C

  abbrev St : Type 0
  St = Board M S C

  abbrev Me' : Type 0
  Me' = Token M S C

  abbrev Rule : St → Type 0
  Rule = KeepsOneHistory W key

  abbrev K : List (ℕ × C) → ℕ → ℕ → ℕ → (ℕ → ℕ) → ℕ → V → Type 0
  K = λ h drawn turned faults owner j v. FitsRule h (W.opening key) (W.faults key) drawn turned faults owner j v

  pub inside : (l : List V) (i : ℕ) (a : V) → get_elem? l i ≡ some a → i < length l
  inside [] i a e = absurd (some-ne-none a (sym e))
  inside (x ∷ xs) Rattle.std.proofs.Common.zero a e = omega arith
  inside (x ∷ xs) (Rattle.std.proofs.Common.suc i) a e = let h = inside xs i a e in omega arith

  -- no seat has the turn afterwards where none had
  pub still_none : (s : St) (id : ℕ) (w : V) → ¬ HasTurn w.stage → ((j : ℕ) (v : V) → get_elem? s.views j ≡ some v → ¬ HasTurn v.stage) → (j : ℕ) (v : V) → get_elem? (set s.views id w) j ≡ some v → ¬ HasTurn v.stage
  still_none s id w mine none_had = each_set (λ j v. ¬ HasTurn v.stage) s.views id w mine (λ j v _ e. none_had j v e)

  pub view_at : (s : St) (id j : ℕ) (me v : V) → get_elem? s.views id ≡ some me → get_elem? s.views j ≡ some v → j ≡ id → v ≡ me
  view_at s id j me v at e is = some-injective v me (sym e ∙ (ap (get_elem? s.views) is ∙ at))

  -- a seat with all the weight has seen the whole history
  pub alone_whole : (s : St) (r : Rule s) (id : ℕ) (v : V) → get_elem? s.views id ≡ some v → v.weight ≡ 65536 → v.seen ≡ r.history
  alone_whole s r id v at all = dite (ℕ_discrete r.whole.0 id)
      (λ is. ap (λ (z : V). z.seen) (sym (view_at s id r.whole.0 v r.whole.1 at r.whole.2 is)) ∙ r.whole.4)
      (λ other. let z = r.numbers.sized r.whole.0 (holding_of r.whole.1) (at_map holding_of s.views r.whole.0 r.whole.1 r.whole.2) r.whole.3 in let a = z.0 in let b = z.1 in
      let t = total_two weight_of s.views r.whole.0 id r.whole.1 v other r.whole.2 at in let w = r.weights in absurd (omega arith))

  pub opens : (bells : List ℕ) → W.log key ≡ [] → W.state key ≡ replay W.step (W.opening key) (W.log key) → Rule (opening (0 ∷ 0 ∷ 0 ∷ bells) (Some key ∷ []) (first_view W key))
  opens bells none_yet state = let v : V = first_view W key in record {
    history = [];
    drawn = 0;
    turned = 0;
    owner = λ _. 0;
    bells = bells;
    words = refl;
    few = refl;
    weights = refl;
    stands = λ t lo hi. absurd (omega arith);
    each = single (K [] 0 0 0 (λ _. 0)) v record { ticket = λ t h. absurd h; heavy = omega arith; turn = λ on. absurd on; start = λ _. (refl, refl); seen = ([], refl); mine = λ _. (refl, refl); heard = ([], refl) };
    place = inl (key, refl, record { same = refl; state = state ∙ ap (replay W.step (W.opening key)) none_yet; log = none_yet; count = inl (omega arith) }, single (λ j w. ¬ HasTurn w.stage) v (λ z. z));
    whole = (0, v, refl, refl, refl);
    numbers = record {
      sized = single (λ i h. h.live ≡ true → (1 ≤ h.spare) × (h.spare ≤ h.weight) × (h.number + h.spare ≤ 65536)) (holding_of v) (λ _. (omega arith, omega arith, omega arith));
      spent = single (λ i h. h.live ≡ false → h.weight ≡ 0) (holding_of v) (λ e. absurd (true≢false e));
      apart = λ i j h k n at at' o p. single (λ i h. i ≡ 0) (holding_of v) refl i h at ∙ sym (single (λ i h. i ≡ 0) (holding_of v) refl j k at');
      idle = λ i h n at o other. refl;
      known = λ n. inl refl;
      gone = λ i h e at live c. single (λ i h. (e : ℕ × List (ℕ × C)) → h.live ≡ true → Contains h.ended e → ((j : ℕ) (k : Holding C) → get_elem? (holding_of v ∷ []) j ≡ some k → ¬ OwnsNumber k e.0) × (own_entries e.0 [] ≡ e.1)) (holding_of v) (λ e _ c. let z = c.1 in absurd (omega arith)) i h at e live c;
    };
  }

  pub draws : (slots id : ℕ) (me : Me') → me.0.stage ≡ Idle → 0 < me.0.weight → Allows Rule slots id me 0 (λ n. (n + 1) % 2 ^ 64) (HasDrawn (step slots 0 1 0 none) me)
  draws slots id me idle heavy s r _ at _ =
      let t : ℕ = r.drawn in
      let w : V = waiting t me.0 in
      let none_yet : tickets_held me.0.stage ≡ 0 = ap tickets_held idle in
      let count = total_set tickets_of s.views id me.0 w at in
      let weight = total_set weight_of s.views id me.0 w at in
      let faults = total_set faults_of s.views id me.0 w at in
      let few = r.few in
      let weights = r.weights in
      let same : total faults_of s.views ≡ total faults_of (set s.views id w) = omega arith in
      let apart : (j : ℕ) (v : V) (t' : ℕ) → get_elem? s.views j ≡ some v → HasTicket t' v.stage → j ≢ id = λ j v t' e h is. subst (HasTicket t') (ap (λ (z : V). z.stage) (some-injective v me.0 (sym e ∙ (ap (get_elem? s.views) is ∙ at))) ∙ idle) h in (
        w,
        keeps,
        tt,
        record {
          history = r.history;
          drawn = t + 1;
          turned = r.turned;
          owner = put r.owner t id;
          bells = r.bells;
          words = ap (λ ws. set ws 0 ((get_or ws 0 0 + 1) % 2 ^ 64)) r.words ∙ ap (λ (x : ℕ). x ∷ r.turned % 2 ^ 64 ∷ length r.history ∷ r.bells) (mod-add-mod t (2 ^ 64) 1);
          few = omega arith;
          weights = omega arith;
          stands = λ t' lo hi. dite (ℕ_discrete t' t)
              (λ is. (w, subst (λ o. get_elem? (set s.views id w) o ≡ some w) (sym (ap (put r.owner t id) is ∙ put_here r.owner t id)) (set_here s.views id w (inside s.views id me.0 at)), is))
              (λ other. let o = r.stands t' lo (omega arith) in
              (o.0, subst (λ (x : ℕ). get_elem? (set s.views id w) x ≡ some o.0) (sym (put_else r.owner t id t' other)) (set_else s.views id (r.owner t') w (apart (r.owner t') o.0 t' o.1 o.2) ∙ o.1), o.2));
          each = each_set (K r.history (t + 1) r.turned (total faults_of (set s.views id w)) (put r.owner t id)) s.views id w
              (let f = r.each id me.0 at in record {
                ticket = λ t' h. (let few' = r.few in omega arith, omega arith, ap (put r.owner t id) h ∙ put_here r.owner t id);
                heavy = heavy;
                turn = λ none. absurd none;
                start = f.start;
                seen = f.seen;
                mine = f.mine;
                heard = f.heard;
              })
              (λ j v other e. let f = r.each j v e in record {
                ticket = λ t' h. let g = f.ticket t' h in (g.0, omega arith, put_else r.owner t id t' (omega arith) ∙ g.2);
                heavy = f.heavy;
                turn = λ on. let l = f.turn on in record { mine = l.mine; all = l.all; total = reaches_same _ _ _ (omega arith) l.total };
                start = f.start;
                seen = f.seen;
                mine = f.mine;
                heard = f.heard;
              });
          whole = dite (ℕ_discrete r.whole.0 id)
              (λ is. (id, w, set_here s.views id w (inside s.views id me.0 at), ap (λ (z : V). z.live) (sym (view_at s id r.whole.0 me.0 r.whole.1 at r.whole.2 is)) ∙ r.whole.3, ap (λ (z : V). z.seen) (sym (view_at s id r.whole.0 me.0 r.whole.1 at r.whole.2 is)) ∙ r.whole.4))
              (λ other. (r.whole.0, r.whole.1, set_else s.views id r.whole.0 w other ∙ r.whole.2, r.whole.3, r.whole.4));
          numbers = subst (KeepsNumbers r.history) (sym (holds_same s.views id me.0 w at refl)) r.numbers;
          place = ⊎_elim
              (λ h. inl (h.0, h.1, (let a = h.2 in record { same = a.same; state = a.state; log = a.log; count = reaches_same _ _ _ (omega arith) a.count }), still_none s id w (λ x. x) h.3))
              (λ h. inr (h.0, h.1, h.2, set_else s.views id h.1 w (λ is. subst HasTurn (ap (λ (z : V). z.stage) (some-injective h.2 me.0 (sym h.3 ∙ (ap (get_elem? s.views) is ∙ at))) ∙ idle) h.4) ∙ h.3, h.4))
              r.place;
        },
        (t, ap (λ ws. get_or ws 0 0) r.words, refl),
      )

  abbrev ticket_or : ℕ → Stage → ℕ
  ticket_or d (Waits t) = t
  ticket_or d (Turns t) = t
  ticket_or d Idle = d

  -- two seats with the turn are one
  pub one_turns : (s : St) (r : Rule s) (i j : ℕ) (v w : V) → get_elem? s.views i ≡ some v → get_elem? s.views j ≡ some w → HasTurn v.stage → HasTurn w.stage → i ≡ j
  one_turns s r i j v w at at' on on' = let f = r.each i v at in let g = r.each j w at' in
      sym (f.ticket r.turned (f.turn on).mine).2 ∙ (g.ticket r.turned (g.turn on').mine).2

  -- where a seat has the turn the slot is out
  pub away : (s : St) (r : Rule s) (id : ℕ) (me : V) → get_elem? s.views id ≡ some me → HasTurn me.stage → s.homes ≡ none ∷ []
  away s r id me at on = ⊎_elim (λ h. absurd (h.3 id me at on)) (λ h. h.0) r.place

  abbrev Looks : St → ℕ → Me' → ℕ → Type 0
  Looks s id me slots = (w : V) × (a : Rattle.atomic_table.specs.Table.Act (Option M)) × Rattle.atomic_table.specs.Table.Valid s.homes me.1 a × Rule (stepped s 1 (get_or s.words 1 0) id me.1 w a)
      × HasLooked W (step slots 1 0 0 none) me (get_or s.words 1 0) (w, Rattle.atomic_table.specs.Table.carried_after me.1 a)

  look_hit : (s : St) (r : Rule s) (slots id : ℕ) (me : Me') (t : ℕ) → me.0.stage ≡ Waits t → get_elem? s.views id ≡ some me.0 → get_or s.words 1 0 ≡ t % 2 ^ 64 → Looks s id me slots
  look_hit s r slots id me t is at hit =
      let f = r.each id me.0 at in
      let has : HasTicket t me.0.stage = subst (HasTicket t) (sym is) refl in
      let tk = f.ticket t has in
      let few = r.few in
      let weights = r.weights in
      let busy = total_le tickets_of weight_of s.views (λ j v e. (r.each j v e).heavy) in
      let now : r.turned ≡ t = one_turn r.turned t (2 ^ 64) tk.0 (let b = tk.1 in omega arith) (sym (ap (λ ws. get_or ws 1 0) r.words) ∙ hit) in
      let none_yet : tickets_held me.0.stage ≡ 1 = ap tickets_held is in
      let live : me.0.live ≡ true = alive r.history (map holding_of s.views) id (holding_of me.0) r.numbers (at_map holding_of s.views id me.0 at) (let b = f.heavy in omega arith) in
      ⊎_elim
      (λ (h : (x : M) × (s.homes ≡ some (Some x) ∷ []) × IsAtHome W r.history (W.opening key) (W.faults key) (total faults_of s.views) x × ((j : ℕ) (v : V) → get_elem? s.views j ≡ some v → ¬ HasTurn v.stage)).
      let x : M = h.0 in
      let a = h.2 in
      let w : V = leading W t x me.0 in
      let count = total_set tickets_of s.views id me.0 w at in
      let weight = total_set weight_of s.views id me.0 w at in
      let faults = total_set faults_of s.views id me.0 w at in
      let same : total faults_of s.views ≡ total faults_of (set s.views id w) = omega arith in
      let start = (f.start live).1 in (
        w,
        takes 0 (Some x),
        ap (λ hs. get_elem? hs 0) h.1,
        record {
          history = r.history;
          drawn = r.drawn;
          turned = r.turned;
          owner = r.owner;
          bells = r.bells;
          words = set-get_or s.words 1 0 ∙ r.words;
          few = omega arith;
          weights = omega arith;
          stands = λ t' lo hi. let o = r.stands t' lo hi in dite (ℕ_discrete (r.owner t') id)
              (λ mine. (w, ap (get_elem? (set s.views id w)) mine ∙ set_here s.views id w (inside s.views id me.0 at), subst (HasTicket t') (ap (λ (z : V). z.stage) (view_at s id (r.owner t') me.0 o.0 at o.1 mine) ∙ is) o.2))
              (λ other. (o.0, set_else s.views id (r.owner t') w other ∙ o.1, o.2));
          each = each_set (K r.history r.drawn r.turned (total faults_of (set s.views id w)) r.owner) s.views id w
              (record {
                ticket = λ t' e. f.ticket t' (subst (HasTicket t') (sym is) e);
                heavy = (let b = f.heavy in omega arith);
                turn = λ _. record { mine = now; all = a.log; total = reaches_same _ _ _ (omega arith) a.count };
                start = f.start;
                seen = prefix_same (W.log x) r.history a.log;
                mine = λ on. ((f.mine on).0, ap (own_entries me.0.number) a.log ∙ (f.mine on).0);
                heard = prefix_trans me.0.heard me.0.seen (W.log x) f.heard (subst (IsPrefix me.0.seen) (sym a.log) f.seen);
              })
              (λ j v other e. let g = r.each j v e in record {
                ticket = g.ticket;
                heavy = g.heavy;
                turn = λ on. absurd (h.3 j v e on);
                start = g.start;
                seen = g.seen;
                mine = g.mine;
                heard = g.heard;
              });
          whole = (id, w, set_here s.views id w (inside s.views id me.0 at), live, a.log);
          numbers = subst (KeepsNumbers r.history) (sym (holds_same s.views id me.0 w at refl)) r.numbers;
          place = inr (ap (λ hs. set hs 0 none) h.1, id, w, set_here s.views id w (inside s.views id me.0 at), tt);
        },
        λ t' is'. (
          (λ miss. absurd (miss (hit ∙ ap (λ (z : Stage). ticket_or 0 z % 2 ^ 64) (sym is ∙ is')))),
          λ _. (
            x,
            record {
              same = a.same ∙ sym (f.start live).0;
              state = a.state ∙ (λ i. replay W.step (sym (f.start live).0 i) (sym a.log i));
              more = subst (IsPrefix me.0.seen) (sym a.log) f.seen;
              mine = λ on. ap (own_entries me.0.number) a.log ∙ ((f.mine on).0 ∙ sym (f.mine on).1);
              alone = λ all. a.log ∙ sym (alone_whole s r id me.0 at all);
            },
            ap (λ (z : Stage). (leading W (ticket_or 0 z) x me.0, (0, Some x) ∷ me.1)) (sym is ∙ is'),
          ),
        ),
      ))
      (λ (h : (s.homes ≡ none ∷ []) × (j : ℕ) × (v : V) × (get_elem? s.views j ≡ some v) × HasTurn v.stage).
      let g = r.each h.1 h.2 h.3 in
      let mine : h.1 ≡ id = sym (g.ticket r.turned (g.turn h.4).mine).2 ∙ (ap r.owner now ∙ tk.2) in
      absurd (subst HasTurn (ap (λ (z : V). z.stage) (view_at s id h.1 me.0 h.2 at h.3 mine) ∙ is) h.4))
      r.place

  pub looks : (slots id : ℕ) (me : Me') (t : ℕ) → me.0.stage ≡ Waits t → Allows Rule slots id me 1 (λ n. n) (HasLooked W (step slots 1 0 0 none) me)
  looks slots id me t is s r _ at _ = dite (ℕ_discrete (get_or s.words 1 0) (t % 2 ^ 64)) (look_hit s r slots id me t is at) (λ miss. (
    me.0,
    keeps,
    tt,
    subst Rule (λ i. record { words = sym (set-get_or s.words 1 0) i; homes = s.homes; views = sym (set_again s.views id me.0 at) i }) r,
    λ t' is'. ((λ _. refl), λ e. absurd (miss (e ∙ ap (λ (z : Stage). ticket_or 0 z % 2 ^ 64) (sym is' ∙ is)))),
  ))

  ring : (slots id i k : ℕ) (me : Me') → Allows Rule slots id me (3 + i) (λ _. k) (HasRung (step slots (3 + i) k 0 none) me)
  ring slots id i k me s r _ at _ = (
    me.0,
    keeps,
    tt,
    subst (λ vs. Rule record { words = set s.words (3 + i) k; homes = s.homes; views = vs }) (sym (set_again s.views id me.0 at)) record {
      history = r.history;
      drawn = r.drawn;
      turned = r.turned;
      owner = r.owner;
      bells = set r.bells i k;
      words = ap (λ ws. set ws (3 + i) k) r.words ∙ past_three (r.drawn % 2 ^ 64) (r.turned % 2 ^ 64) (length r.history) k r.bells i;
      few = r.few;
      weights = r.weights;
      stands = r.stands;
      each = r.each;
      place = r.place;
      whole = r.whole;
      numbers = r.numbers;
    },
    refl,
  )

  -- a step on a bell
  pub rings : (slots id i k n : ℕ) (me : Me') → n ≡ 3 + i → Allows Rule slots id me n (λ _. k) (HasRung (step slots n k 0 none) me)
  rings slots id i k n me is = subst (λ n. Allows Rule slots id me n (λ _. k) (HasRung (step slots n k 0 none) me)) (sym is) (ring slots id i k me)

  pub passes : (slots id : ℕ) (me : Me') (t : ℕ) (x : M) → me.0.stage ≡ Turns t → me.1 ≡ (0, Some x) ∷ [] → W.opening x ≡ me.0.opening.value → W.log x ≡ me.0.seen → W.state x ≡ replay W.step me.0.opening.value me.0.seen
      → Reaches me.0.total (W.faults x) → Allows Rule slots id me 1 (λ n. (n + 1) % 2 ^ 64) (HasPassed (step slots 1 1 0 none) me)
  passes slots id me t x is carried same log state count s r _ at _ =
      let f = r.each id me.0 at in
      let on : HasTurn me.0.stage = subst HasTurn (sym is) tt in
      let l = f.turn on in
      let now : r.turned ≡ t = subst (HasTicket r.turned) is l.mine in
      let w : V = rested me.0 in
      let n : ℕ = (get_or s.words 1 0 + 1) % 2 ^ 64 in
      let one : tickets_held me.0.stage ≡ 1 = ap tickets_held is in
      let few = r.few in
      let weights = r.weights in
      let tickets = total_set tickets_of s.views id me.0 w at in
      let weight = total_set weight_of s.views id me.0 w at in
      let faults = total_set faults_of s.views id me.0 w at in
      let sum : total faults_of s.views ≡ total faults_of (set s.views id w) = omega arith in
      let live : me.0.live ≡ true = alive r.history (map holding_of s.views) id (holding_of me.0) r.numbers (at_map holding_of s.views id me.0 at) (let b = f.heavy in omega arith) in
      let start = (f.start live).1 in
      let lead = l.total in
      let P : List (ℕ × Option M) → Type 0 = λ c. Rattle.atomic_table.specs.Table.Valid s.homes c gives × Rule (stepped s 1 n id c w gives) × HasPassed (step slots 1 1 0 none) me (get_or s.words 1 0) (w, rest c) in
      let done : P me.1 = subst P (sym carried) (
        tt,
        record {
          history = r.history;
          drawn = r.drawn;
          turned = r.turned + 1;
          owner = r.owner;
          bells = r.bells;
          words = ap (λ ws. set ws 1 ((get_or ws 1 0 + 1) % 2 ^ 64)) r.words ∙ ap (λ (z : ℕ). r.drawn % 2 ^ 64 ∷ z ∷ length r.history ∷ r.bells) (mod-add-mod r.turned (2 ^ 64) 1);
          few = omega arith;
          weights = omega arith;
          stands = λ t' lo hi. let o = r.stands t' (omega arith) hi in
              let apart : r.owner t' ≢ id = λ mine. let e : t' ≡ t = subst (HasTicket t') (ap (λ (z : V). z.stage) (view_at s id (r.owner t') me.0 o.0 at o.1 mine) ∙ is) o.2 in omega arith in
              (o.0, set_else s.views id (r.owner t') w apart ∙ o.1, o.2);
          each = each_set (K r.history r.drawn (r.turned + 1) (total faults_of (set s.views id w)) r.owner) s.views id w
              (record { ticket = λ t' none. absurd none; heavy = omega arith; turn = λ none. absurd none; start = f.start; seen = f.seen; mine = f.mine; heard = f.heard })
              (λ j v other e. let g = r.each j v e in record {
                ticket = λ t' h. let k = g.ticket t' h in
                    let lo = k.0 in
                    let later : r.turned ≢ t' = λ z. other (sym k.2 ∙ (ap r.owner (sym z) ∙ (f.ticket r.turned l.mine).2)) in
                    (omega arith, k.1, k.2);
                heavy = g.heavy;
                turn = λ on'. absurd (other (one_turns s r j id v me.0 e at on' on));
                start = g.start;
                seen = g.seen;
                mine = g.mine;
                heard = g.heard;
              });
          whole = (id, w, set_here s.views id w (inside s.views id me.0 at), alive r.history (map holding_of s.views) id (holding_of me.0) r.numbers (at_map holding_of s.views id me.0 at) (let b = f.heavy in omega arith), l.all);
          numbers = subst (KeepsNumbers r.history) (sym (holds_same s.views id me.0 w at refl)) r.numbers;
          place = inl (
            x,
            ap (λ hs. set hs 0 (some (Some x))) (away s r id me.0 at on),
            record {
              same = same ∙ (f.start live).0;
              state = state ∙ (λ i. replay W.step ((f.start live).0 i) (l.all i));
              log = log ∙ l.all;
              count = reaches_on _ _ _ _ (omega arith) lead count;
            },
            each_set (λ j v. ¬ HasTurn v.stage) s.views id w (λ z. z) (λ j v other e on'. other (one_turns s r j id v me.0 e at on' on)),
          );
        },
        refl,
      ) in (w, gives, done.0, done.1, done.2)

  pub publishes : (done : List (ReplyKind × C)) (kd : ReplyKind) (c : C) (slots id : ℕ) (me : Me') (t k : ℕ) → done ≡ (kd, c) ∷ [] → me.0.stage ≡ Turns t → k ≡ rise_of kd → length me.0.seen + k < 2 ^ 64 → Allows Rule slots id me 2 (λ n. (n + k) % 2 ^ 64) (HasPublished done (step slots 2 k 0 none) me)
  publishes done kd c slots id me t k said is up small s r _ at _ =
      let f = r.each id me.0 at in
      let on : HasTurn me.0.stage = subst HasTurn (sym is) tt in
      let l = f.turn on in
      let e : ℕ × C = (me.0.number, c) in
      let w : V = told kd c me.0 in
      let few = r.few in
      let weights = r.weights in
      let tickets = total_set tickets_of s.views id me.0 w at in
      let weight = total_set weight_of s.views id me.0 w at in
      let faults = total_set faults_of s.views id me.0 w at in
      let lead = l.total in
      let long = length-grown kd e r.history in
      let known : length me.0.seen ≡ length r.history = ap length l.all in
      let sum : (length r.history + k) % 2 ^ 64 ≡ length (grown kd e r.history) = mod-eq_of_lt (omega arith) ∙ omega arith in
      let here : get_elem? (set s.views id w) id ≡ some w = set_here s.views id w (inside s.views id me.0 at) in
      let here' : get_elem? (map holding_of s.views) id ≡ some (holding_of me.0) = at_map holding_of s.views id me.0 at in
      let one : tickets_held me.0.stage ≡ 1 = ap tickets_held is in
      let live : me.0.live ≡ true = alive r.history (map holding_of s.views) id (holding_of me.0) r.numbers here' (let b = f.heavy in omega arith) in
      let owns_self : (j : ℕ) (v : V) → get_elem? s.views j ≡ some v → v.live ≡ true → OwnsNumber (holding_of v) v.number = λ j v e on'. (on', omega arith, (let z = (r.numbers.sized j (holding_of v) (at_map holding_of s.views j v e) on').0 in omega arith)) in (
        w,
        keeps,
        tt,
        record {
          history = grown kd e r.history;
          drawn = r.drawn;
          turned = r.turned;
          owner = r.owner;
          bells = r.bells;
          words = ap (λ ws. set ws 2 ((get_or ws 2 0 + k) % 2 ^ 64)) r.words ∙ ap (λ (z : ℕ). r.drawn % 2 ^ 64 ∷ r.turned % 2 ^ 64 ∷ z ∷ r.bells) sum;
          few = omega arith;
          weights = omega arith;
          stands = λ t' lo hi. let o = r.stands t' lo hi in dite (ℕ_discrete (r.owner t') id)
              (λ mine. (w, ap (get_elem? (set s.views id w)) mine ∙ here, subst (HasTicket t') (ap (λ (z : V). z.stage) (view_at s id (r.owner t') me.0 o.0 at o.1 mine)) o.2))
              (λ other. (o.0, set_else s.views id (r.owner t') w other ∙ o.1, o.2));
          each = each_set (K (grown kd e r.history) r.drawn r.turned (total faults_of (set s.views id w)) r.owner) s.views id w
              (record {
                ticket = f.ticket;
                heavy = f.heavy;
                turn = λ _. record { mine = l.mine; all = ap (grown kd e) l.all; total = reaches_same _ _ _ (omega arith) (reaches_more _ _ (failures_of kd) lead) };
                start = f.start;
                seen = prefix_same (grown kd e me.0.seen) (grown kd e r.history) (ap (grown kd e) l.all);
                mine = λ _. (own_grown_same kd me.0.number c r.history ∙ ap (grown kd e) (f.mine live).0, own_grown_same kd me.0.number c me.0.seen ∙ ap (grown kd e) (f.mine live).1);
                heard = grows kd e me.0.heard me.0.seen f.heard;
              })
              (λ j v other at'. let g = r.each j v at' in record {
                ticket = g.ticket;
                heavy = g.heavy;
                turn = λ on'. absurd (other (one_turns s r j id v me.0 at' at on' on));
                start = g.start;
                seen = grows kd e v.seen r.history g.seen;
                mine = λ live'. (own_grown_else kd v.number e r.history (λ same. other (r.numbers.apart j id (holding_of v) (holding_of me.0) v.number (at_map holding_of s.views j v at') here' (owns_self j v at' live') (subst (OwnsNumber (holding_of me.0)) same (owns_self id me.0 at live)))) ∙ (g.mine live').0, (g.mine live').1);
                heard = g.heard;
              });
          whole = (id, w, here, live, ap (grown kd e) l.all);
          numbers = subst (KeepsNumbers (grown kd e r.history)) (sym (holds_same s.views id me.0 w at refl)) (numbers_grow kd c r.history (map holding_of s.views) id (holding_of me.0) r.numbers here' live);
          place = inr (away s r id me.0 at on, id, w, here, on);
        },
        λ k' c' same. ap (λ (z : ReplyKind × C). let v : V = told z.0 z.1 me.0 in (v, me.1)) (sole (kd, c) (k', c') (sym said ∙ same)),
      )

module _ {M : Type 0} where
  abbrev slot_or : Option M → List (ℕ × Option M) → Option M
  slot_or d [] = d
  slot_or d (x ∷ xs) = x.1

  abbrev pub machine_or : M → Option M → M
  machine_or d (Some x) = x
  machine_or d None = d

  pub slot_of : (x y : Option M) (xs ys : List (ℕ × Option M)) → (0, x) ∷ xs ≡ (0, y) ∷ ys → x ≡ y
  slot_of x y xs ys e = ap (slot_or x) e

  -- the machine in the slot that was taken last
  pub full_of : (x y : M) (z : Option M) (xs ys : List (ℕ × Option M)) → (0, Some x) ∷ xs ≡ (0, z) ∷ ys → z ≡ Some y → x ≡ y
  full_of x y z xs ys e is = ap (machine_or x) (ap (slot_or (Some x)) e ∙ is)

module _ {M S C A : Type 0} (W : Meaning M S C A) where
  pub taken_by : (t : ℕ) (v : View S C) (x : M) → IsTaken W (waiting t v) x → IsTaken W v x
  taken_by t v x k = record { same = k.same; state = k.state; more = k.more; mine = k.mine; alone = k.alone }

  slice_get_last : {A : Type 0} (xs : List A) (e : A) → slice_get (xs ++ e ∷ []) (length xs) ≡ Some e
  slice_get_last [] e = refl
  slice_get_last (x ∷ xs) e = slice_get_last xs e

  entered : (k : ReplyKind) (e : ℕ × C) (xs : List (ℕ × C)) → k ≡ accepted → slice_get (grown k e xs) (length xs) ≡ Some e
  entered accepted e xs is = slice_get_last xs e
  entered fault e xs is = absurd (cc)
  entered memory e xs is = absurd (cc)
  entered plain e xs is = absurd (cc)

  before : (k : ReplyKind) (e : ℕ × C) (xs : List (ℕ × C)) → take (length xs) (grown k e xs) ≡ xs
  before accepted e xs = take-append_seam xs (e ∷ [])
  before fault e xs = take-length xs
  before memory e xs = take-length xs
  before plain e xs = take-length xs

  pub called : (fallible : A → Bool) (z : TableId) (v : View S C) (t : ℕ) (x y : M) (call : C) (answer : A) (kind : ReplyKind) (n : ℕ) → IsTaken W v x → v.live ≡ true → IsAct W fallible x y v.number call answer kind → n ≡ length (W.log x)
      → IsCall W.step fallible (seat_view_of z v) (seat_view_of z (rested (told kind call (leading W t x v)))) call answer kind n
  called fallible z v t x y call answer kind n k live a is = let e : ℕ × C = (v.number, call) in let long = length-grown kind e (W.log x) in let back : take n (grown kind e (W.log x)) ≡ W.log x = ap (λ m. take m (grown kind e (W.log x))) is ∙ before kind e (W.log x) in record {
    seat_stays = (refl, refl, refl, refl, refl, refl, refl);
    seen_only_grows = grows kind e v.seen (W.log x) k.more;
    place_is_after_seen = (let p = prefix_length v.seen (W.log x) k.more in omega arith);
    reply_is_legal = record {
      within = omega arith;
      right = subst (λ s. AnswersAs fallible kind answer (W.step s call).1) (k.state ∙ ap (replay W.step v.opening.value) (sym back)) a.answer_is_right;
      entry = λ acc. ap (slice_get (grown kind e (W.log x))) is ∙ entered kind e (W.log x) acc;
    };
    seen_ends_at_place = ap (grown kind e) (sym back);
    own_entries_grow = own_grown_same kind v.number call (W.log x) ∙ ap (grown kind e) (k.mine live);
    alone_misses_nothing = λ all. is ∙ ap length (k.alone all);
    faults_rise = refl;
  }
