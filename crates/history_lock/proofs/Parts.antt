-- A split and a join keep the rule of the lock, and what a close tells.
use Rattle.std.proofs.Common.{◌≡◌, ◌≢◌, ◌⊎◌, ℕ, ◌+◌, ◌<◌, ◌≤◌, List, [], ◌∷◌, ◌++◌, map, Bool, true, false, true≢false, length, get_or, eqb, set, refl, sym, ap, ◌∙◌, subst, inl, inr, ⊎_elim, arith}
use mathlib.Core.Logic.{dite}
use mathlib.Core.Option.{none, some}
use mathlib.Core.List.{IsPrefix, map-append}
use native.Mathlib.Decide.{ℕ_discrete}
use lib.ListN.{get_elem?}
use lib.Seq.{set-get_or, map-set}
use prog.Atomic.{either}
use Rattle.atomic_table.specs.Table.{step, keeps, Allows, Splits, Joins, Final, Seen}
use Rattle.atomic_table.proofs.Lists.{set_here, set_else, set_again, at_map, at_longer, exchanged}
use Rattle.history_lock.specs.Replies.{ReplyKind, grown}
use Rattle.history_lock.specs.Machines.{Meaning}
use Rattle.history_lock.specs.Replay.{replay}
use Rattle.history_lock.specs.declared.views.View.{View}
use Rattle.history_lock.specs.declared.views.Stage.{Stage}
use Rattle.history_lock.specs.declared.views.Stage.TheVariants.{Idle, Waits, Turns}
use Rattle.history_lock.specs.LockRule.{total, FitsRule, IsAtHome, KeepsOneHistory, Board}
use Rattle.history_lock.specs.Views.{tickets_held, HasTicket, HasTurn, tickets_of, weight_of, faults_of, IsSoundView, offering, kept_part, new_part, longer, shorter, joined, spent_view, rested, told, leading}
use Rattle.history_lock.specs.Moves.{Token, IsTaken, HasOffered, HasLearned}
use Rattle.history_lock.specs.Replay.{own_entries}
use Rattle.history_lock.specs.Numbers.{Holding, holding_of, BearsNumber, KeepsNumbers}
use Rattle.history_lock.specs.Seats.{seat_view_of, IsClosed, IsJoined}
use Rattle.atomic_table.specs.Seated.{TableId}
use Rattle.history_lock.proofs.Entries.{own_prefix, own_between, own_grown_same, number_has_entries}
use Rattle.history_lock.proofs.Holds.{holds_same}
use Rattle.history_lock.proofs.Totals.{total_set, total_at, total_two, total_append}
use Rattle.history_lock.proofs.Lists.{prefix_same, prefix_trans, prefix_shorter, prefix_whole, each_set}
use Rattle.history_lock.proofs.Shares.{in_list, at_end, one_at, numbers_split, numbers_join}
use Rattle.history_lock.proofs.Keeps.{alone_whole, grows, machine_or, reaches_same}
use Rattle.std.specs.Prelude.{nat_lt, cond, Option, Some}
use Rattle.std.proofs.lemmas.Bool.Decides.{nat_tests}

module _ {C : Type 0} where
  longer_cases : (xs ys : List (ℕ × C)) → ((longer xs ys ≡ ys) × (shorter xs ys ≡ xs) × (length xs ≤ length ys)) ⊎ ((longer xs ys ≡ xs) × (shorter xs ys ≡ ys) × (length ys ≤ length xs))
  longer_cases xs ys = go (nat_lt (length xs) (length ys)) refl
    where
      go : (b : Bool) → nat_lt (length xs) (length ys) ≡ b → ((longer xs ys ≡ ys) × (shorter xs ys ≡ xs) × (length xs ≤ length ys)) ⊎ ((longer xs ys ≡ xs) × (shorter xs ys ≡ ys) × (length ys ≤ length xs))
      go true is = inl (ap (λ b. cond b ys xs) is, ap (λ b. cond b xs ys) is, let l : length xs < length ys = grind (arith, nat_tests) in omega arith)
      go false is = inr (ap (λ b. cond b ys xs) is, ap (λ b. cond b xs ys) is, grind (arith, nat_tests))

  -- what holds of both lists holds of the longer
  longer_keeps : (P : List (ℕ × C) → Type 0) (xs ys : List (ℕ × C)) → P xs → P ys → P (longer xs ys)
  longer_keeps P xs ys p q = ⊎_elim (λ t. subst P (sym t.0) q) (λ t. subst P (sym t.0) p) (longer_cases xs ys)

  pub longer_left : (xs ys : List (ℕ × C)) → length xs ≤ length (longer xs ys)
  longer_left xs ys = ⊎_elim (λ t. let e = ap length t.0 in let l = t.2 in omega arith) (λ t. let e = ap length t.0 in omega arith) (longer_cases xs ys)

  pub longer_right : (xs ys : List (ℕ × C)) → length ys ≤ length (longer xs ys)
  longer_right xs ys = ⊎_elim (λ t. let e = ap length t.0 in omega arith) (λ t. let e = ap length t.0 in let l = t.2 in omega arith) (longer_cases xs ys)

  shorter_begins : (xs ys zs : List (ℕ × C)) → IsPrefix xs zs → IsPrefix ys zs → IsPrefix (shorter xs ys) (longer xs ys)
  shorter_begins xs ys zs p q = ⊎_elim
      (λ t. subst (λ (z : List (ℕ × C) × List (ℕ × C)). IsPrefix z.0 z.1) (λ i. (sym t.1 i, sym t.0 i)) (prefix_shorter xs ys zs p q t.2))
      (λ t. subst (λ (z : List (ℕ × C) × List (ℕ × C)). IsPrefix z.0 z.1) (λ i. (sym t.1 i, sym t.0 i)) (prefix_shorter ys xs zs q p t.2)) (longer_cases xs ys)

  -- both lists begin the longer, where the shorter does
  pub both_begin : (xs ys : List (ℕ × C)) → IsPrefix (shorter xs ys) (longer xs ys) → IsPrefix xs (longer xs ys) × IsPrefix ys (longer xs ys)
  both_begin xs ys p = ⊎_elim
      (λ t. (subst (λ z. IsPrefix z (longer xs ys)) t.1 p, prefix_same ys (longer xs ys) (sym t.0)))
      (λ t. (prefix_same xs (longer xs ys) (sym t.0), subst (λ z. IsPrefix z (longer xs ys)) t.1 p)) (longer_cases xs ys)

module _ {M S C A : Type 0} (W : Meaning M S C A) (key : M) where
  abbrev V : Type 0
  V = View S C

  abbrev St : Type 0
  St = Board M S C

  abbrev Me' : Type 0
  Me' = Token M S C

  abbrev Rule : St → Type 0
  Rule = KeepsOneHistory W key

  abbrev K : List (ℕ × C) → ℕ → ℕ → ℕ → (ℕ → ℕ) → ℕ → V → Type 0
  K = λ h drawn turned faults owner j v. FitsRule h (W.opening key) (W.faults key) drawn turned faults owner j v

  turn_out : (g : Stage) → HasTurn g → tickets_held g ≡ 1
  turn_out Idle on = absurd on
  turn_out (Waits t) on = absurd on
  turn_out (Turns t) on = refl

  total_hold : (vs : List V) → total (λ (h : Holding C). h.weight) (map holding_of vs) ≡ total weight_of vs
  total_hold [] = refl
  total_hold (v ∷ vs) = ap (λ n. v.weight + n) (total_hold vs)

  only_hold : (s : St) (r : Rule s) (id : ℕ) (v : V) → get_elem? s.views id ≡ some v → v.weight ≡ 65536 → total weight_of s.views ≡ 65536 → (i : ℕ) (y : Holding C) → get_elem? (map holding_of s.views) i ≡ some y → y.live ≡ true → i ≡ id
  only_hold s r id v at all weights i y e on = dite (ℕ_discrete i id) (λ is. is) (λ other.
      let t = total_two (λ (h : Holding C). h.weight) (map holding_of s.views) i id y (holding_of v) other e (at_map holding_of s.views id v at) in
      let q = total_hold s.views in
      let z = r.numbers.sized i y e on in let a = z.0 in let b = z.1 in absurd (omega arith))

  -- what a live view knows by itself
  pub knows : (s : St) (r : Rule s) (id : ℕ) (v : V) → get_elem? s.views id ≡ some v → v.live ≡ true → IsSoundView v
  knows s r id v at live = let f = r.each id v at in let z = r.numbers.sized id (holding_of v) (at_map holding_of s.views id v at) live in record {
    weight = (let a = total_at weight_of s.views id v at in let b = r.weights in omega arith);
    spare = (z.0, z.1);
    numbers = z.2;
    heard = f.heard;
    mine = (f.mine live).1;
  }

  pub learns : (slots id : ℕ) (me : Me') → me.0.live ≡ true → Allows Rule slots id me 0 (λ n. n) (HasLearned (step slots 0 0 0 none) me)
  learns slots id me live s r _ at _ = (
    me.0,
    keeps,
    tt,
    subst Rule (λ i. record { words = sym (set-get_or s.words 0 0) i; homes = s.homes; views = sym (set_again s.views id me.0 at) i }) r,
    (refl, knows s r id me.0 at live),
  )

  -- a view that differs from the rule's in what the rule does not read
  pub offers : (slots id k : ℕ) (me : Me') → Allows Rule slots id me 0 (λ n. either (eqb n k) k n) (HasOffered (step slots 0 k k none) me)
  offers slots id k me s r _ at _ =
      let w : V = offering k me.0 in
      let tickets = total_set tickets_of s.views id me.0 w at in
      let weight = total_set weight_of s.views id me.0 w at in
      let faults = total_set faults_of s.views id me.0 w at in
      let few = r.few in
      let weights = r.weights in
      let sum : total faults_of s.views ≡ total faults_of (set s.views id w) = omega arith in
      let here : get_elem? (set s.views id w) id ≡ some w = set_here s.views id w (in_list s.views id me.0 at) in
      let still : get_or s.words 0 0 ≡ either (eqb (get_or s.words 0 0) k) k (get_or s.words 0 0) = exchanged (get_or s.words 0 0) k k (λ x. get_or s.words 0 0 ≡ x) (λ e. e) (λ _. refl) in
      let F : FitsRule r.history (W.opening key) (W.faults key) r.drawn r.turned (total faults_of s.views) r.owner id me.0 = r.each id me.0 at in (
        w,
        keeps,
        tt,
        subst (λ (x : ℕ). Rule record { words = set s.words 0 x; homes = s.homes; views = set s.views id w }) still (subst (λ ws. Rule record { words = ws; homes = s.homes; views = set s.views id w }) (sym (set-get_or s.words 0 0)) record {
          history = r.history;
          drawn = r.drawn;
          turned = r.turned;
          owner = r.owner;
          bells = r.bells;
          words = r.words;
          few = omega arith;
          weights = omega arith;
          stands = λ t lo hi. let o = r.stands t lo hi in dite (ℕ_discrete (r.owner t) id)
              (λ mine. (w, ap (get_elem? (set s.views id w)) mine ∙ here, subst (HasTicket t) (ap (λ (z : V). z.stage) (one_at s.views (r.owner t) id o.0 me.0 o.1 at mine)) o.2))
              (λ other. (o.0, set_else s.views id (r.owner t) w other ∙ o.1, o.2));
          each = subst (λ (f : ℕ). (j : ℕ) (v : V) → get_elem? (set s.views id w) j ≡ some v → K r.history r.drawn r.turned f r.owner j v) sum (each_set (K r.history r.drawn r.turned (total faults_of s.views) r.owner) s.views id w
              record { ticket = F.ticket; heavy = F.heavy; turn = λ on. let l = F.turn on in record { mine = l.mine; all = l.all; total = l.total }; start = F.start; seen = F.seen; mine = F.mine; heard = F.heard } (λ j v other e. r.each j v e));
          whole = dite (ℕ_discrete r.whole.0 id)
              (λ is. let same : r.whole.1 ≡ me.0 = one_at s.views r.whole.0 id r.whole.1 me.0 r.whole.2 at is in (id, w, here, ap (λ (z : V). z.live) (sym same) ∙ r.whole.3, ap (λ (z : V). z.seen) (sym same) ∙ r.whole.4))
              (λ other. (r.whole.0, r.whole.1, set_else s.views id r.whole.0 w other ∙ r.whole.2, r.whole.3, r.whole.4));
          numbers = subst (KeepsNumbers r.history) (sym (holds_same s.views id me.0 w at refl)) r.numbers;
          place = ⊎_elim
              (λ h. inl (h.0, h.1, (let a = h.2 in record { same = a.same; state = a.state; log = a.log; count = reaches_same _ _ _ (omega arith) a.count }), each_set (λ j v. ¬ HasTurn v.stage) s.views id w (h.3 id me.0 at) (λ j v _ e. h.3 j v e)))
              (λ h. dite (ℕ_discrete h.1 id)
              (λ is. inr (h.0, id, w, here, subst HasTurn (ap (λ (z : V). z.stage) (one_at s.views h.1 id h.2 me.0 h.3 at is)) h.4))
              (λ other. inr (h.0, h.1, h.2, set_else s.views id h.1 w other ∙ h.3, h.4)))
              r.place;
        }),
        refl,
      )

  pub splits : (id : ℕ) (v : V) → v.live ≡ true → v.stage ≡ Idle → 1 ≤ v.offer → v.offer < v.spare → Splits Rule id v (kept_part v) (new_part v)
  splits id v live idle some_part less s r at =
      let l : V = kept_part v in
      let n : V = new_part v in
      let vs : List V = set s.views id l in
      let z = r.numbers.sized id (holding_of v) (at_map holding_of s.views id v at) live in
      let fits = z.1 in
      let none_yet : tickets_held v.stage ≡ 0 = ap tickets_held idle in
      let tickets = total_set tickets_of s.views id v l at in
      let weight = total_set weight_of s.views id v l at in
      let faults = total_set faults_of s.views id v l at in
      let tickets' = total_append tickets_of vs (n ∷ []) in
      let weight' = total_append weight_of vs (n ∷ []) in
      let faults' = total_append faults_of vs (n ∷ []) in
      let few = r.few in
      let weights = r.weights in
      let sum : total faults_of s.views ≡ total faults_of (vs ++ n ∷ []) = omega arith in
      let here : get_elem? vs id ≡ some l = set_here s.views id l (in_list s.views id v at) in
      let f = r.each id v at in
      let fresh : own_entries n.number r.history ≡ [] = r.numbers.idle id (holding_of v) n.number (at_map holding_of s.views id v at) (live, omega arith, omega arith) (λ is. omega arith) in
      let apart : (j : ℕ) (u : V) (t : ℕ) → get_elem? s.views j ≡ some u → HasTicket t u.stage → j ≢ id = λ j u t e h is. subst (HasTicket t) (ap (λ (z : V). z.stage) (one_at s.views j id u v e at is) ∙ idle) h in
      let resting : ¬ HasTurn v.stage = λ on. subst HasTurn idle on in
      let each : (P : ℕ → V → Type 0) → P id l → ((j : ℕ) → P j n) → ((j : ℕ) (u : V) → j ≢ id → get_elem? s.views j ≡ some u → P j u) → (j : ℕ) (u : V) → get_elem? (vs ++ n ∷ []) j ≡ some u → P j u = λ P on_l on_n others j u e.
      ⊎_elim (λ (t : get_elem? vs j ≡ some u). each_set P s.views id l on_l others j u t) (λ (t : (j ≡ length vs) × (n ≡ u)). subst (P j) t.1 (on_n j)) (at_end vs n u j e) in record {
        history = r.history;
        drawn = r.drawn;
        turned = r.turned;
        owner = r.owner;
        bells = r.bells;
        words = r.words;
        few = omega arith;
        weights = omega arith;
        stands = λ t lo hi. let o = r.stands t lo hi in (o.0, at_longer vs (n ∷ []) (r.owner t) o.0 (set_else s.views id (r.owner t) l (apart (r.owner t) o.0 t o.1 o.2) ∙ o.1), o.2);
        each = subst (λ (q : ℕ). (j : ℕ) (u : V) → get_elem? (vs ++ n ∷ []) j ≡ some u → K r.history r.drawn r.turned q r.owner j u) sum (each (K r.history r.drawn r.turned (total faults_of s.views) r.owner)
            record { ticket = f.ticket; heavy = omega arith; turn = λ on. absurd (resting on); start = f.start; seen = f.seen; mine = f.mine; heard = f.heard }
            (λ j. record { ticket = λ t h. absurd h; heavy = omega arith; turn = λ on. absurd on; start = λ _. f.start live; seen = f.seen; mine = λ _. (fresh, own_prefix n.number v.seen r.history f.seen fresh); heard = (v.seen, refl) })
            (λ j u other e. r.each j u e));
        whole = dite (ℕ_discrete r.whole.0 id)
            (λ is. let same : r.whole.1 ≡ v = one_at s.views r.whole.0 id r.whole.1 v r.whole.2 at is in (id, l, at_longer vs (n ∷ []) id l here, live, ap (λ (z : V). z.seen) (sym same) ∙ r.whole.4))
            (λ other. (r.whole.0, r.whole.1, at_longer vs (n ∷ []) r.whole.0 r.whole.1 (set_else s.views id r.whole.0 l other ∙ r.whole.2), r.whole.3, r.whole.4));
        numbers = subst (KeepsNumbers r.history) (sym (map-append holding_of vs (n ∷ []) ∙ ap (λ hs. hs ++ holding_of n ∷ []) (map-set holding_of s.views id l)))
            (numbers_split r.history (map holding_of s.views) id v.offer (holding_of v) (holding_of l) (holding_of n) r.numbers (at_map holding_of s.views id v at) live some_part less refl refl);
        place = ⊎_elim
            (λ h. inl (h.0, h.1, (let a = h.2 in record { same = a.same; state = a.state; log = a.log; count = reaches_same _ _ _ (omega arith) a.count }), each (λ j u. ¬ HasTurn u.stage) resting (λ j on. on) (λ j u _ e. h.3 j u e)))
            (λ h. inr (h.0, h.1, h.2, at_longer vs (n ∷ []) h.1 h.2 (set_else s.views id h.1 l (λ is. subst HasTurn (ap (λ (z : V). z.stage) (one_at s.views h.1 id h.2 v h.3 at is) ∙ idle) h.4) ∙ h.3), h.4))
            r.place;
      }

  pub joins : (blank : S) (id : ℕ) (v : V) (other : ℕ) (w : V) → v.live ≡ true → w.live ≡ true → v.stage ≡ Idle → w.stage ≡ Idle → Joins Rule id v other w (joined v w) (spent_view blank)
  joins blank id v other w live live' idle idle' s r at apart there =
      let b : V = joined v w in
      let d : V = spent_view blank in
      let vs : List V = set s.views id b in
      let at' : get_elem? s.views other ≡ some w = sym (set_else s.views id other b apart) ∙ there in
      let f = r.each id v at in
      let g = r.each other w at' in
      let none_yet : tickets_held v.stage ≡ 0 = ap tickets_held idle in
      let none_yet' : tickets_held w.stage ≡ 0 = ap tickets_held idle' in
      let tickets = total_set tickets_of s.views id v b at in
      let weight = total_set weight_of s.views id v b at in
      let faults = total_set faults_of s.views id v b at in
      let tickets' = total_set tickets_of vs other w d there in
      let weight' = total_set weight_of vs other w d there in
      let faults' = total_set faults_of vs other w d there in
      let few = r.few in
      let weights = r.weights in
      let sum : total faults_of s.views ≡ total faults_of (set vs other d) = omega arith in
      let here : get_elem? (set vs other d) id ≡ some b = set_else vs other id d (λ e. apart (sym e)) ∙ set_here s.views id b (in_list s.views id v at) in
      let resting : (i : ℕ) (u : V) → get_elem? s.views i ≡ some u → (i ≡ id) ⊎ (i ≡ other) → u.stage ≡ Idle = λ i u e. ⊎_elim (λ is. ap (λ (z : V). z.stage) (one_at s.views i id u v e at is) ∙ idle) (λ is. ap (λ (z : V). z.stage) (one_at s.views i other u w e at' is) ∙ idle') in
      let still : (i : ℕ) (u : V) → get_elem? s.views i ≡ some u → i ≢ id → i ≢ other → get_elem? (set vs other d) i ≡ some u = λ i u e a c. set_else vs other i d c ∙ (set_else s.views id i b a ∙ e) in
      let each : (P : ℕ → V → Type 0) → P id b → P other d → ((i : ℕ) (u : V) → i ≢ id → i ≢ other → get_elem? s.views i ≡ some u → P i u) → (i : ℕ) (u : V) → get_elem? (set vs other d) i ≡ some u → P i u = λ P on_b on_d others.
      each_set P vs other d on_d (λ i u not_other e. each_set (λ i u. i ≢ other → P i u) s.views id b (λ _. on_b) (λ i u not_id e not_other. others i u not_id not_other e) i u e not_other) in
      let full : (xs : List (ℕ × C)) → length xs ≤ length b.seen → xs ≡ r.history → b.seen ≡ r.history = λ xs le is. prefix_whole b.seen r.history (longer_keeps (λ z. IsPrefix z r.history) v.seen w.seen f.seen g.seen) (let e = ap length is in omega arith) in
      let mine' : own_entries v.number b.seen ≡ v.mine = ⊎_elim
      (λ t. ap (own_entries v.number) t.0 ∙ own_between v.number v.seen w.seen r.history v.mine (prefix_shorter v.seen w.seen r.history f.seen g.seen t.2) g.seen (f.mine live).1 (f.mine live).0)
      (λ t. ap (own_entries v.number) t.0 ∙ (f.mine live).1) (longer_cases v.seen w.seen) in record {
        history = r.history;
        drawn = r.drawn;
        turned = r.turned;
        owner = r.owner;
        bells = r.bells;
        words = r.words;
        few = omega arith;
        weights = omega arith;
        stands = λ t lo hi. let o = r.stands t lo hi in (o.0, still (r.owner t) o.0 o.1 (λ is. subst (HasTicket t) (resting (r.owner t) o.0 o.1 (inl is)) o.2) (λ is. subst (HasTicket t) (resting (r.owner t) o.0 o.1 (inr is)) o.2), o.2);
        each = subst (λ (q : ℕ). (j : ℕ) (u : V) → get_elem? (set vs other d) j ≡ some u → K r.history r.drawn r.turned q r.owner j u) sum (each (K r.history r.drawn r.turned (total faults_of s.views) r.owner)
            record { ticket = f.ticket; heavy = omega arith; turn = λ on. absurd (subst HasTurn idle on); start = f.start; seen = longer_keeps (λ z. IsPrefix z r.history) v.seen w.seen f.seen g.seen; mine = λ _. ((f.mine live).0, mine'); heard = shorter_begins v.seen w.seen r.history f.seen g.seen }
            record { ticket = λ t h. absurd h; heavy = omega arith; turn = λ on. absurd on; start = λ on. absurd (true≢false (sym on)); seen = (r.history, refl); mine = λ on. absurd (true≢false (sym on)); heard = ([], refl) }
            (λ j u _ _ e. r.each j u e));
        whole = dite (ℕ_discrete r.whole.0 id)
            (λ is. (id, b, here, live, full v.seen (longer_left v.seen w.seen) (ap (λ (z : V). z.seen) (sym (one_at s.views r.whole.0 id r.whole.1 v r.whole.2 at is)) ∙ r.whole.4)))
            (λ not_id. dite (ℕ_discrete r.whole.0 other)
            (λ is. (id, b, here, live, full w.seen (longer_right v.seen w.seen) (ap (λ (z : V). z.seen) (sym (one_at s.views r.whole.0 other r.whole.1 w r.whole.2 at' is)) ∙ r.whole.4)))
            (λ not_other. (r.whole.0, r.whole.1, still r.whole.0 r.whole.1 r.whole.2 not_id not_other, r.whole.3, r.whole.4)));
        numbers = subst (KeepsNumbers r.history) (sym (map-set holding_of vs other d ∙ ap (λ hs. set hs other (holding_of d)) (map-set holding_of s.views id b)))
            (numbers_join r.history (map holding_of s.views) id other (holding_of v) (holding_of w) (holding_of b) (holding_of d) w.mine r.numbers (at_map holding_of s.views id v at) (at_map holding_of s.views other w at') apart live live' (g.mine live').0 refl refl);
        place = ⊎_elim
            (λ h. inl (h.0, h.1, (let a = h.2 in record { same = a.same; state = a.state; log = a.log; count = reaches_same _ _ _ (omega arith) a.count }), each (λ j u. ¬ HasTurn u.stage) (h.3 id v at) (λ on. on) (λ j u _ _ e. h.3 j u e)))
            (λ h. inr (h.0, h.1, h.2, still h.1 h.2 h.3 (λ is. subst HasTurn (resting h.1 h.2 h.3 (inl is)) h.4) (λ is. subst HasTurn (resting h.1 h.2 h.3 (inr is)) h.4), h.4))
            r.place;
      }

  pub closes : (z : TableId) (id : ℕ) (v : V) (ws : List ℕ) (xs : List (Option M)) → Final (Seen Rule id v) ws xs → v.live ≡ true → v.stage ≡ Idle → v.weight ≡ 65536
      → (x : M) × (get_elem? xs 0 ≡ some (Some x)) × IsClosed W (seat_view_of z v) x
  closes z id v ws xs last live idle all =
      let s = last.0 in
      let r = last.1.0 in
      let at = last.1.1 in
      let f = r.each id v at in
      let none_yet : tickets_held v.stage ≡ 0 = ap tickets_held idle in
      let weights = r.weights in
      let whole : v.seen ≡ r.history = alone_whole W key s r id v at all in
      let only : (j : ℕ) (u : V) → get_elem? s.views j ≡ some u → 1 ≤ u.weight → j ≡ id = λ j u e heavy. dite (ℕ_discrete j id) (λ is. is) (λ other. let t = total_two weight_of s.views j id u v other e at in absurd (omega arith)) in
      ⊎_elim
      (λ (h : (x : M) × (s.homes ≡ some (Some x) ∷ []) × IsAtHome W r.history (W.opening key) (W.faults key) (total faults_of s.views) x × ((j : ℕ) (u : V) → get_elem? s.views j ≡ some u → ¬ HasTurn u.stage)).
      let a = h.2 in
      let start = f.start live in
      let mine = total_at faults_of s.views id v at in
      let base = start.1 in (
        h.0,
        last.4 0 (Some h.0) (ap (λ hs. get_elem? hs 0) h.1),
        record {
          log_is_seen = a.log ∙ sym whole;
          opening_stays = a.same ∙ sym start.0;
          state_is_replay = a.state ∙ (λ i. replay W.step (sym start.0 i) (sym whole i));
          faults_are_counted = reaches_same _ _ _ (omega arith) a.count;
          entries_have_seats = λ e c. let n : ℕ = e.0 in ⊎_elim (λ none. absurd (number_has_entries v.seen e c (ap (own_entries n) whole ∙ none)))
              (λ (t : (i : ℕ) × (y : Holding C) × (get_elem? (map holding_of s.views) i ≡ some y) × (y.live ≡ true) × BearsNumber y n). (
              let is : t.0 ≡ id = only_hold s r id v at all weights t.0 t.1 t.2 t.3 in
              subst (λ (y : Holding C). BearsNumber y n) (one_at (map holding_of s.views) t.0 id t.1 (holding_of v) t.2 (at_map holding_of s.views id v at) is) t.4)) (r.numbers.known n);
          ended_entries_are_kept = λ e c. ap (own_entries e.0) whole ∙ (r.numbers.gone id (holding_of v) e (at_map holding_of s.views id v at) live c).1;
        },
      ))
      (λ (h : (s.homes ≡ none ∷ []) × (j : ℕ) × (u : V) × (get_elem? s.views j ≡ some u) × HasTurn u.stage).
      let g = r.each h.1 h.2 h.3 in
      let has = (g.turn h.4).mine in
      let one = turn_out h.2.stage h.4 in
      let heavy = g.heavy in
      absurd (subst HasTurn (ap (λ (z : V). z.stage) (one_at s.views h.1 id h.2 v h.3 at (only h.1 h.2 h.3 (omega arith))) ∙ idle) h.4))
      r.place

module _ {M S C A : Type 0} (W : Meaning M S C A) where
  pub knows_called : (v : View S C) (t : ℕ) (x : M) (kind : ReplyKind) (call : C) → IsSoundView v → v.live ≡ true → IsTaken W v x → IsSoundView (rested (told kind call (leading W t x v)))
  knows_called v t x kind call k live u = record {
    weight = k.weight;
    spare = k.spare;
    numbers = k.numbers;
    heard = grows kind (v.number, call) v.heard (W.log x) (prefix_trans v.heard v.seen (W.log x) k.heard u.more);
    mine = own_grown_same kind v.number call (W.log x) ∙ ap (grown kind (v.number, call)) (u.mine live ∙ k.mine);
  }

pub knows_kept : {S C : Type 0} (v : View S C) (share : ℕ) → IsSoundView v → 1 ≤ share → share < v.spare → IsSoundView (kept_part (offering share v))
knows_kept v share k some_part less = let w = k.weight in let s = k.spare.1 in let n = k.numbers in record { weight = omega arith; spare = (omega arith, omega arith); numbers = omega arith; heard = k.heard; mine = k.mine }

pub knows_first : {S C : Type 0} (v : View S C) → v.weight ≡ 65536 → v.spare ≡ 65536 → v.number ≡ 0 → v.heard ≡ [] → v.seen ≡ [] → v.mine ≡ [] → IsSoundView v
knows_first v a b c d e f = record { weight = omega arith; spare = (omega arith, omega arith); numbers = omega arith; heard = (v.seen, ap (λ l. l ++ v.seen) d); mine = ap (own_entries v.number) e ∙ sym f }

pub joined_known : {S C : Type 0} (z z' : TableId) (v w : View S C) → IsSoundView v → IsSoundView w → IsSoundView (joined v w) → IsJoined (seat_view_of z v) (seat_view_of z' w) (seat_view_of z (joined v w))
joined_known z z' v w k l m = record {
  left_stays = (refl, refl, refl, refl, refl);
  sums = (refl, refl);
  seen_is_one_of_both = ⊎_elim (λ t. inr t.0) (λ t. inl t.0) (longer_cases v.seen w.seen);
  both_begin_seen = both_begin v.seen w.seen m.heard;
  left_entries_stay = m.mine ∙ sym k.mine;
  ended_are_kept = ap (λ es. (v.ended ++ w.ended) ++ (w.number, es) ∷ []) (sym l.mine);
}

pub machine_is : {M : Type 0} (x y : M) (s : Option M) → s ≡ Some x → s ≡ Some y → x ≡ y
machine_is x y s a b = ap (machine_or x) (sym a ∙ b)
