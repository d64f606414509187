-- The laws of histories of claims.
use Rattle.std.proofs.Common.{◌≡◌, ℕ, zero, suc, ◌+◌, ◌-◌, ◌^◌, ◌<◌, ◌≤◌, ◌==◌, Bool, true, false, cond, List, [], ◌∷◌, ◌++◌, take, length, refl, ap, sym, ◌∙◌, subst, arith, if◌then◌else◌}
use Rattle.std.specs.List.{count_by, sum_by}
use Rattle.std.proofs.lemmas.Bool.Decides.{nat_tests}
use Rattle.std.proofs.Math.Seq.{take-append-add}
use Rattle.std.proofs.lemmas.List.{length-append, length-take-le}
use Rattle.std.proofs.lemmas.List.Elements.{filter-append}
use Rattle.std.proofs.lemmas.List.Sums.{sum_by-cons}
use Rattle.history_lock.specs.Replay.{replay, own_entries}
use Rattle.ipam_data.specs.declared.calls.Call.{Call}
use Rattle.ipam_data.specs.declared.replies.Reply.{Reply}
use Rattle.ipam_data.specs.Rows.{most_addresses}
use Rattle.ipam_data.specs.State.{State, empty_state}
use Rattle.ipam_data.specs.Steps.{plain_step}
use Rattle.command_load.specs.Claims.{creation_of, claim_of_one, claimed_state}
use Rattle.command_load.specs.Histories.{AreClaims, HistoryLeadsToState, PlaceSaysAddress, own_places, SharesAddUp, CallHasNextPlace, PlacesStay}
use Rattle.command_load.proofs.Steps.{made_first, claim_next}

-- ---- the state

claims_replay : (unique : Bool) (len k : ℕ) (entries : List (ℕ × Call)) → AreClaims entries → len ≤ 30 → k + length entries + 1 < 2 ^ (32 - len) → k + length entries ≤ most_addresses
    → replay plain_step (claimed_state unique len k) entries ≡ claimed_state unique len (k + length entries)
claims_replay unique len k [] each short room few = (let e : k + 0 ≡ k = omega arith in ap (claimed_state unique len) (sym e))
claims_replay unique len k (e ∷ es) each short room few =
    let on : suc k + length es ≡ k + suc (length es) = omega arith in
    ap (λ (c : Call). replay plain_step (plain_step (claimed_state unique len k) c).0 es) each.0
    ∙ ap (λ (p : State × Reply). replay plain_step p.0 es) (claim_next unique len k short (omega arith) (omega arith))
    ∙ claims_replay unique len (suc k) es each.1 short (omega arith) (omega arith)
    ∙ ap (claimed_state unique len) on

-- the same behind the creation
made_replay : (unique : Bool) (len maker : ℕ) (claims : List (ℕ × Call)) → AreClaims claims → 1 ≤ len → len ≤ 30 → length claims + 1 < 2 ^ (32 - len) → length claims ≤ most_addresses
    → replay plain_step (empty_state unique) ((maker, creation_of len) ∷ claims) ≡ claimed_state unique len (length claims)
made_replay unique len maker claims each some short room few =
    let e : 0 + length claims ≡ length claims = omega arith in
    ap (λ (p : State × Reply). replay plain_step p.0 claims) (made_first unique len some)
    ∙ claims_replay unique len 0 claims each short (omega arith) (omega arith)
    ∙ ap (claimed_state unique len) e

pub history_leads : HistoryLeadsToState
history_leads unique len history h room =
    let long = ap (λ (l : List (ℕ × Call)). length l) h.is in
    let block = room.block in
    let limit = room.limit in
    ap (replay plain_step (empty_state unique)) h.is ∙ made_replay unique len h.maker h.claims h.each room.low room.high (omega arith) (omega arith)

-- the first claims are claims
front_claims : (m : ℕ) (claims : List (ℕ × Call)) → AreClaims claims → m ≤ length claims → AreClaims (take m claims) × (length (take m claims) ≡ m)
front_claims zero claims each few = (tt, refl)
front_claims (suc m) [] each few = (let wrong : suc m ≡ 0 = omega arith in cc)
front_claims (suc m) (e ∷ es) each few = (let r = front_claims m es each.1 (omega arith) in let l = r.1 in ((each.0, r.0), omega arith))

pub place_says : PlaceSaysAddress
place_says unique len history who reply zero h room some legal = absurd (omega arith)
place_says unique len history who reply (suc m) h room some legal =
    let long = ap (λ (l : List (ℕ × Call)). length l) h.is in
    let within = legal.within in
    let block = room.block in
    let limit = room.limit in
    let front = front_claims m h.claims h.each (omega arith) in
    let many = front.1 in
    legal.right
    ∙ ap (λ (l : List (ℕ × Call)). (plain_step (replay plain_step (empty_state unique) (take (suc m) l)) claim_of_one).1) h.is
    ∙ ap (λ (s : State). (plain_step s claim_of_one).1) (made_replay unique len h.maker (take m h.claims) front.0 room.low room.high (omega arith) (omega arith))
    ∙ ap (λ (k : ℕ). (plain_step (claimed_state unique len k) claim_of_one).1) many
    ∙ ap (λ (p : State × Reply). p.1) (claim_next unique len m room.high (omega arith) (omega arith))

-- ---- shares

module _ {C : Type 0} where
  pub own_more : (n : ℕ) (e : ℕ × C) (es : List (ℕ × C)) → length (own_entries n (e ∷ es)) ≡ cond (e.0 == n) 1 0 + length (own_entries n es)
  own_more n e es = go (e.0 == n) where
    go : (t : Bool) → length (cond t (e ∷ own_entries n es) (own_entries n es)) ≡ cond t 1 0 + length (own_entries n es)
    go true = omega arith
    go false = omega arith

  one_more : (e : ℕ × C) (es : List (ℕ × C)) (numbers : List ℕ)
      → sum_by (λ n. length (own_entries n (e ∷ es))) numbers ≡ count_by (λ n. e.0 == n) numbers + sum_by (λ n. length (own_entries n es)) numbers
  one_more e es [] = refl
  one_more e es (n ∷ numbers) =
      let a = sum_by-cons (λ n. length (own_entries n (e ∷ es))) n numbers in
      let b = sum_by-cons (λ n. cond (e.0 == n) 1 0) n numbers in
      let c = sum_by-cons (λ n. length (own_entries n es)) n numbers in
      let d = one_more e es numbers in
      let f = own_more n e es in
      omega arith

none_shared : (C : Type 0) (numbers : List ℕ) → sum_by (λ n. length (own_entries {C = C} n [])) numbers ≡ 0
none_shared C [] = refl
none_shared C (n ∷ numbers) = (let a = sum_by-cons (λ n. length (own_entries {C = C} n [])) n numbers in let b = none_shared C numbers in omega arith)

pub shares_add_up : SharesAddUp
shares_add_up numbers [] shared = sym (none_shared Call numbers)
shares_add_up numbers (e ∷ es) shared =
    let a = one_more e es numbers in
    let b = shared.0 in
    let c = shares_add_up numbers es shared.1 in
    omega arith

-- ---- places

empty_of : {X : Type 0} (xs : List X) → length xs ≡ 0 → xs ≡ []
empty_of [] e = refl
empty_of (x ∷ xs) e = cc

module _ {C : Type 0} where
  places-append : (n from : ℕ) (xs ys : List (ℕ × C)) → own_places n from (xs ++ ys) ≡ own_places n from xs ++ own_places n (from + length xs) ys
  places-append n from [] ys = (let e : from + 0 ≡ from = omega arith in ap (λ (k : ℕ). own_places n k ys) (sym e))
  places-append n from (x ∷ xs) ys =
      let on : (from + 1) + length xs ≡ from + suc (length xs) = omega arith in
      go (x.0 == n) (places-append n (from + 1) xs ys ∙ ap (λ (k : ℕ). own_places n (from + 1) xs ++ own_places n k ys) on)
    where
      go : (t : Bool) → own_places n (from + 1) (xs ++ ys) ≡ own_places n (from + 1) xs ++ own_places n (from + suc (length xs)) ys
          → (if t then from ∷ own_places n (from + 1) (xs ++ ys) else own_places n (from + 1) (xs ++ ys))
          ≡ (if t then from ∷ own_places n (from + 1) xs else own_places n (from + 1) xs) ++ own_places n (from + suc (length xs)) ys
      go true ih = ap (λ (l : List ℕ). from ∷ l) ih
      go false ih = ih

  no_places : (n from : ℕ) (xs : List (ℕ × C)) → own_entries n xs ≡ [] → own_places n from xs ≡ []
  no_places n from [] none = refl
  no_places n from (x ∷ xs) none = go (x.0 == n) none (no_places n (from + 1) xs) where
    go : (t : Bool) → cond t (x ∷ own_entries n xs) (own_entries n xs) ≡ [] → (own_entries n xs ≡ [] → own_places n (from + 1) xs ≡ [])
        → (if t then from ∷ own_places n (from + 1) xs else own_places n (from + 1) xs) ≡ []
    go true none ih = cc
    go false none ih = ih none

  none_behind : (n : ℕ) (xs ys : List (ℕ × C)) → length (own_entries n (xs ++ ys)) ≡ length (own_entries n xs) → own_entries n ys ≡ []
  none_behind n xs ys same =
      let parts = ap (λ (l : List (ℕ × C)). length l) (filter-append (λ e. e.0 == n) xs ys) ∙ length-append (own_entries n xs) (own_entries n ys) in
      empty_of (own_entries n ys) (omega arith)

  places_behind : (n : ℕ) (xs ys : List (ℕ × C)) → own_entries n ys ≡ [] → own_places n 0 (xs ++ ys) ≡ own_places n 0 xs
  places_behind n xs ys none =
      places-append n 0 xs ys ∙ ap (λ (l : List ℕ). own_places n 0 xs ++ l) (no_places n (0 + length xs) ys none) ∙ Rattle.std.proofs.Common.append-nil (own_places n 0 xs)

pub places_stay : PlacesStay
places_stay number before after prefix same =
    ap (own_places number 0) (sym prefix.1)
    ∙ places_behind number before prefix.0 (none_behind number before prefix.0 (ap (λ (l : List (ℕ × Call)). length (own_entries number l)) prefix.1 ∙ ap (λ (l : List (ℕ × Call)). length l) same))

-- the seat's entries before the place are those that it had
pub next_place : CallHasNextPlace
next_place v w call reply place c =
    let n = v.number in
    let within = c.reply_is_legal.within in
    let behind = c.place_is_after_seen in
    let rest = c.seen_only_grows.0 in
    let on : length v.seen + (place - length v.seen) ≡ place = omega arith in
    let front : take place w.seen ≡ v.seen ++ take (place - length v.seen) rest =
    ap (take place) (sym c.seen_only_grows.1) ∙ ap (λ (k : ℕ). take k (v.seen ++ rest)) (sym on) ∙ take-append-add v.seen rest (place - length v.seen) in
    let mid : List (ℕ × Call) = take (place - length v.seen) rest in
    let whole : w.seen ≡ (v.seen ++ mid) ++ (n, call) ∷ [] = c.seen_ends_at_place ∙ ap (λ (l : List (ℕ × Call)). l ++ (n, call) ∷ []) front in
    let mine : own_entries n ((n, call) ∷ []) ≡ (n, call) ∷ [] = ap (λ (t : Bool). cond t ((n, call) ∷ []) []) (same n) in
    let grew : length (own_entries n w.seen) ≡ length (own_entries n v.seen) + 1 =
    ap (λ (l : List (ℕ × Call)). length l) c.own_entries_grow ∙ length-append (own_entries n v.seen) ((n, call) ∷ []) in
    let split : length (own_entries n w.seen) ≡ length (own_entries n (v.seen ++ mid)) + 1 =
    ap (λ (l : List (ℕ × Call)). length (own_entries n l)) whole
    ∙ ap (λ (l : List (ℕ × Call)). length l) (filter-append (λ e. e.0 == n) (v.seen ++ mid) ((n, call) ∷ []))
    ∙ length-append (own_entries n (v.seen ++ mid)) (own_entries n ((n, call) ∷ []))
    ∙ ap (λ (l : List (ℕ × Call)). length (own_entries n (v.seen ++ mid)) + length l) mine in
    let none : own_entries n mid ≡ [] = none_behind n v.seen mid (omega arith) in
    let long : length (v.seen ++ mid) ≡ place = ap (λ (l : List (ℕ × Call)). length l) (sym front) ∙ length-take-le place w.seen within in
    let here : own_places n (0 + length (v.seen ++ mid)) ((n, call) ∷ []) ≡ place ∷ [] =
    ap (λ (t : Bool). if t then (0 + length (v.seen ++ mid)) ∷ [] else []) (same n) ∙ (let k : 0 + length (v.seen ++ mid) ≡ place = omega arith in ap (λ (m : ℕ). m ∷ []) k) in
    ap (own_places n 0) whole
    ∙ places-append n 0 (v.seen ++ mid) ((n, call) ∷ [])
    ∙ ap (λ (l : List ℕ). l ++ own_places n (0 + length (v.seen ++ mid)) ((n, call) ∷ [])) (places_behind n v.seen mid none)
    ∙ ap (λ (l : List ℕ). own_places n 0 v.seen ++ l) here
  where
    same : (n : ℕ) → (n == n) ≡ true
    same n = grind (arith, nat_tests)
