-- The laws of notes.
use Rattle.std.proofs.Common.{◌≡◌, ◌≢◌, inl, inr, ℕ, zero, suc, ◌+◌, ◌-◌, ◌<◌, ◌≤◌, Bool, List, [], ◌∷◌, ◌++◌, Option, Some, None, length, map, min, max, Contains, refl, ap, sym, ◌∙◌, subst, arith}
use Rattle.std.specs.Prelude.{slice_get}
use Rattle.std.specs.List.{AllByRecursion}
use Rattle.std.proofs.lemmas.List.{length-append, map-append}
use Rattle.std.proofs.lemmas.List.Sums.{sum_by-cons}
use mathlib.Core.List.{IsPrefix}
use Rattle.history_lock.specs.Replies.{accepted}
use Rattle.history_lock.specs.Replay.{own_entries}
use Rattle.history_lock.specs.Places.{IsLegalAt}
use Rattle.history_lock.proofs.Places.{IsLegalAt-longer}
use Rattle.ipam_data.specs.declared.calls.Call.{Call}
use Rattle.ipam_data.specs.State.{State, empty_state}
use Rattle.ipam_data.specs.Replays.{is_accepted}
use Rattle.ipam_data.specs.Steps.{plain_step}
use Rattle.ipam_data.proofs.RowLists.{contains_cases}
use Rattle.register_core.specs.Machines.{Seen}
use Rattle.register_core.proofs.MachineFits.{legal_plainly}
use Rattle.command_load.specs.LoadText.{load_first}
use Rattle.command_load.specs.Claims.{claim_of_one, creation_of}
use Rattle.command_load.specs.Histories.{IsLoadHistory, HasRoomFor, own_places}
use Rattle.command_load.specs.Replies.{address_in}
use Rattle.command_load.specs.Notes.{IsGot, least_among, greatest_among, ClaimIsNoted, NotesAreTally}
use Rattle.command_load.proofs.Histories.{place_says, next_place, places_stay}

-- ---- one more

longer : (unique : Bool) (h g : List (ℕ × Call)) (number : ℕ) (notes : List (ℕ × ℕ)) → IsPrefix h g → AllByRecursion (IsGot unique h number) notes → AllByRecursion (IsGot unique g number) notes
longer unique h g number [] p all = tt
longer unique h g number (n ∷ ns) p all = (
  record { reply = all.0.reply; tells = all.0.tells; legal = IsLegalAt-longer plain_step is_accepted (empty_state unique) h g number claim_of_one all.0.reply accepted n.1 p all.0.legal },
  longer unique h g number ns p all.1,
)

all-push : {X : Type 0} (P : X → Type 0) (xs : List X) (x : X) → AllByRecursion P xs → P x → AllByRecursion P (xs ++ x ∷ [])
all-push P [] x all p = (p, tt)
all-push P (y ∷ ys) x all p = (all.0, all-push P ys x all.1 p)

least-push : (most : ℕ) (notes : List (ℕ × ℕ)) (note : ℕ × ℕ) → note.0 ≤ most → least_among most (notes ++ note ∷ []) ≡ min (least_among most notes) note.0
least-push most [] note low = omega arith
least-push most (n ∷ ns) note low = (let e = least-push most ns note low in omega arith)

greatest-push : (notes : List (ℕ × ℕ)) (note : ℕ × ℕ) → greatest_among (notes ++ note ∷ []) ≡ max (greatest_among notes) note.0
greatest-push [] note = omega arith
greatest-push (n ∷ ns) note = (let e = greatest-push ns note in omega arith)

pub one_noted : ClaimIsNoted
one_noted unique most v w claimed least greatest value place reply noted c tells low =
    let same = c.seat_stays.1 in
    record {
      opening = ap (λ (s : Seen). s.state) c.seat_stays.4 ∙ noted.opening;
      claims = subst (AllByRecursion (λ e. e.1 ≡ claim_of_one)) (sym (ap (λ (n : ℕ). own_entries n w.seen) same ∙ c.own_entries_grow))
          (all-push (λ e. e.1 ≡ claim_of_one) (own_entries v.number v.seen) (v.number, claim_of_one) noted.claims refl);
      notes = noted.notes ++ (value, place) ∷ [];
      places =
          ap (λ (n : ℕ). own_places n 0 w.seen) same ∙ next_place v w claim_of_one reply place c ∙ ap (λ (l : List ℕ). l ++ place ∷ []) noted.places
          ∙ sym (map-append (λ (n : ℕ × ℕ). n.1) noted.notes ((value, place) ∷ []));
      got = subst (λ (n : ℕ). AllByRecursion (IsGot unique w.seen n) (noted.notes ++ (value, place) ∷ [])) (sym same)
          (all-push (IsGot unique w.seen v.number) noted.notes (value, place) (longer unique v.seen w.seen v.number noted.notes c.seen_only_grows noted.got)
          (record {
            reply = reply;
            tells = tells;
            legal = subst (λ (s : State). IsLegalAt plain_step is_accepted s w.seen v.number claim_of_one reply accepted place) noted.opening
                (legal_plainly is_accepted v.opening w.seen v.number claim_of_one reply accepted place c.reply_is_legal);
          }));
      count = (
          let a = noted.count in
          let b : length (own_entries w.number w.seen) ≡ length (own_entries v.number v.seen) + 1 =
          ap (λ (n : ℕ). length (own_entries n w.seen)) same ∙ ap (λ (l : List (ℕ × Call)). length l) c.own_entries_grow ∙ length-append (own_entries v.number v.seen) ((v.number, claim_of_one) ∷ []) in
          omega arith);
      least_is = ap (λ (n : ℕ). min n value) noted.least_is ∙ sym (least-push most noted.notes (value, place) low);
      greatest_is = ap (λ (n : ℕ). max n value) noted.greatest_is ∙ sym (greatest-push noted.notes (value, place));
    }

-- ---- in the history of all

place_below : {X : Type 0} (xs : List X) (p : ℕ) (x : X) → slice_get xs p ≡ Some x → p < length xs
place_below [] p x e = absurd (cc (e))
place_below (y ∷ ys) zero x e = omega arith
place_below (y ∷ ys) (suc p) x e = (let h = place_below ys p x e in omega arith)

-- what a note says of a place
record IsPlaced (entries : ℕ) (note : ℕ × ℕ) : Type 0 where
  value : note.0 ≡ load_first + note.1
  low : 1 ≤ note.1
  high : note.1 < entries

abbrev first_or : ℕ → Option (ℕ × Call) → ℕ
first_or d None = d
first_or d (Some e) = e.0

placed_one : (unique : Bool) (len : ℕ) (history : List (ℕ × Call)) (number : ℕ) (note : ℕ × ℕ) (h : IsLoadHistory len history) → HasRoomFor len (length history) → h.maker ≢ number
    → IsGot unique history number note → IsPlaced (length history) note
placed_one unique len history number note h room other got =
    let entry : slice_get history note.1 ≡ Some (number, claim_of_one) = got.legal.entry refl in
    let low : 1 ≤ note.1 = not_first note.1 entry in
    let is : Some note.0 ≡ Some (load_first + note.1) = sym got.tells ∙ ap address_in (place_says unique len history number got.reply note.1 h room low got.legal) in
    record { value = some_same note.0 (load_first + note.1) is; low = low; high = place_below history note.1 (number, claim_of_one) entry }
  where
    some_same : (x y : ℕ) → Some x ≡ Some y → x ≡ y
    some_same x y e = cc

    not_first : (p : ℕ) → slice_get history p ≡ Some (number, claim_of_one) → 1 ≤ p
    not_first zero e =
        let there : slice_get ((h.maker, creation_of len) ∷ h.claims) 0 ≡ Some (number, claim_of_one) = subst (λ (l : List (ℕ × Call)). slice_get l 0 ≡ Some (number, claim_of_one)) h.is e in
        absurd (other (ap (first_or 0) there))
    not_first (suc p) e = omega arith

placed_all : (unique : Bool) (len : ℕ) (history : List (ℕ × Call)) (number : ℕ) (notes : List (ℕ × ℕ)) (h : IsLoadHistory len history) → HasRoomFor len (length history) → h.maker ≢ number
    → AllByRecursion (IsGot unique history number) notes → AllByRecursion (IsPlaced (length history)) notes
placed_all unique len history number [] h room other all = tt
placed_all unique len history number (n ∷ ns) h room other all = (placed_one unique len history number n h room other all.0, placed_all unique len history number ns h room other all.1)

least_low : (entries most : ℕ) (notes : List (ℕ × ℕ)) → AllByRecursion (IsPlaced entries) notes → load_first + 1 ≤ most → load_first + 1 ≤ least_among most notes
least_low entries most [] all low = low
least_low entries most (n ∷ ns) all low = (let e = least_low entries most ns all.1 low in let v = all.0.value in let l = all.0.low in omega arith)

greatest_high : (entries : ℕ) (notes : List (ℕ × ℕ)) → AllByRecursion (IsPlaced entries) notes → greatest_among notes ≤ load_first + (entries - 1)
greatest_high entries [] all = omega arith
greatest_high entries (n ∷ ns) all = (let e = greatest_high entries ns all.1 in let v = all.0.value in let h = all.0.high in omega arith)

least_below : (entries most p : ℕ) (notes : List (ℕ × ℕ)) → AllByRecursion (IsPlaced entries) notes → Contains (map (λ n. n.1) notes) p → least_among most notes ≤ load_first + p
least_below entries most p [] all c = (let h = c.1 in absurd (omega arith))
least_below entries most p (n ∷ ns) all c = elim (contains_cases n.1 p (map (λ n. n.1) ns) c) [
  | inl e ↦ (let v = all.0.value in omega arith)
  | inr d ↦ (let h = least_below entries most p ns all.1 d in omega arith)
]

greatest_above : (entries p : ℕ) (notes : List (ℕ × ℕ)) → AllByRecursion (IsPlaced entries) notes → Contains (map (λ n. n.1) notes) p → load_first + p ≤ greatest_among notes
greatest_above entries p [] all c = (let h = c.1 in absurd (omega arith))
greatest_above entries p (n ∷ ns) all c = elim (contains_cases n.1 p (map (λ n. n.1) ns) c) [
  | inl e ↦ (let v = all.0.value in omega arith)
  | inr d ↦ (let h = greatest_above entries p ns all.1 d in omega arith)
]

only : (n m : ℕ) → Contains (n ∷ []) m → n ≡ m
only n m c = elim (contains_cases n m [] c) [ inl e ↦ e | inr d ↦ (let h = d.1 in absurd (omega arith)) ]

pub notes_tally : NotesAreTally
notes_tally unique len most history v claimed least greatest h room noted prefix same other top =
    let placed = placed_all unique len history v.number noted.notes h room other (longer unique v.seen history v.number noted.notes prefix noted.got) in
    let places : own_places v.number 0 history ≡ map (λ n. n.1) noted.notes = places_stay v.number v.seen history prefix same ∙ noted.places in
    let long = ap (λ (l : List (ℕ × Call)). length l) h.is in
    let least_is = noted.least_is in
    let greatest_is = noted.greatest_is in
    record {
      count = (
          let a = noted.count in
          let b = sum_by-cons (λ n. length (own_entries n history)) v.number [] in
          let c = ap (λ (l : List (ℕ × Call)). length l) same in
          omega arith);
      below = λ n p c d. (
          let e = least_below (length history) most p noted.notes placed (subst (λ (l : List ℕ). Contains l p) places (subst (λ (m : ℕ). Contains (own_places m 0 history) p) (sym (only v.number n c)) d)) in
          omega arith);
      above = λ n p c d. (
          let e = greatest_above (length history) p noted.notes placed (subst (λ (l : List ℕ). Contains l p) places (subst (λ (m : ℕ). Contains (own_places m 0 history) p) (sym (only v.number n c)) d)) in
          omega arith);
      low = (let e = least_low (length history) most noted.notes placed (omega arith) in omega arith);
      high = (let e = greatest_high (length history) noted.notes placed in omega arith);
    }
