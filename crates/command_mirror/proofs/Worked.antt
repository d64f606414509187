-- Readers before their work and behind it.
use Rattle.std.proofs.Common.{◌≡◌, ◌<◌, ℕ, List, [], ◌∷◌, ◌++◌, All, length, get_or, map, Option, Some, None, IfSome, sym, ap, ◌∙◌, subst, refl}
use Rattle.std.specs.Prelude.{take}
use Rattle.std.proofs.Math.Seq.{take-append_seam}
use Rattle.std.specs.List.{AllByRecursion}
use Rattle.std.specs.Option.{option_to_list}
use Rattle.std.proofs.lemmas.List.Elements.{All-push, All-from_recursion, recursion_from_All}
use mathlib.Core.List.{IsPrefix, map-append}
use Rattle.http_lanes.specs.Listened.{returned_as}
use Rattle.http_lanes.specs.Served.{AreServed, HasServed}
use Rattle.ipam_data.specs.declared.update.Update.{Update}
use Rattle.ipam_listen.specs.Connections.{Connection, Returned}
use Rattle.snapshot_rows.specs.Lists.{Lists}
use Rattle.snapshot_reads.specs.Seen.{FeedView, Grows, IsLookOf, IsNewLook}
use Rattle.snapshot_reads.proofs.Lists.{prefix_trans}
use Rattle.snapshot_reads.proofs.Reading.{grows_same, grows_trans}
use Rattle.snapshot_session.specs.Reads.{Seen, answers_read}
use Rattle.snapshot_session.proofs.Later.{end_later}
use Rattle.snapshot_session.proofs.Numbers.{answers_go_along}
use Rattle.command_mirror.specs.Readers.{AllHaveRead, AreReadLanes, AreWithin, HasRead, IsFresh, IsRead, IsReadLane, IsReady, look_of}

abbrev value_or : {A : Type 0} → A → Option A → A
value_or d None = d
value_or d (Some x) = x

pub some_same : {A : Type 0} (x y : A) → Some x ≡ Some y → x ≡ y
some_same x y e = ap (value_or x) e

-- ---- lists whose last element leaves, or that get one more

module _ {X : Type 0} (P : X → Type 0) where
  parts : (xs : List X) (y : X) → AllByRecursion P (xs ++ y ∷ []) → AllByRecursion P xs × P y
  parts [] y h = (tt, h.0)
  parts (x ∷ xs) y h = let r = parts xs y h.1 in ((h.0, r.0), r.1)

  pub popped : (xs ys : List X) (r : Option X) (x : X) → xs ≡ ys ++ option_to_list r → r ≡ Some x → All P xs → All P ys × P x
  popped xs ys r x e is all = let h = parts ys x (recursion_from_All P (ys ++ x ∷ []) (subst (All P) (e ∙ ap (λ z. ys ++ option_to_list z) is) all)) in (All-from_recursion P ys h.0, h.1)

  pub pushed : (xs zs : List X) (x : X) → zs ≡ xs ++ x ∷ [] → All P xs → P x → All P zs
  pushed xs zs x e all one = subst (All P) (sym e) (All-push P xs x all one)

-- a list that is written over one that is as long
over : {X : Type 0} (P : List X → Type 0) (xs ys : List X) (n : ℕ) → n ≡ length xs → P xs → P (take n (xs ++ ys))
over P xs ys n is all = subst P (sym (ap (λ m. take m (xs ++ ys)) is ∙ take-append_seam xs ys)) all

-- ---- a look grows over the connections that were answered from it

pub served_grows : (cs : List Connection) (s t : Seen) → AreServed answers_read cs s t → Grows s t
served_grows [] s t h = grows_same s t h
served_grows (c ∷ cs) s t h =
    grows_trans s h.0 t (end_later answers_read Grows answers_go_along s h.0 c.before.written h.1.0.written h.1.2.bytes h.1.0.left h.1.2.how h.1.2.talk) (served_grows cs h.0 t h.2)

-- where the last look is within the published changes, that at the end of each connection is
within_each : (published : List Update) (cs : List Connection) (s t : Seen) → AreServed answers_read cs s t → IsPrefix t.seen published → AreWithin published cs s t
within_each published [] s t h begins = h
within_each published (c ∷ cs) s t h begins =
    (h.0, h.1, prefix_trans h.0.seen t.seen published (served_grows cs h.0 t h.2).seen begins, within_each published cs h.0 t h.2 begins)

-- ---- readers

-- a new look of a feed that has published nothing is its first one
pub first_of : (feed : FeedView Lists Update) (look : Seen) → feed.published ≡ [] → IsNewLook feed look → look ≡ look_of feed
first_of feed look none new = new ∙ ap (λ (log : List Update). record { book = feed.book; opening = feed.opening; seen = log; told = log }) none

module _ {L : Type 0} (told : L → Option (List Connection)) (first : Seen) where
  pub ready : (look : Option Seen) (lane : L) → IsFresh told first look lane → IsReady told look lane
  ready look lane f = record { now = first; has = f.has; fresh = f.none_told }

  module _ (accepts : L → ℕ) where
    one_read : (faults : L → ℕ) (old : Option Seen) (lane_old : L) (new : Option Seen) (lane_new : L) → HasRead told accepts faults old lane_old new lane_new → IsFresh told first old lane_old
        → IsRead told accepts first new lane_new
    one_read faults old lane_old new lane_new k f =
        let same : k.before ≡ first = some_same k.before first (sym k.had ∙ f.has) in
        record { last = k.after; has = k.has; served = subst (λ (s : Seen). HasServed answers_read s k.after (told lane_new)) same k.served; none_left = k.none_left }

    -- the look that a reader has is the last one
    pub last_look : (look : Option Seen) (lane : L) (now : Seen) → IsRead told accepts first look lane → look ≡ Some now → HasServed answers_read first now (told lane)
    last_look look lane now k is = subst (λ (s : Seen). HasServed answers_read first s (told lane)) (some_same k.last now (sym k.has ∙ is)) k.served

    pub has_look : (look : Option Seen) (lane : L) → IsRead told accepts first look lane → look ≡ None → ⊥
    has_look look lane k is = absurd (cc (sym k.has ∙ is))

  module _ {X : Type 0} (look : X → Option Seen) (lane : X → L) where
    -- the same of equal readers
    pub all_fresh : (rs others : List X) → rs ≡ others → All (λ r. IsFresh told first (look r) (lane r)) others → All (λ r. IsFresh told first (look r) (lane r)) rs
    all_fresh rs others same fresh = subst (All {X = X} (λ r. IsFresh told first (look r) (lane r))) (sym same) fresh

    pub all_ready : (rs : List X) → All (λ r. IsFresh told first (look r) (lane r)) rs → All (λ r. IsReady told (look r) (lane r)) rs
    all_ready rs fresh = λ k d lt. ready (look (get_or rs k d)) (lane (get_or rs k d)) (fresh k d lt)

    pub all_read : (accepts faults : L → ℕ) (old new : List X) → length new ≡ length old → AllHaveRead told accepts faults look lane old new → All (λ r. IsFresh told first (look r) (lane r)) old
        → All (λ r. IsRead told accepts first (look r) (lane r)) new
    all_read accepts faults old new same worked fresh = λ k d lt.
        let there = subst (λ (n : ℕ). k < n) same lt in
        one_read accepts faults (look (get_or old k d)) (lane (get_or old k d)) (look (get_or new k d)) (lane (get_or new k d)) (worked k d there) (fresh k d there)

-- the same of readers that were written over as many
pub all_over : {L X : Type 0} (told : L → Option (List Connection)) (accepts : L → ℕ) (look : X → Option Seen) (lane : X → L) (first : Seen) (rs old : List X) (n : ℕ) → n ≡ length rs
    → All (λ r. IsRead told accepts first (look r) (lane r)) rs → All (λ r. IsRead told accepts first (look r) (lane r)) (take n (rs ++ old))
all_over {L} {X} told accepts look lane first rs old n is all = over (All {X = X} (λ r. IsRead told accepts first (look r) (lane r))) rs old n is all

-- the same of an equal first look
pub all_from : {L X : Type 0} (told : L → Option (List Connection)) (accepts : L → ℕ) (look : X → Option Seen) (lane : X → L) (first other : Seen) (rs : List X) → first ≡ other
    → All (λ r. IsRead told accepts first (look r) (lane r)) rs → All (λ r. IsRead told accepts other (look r) (lane r)) rs
all_from {L} {X} told accepts look lane first other rs same all = subst (λ (s : Seen). All {X = X} (λ r. IsRead told accepts s (look r) (lane r)) rs) same all

-- a look of a reader is one of the feed
pub look_is_of : (told : Option (List Connection)) (feed : FeedView Lists Update) (now : Seen) → HasServed answers_read (look_of feed) now told → IsLookOf feed now
look_is_of told feed now h = let g = served_grows h.connections (look_of feed) now h.served in record { book = g.book; opening = g.opening }

-- ---- lanes that come back

lane_of : {L : Type 0} (told : L → Option (List Connection)) (accepts : L → ℕ) (feed : FeedView Lists Update) (lane : L) (now : Seen) → HasServed answers_read (look_of feed) now (told lane)
    → accepts lane ≡ 0 → IsPrefix now.seen feed.published → IsReadLane feed.opening feed.published (returned_as told accepts lane)
lane_of told accepts feed lane now h none begins =
    record {
      first = look_of feed;
      last = now;
      opening_is = refl;
      none_seen = refl;
      connections = h.connections;
      told_are = h.told_are;
      served = h.served;
      begins = begins;
      each = within_each feed.published h.connections (look_of feed) now h.served begins;
      none_left = none;
    }

-- one more lane
pub one_back : {L : Type 0} (told : L → Option (List Connection)) (accepts : L → ℕ) (feed : FeedView Lists Update) (before after : List L) (lane : L) (now : Seen)
    → after ≡ before ++ lane ∷ [] → HasServed answers_read (look_of feed) now (told lane) → accepts lane ≡ 0 → IsPrefix now.seen feed.published
    → AreReadLanes feed.opening feed.published (map (returned_as told accepts) before) → AreReadLanes feed.opening feed.published (map (returned_as told accepts) after)
one_back told accepts feed before after lane now more h none begins k =
    let P = IsReadLane feed.opening feed.published in
    let back = returned_as told accepts in
    pushed P (map back before) (map back after) (back lane) (ap (map back) more ∙ map-append back before (lane ∷ [])) k (lane_of told accepts feed lane now h none begins)
