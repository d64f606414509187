-- What a feed shows of a register after one more accepted change.
use Rattle.std.proofs.Common.{◌≡◌, ℕ, zero, suc, ◌+◌, ◌-◌, ◌≤◌, ◌<◌, ◌⊎◌, Bool, true, List, [], ◌∷◌, ◌++◌, Option, Some, None, Result, Ok, Err, OnOk, OnErr, is_ok, false, length, length-append, map, take, fold, refl, sym, ap, ◌∙◌, subst, inl, inr, arith}
use Rattle.std.proofs.lemmas.List.Sums.{fold-append}
use Rattle.std.proofs.Math.Seq.{take-append_seam, take-length}
use Rattle.history_lock.specs.Replay.{replay}
use Rattle.ipam_data.specs.declared.calls.Call.{Call}
use Rattle.ipam_data.specs.declared.replies.Reply.{Reply}
use Rattle.ipam_data.specs.declared.update.Update.{Update}
use Rattle.ipam_data.specs.State.{State}
use Rattle.ipam_data.specs.Steps.{plain_step}
use Rattle.ipam_data.specs.Updates.{updated}
use Rattle.ipam_data.specs.Replays.{Entry, replay as entries_replay}
use Rattle.register_core.specs.Kept.{IsLastUpdate}
use Rattle.register_core.specs.Machines.{pair_of}
use Rattle.register_core.proofs.MachineFits.{replay_pairs}
use Rattle.snapshot_reads.specs.Published.{answers, published_lists_of}
use Rattle.snapshot_reads.specs.Seen.{FeedView}
use Rattle.snapshot_rows.specs.Lists.{AreAlike, Lists, after_update, lists_of}
use Rattle.snapshot_rows.proofs.Following.{lists_follow}
use Rattle.snapshot_operator.specs.Shown.{IsFeedOf, HasPublished, IsFollowing, IsKept, IsShown, NumbersAreStates}

split : (n m : ℕ) → (n ≤ m) ⊎ (m < n)
split zero m = inl (omega arith)
split (suc n) zero = inr (omega arith)
split (suc n) (suc m) = elim (split n m) [ inl le ↦ inl (omega arith) | inr lt ↦ inr (omega arith) ]

-- the first few of a longer list
front : {A : Type 0} (n : ℕ) (xs ys : List A) → n ≤ length xs → take n (xs ++ ys) ≡ take n xs
front zero xs ys le = refl
front (suc n) [] ys le = absurd (omega arith)
front {A} (suc n) (x ∷ xs) ys le = ap (λ (l : List A). x ∷ l) (front n xs ys (omega arith))

whole : {A : Type 0} (xs : List A) (x : A) → take (length xs + 1) (xs ++ x ∷ []) ≡ xs ++ x ∷ []
whole xs x = ap (λ (n : ℕ). take n (xs ++ x ∷ [])) (sym (length-append xs (x ∷ []))) ∙ take-length (xs ++ x ∷ [])

-- all but the last
butlast : {A : Type 0} (xs : List A) (x : A) → take (length (xs ++ x ∷ []) - 1) (xs ++ x ∷ []) ≡ xs
butlast xs x =
    let n : length (xs ++ x ∷ []) - 1 ≡ length xs = rw length-append (omega arith) in
    ap (λ (k : ℕ). take k (xs ++ x ∷ [])) n ∙ take-append_seam xs (x ∷ [])

map_take : {A B : Type 0} (f : A → B) (n : ℕ) (xs : List A) → map f (take n xs) ≡ take n (map f xs)
map_take f zero xs = refl
map_take f (suc n) [] = refl
map_take {B = B} f (suc n) (x ∷ xs) = ap (λ (l : List B). f x ∷ l) (map_take f n xs)

map_length : {A B : Type 0} (f : A → B) (xs : List A) → length (map f xs) ≡ length xs
map_length f [] = refl
map_length f (x ∷ xs) = ap suc (map_length f xs)

-- the lists before and after the last accepted change, and its update between them
module _ (o s : State) (log : List Entry) (before : List (ℕ × Call)) (entry : ℕ × Call) (behind : map pair_of log ≡ before ++ entry ∷ []) where
  -- the accepted changes but the last, as entries
  all_but_last : map pair_of (take (length log - 1) log) ≡ before
  all_but_last =
      map_take pair_of (length log - 1) log
      ∙ (ap (λ (k : ℕ). take (k - 1) (map pair_of log)) (sym (map_length pair_of log))
      ∙ (ap (λ (l : List (ℕ × Call)). take (length l - 1) l) behind ∙ butlast before entry))

  state_before : entries_replay o (take (length log - 1) log) ≡ replay plain_step o before
  state_before = sym (replay_pairs o (take (length log - 1) log)) ∙ ap (replay plain_step o) all_but_last

  state_now : s ≡ entries_replay o log → s ≡ replay plain_step o (before ++ entry ∷ [])
  state_now r = r ∙ (sym (replay_pairs o log) ∙ ap (replay plain_step o) behind)

  pub last_lists : (u : Update) → s ≡ entries_replay o log → IsLastUpdate o s log (Some u)
      → lists_of (replay plain_step o (before ++ entry ∷ [])) ≡ after_update (lists_of (replay plain_step o before)) u
  last_lists u r k =
      ap lists_of (sym (state_now r))
      ∙ (ap lists_of k.1 ∙ (lists_follow (entries_replay o (take (length log - 1) log)) u
      ∙ ap (λ (x : State). after_update (lists_of x) u) state_before))

-- the first few of a log with one more are those of the log
first_few : {A : Type 0} (before log : List A) (entry : A) (n : ℕ) → log ≡ before ++ entry ∷ [] → n ≤ length before → take n log ≡ take n before
first_few before log entry n behind few = ap (take n) behind ∙ front n before (entry ∷ []) few

pub longer : {A : Type 0} (before log : List A) (entry : A) → log ≡ before ++ entry ∷ [] → length log ≡ length before + 1
longer before log entry behind = ap length behind ∙ length-append before (entry ∷ [])

-- one more change was accepted, and none was published
pub followed_more : (first : State) (before log : List (ℕ × Call)) (entry : ℕ × Call) (old new : FeedView Lists Update) → IsFeedOf first before old
    → log ≡ before ++ entry ∷ [] → new.opening ≡ old.opening → new.published ≡ old.published → IsFeedOf first log new
followed_more first before log entry old new k behind opening same =
    let few = k.changes.few in
    let grown = longer before log entry behind in
    let start = lists_of first in
    record {
      opening = opening ∙ k.opening;
      changes = subst (IsFollowing first log) (sym same) (record {
        few = omega arith;
        lists = λ n le. k.changes.lists n le ∙ ap (λ (l : List (ℕ × Call)). lists_of (replay plain_step first l)) (sym (first_few before log entry n behind (omega arith)));
      });
    }

-- one more change was published, that does what the last accepted one did
pub shown_more : (first : State) (before log : List (ℕ × Call)) (entry : ℕ × Call) (u : Update) (old new : FeedView Lists Update) → IsShown first before old
    → log ≡ before ++ entry ∷ [] → lists_of (replay plain_step first (before ++ entry ∷ [])) ≡ after_update (lists_of (replay plain_step first before)) u
    → new.live ≡ true → new.opening ≡ old.opening → HasPublished u old.published new.published → IsShown first log new
shown_more first before log entry u old new k behind leads live opening p =
    let c = k.count in
    let f = k.follows.changes in
    let more : length new.published ≡ length before + 1 = longer old.published new.published p.0 p.1 ∙ ap (λ (n : ℕ). n + 1) c in
    let grown = longer before log entry behind in
    let start = lists_of first in
    let state_at : List (ℕ × Call) → Lists = λ l. lists_of (replay plain_step first l) in
    record {
      live = live;
      count = more ∙ sym grown;
      follows = record {
        opening = opening ∙ k.follows.opening;
        changes = record {
          few = omega arith;
          lists = λ n le. elim (split n (length before)) [
            | inl few ↦
                ap (published_lists_of start) (first_few old.published new.published p.0 n p.1 (omega arith))
                ∙ (f.lists n (omega arith) ∙ ap state_at (sym (first_few before log entry n behind few)))
            | inr all ↦ (
                let n_is : n ≡ length before + 1 = omega arith in
                let here : take n new.published ≡ old.published ++ p.0 ∷ [] =
                ap (λ (m : ℕ). take m new.published) (n_is ∙ ap (λ (m : ℕ). m + 1) (sym c)) ∙ (ap (take (length old.published + 1)) p.1 ∙ whole old.published p.0) in
                let there : take n log ≡ before ++ entry ∷ [] = ap (λ (m : ℕ). take m log) n_is ∙ (ap (take (length before + 1)) behind ∙ whole before entry) in
                let was : published_lists_of start old.published ≡ state_at before =
                ap (published_lists_of start) (sym (take-length old.published) ∙ ap (λ (m : ℕ). take m old.published) c)
                ∙ (f.lists (length before) (omega arith) ∙ ap state_at (take-length before)) in
                ap (published_lists_of start) here
                ∙ (fold-append after_update start old.published (p.0 ∷ [])
                ∙ (ap (λ (l : Lists). after_update l p.0) was
                ∙ (p.2 (state_at before)
                ∙ (sym leads ∙ ap state_at (sym there))))))
          ];
        };
      };
    }

-- the change was published, or it was not
pub published_last : {T E : Type 0} (first : State) (before log : List (ℕ × Call)) (entry : ℕ × Call) (u : Update) (old new : FeedView Lists Update) (result : Result T E) → IsShown first before old
    → log ≡ before ++ entry ∷ [] → lists_of (replay plain_step first (before ++ entry ∷ [])) ≡ after_update (lists_of (replay plain_step first before)) u
    → new.opening ≡ old.opening → OnOk result (new.live ≡ true) → OnOk result (HasPublished u old.published new.published) → OnErr result (new.published ≡ old.published)
    → IsFeedOf first log new × OnOk result (IsShown first log new) × OnErr result (length new.published < length log)
published_last first before log entry u old new (Ok x) k behind leads opening live published same =
    let s = shown_more first before log entry u old new k behind leads live opening published in (s.follows, s, tt)
published_last first before log entry u old new (Err e) k behind leads opening live published same =
    let count = k.count in
    let grown = longer before log entry behind in
    let stays : length new.published ≡ length old.published = ap length same in
    (followed_more first before log entry old new k.follows behind opening same, tt, omega arith)

-- what is kept then
pub kept_on : {T E : Type 0} (first : State) (log : List (ℕ × Call)) (feed : FeedView Lists Update) (result : Result T E) (whole : Bool) → whole ≡ is_ok result
    → IsFeedOf first log feed → OnOk result (IsShown first log feed) → OnErr result (length feed.published < length log) → IsKept whole first log feed
kept_on first log feed (Ok x) whole is follows shown lacks = record { follows = follows; shown = λ good. shown; lacks = λ lost. absurd (cc (sym is ∙ lost)) }
kept_on first log feed (Err e) whole is follows shown lacks = record { follows = follows; shown = λ good. absurd (cc (sym is ∙ good)); lacks = λ lost. lacks }

-- a feed that shows the register is kept as one that is whole
pub kept_whole : (first : State) (log : List (ℕ × Call)) (feed held : FeedView Lists Update) (whole : Bool) → held ≡ feed → whole ≡ true → IsShown first log feed → IsKept whole first log held
kept_whole first log feed held whole same is shown =
    let s = subst (IsShown first log) (sym same) shown in record { follows = s.follows; shown = λ good. s; lacks = λ lost. absurd (cc (sym is ∙ lost)) }

-- where it lacked changes before, it lacks them still
pub lacks_on : (first : State) (before log : List (ℕ × Call)) (entry : ℕ × Call) (feed : FeedView Lists Update) (whole : Bool) → whole ≡ false → IsKept whole first before feed
    → log ≡ before ++ entry ∷ [] → IsKept whole first log feed
lacks_on first before log entry feed whole lost k behind =
    let fewer = k.lacks lost in
    let grown = longer before log entry behind in
    record {
      follows = followed_more first before log entry feed feed k.follows behind refl refl;
      shown = λ good. absurd (cc (sym lost ∙ good));
      lacks = λ _. omega arith;
    }

-- a feed of the opening lists follows a register that has accepted nothing
pub shown_first : (first : State) (log : List (ℕ × Call)) (feed : FeedView Lists Update) → log ≡ [] → feed.opening ≡ Some (lists_of first) → feed.published ≡ [] → feed.live ≡ true
    → IsShown first log feed
shown_first first log feed none opening published live =
    let no_log : length log ≡ 0 = ap length none in
    let no_change : length feed.published ≡ 0 = ap length published in
    record {
      live = live;
      count = omega arith;
      follows = record {
        opening = opening;
        changes = record {
          few = omega arith;
          lists = λ n le.
              let zero_ : n ≡ 0 = omega arith in
              ap (λ (m : ℕ). published_lists_of (lists_of first) (take m feed.published)) zero_
              ∙ ap (λ (m : ℕ). lists_of (replay plain_step first (take m log))) (sym zero_);
        };
      };
    }

pub numbers_are_states : NumbersAreStates
numbers_are_states first log published n call reply k le a = a (replay plain_step first (take n log)) (sym (k.lists n le))
