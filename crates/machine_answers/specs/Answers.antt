-- What the callers of a machine were answered: for each one flat list, with the place of every answer in the one history.
use Rattle.std.specs.Prelude.{◌≡◌, ◌⊎◌, ◌+◌, ◌++◌, ◌≤◌, ℕ, All, Contains, List, [], ◌∷◌, map, Option, Some, None, IfSome, Ok, Err}
use Rattle.std.specs.Io.KnownBytes.{Appends, IsAtEnd}
use Rattle.ipam_edge.specs.Writing.{AppendsFront}
use Rattle.ipam_listen.specs.Connections.{Connection, Ends, Returned}
use Rattle.history_lock.specs.Replies.{ReplyKind, accepted, fault, memory, plain, rise_of}
use Rattle.history_lock.specs.Replay.{own_entries, replay}
use Rattle.history_lock.specs.Places.{IsLegalAt}
use Rattle.http_session.specs.Requests.{AreItems, Asks, Framed, Item, Refuses}
use Rattle.http_session.specs.Steps.{Grown}
use Rattle.http_session.specs.Talk.{Answer, text_of, texts}
use Rattle.machine_session.specs.Protocols.{Protocol}

-- a call and its reply; `place` is the number of accepted changes before it
pub record Told (C R : Type 0) : Type 0 where
  pub call : C
  pub reply : R
  pub place : ℕ

-- a request of a connection, or bytes in the place of one; its answer; and what the machine was asked for it and answered, if anything
pub record Exchange (C R : Type 0) : Type 0 where
  pub item : Item
  pub answer : Answer
  pub told : Option (Told C R)

-- a connection, with what was asked and answered in it, in order
pub record Talk (C R : Type 0) : Type 0 where
  pub connection : Connection
  pub exchanges : List (Exchange C R)

-- a caller by its number, with the connections that it served, one after another
pub record Caller (C R : Type 0) : Type 0 where
  pub number : ℕ
  pub talks : List (Talk C R)

-- ---- one answer

-- the answer to an item is right in this history, for the caller of this number
abbrev pub IsRight : {S C A R W E : Type 0} → Protocol S C A R W E → S → List (ℕ × C) → ℕ → Item → Answer → Option (Told C R) → Type 0
-- to a call it is the text of the plain machine's reply after the changes before its place; an accepted change is the entry there
IsRight {W = W} P opening history number (Asks request) answer (Some told) = (shown : W) × P.asks request (Ok (told.call, shown))
    × IsLegalAt P.step P.fallible opening history number told.call (P.answer told.reply) (P.kind told.reply) told.place
    × (answer ≡ P.tells told.call told.reply shown told.place)
-- what the bytes decide is refused without the machine
IsRight {E = E} P opening history number (Asks request) answer None = (why : E) × P.asks request (Err why) × P.refuses request why answer
IsRight P opening history number (Refuses why) answer told = P.misread why answer × (told ≡ None)

-- ---- the bytes of a connection

abbrev pub items_of : {C R : Type 0} → List (Exchange C R) → List Item
items_of exchanges = map (λ x. x.item) exchanges

abbrev pub text_of_all : {C R : Type 0} → List (Exchange C R) → List ℕ
text_of_all exchanges = texts (items_of exchanges) (map (λ x. x.answer) exchanges)

-- the answers were written: all of them, or all but the last and a prefix of that one
abbrev pub AreWritten : {C R : Type 0} → Option (List ℕ) → Option (List ℕ) → List (Exchange C R) → Type 0
AreWritten {C} {R} old new exchanges = Appends old new (text_of_all exchanges)
    ⊎ ((before : List (Exchange C R)) × (last : Exchange C R) × (mid : Option (List ℕ)) × (exchanges ≡ before ++ last ∷ [])
    × Appends old mid (text_of_all before) × AppendsFront mid new (text_of last.answer last.item))

-- the bytes that were read begin with what was asked, and what was answered was written
pub record AreHeld {C R : Type 0} (before after : Ends) (exchanges : List (Exchange C R)) : Type 0 where
  pub bytes : List ℕ
  pub read : Grown before.left after.left [] bytes
  pub rest : List ℕ
  pub items_are : AreItems 0 bytes (IsAtEnd after.left) (items_of exchanges) rest
  pub written : AreWritten before.written after.written exchanges

-- the connection was taken back with these
abbrev pub IsHeld : {C R : Type 0} → Talk C R → Type 0
IsHeld talk = (after : Ends) × (talk.connection.after ≡ Some after) × AreHeld talk.connection.before after talk.exchanges

-- ---- the answers of one caller

abbrev pub with_told : {T : Type 0} → Option T → List T → List T
with_told None more = more
with_told (Some one) more = one ∷ more

-- what the machine answered it, in order
abbrev pub told_in : {C R : Type 0} → List (Exchange C R) → List (Told C R)
told_in [] = []
told_in (x ∷ xs) = with_told x.told (told_in xs)

abbrev pub told_to : {C R : Type 0} → List (Talk C R) → List (Told C R)
told_to [] = []
told_to (talk ∷ talks) = told_in talk.exchanges ++ told_to talks

-- places never fall, from this one on, and an accepted change is before all that is answered after it
abbrev pub AreInOrder : {C R : Type 0} → (R → ReplyKind) → ℕ → List (Told C R) → Type 0
AreInOrder kind place [] = Unit {0}
AreInOrder kind place (one ∷ more) = (place ≤ one.place) × AreInOrder kind (one.place + rise_of (kind one.reply)) more

abbrev pub with_change : {T : Type 0} → ReplyKind → T → List T → List T
with_change accepted entry more = entry ∷ more
with_change fault entry more = more
with_change memory entry more = more
with_change plain entry more = more

-- the accepted changes of the caller with this number, in order
abbrev pub changes_in : {C R : Type 0} → (R → ReplyKind) → ℕ → List (Told C R) → List (ℕ × C)
changes_in kind number [] = []
changes_in kind number (one ∷ more) = with_change (kind one.reply) (number, one.call) (changes_in kind number more)

-- what one caller was answered
pub record IsAnswered {S C A R W E : Type 0} (P : Protocol S C A R W E) (opening : S) (history : List (ℕ × C)) (caller : Caller C R) : Type 0 where
  -- its connections hold it
  pub held : All IsHeld caller.talks
  -- each answer is right at its place
  pub right : All (λ talk. All (λ x. IsRight P opening history caller.number x.item x.answer x.told) talk.exchanges) caller.talks
  -- a later answer is after no fewer changes, and after all of its own
  pub in_order : AreInOrder P.kind 0 (told_to caller.talks)
  -- the history has for its number exactly the changes that were answered as accepted, in order
  pub changes : own_entries caller.number history ≡ changes_in P.kind caller.number (told_to caller.talks)

-- ---- all callers

-- their numbers follow one another
abbrev pub AreNumbered : {C R : Type 0} → ℕ → List (Caller C R) → Type 0
AreNumbered n [] = Unit {0}
AreNumbered n (caller ∷ callers) = (caller.number ≡ n) × AreNumbered (n + 1) callers

-- these callers were answered out of this history, which has no other entries than theirs
pub record AreCallers {S C A R W E : Type 0} (P : Protocol S C A R W E) (opening : S) (history : List (ℕ × C)) (callers : List (Caller C R)) : Type 0 where
  pub answered : All (IsAnswered P opening history) callers
  pub numbered : (first : ℕ) × AreNumbered first callers
  pub nobody_else : All (λ entry. Contains (map (λ caller. caller.number) callers) entry.0) history

-- a lane that was given back has the connections of this caller, if any are known
abbrev pub IsLaneOf : {C R : Type 0} → Returned → Caller C R → Type 0
IsLaneOf returned caller = IfSome returned.told (λ all. all ≡ map (λ talk. talk.connection) caller.talks)

-- so do lanes and callers, one by one
abbrev pub AreLanesOf : {C R : Type 0} → List Returned → List (Caller C R) → Type 0
AreLanesOf [] [] = Unit {0}
AreLanesOf (lane ∷ lanes) (caller ∷ callers) = IsLaneOf lane caller × AreLanesOf lanes callers
AreLanesOf [] (caller ∷ callers) = ⊥
AreLanesOf (lane ∷ lanes) [] = ⊥

-- ---- the entries of the history

-- the entry at a place is a change that a request asked for, and that the plain machine accepts there
pub record IsChange {S C A R W E : Type 0} (P : Protocol S C A R W E) (opening : S) (before : List (ℕ × C)) (call : C) : Type 0 where
  pub request : Framed
  pub shown : W
  pub asked : P.asks request (Ok (call, shown))
  pub reply : R
  pub kind : P.kind reply ≡ accepted
  pub same : P.answer reply ≡ (P.step (replay P.step opening before) call).1
