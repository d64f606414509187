-- How a session ends, with what was answered and written by then.
use Rattle.std.specs.Prelude.{◌≡◌, ℕ, ◌≤◌, ◌⊎◌, List, [], ◌∷◌, ◌++◌, length, Option}
use Rattle.std.specs.Io.KnownBytes.{Appends, IsAtEnd}
use Rattle.ipam_edge.specs.Reading.{GrownByReads, Last, Open, Told, Failed, Step}
use Rattle.ipam_edge.specs.Writing.{AppendsLess}
use Rattle.http_session.specs.Requests.{AllOpen, AreItems, AreAllItems, Framed, IsUnfinished, Item}
use Rattle.http_session.specs.Steps.{Grown}
use Rattle.http_session.specs.Talk.{Answer, Answered, May, Run, texts, text_of}
use Rattle.http_session.specs.declared.session.SessionEnd.{SessionEnd}
use Rattle.http_session.specs.declared.session.SessionEnd.TheVariants as end

-- the items were answered, and the sink gained the texts of the answers
pub record IsTalk {S : Type 0} (may : May S) (s t : S) (old new : Option (List ℕ)) (items : List Item) : Type 0 where
  pub answers : List Answer
  pub run : Run may s items answers t
  pub told : Appends old new (texts items answers)

-- all items of the bytes were answered, and there were n
pub record IsClosed {S : Type 0} (may : May S) (s t : S) (old new : Option (List ℕ)) (bytes : List ℕ) (ended : Type 0) (n : ℕ) : Type 0 where
  pub items : List Item
  pub all : AreAllItems bytes ended items
  pub count : n ≡ length items
  pub talk : IsTalk may s t old new items

-- the items that lie whole in the bytes leave the connection open, and were answered
pub record IsCutShort {S : Type 0} (may : May S) (s t : S) (old new : Option (List ℕ)) (bytes : List ℕ) : Type 0 where
  pub items : List Item
  pub rest : List ℕ
  pub items_are : AreItems 0 bytes ⊥ items rest
  pub open_ : AllOpen items
  pub unfinished : IsUnfinished rest
  pub talk : IsTalk may s t old new items

-- the answers but the last were written, and then a prefix of the last one that is shorter
pub record IsUnsaid {S : Type 0} (may : May S) (s t : S) (old new : Option (List ℕ)) (bytes : List ℕ) (ended : Type 0) : Type 0 where
  pub items : List Item
  pub last : Item
  pub rest : List ℕ
  pub mid : Option (List ℕ)
  pub state : S
  pub answer : Answer
  pub items_are : AreItems 0 bytes ended (items ++ last ∷ []) rest
  pub talk : IsTalk may s state old mid items
  pub answered : Answered may state last answer t
  pub front : AppendsLess mid new (text_of answer last)

-- the answers but the last were written, and nothing of the last one, whose request was acted on
pub record IsLost {S : Type 0} (may : May S) (s t : S) (old new : Option (List ℕ)) (bytes : List ℕ) (ended : Type 0) : Type 0 where
  pub items : List Item
  pub last : Item
  pub rest : List ℕ
  pub state : S
  pub answer : Answer
  pub items_are : AreItems 0 bytes ended (items ++ last ∷ []) rest
  pub talk : IsTalk may s state old new items
  pub answered : Answered may state last answer t

-- some items were answered, all of which leave the connection open, and all their answers were written
pub record IsStarved {S : Type 0} (may : May S) (s t : S) (old new : Option (List ℕ)) (bytes : List ℕ) : Type 0 where
  pub items : List Item
  pub rest : List ℕ
  pub items_are : AreItems 0 bytes ⊥ items rest
  pub open_ : AllOpen items
  pub talk : IsTalk may s t old new items

-- before the last piece was read, of at most 4,096 bytes, the bytes held some items that leave the connection open, and then an unfinished one
pub record HadToRead (bytes : List ℕ) : Type 0 where
  pub items : List Item
  pub before : List ℕ
  pub last : List ℕ
  pub rest : List ℕ
  pub bytes_are : bytes ≡ before ++ last
  pub short : length last ≤ 4096
  pub items_are : AreItems 0 before ⊥ items rest
  pub open_ : AllOpen items
  pub unfinished : IsUnfinished rest

-- no more was read than was needed: nothing is read after an item that closes
abbrev pub IsReadAsNeeded : List ℕ → Type 0
IsReadAsNeeded bytes = (bytes ≡ []) ⊎ HadToRead bytes

-- how the session ended, from the view s of the seat to the view t
abbrev pub IsEnd : {S : Type 0} → May S → S → S → Option (List ℕ) → Option (List ℕ) → List ℕ → Option (List ℕ) → SessionEnd → Type 0
IsEnd may s t old new bytes left (end.Closed n) = IsClosed may s t old new bytes (IsAtEnd left) n
IsEnd may s t old new bytes left end.SourceFault = IsCutShort may s t old new bytes
IsEnd may s t old new bytes left end.SinkFault = IsUnsaid may s t old new bytes (IsAtEnd left)
IsEnd may s t old new bytes left end.Memory = IsStarved may s t old new bytes ⊎ IsLost may s t old new bytes (IsAtEnd left)

-- the bytes have no whole next item: they hold some that leave the connection open, and then an unfinished one
pub record HasNoNext (bytes : List ℕ) : Type 0 where
  pub items : List Item
  pub rest : List ℕ
  pub items_are : AreItems 0 bytes ⊥ items rest
  pub open_ : AllOpen items
  pub unfinished : IsUnfinished rest

-- what the last read of a session said: that it failed, exactly if the session ends with that
abbrev pub IsLastRead : SessionEnd → Last → Type 0
IsLastRead (end.Closed n) last = (last ≡ Open) ⊎ (last ≡ Told)
IsLastRead end.SourceFault last = last ≡ Failed
IsLastRead end.SinkFault last = (last ≡ Open) ⊎ (last ≡ Told)
IsLastRead end.Memory last = last ≡ Open

-- a session: the bytes that it read, its end, and its reads, each made while the bytes so far had no whole next item, and none after
-- one that said that the input has ended, or that failed
pub record IsSession {S R : Type 0} (may : May S) (step : Step R) (s t : S) (from to : R) (left_old left_new old new : Option (List ℕ)) (end_ : SessionEnd) : Type 0 where
  pub bytes : List ℕ
  pub grown : Grown left_old left_new [] bytes
  pub ends : IsEnd may s t old new bytes left_new end_
  pub needed : IsReadAsNeeded bytes
  pub last : Last
  pub last_is : IsLastRead end_ last
  pub reads : GrownByReads step HasNoNext from to [] bytes last

-- if memory runs out, a request was not acted on, or it was and its answer is lost
abbrev pub IsLeft : {S : Type 0} → May S → S → Framed → S → Type 0
IsLeft may s r t = (t ≡ s) ⊎ ((a : Answer) × may.answers s r a t)

-- what holds between two items
pub record IsBetween {S : Type 0} (may : May S) (s t : S) (old new : Option (List ℕ)) (bytes rest : List ℕ) (number : ℕ) : Type 0 where
  pub items : List Item
  pub items_are : AreItems 0 bytes ⊥ items rest
  pub open_ : AllOpen items
  pub count : number ≡ length items
  pub few : number ≤ 999
  pub talk : IsTalk may s t old new items
