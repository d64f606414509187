-- What the steps of reading leave.
use Rattle.std.specs.Prelude.{◌⊎◌, ◌≡◌, ℕ, ◌+◌, ◌<◌, ◌≤◌, List, [], ◌++◌, length, min, ◌-◌, ◌^◌, drop, Result, Ok, Err, Option, Some, None}
use Rattle.std.specs.Io.KnownBytes.{Consumes, IsAtEnd}
use Rattle.ipam_edge.specs.Faults.{Rose}
use Rattle.ipam_edge.specs.Reading.{GrownByReads, Last, Open, Told, Failed, Step}
use Rattle.httparse.specs.Grammar.{RequestHead}
use Rattle.http_session.specs.declared.head.Head.{Head}
use Rattle.http_session.specs.declared.head.HeadAnswer.{HeadAnswer}
use Rattle.http_session.specs.declared.head.HeadAnswer.TheVariants.{Whole, More, Bad, NoMemory}
use Rattle.http_session.specs.declared.request.HttpRequest.{HttpRequest}
use Rattle.http_session.specs.declared.request.Stop.{Stop}
use Rattle.http_session.specs.declared.request.Stop.TheVariants as stop
use Rattle.http_session.specs.declared.wait.Short.{Short}
use Rattle.http_session.specs.declared.wait.Short.TheVariants as short
use Rattle.http_session.specs.declared.request.Asked.{Asked}
use Rattle.http_session.specs.declared.request.Asked.TheVariants as asked
use Rattle.http_session.specs.Fields.{length_of, asks_close}
use Rattle.http_session.specs.Requests.{Framed, InboxView, Asks, Refuses, HasHead, MayBecomeHead, NeverHead, front, IsItem, IsUnfinished, StopsInHead}

-- the bytes grew by what the source lost
pub record Grown (left_old left_new : Option (List ℕ)) (old new : List ℕ) : Type 0 where
  pub got : List ℕ
  pub consumes : Consumes left_old left_new got
  pub grown : new ≡ old ++ got

-- the last piece that was read, of at most 4,096 bytes, and what held of the bytes before it
pub record HasLastPiece (P : List ℕ → Type 0) (old new : List ℕ) : Type 0 where
  pub more : List ℕ
  pub last : List ℕ
  pub grown : new ≡ (old ++ more) ++ last
  pub short : length last ≤ 4096
  pub before : P (old ++ more)

-- the bytes are fewer than so many
abbrev pub IsShort : ℕ → List ℕ → Type 0
IsShort needed bytes = length bytes < needed

-- nothing was read, or P held of the bytes when the last piece was read
abbrev pub IsReadWhile : (List ℕ → Type 0) → List ℕ → List ℕ → Type 0
IsReadWhile P old new = (new ≡ old) ⊎ HasLastPiece P old new

-- this error is returned only if the count rose, which it does for no other answer, and the count never falls
pub record HasCauseOf {T E : Type 0} (fault : E) (old new : ℕ) (result : Result T E) : Type 0 where
  pub later : old ≤ new
  pub fault_rose : result ≡ Err fault → Rose old new
  pub kept : (result ≡ Err fault) ⊎ (new ≡ old)

-- something was read, or the end, or nothing
abbrev pub IsPiece : List ℕ → List ℕ → Option (List ℕ) → Result (Unit {0}) Short → Type 0
IsPiece old new left (Ok x) = length old < length new
IsPiece old new left (Err short.End) = (new ≡ old) × IsAtEnd left
IsPiece old new left (Err short.SourceFault) = new ≡ old
IsPiece old new left (Err short.Memory) = new ≡ old

-- a read that added a piece, or said the end, or failed; or none was made
abbrev pub IsPieceRead : {S : Type 0} → Step S → S → S → List ℕ → List ℕ → Result (Unit {0}) Short → Type 0
IsPieceRead step s t old new (Ok x) = (piece : List ℕ) × (0 < length piece) × step s (Some piece) t × (new ≡ old ++ piece)
IsPieceRead step s t old new (Err short.End) = step s (Some []) t × (new ≡ old)
IsPieceRead step s t old new (Err short.SourceFault) = step s None t × (new ≡ old)
IsPieceRead step s t old new (Err short.Memory) = (t ≡ s) × (new ≡ old)

-- what the last read said, by how the wait for bytes ended
abbrev pub IsShortLast : Result (Unit {0}) Short → Last → Type 0
IsShortLast (Ok x) last = last ≡ Open
IsShortLast (Err short.End) last = last ≡ Told
IsShortLast (Err short.SourceFault) last = last ≡ Failed
IsShortLast (Err short.Memory) last = last ≡ Open

-- what the last read said, by how the wait for a request ended
abbrev pub IsStopLast : {T : Type 0} → Result T Stop → Last → Type 0
IsStopLast (Ok x) last = last ≡ Open
IsStopLast (Err (stop.Bad fault)) last = (last ≡ Open) ⊎ (last ≡ Told)
IsStopLast (Err stop.End) last = last ≡ Told
IsStopLast (Err stop.SourceFault) last = last ≡ Failed
IsStopLast (Err stop.Memory) last = last ≡ Open

-- what the last read said, by what comes next
abbrev pub IsAskedLast : Asked → Last → Type 0
IsAskedLast (asked.Request r) last = last ≡ Open
IsAskedLast (asked.Bad fault) last = (last ≡ Open) ⊎ (last ≡ Told)
IsAskedLast asked.End last = last ≡ Told
IsAskedLast asked.SourceFault last = last ≡ Failed
IsAskedLast asked.Memory last = last ≡ Open

-- the bytes grew by reads, each made while P held of those so far, and the last of them said what it had to
abbrev pub IsReadUntil : {S : Type 0} → Step S → (List ℕ → Type 0) → S → S → List ℕ → List ℕ → (Last → Type 0) → Type 0
IsReadUntil step P s t old new Said = (last : Last) × Said last × GrownByReads step P s t old new last

-- what is kept of a head
pub record IsHead (bytes : List ℕ) (kept : Head) : Type 0 where
  pub head : RequestHead
  pub has : HasHead bytes head (drop kept.len bytes)
  pub fits : kept.len ≤ length bytes
  pub short : kept.len ≤ 16384
  pub length : kept.length ≡ length_of head
  pub close : kept.close ≡ asks_close head
  pub method : kept.method.items ≡ head.method
  pub target : kept.target.items ≡ head.target

-- what the bytes are, as to their head
abbrev pub IsHeadAnswer : List ℕ → HeadAnswer → Type 0
IsHeadAnswer bytes (Whole kept) = IsHead bytes kept
IsHeadAnswer bytes More = MayBecomeHead (front bytes)
IsHeadAnswer bytes Bad = NeverHead (front bytes)
IsHeadAnswer bytes NoMemory = Unit {0}

-- how the wait for a head ended
abbrev pub IsHeadWait : List ℕ → Option (List ℕ) → Result Head Stop → Type 0
IsHeadWait bytes left (Ok kept) = IsHead bytes kept
IsHeadWait bytes left (Err (stop.Bad fault)) = IsItem 0 bytes (IsAtEnd left) (Refuses fault) bytes
IsHeadWait bytes left (Err stop.End) = IsAtEnd left × (bytes ≡ [])
IsHeadWait bytes left (Err stop.SourceFault) = StopsInHead bytes
IsHeadWait bytes left (Err stop.Memory) = Unit {0}

-- how the wait for so many bytes ended
abbrev pub IsBodyWait : ℕ → List ℕ → Option (List ℕ) → Result (Unit {0}) Short → Type 0
IsBodyWait needed bytes left (Ok x) = needed ≤ length bytes
IsBodyWait needed bytes left (Err short.End) = IsAtEnd left × (length bytes < needed)
IsBodyWait needed bytes left (Err short.SourceFault) = length bytes < needed
IsBodyWait needed bytes left (Err short.Memory) = Unit {0}

-- the request as its lists of bytes
abbrev pub framed : HttpRequest → Framed
framed r = record { method = r.method.items; target = r.target.items; body = r.body.items; close = r.close }

-- the next item of bytes of which `number` were given before, and what is then kept
abbrev pub IsAsk : ℕ → List ℕ → Option (List ℕ) → Result HttpRequest Stop → List ℕ → Type 0
IsAsk n bytes left (Ok r) kept = IsItem n bytes (IsAtEnd left) (Asks (framed r)) kept
IsAsk n bytes left (Err (stop.Bad fault)) kept = IsItem n bytes (IsAtEnd left) (Refuses fault) kept
IsAsk n bytes left (Err stop.End) kept = IsAtEnd left × (bytes ≡ []) × (kept ≡ [])
IsAsk n bytes left (Err stop.SourceFault) kept = IsUnfinished bytes × (kept ≡ bytes)
IsAsk n bytes left (Err stop.Memory) kept = kept ≡ bytes

-- the number of the item after number n; the count stays at the last u32
abbrev pub next_number : ℕ → ℕ
next_number n = min (n + 1) (2 ^ 32 - 1)

-- what comes next in the bytes, of which `number` items were given before, and the inbox after it
abbrev pub IsAsked : ℕ → List ℕ → Option (List ℕ) → Asked → InboxView → Type 0
IsAsked n bytes left (asked.Request r) inbox = IsItem n bytes (IsAtEnd left) (Asks (framed r)) inbox.bytes × (inbox.number ≡ next_number n)
IsAsked n bytes left (asked.Bad fault) inbox = IsItem n bytes (IsAtEnd left) (Refuses fault) inbox.bytes × (inbox.number ≡ next_number n)
IsAsked n bytes left asked.End inbox = IsAtEnd left × (bytes ≡ []) × (inbox.bytes ≡ []) × (inbox.number ≡ n)
IsAsked n bytes left asked.SourceFault inbox = IsUnfinished bytes × (inbox.bytes ≡ bytes) × (inbox.number ≡ n)
IsAsked n bytes left asked.Memory inbox = (inbox.bytes ≡ bytes) × (inbox.number ≡ n)
