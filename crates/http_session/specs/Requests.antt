-- The items that are in the bytes of a connection, one after another: requests (RFC 9112, sections
-- 2.1 and 6), and refusals of bytes that are none.
use Rattle.std.specs.Prelude.{◌≡◌, ℕ, ◌+◌, ◌<◌, ◌≤◌, ◌⊎◌, ◌||◌, Bool, true, false, List, [], ◌∷◌, ◌++◌, length, take, Result, Ok, Err, nat_le}
use Rattle.httparse.specs.Grammar.{RequestHead, print_request, ReadsRequest, MayBecomeRequest}
use Rattle.http_session.specs.declared.request.Fault.{Fault}
use Rattle.http_session.specs.declared.request.Fault.TheVariants.{BadHead, LargeHead, LargeBody, Coding}
use Rattle.http_session.specs.Fields.{length_of, asks_close}

-- a request before its route
pub record Framed : Type 0 where
  pub method : List ℕ
  pub target : List ℕ
  pub body : List ℕ
  pub close : Bool

-- an inbox: the bytes that were taken and lie in no item given, and the number of items given
pub record InboxView : Type 0 where
  pub bytes : List ℕ
  pub number : ℕ

-- a request, or a refusal of the bytes that are in a request's place
pub data Item : Type 0 where
  Asks : (request : Framed) → Item
  Refuses : (fault : Fault) → Item

-- nothing is read after it
abbrev pub closes : Item → Bool
closes (Asks r) = r.close
closes (Refuses f) = true

-- ---- heads

-- the text begins with a head of at most 64 fields, and this follows it
pub record BeginsWithHead (text : List ℕ) (h : RequestHead) (rest : List ℕ) : Type 0 where
  pub reads : ReadsRequest text h rest
  pub few : length h.fields ≤ 64

-- no text that goes on from these bytes begins with a head
abbrev pub NeverHead : List ℕ → Type 0
NeverHead bytes = (more : List ℕ) (h : RequestHead) (rest : List ℕ) → ¬ (BeginsWithHead (bytes ++ more) h rest)

-- no head is whole in these bytes, and the parser says that one may follow
pub record MayBecomeHead (bytes : List ℕ) : Type 0 where
  pub none : (h : RequestHead) (rest : List ℕ) → ¬ (BeginsWithHead bytes h rest)
  pub may : MayBecomeRequest bytes

-- the bytes that are looked at for a head
abbrev pub front : List ℕ → List ℕ
front bytes = take 16384 bytes

-- a head ends within the front, and this follows it
pub record HasHead (bytes : List ℕ) (h : RequestHead) (rest : List ℕ) : Type 0 where
  pub begins : BeginsWithHead bytes h rest
  pub short : length (print_request h) ≤ 16384

-- ---- items

-- a head is there, whose fields say this of the body
abbrev pub HasLength : List ℕ → Result ℕ Fault → List ℕ → Type 0
HasLength bytes said rest = (h : RequestHead) × HasHead bytes h rest × (length_of h ≡ said)

-- no head is whole in the bytes, which are fewer than 16,384, and one may follow
abbrev pub StopsInHead : List ℕ → Type 0
StopsInHead bytes = (length bytes < 16384) × MayBecomeHead bytes

-- a head is whole, and the body after it is not
abbrev pub StopsInBody : List ℕ → Type 0
StopsInBody bytes = (n : ℕ) × (rest : List ℕ) × HasLength bytes (Ok n) rest × (length rest < n)

-- the bytes stop inside a head of which one was read, or inside a body
abbrev pub StopsShort : List ℕ → Type 0
StopsShort bytes = ((0 < length bytes) × StopsInHead bytes) ⊎ StopsInBody bytes

-- more bytes have to be read before the next item is known
abbrev pub IsUnfinished : List ℕ → Type 0
IsUnfinished bytes = StopsInHead bytes ⊎ StopsInBody bytes

-- why the bytes are refused, if they have ended or not
abbrev pub IsRefused : List ℕ → Type 0 → Fault → Type 0
-- they never become a head, or its fields say no length, or the input ends too early
IsRefused bytes ended BadHead = NeverHead (front bytes) ⊎ ((rest : List ℕ) × HasLength bytes (Err BadHead) rest) ⊎ (ended × StopsShort bytes)
-- the front is full, and may go on
IsRefused bytes ended LargeHead = (16384 ≤ length bytes) × MayBecomeHead (front bytes)
-- so the fields say
IsRefused bytes ended LargeBody = (rest : List ℕ) × HasLength bytes (Err LargeBody) rest
IsRefused bytes ended Coding = (rest : List ℕ) × HasLength bytes (Err Coding) rest

-- a head, and then a body as long as its fields say; the 1,000th closes too
pub record IsRequest (n : ℕ) (bytes : List ℕ) (r : Framed) (rest : List ℕ) : Type 0 where
  pub head : RequestHead
  pub has : HasHead bytes head (r.body ++ rest)
  pub said : length_of head ≡ Ok (length r.body)
  pub method : r.method ≡ head.method
  pub target : r.target ≡ head.target
  pub close : r.close ≡ (asks_close head || nat_le 999 n)

-- the item number n, counted from 0, at the start of the bytes, and what follows it; `ended` says that no byte follows these
abbrev pub IsItem : ℕ → List ℕ → Type 0 → Item → List ℕ → Type 0
IsItem n bytes ended (Asks r) rest = IsRequest n bytes r rest
IsItem n bytes ended (Refuses fault) rest = IsRefused bytes ended fault × (rest ≡ bytes)

-- these items, one after another, and what follows them; none is after one that closes
abbrev pub AreItems : ℕ → List ℕ → Type 0 → List Item → List ℕ → Type 0
AreItems n bytes ended [] rest = rest ≡ bytes
AreItems n bytes ended (item ∷ items) rest =
    (mid : List ℕ) × IsItem n bytes ended item mid × (closes item ≡ true → items ≡ []) × AreItems (n + 1) mid ended items rest

-- each of them leaves the connection open
abbrev pub AllOpen : List Item → Type 0
AllOpen [] = Unit {0}
AllOpen (item ∷ items) = (closes item ≡ false) × AllOpen items

-- the last of them closes
abbrev pub EndsClosed : List Item → Type 0
EndsClosed [] = ⊥
EndsClosed (item ∷ []) = closes item ≡ true
EndsClosed (item ∷ other ∷ items) = EndsClosed (other ∷ items)

-- all the items of a connection: up to one that closes, or to the end of the input between two requests
pub record AreAllItems (bytes : List ℕ) (ended : Type 0) (items : List Item) : Type 0 where
  pub rest : List ℕ
  pub items_are : AreItems 0 bytes ended items rest
  pub stop : EndsClosed items ⊎ (ended × (rest ≡ []))
