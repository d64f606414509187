-- Laws of the items of a connection: more bytes change none, the cuts do not matter, and there is
-- one list.
use Rattle.std.specs.Prelude.{◌≡◌, ◌≤◌, ◌⊎◌, List, ◌∷◌, ◌++◌, ℕ, [], length}
use Rattle.http_session.specs.declared.request.Fault.TheVariants.{BadHead, LargeHead}
use Rattle.http_session.specs.Requests.{AreAllItems, AreItems, IsItem, Item, Refuses, MayBecomeHead, NeverHead, front}

-- an item that was given stays as more bytes are read, and what follows it grows
abbrev pub MoreBytes : Type 0
MoreBytes = (n : ℕ) (bytes more : List ℕ) (items : List Item) (rest : List ℕ) → AreItems n bytes ⊥ items rest → AreItems n (bytes ++ more) ⊥ items (rest ++ more)

-- what was found in the bytes that were taken are all the items of the whole input, if the end was reported only when nothing was left
abbrev pub CutAnywhere : Type 0
CutAnywhere = (taken left : List ℕ) (items : List Item) → AreAllItems taken (left ≡ []) items → AreAllItems (taken ++ left) (Unit {0}) items

-- the front is full, never becomes a head of at most 64 fields, and the parser still waits: it ends in a target, or the head that follows has more fields
abbrev pub IsCorner : List ℕ → Type 0
IsCorner bytes = (16384 ≤ length bytes) × NeverHead (front bytes) × MayBecomeHead (front bytes)

-- the two refusals of a head that both are right in the corner: it never becomes one, or it is too large
abbrev pub AreTwoRefusals : Item → Item → Type 0
AreTwoRefusals item other = ((item ≡ Refuses BadHead) × (other ≡ Refuses LargeHead)) ⊎ ((item ≡ Refuses LargeHead) × (other ≡ Refuses BadHead))

-- the bytes have one next item, and one rest, but for the corner, where they may be refused in two ways
abbrev pub OneReading : Type 0 → Type 0
OneReading ended = (n : ℕ) (bytes : List ℕ) (item other : Item) (rest rest_too : List ℕ) → IsItem n bytes ended item rest → IsItem n bytes ended other rest_too
    → ((item ≡ other) × (rest ≡ rest_too)) ⊎ (IsCorner bytes × AreTwoRefusals item other)

-- the lists are one up to the corner, and end there, in each of the two refusals
pub record DifferInCorner (n : ℕ) (bytes : List ℕ) (ended : Type 0) (items others : List Item) : Type 0 where
  pub same : List Item
  pub rest : List ℕ
  pub item : Item
  pub other : Item
  pub same_are : AreItems n bytes ended same rest
  pub corner : IsCorner rest
  pub refusals : AreTwoRefusals item other
  pub first : items ≡ same ++ item ∷ []
  pub second : others ≡ same ++ other ∷ []

-- the bytes have one list of all their items, unless they reach the corner, where two lists differ in their last refusal alone
abbrev pub OneList : Type 0 → Type 0
OneList ended = (bytes : List ℕ) (items others : List Item) → AreAllItems bytes ended items → AreAllItems bytes ended others → (items ≡ others) ⊎ DifferInCorner 0 bytes ended items others
