-- Why a text is no address, host or block text: the first fault that holds, in the order Shape, then Octet or Group from
-- the left, Length, HostBits. A fault of the address text is returned before one of the length after it (RFC 4291 2.2 and 2.3,
-- RFC 4632 3.1). An address text with a colon is one of IPv6, every other one of IPv4.
use Rattle.std.specs.Prelude.{ℕ, ◌≡◌, ◌+◌, ◌≤◌, Bool, true, false, not, ◌&&◌, ◌||◌, nat_lt, nat_le, nat_eq, List, [], ◌∷◌, length, if◌then◌else◌, ◌==◌, count_by, codes}
use Rattle.std.specs.List.{list_any, list_all, slice_split, starts_with, ends_with}
use Rattle.std.specs.Char.{is_ascii_hexdigit}
use Rattle.inet_num.specs.declared.text.TextFault.{TextFault}
use Rattle.inet_num.specs.declared.text.TextFault.TheVariants.{Octet, Group, Shape, Length, HostBits}
use Rattle.inet_num.specs.Net.{Address, Cidr, IsBlock, width_of, block_at, block_around}
use Rattle.inet_num.specs.Text.{IsAddressText, IsNoAddressText, IsHostText, IsBlockText, front_of, HasNoSlash, EndsInLength}

abbrev pub is_period : ℕ → Bool
is_period b = b == 46

abbrev pub is_colon : ℕ → Bool
is_colon b = b == 58

-- ---- a text without a colon

-- the wrong number of parts, or else one of the four is no octet
abbrev pub quad_fault_of : List ℕ → TextFault
quad_fault_of text = if count_by is_period text == 3 then Octet else Shape

-- ---- a text with a colon

-- what is between the colons, of which there is one fewer; `::` makes an empty piece
abbrev pub pieces_of : List ℕ → List (List ℕ)
pieces_of text = slice_split is_colon text

-- the piece with which the text ends
abbrev pub last_of : List (List ℕ) → List ℕ
last_of [] = []
last_of (p ∷ []) = p
last_of (p ∷ q ∷ rest) = last_of (q ∷ rest)

-- how often two colons are side by side: `:::` counts twice
abbrev pub colon_pairs_of : List ℕ → ℕ
colon_pairs_of [] = 0
colon_pairs_of (a ∷ []) = 0
colon_pairs_of (a ∷ b ∷ rest) = (if is_colon a && is_colon b then 1 else 0) + colon_pairs_of (b ∷ rest)

-- a single colon comes first
abbrev pub begins_single : List ℕ → Bool
begins_single text = starts_with nat_eq text (codes ":") && not (starts_with nat_eq text (codes "::"))

-- a single colon comes last
abbrev pub ends_single : List ℕ → Bool
ends_single text = ends_with nat_eq text (codes ":") && not (ends_with nat_eq text (codes "::"))

abbrev pub is_written : List ℕ → Bool
is_written [] = false
is_written (b ∷ bs) = true

abbrev pub is_dotted : List ℕ → Bool
is_dotted piece = list_any is_period piece

-- how many groups the pieces represent: one each, but a dotted last one two
abbrev pub group_count_of : List (List ℕ) → ℕ
group_count_of pieces = count_by is_written pieces + (if is_dotted (last_of pieces) then 1 else 0)

-- eight groups are wanted, or with `::` at most seven
abbrev pub is_count_wrong : List ℕ → Bool
is_count_wrong text =
    if colon_pairs_of text == 0 then not (group_count_of (pieces_of text) == 8) else nat_lt 7 (group_count_of (pieces_of text))

-- a dotted last piece has four parts
abbrev pub is_quad_misshapen : List ℕ → Bool
is_quad_misshapen piece = is_dotted piece && not (count_by is_period piece == 3)

-- the shape is wrong: `::` occurs twice, a single colon first or last, the number of groups, or that of a quad's parts
abbrev pub is_misshapen : List ℕ → Bool
is_misshapen text =
    nat_lt 1 (colon_pairs_of text) || begins_single text || ends_single text || is_count_wrong text
    || is_quad_misshapen (last_of (pieces_of text))

-- one to four hexadecimal digits
abbrev pub is_group : List ℕ → Bool
is_group piece = is_written piece && nat_le (length piece) 4 && list_all is_ascii_hexdigit piece

-- a piece that is neither empty nor a group
abbrev pub is_bad : List ℕ → Bool
is_bad piece = is_written piece && not (is_group piece)

-- of pieces that are not all good, the fault of the first bad one; the last may be a dotted quad
abbrev pub pieces_fault_of : List (List ℕ) → TextFault
pieces_fault_of [] = Group
pieces_fault_of (p ∷ []) = if is_dotted p then Octet else Group
pieces_fault_of (p ∷ q ∷ rest) = if is_bad p then Group else pieces_fault_of (q ∷ rest)

abbrev pub groups_fault_of : List ℕ → TextFault
groups_fault_of text = if is_misshapen text then Shape else pieces_fault_of (pieces_of text)

-- ---- addresses, hosts and blocks

-- the fault of a text that is one of no address
abbrev pub address_fault_of : List ℕ → TextFault
address_fault_of text = if list_any is_colon text then groups_fault_of text else quad_fault_of text

-- the text is one of no address, and this is its fault
pub record IsAddressFault (text : List ℕ) (fault : TextFault) : Type 0 where
  pub none : IsNoAddressText text
  pub is : fault ≡ address_fault_of text

-- an address is before the slash, but after it no length that the family has
pub record IsLengthFault (text : List ℕ) : Type 0 where
  pub addr : Address
  pub address : IsAddressText (front_of text) addr
  pub none : (len : ℕ) → len ≤ width_of addr.family → ¬ EndsInLength text len

-- an address and a length, and a bit past the length is set; the block has those bits cleared
pub record IsHostBitsFault (text : List ℕ) (block : Cidr) : Type 0 where
  pub addr : Address
  pub len : ℕ
  pub address : IsAddressText (front_of text) addr
  pub length_is : EndsInLength text len
  pub short : len ≤ width_of addr.family
  pub set : ¬ IsBlock (block_at addr len)
  pub cleared : block ≡ block_around addr len

-- why the text is no block text
abbrev pub IsBlockFault : List ℕ → TextFault → Type 0
IsBlockFault text Shape = IsAddressFault (front_of text) Shape
IsBlockFault text Octet = IsAddressFault (front_of text) Octet
IsBlockFault text Group = IsAddressFault (front_of text) Group
IsBlockFault text Length = IsLengthFault text
IsBlockFault text (HostBits block) = IsHostBitsFault text block

-- why the text is no host text: a length may be absent, and bits past it may be set
abbrev pub IsHostFault : List ℕ → TextFault → Type 0
IsHostFault text Shape = IsAddressFault (front_of text) Shape
IsHostFault text Octet = IsAddressFault (front_of text) Octet
IsHostFault text Group = IsAddressFault (front_of text) Group
IsHostFault text Length = (¬ HasNoSlash text) × IsLengthFault text
IsHostFault text (HostBits block) = ⊥

-- a text is one of at most one address, host or block, or has one fault as such, and not both
pub record ReadingIsOne : Type 0 where
  pub addresses : (text : List ℕ) (a b : Address) → IsAddressText text a → IsAddressText text b → a ≡ b
  pub address_faults : (text : List ℕ) (f g : TextFault) → IsAddressFault text f → IsAddressFault text g → f ≡ g
  pub address_apart : (text : List ℕ) (a : Address) (f : TextFault) → IsAddressText text a → ¬ IsAddressFault text f
  pub hosts : (text : List ℕ) (a b : Address) (k l : ℕ) → IsHostText text a k → IsHostText text b l → (a ≡ b) × (k ≡ l)
  pub host_faults : (text : List ℕ) (f g : TextFault) → IsHostFault text f → IsHostFault text g → f ≡ g
  pub host_apart : (text : List ℕ) (a : Address) (len : ℕ) (f : TextFault) → IsHostText text a len → ¬ IsHostFault text f
  pub blocks : (text : List ℕ) (b c : Cidr) → IsBlockText text b → IsBlockText text c → b ≡ c
  pub faults : (text : List ℕ) (f g : TextFault) → IsBlockFault text f → IsBlockFault text g → f ≡ g
  pub apart : (text : List ℕ) (b : Cidr) (f : TextFault) → IsBlockText text b → ¬ IsBlockFault text f
