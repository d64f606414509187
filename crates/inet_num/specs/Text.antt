-- Addresses and blocks as text (RFC 4291 2.2 for IPv6, RFC 4632 3.1 for `/L`, RFC 5952 4 for the canonical text).
-- The grammar of one address and its canonical text are std's.
use Rattle.std.specs.Prelude.{Bool, ◌≡◌, ◌≤◌, ◌⊎◌, ℕ, List, ◌∷◌, ◌++◌, ◌==◌, decimal}
use Rattle.std.specs.List.{before_first}
use Rattle.std.specs.Net.Grammar.{IsDotted, IsColonHex}
use Rattle.std.specs.Net.Text.{ipv4_text, hex_groups_text}
use Rattle.std.specs.Net.Addr.{segments_of}
use Rattle.std.specs.Int.{w32, w128, to_be_bytes}
use Rattle.std.specs.Int.Digits.{number_from_digits}
use Rattle.inet_num.specs.declared.Family.{Family}
use Rattle.inet_num.specs.declared.Family.TheVariants.{V4, V6}
use Rattle.inet_num.specs.Net.{Address, IsAddress, Cidr, IsBlock, width_of}

-- the text spells this number of the family: four octets joined by periods, or eight groups joined by colons with `::`
-- once in place of one or more groups of zero and maybe a dotted quad in place of the last two. The number is the sum of
-- the octets or groups by place.
abbrev pub Spells : List ℕ → Family → ℕ → Type 0
Spells text V4 n = (octets : List ℕ) × IsDotted text octets × (n ≡ number_from_digits 256 octets)
Spells text V6 n = (groups : List ℕ) × IsColonHex text groups × (n ≡ number_from_digits 65536 groups)

-- the text is one of this address
abbrev pub IsAddressText : List ℕ → Address → Type 0
IsAddressText text a = Spells text a.family a.value

-- the text is one of no address
abbrev pub IsNoAddressText : List ℕ → Type 0
IsNoAddressText text = (a : Address) → ¬ IsAddressText text a

abbrev pub is_slash : ℕ → Bool
is_slash b = b == 47

-- what is before the first slash
abbrev pub front_of : List ℕ → List ℕ
front_of text = before_first is_slash text

-- after the first slash is this length, and nothing else
abbrev pub EndsInLength : List ℕ → ℕ → Type 0
EndsInLength text len = text ≡ front_of text ++ 47 ∷ decimal len

-- no slash is in the text
abbrev pub HasNoSlash : List ℕ → Type 0
HasNoSlash text = front_of text ≡ text

-- an address text alone, whose length is then the family's width, or with a slash and a length after it
pub record IsHostText (text : List ℕ) (a : Address) (len : ℕ) : Type 0 where
  pub address : IsAddressText (front_of text) a
  pub length_is : (HasNoSlash text × (len ≡ width_of a.family)) ⊎ (EndsInLength text len × (len ≤ width_of a.family))

-- an address text, a slash and a length, with no bit set past the length
pub record IsBlockText (text : List ℕ) (b : Cidr) : Type 0 where
  pub address : Spells (front_of text) b.family b.first
  pub length_is : EndsInLength text b.len
  pub lawful : IsBlock b

-- the one text that is written of an address
abbrev pub canonical_text_of : Family → ℕ → List ℕ
canonical_text_of V4 n = ipv4_text (to_be_bytes w32 n)
canonical_text_of V6 n = hex_groups_text (segments_of (to_be_bytes w128 n))

-- the one text that is written of a block
abbrev pub block_text_of : Cidr → List ℕ
block_text_of b = canonical_text_of b.family b.first ++ 47 ∷ decimal b.len

-- the canonical text of an address is read as that address, and with no length after it as a host of the full length
pub record AddressIsRead (a : Address) : Type 0 where
  pub address : IsAddressText (canonical_text_of a.family a.value) a
  pub host : IsHostText (canonical_text_of a.family a.value) a (width_of a.family)

abbrev pub WrittenAddressIsRead : Type 0
WrittenAddressIsRead = (a : Address) → IsAddress a → AddressIsRead a

-- two addresses with one canonical text are one
abbrev pub CanonicalTextIsOne : Type 0
CanonicalTextIsOne = (a b : Address) → IsAddress a → IsAddress b
    → canonical_text_of a.family a.value ≡ canonical_text_of b.family b.value → a ≡ b

-- the canonical text of a block is read as that block
abbrev pub WritingIsRead : Type 0
WritingIsRead = (b : Cidr) → IsBlock b → IsBlockText (block_text_of b) b
