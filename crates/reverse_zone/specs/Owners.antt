-- The owner of an address's PTR record. Of an IPv4 address it is the four octets as labels in decimal, the last octet first, below
-- in-addr.arpa (RFC 1035 3.5); of an IPv6 address it is the 32 nibbles as labels of one hexadecimal digit, the low-order nibble
-- first, below ip6.arpa (RFC 3596 2.5). A period follows each label, the last one too (RFC 1035 5.1).
use Rattle.std.specs.Prelude.{ℕ, zero, suc, ◌%◌, ◌/◌, List, [], ◌∷◌, ◌++◌, codes, decimal}
use Rattle.std.specs.Char.{digit_char}
use Rattle.inet_num.specs.declared.Family.{Family}
use Rattle.inet_num.specs.declared.Family.TheVariants.{V4, V6}
use Rattle.inet_num.specs.Net.{Address}

-- how many values an octet or a nibble has
abbrev pub base_of : Family → ℕ
base_of V4 = 256
base_of V6 = 16

-- how many octets or nibbles an address has
abbrev pub label_count_of : Family → ℕ
label_count_of V4 = 4
label_count_of V6 = 32

-- the label of an octet or nibble: it has no leading zeros, and letters are in lower case
abbrev pub label_of : Family → ℕ → List ℕ
label_of V4 octet = decimal octet
label_of V6 nibble = digit_char nibble ∷ []

-- the zone that all owners of the family are below
abbrev pub zone_of : Family → List ℕ
zone_of V4 = codes "in-addr.arpa."
zone_of V6 = codes "ip6.arpa."

-- so many labels of a number, the low-order one first, and the zone after them
unfoldable pub labels_of : Family → ℕ → ℕ → List ℕ
labels_of family zero number = zone_of family
labels_of family (suc count) number = label_of family (number % base_of family) ++ 46 ∷ labels_of family count (number / base_of family)

-- the owner of an address's PTR record
abbrev pub owner_of : Address → List ℕ
owner_of host = labels_of host.family (label_count_of host.family) host.value
