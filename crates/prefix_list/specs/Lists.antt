-- A list of blocks as a set of addresses (RFC 4632 3.1 for IPv4, RFC 4291 2.3 for IPv6), and the fewest blocks that have just the
-- addresses of a set.
use Rattle.std.specs.Prelude.{◌≡◌, ℕ, ◌≤◌, ◌&&◌, Bool, not, List, length}
use Rattle.std.specs.List.{list_any, AllByRecursion}
use Rattle.inet_num.specs.declared.Family.{Family}
use Rattle.inet_num.specs.Net.{Address, Cidr, IsBlock}
use Rattle.inet_num.specs.Blocks.{block_holds}

-- a list has the addresses of its blocks; as a test
abbrev pub addresses_of_list : List Cidr → Address → Bool
addresses_of_list blocks a = list_any (λ b. block_holds b a) blocks

-- the addresses of the one list that are not in the other
abbrev pub addresses_beyond : List Cidr → List Cidr → Address → Bool
addresses_beyond have by a = addresses_of_list have a && not (addresses_of_list by a)

-- the list has just the addresses that meet a test
abbrev pub HasJust : (Address → Bool) → List Cidr → Type 0
HasJust set blocks = (a : Address) → addresses_of_list blocks a ≡ set a

-- no list of blocks that has just these addresses is shorter
abbrev pub NoneIsShorter : (Address → Bool) → List Cidr → Type 0
NoneIsShorter set blocks = (others : List Cidr) → AllByRecursion IsBlock others → HasJust set others → length blocks ≤ length others

-- each block is one of the family
abbrev pub AreOf : Family → List Cidr → Type 0
AreOf family blocks = AllByRecursion (λ b. b.family ≡ family) blocks

-- the blocks have one family
abbrev pub HaveOneFamily : List Cidr → Type 0
HaveOneFamily blocks = (family : Family) × AreOf family blocks

-- the blocks of both lists have one family
abbrev pub ShareFamily : List Cidr → List Cidr → Type 0
ShareFamily have by = (family : Family) × AreOf family have × AreOf family by
