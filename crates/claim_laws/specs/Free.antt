-- What a claim can get, in words of records and addresses alone. None of it uses the definitions by which the register searches.
use Rattle.std.specs.Prelude.{◌≡◌, ◌≢◌, ℕ, ◌<◌, ◌≤◌, ◌⊎◌, true, false, Contains, List, Option, None}
use Rattle.inet_num.specs.declared.Family.TheVariants.{V4}
use Rattle.inet_num.specs.Net.{Address, Cidr, IsBlock, HasAddress, IsStrictlyInside, size_of, first_of, last_of}
use Rattle.ipam_data.specs.declared.prefix.Prefix.{Prefix}
use Rattle.ipam_data.specs.declared.prefix.PrefixStatus.TheVariants.{Container}
use Rattle.ipam_data.specs.declared.range.IpRange.{IpRange}
use Rattle.ipam_data.specs.declared.address.IpAddress.{IpAddress}
use Rattle.ipam_data.specs.State.{State}

-- ---- which records count

-- a container of the global table
abbrev pub IsGlobalContainer : Prefix → Type 0
IsGlobalContainer p = (p.status ≡ Container) × (p.vrf ≡ None)

-- a record of this table counts for a claim in the prefix: it is of the prefix's table, or the prefix is a container of the global table
abbrev pub Counts : Prefix → Option ℕ → Type 0
Counts p vrf = (vrf ≡ p.vrf) ⊎ IsGlobalContainer p

-- ---- addresses

-- the block has the address
abbrev pub IsIn : Cidr → Address → Type 0
IsIn b a = (a.family ≡ b.family) × HasAddress b a.value

-- the range has the address
abbrev pub IsInRange : IpRange → Address → Type 0
IsInRange r a = (a.family ≡ r.ends.start.family) × (r.ends.start.value ≤ a.value) × (a.value ≤ r.ends.end.value)

-- a prefix that is no pool and has more than two addresses keeps its first one back, and a prefix of IPv4 its last one too
pub record IsKeptBack (p : Prefix) (a : Address) : Type 0 where
  pub no_pool : p.is_pool ≡ false
  pub large : 2 < size_of p.block
  pub which : (a ≡ first_of p.block) ⊎ ((p.block.family ≡ V4) × (a ≡ last_of p.block))

-- a claim in the prefix can get the address: the prefix has it, no address record that counts has it as its host, no populated range of
-- the table has it, and it is not kept back
pub record IsFreeIn (s : State) (p : Prefix) (a : Address) : Type 0 where
  pub inside : IsIn p.block a
  pub unused : (y : IpAddress) → Contains s.addresses.rows y → Counts p y.vrf → y.host.addr ≢ a
  pub unpopulated : (r : IpRange) → Contains s.ranges.rows r → r.vrf ≡ p.vrf → r.mark_populated ≡ true → ¬ IsInRange r a
  pub not_kept : ¬ IsKeptBack p a

-- a claim in the range can get the address: the range has it and is not populated, and no address record of its table has it as its host
pub record IsFreeInRange (s : State) (r : IpRange) (a : Address) : Type 0 where
  pub inside : IsInRange r a
  pub unused : (y : IpAddress) → Contains s.addresses.rows y → y.vrf ≡ r.vrf → y.host.addr ≢ a
  pub unpopulated : r.mark_populated ≡ false

-- ---- blocks

-- the blocks have no address in common
abbrev pub ShareNone : Cidr → Cidr → Type 0
ShareNone b c = (a : Address) → IsIn b a → ¬ IsIn c a

-- a claim in the prefix can get the block for an item of this length, given blocks that earlier items of the claim got: it lies strictly
-- inside, and shares no address with a prefix that counts and lies strictly inside, nor with those blocks
pub record IsFreeBlock (s : State) (p : Prefix) (earlier : List Cidr) (len : ℕ) (b : Cidr) : Type 0 where
  pub block : IsBlock b
  pub length : b.len ≡ len
  pub inside : IsStrictlyInside b p.block
  pub unused : (q : Prefix) → Contains s.prefixes.rows q → Counts p q.vrf → IsStrictlyInside q.block p.block → ShareNone b q.block
  pub apart : (c : Cidr) → Contains earlier c → ShareNone b c
