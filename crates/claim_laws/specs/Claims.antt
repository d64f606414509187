-- What claims owe: an accepted claim returns the least that is free, and a claim is refused for space exactly if too little is free.
use Rattle.std.specs.Prelude.{◌≡◌, ◌↔◌, ℕ, ◌<◌, ◌≤◌, true, Contains, List, Option, Some, IsSome, map, length, take, slice_get}
use Rattle.std.specs.Str.{str_to_ascii_lowercase}
use Rattle.inet_num.specs.declared.Family.{Family}
use Rattle.inet_num.specs.declared.Family.TheVariants.{V6}
use Rattle.inet_num.specs.Net.{Address, Cidr, width_of}
use Rattle.ipam_data.specs.declared.calls.Answered.{Answered}
use Rattle.ipam_data.specs.declared.calls.AddrItem.{AddrItem}
use Rattle.ipam_data.specs.declared.calls.BlockItem.{BlockItem}
use Rattle.ipam_data.specs.declared.calls.Call.TheVariants.{ClaimBlocks, ClaimPrefixAddrs, ClaimRangeAddrs}
use Rattle.ipam_data.specs.declared.address.IpAddress.{IpAddress}
use Rattle.ipam_data.specs.declared.address.AddressStatus.TheVariants.{Slaac}
use Rattle.ipam_data.specs.declared.prefix.Prefix.{Prefix}
use Rattle.ipam_data.specs.declared.range.IpRange.{IpRange}
use Rattle.ipam_data.specs.declared.replies.Reply.{Reply}
use Rattle.ipam_data.specs.declared.replies.Reply.TheVariants.{Refused}
use Rattle.ipam_data.specs.declared.replies.Refusal.TheVariants.{NoSpace}
use Rattle.ipam_data.specs.declared.replies.View.TheVariants.{IpAddress as AddressView}
use Rattle.ipam_data.specs.HostNames.{is_dns_name}
use Rattle.ipam_data.specs.Rows.{role_id, prefix_id, range_id}
use Rattle.ipam_data.specs.RowList.{row_at}
use Rattle.ipam_data.specs.State.{State}
use Rattle.ipam_data.specs.Prefixes.{prefix_rules, view_of}
use Rattle.ipam_data.specs.Addresses.{address_rules}
use Rattle.ipam_data.specs.Steps.{plain_step}
use Rattle.ipam_data.specs.Replays.{is_accepted}
use Rattle.ipam_data.specs.Lawful.{IsLawful}
use Rattle.claim_laws.specs.Rows.{IsListed, Came}
use Rattle.claim_laws.specs.Free.{IsFreeIn, IsFreeInRange, IsFreeBlock}

-- ---- claims of addresses

-- the rows have the least free addresses, each once and in order: row k has the one below which k are free
pub record AreTheLeast (IsFree : Address → Type 0) (rows : List IpAddress) : Type 0 where
  pub free : (x : IpAddress) → Contains rows x → IsFree x.host.addr
  pub rise : (i j : ℕ) (x y : IpAddress) → slice_get rows i ≡ Some x → slice_get rows j ≡ Some y → i < j
      → x.host.addr.value < y.host.addr.value
  pub none_passed : (x : IpAddress) (a : Address) → Contains rows x → IsFree a → a.value < x.host.addr.value
      → (y : IpAddress) × Contains rows y × (y.host.addr ≡ a)

-- the row has what the item says, in this table, with a mask of this length
pub record IsAddressFor (vrf : Option ℕ) (len : ℕ) (item : AddrItem) (x : IpAddress) : Type 0 where
  pub table : x.vrf ≡ vrf
  pub mask : x.host.len ≡ len
  pub status : x.status ≡ item.status
  pub role : x.role ≡ item.role
  pub name : x.dns_name ≡ str_to_ascii_lowercase item.dns_name
  pub description : x.description ≡ item.description

-- row k is for item k
abbrev pub AreAddressesFor : Option ℕ → ℕ → List AddrItem → List IpAddress → Type 0
AreAddressesFor vrf len items rows = (k : ℕ) (item : AddrItem) (x : IpAddress) → slice_get items k ≡ Some item → slice_get rows k ≡ Some x
    → IsAddressFor vrf len item x

-- a claim of addresses was accepted, in a place with this table, mask and free addresses
pub record GotAddresses (IsFree : Address → Type 0) (vrf : Option ℕ) (len : ℕ) (s : State) (form : Answered) (items : List AddrItem)
    (done : State × Reply) : Type 0 where
  pub rows : List IpAddress
  pub came : Came address_rules s done form (length items) AddressView rows
  pub least : AreTheLeast IsFree rows
  pub each : AreAddressesFor vrf len items rows

-- ---- claims of blocks

-- the least free block of a length, given those of earlier items
pub record IsLeastBlock (s : State) (p : Prefix) (earlier : List Cidr) (len : ℕ) (b : Cidr) : Type 0 where
  pub free : IsFreeBlock s p earlier len b
  pub least : (c : Cidr) → IsFreeBlock s p earlier len c → b.first ≤ c.first

-- block k is the least free one for item k, given the blocks before it
abbrev pub AreLeastBlocks : State → Prefix → List BlockItem → List Cidr → Type 0
AreLeastBlocks s p items blocks = (k : ℕ) (item : BlockItem) (b : Cidr) → slice_get items k ≡ Some item → slice_get blocks k ≡ Some b
    → IsLeastBlock s p (take k blocks) item.len b

pub record IsBlockFor (vrf : Option ℕ) (item : BlockItem) (x : Prefix) : Type 0 where
  pub table : x.vrf ≡ vrf
  pub status : x.status ≡ item.status
  pub role : x.role ≡ item.role
  pub pool : x.is_pool ≡ item.is_pool
  pub utilized : x.mark_utilized ≡ item.mark_utilized
  pub description : x.description ≡ item.description

abbrev pub AreBlocksFor : Option ℕ → List BlockItem → List Prefix → Type 0
AreBlocksFor vrf items rows = (k : ℕ) (item : BlockItem) (x : Prefix) → slice_get items k ≡ Some item → slice_get rows k ≡ Some x
    → IsBlockFor vrf item x

pub record GotBlocks (s : State) (p : Prefix) (form : Answered) (items : List BlockItem) (done : State × Reply) : Type 0 where
  pub rows : List Prefix
  pub came : Came prefix_rules s done form (length items) (view_of done.0.prefixes.rows) rows
  pub least : AreLeastBlocks s p items (map (λ x. x.block) rows)
  pub each : AreBlocksFor p.vrf items rows

-- ---- an accepted claim returns the least that is free

pub record ClaimsAreNew : Type 0 where
  pub in_prefixes : (s : State) (n : ℕ) (form : Answered) (items : List AddrItem) → IsListed s
      → is_accepted (plain_step s (ClaimPrefixAddrs n form items)).1 ≡ true
      → (p : Prefix) × (row_at prefix_id s.prefixes.rows n ≡ Some p)
      × GotAddresses (IsFreeIn s p) p.vrf p.block.len s form items (plain_step s (ClaimPrefixAddrs n form items))
  pub in_ranges : (s : State) (n : ℕ) (form : Answered) (items : List AddrItem) → IsListed s
      → is_accepted (plain_step s (ClaimRangeAddrs n form items)).1 ≡ true
      → (r : IpRange) × (row_at range_id s.ranges.rows n ≡ Some r)
      × GotAddresses (IsFreeInRange s r) r.vrf r.ends.len s form items (plain_step s (ClaimRangeAddrs n form items))
  pub of_blocks : (s : State) (n : ℕ) (form : Answered) (items : List BlockItem) → IsLawful s
      → is_accepted (plain_step s (ClaimBlocks n form items)).1 ≡ true
      → (p : Prefix) × (row_at prefix_id s.prefixes.rows n ≡ Some p)
      × GotBlocks s p form items (plain_step s (ClaimBlocks n form items))

-- ---- a claim is refused for space exactly if too little is free

-- no other check refuses the items: there are not too many, SLAAC is for IPv6, and a name is the name of a host
pub record MayClaimAddresses (family : Family) (items : List AddrItem) : Type 0 where
  pub few : length items ≤ 1000
  pub slaac : (item : AddrItem) → Contains items item → item.status ≡ Slaac → family ≡ V6
  pub names : (item : AddrItem) → Contains items item → is_dns_name (str_to_ascii_lowercase item.dns_name) ≡ true

-- this many addresses are free: fewer than there are items
pub record AreTooFew (IsFree : Address → Type 0) (items count : ℕ) : Type 0 where
  pub free : List Address
  pub all : (a : Address) → Contains free a ↔ IsFree a
  pub rise : (i j : ℕ) (a b : Address) → slice_get free i ≡ Some a → slice_get free j ≡ Some b → i < j → a.value < b.value
  pub count_is : length free ≡ count
  pub fewer : count < items

-- no other check refuses the items: there are not too many, each length is longer than the prefix's and one of its family, and roles exist
pub record MayClaimBlocks (s : State) (p : Prefix) (items : List BlockItem) : Type 0 where
  pub few : length items ≤ 1000
  pub longer : (item : BlockItem) → Contains items item → p.block.len < item.len
  pub short : (item : BlockItem) → Contains items item → item.len ≤ width_of p.block.family
  pub roles : (item : BlockItem) (role : ℕ) → Contains items item → item.role ≡ Some role → IsSome (row_at role_id s.roles.rows role)

-- the items before this one get the least free blocks, and no block is free for it given those
pub record IsStuck (s : State) (p : Prefix) (items : List BlockItem) (k : ℕ) : Type 0 where
  pub got : List Cidr
  pub count_is : length got ≡ k
  pub least : AreLeastBlocks s p items got
  pub item : BlockItem
  pub there : slice_get items k ≡ Some item
  pub none : (b : Cidr) → ¬ IsFreeBlock s p got item.len b

pub record RefusedOnlyIfNoneFits : Type 0 where
  pub in_prefixes : (s : State) (n : ℕ) (form : Answered) (items : List AddrItem) (k : ℕ)
      → ((plain_step s (ClaimPrefixAddrs n form items)).1 ≡ Refused (NoSpace k))
      ↔ ((p : Prefix) × (row_at prefix_id s.prefixes.rows n ≡ Some p)
      × MayClaimAddresses p.block.family items × AreTooFew (IsFreeIn s p) (length items) k)
  pub in_ranges : (s : State) (n : ℕ) (form : Answered) (items : List AddrItem) (k : ℕ)
      → ((plain_step s (ClaimRangeAddrs n form items)).1 ≡ Refused (NoSpace k))
      ↔ ((r : IpRange) × (row_at range_id s.ranges.rows n ≡ Some r)
      × MayClaimAddresses r.ends.start.family items × AreTooFew (IsFreeInRange s r) (length items) k)
  pub of_blocks : (s : State) (n : ℕ) (form : Answered) (items : List BlockItem) (k : ℕ) → IsLawful s
      → ((plain_step s (ClaimBlocks n form items)).1 ≡ Refused (NoSpace k))
      ↔ ((p : Prefix) × (row_at prefix_id s.prefixes.rows n ≡ Some p)
      × MayClaimBlocks s p items × IsStuck s p items k)
