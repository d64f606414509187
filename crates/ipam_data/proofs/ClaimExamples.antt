-- Small examples of what can be given out, of claims and of figures, worked out by evaluation.
use Rattle.std.proofs.Common.{◌≡◌, ℕ, ◌+◌, [], ◌∷◌, Some, None, true, false, refl}
use Rattle.inet_num.specs.declared.Family.TheVariants.{V4}
use Rattle.inet_num.specs.Count.{numbers_from, addresses_of}
use Rattle.inet_num.specs.Free.{blocks_at, picked_at, available_blocks_of}
use Rattle.block_space.specs.Fit.{first_fit_of, fits_of}
use Rattle.block_space.specs.Usable.{usable_of}
use Rattle.ipam_data.specs.declared.kinds.Kind.TheVariants.{Vrfs, Prefixes}
use Rattle.ipam_data.specs.declared.prefix.PrefixStatus.TheVariants.{Container, Active}
use Rattle.ipam_data.specs.declared.address.AddressStatus.TheVariants.{Active as ActiveAddress, Slaac}
use Rattle.ipam_data.specs.declared.calls.BlockItem.{BlockItem}
use Rattle.ipam_data.specs.declared.calls.AddrItem.{AddrItem}
use Rattle.ipam_data.specs.declared.calls.Answered.TheVariants.{AsOne, AsList}
use Rattle.ipam_data.specs.declared.calls.Call.TheVariants.{Create, Change, Blocks as BlocksOf, PrefixAddrs, RangeAddrs, ClaimBlocks, ClaimPrefixAddrs, ClaimRangeAddrs, Utilization}
use Rattle.ipam_data.specs.declared.calls.Draft.TheVariants.{Prefix as PrefixDraft}
use Rattle.ipam_data.specs.declared.replies.Reply.TheVariants.{Made, MadeMany, Changed, Blocks, Addrs, Percent, Refused}
use Rattle.ipam_data.specs.declared.replies.Refusal.TheVariants.{Rule as Breaks, NotFound, NoSpace}
use Rattle.ipam_data.specs.declared.replies.Rule.TheVariants.{WantedLength, SlaacFamily, Duplicate, Populated}
use Rattle.ipam_data.specs.HostNames.{is_dns_name}
use Rattle.ipam_data.specs.Fields.{range_marked, address_to}
use Rattle.ipam_data.specs.State.{State, empty_state}
use Rattle.ipam_data.specs.Steps.{plain_step}
use Rattle.ipam_data.specs.Vrfs.{vrf_fault}
use Rattle.ipam_data.specs.Prefixes.{prefix_fault, depth_of, children_of}
use Rattle.ipam_data.specs.Ranges.{range_fault, populated_at}
use Rattle.ipam_data.specs.Addresses.{address_fault, address_barred}
use Rattle.ipam_data.proofs.Samples.{after, vrf, prefix, range, address, ten, v4, host, seen, seen_address}

abbrev empty : State
empty = empty_state true

abbrev item : ℕ → BlockItem
item len = record { len = len; status = Active; role = None; is_pool = false; mark_utilized = false; description = [] }

abbrev addr : AddrItem
addr = record { status = ActiveAddress; role = None; dns_name = []; description = [] }

-- ---- blocks

-- 10.0.0.0/16 with 10.0.0.0/24 and 10.0.4.0/22
abbrev some : State
some = after empty (prefix ten 16 None None ∷ prefix ten 24 None None ∷ prefix (ten + 1024) 22 None None ∷ [])

-- the first free /23 is 10.0.2.0/23, since half of 10.0.0.0/23 is held
claimed : (plain_step some (ClaimBlocks 1 AsOne (item 23 ∷ []))).1 ≡ Made (seen 4 (ten + 512) 23 None None 1 0)
unfolding prefix_fault depth_of children_of fits_of first_fit_of addresses_of numbers_from
claimed = refl

-- 0.0.0.16/28 with 0.0.0.20/30
abbrev small : State
small = after empty (prefix 16 28 None None ∷ prefix 20 30 None None ∷ [])

-- what is left of it
left : (plain_step small (BlocksOf 1 9)).1 ≡ Blocks None (v4 16 30 ∷ v4 24 29 ∷ [])
unfolding prefix_fault available_blocks_of picked_at blocks_at addresses_of numbers_from
left = refl

-- a list gets one block after another, and each spends a log item and an id
claimed_two : (plain_step small (ClaimBlocks 1 AsList (item 29 ∷ item 31 ∷ []))).1 ≡ MadeMany (seen 3 24 29 None None 1 0 ∷ seen 4 16 31 None None 1 0 ∷ [])
unfolding prefix_fault depth_of children_of fits_of first_fit_of addresses_of numbers_from
claimed_two = refl

two_spent : (plain_step small (ClaimBlocks 1 AsList (item 29 ∷ item 31 ∷ []))).0.spent ≡ 4
unfolding prefix_fault fits_of first_fit_of addresses_of numbers_from
two_spent = refl

two_ids : (plain_step small (ClaimBlocks 1 AsList (item 29 ∷ item 31 ∷ []))).0.prefixes.next ≡ 5
unfolding prefix_fault fits_of first_fit_of addresses_of numbers_from
two_ids = refl

-- the second /29 has no space; that an item's length is none is told before, of whichever item
no_second : (plain_step small (ClaimBlocks 1 AsList (item 29 ∷ item 29 ∷ []))).1 ≡ Refused (NoSpace 1)
unfolding prefix_fault fits_of first_fit_of addresses_of numbers_from
no_second = refl

length_first : (plain_step small (ClaimBlocks 1 AsList (item 29 ∷ item 29 ∷ item 28 ∷ []))).1 ≡ Refused (Breaks WantedLength)
unfolding prefix_fault fits_of first_fit_of addresses_of numbers_from
length_first = refl

nowhere : (plain_step small (ClaimBlocks 9 AsOne (item 29 ∷ []))).1 ≡ Refused (NotFound Prefixes 9)
unfolding prefix_fault
nowhere = refl

-- a container of the global table sees the prefixes of every table, so the lower half is held
abbrev over_all : State
over_all = after empty (vrf true ∷ Create (PrefixDraft (v4 16 28) None Container None false false []) ∷ prefix 16 29 (Some 1) None ∷ [])

upper_half : (plain_step over_all (ClaimBlocks 1 AsOne (item 29 ∷ []))).1 ≡ Made (seen 3 24 29 None None 1 0)
unfolding vrf_fault prefix_fault depth_of children_of fits_of first_fit_of addresses_of numbers_from
upper_half = refl

-- ---- addresses

-- 192.0.2.0/30
abbrev test_net : ℕ
test_net = 3221225984

abbrev hosts : State
hosts = after empty (prefix test_net 30 None None ∷ [])

-- its first and its last address are kept back
usable : (plain_step hosts (PrefixAddrs 1 9)).1 ≡ Addrs None 30 (record { family = V4; value = test_net + 1 } ∷ record { family = V4; value = test_net + 2 } ∷ [])
unfolding prefix_fault usable_of addresses_of numbers_from
usable = refl

two_addresses : (plain_step hosts (ClaimPrefixAddrs 1 AsList (addr ∷ addr ∷ []))).1 ≡ MadeMany (seen_address 1 (host (test_net + 1) 30) None ∷ seen_address 2 (host (test_net + 2) 30) None ∷ [])
unfolding prefix_fault usable_of addresses_of numbers_from is_dns_name
two_addresses = refl

-- of three items the third gets nothing, so nothing is done; SLAAC for IPv4 is told before, of whichever item
not_three : (plain_step hosts (ClaimPrefixAddrs 1 AsList (addr ∷ addr ∷ addr ∷ []))).1 ≡ Refused (NoSpace 2)
unfolding prefix_fault usable_of addresses_of numbers_from is_dns_name
not_three = refl

slaac_first : (plain_step hosts (ClaimPrefixAddrs 1 AsList (addr ∷ addr ∷ addr ∷ record addr { status = Slaac } ∷ []))).1 ≡ Refused (Breaks SlaacFamily)
unfolding prefix_fault usable_of addresses_of numbers_from is_dns_name
slaac_first = refl

-- a range gives out those of its addresses that none has, and withholds none of them from the prefix
abbrev pooled : State
pooled = after empty (prefix 16 28 None None ∷ range (host 18 28) (host 29 28) None ∷ address (host 19 28) None None ∷ [])

within_range : (plain_step pooled (PrefixAddrs 1 3)).1 ≡ Addrs None 28 (record { family = V4; value = 17 } ∷ record { family = V4; value = 18 } ∷ record { family = V4; value = 20 } ∷ [])
unfolding prefix_fault range_fault address_fault address_barred populated_at usable_of addresses_of numbers_from is_dns_name
within_range = refl

out_of_range : (plain_step pooled (RangeAddrs 1 3)).1 ≡ Addrs None 28 (record { family = V4; value = 18 } ∷ record { family = V4; value = 20 } ∷ record { family = V4; value = 21 } ∷ [])
unfolding prefix_fault range_fault address_fault address_barred populated_at numbers_from is_dns_name
out_of_range = refl

-- once it is populated it withholds all of them, and gives out none; the address that was there before stays
abbrev filled : State
filled = after pooled (Change 1 (range_marked true) ∷ [])

beside_range : (plain_step filled (PrefixAddrs 1 9)).1 ≡ Addrs None 28 (record { family = V4; value = 17 } ∷ record { family = V4; value = 30 } ∷ [])
unfolding prefix_fault range_fault address_fault address_barred populated_at usable_of addresses_of numbers_from is_dns_name
beside_range = refl

none_of_range : (plain_step filled (RangeAddrs 1 3)).1 ≡ Addrs None 28 []
unfolding prefix_fault range_fault address_fault address_barred populated_at numbers_from is_dns_name
none_of_range = refl

none_claimed : (plain_step filled (ClaimRangeAddrs 1 AsOne (addr ∷ []))).1 ≡ Refused (NoSpace 0)
unfolding prefix_fault range_fault address_fault address_barred populated_at numbers_from is_dns_name
none_claimed = refl

-- no address is made inside it, and none comes into it from outside
made_inside : (plain_step filled (address (host 20 28) None None)).1 ≡ Refused (Breaks (Populated 1))
unfolding prefix_fault range_fault address_fault address_barred populated_at is_dns_name
made_inside = refl

moved_inside : (plain_step filled (Change 1 (address_to (host 20 28)))).1 ≡ Refused (Breaks (Populated 1))
unfolding prefix_fault range_fault address_fault address_barred populated_at is_dns_name
moved_inside = refl

-- the mask alone is no move
masked_inside : (plain_step filled (Change 1 (address_to (host 19 32)))).1 ≡ Changed (seen_address 1 (host 19 32) None)
unfolding prefix_fault range_fault address_fault address_barred populated_at is_dns_name
masked_inside = refl

-- that the host has an address comes first
held_inside : (plain_step filled (address (host 19 28) None None)).1 ≡ Refused (Breaks (Duplicate 1))
unfolding prefix_fault range_fault address_fault address_barred populated_at is_dns_name
held_inside = refl

-- ---- how much is used

-- a container with 4 of its 16 addresses covered, and a prefix whose two hosts are all that it has room for
abbrev held : State
held = after empty (Create (PrefixDraft (v4 16 28) None Container None false false []) ∷ prefix 20 30 None None ∷ ClaimPrefixAddrs 2 AsList (addr ∷ addr ∷ []) ∷ [])

quarter : (plain_step held (Utilization Prefixes 1)).1 ≡ Percent 25
unfolding prefix_fault usable_of addresses_of numbers_from is_dns_name
quarter = refl

all_used : (plain_step held (Utilization Prefixes 2)).1 ≡ Percent 100
unfolding prefix_fault usable_of addresses_of numbers_from is_dns_name
all_used = refl

-- a kind without figures
no_figure : (plain_step held (Utilization Vrfs 1)).1 ≡ Refused (NotFound Vrfs 1)
no_figure = refl
