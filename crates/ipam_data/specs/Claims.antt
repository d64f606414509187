-- What of a prefix or a range can still be given out, claims, and how much is used: which rows count for which, and the plans
-- of the calls.
use Rattle.std.specs.Prelude.{ℕ, ◌+◌, ◌-◌, ◌==◌, ◌&&◌, ◌||◌, nat_lt, nat_le, Bool, not, true, false, List, [], ◌∷◌, ◌++◌, Option, Some, None, length, map, filter, take, if◌then◌else◌}
use Rattle.std.specs.List.{list_any, flat_map, count_by}
use Rattle.std.specs.Str.{str_to_ascii_lowercase}
use Rattle.inet_num.specs.declared.Family.{Family}
use Rattle.inet_num.specs.Net.{width_of, Address, Cidr, size_of}
use Rattle.inet_num.specs.Free.{available_blocks_of}
use Rattle.inet_num.specs.Count.{numbers_from, count_of, percent_of}
use Rattle.block_space.specs.Listed.{covered_of}
use Rattle.block_space.specs.Fit.{fits_of}
use Rattle.block_space.specs.Usable.{usable_of, addressed, host_room}
use Rattle.ipam_data.specs.declared.calls.TheConstants.{MOST_ITEMS}
use Rattle.ipam_data.specs.declared.calls.Answered.{Answered}
use Rattle.ipam_data.specs.declared.calls.Answered.TheVariants.{AsOne, AsList}
use Rattle.ipam_data.specs.declared.calls.BlockItem.{BlockItem}
use Rattle.ipam_data.specs.declared.calls.AddrItem.{AddrItem}
use Rattle.ipam_data.specs.declared.prefix.Prefix.{Prefix}
use Rattle.ipam_data.specs.declared.prefix.PrefixStatus.{PrefixStatus}
use Rattle.ipam_data.specs.declared.prefix.PrefixStatus.TheVariants.{Container, Active, Reserved, Deprecated}
use Rattle.ipam_data.specs.declared.range.IpRange.{IpRange}
use Rattle.ipam_data.specs.declared.address.IpAddress.{IpAddress}
use Rattle.ipam_data.specs.declared.aggregate.Aggregate.{Aggregate}
use Rattle.ipam_data.specs.declared.kinds.Table.TheVariants.{Global}
use Rattle.ipam_data.specs.declared.kinds.Kind.{Kind}
use Rattle.ipam_data.specs.declared.kinds.Kind.TheVariants.{Roles, Aggregates, Prefixes, Ranges}
use Rattle.ipam_data.specs.declared.replies.Rule.{Rule}
use Rattle.ipam_data.specs.declared.replies.Rule.TheVariants.{WantedLength, SlaacFamily, DnsName}
use Rattle.ipam_data.specs.declared.replies.Refusal.{Refusal}
use Rattle.ipam_data.specs.declared.replies.Refusal.TheVariants.{NotFound, NoSpace}
use Rattle.ipam_data.specs.declared.replies.Which.TheVariants.{Claims}
use Rattle.ipam_data.specs.declared.replies.Reply.{Reply}
use Rattle.ipam_data.specs.declared.replies.Reply.TheVariants.{Made, MadeMany, Blocks, Addrs, Percent}
use Rattle.ipam_data.specs.declared.replies.View.{View}
use Rattle.ipam_data.specs.Rows.{role_id}
use Rattle.ipam_data.specs.Texts.{IsDescription, IsDnsText}
use Rattle.ipam_data.specs.HostNames.{is_dns_name}
use Rattle.ipam_data.specs.Tables.{table_of, same_table}
use Rattle.inet_num.specs.Blocks.{same_family, is_strictly_inside, is_block_inside, block_holds}
use Rattle.ipam_data.specs.RowList.{row_at}
use Rattle.ipam_data.specs.Checks.{no_such, too_many, breaks}
use Rattle.ipam_data.specs.State.{State, Plan, reading, refusing}
use Rattle.ipam_data.specs.Plans.{KindRules, no_place, with_row_at}
use Rattle.ipam_data.specs.Prefixes.{prefix_rules, in_one_table, is_child}
use Rattle.ipam_data.specs.Ranges.{range_rules}
use Rattle.ipam_data.specs.Addresses.{address_rules, is_slaac_of_v4}
use Rattle.ipam_data.specs.Aggregates.{aggregate_rules}

-- ---- which rows count for a prefix

abbrev pub is_container : PrefixStatus → Bool
is_container Container = true
is_container Active = false
is_container Reserved = false
is_container Deprecated = false

-- the rows of every table count for a container of the global table
abbrev pub sees_all : Prefix → Bool
sees_all row = is_container row.status && same_table (table_of row.vrf) Global

-- the other prefix counts for this one: it lies strictly inside, in its table, or in any if all count
abbrev pub is_child_prefix : Prefix → Prefix → Bool
is_child_prefix row other = (sees_all row || in_one_table row other) && is_strictly_inside other.block row.block

-- the blocks of these
abbrev pub child_blocks : List Prefix → Prefix → List Cidr
child_blocks rows row = map (λ r. r.block) (filter (is_child_prefix row) rows)

-- the address counts for the prefix: its host is in the block, in the prefix's table, or in any if all count
abbrev pub is_child_address : Prefix → IpAddress → Bool
is_child_address row other = (sees_all row || same_table (table_of other.vrf) (table_of row.vrf)) && block_holds row.block other.host.addr

-- some address that counts has this number
abbrev pub is_hosted : List IpAddress → Prefix → ℕ → Bool
is_hosted addresses row a = list_any (λ r. is_child_address row r && r.host.addr.value == a) addresses

-- the range is of the prefix's table and family, and has this number
abbrev pub has_number : IpRange → ℕ → Bool
has_number r a = nat_le r.ends.start.value a && nat_le a r.ends.end.value

abbrev pub is_beside : Prefix → IpRange → Bool
is_beside row r = same_table (table_of r.vrf) (table_of row.vrf) && same_family r.ends.start.family row.block.family

-- some populated range of the prefix's table has this number, so it is withheld
abbrev pub is_withheld : List IpRange → Prefix → ℕ → Bool
is_withheld ranges row a = list_any (λ r. r.mark_populated && is_beside row r && has_number r a) ranges

-- the same of the ranges that count as full
abbrev pub is_marked : List IpRange → Prefix → ℕ → Bool
is_marked ranges row a = list_any (λ r. r.mark_utilized && is_beside row r && has_number r a) ranges

-- the addresses of a prefix that can be given out, in order
abbrev pub usable_in : State → Prefix → List ℕ
usable_in s row = usable_of (is_hosted s.addresses.rows row) (is_withheld s.ranges.rows row) row.block row.is_pool

-- ---- of a range

-- some address of the range's table and family has this number
abbrev pub is_host_beside : List IpAddress → IpRange → ℕ → Bool
is_host_beside addresses row a =
    list_any (λ r. same_table (table_of r.vrf) (table_of row.vrf) && same_family r.host.addr.family row.ends.start.family && r.host.addr.value == a) addresses

abbrev pub numbers_in : IpRange → List ℕ
numbers_in row = numbers_from row.ends.start.value (row.ends.end.value + 1 - row.ends.start.value)

-- the addresses of a range that can be given out, in order: a populated one has none
abbrev pub usable_of_range : State → IpRange → List ℕ
usable_of_range s row = if row.mark_populated then [] else filter (λ a. not (is_host_beside s.addresses.rows row a)) (numbers_in row)

-- ---- what is read

abbrev pub blocks_plan : State → ℕ → ℕ → Plan
blocks_plan s n limit = with_row_at prefix_rules s n (λ row. reading (Blocks row.vrf (take limit (available_blocks_of row.block (child_blocks s.prefixes.rows row)))))

abbrev pub prefix_addrs_plan : State → ℕ → ℕ → Plan
prefix_addrs_plan s n limit = with_row_at prefix_rules s n (λ row. reading (Addrs row.vrf row.block.len (take limit (addressed row.block.family (usable_in s row)))))

abbrev pub range_addrs_plan : State → ℕ → ℕ → Plan
range_addrs_plan s n limit = with_row_at range_rules s n (λ row. reading (Addrs row.vrf row.ends.len (take limit (addressed row.ends.start.family (usable_of_range s row)))))

-- ---- how much is used

-- the blocks that lie strictly inside a prefix in its own table
abbrev pub own_blocks : List Prefix → Prefix → List Cidr
own_blocks rows row = map (λ r. r.block) (filter (is_child row) rows)

abbrev pub prefix_figure : State → Prefix → ℕ
prefix_figure s row =
    if row.mark_utilized then 100
    else (if is_container row.status
    then percent_of (covered_of (own_blocks s.prefixes.rows row) row.block) (size_of row.block)
    else percent_of (count_of (λ a. is_hosted s.addresses.rows row a || is_marked s.ranges.rows row a) row.block) (host_room row.block row.is_pool))

abbrev pub range_figure : State → IpRange → ℕ
range_figure s row =
    if row.mark_utilized then 100
    else percent_of (count_by (is_host_beside s.addresses.rows row) (numbers_in row)) (row.ends.end.value + 1 - row.ends.start.value)

-- the blocks of every table inside an aggregate or equal to it
abbrev pub aggregated_blocks : List Prefix → Aggregate → List Cidr
aggregated_blocks rows row = map (λ r. r.block) (filter (λ r. is_block_inside r.block row.block) rows)

abbrev pub aggregate_figure : State → Aggregate → ℕ
aggregate_figure s row = percent_of (covered_of (aggregated_blocks s.prefixes.rows row) row.block) (size_of row.block)

abbrev pub figure_plan : {T : Type 0} → KindRules T → (State → T → ℕ) → State → ℕ → Plan
figure_plan rules figure s n = with_row_at rules s n (λ row. reading (Percent (figure s row)))

-- how much of a row is used: aggregates, prefixes and ranges have a figure, and a row of another kind is refused as one that is not there
abbrev pub utilization_plan : State → Kind → ℕ → Plan
utilization_plan s Aggregates n = figure_plan aggregate_rules aggregate_figure s n
utilization_plan s Prefixes n = figure_plan prefix_rules prefix_figure s n
utilization_plan s Ranges n = figure_plan range_rules range_figure s n
utilization_plan s kind n = refusing (NotFound kind n)

-- what items of claims keep by their types
abbrev pub HasBlockItemBounds : BlockItem → Type 0
HasBlockItemBounds item = IsDescription item.description

abbrev pub HasAddrItemBounds : AddrItem → Type 0
HasAddrItemBounds item = IsDnsText item.dns_name × IsDescription item.description

-- ---- claims

-- how many items a claim may have
abbrev pub most_items : ℕ
most_items = MOST_ITEMS

-- refused if fewer items get something than were wanted: it carries the first that gets nothing
abbrev pub no_space : ℕ → ℕ → Option Refusal
no_space wanted got = if nat_lt got wanted then Some (NoSpace got) else None

-- a list is answered by all views, and one item by its view
abbrev pub served : Answered → List View → Reply
served AsOne (view ∷ views) = Made view
served AsOne [] = MadeMany []
served AsList views = MadeMany views

module _ {T : Type 0} (rules : KindRules T) where
  -- a claim of so many items: what is said of them, then whether each gets something, then the place; and the rows that they get
  abbrev pub claim : State → List (Option Refusal) → ℕ → Answered → List T → Plan
  claim s told wanted answered rows = record {
    checks = too_many Claims most_items wanted ∷ told ++ no_space wanted (length rows) ∷ no_place rules s wanted;
    update = record { puts = map rules.view rows; cuts = []; next = (rules.kind, (rules.row_list s).next + wanted) ∷ []; spent = wanted };
    reply = served answered (map rules.view rows);
  }

-- the wanted length is longer than the prefix, and one of its family
abbrev pub wanted_length : Prefix → ℕ → Option Rule
wanted_length row len = if nat_lt row.block.len len && nat_le len (width_of row.block.family) then None else Some WantedLength

abbrev pub told_of_block : State → Prefix → BlockItem → List (Option Refusal)
told_of_block s row item = breaks (wanted_length row item.len) ∷ breaks (no_such Roles (row_at role_id s.roles.rows) item.role) ∷ []

-- the prefixes that items get, by their blocks, with ids from this one on, in the table of the prefix
abbrev pub claimed_prefixes : Prefix → ℕ → List BlockItem → List Cidr → List Prefix
claimed_prefixes row next [] blocks = []
claimed_prefixes row next (item ∷ items) [] = []
claimed_prefixes row next (item ∷ items) (block ∷ blocks) =
    record { id = next; block = block; vrf = row.vrf; status = item.status; role = item.role; is_pool = item.is_pool; mark_utilized = item.mark_utilized; description = item.description }
    ∷ claimed_prefixes row (next + 1) items blocks

abbrev pub lengths_of : List BlockItem → List ℕ
lengths_of items = map (λ item. item.len) items

-- each item gets the lowest free block of its length, given the child prefixes and those of the items before it
abbrev pub claim_blocks_of : State → Answered → List BlockItem → Prefix → Plan
claim_blocks_of s answered items row =
    claim prefix_rules s (flat_map (told_of_block s row) items) (length items) answered
    (claimed_prefixes row s.prefixes.next items (fits_of row.block (child_blocks s.prefixes.rows row) (lengths_of items)))

abbrev pub claim_blocks_plan : State → ℕ → Answered → List BlockItem → Plan
claim_blocks_plan s n answered items = with_row_at prefix_rules s n (claim_blocks_of s answered items)

-- an item is checked by what it says and the family alone
abbrev pub told_of_address : Family → AddrItem → List (Option Refusal)
told_of_address family item =
    breaks (if is_slaac_of_v4 item.status family then Some SlaacFamily else None)
    ∷ breaks (if is_dns_name (str_to_ascii_lowercase item.dns_name) then None else Some DnsName)
    ∷ []

-- the addresses that items get, with ids from this one on, a mask and a table
abbrev pub claimed_addresses : Option ℕ → ℕ → ℕ → List AddrItem → List Address → List IpAddress
claimed_addresses vrf len next [] hosts = []
claimed_addresses vrf len next (item ∷ items) [] = []
claimed_addresses vrf len next (item ∷ items) (host ∷ hosts) =
    record { id = next; host = record { addr = host; len = len }; vrf = vrf; status = item.status; role = item.role; dns_name = str_to_ascii_lowercase item.dns_name; description = item.description }
    ∷ claimed_addresses vrf len (next + 1) items hosts

-- n items get the n lowest addresses that can be given out
abbrev pub claim_addresses_of : State → Answered → List AddrItem → Option ℕ → ℕ → Family → List ℕ → Plan
claim_addresses_of s answered items vrf len family usable =
    claim address_rules s (flat_map (told_of_address family) items) (length items) answered
    (claimed_addresses vrf len s.addresses.next items (addressed family usable))

abbrev pub claim_prefix_addrs_plan : State → ℕ → Answered → List AddrItem → Plan
claim_prefix_addrs_plan s n answered items = with_row_at prefix_rules s n (λ row. claim_addresses_of s answered items row.vrf row.block.len row.block.family (usable_in s row))

abbrev pub claim_range_addrs_plan : State → ℕ → Answered → List AddrItem → Plan
claim_range_addrs_plan s n answered items = with_row_at range_rules s n (λ row. claim_addresses_of s answered items row.vrf row.ends.len row.ends.start.family (usable_of_range s row))
