-- The plain pools: what a call leads to, on plain lists. A check is a refusal or nothing; of the checks of a call, in their order, the
-- first that refuses is answered, and the state stays.
use Rattle.std.specs.Prelude.{ℕ, ◌+◌, ◌==◌, ◌&&◌, not, Bool, true, false, nat_le, List, [], ◌∷◌, ◌++◌, filter, fold, is_some, map, take, length, Option, Some, None, option_map, bytes_eq, if◌then◌else◌}
use Rattle.std.specs.List.{list_any}
use Rattle.ipam_data.specs.declared.kinds.TheConstants.{LAST_ID}
use Rattle.ipam_data.specs.Checks.{asks, first as first_of, most_spent}
use Rattle.ipam_data.specs.Plans.{edited}
use Rattle.ipam_data.specs.RowList.{appended, cleared_of, last_next, least, least_rival, page, replaced, row_at}
use Rattle.number_pools.specs.declared.rows.PoolKind.{PoolKind}
use Rattle.number_pools.specs.declared.rows.PoolKind.TheVariants.{Asn, Vlan}
use Rattle.number_pools.specs.declared.rows.NumberRange.{NumberRange}
use Rattle.number_pools.specs.declared.rows.Member.{Member}
use Rattle.number_pools.specs.declared.calls.TheConstants.{MOST_RANGES, MOST_MEMBERS, MOST_CLAIMED}
use Rattle.number_pools.specs.declared.calls.Chosen.{Chosen}
use Rattle.number_pools.specs.declared.calls.MemberQuery.{MemberQuery}
use Rattle.number_pools.specs.declared.calls.Quantity.{Quantity}
use Rattle.number_pools.specs.declared.calls.Quantity.TheVariants.{Claims, Items, Ranges as RangeCount, Members as MemberCount, Ids, Log}
use Rattle.number_pools.specs.declared.calls.PoolRefusal.{PoolRefusal}
use Rattle.number_pools.specs.declared.calls.PoolRefusal.TheVariants.{Absent, NameTaken, Bounds, InUse, NoSpace, Outside, Taken, Repeated, Limit}
use Rattle.number_pools.specs.declared.calls.PoolCall.{PoolCall}
use Rattle.number_pools.specs.declared.calls.PoolCall.TheVariants as call
use Rattle.number_pools.specs.declared.calls.PoolReply.{PoolReply}
use Rattle.number_pools.specs.declared.calls.PoolReply.TheVariants.{Made, Gone, Claimed, ChangedRange, ChangedMember, OneRange, OneMember, Ranges, Members, Numbers, Page, Refused}
use Rattle.number_pools.specs.Rows.{Pools, member_id, most_of, range_id}
use Rattle.number_pools.specs.Free.{free_numbers, holds, pool_of}

-- ---- which rows are meant

abbrev pub same_kind : PoolKind → PoolKind → Bool
same_kind Asn Asn = true
same_kind Asn Vlan = false
same_kind Vlan Asn = false
same_kind Vlan Vlan = true

abbrev pub of_kind : PoolKind → Option NumberRange → Option NumberRange
of_kind kind None = None
of_kind kind (Some range) = if same_kind range.kind kind then Some range else None

-- the range of a kind with this id; one of the other kind is as good as none
abbrev pub range_at : List NumberRange → PoolKind → ℕ → Option NumberRange
range_at ranges kind id = of_kind kind (row_at range_id ranges id)

-- the ranges of a kind, in order
abbrev pub ranges_of : List NumberRange → PoolKind → List NumberRange
ranges_of ranges kind = filter (λ r. same_kind r.kind kind) ranges

-- the range of this kind has the name
abbrev pub has_name : PoolKind → List ℕ → NumberRange → Bool
has_name kind name r = same_kind r.kind kind && bytes_eq r.name name

-- two ranges of one kind and one name
abbrev pub has_one_name : NumberRange → NumberRange → Bool
has_one_name range other = has_name range.kind range.name other

-- the member is one of the range of this id
abbrev pub is_of_range : ℕ → Member → Bool
is_of_range id m = m.range == id

-- the members of a range, in order
abbrev pub members_of : List Member → ℕ → List Member
members_of members id = filter (is_of_range id) members

-- the member with this id, if its range is of the kind
abbrev pub of_kind_of : List NumberRange → PoolKind → Option Member → Option Member
of_kind_of ranges kind None = None
of_kind_of ranges kind (Some m) = if is_some (range_at ranges kind m.range) then Some m else None

abbrev pub member_at : Pools → PoolKind → ℕ → Option Member
member_at s kind id = of_kind_of s.ranges.rows kind (row_at member_id s.members.rows id)

-- the member has each of the number, the range and the name that are asked for
abbrev pub is_wanted : MemberQuery → Member → Bool
is_wanted query m = asks query.number (λ n. m.number == n) && asks query.range (λ id. m.range == id) && asks query.name (λ name. bytes_eq m.name name)

-- the member is one of a range of the kind, and has what is asked for
abbrev pub is_listed : List NumberRange → PoolKind → MemberQuery → Member → Bool
is_listed ranges kind query m = is_some (range_at ranges kind m.range) && is_wanted query m

-- the members that a list has, in order
abbrev pub listed_members : Pools → PoolKind → MemberQuery → List Member
listed_members s kind query = filter (is_listed s.ranges.rows kind query) s.members.rows

-- ---- what refuses a call

abbrev pub Check : Type 0
Check = Option PoolRefusal

-- refused if there would be more than may be
abbrev pub too_many : Quantity → ℕ → ℕ → Check
too_many which most count = if nat_le count most then None else Some (Limit which most)

-- refused if the next id and the number of new rows exceed the last next id; it carries the greatest id of a row
abbrev pub no_ids : ℕ → ℕ → Check
no_ids next more = if nat_le (next + more) last_next then None else Some (Limit Ids LAST_ID)

-- refused if the log has no room for so many more items
abbrev pub no_log : Pools → ℕ → Check
no_log s more = too_many Log most_spent (s.spent + more)

abbrev pub in_bounds : PoolKind → ℕ → ℕ → Bool
in_bounds kind first last = nat_le 1 first && nat_le first last && nat_le last (most_of kind)

-- a range of the kind has the name: the one of the least id
abbrev pub is_name_taken : Pools → PoolKind → List ℕ → Check
is_name_taken s kind name = option_map NameTaken (least range_id (has_name kind name) s.ranges.rows)

abbrev pub is_out_of_bounds : PoolKind → ℕ → ℕ → Check
is_out_of_bounds kind first last = if in_bounds kind first last then None else Some Bounds

-- the range has members: the one of the least id
abbrev pub is_in_use : Pools → ℕ → Check
is_in_use s id = option_map InUse (least member_id (is_of_range id) s.members.rows)

-- fewer numbers are free than the claim has items
abbrev pub is_short : ℕ → ℕ → Check
is_short free wanted = if nat_le wanted free then None else Some (NoSpace free)

-- the number is one of the range
abbrev pub is_within : NumberRange → ℕ → Bool
is_within range n = nat_le range.first n && nat_le n range.last

-- the number is none of the range
abbrev pub is_outside : NumberRange → ℕ → Check
is_outside range n = if is_within range n then None else Some (Outside n)

-- a member of the range's pool holds the number: the one of the least id
abbrev pub is_number_taken : Pools → NumberRange → ℕ → Check
is_number_taken s range n = option_map (Taken n) (least member_id (holds s.ranges.rows (pool_of range) n) s.members.rows)

-- the number is one of these, which earlier items have
abbrev pub is_repeated : List ℕ → ℕ → Check
is_repeated before n = if list_any (λ m. m == n) before then Some (Repeated n) else None

-- the first of the chosen numbers that can't be recorded after these
abbrev pub unfit : Pools → NumberRange → List ℕ → List ℕ → Check
unfit s range before [] = None
unfit s range before (n ∷ ns) =
    first_of (is_outside range n ∷ is_number_taken s range n ∷ is_repeated before n ∷ unfit s range (before ++ n ∷ []) ns ∷ [])

abbrev pub add_checks : Pools → PoolKind → List ℕ → ℕ → ℕ → List Check
add_checks s kind name first last =
    is_name_taken s kind name ∷ is_out_of_bounds kind first last ∷ too_many RangeCount MOST_RANGES (length s.ranges.rows + 1)
    ∷ no_ids s.ranges.next 1 ∷ no_log s 1 ∷ []

abbrev pub cut_range_checks : Pools → ℕ → List Check
cut_range_checks s id = is_in_use s id ∷ no_log s 1 ∷ []

abbrev pub cut_member_checks : Pools → List Check
cut_member_checks s = no_log s 1 ∷ []

-- the last checks of a call that makes so many members
abbrev pub member_limits : Pools → ℕ → List Check
member_limits s n = too_many MemberCount MOST_MEMBERS (length s.members.rows + n) ∷ no_ids s.members.next n ∷ no_log s n ∷ []

abbrev pub claim_checks : Pools → NumberRange → ℕ → List Check
claim_checks s range n = too_many Claims MOST_CLAIMED n ∷ is_short (length (free_numbers s range)) n ∷ member_limits s n

-- the numbers of items, and their names
abbrev pub numbers_of : List Chosen → List ℕ
numbers_of items = map (λ c. c.number) items

abbrev pub names_of : List Chosen → List (List ℕ)
names_of items = map (λ c. c.name) items

abbrev pub record_checks : Pools → NumberRange → List Chosen → List Check
record_checks s range items = too_many Items MOST_CLAIMED (length items) ∷ unfit s range [] (numbers_of items) ∷ member_limits s (length items)

-- the range after an edit, and the member: what is not given stays
abbrev pub edited_range : NumberRange → Option (List ℕ) → Option ℕ → Option ℕ → NumberRange
edited_range range name first last =
    record { id = range.id; kind = range.kind; name = edited name range.name; first = edited first range.first; last = edited last range.last }

abbrev pub edited_member : Member → Option (List ℕ) → Member
edited_member m name = record { id = m.id; range = m.range; number = m.number; name = edited name m.name }

-- another range of the kind has the name: the one of the least id
abbrev pub is_name_of_other : Pools → NumberRange → Check
is_name_of_other s range = option_map NameTaken (least_rival range_id has_one_name s.ranges.rows range)

-- the member is one of the range, and its number is none
abbrev pub is_cut_off : NumberRange → Member → Bool
is_cut_off range m = is_of_range range.id m && not (is_within range m.number)

-- the range has members outside its bounds: the one of the least id
abbrev pub is_too_small : Pools → NumberRange → Check
is_too_small s range = option_map InUse (least member_id (is_cut_off range) s.members.rows)

-- the checks of an edit that leads to this range
abbrev pub edit_range_checks : Pools → NumberRange → List Check
edit_range_checks s range = is_name_of_other s range ∷ is_out_of_bounds range.kind range.first range.last ∷ is_too_small s range ∷ no_log s 1 ∷ []

abbrev pub edit_member_checks : Pools → List Check
edit_member_checks s = no_log s 1 ∷ []

-- ---- what a call that is not refused does

-- members with these names, from this id on, that hold these numbers of a range
abbrev pub made_members : ℕ → ℕ → List ℕ → List (List ℕ) → List Member
made_members id range [] names = []
made_members id range (n ∷ ns) [] = []
made_members id range (n ∷ ns) (name ∷ names) = record { id = id; range = range; number = n; name = name } ∷ made_members (id + 1) range ns names

-- the members of a claim: the least free numbers in order, one for each name
abbrev pub claimed : Pools → NumberRange → List (List ℕ) → List Member
claimed s range names = made_members s.members.next range.id (take (length names) (free_numbers s range)) names

-- the members of a call that records: one for each item
abbrev pub recorded : Pools → NumberRange → List Chosen → List Member
recorded s range items = made_members s.members.next range.id (numbers_of items) (names_of items)

-- the range that is made
abbrev pub made_range : Pools → PoolKind → List ℕ → ℕ → ℕ → NumberRange
made_range s kind name first last = record { id = s.ranges.next; kind = kind; name = name; first = first; last = last }

abbrev pub with_range : Pools → NumberRange → Pools
with_range s range = record { ranges = appended range_id s.ranges range; members = s.members; spent = s.spent + 1 }

abbrev pub without_range : Pools → ℕ → Pools
without_range s id = record { ranges = cleared_of range_id s.ranges id; members = s.members; spent = s.spent + 1 }

-- with these members after all others, and so many items more of the log spent
abbrev pub with_made : Pools → List Member → ℕ → Pools
with_made s made n = record { ranges = s.ranges; members = fold (appended member_id) s.members made; spent = s.spent + n }

-- a claim spends one item of the log for each of its items, and so does a call that records
abbrev pub with_claim : Pools → NumberRange → List (List ℕ) → Pools
with_claim s range names = with_made s (claimed s range names) (length names)

abbrev pub with_record : Pools → NumberRange → List Chosen → Pools
with_record s range items = with_made s (recorded s range items) (length items)

abbrev pub without_member : Pools → ℕ → Pools
without_member s id = record { ranges = s.ranges; members = cleared_of member_id s.members id; spent = s.spent + 1 }

abbrev pub with_edited_range : Pools → NumberRange → Pools
with_edited_range s range = record { ranges = replaced range_id s.ranges range; members = s.members; spent = s.spent + 1 }

abbrev pub with_edited_member : Pools → Member → Pools
with_edited_member s m = record { ranges = s.ranges; members = replaced member_id s.members m; spent = s.spent + 1 }

-- ---- the steps

-- refused, or with the state and the reply after the change
abbrev pub unless : Check → Pools → Pools → PoolReply → Pools × PoolReply
unless (Some why) s new reply = (s, Refused why)
unless None s new reply = (new, reply)

abbrev pub add_step : Pools → PoolKind → List ℕ → ℕ → ℕ → Pools × PoolReply
add_step s kind name first last =
    let row = made_range s kind name first last in
    unless (first_of (add_checks s kind name first last)) s (with_range s row) (Made row)

abbrev pub cut_range_step : Pools → ℕ → Option NumberRange → Pools × PoolReply
cut_range_step s id None = (s, Refused (Absent id))
cut_range_step s id (Some range) = unless (first_of (cut_range_checks s id)) s (without_range s id) Gone

abbrev pub cut_member_step : Pools → ℕ → Option Member → Pools × PoolReply
cut_member_step s id None = (s, Refused (Absent id))
cut_member_step s id (Some member) = unless (first_of (cut_member_checks s)) s (without_member s id) Gone

abbrev pub members_step : Pools → ℕ → Option NumberRange → Pools × PoolReply
members_step s id None = (s, Refused (Absent id))
members_step s id (Some range) = (s, Members (members_of s.members.rows id))

abbrev pub available_step : Pools → ℕ → ℕ → Option NumberRange → Pools × PoolReply
available_step s id limit None = (s, Refused (Absent id))
available_step s id limit (Some range) = (s, Numbers (take limit (free_numbers s range)))

abbrev pub claim_step : Pools → ℕ → List (List ℕ) → Option NumberRange → Pools × PoolReply
claim_step s id names None = (s, Refused (Absent id))
claim_step s id names (Some range) =
    unless (first_of (claim_checks s range (length names))) s (with_claim s range names) (Claimed (claimed s range names))

abbrev pub record_step : Pools → ℕ → List Chosen → Option NumberRange → Pools × PoolReply
record_step s id items None = (s, Refused (Absent id))
record_step s id items (Some range) = unless (first_of (record_checks s range items)) s (with_record s range items) (Claimed (recorded s range items))

abbrev pub one_range_step : Pools → ℕ → Option NumberRange → Pools × PoolReply
one_range_step s id None = (s, Refused (Absent id))
one_range_step s id (Some range) = (s, OneRange range)

abbrev pub one_member_step : Pools → ℕ → Option Member → Pools × PoolReply
one_member_step s id None = (s, Refused (Absent id))
one_member_step s id (Some m) = (s, OneMember m)

-- how many members the list has, and its page
abbrev pub page_reply : Pools → PoolKind → MemberQuery → PoolReply
page_reply s kind query = let all = listed_members s kind query in Page query (length all) (page query.limit query.offset all)

-- an edit that leads to this range
abbrev pub edited_range_step : Pools → NumberRange → Pools × PoolReply
edited_range_step s range = unless (first_of (edit_range_checks s range)) s (with_edited_range s range) (ChangedRange range)

abbrev pub edit_range_step : Pools → ℕ → Option (List ℕ) → Option ℕ → Option ℕ → Option NumberRange → Pools × PoolReply
edit_range_step s id name first last None = (s, Refused (Absent id))
edit_range_step s id name first last (Some range) = edited_range_step s (edited_range range name first last)

-- an edit that leads to this member
abbrev pub edited_member_step : Pools → Member → Pools × PoolReply
edited_member_step s m = unless (first_of (edit_member_checks s)) s (with_edited_member s m) (ChangedMember m)

abbrev pub edit_member_step : Pools → ℕ → Option (List ℕ) → Option Member → Pools × PoolReply
edit_member_step s id name None = (s, Refused (Absent id))
edit_member_step s id name (Some m) = edited_member_step s (edited_member m name)

-- the plain step. Whether a claim or chosen numbers were given as a list is given to whoever writes its answer, and changes nothing.
abbrev pub plain_pool_step : Pools → PoolCall → Pools × PoolReply
plain_pool_step s (call.AddRange kind name first last) = add_step s kind name first last
plain_pool_step s (call.CutRange kind id) = cut_range_step s id (range_at s.ranges.rows kind id)
plain_pool_step s (call.Ranges kind) = (s, Ranges (ranges_of s.ranges.rows kind))
plain_pool_step s (call.Members kind id) = members_step s id (range_at s.ranges.rows kind id)
plain_pool_step s (call.CutMember kind id) = cut_member_step s id (member_at s kind id)
plain_pool_step s (call.Available kind id limit) = available_step s id limit (range_at s.ranges.rows kind id)
plain_pool_step s (call.Claim kind id list names) = claim_step s id names (range_at s.ranges.rows kind id)
plain_pool_step s (call.Record kind id list items) = record_step s id items (range_at s.ranges.rows kind id)
plain_pool_step s (call.OneRange kind id) = one_range_step s id (range_at s.ranges.rows kind id)
plain_pool_step s (call.OneMember kind id) = one_member_step s id (member_at s kind id)
plain_pool_step s (call.EditRange kind id name first last) = edit_range_step s id name first last (range_at s.ranges.rows kind id)
plain_pool_step s (call.EditMember kind id name) = edit_member_step s id name (member_at s kind id)
plain_pool_step s (call.Page kind query) = (s, page_reply s kind query)
