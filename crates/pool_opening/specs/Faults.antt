-- Stored pools that are opened: what is wrong with them, if anything, and the pools that they represent.
use Rattle.std.specs.Prelude.{◌≡◌, ℕ, ◌==◌, ◌||◌, ◌&&◌, nat_le, Bool, true, false, not, List, [], ◌∷◌, ◌++◌, fold, Option, Some, None, option_map, if◌then◌else◌}
use Rattle.std.specs.List.{list_any}
use Rattle.ipam_data.specs.Checks.{first}
use Rattle.ipam_data.specs.RowList.{row_at}
use Rattle.number_pools.specs.declared.rows.NumberRange.{NumberRange}
use Rattle.number_pools.specs.declared.rows.Member.{Member}
use Rattle.number_pools.specs.Rows.{Pools, member_id, range_id}
use Rattle.number_pools.specs.Free.{is_held, pool_at}
use Rattle.number_pools.specs.Steps.{has_name, in_bounds}
use Rattle.pool_keeper.specs.declared.tables.PoolTables.{PoolTables}
use Rattle.pool_opening.specs.declared.faults.PoolFault.{PoolFault}
use Rattle.pool_opening.specs.declared.faults.PoolFault.TheVariants.{BadRange, BadMember, BadNext, Keeper, Memory}

-- ---- rows that break a rule given those before them

abbrev pub greater : ℕ → ℕ → ℕ
greater top n = if nat_le n top then top else n

-- the greatest id of the rows; 0 without rows
abbrev pub top_of : {T : Type 0} → (T → ℕ) → List T → ℕ
top_of id rows = fold (λ top x. greater top (id x)) 0 rows

-- the id is 0, or not above those of the rows before
abbrev pub is_out_of_order : {T : Type 0} → (T → ℕ) → List T → T → Bool
is_out_of_order id before x = nat_le (id x) (top_of id before)

abbrev pub breaks_range : List NumberRange → NumberRange → Bool
breaks_range before r = is_out_of_order range_id before r || list_any (has_name r.kind r.name) before || not (in_bounds r.kind r.first r.last)

-- the member's number is not one of its range, or the range is not there
abbrev pub is_outside : Option NumberRange → ℕ → Bool
is_outside None n = true
is_outside (Some r) n = not (nat_le r.first n && nat_le n r.last)

abbrev pub breaks_member : List NumberRange → List Member → Member → Bool
breaks_member ranges before m =
    is_out_of_order member_id before m || is_outside (row_at range_id ranges m.range) m.number || is_held ranges before (pool_at ranges m) m.number

-- the lesser of the id and the least so far, if its row breaks a rule; else the least so far
abbrev pub lesser_if : Bool → ℕ → Option ℕ → Option ℕ
lesser_if false n found = found
lesser_if true n None = Some n
lesser_if true n (Some least) = Some (if nat_le least n then least else n)

-- the least id of a row that breaks a rule given all those that are before it
abbrev pub least_broken : {T : Type 0} → (T → ℕ) → (List T → T → Bool) → List T → Option ℕ → List T → Option ℕ
least_broken id breaks before found [] = found
least_broken id breaks before found (x ∷ xs) = least_broken id breaks (before ++ x ∷ []) (lesser_if (breaks before x) (id x) found) xs

-- ---- next ids

abbrev pub is_not_above : {T : Type 0} → (T → ℕ) → ℕ → T → Bool
is_not_above id next x = nat_le next (id x)

-- the next id is 0, or not above all ids
abbrev pub is_bad_next : {T : Type 0} → (T → ℕ) → List T → ℕ → Bool
is_bad_next id rows next = next == 0 || list_any (is_not_above id next) rows

-- ---- what is wrong

-- the first of these that there is: the least id of a range that breaks a rule, that of such a member, a next id that is none
abbrev pub fault_of : PoolTables → Option PoolFault
fault_of tables = first (
    option_map BadRange (least_broken range_id breaks_range [] None tables.ranges)
    ∷ option_map BadMember (least_broken member_id (breaks_member tables.ranges) [] None tables.members)
    ∷ (if is_bad_next range_id tables.ranges tables.next_range || is_bad_next member_id tables.members tables.next_member then Some BadNext else None)
    ∷ []
    )

-- the pools of the tables, before anything was spent
abbrev pub loaded : PoolTables → Pools
loaded tables = record { ranges = record { rows = tables.ranges; next = tables.next_range }; members = record { rows = tables.members; next = tables.next_member }; spent = 0 }

-- what a refusal says of the tables: nothing of a keeper that failed, and of out of memory
abbrev pub IsRefused : PoolTables → PoolFault → Type 0
IsRefused tables Keeper = Unit {0}
IsRefused tables Memory = Unit {0}
IsRefused tables (BadRange id) = fault_of tables ≡ Some (BadRange id)
IsRefused tables (BadMember id) = fault_of tables ≡ Some (BadMember id)
IsRefused tables BadNext = fault_of tables ≡ Some BadNext
