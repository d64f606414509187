-- A row stays over each call that does not change it or take it out: what is put has other ids, and what is cut too.
use Rattle.std.proofs.Common.{◌≡◌, ℕ, ◌+◌, ◌<◌, ◌≤◌, ◌==◌, ◌&&◌, Contains, Bool, true, false, List, [], ◌∷◌, ◌++◌, length, map, filter, Option, Some, None, refl, ap, sym, ◌∙◌, subst, arith, inl, inr, ◌⊎◌, if◌then◌else◌}
use Rattle.std.specs.List.{flat_map, AllByRecursion}
use Rattle.block_space.specs.Usable.{addressed}
use Rattle.block_space.specs.Fit.{fits_of}
use Rattle.ipam_data.specs.declared.kinds.Kind.{Kind}
use Rattle.ipam_data.specs.declared.kinds.Kind.TheVariants.{Vrfs, Rirs, Roles, Aggregates, Prefixes, Ranges, Addresses}
use Rattle.ipam_data.specs.declared.calls.Call.{Call}
use Rattle.ipam_data.specs.declared.calls.Call.TheVariants.{List as ListOf, Get, Create, Change, Delete, Blocks as BlocksOf, PrefixAddrs, RangeAddrs, ClaimBlocks, ClaimPrefixAddrs, ClaimRangeAddrs, Utilization, Import, Export, Survey}
use Rattle.ipam_data.specs.declared.calls.Answered.{Answered}
use Rattle.ipam_data.specs.declared.calls.Draft.{Draft}
use Rattle.ipam_data.specs.declared.calls.Edit.{Edit}
use Rattle.ipam_data.specs.declared.calls.Filter.{Filter}
use Rattle.ipam_data.specs.declared.calls.Filter.TheVariants.{Vrfs as SomeVrfs}
use Rattle.ipam_data.specs.declared.imports.ImportRow.{ImportRow}
use Rattle.ipam_data.specs.declared.imports.ImportRow.TheVariants.{Vrf as VrfRow, Rir as RirRow, Role as RoleRow, Aggregate as AggregateRow, Prefix as PrefixRow, IpRange as RangeRow, IpAddress as AddressRow}
use Rattle.ipam_data.specs.declared.prefix.Prefix.{Prefix}
use Rattle.ipam_data.specs.declared.range.IpRange.{IpRange}
use Rattle.ipam_data.specs.declared.replies.Refusal.{Refusal}
use Rattle.ipam_data.specs.declared.replies.Reply.{Reply}
use Rattle.ipam_data.specs.declared.replies.Rule.{Rule}
use Rattle.ipam_data.specs.declared.replies.View.{View}
use Rattle.ipam_data.specs.declared.replies.View.TheVariants.{Vrf as VrfView, Rir as RirView, Role as RoleView, Aggregate as AggregateView, Prefix as PrefixView, IpRange as RangeView, IpAddress as AddressView}
use Rattle.ipam_data.specs.declared.replies.Which.TheVariants.{Rows as ManyRows}
use Rattle.ipam_data.specs.Rows.{role_id, prefix_id, range_id, same_kind}
use Rattle.ipam_data.specs.Tables.{is_named}
use Rattle.ipam_data.specs.RowList.{row_at, AllBelow, mapped, cleared_of}
use Rattle.ipam_data.specs.Checks.{too_many, no_log}
use Rattle.ipam_data.specs.State.{State, Plan, verdict_of, no_update, reading}
use Rattle.ipam_data.specs.Plans.{KindRules, create, change, replace, take_out, with_found, with_row_at, nothing_told}
use Rattle.ipam_data.specs.ByKind.{by_view}
use Rattle.ipam_data.specs.Updates.{without_row, with_spent, updated, outcome}
use Rattle.ipam_data.specs.Vrfs.{vrf_rules}
use Rattle.ipam_data.specs.Rirs.{rir_rules}
use Rattle.ipam_data.specs.Roles.{role_rules}
use Rattle.ipam_data.specs.Aggregates.{aggregate_rules}
use Rattle.ipam_data.specs.Prefixes.{prefix_rules, prefix_without_role}
use Rattle.ipam_data.specs.Ranges.{range_rules, range_without_role}
use Rattle.ipam_data.specs.Addresses.{address_rules}
use Rattle.ipam_data.specs.Fields.{drafted, next_for, told_of_draft, kind_of_edit, edited_vrf, edited_rir, edited_role, edited_aggregate, edited_prefix, edited_range, edited_address, told_of_change}
use Rattle.ipam_data.specs.Claims.{claim, claimed_prefixes, claimed_addresses, child_blocks, lengths_of, told_of_block, told_of_address, claim_blocks_of, claim_addresses_of, usable_in, usable_of_range, utilization_plan}
use Rattle.ipam_data.specs.Imports.{next_of, most_rows, kind_of_row, draft_of, Progress, begun, makes_one, with_draft, after_row, after_rows, row_verdicts, items_of, import_plan}
use Rattle.ipam_data.specs.Steps.{plan_of, plain_step, verdict, create_plan, change_of_kind, delete_plan, list_plan}
use Rattle.claim_laws.specs.Rows.{IsListed, touches, takes_role, RowsOfKindStay, RowsWithRolesStay, RowsStay}
use Rattle.ipam_data.proofs.RowLists.{eq_false}
use Rattle.ipam_data.proofs.Kept.{found_there}
use Rattle.ipam_data.proofs.Verdicts.{none_rest, none_left}
use Rattle.ipam_data.proofs.ManyCan.{Follow}
use Rattle.ipam_data.proofs.SameDrafts.{kinds}
use Rattle.ipam_data.proofs.ImportLaws.{AreOfKind, of_kind}
use Rattle.ipam_data.proofs.DraftLaws.{drafted_next, vrf_stays, rir_stays, role_stays, aggregate_stays, prefix_stays, range_stays, address_stays}
use Rattle.claim_laws.proofs.Lemmas.{prefixes_follow, addresses_follow, forgotten_of}
use Rattle.claim_laws.proofs.Withstand.{without_stays, id_under, contained_map, view_kind, view_id, Misses, Withstands, outcome_stays, vrfs_withstand, rirs_withstand, roles_withstand, aggregates_withstand, prefixes_withstand, ranges_withstand, addresses_withstand}

-- ---- calls

-- what is put under the next id of its kind or behind it is another row
missed : (s : State) (own kind : Kind) (m n : ℕ) → n < next_of s kind → next_of s own ≤ m → (same_kind own kind && m == n) ≡ false
missed s own kind m n l g = go (same_kind own kind) refl
  where
    go : (t : Bool) → same_kind own kind ≡ t → (t && m == n) ≡ false
    go true e = (let same : own ≡ kind = (kinds own kind).0 e in let k : next_of s own ≡ next_of s kind = ap (next_of s) same in eq_false m n (λ q. omega arith))
    go false e = refl

nothing_misses : (kind : Kind) (n : ℕ) → Misses kind n no_update
nothing_misses kind n = record { puts = tt; cuts = tt }

one_more : (s : State) (kind : Kind) (n : ℕ) (own : Kind) (m : ℕ) → n < next_of s kind → m ≡ next_of s own → (same_kind own kind && m == n) ≡ false
one_more s kind n own m l e = missed s own kind m n l (omega arith)

view_misses : (s : State) (told : List (Option Rule)) (view : View) (kind : Kind) (n : ℕ) → n < next_of s kind → by_view view (λ T rules row. rules.id row) ≡ by_view view (λ T rules row. (rules.row_list s).next)
    → Misses kind n (by_view view (λ T rules row. create rules s told row)).update
view_misses s told (VrfView row) kind n l e = record { puts = (one_more s kind n Vrfs row.id l e, tt); cuts = tt }
view_misses s told (RirView row) kind n l e = record { puts = (one_more s kind n Rirs row.id l e, tt); cuts = tt }
view_misses s told (RoleView row) kind n l e = record { puts = (one_more s kind n Roles row.id l e, tt); cuts = tt }
view_misses s told (AggregateView row) kind n l e = record { puts = (one_more s kind n Aggregates row.id l e, tt); cuts = tt }
view_misses s told (PrefixView row depth children) kind n l e = record { puts = (one_more s kind n Prefixes row.id l e, tt); cuts = tt }
view_misses s told (RangeView row) kind n l e = record { puts = (one_more s kind n Ranges row.id l e, tt); cuts = tt }
view_misses s told (AddressView row) kind n l e = record { puts = (one_more s kind n Addresses row.id l e, tt); cuts = tt }

create_misses : (s : State) (draft : Draft) (kind : Kind) (n : ℕ) → n < next_of s kind → Misses kind n (create_plan s draft).update
create_misses s draft kind n l = view_misses s (told_of_draft draft) (drafted (next_for s draft) draft) kind n l (drafted_next s draft)

module _ {T : Type 0} (rules : KindRules T) (is_kind : (row : T) → view_kind (rules.view row) ≡ rules.kind) (is_id : (row : T) → view_id (rules.view row) ≡ rules.id row) where
  -- what is done with a row that was found
  found_misses : (s : State) (n : ℕ) (plan : T → Plan) (kind : Kind) (m : ℕ) → ((row : T) → row_at rules.id (rules.row_list s).rows n ≡ Some row → Misses kind m (plan row).update) → Misses kind m (with_row_at rules s n plan).update
  found_misses s n plan kind m h = go (row_at rules.id (rules.row_list s).rows n) refl
    where
      go : (found : Option T) → row_at rules.id (rules.row_list s).rows n ≡ found → Misses kind m (with_found rules n plan found).update
      go None e = nothing_misses kind m
      go (Some row) e = h row e

  change_misses : (s : State) (n : ℕ) (told : T → List (Option Rule)) (edit : T → T) (kind : Kind) (m : ℕ) → ((old : T) → rules.id (edit old) ≡ rules.id old) → (same_kind rules.kind kind && n == m) ≡ false
      → Misses kind m (change rules s n told edit).update
  change_misses s n told edit kind m same e = found_misses s n (λ old. replace rules s old (told old) (edit old)) kind m (λ old f.
      let own : rules.id (edit old) ≡ n = same old ∙ (found_there rules.id (rules.row_list s).rows n old f).1 in
      record { puts = (rw (is_kind (edit old), is_id (edit old), own) e, tt); cuts = tt })

  follow_miss : (s : State) (kind : Kind) (m : ℕ) (low : ℕ) (rows : List T) → m < next_of s kind → next_of s rules.kind ≤ low → Follow rules.id low rows
      → AllByRecursion (λ v. (same_kind (view_kind v) kind && view_id v == m) ≡ false) (map rules.view rows)
  follow_miss s kind m low [] l g f = tt
  follow_miss s kind m low (row ∷ rows) l g f =
      let e = f.0 in
      let one = missed s rules.kind kind (rules.id row) m l (omega arith) in
      (rw (is_kind row, is_id row) one, follow_miss s kind m (low + 1) rows l (omega arith) f.1)

  claim_misses : (s : State) (told : List (Option Refusal)) (wanted : ℕ) (form : Answered) (rows : List T) (kind : Kind) (m : ℕ) → m < next_of s kind → next_of s rules.kind ≡ (rules.row_list s).next
      → Follow rules.id (rules.row_list s).next rows → Misses kind m (claim rules s told wanted form rows).update
  claim_misses s told wanted form rows kind m l e f = record { puts = follow_miss s kind m (rules.row_list s).next rows l (omega arith) f; cuts = tt }

  read_misses : (s : State) (n : ℕ) (reply : T → Reply) (kind : Kind) (m : ℕ) → Misses kind m (with_row_at rules s n (λ row. reading (reply row))).update
  read_misses s n reply kind m = found_misses s n (λ row. reading (reply row)) kind m (λ row f. nothing_misses kind m)

kind_misses : (s : State) (m : ℕ) (edit : Edit) (own kind : Kind) (n : ℕ) → (same_kind own kind && m == n) ≡ false → Misses kind n (change_of_kind s m edit own).update
kind_misses s m edit Vrfs kind n e = change_misses vrf_rules (λ row. refl) (λ row. refl) s m nothing_told (edited_vrf edit) kind n (vrf_stays edit) e
kind_misses s m edit Rirs kind n e = change_misses rir_rules (λ row. refl) (λ row. refl) s m nothing_told (edited_rir edit) kind n (rir_stays edit) e
kind_misses s m edit Roles kind n e = change_misses role_rules (λ row. refl) (λ row. refl) s m nothing_told (edited_role edit) kind n (role_stays edit) e
kind_misses s m edit Aggregates kind n e = change_misses aggregate_rules (λ row. refl) (λ row. refl) s m nothing_told (edited_aggregate edit) kind n (aggregate_stays edit) e
kind_misses s m edit Prefixes kind n e = change_misses prefix_rules (λ row. refl) (λ row. refl) s m nothing_told (edited_prefix edit) kind n (prefix_stays edit) e
kind_misses s m edit Ranges kind n e = change_misses range_rules (λ row. refl) (λ row. refl) s m (told_of_change edit) (edited_range edit) kind n (range_stays edit) e
kind_misses s m edit Addresses kind n e = change_misses address_rules (λ row. refl) (λ row. refl) s m nothing_told (edited_address edit) kind n (address_stays edit) e

-- the call takes out a role
abbrev is_role_gone : Call → Bool
is_role_gone (Delete kind n) = same_kind kind Roles
is_role_gone call = false

delete_misses : (s : State) (own : Kind) (m : ℕ) (kind : Kind) (n : ℕ) → (same_kind own kind && m == n) ≡ false → same_kind own Roles ≡ false → Misses kind n (delete_plan s own m).update
delete_misses s Vrfs m kind n e r = found_misses vrf_rules (λ row. refl) (λ row. refl) s m (λ old. take_out vrf_rules s m) kind n (λ old f. record { puts = tt; cuts = (e, tt) })
delete_misses s Rirs m kind n e r = found_misses rir_rules (λ row. refl) (λ row. refl) s m (λ old. take_out rir_rules s m) kind n (λ old f. record { puts = tt; cuts = (e, tt) })
delete_misses s Roles m kind n e r = cc
delete_misses s Aggregates m kind n e r = found_misses aggregate_rules (λ row. refl) (λ row. refl) s m (λ old. take_out aggregate_rules s m) kind n (λ old f. record { puts = tt; cuts = (e, tt) })
delete_misses s Prefixes m kind n e r = found_misses prefix_rules (λ row. refl) (λ row. refl) s m (λ old. take_out prefix_rules s m) kind n (λ old f. record { puts = tt; cuts = (e, tt) })
delete_misses s Ranges m kind n e r = found_misses range_rules (λ row. refl) (λ row. refl) s m (λ old. take_out range_rules s m) kind n (λ old f. record { puts = tt; cuts = (e, tt) })
delete_misses s Addresses m kind n e r = found_misses address_rules (λ row. refl) (λ row. refl) s m (λ old. take_out address_rules s m) kind n (λ old f. record { puts = tt; cuts = (e, tt) })

list_misses : (s : State) (filter : Filter) (limit offset : ℕ) (kind : Kind) (n : ℕ) → Misses kind n (list_plan s filter limit offset).update
list_misses s (SomeVrfs name rd) limit offset kind n = nothing_misses kind n
list_misses s filter limit offset kind n = nothing_misses kind n

get_misses : (s : State) (own : Kind) (m : ℕ) (kind : Kind) (n : ℕ) → Misses kind n (plan_of s (Get own m)).update
get_misses s Vrfs m kind n = found_misses vrf_rules (λ row. refl) (λ row. refl) s m _ kind n (λ row f. nothing_misses kind n)
get_misses s Rirs m kind n = found_misses rir_rules (λ row. refl) (λ row. refl) s m _ kind n (λ row f. nothing_misses kind n)
get_misses s Roles m kind n = found_misses role_rules (λ row. refl) (λ row. refl) s m _ kind n (λ row f. nothing_misses kind n)
get_misses s Aggregates m kind n = found_misses aggregate_rules (λ row. refl) (λ row. refl) s m _ kind n (λ row f. nothing_misses kind n)
get_misses s Prefixes m kind n = found_misses prefix_rules (λ row. refl) (λ row. refl) s m _ kind n (λ row f. nothing_misses kind n)
get_misses s Ranges m kind n = found_misses range_rules (λ row. refl) (λ row. refl) s m _ kind n (λ row f. nothing_misses kind n)
get_misses s Addresses m kind n = found_misses address_rules (λ row. refl) (λ row. refl) s m _ kind n (λ row f. nothing_misses kind n)

utilization_misses : (s : State) (own : Kind) (m : ℕ) (kind : Kind) (n : ℕ) → Misses kind n (utilization_plan s own m).update
utilization_misses s Aggregates m kind n = found_misses aggregate_rules (λ row. refl) (λ row. refl) s m _ kind n (λ row f. nothing_misses kind n)
utilization_misses s Prefixes m kind n = found_misses prefix_rules (λ row. refl) (λ row. refl) s m _ kind n (λ row f. nothing_misses kind n)
utilization_misses s Ranges m kind n = found_misses range_rules (λ row. refl) (λ row. refl) s m _ kind n (λ row f. nothing_misses kind n)
utilization_misses s own m kind n = nothing_misses kind n

-- ---- imports

-- what an import has made has ids of the kind that no row had
record IsBeyond (old : State) (kind : Kind) (n : ℕ) (own : Kind) (so : Progress) : Type 0 where
  next : next_of old own ≤ next_of so.state own
  made : AllByRecursion (λ v. (same_kind (view_kind v) kind && view_id v == n) ≡ false) so.made

pub all_behind : (Q : View → Type 0) (xs : List View) (x : View) → AllByRecursion Q xs → Q x → AllByRecursion Q (xs ++ x ∷ [])
all_behind Q [] x h q = (q, tt)
all_behind Q (y ∷ ys) x h q = (h.0, all_behind Q ys x h.1 q)

row_beyond : (old : State) (kind : Kind) (n : ℕ) (so : Progress) (row : ImportRow) → n < next_of old kind → IsBeyond old kind n (kind_of_row row) so → IsBeyond old kind n (kind_of_row row) (with_draft true so (draft_of old row))
row_beyond old kind n so (VrfRow name rd enforce_unique description) l h = record { next = (let g = h.next in omega arith); made = all_behind _ so.made _ h.made (missed old Vrfs kind so.state.vrfs.next n l h.next) }
row_beyond old kind n so (RirRow name slug is_private description) l h = record { next = (let g = h.next in omega arith); made = all_behind _ so.made _ h.made (missed old Rirs kind so.state.rirs.next n l h.next) }
row_beyond old kind n so (RoleRow name slug weight description) l h = record { next = (let g = h.next in omega arith); made = all_behind _ so.made _ h.made (missed old Roles kind so.state.roles.next n l h.next) }
row_beyond old kind n so (AggregateRow block rir description) l h = record { next = (let g = h.next in omega arith); made = all_behind _ so.made _ h.made (missed old Aggregates kind so.state.aggregates.next n l h.next) }
row_beyond old kind n so (PrefixRow block vrf status role is_pool mark_utilized description) l h = record { next = (let g = h.next in omega arith); made = all_behind _ so.made _ h.made (missed old Prefixes kind so.state.prefixes.next n l h.next) }
row_beyond old kind n so (RangeRow start end vrf status role mark_utilized mark_populated description) l h = record { next = (let g = h.next in omega arith); made = all_behind _ so.made _ h.made (missed old Ranges kind so.state.ranges.next n l h.next) }
row_beyond old kind n so (AddressRow host vrf status role dns_name description) l h = record { next = (let g = h.next in omega arith); made = all_behind _ so.made _ h.made (missed old Addresses kind so.state.addresses.next n l h.next) }

more_beyond : (old : State) (kind : Kind) (n : ℕ) (own : Kind) (so : Progress) (row : ImportRow) → n < next_of old kind → kind_of_row row ≡ own → IsBeyond old kind n own so → IsBeyond old kind n own (after_row old own so row)
more_beyond old kind n own so row l e h = go (makes_one old own so.seen (draft_of old row))
  where
    go : (t : Bool) → IsBeyond old kind n own (with_draft t so (draft_of old row))
    go true = subst (λ (k : Kind). IsBeyond old kind n k so → IsBeyond old kind n k (with_draft true so (draft_of old row))) e (row_beyond old kind n so row l) h
    go false = record { next = h.next; made = h.made }

all_beyond : (old : State) (kind : Kind) (n : ℕ) (own : Kind) (so : Progress) (rows : List ImportRow) → n < next_of old kind → AreOfKind own rows → IsBeyond old kind n own so → IsBeyond old kind n own (after_rows old own so rows)
all_beyond old kind n own so [] l q h = h
all_beyond old kind n own so (row ∷ rows) l q h = all_beyond old kind n own (after_row old own so row) rows l q.1 (more_beyond old kind n own so row l q.0 h)

import_misses : (s : State) (own : Kind) (rows : List ImportRow) (kind : Kind) (n : ℕ) → n < next_of s kind → verdict_of (import_plan s own rows) ≡ None → Misses kind n (import_plan s own rows).update
import_misses s own rows kind n l v =
    let few : Option Refusal = too_many ManyRows most_rows (length rows) in
    let verdicts : List (Option Refusal) = row_verdicts s own (begun s) 1 rows in
    let none = none_rest few verdicts (none_left (few ∷ verdicts) (no_log s.spent (items_of rows) ∷ []) v) in
    record { puts = (all_beyond s kind n own (begun s) rows l (of_kind s own (begun s) 1 rows none) (record { next = omega arith; made = tt })).made; cuts = tt }

-- ---- all calls

plan_misses : (s : State) (call : Call) (kind : Kind) (n : ℕ) → n < next_of s kind → touches kind n call ≡ false → is_role_gone call ≡ false → verdict s call ≡ None → Misses kind n (plan_of s call).update
plan_misses s (ListOf own filter limit offset) kind n l t r v = list_misses s filter limit offset kind n
plan_misses s (Get own m) kind n l t r v = get_misses s own m kind n
plan_misses s (Create draft) kind n l t r v = create_misses s draft kind n l
plan_misses s (Change m edit) kind n l t r v = kind_misses s m edit (kind_of_edit edit) kind n t
plan_misses s (Delete own m) kind n l t r v = delete_misses s own m kind n t r
plan_misses s (BlocksOf m limit) kind n l t r v = found_misses prefix_rules (λ row. refl) (λ row. refl) s m _ kind n (λ row f. nothing_misses kind n)
plan_misses s (PrefixAddrs m limit) kind n l t r v = found_misses prefix_rules (λ row. refl) (λ row. refl) s m _ kind n (λ row f. nothing_misses kind n)
plan_misses s (RangeAddrs m limit) kind n l t r v = found_misses range_rules (λ row. refl) (λ row. refl) s m _ kind n (λ row f. nothing_misses kind n)
plan_misses s (ClaimBlocks m form items) kind n l t r v = found_misses prefix_rules (λ row. refl) (λ row. refl) s m (claim_blocks_of s form items) kind n
    (λ row f. claim_misses prefix_rules (λ row. refl) (λ row. refl) s (flat_map (told_of_block s row) items) (length items) form (claimed_prefixes row s.prefixes.next items (fits_of row.block (child_blocks s.prefixes.rows row) (lengths_of items))) kind n l refl
    (prefixes_follow row s.prefixes.next items (fits_of row.block (child_blocks s.prefixes.rows row) (lengths_of items))))
plan_misses s (ClaimPrefixAddrs m form items) kind n l t r v = found_misses prefix_rules (λ row. refl) (λ row. refl) s m (λ row. claim_addresses_of s form items row.vrf row.block.len row.block.family (usable_in s row)) kind n
    (λ row f. claim_misses address_rules (λ row. refl) (λ row. refl) s (flat_map (told_of_address row.block.family) items) (length items) form (claimed_addresses row.vrf row.block.len s.addresses.next items (addressed row.block.family (usable_in s row))) kind n l refl
    (addresses_follow row.vrf row.block.len s.addresses.next items (addressed row.block.family (usable_in s row))))
plan_misses s (ClaimRangeAddrs m form items) kind n l t r v = found_misses range_rules (λ row. refl) (λ row. refl) s m (λ row. claim_addresses_of s form items row.vrf row.ends.len row.ends.start.family (usable_of_range s row)) kind n
    (λ row f. claim_misses address_rules (λ row. refl) (λ row. refl) s (flat_map (told_of_address row.ends.start.family) items) (length items) form (claimed_addresses row.vrf row.ends.len s.addresses.next items (addressed row.ends.start.family (usable_of_range s row))) kind n l refl
    (addresses_follow row.vrf row.ends.len s.addresses.next items (addressed row.ends.start.family (usable_of_range s row))))
plan_misses s (Utilization own m) kind n l t r v = utilization_misses s own m kind n
plan_misses s (Import own rows) kind n l t r v = import_misses s own rows kind n l v
plan_misses s (Export own) kind n l t r v = nothing_misses kind n
plan_misses s Survey kind n l t r v = nothing_misses kind n

-- ---- a role that goes

-- the state without a role
abbrev roleless : State → ℕ → State
roleless s m = record s {
  roles = cleared_of role_id s.roles m;
  prefixes = mapped (prefix_without_role m) s.prefixes;
  ranges = mapped (range_without_role m) s.ranges;
  spent = s.spent + 1;
}

role_gone : (s : State) (m : ℕ) → IsListed s → ((plain_step s (Delete Roles m)).0 ≡ s) ⊎ ((plain_step s (Delete Roles m)).0 ≡ roleless s m)
role_gone s m h = go (row_at role_id s.roles.rows m)
  where
    gone : updated s (take_out role_rules s m).update ≡ roleless s m
    gone = ap (λ (t : State). with_spent (without_row t (Roles, m)) 1) (forgotten_of s m h.prefixes.ordered h.ranges.ordered)

    done : (v : Option Refusal) → verdict_of (take_out role_rules s m) ≡ v → ((outcome s (take_out role_rules s m)).0 ≡ s) ⊎ ((outcome s (take_out role_rules s m)).0 ≡ roleless s m)
    done (Some refusal) e = inl (rw (e, outcome) refl)
    done None e = inr (rw (e, outcome) gone)

    go : (found : Option _) → ((outcome s (with_found role_rules m (λ old. take_out role_rules s m) found)).0 ≡ s) ⊎ ((outcome s (with_found role_rules m (λ old. take_out role_rules s m) found)).0 ≡ roleless s m)
    go None = inl refl
    go (Some old) = done (verdict_of (take_out role_rules s m)) refl

-- a call takes out a role or does not
role_or_not : (call : Call) → (is_role_gone call ≡ false) ⊎ ((m : ℕ) × (call ≡ Delete Roles m))
role_or_not (Delete Vrfs m) = inl refl
role_or_not (Delete Rirs m) = inl refl
role_or_not (Delete Roles m) = inr (m, refl)
role_or_not (Delete Aggregates m) = inl refl
role_or_not (Delete Prefixes m) = inl refl
role_or_not (Delete Ranges m) = inl refl
role_or_not (Delete Addresses m) = inl refl
role_or_not (Get kind n) = inl refl
role_or_not call = inl refl

module _ {T : Type 0} (rules : KindRules T) (w : Withstands rules) (below : (s : State) → IsListed s → AllBelow rules.id (next_of s rules.kind) (rules.row_list s).rows) where
  -- over a call that takes out no role
  plain_stays : (s : State) (call : Call) (x : T) → IsListed s → Contains (rules.row_list s).rows x → touches rules.kind (rules.id x) call ≡ false → is_role_gone call ≡ false
      → Contains (rules.row_list (plain_step s call).0).rows x
  plain_stays s call x h c t r =
      outcome_stays rules w s (plan_of s call) x c (plan_misses s call rules.kind (rules.id x) (id_under rules.id (next_of s rules.kind) (rules.row_list s).rows x (below s h) c) t r)

  -- over each, where one that takes out a role leaves the row or forgets the role
  all_stay : (forget : T → T) (role_of : T → Option ℕ)
      → ((s : State) (m : ℕ) (x : T) → Contains (rules.row_list s).rows x → touches rules.kind (rules.id x) (Delete Roles m) ≡ false
      → Contains (rules.row_list (roleless s m)).rows x ⊎ ((is_named m (role_of x) ≡ true) × Contains (rules.row_list (roleless s m)).rows (forget x)))
      → RowsWithRolesStay rules role_of forget
  all_stay forget role_of after s call x h c t = go (role_or_not call)
    where
      gone : (m : ℕ) → touches rules.kind (rules.id x) (Delete Roles m) ≡ false
          → Contains (rules.row_list (plain_step s (Delete Roles m)).0).rows x ⊎ ((takes_role (role_of x) (Delete Roles m) ≡ true) × Contains (rules.row_list (plain_step s (Delete Roles m)).0).rows (forget x))
      gone m t = elim (role_gone s m h) [
        | inl e ↦ inl (subst (λ (u : State). Contains (rules.row_list u).rows x) (sym e) c)
        | inr e ↦ elim (after s m x c t) [
          | inl k ↦ inl (subst (λ (u : State). Contains (rules.row_list u).rows x) (sym e) k)
          | inr k ↦ inr (k.0, subst (λ (u : State). Contains (rules.row_list u).rows (forget x)) (sym e) k.1)
        ]
      ]

      go : (is_role_gone call ≡ false) ⊎ ((m : ℕ) × (call ≡ Delete Roles m)) → Contains (rules.row_list (plain_step s call).0).rows x ⊎ ((takes_role (role_of x) call ≡ true) × Contains (rules.row_list (plain_step s call).0).rows (forget x))
      go (inl r) = inl (plain_stays s call x h c t r)
      go (inr r) =
          subst (λ (k : Call). Contains (rules.row_list (plain_step s k).0).rows x ⊎ ((takes_role (role_of x) k ≡ true) × Contains (rules.row_list (plain_step s k).0).rows (forget x))) (sym r.1)
          (gone r.0 (subst (λ (k : Call). touches rules.kind (rules.id x) k ≡ false) r.1 t))

  -- a kind without roles
  rows_of_kind : ((s : State) (m : ℕ) (x : T) → Contains (rules.row_list s).rows x → touches rules.kind (rules.id x) (Delete Roles m) ≡ false → Contains (rules.row_list (roleless s m)).rows x)
      → RowsOfKindStay rules
  rows_of_kind after s call x h c t = elim (all_stay (λ y. y) (λ y. None) (λ s m x c t. inl (after s m x c t)) s call x h c t) [
    | inl k ↦ k
    | inr k ↦ k.1
  ]

prefix_after : (s : State) (m : ℕ) (x : Prefix) → Contains s.prefixes.rows x → touches Prefixes x.id (Delete Roles m) ≡ false
    → Contains (roleless s m).prefixes.rows x ⊎ ((is_named m x.role ≡ true) × Contains (roleless s m).prefixes.rows (record x { role = None }))
prefix_after s m x c t = go (is_named m x.role) refl (contained_map prefix_id (prefix_without_role m) s.prefixes.rows x c)
  where
    go : (b : Bool) → is_named m x.role ≡ b → Contains (roleless s m).prefixes.rows (record x { role = if is_named m x.role then None else x.role })
        → Contains (roleless s m).prefixes.rows x ⊎ ((is_named m x.role ≡ true) × Contains (roleless s m).prefixes.rows (record x { role = None }))
    go true b k = inr (b, subst (λ (t : Bool). Contains (roleless s m).prefixes.rows (record x { role = if t then None else x.role })) b k)
    go false b k = inl (subst (λ (t : Bool). Contains (roleless s m).prefixes.rows (record x { role = if t then None else x.role })) b k)

range_after : (s : State) (m : ℕ) (x : IpRange) → Contains s.ranges.rows x → touches Ranges x.id (Delete Roles m) ≡ false
    → Contains (roleless s m).ranges.rows x ⊎ ((is_named m x.role ≡ true) × Contains (roleless s m).ranges.rows (record x { role = None }))
range_after s m x c t = go (is_named m x.role) refl (contained_map range_id (range_without_role m) s.ranges.rows x c)
  where
    go : (b : Bool) → is_named m x.role ≡ b → Contains (roleless s m).ranges.rows (record x { role = if is_named m x.role then None else x.role })
        → Contains (roleless s m).ranges.rows x ⊎ ((is_named m x.role ≡ true) × Contains (roleless s m).ranges.rows (record x { role = None }))
    go true b k = inr (b, subst (λ (t : Bool). Contains (roleless s m).ranges.rows (record x { role = if t then None else x.role })) b k)
    go false b k = inl (subst (λ (t : Bool). Contains (roleless s m).ranges.rows (record x { role = if t then None else x.role })) b k)

pub rows_stay : RowsStay
rows_stay = record {
  vrfs = rows_of_kind vrf_rules vrfs_withstand (λ s h. h.vrfs.below) (λ s m x c t. c);
  rirs = rows_of_kind rir_rules rirs_withstand (λ s h. h.rirs.below) (λ s m x c t. c);
  roles = rows_of_kind role_rules roles_withstand (λ s h. h.roles.below) (λ s m x c t. without_stays role_id s.roles.rows m x c t);
  aggregates = rows_of_kind aggregate_rules aggregates_withstand (λ s h. h.aggregates.below) (λ s m x c t. c);
  prefixes = all_stay prefix_rules prefixes_withstand (λ s h. h.prefixes.below) (λ row. record row { role = None }) (λ row. row.role) prefix_after;
  ranges = all_stay range_rules ranges_withstand (λ s h. h.ranges.below) (λ row. record row { role = None }) (λ row. row.role) range_after;
  addresses = rows_of_kind address_rules addresses_withstand (λ s h. h.addresses.below) (λ s m x c t. c);
}
