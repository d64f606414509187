-- The rows of each kind stand in the order of their ids, below the next one, and within their limit, whatever was called: no bounds of
-- calls are needed for it.
use Rattle.std.proofs.Common.{◌≡◌, ℕ, ◌+◌, ◌≤◌, Bool, true, false, List, [], ◌∷◌, ◌++◌, length, map, fold, Option, Some, None, IsSome, refl, ap, sym, ◌∙◌, subst, arith}
use Rattle.std.specs.List.{flat_map}
use Rattle.std.proofs.lemmas.List.{length-append}
use Rattle.block_space.specs.Usable.{addressed}
use Rattle.block_space.specs.Fit.{fits_of}
use Rattle.ipam_data.specs.declared.kinds.Kind.{Kind}
use Rattle.ipam_data.specs.declared.kinds.Kind.TheVariants.{Vrfs, Rirs, Roles, Aggregates, Prefixes, Ranges, Addresses}
use Rattle.ipam_data.specs.declared.calls.Call.{Call}
use Rattle.ipam_data.specs.declared.calls.Call.TheVariants.{List as ListOf, Get, Create, Change, Delete, Blocks as BlocksOf, PrefixAddrs, RangeAddrs, ClaimBlocks, ClaimPrefixAddrs, ClaimRangeAddrs, Utilization, Import, Export, Survey}
use Rattle.ipam_data.specs.declared.calls.Answered.{Answered}
use Rattle.ipam_data.specs.declared.calls.Edit.{Edit}
use Rattle.ipam_data.specs.declared.calls.Filter.{Filter}
use Rattle.ipam_data.specs.declared.calls.Filter.TheVariants.{Vrfs as SomeVrfs}
use Rattle.ipam_data.specs.declared.imports.ImportRow.{ImportRow}
use Rattle.ipam_data.specs.declared.replies.Refusal.{Refusal}
use Rattle.ipam_data.specs.declared.replies.Rule.{Rule}
use Rattle.ipam_data.specs.declared.replies.View.{View}
use Rattle.ipam_data.specs.declared.replies.View.TheVariants.{Vrf as VrfView, Rir as RirView, Role as RoleView, Aggregate as AggregateView, Prefix as PrefixView, IpRange as RangeView, IpAddress as AddressView}
use Rattle.ipam_data.specs.declared.replies.Which.TheVariants.{Rows as ManyRows, Claims}
use Rattle.ipam_data.specs.Rows.{prefix_id, range_id, most_prefixes, most_ranges}
use Rattle.ipam_data.specs.RowList.{RowList, IsRowList, row_at, with_row, appended, replaced, cleared_of, mapped, last_next}
use Rattle.ipam_data.specs.Checks.{first, breaks, too_many, no_log}
use Rattle.ipam_data.specs.State.{State, Plan, verdict_of, no_update}
use Rattle.ipam_data.specs.Plans.{KindRules, add_row, broken, no_seats, no_place, creation, create, change, replace, take_out, with_found, with_row_at, nothing_told}
use Rattle.ipam_data.specs.ByKind.{by_view}
use Rattle.ipam_data.specs.Updates.{with_view, without_row, with_next, with_spent, updated, outcome}
use Rattle.ipam_data.specs.Vrfs.{vrf_rules}
use Rattle.ipam_data.specs.Rirs.{rir_rules}
use Rattle.ipam_data.specs.Roles.{role_rules}
use Rattle.ipam_data.specs.Aggregates.{aggregate_rules}
use Rattle.ipam_data.specs.Prefixes.{prefix_rules, prefix_without_role}
use Rattle.ipam_data.specs.Ranges.{range_rules, range_without_role}
use Rattle.ipam_data.specs.Addresses.{address_rules}
use Rattle.ipam_data.specs.Fields.{drafted, next_for, told_of_draft, kind_of_edit, edited_vrf, edited_rir, edited_role, edited_aggregate, edited_prefix, edited_range, edited_address, told_of_change}
use Rattle.ipam_data.specs.Claims.{claim, claimed_prefixes, claimed_addresses, child_blocks, lengths_of, told_of_block, told_of_address, no_space, most_items, claim_blocks_of, claim_addresses_of, usable_in, usable_of_range, utilization_plan}
use Rattle.ipam_data.specs.Imports.{most_rows, name_rules, value_rules, kind_rule, draft_of, Progress, begun, makes_one, with_draft, after_row, after_rows, at_row, create_checks, row_checks, row_verdict, row_verdicts, items_of, import_plan}
use Rattle.ipam_data.specs.Steps.{plan_of, plain_step, change_of_kind, delete_plan, list_plan}
use Rattle.ipam_data.specs.Lawful.{IsLawful}
use Rattle.claim_laws.specs.Rows.{IsListed, StepsKeepListed}
use Rattle.ipam_data.proofs.RowLists.{row_list-appended, with_row_above}
use Rattle.ipam_data.proofs.Kept.{found_there, row_list-replaced, row_list-cleared, row_list-mapped}
use Rattle.ipam_data.proofs.Verdicts.{none_head, none_rest, none_left, none_right, room_from}
use Rattle.ipam_data.proofs.Ties.{IsTied, created, add_all, all_created, vrfs_tied, rirs_tied, roles_tied, aggregates_tied, prefixes_tied, ranges_tied, addresses_tied}
use Rattle.ipam_data.proofs.Sound.{nothing_done, place_from}
use Rattle.ipam_data.proofs.ManyCan.{Follow, addresses_few}
use Rattle.ipam_data.proofs.ClaimLaws.{enough}
use Rattle.ipam_data.proofs.ImportLaws.{of_kind, import_leads, none_mapped}
use Rattle.ipam_data.proofs.DraftLaws.{drafted_next, vrf_stays, rir_stays, role_stays, aggregate_stays, prefix_stays, range_stays, address_stays}
use Rattle.claim_laws.proofs.Lemmas.{prefixes_follow, prefixes_few, addresses_follow, forgotten_of}

-- what is known of the row list of a kind
record IsOne {T : Type 0} (rules : KindRules T) : Type 0 where
  tied : IsTied rules
  of : (s : State) → IsListed s → IsRowList rules.id rules.most (rules.row_list s)
  with_list : (s : State) (row_list : RowList T) → IsListed s → IsRowList rules.id rules.most row_list → IsListed (rules.with_row_list s row_list)

vrfs_one : IsOne vrf_rules
vrfs_one = record { tied = vrfs_tied; of = λ s h. h.vrfs; with_list = λ s row_list h k. record { vrfs = k; rirs = h.rirs; roles = h.roles; aggregates = h.aggregates; prefixes = h.prefixes; ranges = h.ranges; addresses = h.addresses } }

rirs_one : IsOne rir_rules
rirs_one = record { tied = rirs_tied; of = λ s h. h.rirs; with_list = λ s row_list h k. record { vrfs = h.vrfs; rirs = k; roles = h.roles; aggregates = h.aggregates; prefixes = h.prefixes; ranges = h.ranges; addresses = h.addresses } }

roles_one : IsOne role_rules
roles_one = record { tied = roles_tied; of = λ s h. h.roles; with_list = λ s row_list h k. record { vrfs = h.vrfs; rirs = h.rirs; roles = k; aggregates = h.aggregates; prefixes = h.prefixes; ranges = h.ranges; addresses = h.addresses } }

aggregates_one : IsOne aggregate_rules
aggregates_one = record { tied = aggregates_tied; of = λ s h. h.aggregates; with_list = λ s row_list h k. record { vrfs = h.vrfs; rirs = h.rirs; roles = h.roles; aggregates = k; prefixes = h.prefixes; ranges = h.ranges; addresses = h.addresses } }

prefixes_one : IsOne prefix_rules
prefixes_one = record { tied = prefixes_tied; of = λ s h. h.prefixes; with_list = λ s row_list h k. record { vrfs = h.vrfs; rirs = h.rirs; roles = h.roles; aggregates = h.aggregates; prefixes = k; ranges = h.ranges; addresses = h.addresses } }

ranges_one : IsOne range_rules
ranges_one = record { tied = ranges_tied; of = λ s h. h.ranges; with_list = λ s row_list h k. record { vrfs = h.vrfs; rirs = h.rirs; roles = h.roles; aggregates = h.aggregates; prefixes = h.prefixes; ranges = k; addresses = h.addresses } }

addresses_one : IsOne address_rules
addresses_one = record { tied = addresses_tied; of = λ s h. h.addresses; with_list = λ s row_list h k. record { vrfs = h.vrfs; rirs = h.rirs; roles = h.roles; aggregates = h.aggregates; prefixes = h.prefixes; ranges = h.ranges; addresses = k } }

spends : (s : State) (n : ℕ) → IsListed s → IsListed (with_spent s n)
spends s n h = record { vrfs = h.vrfs; rirs = h.rirs; roles = h.roles; aggregates = h.aggregates; prefixes = h.prefixes; ranges = h.ranges; addresses = h.addresses }

outcome_listed : (s : State) (plan : Plan) → IsListed s → (verdict_of plan ≡ None → IsListed (updated s plan.update)) → IsListed (outcome s plan).0
outcome_listed s plan h k = go (verdict_of plan) refl
  where
    go : (v : Option Refusal) → verdict_of plan ≡ v → IsListed (outcome s plan).0
    go (Some refusal) e = rw (e, outcome) h
    go None e = rw (e, outcome) (k e)

reading_listed : (s : State) → IsListed s → IsListed (updated s no_update)
reading_listed s h = subst IsListed (sym (nothing_done s)) h

module _ {T : Type 0} (rules : KindRules T) (one : IsOne rules) where
  add_listed : (s : State) (row : T) → IsListed s → rules.id row ≡ (rules.row_list s).next → length (rules.row_list s).rows + 1 ≤ rules.most → (rules.row_list s).next + 1 ≤ last_next → IsListed (add_row rules s row)
  add_listed s row h e few ids = one.with_list s (appended rules.id (rules.row_list s) row) h (row_list-appended rules.id rules.most (rules.row_list s) row (one.of s h) e few ids)

  creation_listed : (s : State) (told : List (Option Rule)) (row : T) → IsListed s → rules.id row ≡ (rules.row_list s).next → first (creation rules s told row) ≡ None → IsListed (add_row rules s row)
  creation_listed s told row h e v =
      let room = room_from rules.kind rules.most (length (rules.row_list s).rows) (rules.row_list s).next 1 (none_right (broken rules s None told row) (no_seats rules s 1) v) in
      add_listed s row h e room.number room.ids

  create_listed : (s : State) (told : List (Option Rule)) (row : T) → IsListed s → rules.id row ≡ (rules.row_list s).next → verdict_of (create rules s told row) ≡ None → IsListed (updated s (create rules s told row).update)
  create_listed s told row h e v =
      let l = creation_listed s told row h e (none_left (creation rules s told row) (no_log s.spent 1 ∷ []) v) in
      subst (λ (t : State). IsListed (with_spent t 1)) (sym (created rules one.tied s row)) (spends (add_row rules s row) 1 l)

  found_listed : (s : State) (n : ℕ) (plan : T → Plan) → IsListed s → ((row : T) → row_at rules.id (rules.row_list s).rows n ≡ Some row → verdict_of (plan row) ≡ None → IsListed (updated s (plan row).update))
      → IsListed (outcome s (with_row_at rules s n plan)).0
  found_listed s n plan h k = go (row_at rules.id (rules.row_list s).rows n) refl
    where
      go : (found : Option T) → row_at rules.id (rules.row_list s).rows n ≡ found → IsListed (outcome s (with_found rules n plan found)).0
      go None e = h
      go (Some row) e = outcome_listed s (plan row) h (k row e)

  change_listed : (s : State) (n : ℕ) (told : T → List (Option Rule)) (edit : T → T) → IsListed s → ((old : T) → rules.id (edit old) ≡ rules.id old) → IsListed (outcome s (change rules s n told edit)).0
  change_listed s n told edit h same = found_listed s n (λ old. replace rules s old (told old) (edit old)) h (λ old e v.
      let own : rules.id (edit old) ≡ n = same old ∙ (found_there rules.id (rules.row_list s).rows n old e).1 in
      let there : IsSome (row_at rules.id (rules.row_list s).rows (rules.id (edit old))) = rw (own, e) refl in
      let after = replaced rules.id (rules.row_list s) (edit old) in
      let l = one.with_list s after h (row_list-replaced rules.id rules.most (rules.row_list s) (edit old) (one.of s h) there) in
      subst (λ (t : State). IsListed (with_spent t 1)) (sym (one.tied.put s (edit old))) (spends (rules.with_row_list s after) 1 l))

  cut_listed : (s : State) (n : ℕ) → IsListed s → IsListed (with_spent (without_row s (rules.kind, n)) 1)
  cut_listed s n h =
      let l = one.with_list s (cleared_of rules.id (rules.row_list s) n) h (row_list-cleared rules.id rules.most n (rules.row_list s) (one.of s h)) in
      spends (without_row s (rules.kind, n)) 1 (subst IsListed (sym (one.tied.cut s n)) l)

  all_listed : (s : State) (rows : List T) → IsListed s → Follow rules.id (rules.row_list s).next rows → length (rules.row_list s).rows + length rows ≤ rules.most → (rules.row_list s).next + length rows ≤ last_next
      → IsListed (add_all rules s rows)
  all_listed s [] h f few ids = h
  all_listed s (row ∷ rows) h f few ids =
      let kept = one.of s h in
      let given = one.tied.given s (appended rules.id (rules.row_list s) row) in
      let next : (rules.row_list (add_row rules s row)).next ≡ (rules.row_list s).next + 1 = ap (λ (l : RowList T). l.next) given in
      let own : IsRowList rules.id rules.most (rules.row_list s) = kept in
      let pushed : with_row rules.id (rules.row_list s).rows row ≡ (rules.row_list s).rows ++ row ∷ [] = with_row_above rules.id (rules.row_list s).rows row (rw f.0 kept.below) in
      let longer : length (rules.row_list (add_row rules s row)).rows ≡ length (rules.row_list s).rows + 1 =
      ap (λ (l : RowList T). length l.rows) given ∙ ap length pushed ∙ length-append (rules.row_list s).rows (row ∷ []) in
      all_listed (add_row rules s row) rows (add_listed s row h f.0 (omega arith) (omega arith)) (subst (λ (m : ℕ). Follow rules.id m rows) (sym next) f.1) (omega arith) (omega arith)

  claim_listed : (s : State) (told : List (Option Refusal)) (wanted : ℕ) (form : Answered) (rows : List T) → IsListed s → Follow rules.id (rules.row_list s).next rows → length rows ≤ wanted
      → verdict_of (claim rules s told wanted form rows) ≡ None → IsListed (updated s (claim rules s told wanted form rows).update)
  claim_listed s told wanted form rows h f at_most v =
      let few : Option Refusal = too_many Claims most_items wanted in
      let space : Option Refusal = no_space wanted (length rows) in
      let place : List (Option Refusal) = no_place rules s wanted in
      let back = none_right (few ∷ told) (space ∷ place) v in
      let got = enough wanted (length rows) (none_head space place back) in
      let p = place_from rules s wanted (none_rest space place back) in
      let number = p.room.number in
      let ids = p.room.ids in
      let many : wanted ≡ length rows = omega arith in
      let l = all_listed s rows h f (omega arith) (omega arith) in
      let came : with_next (fold with_view s (map rules.view rows)) (rules.kind, (rules.row_list s).next + wanted) ≡ add_all rules s rows =
      ap (λ (n : ℕ). with_next (fold with_view s (map rules.view rows)) (rules.kind, (rules.row_list s).next + n)) many ∙ all_created rules one.tied s rows in
      subst (λ (t : State). IsListed (with_spent t wanted)) (sym came) (spends (add_all rules s rows) wanted l)

-- ---- calls

view_listed : (s : State) (told : List (Option Rule)) (view : View) → IsListed s → by_view view (λ T rules row. rules.id row) ≡ by_view view (λ T rules row. (rules.row_list s).next)
    → IsListed (outcome s (by_view view (λ T rules row. create rules s told row))).0
view_listed s told (VrfView row) h e = outcome_listed s (create vrf_rules s told row) h (create_listed vrf_rules vrfs_one s told row h e)
view_listed s told (RirView row) h e = outcome_listed s (create rir_rules s told row) h (create_listed rir_rules rirs_one s told row h e)
view_listed s told (RoleView row) h e = outcome_listed s (create role_rules s told row) h (create_listed role_rules roles_one s told row h e)
view_listed s told (AggregateView row) h e = outcome_listed s (create aggregate_rules s told row) h (create_listed aggregate_rules aggregates_one s told row h e)
view_listed s told (PrefixView row depth children) h e = outcome_listed s (create prefix_rules s told row) h (create_listed prefix_rules prefixes_one s told row h e)
view_listed s told (RangeView row) h e = outcome_listed s (create range_rules s told row) h (create_listed range_rules ranges_one s told row h e)
view_listed s told (AddressView row) h e = outcome_listed s (create address_rules s told row) h (create_listed address_rules addresses_one s told row h e)

record_listed : (s : State) (told : List (Option Rule)) (view : View) → IsListed s → by_view view (λ T rules row. rules.id row) ≡ by_view view (λ T rules row. (rules.row_list s).next)
    → first (by_view view (λ T rules row. creation rules s told row)) ≡ None → IsListed (by_view view (λ T rules row. add_row rules s row))
record_listed s told (VrfView row) h e v = creation_listed vrf_rules vrfs_one s told row h e v
record_listed s told (RirView row) h e v = creation_listed rir_rules rirs_one s told row h e v
record_listed s told (RoleView row) h e v = creation_listed role_rules roles_one s told row h e v
record_listed s told (AggregateView row) h e v = creation_listed aggregate_rules aggregates_one s told row h e v
record_listed s told (PrefixView row depth children) h e v = creation_listed prefix_rules prefixes_one s told row h e v
record_listed s told (RangeView row) h e v = creation_listed range_rules ranges_one s told row h e v
record_listed s told (AddressView row) h e v = creation_listed address_rules addresses_one s told row h e v

kind_listed : (s : State) (m : ℕ) (edit : Edit) (own : Kind) → IsListed s → IsListed (outcome s (change_of_kind s m edit own)).0
kind_listed s m edit Vrfs h = change_listed vrf_rules vrfs_one s m nothing_told (edited_vrf edit) h (vrf_stays edit)
kind_listed s m edit Rirs h = change_listed rir_rules rirs_one s m nothing_told (edited_rir edit) h (rir_stays edit)
kind_listed s m edit Roles h = change_listed role_rules roles_one s m nothing_told (edited_role edit) h (role_stays edit)
kind_listed s m edit Aggregates h = change_listed aggregate_rules aggregates_one s m nothing_told (edited_aggregate edit) h (aggregate_stays edit)
kind_listed s m edit Prefixes h = change_listed prefix_rules prefixes_one s m nothing_told (edited_prefix edit) h (prefix_stays edit)
kind_listed s m edit Ranges h = change_listed range_rules ranges_one s m (told_of_change edit) (edited_range edit) h (range_stays edit)
kind_listed s m edit Addresses h = change_listed address_rules addresses_one s m nothing_told (edited_address edit) h (address_stays edit)

role_listed : (s : State) (m : ℕ) → IsListed s → IsListed (updated s (take_out role_rules s m).update)
role_listed s m h =
    let forgot = forgotten_of s m h.prefixes.ordered h.ranges.ordered in
    let some : IsListed (record s { prefixes = mapped (prefix_without_role m) s.prefixes; ranges = mapped (range_without_role m) s.ranges }) = record {
      vrfs = h.vrfs;
      rirs = h.rirs;
      roles = h.roles;
      aggregates = h.aggregates;
      prefixes = row_list-mapped prefix_id most_prefixes (prefix_without_role m) s.prefixes (λ x. refl) h.prefixes;
      ranges = row_list-mapped range_id most_ranges (range_without_role m) s.ranges (λ x. refl) h.ranges;
      addresses = h.addresses;
    } in
    subst (λ (t : State). IsListed (with_spent (without_row t (Roles, m)) 1)) (sym forgot) (cut_listed role_rules roles_one (record s { prefixes = mapped (prefix_without_role m) s.prefixes; ranges = mapped (range_without_role m) s.ranges }) m some)

delete_listed : (s : State) (own : Kind) (m : ℕ) → IsListed s → IsListed (outcome s (delete_plan s own m)).0
delete_listed s Vrfs m h = found_listed vrf_rules vrfs_one s m (λ old. take_out vrf_rules s m) h (λ old e v. cut_listed vrf_rules vrfs_one s m h)
delete_listed s Rirs m h = found_listed rir_rules rirs_one s m (λ old. take_out rir_rules s m) h (λ old e v. cut_listed rir_rules rirs_one s m h)
delete_listed s Roles m h = found_listed role_rules roles_one s m (λ old. take_out role_rules s m) h (λ old e v. role_listed s m h)
delete_listed s Aggregates m h = found_listed aggregate_rules aggregates_one s m (λ old. take_out aggregate_rules s m) h (λ old e v. cut_listed aggregate_rules aggregates_one s m h)
delete_listed s Prefixes m h = found_listed prefix_rules prefixes_one s m (λ old. take_out prefix_rules s m) h (λ old e v. cut_listed prefix_rules prefixes_one s m h)
delete_listed s Ranges m h = found_listed range_rules ranges_one s m (λ old. take_out range_rules s m) h (λ old e v. cut_listed range_rules ranges_one s m h)
delete_listed s Addresses m h = found_listed address_rules addresses_one s m (λ old. take_out address_rules s m) h (λ old e v. cut_listed address_rules addresses_one s m h)

list_listed : (s : State) (filter : Filter) (limit offset : ℕ) → IsListed s → IsListed (outcome s (list_plan s filter limit offset)).0
list_listed s (SomeVrfs name rd) limit offset h = reading_listed s h
list_listed s filter limit offset h = reading_listed s h

get_listed : (s : State) (own : Kind) (m : ℕ) → IsListed s → IsListed (outcome s (plan_of s (Get own m))).0
get_listed s Vrfs m h = found_listed vrf_rules vrfs_one s m _ h (λ row e v. reading_listed s h)
get_listed s Rirs m h = found_listed rir_rules rirs_one s m _ h (λ row e v. reading_listed s h)
get_listed s Roles m h = found_listed role_rules roles_one s m _ h (λ row e v. reading_listed s h)
get_listed s Aggregates m h = found_listed aggregate_rules aggregates_one s m _ h (λ row e v. reading_listed s h)
get_listed s Prefixes m h = found_listed prefix_rules prefixes_one s m _ h (λ row e v. reading_listed s h)
get_listed s Ranges m h = found_listed range_rules ranges_one s m _ h (λ row e v. reading_listed s h)
get_listed s Addresses m h = found_listed address_rules addresses_one s m _ h (λ row e v. reading_listed s h)

utilization_listed : (s : State) (own : Kind) (m : ℕ) → IsListed s → IsListed (outcome s (utilization_plan s own m)).0
utilization_listed s Aggregates m h = found_listed aggregate_rules aggregates_one s m _ h (λ row e v. reading_listed s h)
utilization_listed s Prefixes m h = found_listed prefix_rules prefixes_one s m _ h (λ row e v. reading_listed s h)
utilization_listed s Ranges m h = found_listed range_rules ranges_one s m _ h (λ row e v. reading_listed s h)
utilization_listed s own m h = h

-- ---- imports

rows_listed : (old : State) (kind : Kind) (so : Progress) (n : ℕ) (rows : List ImportRow) → IsListed so.state → first (row_verdicts old kind so n rows) ≡ None → IsListed (after_rows old kind so rows).state
rows_listed old kind so n [] h v = h
rows_listed old kind so n (row ∷ rows) h v =
    let d = draft_of old row in
    let rest : List (Option Refusal) = row_verdicts old kind (after_row old kind so row) (n + 1) rows in
    let values : List (Option Refusal) = map breaks (value_rules row) in
    let creates : List (Option Refusal) = create_checks (makes_one old kind so.seen d) so.state d in
    let names : List (Option Refusal) = map breaks (name_rules old row) in
    let one = none_mapped (at_row n) (first (row_checks old kind so row)) (none_head (row_verdict old kind so n row) rest v) in
    let checks = none_right values creates (none_right names (values ++ creates) (none_rest (kind_rule kind row) (names ++ (values ++ creates)) one)) in
    rows_listed old kind (after_row old kind so row) (n + 1) rows (go (makes_one old kind so.seen d) checks) (none_rest (row_verdict old kind so n row) rest v)
  where
    go : (t : Bool) → first (create_checks t so.state (draft_of old row)) ≡ None → IsListed (with_draft t so (draft_of old row)).state
    go true e = record_listed so.state (told_of_draft (draft_of old row)) (drafted (next_for so.state (draft_of old row)) (draft_of old row)) h (drafted_next so.state (draft_of old row)) e
    go false e = h

import_listed : (s : State) (kind : Kind) (rows : List ImportRow) → IsListed s → IsListed (outcome s (import_plan s kind rows)).0
import_listed s kind rows h = outcome_listed s (import_plan s kind rows) h after
  where
    after : verdict_of (import_plan s kind rows) ≡ None → IsListed (updated s (import_plan s kind rows).update)
    after v =
        let few : Option Refusal = too_many ManyRows most_rows (length rows) in
        let verdicts : List (Option Refusal) = row_verdicts s kind (begun s) 1 rows in
        let log : List (Option Refusal) = no_log s.spent (items_of rows) ∷ [] in
        let done = (after_rows s kind (begun s) rows).state in
        let none = none_rest few verdicts (none_left (few ∷ verdicts) log v) in
        subst IsListed (sym (import_leads s kind rows (of_kind s kind (begun s) 1 rows none))) (spends done (items_of rows) (rows_listed s kind (begun s) 1 rows h none))

-- ---- all calls

pub step_listed : (s : State) (call : Call) → IsListed s → IsListed (plain_step s call).0
step_listed s (ListOf own filter limit offset) h = list_listed s filter limit offset h
step_listed s (Get own m) h = get_listed s own m h
step_listed s (Create draft) h = view_listed s (told_of_draft draft) (drafted (next_for s draft) draft) h (drafted_next s draft)
step_listed s (Change m edit) h = kind_listed s m edit (kind_of_edit edit) h
step_listed s (Delete own m) h = delete_listed s own m h
step_listed s (BlocksOf m limit) h = found_listed prefix_rules prefixes_one s m _ h (λ row e v. reading_listed s h)
step_listed s (PrefixAddrs m limit) h = found_listed prefix_rules prefixes_one s m _ h (λ row e v. reading_listed s h)
step_listed s (RangeAddrs m limit) h = found_listed range_rules ranges_one s m _ h (λ row e v. reading_listed s h)
step_listed s (ClaimBlocks m form items) h = found_listed prefix_rules prefixes_one s m (claim_blocks_of s form items) h (λ row e v.
    claim_listed prefix_rules prefixes_one s (flat_map (told_of_block s row) items) (length items) form (claimed_prefixes row s.prefixes.next items (fits_of row.block (child_blocks s.prefixes.rows row) (lengths_of items))) h
    (prefixes_follow row s.prefixes.next items (fits_of row.block (child_blocks s.prefixes.rows row) (lengths_of items)))
    (prefixes_few row s.prefixes.next items (fits_of row.block (child_blocks s.prefixes.rows row) (lengths_of items))) v)
step_listed s (ClaimPrefixAddrs m form items) h = found_listed prefix_rules prefixes_one s m (λ row. claim_addresses_of s form items row.vrf row.block.len row.block.family (usable_in s row)) h (λ row e v.
    claim_listed address_rules addresses_one s (flat_map (told_of_address row.block.family) items) (length items) form (claimed_addresses row.vrf row.block.len s.addresses.next items (addressed row.block.family (usable_in s row))) h
    (addresses_follow row.vrf row.block.len s.addresses.next items (addressed row.block.family (usable_in s row)))
    (addresses_few row.vrf row.block.len s.addresses.next items (addressed row.block.family (usable_in s row))) v)
step_listed s (ClaimRangeAddrs m form items) h = found_listed range_rules ranges_one s m (λ row. claim_addresses_of s form items row.vrf row.ends.len row.ends.start.family (usable_of_range s row)) h (λ row e v.
    claim_listed address_rules addresses_one s (flat_map (told_of_address row.ends.start.family) items) (length items) form (claimed_addresses row.vrf row.ends.len s.addresses.next items (addressed row.ends.start.family (usable_of_range s row))) h
    (addresses_follow row.vrf row.ends.len s.addresses.next items (addressed row.ends.start.family (usable_of_range s row)))
    (addresses_few row.vrf row.ends.len s.addresses.next items (addressed row.ends.start.family (usable_of_range s row))) v)
step_listed s (Utilization own m) h = utilization_listed s own m h
step_listed s (Import own rows) h = import_listed s own rows h
step_listed s (Export own) h = reading_listed s h
step_listed s Survey h = reading_listed s h

pub lawful_listed : (s : State) → IsLawful s → IsListed s
lawful_listed s h = record { vrfs = h.vrfs.row_list; rirs = h.rirs.row_list; roles = h.roles.row_list; aggregates = h.aggregates.row_list; prefixes = h.prefixes.row_list; ranges = h.ranges.row_list; addresses = h.addresses.row_list }

pub steps_keep_listed : StepsKeepListed
steps_keep_listed = record { lawful = lawful_listed; steps = step_listed }
