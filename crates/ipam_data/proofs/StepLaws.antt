-- Each call leaves a lawful state, a refused one the state itself; and the laws of histories and of finding.
use Rattle.std.proofs.Common.{◌≡◌, ℕ, List, [], ◌∷◌, Option, Some, None, refl}
use Rattle.ipam_data.specs.declared.kinds.Kind.{Kind}
use Rattle.ipam_data.specs.declared.kinds.Kind.TheVariants.{Vrfs, Rirs, Roles, Aggregates, Prefixes, Ranges, Addresses}
use Rattle.ipam_data.specs.declared.calls.Filter.{Filter}
use Rattle.ipam_data.specs.declared.calls.Filter.TheVariants.{Vrfs as SomeVrfs, Rirs as SomeRirs, Roles as SomeRoles, Aggregates as SomeAggregates, Prefixes as SomePrefixes, Ranges as SomeRanges, Addresses as SomeAddresses}
use Rattle.ipam_data.specs.declared.calls.Draft.{Draft}
use Rattle.ipam_data.specs.declared.calls.Edit.{Edit}
use Rattle.ipam_data.specs.declared.replies.Rule.{Rule}
use Rattle.ipam_data.specs.declared.replies.View.{View}
use Rattle.ipam_data.specs.declared.replies.View.TheVariants.{Vrf as VrfView, Rir as RirView, Role as RoleView, Aggregate as AggregateView, Prefix as PrefixView, IpRange as RangeView, IpAddress as AddressView}
use Rattle.ipam_data.specs.declared.replies.Refusal.{Refusal}
use Rattle.ipam_data.specs.declared.replies.Reply.TheVariants.{Refused}
use Rattle.ipam_data.specs.Checks.{first}
use Rattle.ipam_data.specs.Rows.{vrf_id, rir_id, role_id, aggregate_id, prefix_id, range_id, address_id, HasVrfBounds, HasRirBounds, HasRoleBounds, HasAggregateBounds, HasPrefixBounds, HasRangeBounds, HasAddressBounds}
use Rattle.ipam_data.specs.State.{State, Plan, verdict_of}
use Rattle.ipam_data.specs.Updates.{outcome}
use Rattle.ipam_data.specs.Plans.{create, nothing_told}
use Rattle.ipam_data.specs.Vrfs.{vrf_rules, meets_vrf}
use Rattle.ipam_data.specs.Rirs.{rir_rules, meets_rir}
use Rattle.ipam_data.specs.Roles.{role_rules, meets_role}
use Rattle.ipam_data.specs.Aggregates.{aggregate_rules, meets_aggregate}
use Rattle.ipam_data.specs.Prefixes.{prefix_rules, meets_prefix}
use Rattle.ipam_data.specs.Ranges.{range_rules, meets_range}
use Rattle.ipam_data.specs.Addresses.{address_rules, meets_address}
use Rattle.ipam_data.specs.ByKind.{by_view}
use Rattle.ipam_data.specs.Fields.{drafted, told_of_draft, kind_of_edit, edited_vrf, edited_rir, edited_role, edited_aggregate, edited_prefix, edited_range, edited_address, told_of_change, HasDraftBounds, HasEditBounds}
use Rattle.ipam_data.specs.Steps.{plan_of, next_for, create_plan, change_of_kind, change_plan, delete_plan, get_plan, list_plan, plain_step}
use Rattle.ipam_data.specs.Replays.{OneMoreEntryIsOneMoreStep}
use Rattle.ipam_data.specs.Lawful.{IsLawful, RefusedStepsLeave, FoundIsLeast}
use Rattle.ipam_data.proofs.RowLists.{found_least}
use Rattle.ipam_data.proofs.Sound.{outcome_keeps, create_keeps, change_keeps, delete_keeps, get_keeps, list_keeps}
use Rattle.ipam_data.proofs.DraftLaws.{drafted_next, HasRowBounds, drafted_bounds, vrf_stays, rir_stays, role_stays, aggregate_stays, prefix_stays, range_stays, address_stays, vrf_edited, rir_edited, role_edited, aggregate_edited, prefix_edited, range_edited, address_edited}
use Rattle.ipam_data.proofs.VrfLaws.{vrfs_sound}
use Rattle.ipam_data.proofs.RirLaws.{rirs_sound}
use Rattle.ipam_data.proofs.RoleLaws.{roles_sound}
use Rattle.ipam_data.proofs.AggregateLaws.{aggregates_sound}
use Rattle.ipam_data.proofs.PrefixLaws.{prefixes_sound}
use Rattle.ipam_data.proofs.RangeLaws.{ranges_sound}
use Rattle.ipam_data.proofs.AddressLaws.{addresses_sound}

-- ---- what each call keeps

view_keeps : (s : State) (told : List (Option Rule)) (view : View) → IsLawful s → by_view view (λ T rules row. rules.id row) ≡ by_view view (λ T rules row. (rules.row_list s).next)
    → (first told ≡ None → HasRowBounds view) → IsLawful (outcome s (by_view view (λ T rules row. create rules s told row))).0
view_keeps s told (VrfView row) h e b = outcome_keeps s (create vrf_rules s told row) h (create_keeps vrf_rules HasVrfBounds vrfs_sound s told row h e b)
view_keeps s told (RirView row) h e b = outcome_keeps s (create rir_rules s told row) h (create_keeps rir_rules HasRirBounds rirs_sound s told row h e b)
view_keeps s told (RoleView row) h e b = outcome_keeps s (create role_rules s told row) h (create_keeps role_rules HasRoleBounds roles_sound s told row h e b)
view_keeps s told (AggregateView row) h e b = outcome_keeps s (create aggregate_rules s told row) h (create_keeps aggregate_rules HasAggregateBounds aggregates_sound s told row h e b)
view_keeps s told (PrefixView row depth children) h e b = outcome_keeps s (create prefix_rules s told row) h (create_keeps prefix_rules HasPrefixBounds prefixes_sound s told row h e b)
view_keeps s told (RangeView row) h e b = outcome_keeps s (create range_rules s told row) h (create_keeps range_rules HasRangeBounds ranges_sound s told row h e b)
view_keeps s told (AddressView row) h e b = outcome_keeps s (create address_rules s told row) h (create_keeps address_rules HasAddressBounds addresses_sound s told row h e b)

pub create_keeps_all : (s : State) (draft : Draft) → IsLawful s → HasDraftBounds draft → IsLawful (outcome s (create_plan s draft)).0
create_keeps_all s draft h b = view_keeps s (told_of_draft draft) (drafted (next_for s draft) draft) h (drafted_next s draft) (drafted_bounds (next_for s draft) draft b)

kind_keeps : (s : State) (n : ℕ) (edit : Edit) (kind : Kind) → IsLawful s → HasEditBounds edit → IsLawful (outcome s (change_of_kind s n edit kind)).0
kind_keeps s n edit Vrfs h b = change_keeps vrf_rules HasVrfBounds vrfs_sound s n nothing_told (edited_vrf edit) h (vrf_stays edit) (λ old o t. vrf_edited edit old b o)
kind_keeps s n edit Rirs h b = change_keeps rir_rules HasRirBounds rirs_sound s n nothing_told (edited_rir edit) h (rir_stays edit) (λ old o t. rir_edited edit old b o)
kind_keeps s n edit Roles h b = change_keeps role_rules HasRoleBounds roles_sound s n nothing_told (edited_role edit) h (role_stays edit) (λ old o t. role_edited edit old b o)
kind_keeps s n edit Aggregates h b = change_keeps aggregate_rules HasAggregateBounds aggregates_sound s n nothing_told (edited_aggregate edit) h (aggregate_stays edit) (λ old o t. aggregate_edited edit old b o)
kind_keeps s n edit Prefixes h b = change_keeps prefix_rules HasPrefixBounds prefixes_sound s n nothing_told (edited_prefix edit) h (prefix_stays edit) (λ old o t. prefix_edited edit old b o)
kind_keeps s n edit Ranges h b = change_keeps range_rules HasRangeBounds ranges_sound s n (told_of_change edit) (edited_range edit) h (range_stays edit) (λ old o t. range_edited edit old b o t)
kind_keeps s n edit Addresses h b = change_keeps address_rules HasAddressBounds addresses_sound s n nothing_told (edited_address edit) h (address_stays edit) (λ old o t. address_edited edit old b o)

pub change_keeps_all : (s : State) (n : ℕ) (edit : Edit) → IsLawful s → HasEditBounds edit → IsLawful (outcome s (change_plan s n edit)).0
change_keeps_all s n edit h b = kind_keeps s n edit (kind_of_edit edit) h b

pub delete_keeps_all : (s : State) (kind : Kind) (n : ℕ) → IsLawful s → IsLawful (outcome s (delete_plan s kind n)).0
delete_keeps_all s Vrfs n h = delete_keeps vrf_rules HasVrfBounds vrfs_sound s n h
delete_keeps_all s Rirs n h = delete_keeps rir_rules HasRirBounds rirs_sound s n h
delete_keeps_all s Roles n h = delete_keeps role_rules HasRoleBounds roles_sound s n h
delete_keeps_all s Aggregates n h = delete_keeps aggregate_rules HasAggregateBounds aggregates_sound s n h
delete_keeps_all s Prefixes n h = delete_keeps prefix_rules HasPrefixBounds prefixes_sound s n h
delete_keeps_all s Ranges n h = delete_keeps range_rules HasRangeBounds ranges_sound s n h
delete_keeps_all s Addresses n h = delete_keeps address_rules HasAddressBounds addresses_sound s n h

pub get_keeps_all : (s : State) (kind : Kind) (n : ℕ) → IsLawful s → IsLawful (outcome s (get_plan s kind n)).0
get_keeps_all s Vrfs n h = get_keeps vrf_rules s n h
get_keeps_all s Rirs n h = get_keeps rir_rules s n h
get_keeps_all s Roles n h = get_keeps role_rules s n h
get_keeps_all s Aggregates n h = get_keeps aggregate_rules s n h
get_keeps_all s Prefixes n h = get_keeps prefix_rules s n h
get_keeps_all s Ranges n h = get_keeps range_rules s n h
get_keeps_all s Addresses n h = get_keeps address_rules s n h

pub list_keeps_all : (s : State) (filter : Filter) (limit offset : ℕ) → IsLawful s → IsLawful (outcome s (list_plan s filter limit offset)).0
list_keeps_all s (SomeVrfs name rd) limit offset h = list_keeps vrf_rules s (meets_vrf name rd) limit offset h
list_keeps_all s (SomeRirs name slug) limit offset h = list_keeps rir_rules s (meets_rir name slug) limit offset h
list_keeps_all s (SomeRoles name slug) limit offset h = list_keeps role_rules s (meets_role name slug) limit offset h
list_keeps_all s (SomeAggregates family rir_id) limit offset h = list_keeps aggregate_rules s (meets_aggregate family rir_id) limit offset h
list_keeps_all s (SomePrefixes family vrf_id status role_id prefix within within_include contains) limit offset h =
    list_keeps prefix_rules s (meets_prefix family vrf_id status role_id prefix within within_include contains) limit offset h
list_keeps_all s (SomeRanges family vrf_id status role_id contains) limit offset h = list_keeps range_rules s (meets_range family vrf_id status role_id contains) limit offset h
list_keeps_all s (SomeAddresses family vrf_id status role parent dns_name) limit offset h =
    list_keeps address_rules s (meets_address family vrf_id status role parent dns_name) limit offset h

outcome_refused : (s : State) (plan : Plan) (refusal : Refusal) → verdict_of plan ≡ Some refusal → outcome s plan ≡ (s, Refused refusal)
outcome_refused s plan refusal v = rw (v, outcome) refl

pub refused_leave : RefusedStepsLeave
refused_leave s call refusal v = outcome_refused s (plan_of s call) refusal v

pub one_more : OneMoreEntryIsOneMoreStep
one_more s [] entry = refl
one_more s (e ∷ entries) entry = one_more (plain_step s e.call).0 entries entry

pub found_is_least : FoundIsLeast
found_is_least = record {
  vrfs = λ low test rows x y r f c q. found_least vrf_id low test rows x y r f c q;
  rirs = λ low test rows x y r f c q. found_least rir_id low test rows x y r f c q;
  roles = λ low test rows x y r f c q. found_least role_id low test rows x y r f c q;
  aggregates = λ low test rows x y r f c q. found_least aggregate_id low test rows x y r f c q;
  prefixes = λ low test rows x y r f c q. found_least prefix_id low test rows x y r f c q;
  ranges = λ low test rows x y r f c q. found_least range_id low test rows x y r f c q;
  addresses = λ low test rows x y r f c q. found_least address_id low test rows x y r f c q;
}
