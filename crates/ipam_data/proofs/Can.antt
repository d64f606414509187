-- The update of each call that no check refuses may be made: its rows fit, and its ids are those of a u32.
use Rattle.std.proofs.Common.{◌≡◌, ℕ, ◌≤◌, ◌<◌, List, [], ◌∷◌, length, Option, Some, None, refl, sym, ◌∙◌, subst, arith, IsSome, inl, inr}
use Rattle.ipam_data.specs.declared.kinds.Kind.{Kind}
use Rattle.ipam_data.specs.declared.kinds.Kind.TheVariants.{Vrfs, Rirs, Roles, Aggregates, Prefixes, Ranges, Addresses}
use Rattle.ipam_data.specs.declared.calls.Filter.{Filter}
use Rattle.ipam_data.specs.declared.calls.Filter.TheVariants.{Vrfs as SomeVrfs, Rirs as SomeRirs, Roles as SomeRoles, Aggregates as SomeAggregates, Prefixes as SomePrefixes, Ranges as SomeRanges, Addresses as SomeAddresses}
use Rattle.ipam_data.specs.declared.calls.Draft.{Draft}
use Rattle.ipam_data.specs.declared.calls.Edit.{Edit}
use Rattle.ipam_data.specs.declared.replies.Rule.{Rule}
use Rattle.ipam_data.specs.declared.replies.View.{View}
use Rattle.ipam_data.specs.declared.replies.View.TheVariants.{Vrf as VrfView, Rir as RirView, Role as RoleView, Aggregate as AggregateView, Prefix as PrefixView, IpRange as RangeView, IpAddress as AddressView}
use Rattle.ipam_data.specs.Rows.{HasVrfBounds, HasRirBounds, HasRoleBounds, HasAggregateBounds, HasPrefixBounds, HasRangeBounds, HasAddressBounds}
use Rattle.ipam_data.specs.RowList.{row_at, AllBelow}
use Rattle.ipam_data.specs.Checks.{no_log}
use Rattle.ipam_data.specs.declared.replies.Reply.TheVariants.{One}
use Rattle.ipam_data.specs.State.{State, verdict_of, no_update, reading}
use Rattle.ipam_data.specs.Plans.{KindRules, broken, no_seats, creation, with_found, create, replace, change, take_out, delete, get, nothing_told}
use Rattle.ipam_data.specs.Updates.{CanUpdate}
use Rattle.ipam_data.specs.Vrfs.{vrf_rules}
use Rattle.ipam_data.specs.Rirs.{rir_rules}
use Rattle.ipam_data.specs.Roles.{role_rules}
use Rattle.ipam_data.specs.Aggregates.{aggregate_rules}
use Rattle.ipam_data.specs.Prefixes.{prefix_rules}
use Rattle.ipam_data.specs.Ranges.{range_rules}
use Rattle.ipam_data.specs.Addresses.{address_rules}
use Rattle.ipam_data.specs.ByKind.{by_view}
use Rattle.ipam_data.specs.Fields.{drafted, told_of_draft, kind_of_edit, edited_vrf, edited_rir, edited_role, edited_aggregate, edited_prefix, edited_range, edited_address, told_of_change}
use Rattle.ipam_data.specs.Steps.{next_for, create_plan, change_of_kind, change_plan, delete_plan, get_plan, list_plan}
use Rattle.ipam_data.specs.Lawful.{IsLawful}
use Rattle.ipam_data.proofs.RowLists.{id_below}
use Rattle.ipam_data.proofs.Kept.{found_there}
use Rattle.ipam_data.proofs.Placed.{id_above}
use Rattle.ipam_data.proofs.Verdicts.{none_left, none_right, room_from}
use Rattle.ipam_data.proofs.Sound.{IsSound}
use Rattle.ipam_data.proofs.DraftLaws.{drafted_next, vrf_stays, rir_stays, role_stays, aggregate_stays, prefix_stays, range_stays, address_stays}
use Rattle.ipam_data.proofs.VrfLaws.{vrfs_sound}
use Rattle.ipam_data.proofs.RirLaws.{rirs_sound}
use Rattle.ipam_data.proofs.RoleLaws.{roles_sound}
use Rattle.ipam_data.proofs.AggregateLaws.{aggregates_sound}
use Rattle.ipam_data.proofs.PrefixLaws.{prefixes_sound}
use Rattle.ipam_data.proofs.RangeLaws.{ranges_sound}
use Rattle.ipam_data.proofs.AddressLaws.{addresses_sound}

-- nothing may always be done
pub nothing_can : (s : State) → CanUpdate s no_update
nothing_can s = record { puts = tt; cuts = tt; next = tt }

module _ {T : Type 0} (rules : KindRules T) (Bounds : T → Type 0) (sound : IsSound rules Bounds) where
  -- an id under which a row is found is a u32 from 1 on
  record IsId (n : ℕ) : Type 0 where
    low : 1 ≤ n
    high : n < 4294967296

  id_of_found : (s : State) (n : ℕ) → IsLawful s → IsSome (row_at rules.id (rules.row_list s).rows n) → IsId n
  id_of_found s n h f =
      let kept = sound.row_list s h in
      let low = id_above rules.id 0 n (rules.row_list s).rows kept.ordered f in
      let high = id_below rules.id (rules.row_list s).next n (rules.row_list s).rows kept.below f in
      let top = kept.next_fits in
      record { low = omega arith; high = omega arith }

  create_can : (s : State) (told : List (Option Rule)) (row : T) → IsLawful s → rules.id row ≡ (rules.row_list s).next → verdict_of (create rules s told row) ≡ None
      → CanUpdate s (create rules s told row).update
  create_can s told row h e v =
      let c = none_left (creation rules s told row) (no_log s.spent 1 ∷ []) v in
      let room = room_from rules.kind rules.most (length (rules.row_list s).rows) (rules.row_list s).next 1 (none_right (broken rules s None told row) (no_seats rules s 1) c) in
      let kept = sound.row_list s h in
      let low = kept.next_low in
      let top = room.ids in
      record {
        puts = (sound.tied.fit s row (record { low = omega arith; high = omega arith; place = inr (subst (λ (n : ℕ). AllBelow rules.id n (rules.row_list s).rows) (sym e) kept.below) }), tt);
        cuts = tt;
        next = (omega arith, tt);
      }

  change_can : (s : State) (n : ℕ) (told : T → List (Option Rule)) (edit : T → T) → IsLawful s → ((old : T) → rules.id (edit old) ≡ rules.id old) → CanUpdate s (change rules s n told edit).update
  change_can s n told edit h same = go (row_at rules.id (rules.row_list s).rows n) refl
    where
      go : (found : Option T) → row_at rules.id (rules.row_list s).rows n ≡ found → CanUpdate s (with_found rules n (λ old. replace rules s old (told old) (edit old)) found).update
      go None e = nothing_can s
      go (Some old) e =
          let own : rules.id (edit old) ≡ n = same old ∙ (found_there rules.id (rules.row_list s).rows n old e).1 in
          let there : IsSome (row_at rules.id (rules.row_list s).rows n) = rw e refl in
          let i = id_of_found s n h there in
          let low = i.low in
          let high = i.high in
          record {
            puts = (sound.tied.fit s (edit old) (record { low = omega arith; high = omega arith; place = inl (subst (λ (m : ℕ). IsSome (row_at rules.id (rules.row_list s).rows m)) (sym own) there) }), tt);
            cuts = tt;
            next = tt;
          }

  delete_can : (s : State) (n : ℕ) → IsLawful s → CanUpdate s (delete rules s n).update
  delete_can s n h = go (row_at rules.id (rules.row_list s).rows n) refl
    where
      go : (found : Option T) → row_at rules.id (rules.row_list s).rows n ≡ found → CanUpdate s (with_found rules n (λ old. take_out rules s n) found).update
      go None e = nothing_can s
      go (Some old) e = record { puts = sound.fits s n h; cuts = ((id_of_found s n h (rw e refl)).high, tt); next = tt }

module _ {T : Type 0} (rules : KindRules T) where
  get_can : (s : State) (n : ℕ) → CanUpdate s (get rules s n).update
  get_can s n = go (row_at rules.id (rules.row_list s).rows n)
    where
      go : (found : Option T) → CanUpdate s (with_found rules n (λ row. reading (One (rules.view row))) found).update
      go None = nothing_can s
      go (Some row) = nothing_can s

view_can : (s : State) (told : List (Option Rule)) (view : View) → IsLawful s → by_view view (λ T rules row. rules.id row) ≡ by_view view (λ T rules row. (rules.row_list s).next)
    → verdict_of (by_view view (λ T rules row. create rules s told row)) ≡ None → CanUpdate s (by_view view (λ T rules row. create rules s told row)).update
view_can s told (VrfView row) h e v = create_can vrf_rules HasVrfBounds vrfs_sound s told row h e v
view_can s told (RirView row) h e v = create_can rir_rules HasRirBounds rirs_sound s told row h e v
view_can s told (RoleView row) h e v = create_can role_rules HasRoleBounds roles_sound s told row h e v
view_can s told (AggregateView row) h e v = create_can aggregate_rules HasAggregateBounds aggregates_sound s told row h e v
view_can s told (PrefixView row depth children) h e v = create_can prefix_rules HasPrefixBounds prefixes_sound s told row h e v
view_can s told (RangeView row) h e v = create_can range_rules HasRangeBounds ranges_sound s told row h e v
view_can s told (AddressView row) h e v = create_can address_rules HasAddressBounds addresses_sound s told row h e v

pub create_all : (s : State) (draft : Draft) → IsLawful s → verdict_of (create_plan s draft) ≡ None → CanUpdate s (create_plan s draft).update
create_all s draft h v = view_can s (told_of_draft draft) (drafted (next_for s draft) draft) h (drafted_next s draft) v

kind_can : (s : State) (n : ℕ) (edit : Edit) (kind : Kind) → IsLawful s → CanUpdate s (change_of_kind s n edit kind).update
kind_can s n edit Vrfs h = change_can vrf_rules HasVrfBounds vrfs_sound s n nothing_told (edited_vrf edit) h (vrf_stays edit)
kind_can s n edit Rirs h = change_can rir_rules HasRirBounds rirs_sound s n nothing_told (edited_rir edit) h (rir_stays edit)
kind_can s n edit Roles h = change_can role_rules HasRoleBounds roles_sound s n nothing_told (edited_role edit) h (role_stays edit)
kind_can s n edit Aggregates h = change_can aggregate_rules HasAggregateBounds aggregates_sound s n nothing_told (edited_aggregate edit) h (aggregate_stays edit)
kind_can s n edit Prefixes h = change_can prefix_rules HasPrefixBounds prefixes_sound s n nothing_told (edited_prefix edit) h (prefix_stays edit)
kind_can s n edit Ranges h = change_can range_rules HasRangeBounds ranges_sound s n (told_of_change edit) (edited_range edit) h (range_stays edit)
kind_can s n edit Addresses h = change_can address_rules HasAddressBounds addresses_sound s n nothing_told (edited_address edit) h (address_stays edit)

pub change_all : (s : State) (n : ℕ) (edit : Edit) → IsLawful s → CanUpdate s (change_plan s n edit).update
change_all s n edit h = kind_can s n edit (kind_of_edit edit) h

pub delete_all : (s : State) (kind : Kind) (n : ℕ) → IsLawful s → CanUpdate s (delete_plan s kind n).update
delete_all s Vrfs n h = delete_can vrf_rules HasVrfBounds vrfs_sound s n h
delete_all s Rirs n h = delete_can rir_rules HasRirBounds rirs_sound s n h
delete_all s Roles n h = delete_can role_rules HasRoleBounds roles_sound s n h
delete_all s Aggregates n h = delete_can aggregate_rules HasAggregateBounds aggregates_sound s n h
delete_all s Prefixes n h = delete_can prefix_rules HasPrefixBounds prefixes_sound s n h
delete_all s Ranges n h = delete_can range_rules HasRangeBounds ranges_sound s n h
delete_all s Addresses n h = delete_can address_rules HasAddressBounds addresses_sound s n h

pub get_all : (s : State) (kind : Kind) (n : ℕ) → CanUpdate s (get_plan s kind n).update
get_all s Vrfs n = get_can vrf_rules s n
get_all s Rirs n = get_can rir_rules s n
get_all s Roles n = get_can role_rules s n
get_all s Aggregates n = get_can aggregate_rules s n
get_all s Prefixes n = get_can prefix_rules s n
get_all s Ranges n = get_can range_rules s n
get_all s Addresses n = get_can address_rules s n

pub list_all : (s : State) (filter : Filter) (limit offset : ℕ) → CanUpdate s (list_plan s filter limit offset).update
list_all s (SomeVrfs name rd) limit offset = nothing_can s
list_all s (SomeRirs name slug) limit offset = nothing_can s
list_all s (SomeRoles name slug) limit offset = nothing_can s
list_all s (SomeAggregates family rir_id) limit offset = nothing_can s
list_all s (SomePrefixes family vrf_id status role_id prefix within within_include contains) limit offset = nothing_can s
list_all s (SomeRanges family vrf_id status role_id contains) limit offset = nothing_can s
list_all s (SomeAddresses family vrf_id status role parent dns_name) limit offset = nothing_can s
