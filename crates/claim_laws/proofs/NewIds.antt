-- A row that is there after a call has an id that was there or a new one, and next ids never fall.
use Rattle.std.proofs.Common.{◌≡◌, ℕ, ◌+◌, ◌≤◌, Contains, Bool, true, false, cond, List, [], ◌∷◌, ◌++◌, length, map, fold, filter, Option, Some, None, is_some, refl, ap, sym, ◌∙◌, subst, arith, inl, inr, ◌⊎◌}
use Rattle.std.specs.List.{flat_map, AllByRecursion}
use Rattle.block_space.specs.Usable.{addressed}
use Rattle.block_space.specs.Fit.{fits_of}
use Rattle.ipam_data.specs.declared.kinds.Kind.{Kind}
use Rattle.ipam_data.specs.declared.kinds.Kind.TheVariants.{Vrfs, Rirs, Roles, Aggregates, Prefixes, Ranges, Addresses}
use Rattle.ipam_data.specs.declared.calls.Call.{Call}
use Rattle.ipam_data.specs.declared.calls.Call.TheVariants.{List as ListOf, Get, Create, Change, Delete, Blocks as BlocksOf, PrefixAddrs, RangeAddrs, ClaimBlocks, ClaimPrefixAddrs, ClaimRangeAddrs, Utilization, Import, Export, Survey}
use Rattle.ipam_data.specs.declared.calls.Answered.{Answered}
use Rattle.ipam_data.specs.declared.calls.Draft.{Draft}
use Rattle.ipam_data.specs.declared.calls.Edit.{Edit}
use Rattle.ipam_data.specs.declared.calls.Filter.{Filter}
use Rattle.ipam_data.specs.declared.calls.Filter.TheVariants.{Vrfs as SomeVrfs}
use Rattle.ipam_data.specs.declared.imports.ImportRow.{ImportRow}
use Rattle.ipam_data.specs.declared.imports.ImportRow.TheVariants.{Vrf as VrfRow, Rir as RirRow, Role as RoleRow, Aggregate as AggregateRow, Prefix as PrefixRow, IpRange as RangeRow, IpAddress as AddressRow}
use Rattle.ipam_data.specs.declared.replies.Refusal.{Refusal}
use Rattle.ipam_data.specs.declared.replies.Rule.{Rule}
use Rattle.ipam_data.specs.declared.replies.View.{View}
use Rattle.ipam_data.specs.declared.replies.View.TheVariants.{Vrf as VrfView, Rir as RirView, Role as RoleView, Aggregate as AggregateView, Prefix as PrefixView, IpRange as RangeView, IpAddress as AddressView}
use Rattle.ipam_data.specs.declared.replies.Which.TheVariants.{Rows as ManyRows}
use Rattle.ipam_data.specs.declared.update.Update.{Update}
use Rattle.ipam_data.specs.Tables.{is_named}
use Rattle.ipam_data.specs.RowList.{row_at}
use Rattle.ipam_data.specs.Checks.{too_many, no_log}
use Rattle.ipam_data.specs.State.{State, Plan, verdict_of, no_update}
use Rattle.ipam_data.specs.Plans.{KindRules, create, change, replace, take_out, with_found, with_row_at, nothing_told}
use Rattle.ipam_data.specs.ByKind.{by_kind, by_view}
use Rattle.ipam_data.specs.Updates.{with_view, without_row, with_next, with_spent, updated, outcome}
use Rattle.ipam_data.specs.Vrfs.{vrf_rules}
use Rattle.ipam_data.specs.Rirs.{rir_rules}
use Rattle.ipam_data.specs.Roles.{role_rules}
use Rattle.ipam_data.specs.Aggregates.{aggregate_rules}
use Rattle.ipam_data.specs.Prefixes.{prefix_rules, prefix_without_role, prefixes_without_role}
use Rattle.ipam_data.specs.Ranges.{range_rules, range_without_role, ranges_without_role}
use Rattle.ipam_data.specs.Addresses.{address_rules}
use Rattle.ipam_data.specs.Fields.{drafted, next_for, told_of_draft, kind_of_edit, edited_vrf, edited_rir, edited_role, edited_aggregate, edited_prefix, edited_range, edited_address, told_of_change}
use Rattle.ipam_data.specs.Claims.{claim, claimed_prefixes, claimed_addresses, child_blocks, lengths_of, told_of_block, told_of_address, claim_blocks_of, claim_addresses_of, usable_in, usable_of_range, utilization_plan}
use Rattle.ipam_data.specs.Imports.{next_of, most_rows, kind_of_row, draft_of, Progress, begun, makes_one, with_draft, after_row, after_rows, row_verdicts, items_of, import_plan}
use Rattle.ipam_data.specs.Steps.{plan_of, verdict, create_plan, change_of_kind, delete_plan, list_plan}
use Rattle.claim_laws.specs.Rows.{IdsOfKindAreNew, IdsAreNew}
use Rattle.ipam_data.proofs.RowLists.{contains_rest, contains_with}
use Rattle.ipam_data.proofs.Kept.{found_there, contains_without}
use Rattle.ipam_data.proofs.Verdicts.{none_rest, none_left}
use Rattle.ipam_data.proofs.ManyCan.{Follow}
use Rattle.ipam_data.proofs.ImportLaws.{AreOfKind, of_kind}
use Rattle.ipam_data.proofs.DraftLaws.{drafted_next, vrf_stays, rir_stays, role_stays, aggregate_stays, prefix_stays, range_stays, address_stays}
use Rattle.claim_laws.proofs.Stays.{all_behind}
use Rattle.claim_laws.proofs.Withstand.{view_kind, view_id}
use Rattle.claim_laws.proofs.Lemmas.{found_in, prefixes_follow, addresses_follow}

-- ---- ids that are fine

-- the id is that of a row of the kind, or a new one
abbrev IsFineId : State → Kind → ℕ → Type 0
IsFineId s kind n = (by_kind kind (λ T rules. is_some (row_at rules.id (rules.row_list s).rows n)) ≡ true) ⊎ (next_of s kind ≤ n)

-- the update puts rows with such ids, and lets no next id fall
record IsFine (s : State) (u : Update) : Type 0 where
  puts : AllByRecursion (λ v. IsFineId s (view_kind v) (view_id v)) u.puts
  next : AllByRecursion (λ (k : Kind × ℕ). next_of s k.0 ≤ k.1) u.next

-- the rows of a kind in a state have such ids, and its next id has not fallen
record HasFine {T : Type 0} (rules : KindRules T) (old s : State) : Type 0 where
  next : (rules.row_list old).next ≤ (rules.row_list s).next
  each : (x : T) → Contains (rules.row_list s).rows x → IsFineId old rules.kind (rules.id x)

record Stand {T : Type 0} (rules : KindRules T) : Type 0 where
  put : (old s : State) (v : View) → IsFineId old (view_kind v) (view_id v) → HasFine rules old s → HasFine rules old (with_view s v)
  cut : (old s : State) (other : Kind) (n : ℕ) → HasFine rules old s → HasFine rules old (without_row s (other, n))
  next : (old s : State) (other : Kind) (n : ℕ) → next_of old other ≤ n → HasFine rules old s → HasFine rules old (with_next s (other, n))
  spent : (old s : State) (n : ℕ) → HasFine rules old s → HasFine rules old (with_spent s n)
  begin : (s : State) → HasFine rules s s

module _ {T : Type 0} (rules : KindRules T) (w : Stand rules) where
  puts_fine : (old s : State) (vs : List View) → AllByRecursion (λ v. IsFineId old (view_kind v) (view_id v)) vs → HasFine rules old s → HasFine rules old (fold with_view s vs)
  puts_fine old s [] f h = h
  puts_fine old s (v ∷ vs) f h = puts_fine old (with_view s v) vs f.1 (w.put old s v f.0 h)

  cuts_fine : (old s : State) (cs : List (Kind × ℕ)) → HasFine rules old s → HasFine rules old (fold without_row s cs)
  cuts_fine old s [] h = h
  cuts_fine old s (c ∷ cs) h = cuts_fine old (without_row s c) cs (w.cut old s c.0 c.1 h)

  nexts_fine : (old s : State) (ns : List (Kind × ℕ)) → AllByRecursion (λ (k : Kind × ℕ). next_of old k.0 ≤ k.1) ns → HasFine rules old s → HasFine rules old (fold with_next s ns)
  nexts_fine old s [] f h = h
  nexts_fine old s (k ∷ ns) f h = nexts_fine old (with_next s k) ns f.1 (w.next old s k.0 k.1 f.0 h)

  update_fine : (s : State) (u : Update) → IsFine s u → HasFine rules s (updated s u)
  update_fine s u f =
      w.spent s (fold with_next (fold without_row (fold with_view s u.puts) u.cuts) u.next) u.spent
      (nexts_fine s (fold without_row (fold with_view s u.puts) u.cuts) u.next f.next (cuts_fine s (fold with_view s u.puts) u.cuts (puts_fine s s u.puts f.puts (w.begin s))))

  outcome_fine : (s : State) (plan : Plan) → (verdict_of plan ≡ None → IsFine s plan.update) → HasFine rules s (outcome s plan).0
  outcome_fine s plan f = go (verdict_of plan) refl
    where
      go : (v : Option Refusal) → verdict_of plan ≡ v → HasFine rules s (outcome s plan).0
      go (Some refusal) e = rw (e, outcome) (w.begin s)
      go None e = rw (e, outcome) (update_fine s plan.update (f e))

vrfs_stand : Stand vrf_rules
vrfs_stand = record { put = put; cut = cut; next = next; spent = λ old s n h. record { next = h.next; each = h.each }; begin = λ s. record { next = omega arith; each = λ x c. inl (found_in vrf_rules.id s.vrfs.rows x c) } }
  where
    put : (old s : State) (v : View) → IsFineId old (view_kind v) (view_id v) → HasFine vrf_rules old s → HasFine vrf_rules old (with_view s v)
    put old s (VrfView row) f h = record { next = h.next; each = λ x c. elim (contains_with vrf_rules.id s.vrfs.rows row x c) [ inl e ↦ subst (λ z. IsFineId old Vrfs (vrf_rules.id z)) e f | inr d ↦ h.each x d ] }
    put old s v f h = record { next = h.next; each = h.each }

    cut : (old s : State) (other : Kind) (n : ℕ) → HasFine vrf_rules old s → HasFine vrf_rules old (without_row s (other, n))
    cut old s Vrfs n h = record { next = h.next; each = λ x c. h.each x (contains_without vrf_rules.id s.vrfs.rows n x c) }
    cut old s other n h = record { next = h.next; each = h.each }

    next : (old s : State) (other : Kind) (n : ℕ) → next_of old other ≤ n → HasFine vrf_rules old s → HasFine vrf_rules old (with_next s (other, n))
    next old s Vrfs n l h = record { next = l; each = h.each }
    next old s other n l h = record { next = h.next; each = h.each }

rirs_stand : Stand rir_rules
rirs_stand = record { put = put; cut = cut; next = next; spent = λ old s n h. record { next = h.next; each = h.each }; begin = λ s. record { next = omega arith; each = λ x c. inl (found_in rir_rules.id s.rirs.rows x c) } }
  where
    put : (old s : State) (v : View) → IsFineId old (view_kind v) (view_id v) → HasFine rir_rules old s → HasFine rir_rules old (with_view s v)
    put old s (RirView row) f h = record { next = h.next; each = λ x c. elim (contains_with rir_rules.id s.rirs.rows row x c) [ inl e ↦ subst (λ z. IsFineId old Rirs (rir_rules.id z)) e f | inr d ↦ h.each x d ] }
    put old s v f h = record { next = h.next; each = h.each }

    cut : (old s : State) (other : Kind) (n : ℕ) → HasFine rir_rules old s → HasFine rir_rules old (without_row s (other, n))
    cut old s Rirs n h = record { next = h.next; each = λ x c. h.each x (contains_without rir_rules.id s.rirs.rows n x c) }
    cut old s other n h = record { next = h.next; each = h.each }

    next : (old s : State) (other : Kind) (n : ℕ) → next_of old other ≤ n → HasFine rir_rules old s → HasFine rir_rules old (with_next s (other, n))
    next old s Rirs n l h = record { next = l; each = h.each }
    next old s other n l h = record { next = h.next; each = h.each }

roles_stand : Stand role_rules
roles_stand = record { put = put; cut = cut; next = next; spent = λ old s n h. record { next = h.next; each = h.each }; begin = λ s. record { next = omega arith; each = λ x c. inl (found_in role_rules.id s.roles.rows x c) } }
  where
    put : (old s : State) (v : View) → IsFineId old (view_kind v) (view_id v) → HasFine role_rules old s → HasFine role_rules old (with_view s v)
    put old s (RoleView row) f h = record { next = h.next; each = λ x c. elim (contains_with role_rules.id s.roles.rows row x c) [ inl e ↦ subst (λ z. IsFineId old Roles (role_rules.id z)) e f | inr d ↦ h.each x d ] }
    put old s v f h = record { next = h.next; each = h.each }

    cut : (old s : State) (other : Kind) (n : ℕ) → HasFine role_rules old s → HasFine role_rules old (without_row s (other, n))
    cut old s Roles n h = record { next = h.next; each = λ x c. h.each x (contains_without role_rules.id s.roles.rows n x c) }
    cut old s other n h = record { next = h.next; each = h.each }

    next : (old s : State) (other : Kind) (n : ℕ) → next_of old other ≤ n → HasFine role_rules old s → HasFine role_rules old (with_next s (other, n))
    next old s Roles n l h = record { next = l; each = h.each }
    next old s other n l h = record { next = h.next; each = h.each }

aggregates_stand : Stand aggregate_rules
aggregates_stand = record { put = put; cut = cut; next = next; spent = λ old s n h. record { next = h.next; each = h.each }; begin = λ s. record { next = omega arith; each = λ x c. inl (found_in aggregate_rules.id s.aggregates.rows x c) } }
  where
    put : (old s : State) (v : View) → IsFineId old (view_kind v) (view_id v) → HasFine aggregate_rules old s → HasFine aggregate_rules old (with_view s v)
    put old s (AggregateView row) f h = record { next = h.next; each = λ x c. elim (contains_with aggregate_rules.id s.aggregates.rows row x c) [ inl e ↦ subst (λ z. IsFineId old Aggregates (aggregate_rules.id z)) e f | inr d ↦ h.each x d ] }
    put old s v f h = record { next = h.next; each = h.each }

    cut : (old s : State) (other : Kind) (n : ℕ) → HasFine aggregate_rules old s → HasFine aggregate_rules old (without_row s (other, n))
    cut old s Aggregates n h = record { next = h.next; each = λ x c. h.each x (contains_without aggregate_rules.id s.aggregates.rows n x c) }
    cut old s other n h = record { next = h.next; each = h.each }

    next : (old s : State) (other : Kind) (n : ℕ) → next_of old other ≤ n → HasFine aggregate_rules old s → HasFine aggregate_rules old (with_next s (other, n))
    next old s Aggregates n l h = record { next = l; each = h.each }
    next old s other n l h = record { next = h.next; each = h.each }

prefixes_stand : Stand prefix_rules
prefixes_stand = record { put = put; cut = cut; next = next; spent = λ old s n h. record { next = h.next; each = h.each }; begin = λ s. record { next = omega arith; each = λ x c. inl (found_in prefix_rules.id s.prefixes.rows x c) } }
  where
    put : (old s : State) (v : View) → IsFineId old (view_kind v) (view_id v) → HasFine prefix_rules old s → HasFine prefix_rules old (with_view s v)
    put old s (PrefixView row depth children) f h = record { next = h.next; each = λ x c. elim (contains_with prefix_rules.id s.prefixes.rows row x c) [ inl e ↦ subst (λ z. IsFineId old Prefixes (prefix_rules.id z)) e f | inr d ↦ h.each x d ] }
    put old s v f h = record { next = h.next; each = h.each }

    cut : (old s : State) (other : Kind) (n : ℕ) → HasFine prefix_rules old s → HasFine prefix_rules old (without_row s (other, n))
    cut old s Prefixes n h = record { next = h.next; each = λ x c. h.each x (contains_without prefix_rules.id s.prefixes.rows n x c) }
    cut old s other n h = record { next = h.next; each = h.each }

    next : (old s : State) (other : Kind) (n : ℕ) → next_of old other ≤ n → HasFine prefix_rules old s → HasFine prefix_rules old (with_next s (other, n))
    next old s Prefixes n l h = record { next = l; each = h.each }
    next old s other n l h = record { next = h.next; each = h.each }

ranges_stand : Stand range_rules
ranges_stand = record { put = put; cut = cut; next = next; spent = λ old s n h. record { next = h.next; each = h.each }; begin = λ s. record { next = omega arith; each = λ x c. inl (found_in range_rules.id s.ranges.rows x c) } }
  where
    put : (old s : State) (v : View) → IsFineId old (view_kind v) (view_id v) → HasFine range_rules old s → HasFine range_rules old (with_view s v)
    put old s (RangeView row) f h = record { next = h.next; each = λ x c. elim (contains_with range_rules.id s.ranges.rows row x c) [ inl e ↦ subst (λ z. IsFineId old Ranges (range_rules.id z)) e f | inr d ↦ h.each x d ] }
    put old s v f h = record { next = h.next; each = h.each }

    cut : (old s : State) (other : Kind) (n : ℕ) → HasFine range_rules old s → HasFine range_rules old (without_row s (other, n))
    cut old s Ranges n h = record { next = h.next; each = λ x c. h.each x (contains_without range_rules.id s.ranges.rows n x c) }
    cut old s other n h = record { next = h.next; each = h.each }

    next : (old s : State) (other : Kind) (n : ℕ) → next_of old other ≤ n → HasFine range_rules old s → HasFine range_rules old (with_next s (other, n))
    next old s Ranges n l h = record { next = l; each = h.each }
    next old s other n l h = record { next = h.next; each = h.each }

addresses_stand : Stand address_rules
addresses_stand = record { put = put; cut = cut; next = next; spent = λ old s n h. record { next = h.next; each = h.each }; begin = λ s. record { next = omega arith; each = λ x c. inl (found_in address_rules.id s.addresses.rows x c) } }
  where
    put : (old s : State) (v : View) → IsFineId old (view_kind v) (view_id v) → HasFine address_rules old s → HasFine address_rules old (with_view s v)
    put old s (AddressView row) f h = record { next = h.next; each = λ x c. elim (contains_with address_rules.id s.addresses.rows row x c) [ inl e ↦ subst (λ z. IsFineId old Addresses (address_rules.id z)) e f | inr d ↦ h.each x d ] }
    put old s v f h = record { next = h.next; each = h.each }

    cut : (old s : State) (other : Kind) (n : ℕ) → HasFine address_rules old s → HasFine address_rules old (without_row s (other, n))
    cut old s Addresses n h = record { next = h.next; each = λ x c. h.each x (contains_without address_rules.id s.addresses.rows n x c) }
    cut old s other n h = record { next = h.next; each = h.each }

    next : (old s : State) (other : Kind) (n : ℕ) → next_of old other ≤ n → HasFine address_rules old s → HasFine address_rules old (with_next s (other, n))
    next old s Addresses n l h = record { next = l; each = h.each }
    next old s other n l h = record { next = h.next; each = h.each }

-- ---- calls

nothing_fine : (s : State) → IsFine s no_update
nothing_fine s = record { puts = tt; next = tt }

view_fine : (s : State) (told : List (Option Rule)) (view : View) → by_view view (λ T rules row. rules.id row) ≡ by_view view (λ T rules row. (rules.row_list s).next)
    → IsFine s (by_view view (λ T rules row. create rules s told row)).update
view_fine s told (VrfView row) e = record { puts = (inr (omega arith), tt); next = (omega arith, tt) }
view_fine s told (RirView row) e = record { puts = (inr (omega arith), tt); next = (omega arith, tt) }
view_fine s told (RoleView row) e = record { puts = (inr (omega arith), tt); next = (omega arith, tt) }
view_fine s told (AggregateView row) e = record { puts = (inr (omega arith), tt); next = (omega arith, tt) }
view_fine s told (PrefixView row depth children) e = record { puts = (inr (omega arith), tt); next = (omega arith, tt) }
view_fine s told (RangeView row) e = record { puts = (inr (omega arith), tt); next = (omega arith, tt) }
view_fine s told (AddressView row) e = record { puts = (inr (omega arith), tt); next = (omega arith, tt) }

create_fine : (s : State) (draft : Draft) → IsFine s (create_plan s draft).update
create_fine s draft = view_fine s (told_of_draft draft) (drafted (next_for s draft) draft) (drafted_next s draft)

module _ {T : Type 0} (rules : KindRules T) (is_kind : (row : T) → view_kind (rules.view row) ≡ rules.kind) (is_id : (row : T) → view_id (rules.view row) ≡ rules.id row)
    (is_there : (s : State) (n : ℕ) → by_kind rules.kind (λ U other. is_some (row_at other.id (other.row_list s).rows n)) ≡ is_some (row_at rules.id (rules.row_list s).rows n))
    (is_next : (s : State) → next_of s rules.kind ≡ (rules.row_list s).next) where
  found_fine : (s : State) (n : ℕ) (plan : T → Plan) → ((row : T) → row_at rules.id (rules.row_list s).rows n ≡ Some row → IsFine s (plan row).update) → IsFine s (with_row_at rules s n plan).update
  found_fine s n plan h = go (row_at rules.id (rules.row_list s).rows n) refl
    where
      go : (found : Option T) → row_at rules.id (rules.row_list s).rows n ≡ found → IsFine s (with_found rules n plan found).update
      go None e = nothing_fine s
      go (Some row) e = h row e

  -- the id of a row that was found
  fine_found : (s : State) (row : T) (n : ℕ) → rules.id row ≡ n → is_some (row_at rules.id (rules.row_list s).rows n) ≡ true → IsFineId s (view_kind (rules.view row)) (view_id (rules.view row))
  fine_found s row n e t = rw (is_kind row, is_id row, e) (inl (is_there s n ∙ t))

  change_fine : (s : State) (n : ℕ) (told : T → List (Option Rule)) (edit : T → T) → ((old : T) → rules.id (edit old) ≡ rules.id old) → IsFine s (change rules s n told edit).update
  change_fine s n told edit same = found_fine s n (λ old. replace rules s old (told old) (edit old)) (λ old f.
      record { puts = (fine_found s (edit old) n (same old ∙ (found_there rules.id (rules.row_list s).rows n old f).1) (ap is_some f), tt); next = tt })

  follow_fine : (s : State) (low : ℕ) (rows : List T) → (rules.row_list s).next ≤ low → Follow rules.id low rows → AllByRecursion (λ v. IsFineId s (view_kind v) (view_id v)) (map rules.view rows)
  follow_fine s low [] l f = tt
  follow_fine s low (row ∷ rows) l f =
      let e = f.0 in
      let n = is_next s in
      let one : IsFineId s rules.kind (rules.id row) = inr (omega arith) in
      (rw (is_kind row, is_id row) one, follow_fine s (low + 1) rows (omega arith) f.1)

  claim_fine : (s : State) (told : List (Option Refusal)) (wanted : ℕ) (form : Answered) (rows : List T) → Follow rules.id (rules.row_list s).next rows → IsFine s (claim rules s told wanted form rows).update
  claim_fine s told wanted form rows f = record { puts = follow_fine s (rules.row_list s).next rows (omega arith) f; next = ((let n = is_next s in omega arith), tt) }

  -- rows that are put again
  again_fine : (s : State) (f : T → T) (p : T → Bool) (rows : List T) → ((x : T) → rules.id (f x) ≡ rules.id x) → ((x : T) → Contains rows x → Contains (rules.row_list s).rows x)
      → AllByRecursion (λ v. IsFineId s (view_kind v) (view_id v)) (map rules.view (map f (filter p rows)))
  again_fine s f p [] same there = tt
  again_fine s f p (x ∷ xs) same there = go (p x) (again_fine s f p xs same (λ y c. there y (contains_rest x y xs c)))
    where
      go : (t : Bool) → AllByRecursion (λ v. IsFineId s (view_kind v) (view_id v)) (map rules.view (map f (filter p xs))) → AllByRecursion (λ v. IsFineId s (view_kind v) (view_id v)) (map rules.view (map f (cond t (x ∷ filter p xs) (filter p xs))))
      go true ih = (fine_found s (f x) (rules.id x) (same x) (found_in rules.id (rules.row_list s).rows x (there x (0, omega arith, refl))), ih)
      go false ih = ih

kind_fine : (s : State) (m : ℕ) (edit : Edit) (own : Kind) → IsFine s (change_of_kind s m edit own).update
kind_fine s m edit Vrfs = change_fine vrf_rules (λ row. refl) (λ row. refl) (λ s n. refl) (λ s. refl) s m nothing_told (edited_vrf edit) (vrf_stays edit)
kind_fine s m edit Rirs = change_fine rir_rules (λ row. refl) (λ row. refl) (λ s n. refl) (λ s. refl) s m nothing_told (edited_rir edit) (rir_stays edit)
kind_fine s m edit Roles = change_fine role_rules (λ row. refl) (λ row. refl) (λ s n. refl) (λ s. refl) s m nothing_told (edited_role edit) (role_stays edit)
kind_fine s m edit Aggregates = change_fine aggregate_rules (λ row. refl) (λ row. refl) (λ s n. refl) (λ s. refl) s m nothing_told (edited_aggregate edit) (aggregate_stays edit)
kind_fine s m edit Prefixes = change_fine prefix_rules (λ row. refl) (λ row. refl) (λ s n. refl) (λ s. refl) s m nothing_told (edited_prefix edit) (prefix_stays edit)
kind_fine s m edit Ranges = change_fine range_rules (λ row. refl) (λ row. refl) (λ s n. refl) (λ s. refl) s m (told_of_change edit) (edited_range edit) (range_stays edit)
kind_fine s m edit Addresses = change_fine address_rules (λ row. refl) (λ row. refl) (λ s n. refl) (λ s. refl) s m nothing_told (edited_address edit) (address_stays edit)

puts_and : (s : State) (one other : List View) → AllByRecursion (λ v. IsFineId s (view_kind v) (view_id v)) one → AllByRecursion (λ v. IsFineId s (view_kind v) (view_id v)) other
    → AllByRecursion (λ v. IsFineId s (view_kind v) (view_id v)) (one ++ other)
puts_and s [] other a b = b
puts_and s (v ∷ one) other a b = (a.0, puts_and s one other a.1 b)

delete_fine : (s : State) (own : Kind) (m : ℕ) → IsFine s (delete_plan s own m).update
delete_fine s Vrfs m = found_fine vrf_rules (λ row. refl) (λ row. refl) (λ s n. refl) (λ s. refl) s m (λ old. take_out vrf_rules s m) (λ old e. record { puts = tt; next = tt })
delete_fine s Rirs m = found_fine rir_rules (λ row. refl) (λ row. refl) (λ s n. refl) (λ s. refl) s m (λ old. take_out rir_rules s m) (λ old e. record { puts = tt; next = tt })
delete_fine s Roles m = found_fine role_rules (λ row. refl) (λ row. refl) (λ s n. refl) (λ s. refl) s m (λ old. take_out role_rules s m) (λ old e. record {
  puts = puts_and s (map prefix_rules.view (prefixes_without_role m s.prefixes.rows)) (map range_rules.view (ranges_without_role m s.ranges.rows))
      (again_fine prefix_rules (λ row. refl) (λ row. refl) (λ s n. refl) (λ s. refl) s (prefix_without_role m) (λ row. is_named m row.role) s.prefixes.rows (λ x. refl) (λ x c. c))
      (again_fine range_rules (λ row. refl) (λ row. refl) (λ s n. refl) (λ s. refl) s (range_without_role m) (λ row. is_named m row.role) s.ranges.rows (λ x. refl) (λ x c. c));
  next = tt;
})
delete_fine s Aggregates m = found_fine aggregate_rules (λ row. refl) (λ row. refl) (λ s n. refl) (λ s. refl) s m (λ old. take_out aggregate_rules s m) (λ old e. record { puts = tt; next = tt })
delete_fine s Prefixes m = found_fine prefix_rules (λ row. refl) (λ row. refl) (λ s n. refl) (λ s. refl) s m (λ old. take_out prefix_rules s m) (λ old e. record { puts = tt; next = tt })
delete_fine s Ranges m = found_fine range_rules (λ row. refl) (λ row. refl) (λ s n. refl) (λ s. refl) s m (λ old. take_out range_rules s m) (λ old e. record { puts = tt; next = tt })
delete_fine s Addresses m = found_fine address_rules (λ row. refl) (λ row. refl) (λ s n. refl) (λ s. refl) s m (λ old. take_out address_rules s m) (λ old e. record { puts = tt; next = tt })

list_fine : (s : State) (filter : Filter) (limit offset : ℕ) → IsFine s (list_plan s filter limit offset).update
list_fine s (SomeVrfs name rd) limit offset = nothing_fine s
list_fine s filter limit offset = nothing_fine s

get_fine : (s : State) (own : Kind) (m : ℕ) → IsFine s (plan_of s (Get own m)).update
get_fine s Vrfs m = found_fine vrf_rules (λ row. refl) (λ row. refl) (λ s n. refl) (λ s. refl) s m _ (λ row f. nothing_fine s)
get_fine s Rirs m = found_fine rir_rules (λ row. refl) (λ row. refl) (λ s n. refl) (λ s. refl) s m _ (λ row f. nothing_fine s)
get_fine s Roles m = found_fine role_rules (λ row. refl) (λ row. refl) (λ s n. refl) (λ s. refl) s m _ (λ row f. nothing_fine s)
get_fine s Aggregates m = found_fine aggregate_rules (λ row. refl) (λ row. refl) (λ s n. refl) (λ s. refl) s m _ (λ row f. nothing_fine s)
get_fine s Prefixes m = found_fine prefix_rules (λ row. refl) (λ row. refl) (λ s n. refl) (λ s. refl) s m _ (λ row f. nothing_fine s)
get_fine s Ranges m = found_fine range_rules (λ row. refl) (λ row. refl) (λ s n. refl) (λ s. refl) s m _ (λ row f. nothing_fine s)
get_fine s Addresses m = found_fine address_rules (λ row. refl) (λ row. refl) (λ s n. refl) (λ s. refl) s m _ (λ row f. nothing_fine s)

utilization_fine : (s : State) (own : Kind) (m : ℕ) → IsFine s (utilization_plan s own m).update
utilization_fine s Aggregates m = found_fine aggregate_rules (λ row. refl) (λ row. refl) (λ s n. refl) (λ s. refl) s m _ (λ row f. nothing_fine s)
utilization_fine s Prefixes m = found_fine prefix_rules (λ row. refl) (λ row. refl) (λ s n. refl) (λ s. refl) s m _ (λ row f. nothing_fine s)
utilization_fine s Ranges m = found_fine range_rules (λ row. refl) (λ row. refl) (λ s n. refl) (λ s. refl) s m _ (λ row f. nothing_fine s)
utilization_fine s own m = nothing_fine s

-- ---- imports

record IsBeyond (old : State) (own : Kind) (so : Progress) : Type 0 where
  next : next_of old own ≤ next_of so.state own
  made : AllByRecursion (λ v. IsFineId old (view_kind v) (view_id v)) so.made

row_beyond : (old : State) (so : Progress) (row : ImportRow) → IsBeyond old (kind_of_row row) so → IsBeyond old (kind_of_row row) (with_draft true so (draft_of old row))
row_beyond old so (VrfRow name rd enforce_unique description) h = record { next = (let g = h.next in omega arith); made = all_behind (λ v. IsFineId old (view_kind v) (view_id v)) so.made _ h.made (inr h.next) }
row_beyond old so (RirRow name slug is_private description) h = record { next = (let g = h.next in omega arith); made = all_behind (λ v. IsFineId old (view_kind v) (view_id v)) so.made _ h.made (inr h.next) }
row_beyond old so (RoleRow name slug weight description) h = record { next = (let g = h.next in omega arith); made = all_behind (λ v. IsFineId old (view_kind v) (view_id v)) so.made _ h.made (inr h.next) }
row_beyond old so (AggregateRow block rir description) h = record { next = (let g = h.next in omega arith); made = all_behind (λ v. IsFineId old (view_kind v) (view_id v)) so.made _ h.made (inr h.next) }
row_beyond old so (PrefixRow block vrf status role is_pool mark_utilized description) h = record { next = (let g = h.next in omega arith); made = all_behind (λ v. IsFineId old (view_kind v) (view_id v)) so.made _ h.made (inr h.next) }
row_beyond old so (RangeRow start end vrf status role mark_utilized mark_populated description) h = record { next = (let g = h.next in omega arith); made = all_behind (λ v. IsFineId old (view_kind v) (view_id v)) so.made _ h.made (inr h.next) }
row_beyond old so (AddressRow host vrf status role dns_name description) h = record { next = (let g = h.next in omega arith); made = all_behind (λ v. IsFineId old (view_kind v) (view_id v)) so.made _ h.made (inr h.next) }

more_beyond : (old : State) (own : Kind) (so : Progress) (row : ImportRow) → kind_of_row row ≡ own → IsBeyond old own so → IsBeyond old own (after_row old own so row)
more_beyond old own so row e h = go (makes_one old own so.seen (draft_of old row))
  where
    go : (t : Bool) → IsBeyond old own (with_draft t so (draft_of old row))
    go true = subst (λ (k : Kind). IsBeyond old k so → IsBeyond old k (with_draft true so (draft_of old row))) e (row_beyond old so row) h
    go false = record { next = h.next; made = h.made }

all_beyond : (old : State) (own : Kind) (so : Progress) (rows : List ImportRow) → AreOfKind own rows → IsBeyond old own so → IsBeyond old own (after_rows old own so rows)
all_beyond old own so [] q h = h
all_beyond old own so (row ∷ rows) q h = all_beyond old own (after_row old own so row) rows q.1 (more_beyond old own so row q.0 h)

import_fine : (s : State) (own : Kind) (rows : List ImportRow) → verdict_of (import_plan s own rows) ≡ None → IsFine s (import_plan s own rows).update
import_fine s own rows v =
    let few : Option Refusal = too_many ManyRows most_rows (length rows) in
    let verdicts : List (Option Refusal) = row_verdicts s own (begun s) 1 rows in
    let none = none_rest few verdicts (none_left (few ∷ verdicts) (no_log s.spent (items_of rows) ∷ []) v) in
    let b = all_beyond s own (begun s) rows (of_kind s own (begun s) 1 rows none) (record { next = omega arith; made = tt }) in
    record { puts = b.made; next = (b.next, tt) }

-- ---- all calls

plan_fine : (s : State) (call : Call) → verdict s call ≡ None → IsFine s (plan_of s call).update
plan_fine s (ListOf own filter limit offset) v = list_fine s filter limit offset
plan_fine s (Get own m) v = get_fine s own m
plan_fine s (Create draft) v = create_fine s draft
plan_fine s (Change m edit) v = kind_fine s m edit (kind_of_edit edit)
plan_fine s (Delete own m) v = delete_fine s own m
plan_fine s (BlocksOf m limit) v = found_fine prefix_rules (λ row. refl) (λ row. refl) (λ s n. refl) (λ s. refl) s m _ (λ row f. nothing_fine s)
plan_fine s (PrefixAddrs m limit) v = found_fine prefix_rules (λ row. refl) (λ row. refl) (λ s n. refl) (λ s. refl) s m _ (λ row f. nothing_fine s)
plan_fine s (RangeAddrs m limit) v = found_fine range_rules (λ row. refl) (λ row. refl) (λ s n. refl) (λ s. refl) s m _ (λ row f. nothing_fine s)
plan_fine s (ClaimBlocks m form items) v = found_fine prefix_rules (λ row. refl) (λ row. refl) (λ s n. refl) (λ s. refl) s m (claim_blocks_of s form items)
    (λ row f. claim_fine prefix_rules (λ row. refl) (λ row. refl) (λ s n. refl) (λ s. refl) s (flat_map (told_of_block s row) items) (length items) form (claimed_prefixes row s.prefixes.next items (fits_of row.block (child_blocks s.prefixes.rows row) (lengths_of items)))
    (prefixes_follow row s.prefixes.next items (fits_of row.block (child_blocks s.prefixes.rows row) (lengths_of items))))
plan_fine s (ClaimPrefixAddrs m form items) v = found_fine prefix_rules (λ row. refl) (λ row. refl) (λ s n. refl) (λ s. refl) s m (λ row. claim_addresses_of s form items row.vrf row.block.len row.block.family (usable_in s row))
    (λ row f. claim_fine address_rules (λ row. refl) (λ row. refl) (λ s n. refl) (λ s. refl) s (flat_map (told_of_address row.block.family) items) (length items) form (claimed_addresses row.vrf row.block.len s.addresses.next items (addressed row.block.family (usable_in s row)))
    (addresses_follow row.vrf row.block.len s.addresses.next items (addressed row.block.family (usable_in s row))))
plan_fine s (ClaimRangeAddrs m form items) v = found_fine range_rules (λ row. refl) (λ row. refl) (λ s n. refl) (λ s. refl) s m (λ row. claim_addresses_of s form items row.vrf row.ends.len row.ends.start.family (usable_of_range s row))
    (λ row f. claim_fine address_rules (λ row. refl) (λ row. refl) (λ s n. refl) (λ s. refl) s (flat_map (told_of_address row.ends.start.family) items) (length items) form (claimed_addresses row.vrf row.ends.len s.addresses.next items (addressed row.ends.start.family (usable_of_range s row)))
    (addresses_follow row.vrf row.ends.len s.addresses.next items (addressed row.ends.start.family (usable_of_range s row))))
plan_fine s (Utilization own m) v = utilization_fine s own m
plan_fine s (Import own rows) v = import_fine s own rows v
plan_fine s (Export own) v = nothing_fine s
plan_fine s Survey v = nothing_fine s

module _ {T : Type 0} (rules : KindRules T) (w : Stand rules)
    (is_there : (s : State) (n : ℕ) → by_kind rules.kind (λ U other. is_some (row_at other.id (other.row_list s).rows n)) ≡ is_some (row_at rules.id (rules.row_list s).rows n))
    (is_next : (s : State) → next_of s rules.kind ≡ (rules.row_list s).next) where
  ids_new : IdsOfKindAreNew rules
  ids_new s call =
      let f = outcome_fine rules w s (plan_of s call) (plan_fine s call) in
      (f.next, λ x c. elim (f.each x c) [ inl e ↦ inl (sym (is_there s (rules.id x)) ∙ e) | inr l ↦ (let n = is_next s in inr (omega arith)) ])

pub ids_are_new : IdsAreNew
ids_are_new = record {
  vrfs = ids_new vrf_rules vrfs_stand (λ s n. refl) (λ s. refl);
  rirs = ids_new rir_rules rirs_stand (λ s n. refl) (λ s. refl);
  roles = ids_new role_rules roles_stand (λ s n. refl) (λ s. refl);
  aggregates = ids_new aggregate_rules aggregates_stand (λ s n. refl) (λ s. refl);
  prefixes = ids_new prefix_rules prefixes_stand (λ s n. refl) (λ s. refl);
  ranges = ids_new range_rules ranges_stand (λ s n. refl) (λ s. refl);
  addresses = ids_new address_rules addresses_stand (λ s n. refl) (λ s. refl);
}
