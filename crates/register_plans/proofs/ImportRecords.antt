-- One record of an import, as its plan has it.
use Rattle.std.proofs.Common.{◌≡◌, ◌∙◌, ℕ, ◌+◌, ◌≤◌, true, List, [], ◌∷◌, ◌++◌, length, map, Option, Some, None, refl, ap, ap₂, sym, subst, arith, inr}
use Rattle.ipam_data.specs.declared.calls.Draft.{Draft}
use Rattle.ipam_data.specs.declared.calls.Draft.TheVariants.{Vrf as VrfDraft, Rir as RirDraft, Role as RoleDraft, Aggregate as AggregateDraft, Prefix as PrefixDraft, IpRange as RangeDraft, IpAddress as AddressDraft}
use Rattle.ipam_data.specs.declared.kinds.Kind.{Kind}
use Rattle.ipam_data.specs.declared.replies.Rule.{Rule}
use Rattle.ipam_data.specs.declared.replies.Refusal.{Refusal}
use Rattle.ipam_data.specs.declared.replies.Refusal.TheVariants.{Field, Rule as Breaks}
use Rattle.ipam_data.specs.declared.replies.FieldName.TheVariants as member
use Rattle.ipam_data.specs.declared.replies.View.{View}
use Rattle.ipam_data.specs.declared.replies.View.TheVariants.{Vrf as VrfView, Rir as RirView, Role as RoleView, Aggregate as AggregateView, Prefix as PrefixView, IpRange as RangeView, IpAddress as AddressView}
use Rattle.ipam_data.specs.Rows.{same_kind, HasVrfBounds, HasRirBounds, HasRoleBounds, HasAggregateBounds, HasPrefixBounds, HasRangeBounds, HasAddressBounds}
use Rattle.ipam_data.specs.RowList.{AllBelow}
use Rattle.ipam_data.specs.Checks.{first, breaks}
use Rattle.ipam_data.specs.State.{State}
use Rattle.ipam_data.specs.Plans.{KindRules, call_faults, broken, no_seats, creation}
use Rattle.ipam_data.specs.Vrfs.{vrf_rules}
use Rattle.ipam_data.specs.Rirs.{rir_rules}
use Rattle.ipam_data.specs.Roles.{role_rules}
use Rattle.ipam_data.specs.Aggregates.{aggregate_rules}
use Rattle.ipam_data.specs.Prefixes.{prefix_rules}
use Rattle.ipam_data.specs.Ranges.{range_rules, range_told}
use Rattle.ipam_data.specs.Addresses.{address_rules}
use Rattle.ipam_data.specs.ByKind.{by_view}
use Rattle.ipam_data.specs.Fields.{drafted, told_of_draft, kind_of_draft, HasDraftBounds}
use Rattle.ipam_data.specs.Steps.{next_for}
use Rattle.ipam_data.specs.Updates.{with_view, with_next, FitsOn, IsFit}
use Rattle.ipam_data.specs.Lawful.{IsLawful}
use Rattle.ipam_data.proofs.SameDrafts.{kinds}
use Rattle.ipam_data.proofs.Verdicts.{none_head, none_rest, none_broken, test_holds, none_right, room_from}
use Rattle.ipam_data.proofs.Sound.{IsSound}
use Rattle.ipam_data.proofs.DraftLaws.{drafted_next}
use Rattle.ipam_data.proofs.VrfLaws.{vrfs_sound}
use Rattle.ipam_data.proofs.RirLaws.{rirs_sound}
use Rattle.ipam_data.proofs.RoleLaws.{roles_sound}
use Rattle.ipam_data.proofs.AggregateLaws.{aggregates_sound}
use Rattle.ipam_data.proofs.PrefixLaws.{prefixes_sound}
use Rattle.ipam_data.proofs.RangeLaws.{ranges_sound}
use Rattle.ipam_data.proofs.AddressLaws.{addresses_sound}
use Rattle.ipam_data.specs.declared.imports.ImportRow.{ImportRow}
use Rattle.ipam_data.specs.declared.imports.ImportRow.TheVariants.{Vrf as VrfRow, Rir as RirRow, Role as RoleRow, Aggregate as AggregateRow, Prefix as PrefixRow, IpRange as RangeRow, IpAddress as AddressRow}
use Rattle.ipam_data.specs.Imports.{kind_of_row, kind_rule, name_rules, value_rules, draft_of, record_of, with_record, create_checks}
use Rattle.ipam_data.proofs.Verdicts.{none_left}
use Rattle.ipam_data.proofs.ImportLaws.{record_keeps}
use Rattle.register_tables.proofs.Firsts.{head_refuses, head_passes}
use Rattle.register_plans.specs.Broken.{first_broken}
use Rattle.register_plans.specs.ImportHalts.{rule_of, fault_of}

-- ---- a row that breaks a rule by itself

-- the first rule of the names, or else of the values
pub fault_named : (s : State) (row : ImportRow) (rule : Rule) → first (name_rules s row) ≡ Some rule → rule_of s row ≡ Some rule
fault_named s row rule e = head_refuses (name_rules s row) (value_rules row) rule e

pub fault_valued : (s : State) (row : ImportRow) → first (name_rules s row) ≡ None → rule_of s row ≡ first (value_rules row)
fault_valued s row e = head_passes (name_rules s row) (value_rules row) e

-- a row that is not refused by itself is of the kind, and breaks no such rule
pub record IsFaultless (s : State) (kind : Kind) (row : ImportRow) : Type 0 where
  pub is_of : kind_of_row row ≡ kind
  pub rule : rule_of s row ≡ None

pub faultless : (s : State) (kind : Kind) (row : ImportRow) → fault_of s kind row ≡ None → IsFaultless s kind row
faultless s kind row e = record {
  is_of = (kinds (kind_of_row row) kind).0 (test_holds (same_kind (kind_of_row row) kind) (Field member.Row) (none_head (kind_rule kind row) (breaks (rule_of s row) ∷ []) e));
  rule = none_broken (rule_of s row) (none_head (breaks (rule_of s row)) [] (none_rest (kind_rule kind row) (breaks (rule_of s row) ∷ []) e));
}

-- of the draft of a row that breaks none nothing is told
pub nothing_told : (s : State) (row : ImportRow) → rule_of s row ≡ None → first (told_of_draft (draft_of s row)) ≡ None
nothing_told s (VrfRow name rd enforce_unique description) e = refl
nothing_told s (RirRow name slug is_private description) e = refl
nothing_told s (RoleRow name slug weight description) e = refl
nothing_told s (AggregateRow block rir description) e = refl
nothing_told s (PrefixRow block vrf status role is_pool mark_utilized description) e = refl
nothing_told s (RangeRow start end vrf status role mark_utilized mark_populated description) e =
    let row = RangeRow start end vrf status role mark_utilized mark_populated description in
    none_range (range_told start end) (value_rules row) refl (none_right (name_rules s row) (value_rules row) e)
  where
    none_range : (told all : List (Option Rule)) → all ≡ value_rules (RangeRow start end vrf status role mark_utilized mark_populated description) → first all ≡ None → first (range_told start end) ≡ None
    none_range told all same f = none_left (range_told start end) _ (ap first (sym same) ∙ f)
nothing_told s (AddressRow host vrf status role dns_name description) e = refl

-- ---- the record that a row makes

room_of : {T : Type 0} (rules : KindRules T) (s : State) (told : List (Option Rule)) (row : T) → first (creation rules s told row) ≡ None → (rules.row_list s).next + 1 ≤ 4294967295
room_of rules s told row v =
    (room_from rules.kind rules.most (length (rules.row_list s).rows) (rules.row_list s).next 1 (none_right (broken rules s None told row) (no_seats rules s 1) v)).ids

view_room : (s : State) (told : List (Option Rule)) (view : View) → first (by_view view (λ T rules row. creation rules s told row)) ≡ None → by_view view (λ T rules row. (rules.row_list s).next) + 1 ≤ 4294967295
view_room s told (VrfView row) v = room_of vrf_rules s told row v
view_room s told (RirView row) v = room_of rir_rules s told row v
view_room s told (RoleView row) v = room_of role_rules s told row v
view_room s told (AggregateView row) v = room_of aggregate_rules s told row v
view_room s told (PrefixView row depth children) v = room_of prefix_rules s told row v
view_room s told (RangeView row) v = room_of range_rules s told row v
view_room s told (AddressView row) v = room_of address_rules s told row v

same_next : (s : State) (d : Draft) → by_view (record_of s d) (λ T rules row. (rules.row_list s).next) ≡ next_for s d
same_next s (VrfDraft name rd enforce_unique description) = refl
same_next s d = refl

pub next_room : (s : State) (d : Draft) → first (create_checks true s d) ≡ None → next_for s d + 1 ≤ 4294967295
next_room s d v = let room = view_room s (told_of_draft d) (record_of s d) v in let same = same_next s d in omega arith

fits : {T : Type 0} (rules : KindRules T) (Bounds : T → Type 0) → IsSound rules Bounds → (s : State) (told : List (Option Rule)) (row : T) → IsLawful s
    → rules.id row ≡ (rules.row_list s).next → first (creation rules s told row) ≡ None → FitsOn rules s row
fits {T} rules Bounds sound s told row h e v =
    let top = room_of rules s told row v in
    let kept = sound.row_list s h in
    let low = kept.next_low in
    record { low = omega arith; high = omega arith; place = inr (subst (λ (n : ℕ). AllBelow rules.id n (rules.row_list s).rows) (sym e) kept.below) }

view_fits : (s : State) (told : List (Option Rule)) (view : View) → IsLawful s → by_view view (λ T rules row. rules.id row) ≡ by_view view (λ T rules row. (rules.row_list s).next)
    → first (by_view view (λ T rules row. creation rules s told row)) ≡ None → IsFit s view
view_fits s told (VrfView row) h e v = fits vrf_rules HasVrfBounds vrfs_sound s told row h e v
view_fits s told (RirView row) h e v = fits rir_rules HasRirBounds rirs_sound s told row h e v
view_fits s told (RoleView row) h e v = fits role_rules HasRoleBounds roles_sound s told row h e v
view_fits s told (AggregateView row) h e v = fits aggregate_rules HasAggregateBounds aggregates_sound s told row h e v
view_fits s told (PrefixView row depth children) h e v = fits prefix_rules HasPrefixBounds prefixes_sound s told row h e v
view_fits s told (RangeView row) h e v = fits range_rules HasRangeBounds ranges_sound s told row h e v
view_fits s told (AddressView row) h e v = fits address_rules HasAddressBounds addresses_sound s told row h e v

pub record_fits : (s : State) (d : Draft) → IsLawful s → first (create_checks true s d) ≡ None → IsFit s (record_of s d)
record_fits s d h v = view_fits s (told_of_draft d) (record_of s d) h (drafted_next s d) v

-- what is put, with the next id past it, is the state with the record
pub record_put : (s : State) (d : Draft) → with_next (with_view s (record_of s d)) (kind_of_draft d, next_for s d + 1) ≡ with_record s d
record_put s (VrfDraft name rd enforce_unique description) = refl
record_put s (RirDraft name slug is_private description) = refl
record_put s (RoleDraft name slug weight description) = refl
record_put s (AggregateDraft block rir description) = refl
record_put s (PrefixDraft block vrf status role is_pool mark_utilized description) = refl
record_put s (RangeDraft start end vrf status role mark_utilized mark_populated description) = refl
record_put s (AddressDraft host vrf status role dns_name description) = refl

-- ---- the checks of a record

module _ {T : Type 0} (rules : KindRules T) (s : State) where
  creation_is : (row : T) → first (broken rules s None [] row) ≡ breaks (first_broken rules s None row)
  creation_is row = firsts (rules.references s row ++ [] ++ call_faults rules s None row) ∙ ap (λ (xs : List (Option Rule)). breaks (first xs)) (joined (rules.references s row))
    where
      firsts : (xs : List (Option Rule)) → first (map breaks xs) ≡ breaks (first xs)
      firsts [] = refl
      firsts (None ∷ xs) = firsts xs
      firsts (Some rule ∷ xs) = refl

      joined : (xs : List (Option Rule)) → xs ++ [] ++ call_faults rules s None row ≡ xs ++ call_faults rules s None row
      joined [] = refl
      joined (x ∷ xs) = ap (λ (zs : List (Option Rule)). x ∷ zs) (joined xs)

  pub creation_broken : (row : T) (rule : Rule) → first_broken rules s None row ≡ Some rule → first (creation rules s [] row) ≡ Some (Breaks rule)
  creation_broken row rule e = head_refuses (broken rules s None [] row) (no_seats rules s 1) (Breaks rule) (creation_is row ∙ ap breaks e)

  pub creation_free : (row : T) → first_broken rules s None row ≡ None → first (creation rules s [] row) ≡ first (no_seats rules s 1)
  creation_free row e = head_passes (broken rules s None [] row) (no_seats rules s 1) (creation_is row ∙ ap breaks e)

  -- what was told is nothing
  untold : (told : List (Option Rule)) (row : T) → first told ≡ None → first (creation rules s [] row) ≡ first (creation rules s told row)
  untold told row t = go (rules.references s row)
    where
      skip : (xs : List (Option Rule)) → first xs ≡ None → first (map breaks (call_faults rules s None row) ++ no_seats rules s 1) ≡ first (map breaks (xs ++ call_faults rules s None row) ++ no_seats rules s 1)
      skip [] e = refl
      skip (None ∷ xs) e = skip xs e
      skip (Some x ∷ xs) e = cc

      go : (xs : List (Option Rule)) → first (map breaks (xs ++ [] ++ call_faults rules s None row) ++ no_seats rules s 1) ≡ first (map breaks (xs ++ told ++ call_faults rules s None row) ++ no_seats rules s 1)
      go [] = skip told t
      go (None ∷ xs) = go xs
      go (Some x ∷ xs) = refl

view_untold : (s : State) (told : List (Option Rule)) (view : View) → first told ≡ None
    → by_view view (λ T rules row. first (creation rules s [] row)) ≡ first (by_view view (λ T rules row. creation rules s told row))
view_untold s told (VrfView row) t = untold vrf_rules s told row t
view_untold s told (RirView row) t = untold rir_rules s told row t
view_untold s told (RoleView row) t = untold role_rules s told row t
view_untold s told (AggregateView row) t = untold aggregate_rules s told row t
view_untold s told (PrefixView row depth children) t = untold prefix_rules s told row t
view_untold s told (RangeView row) t = untold range_rules s told row t
view_untold s told (AddressView row) t = untold address_rules s told row t

-- what is found of the record of a draft of which nothing is told are the checks of an import
pub checks_are : (s : State) (d : Draft) (view : View) (found : Option Refusal) → first (told_of_draft d) ≡ None → view ≡ record_of s d
    → found ≡ by_view view (λ T rules row. first (creation rules s [] row)) → found ≡ first (create_checks true s d)
checks_are s d view found t v f =
    f ∙ ap (λ (x : View). by_view x (λ T rules row. first (creation rules s [] row))) v ∙ view_untold s (told_of_draft d) (record_of s d) t

-- ---- the record that was made

-- the state after its record was put and the next id set past it
pub put_leads : (s new : State) (d : Draft) (view : View) (kind : Kind) (id : ℕ) → view ≡ drafted id d → kind ≡ kind_of_draft d → id ≡ next_for s d
    → new ≡ with_next (with_view s view) (kind, id + 1) → new ≡ with_record s d
put_leads s new d view kind id v k i e =
    e ∙ ap₂ (λ (x : View) (n : Kind × ℕ). with_next (with_view s x) n) (v ∙ ap (λ (n : ℕ). drafted n d) i) (ap₂ (λ (x : Kind) (n : ℕ). (x, n + 1)) k i) ∙ record_put s d

-- it is lawful
pub made_lawful : (s new : State) (d : Draft) → IsLawful s → HasDraftBounds d → first (create_checks true s d) ≡ None → new ≡ with_record s d → IsLawful new
made_lawful s new d h b v e = subst IsLawful (sym e) (record_keeps s d h b v)
