-- An import leads to the state that its rows lead to one after another; so it leaves a lawful one.
use Rattle.std.proofs.Common.{◌≡◌, ℕ, ◌+◌, Bool, true, false, List, [], ◌∷◌, ◌++◌, length, map, fold, Option, Some, None, option_map, refl, ap, sym, ◌∙◌, subst}
use Rattle.std.specs.List.{AllByRecursion}
use Rattle.ipam_data.specs.declared.kinds.Kind.{Kind}
use Rattle.ipam_data.specs.declared.kinds.Kind.TheVariants.{Vrfs, Rirs, Roles, Aggregates, Prefixes, Ranges, Addresses}
use Rattle.ipam_data.specs.declared.calls.Draft.{Draft}
use Rattle.ipam_data.specs.declared.calls.Draft.TheVariants.{Vrf as VrfDraft, Rir as RirDraft, Role as RoleDraft, Aggregate as AggregateDraft, Prefix as PrefixDraft, IpRange as RangeDraft, IpAddress as AddressDraft}
use Rattle.ipam_data.specs.declared.imports.ImportRow.{ImportRow}
use Rattle.ipam_data.specs.declared.imports.ImportRow.TheVariants.{Vrf as VrfRow, Rir as RirRow, Role as RoleRow, Aggregate as AggregateRow, Prefix as PrefixRow, IpRange as RangeRow, IpAddress as AddressRow}
use Rattle.ipam_data.specs.declared.replies.Rule.{Rule}
use Rattle.ipam_data.specs.declared.replies.Refusal.{Refusal}
use Rattle.ipam_data.specs.declared.replies.View.{View}
use Rattle.ipam_data.specs.declared.replies.View.TheVariants.{Vrf as VrfView, Rir as RirView, Role as RoleView, Aggregate as AggregateView, Prefix as PrefixView, IpRange as RangeView, IpAddress as AddressView}
use Rattle.ipam_data.specs.Rows.{same_kind, HasVrfBounds, HasRirBounds, HasRoleBounds, HasAggregateBounds, HasPrefixBounds, HasRangeBounds, HasAddressBounds}
use Rattle.ipam_data.specs.declared.replies.Refusal.TheVariants.{Field}
use Rattle.ipam_data.specs.declared.replies.FieldName.TheVariants as member
use Rattle.ipam_data.specs.declared.replies.Which.TheVariants.{Rows}
use Rattle.ipam_data.specs.Checks.{first, breaks, too_many, no_log}
use Rattle.ipam_data.specs.State.{State, verdict_of}
use Rattle.ipam_data.specs.Plans.{KindRules, creation, add_row}
use Rattle.ipam_data.specs.Vrfs.{vrf_rules}
use Rattle.ipam_data.specs.Rirs.{rir_rules}
use Rattle.ipam_data.specs.Roles.{role_rules}
use Rattle.ipam_data.specs.Aggregates.{aggregate_rules}
use Rattle.ipam_data.specs.Prefixes.{prefix_rules}
use Rattle.ipam_data.specs.Ranges.{range_rules}
use Rattle.ipam_data.specs.Addresses.{address_rules}
use Rattle.ipam_data.specs.Updates.{with_view, with_next, with_spent, updated, outcome}
use Rattle.ipam_data.specs.ByKind.{by_view}
use Rattle.ipam_data.specs.Fields.{drafted, next_for, told_of_draft, HasDraftBounds}
use Rattle.ipam_data.specs.Lawful.{IsLawful}
use Rattle.ipam_data.specs.Imports.{most_rows, kind_of_row, kind_rule, next_of, name_rules, value_rules, draft_of, Progress, begun, makes_one, with_record, with_draft, after_row, after_rows, at_row, create_checks, row_checks, row_verdict, row_verdicts, items_of, import_plan, HasRowBounds}
use Rattle.ipam_data.proofs.Verdicts.{none_head, none_rest, none_left, none_right, test_holds}
use Rattle.ipam_data.proofs.SameDrafts.{kinds}
use Rattle.ipam_data.proofs.Ties.{IsTied, add_behind, puts_append, vrfs_tied, rirs_tied, roles_tied, aggregates_tied, prefixes_tied, ranges_tied, addresses_tied}
use Rattle.ipam_data.proofs.Sound.{log_from, spent_keeps, outcome_keeps, add_keeps}
use Rattle.ipam_data.proofs.DraftLaws.{drafted_next, drafted_bounds, HasRowBounds as HasViewBounds}
use Rattle.ipam_data.proofs.VrfLaws.{vrfs_sound}
use Rattle.ipam_data.proofs.RirLaws.{rirs_sound}
use Rattle.ipam_data.proofs.RoleLaws.{roles_sound}
use Rattle.ipam_data.proofs.AggregateLaws.{aggregates_sound}
use Rattle.ipam_data.proofs.PrefixLaws.{prefixes_sound}
use Rattle.ipam_data.proofs.RangeLaws.{ranges_sound}
use Rattle.ipam_data.proofs.AddressLaws.{addresses_sound}

-- ---- the kind of the rows

-- all rows are of the kind
abbrev pub AreOfKind : Kind → List ImportRow → Type 0
AreOfKind kind rows = AllByRecursion (λ row. kind_of_row row ≡ kind) rows

pub none_mapped : {A B : Type 0} (f : A → B) (r : Option A) → option_map f r ≡ None → r ≡ None
none_mapped f None e = refl
none_mapped f (Some x) e = cc

-- so they are where none is refused
pub of_kind : (old : State) (kind : Kind) (so : Progress) (n : ℕ) (rows : List ImportRow) → first (row_verdicts old kind so n rows) ≡ None → AreOfKind kind rows
of_kind old kind so n [] v = tt
of_kind old kind so n (row ∷ rows) v =
    let rest : List (Option Refusal) = row_verdicts old kind (after_row old kind so row) (n + 1) rows in
    let values : List (Option Refusal) = map breaks (value_rules row) in
    let creates : List (Option Refusal) = create_checks (makes_one old kind so.seen (draft_of old row)) so.state (draft_of old row) in
    let names : List (Option Refusal) = map breaks (name_rules old row) in
    let one = none_mapped (at_row n) (first (row_checks old kind so row)) (none_head (row_verdict old kind so n row) rest v) in (
      (kinds (kind_of_row row) kind).0 (test_holds (same_kind (kind_of_row row) kind) (Field member.Row) (none_head (kind_rule kind row) (names ++ (values ++ creates)) one)),
      of_kind old kind (after_row old kind so row) (n + 1) rows (none_rest (row_verdict old kind so n row) rest v),
    )

-- ---- the records that were made, and the next id, lead to the state

pub record IsMade (old : State) (kind : Kind) (so : Progress) : Type 0 where
  pub leads : with_next (fold with_view old so.made) (kind, next_of so.state kind) ≡ so.state

-- one record more
step : {T : Type 0} (rules : KindRules T) → IsTied rules → (old : State) (so : Progress) (seen : List Draft) (row : T)
    → next_of so.state rules.kind ≡ (rules.row_list so.state).next → next_of (add_row rules so.state row) rules.kind ≡ (rules.row_list so.state).next + 1
    → IsMade old rules.kind so → IsMade old rules.kind (record { state = add_row rules so.state row; seen = seen; made = so.made ++ rules.view row ∷ [] })
step {T} rules tied old so seen row here then h =
    let put : State = fold with_view old so.made in
    let n = (rules.row_list so.state).next in
    let before : with_next put (rules.kind, n) ≡ so.state = ap (λ (m : ℕ). with_next put (rules.kind, m)) (sym here) ∙ h.leads in
    record {
      leads =
          ap (λ (m : ℕ). with_next (fold with_view old (so.made ++ rules.view row ∷ [])) (rules.kind, m)) then
          ∙ ap (λ (t : State). with_next t (rules.kind, n + 1)) (puts_append old so.made (rules.view row ∷ []))
          ∙ add_behind rules tied put n row
          ∙ ap (λ (t : State). add_row rules t row) before;
    }

made_row : (old : State) (so : Progress) (row : ImportRow) → IsMade old (kind_of_row row) so → IsMade old (kind_of_row row) (with_draft true so (draft_of old row))
made_row old so (VrfRow name rd enforce_unique description) h = step vrf_rules vrfs_tied old so _ _ refl refl h
made_row old so (RirRow name slug is_private description) h = step rir_rules rirs_tied old so _ _ refl refl h
made_row old so (RoleRow name slug weight description) h = step role_rules roles_tied old so _ _ refl refl h
made_row old so (AggregateRow block rir description) h = step aggregate_rules aggregates_tied old so _ _ refl refl h
made_row old so (PrefixRow block vrf status role is_pool mark_utilized description) h = step prefix_rules prefixes_tied old so _ _ refl refl h
made_row old so (RangeRow start end vrf status role mark_utilized mark_populated description) h = step range_rules ranges_tied old so _ _ refl refl h
made_row old so (AddressRow host vrf status role dns_name description) h = step address_rules addresses_tied old so _ _ refl refl h

pub made_more : (old : State) (kind : Kind) (so : Progress) (row : ImportRow) → kind_of_row row ≡ kind → IsMade old kind so → IsMade old kind (after_row old kind so row)
made_more old kind so row e h = go (makes_one old kind so.seen (draft_of old row))
  where
    go : (t : Bool) → IsMade old kind (with_draft t so (draft_of old row))
    go true = subst (λ (k : Kind). IsMade old k so → IsMade old k (with_draft true so (draft_of old row))) e (made_row old so row) h
    go false = record { leads = h.leads }

pub made_all : (old : State) (kind : Kind) (so : Progress) (rows : List ImportRow) → AreOfKind kind rows → IsMade old kind so → IsMade old kind (after_rows old kind so rows)
made_all old kind so [] q h = h
made_all old kind so (row ∷ rows) q h = made_all old kind (after_row old kind so row) rows q.1 (made_more old kind so row q.0 h)

pub begun_made : (s : State) (kind : Kind) → IsMade s kind (begun s)
begun_made s Vrfs = record { leads = refl }
begun_made s Rirs = record { leads = refl }
begun_made s Roles = record { leads = refl }
begun_made s Aggregates = record { leads = refl }
begun_made s Prefixes = record { leads = refl }
begun_made s Ranges = record { leads = refl }
begun_made s Addresses = record { leads = refl }

-- ---- log items

record_spent : (s : State) (d : Draft) → (with_record s d).spent ≡ s.spent
record_spent s (VrfDraft name rd enforce_unique description) = refl
record_spent s (RirDraft name slug is_private description) = refl
record_spent s (RoleDraft name slug weight description) = refl
record_spent s (AggregateDraft block rir description) = refl
record_spent s (PrefixDraft block vrf status role is_pool mark_utilized description) = refl
record_spent s (RangeDraft start end vrf status role mark_utilized mark_populated description) = refl
record_spent s (AddressDraft host vrf status role dns_name description) = refl

spent_more : (old : State) (kind : Kind) (so : Progress) (row : ImportRow) → (after_row old kind so row).state.spent ≡ so.state.spent
spent_more old kind so row = go (makes_one old kind so.seen (draft_of old row))
  where
    go : (t : Bool) → (with_draft t so (draft_of old row)).state.spent ≡ so.state.spent
    go true = record_spent so.state (draft_of old row)
    go false = refl

pub spent_all : (old : State) (kind : Kind) (so : Progress) (rows : List ImportRow) → (after_rows old kind so rows).state.spent ≡ so.state.spent
spent_all old kind so [] = refl
spent_all old kind so (row ∷ rows) = spent_all old kind (after_row old kind so row) rows ∙ spent_more old kind so row

-- ---- lawful states

-- a record that no check of a creation refuses, but for the log, leaves a lawful state
view_added : (s : State) (told : List (Option Rule)) (view : View) → IsLawful s → by_view view (λ T rules row. rules.id row) ≡ by_view view (λ T rules row. (rules.row_list s).next)
    → (first told ≡ None → HasViewBounds view) → first (by_view view (λ T rules row. creation rules s told row)) ≡ None → IsLawful (by_view view (λ T rules row. add_row rules s row))
view_added s told (VrfView row) h e b v = add_keeps vrf_rules HasVrfBounds vrfs_sound s told row h e b v
view_added s told (RirView row) h e b v = add_keeps rir_rules HasRirBounds rirs_sound s told row h e b v
view_added s told (RoleView row) h e b v = add_keeps role_rules HasRoleBounds roles_sound s told row h e b v
view_added s told (AggregateView row) h e b v = add_keeps aggregate_rules HasAggregateBounds aggregates_sound s told row h e b v
view_added s told (PrefixView row depth children) h e b v = add_keeps prefix_rules HasPrefixBounds prefixes_sound s told row h e b v
view_added s told (RangeView row) h e b v = add_keeps range_rules HasRangeBounds ranges_sound s told row h e b v
view_added s told (AddressView row) h e b v = add_keeps address_rules HasAddressBounds addresses_sound s told row h e b v

pub record_keeps : (s : State) (d : Draft) → IsLawful s → HasDraftBounds d → first (create_checks true s d) ≡ None → IsLawful (with_record s d)
record_keeps s d h b v = view_added s (told_of_draft d) (drafted (next_for s d) d) h (drafted_next s d) (drafted_bounds (next_for s d) d b) v

pub draft_bounds : (s : State) (row : ImportRow) → HasRowBounds row → HasDraftBounds (draft_of s row)
draft_bounds s (VrfRow name rd enforce_unique description) b = b
draft_bounds s (RirRow name slug is_private description) b = b
draft_bounds s (RoleRow name slug weight description) b = b
draft_bounds s (AggregateRow block rir description) b = b
draft_bounds s (PrefixRow block vrf status role is_pool mark_utilized description) b = b
draft_bounds s (RangeRow start end vrf status role mark_utilized mark_populated description) b = b
draft_bounds s (AddressRow host vrf status role dns_name description) b = b

pub rows_keep : (old : State) (kind : Kind) (so : Progress) (n : ℕ) (rows : List ImportRow) → IsLawful so.state → AllByRecursion HasRowBounds rows
    → first (row_verdicts old kind so n rows) ≡ None → IsLawful (after_rows old kind so rows).state
rows_keep old kind so n [] h b v = h
rows_keep old kind so n (row ∷ rows) h b v =
    let d = draft_of old row in
    let rest : List (Option Refusal) = row_verdicts old kind (after_row old kind so row) (n + 1) rows in
    let values : List (Option Refusal) = map breaks (value_rules row) in
    let creates : List (Option Refusal) = create_checks (makes_one old kind so.seen d) so.state d in
    let names : List (Option Refusal) = map breaks (name_rules old row) in
    let one = none_mapped (at_row n) (first (row_checks old kind so row)) (none_head (row_verdict old kind so n row) rest v) in
    let checks = none_right values creates (none_right names (values ++ creates) (none_rest (kind_rule kind row) (names ++ (values ++ creates)) one)) in
    rows_keep old kind (after_row old kind so row) (n + 1) rows (go (makes_one old kind so.seen d) checks) b.1 (none_rest (row_verdict old kind so n row) rest v)
  where
    go : (t : Bool) → first (create_checks t so.state (draft_of old row)) ≡ None → IsLawful (with_draft t so (draft_of old row)).state
    go true e = record_keeps so.state (draft_of old row) h (draft_bounds old row b.0) e
    go false e = h

-- the state that an import leads to is that of its rows, with its log items
pub import_leads : (s : State) (kind : Kind) (rows : List ImportRow) → AreOfKind kind rows → updated s (import_plan s kind rows).update ≡ with_spent (after_rows s kind (begun s) rows).state (items_of rows)
import_leads s kind rows q = ap (λ (t : State). with_spent t (items_of rows)) (made_all s kind (begun s) rows q (begun_made s kind)).leads

pub import_keeps : (s : State) (kind : Kind) (rows : List ImportRow) → IsLawful s → AllByRecursion HasRowBounds rows → IsLawful (outcome s (import_plan s kind rows)).0
import_keeps s kind rows h b = outcome_keeps s (import_plan s kind rows) h after
  where
    after : verdict_of (import_plan s kind rows) ≡ None → IsLawful (updated s (import_plan s kind rows).update)
    after v =
        let few : Option Refusal = too_many Rows most_rows (length rows) in
        let verdicts : List (Option Refusal) = row_verdicts s kind (begun s) 1 rows in
        let log : List (Option Refusal) = no_log s.spent (items_of rows) ∷ [] in
        let done = (after_rows s kind (begun s) rows).state in
        let none = none_rest few verdicts (none_left (few ∷ verdicts) log v) in
        let kept : IsLawful done = rows_keep s kind (begun s) 1 rows h b none in
        let room = log_from s.spent (items_of rows) (none_right (few ∷ verdicts) log v) in
        subst IsLawful (sym (import_leads s kind rows (of_kind s kind (begun s) 1 rows none))) (spent_keeps done (items_of rows) kept (rw (spent_all s kind (begun s) rows) room))
