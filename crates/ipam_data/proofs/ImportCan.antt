-- The update of an import that no check refuses may be made: its records are new ones, under the next ids.
use Rattle.std.proofs.Common.{◌≡◌, ℕ, ◌+◌, ◌<◌, Bool, true, false, List, [], ◌∷◌, ◌++◌, length, map, fold, Option, None, refl, ap, sym, ◌∙◌, subst, arith, inr}
use Rattle.std.specs.List.{AllByRecursion}
use Rattle.ipam_data.specs.declared.kinds.Kind.{Kind}
use Rattle.ipam_data.specs.declared.kinds.Kind.TheVariants.{Vrfs, Rirs, Roles, Aggregates, Prefixes, Ranges, Addresses}
use Rattle.ipam_data.specs.declared.imports.ImportRow.{ImportRow}
use Rattle.ipam_data.specs.declared.imports.ImportRow.TheVariants.{Vrf as VrfRow, Rir as RirRow, Role as RoleRow, Aggregate as AggregateRow, Prefix as PrefixRow, IpRange as RangeRow, IpAddress as AddressRow}
use Rattle.ipam_data.specs.declared.replies.Rule.{Rule}
use Rattle.ipam_data.specs.declared.replies.Refusal.{Refusal}
use Rattle.ipam_data.specs.declared.replies.Which.TheVariants.{Rows}
use Rattle.ipam_data.specs.RowList.{RowList, IsRowList, AllBelow}
use Rattle.ipam_data.specs.Checks.{first, breaks, too_many, no_log}
use Rattle.ipam_data.specs.State.{State, verdict_of}
use Rattle.ipam_data.specs.Plans.{KindRules, broken, no_seats, creation}
use Rattle.ipam_data.specs.Updates.{with_view, with_next, AreFit, CanUpdate}
use Rattle.ipam_data.specs.Vrfs.{vrf_rules}
use Rattle.ipam_data.specs.Rirs.{rir_rules}
use Rattle.ipam_data.specs.Roles.{role_rules}
use Rattle.ipam_data.specs.Aggregates.{aggregate_rules}
use Rattle.ipam_data.specs.Prefixes.{prefix_rules}
use Rattle.ipam_data.specs.Ranges.{range_rules, range_told}
use Rattle.ipam_data.specs.Addresses.{address_rules}
use Rattle.ipam_data.specs.Lawful.{IsLawful}
use Rattle.ipam_data.specs.Imports.{most_rows, kind_of_row, kind_rule, next_of, name_rules, value_rules, draft_of, Progress, begun, makes_one, with_draft, after_row, after_rows, at_row, create_checks, row_checks, row_verdict, row_verdicts, items_of, import_plan, HasRowBounds}
use Rattle.ipam_data.proofs.Verdicts.{none_head, none_rest, none_left, none_right, room_from}
use Rattle.ipam_data.proofs.Ties.{IsTied, fits_append, vrfs_tied, rirs_tied, roles_tied, aggregates_tied, prefixes_tied, ranges_tied, addresses_tied}
use Rattle.ipam_data.proofs.ImportLaws.{AreOfKind, of_kind, IsMade, made_more, begun_made, draft_bounds, none_mapped, rows_keep, record_keeps}

-- one record more fits beside those that were made
record_fits : {T : Type 0} (rules : KindRules T) → IsTied rules → (old : State) (so : Progress) (told : List (Option Rule)) (row : T) → next_of so.state rules.kind ≡ (rules.row_list so.state).next
    → IsRowList rules.id rules.most (rules.row_list so.state) → rules.id row ≡ (rules.row_list so.state).next → first (creation rules so.state told row) ≡ None
    → IsMade old rules.kind so → AreFit old so.made → AreFit old (so.made ++ rules.view row ∷ [])
record_fits {T} rules tied old so told row here row_list e v m f =
    let put : State = fold with_view old so.made in
    let n = (rules.row_list so.state).next in
    let room = room_from rules.kind rules.most (length (rules.row_list so.state).rows) n 1 (none_right (broken rules so.state None told row) (no_seats rules so.state 1) v) in
    let top = room.ids in
    let low = row_list.next_low in
    let leads : with_next put (rules.kind, n) ≡ so.state = ap (λ (k : ℕ). with_next put (rules.kind, k)) (sym here) ∙ m.leads in
    let rows : (rules.row_list so.state).rows ≡ (rules.row_list put).rows =
    ap (λ (t : State). (rules.row_list t).rows) (sym leads ∙ tied.next put n) ∙ ap (λ (kept : RowList T). kept.rows) (tied.given put (record { rows = (rules.row_list put).rows; next = n })) in
    let below : AllBelow rules.id (rules.id row) (rules.row_list put).rows =
    subst (λ (xs : List T). AllBelow rules.id (rules.id row) xs) rows (subst (λ (k : ℕ). AllBelow rules.id k (rules.row_list so.state).rows) (sym e) row_list.below) in
    fits_append old so.made (rules.view row ∷ []) f (tied.fit put row (record { low = omega arith; high = omega arith; place = inr below }), tt)

row_fits : (old : State) (so : Progress) (row : ImportRow) → IsLawful so.state → first (create_checks true so.state (draft_of old row)) ≡ None
    → IsMade old (kind_of_row row) so → AreFit old so.made → AreFit old (with_draft true so (draft_of old row)).made
row_fits old so (VrfRow name rd enforce_unique description) h v m f = record_fits vrf_rules vrfs_tied old so [] _ refl h.vrfs.row_list refl v m f
row_fits old so (RirRow name slug is_private description) h v m f = record_fits rir_rules rirs_tied old so [] _ refl h.rirs.row_list refl v m f
row_fits old so (RoleRow name slug weight description) h v m f = record_fits role_rules roles_tied old so [] _ refl h.roles.row_list refl v m f
row_fits old so (AggregateRow block rir description) h v m f = record_fits aggregate_rules aggregates_tied old so [] _ refl h.aggregates.row_list refl v m f
row_fits old so (PrefixRow block vrf status role is_pool mark_utilized description) h v m f = record_fits prefix_rules prefixes_tied old so [] _ refl h.prefixes.row_list refl v m f
row_fits old so (RangeRow start end vrf status role mark_utilized mark_populated description) h v m f = record_fits range_rules ranges_tied old so (range_told start end) _ refl h.ranges.row_list refl v m f
row_fits old so (AddressRow host vrf status role dns_name description) h v m f = record_fits address_rules addresses_tied old so [] _ refl h.addresses.row_list refl v m f

rows_fit : (old : State) (kind : Kind) (so : Progress) (n : ℕ) (rows : List ImportRow) → AreOfKind kind rows → AllByRecursion HasRowBounds rows → IsLawful so.state → IsMade old kind so → AreFit old so.made
    → first (row_verdicts old kind so n rows) ≡ None → AreFit old (after_rows old kind so rows).made
rows_fit old kind so n [] q b h m f v = f
rows_fit old kind so n (row ∷ rows) q b h m f v =
    let d = draft_of old row in
    let rest : List (Option Refusal) = row_verdicts old kind (after_row old kind so row) (n + 1) rows in
    let values : List (Option Refusal) = map breaks (value_rules row) in
    let creates : List (Option Refusal) = create_checks (makes_one old kind so.seen d) so.state d in
    let names : List (Option Refusal) = map breaks (name_rules old row) in
    let one = none_mapped (at_row n) (first (row_checks old kind so row)) (none_head (row_verdict old kind so n row) rest v) in
    let checks = none_right values creates (none_right names (values ++ creates) (none_rest (kind_rule kind row) (names ++ (values ++ creates)) one)) in
    rows_fit old kind (after_row old kind so row) (n + 1) rows q.1 b.1 (keeps (makes_one old kind so.seen d) checks) (made_more old kind so row q.0 m) (fits (makes_one old kind so.seen d) checks)
    (none_rest (row_verdict old kind so n row) rest v)
  where
    keeps : (t : Bool) → first (create_checks t so.state (draft_of old row)) ≡ None → IsLawful (with_draft t so (draft_of old row)).state
    keeps true e = record_keeps so.state (draft_of old row) h (draft_bounds old row b.0) e
    keeps false e = h

    fits : (t : Bool) → first (create_checks t so.state (draft_of old row)) ≡ None → AreFit old (with_draft t so (draft_of old row)).made
    fits true e = row_fits old so row h e (subst (λ (k : Kind). IsMade old k so) (sym q.0) m) f
    fits false e = f

next_low : (kind : Kind) (s : State) → IsLawful s → next_of s kind < 4294967296
next_low Vrfs s h = let top = h.vrfs.row_list.next_fits in omega arith
next_low Rirs s h = let top = h.rirs.row_list.next_fits in omega arith
next_low Roles s h = let top = h.roles.row_list.next_fits in omega arith
next_low Aggregates s h = let top = h.aggregates.row_list.next_fits in omega arith
next_low Prefixes s h = let top = h.prefixes.row_list.next_fits in omega arith
next_low Ranges s h = let top = h.ranges.row_list.next_fits in omega arith
next_low Addresses s h = let top = h.addresses.row_list.next_fits in omega arith

pub import_can : (s : State) (kind : Kind) (rows : List ImportRow) → IsLawful s → AllByRecursion HasRowBounds rows → verdict_of (import_plan s kind rows) ≡ None → CanUpdate s (import_plan s kind rows).update
import_can s kind rows h b v =
    let few : Option Refusal = too_many Rows most_rows (length rows) in
    let verdicts : List (Option Refusal) = row_verdicts s kind (begun s) 1 rows in
    let none = none_rest few verdicts (none_left (few ∷ verdicts) (no_log s.spent (items_of rows) ∷ []) v) in
    record {
      puts = rows_fit s kind (begun s) 1 rows (of_kind s kind (begun s) 1 rows none) b h (begun_made s kind) tt none;
      cuts = tt;
      next = (next_low kind (after_rows s kind (begun s) rows).state (rows_keep s kind (begun s) 1 rows h b none), tt);
    }
