-- Which addresses the spans of ranges have, said of the rows that they are of.
use Rattle.std.proofs.Common.{◌≡◌, ℕ, ◌==◌, ◌&&◌, ◌||◌, Bool, true, false, cond, nat_le, List, [], ◌∷◌, refl, ap, sym, ◌∙◌, map, filter, IsPermutation}
use Rattle.std.specs.List.{list_any}
use Rattle.std.proofs.lemmas.List.Sorted.{list_any-IsPermutation}
use Rattle.inet_num.specs.declared.Family.{Family}
use Rattle.inet_num.specs.declared.Span.{Span}
use Rattle.inet_num.specs.Blocks.{same_family}
use Rattle.block_space.specs.Usable.{is_in_span, is_in_spans}
use Rattle.ipam_data.specs.declared.kinds.Table.{Table}
use Rattle.ipam_data.specs.declared.prefix.Prefix.{Prefix}
use Rattle.ipam_data.specs.declared.range.IpRange.{IpRange}
use Rattle.ipam_data.specs.Tables.{table_of, same_table}
use Rattle.ip_ranges.specs.declared.SpanKind.{SpanKind}
use Rattle.ip_ranges.specs.declared.SpanKind.TheVariants.{Utilized, Populated}
use Rattle.ipam_data.specs.Claims.{has_number, is_beside, is_withheld, is_marked}
use Rattle.ip_ranges.specs.Spans.{is_spanned, span_of, spans_of_rows, AreSpansOf}
use Rattle.register_claims.proofs.HostTests.{any_same, any_made}

-- some span has the number where some row that the spans are of has it
in_spans : (rows : List IpRange) (table : Table) (family : Family) (which : SpanKind) (spans : List Span) (a : ℕ) → AreSpansOf rows table family which spans
    → is_in_spans spans a ≡ list_any (λ r. is_spanned table family which r && has_number r a) rows
in_spans rows table family which spans a h =
    list_any-IsPermutation (is_in_span a) spans (spans_of_rows rows table family which) h.0
    ∙ any_made span_of (is_spanned table family which) (is_in_span a) rows

marked_same : (u t m s : Bool) → ((u && t && m) && s) ≡ (m && (u && t) && s)
marked_same true true true s = refl
marked_same true true false s = refl
marked_same true false true s = refl
marked_same true false false s = refl
marked_same false true true s = refl
marked_same false true false s = refl
marked_same false false true s = refl
marked_same false false false s = refl

pub withheld_in_spans : (rows : List IpRange) (row : Prefix) (spans : List Span) → AreSpansOf rows (table_of row.vrf) row.block.family Populated spans → (a : ℕ) → is_in_spans spans a ≡ is_withheld rows row a
withheld_in_spans rows row spans h a =
    in_spans rows (table_of row.vrf) row.block.family Populated spans a h
    ∙ any_same (λ r. is_spanned (table_of row.vrf) row.block.family Populated r && has_number r a) (λ r. r.mark_populated && is_beside row r && has_number r a) rows
    (λ r. marked_same (same_table (table_of r.vrf) (table_of row.vrf)) (same_family r.ends.start.family row.block.family) r.mark_populated (has_number r a))

pub marked_in_spans : (rows : List IpRange) (row : Prefix) (spans : List Span) → AreSpansOf rows (table_of row.vrf) row.block.family Utilized spans → (a : ℕ) → is_in_spans spans a ≡ is_marked rows row a
marked_in_spans rows row spans h a =
    in_spans rows (table_of row.vrf) row.block.family Utilized spans a h
    ∙ any_same (λ r. is_spanned (table_of row.vrf) row.block.family Utilized r && has_number r a) (λ r. r.mark_utilized && is_beside row r && has_number r a) rows
    (λ r. marked_same (same_table (table_of r.vrf) (table_of row.vrf)) (same_family r.ends.start.family row.block.family) r.mark_utilized (has_number r a))
