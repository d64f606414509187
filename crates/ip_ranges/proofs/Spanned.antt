-- The spans of a table's ranges from the entries of its lane, and what a crossing is among entries.
use Rattle.std.proofs.Common.{◌≡◌, ℕ, suc, ◌+◌, ◌<◌, ◌≤◌, ◌==◌, ◌&&◌, nat_lt, nat_le, not, Bool, true, false, List, [], ◌∷◌, Option, None, Some, length, get_or, option_map, refl, ap, sym, ◌∙◌, arith}
use Rattle.std.specs.List.{count_by}
use Rattle.std.specs.List.Sorted.{IsNonDecreasingBy}
use Rattle.std.proofs.lemmas.Bool.Decides.{nat_tests}
use Rattle.inet_num.specs.declared.Family.{Family}
use Rattle.inet_num.specs.declared.Span.{Span}
use Rattle.inet_num.specs.Net.{Address}
use Rattle.inet_num.specs.Blocks.{same_family}
use Rattle.inet_num.proofs.Insides.{both, one_family}
use Rattle.block_space.specs.Usable.{AreApart, is_in_span}
use Rattle.ipam_data.specs.declared.kinds.Table.{Table}
use Rattle.ipam_data.specs.declared.kinds.Table.TheVariants.{Global, Of}
use Rattle.ipam_data.specs.declared.range.IpRange.{IpRange}
use Rattle.ipam_data.specs.Rows.{range_id}
use Rattle.ipam_data.specs.Tables.{table_of, same_table}
use Rattle.ipam_data.specs.RowList.{AllAre, IsApart, Rises, is_rival, least, least_rival, row_at, with_row, without}
use Rattle.ipam_data.specs.Ranges.{crosses, is_populated_at, ShareAddress}
use Rattle.ipam_data.specs.Lawful.{IsRange}
use Rattle.ip_ranges.specs.declared.SpanKind.{SpanKind}
use Rattle.ip_ranges.specs.declared.SpanKind.TheVariants.{All, Populated}
use Rattle.ip_ranges.specs.declared.tracks.Entry.{Entry}
use Rattle.ip_ranges.specs.Spans.{is_meant, is_spanned, span_of, spans_of_rows, AreSpansOf}
use Rattle.ip_ranges.specs.Tracks.{lane_of, entry_of, spot_of, is_in_lane, is_met, is_same, lane_spans, passes, one, one_of, IsKept, IsTrackOf}
use Rattle.ip_ranges.proofs.Counts.{count_cons, count_yes, count_same, count_picked, none_contained, none_found, by_counts}
use Rattle.ip_ranges.proofs.Rows.{count_without, count_with, at_least_once, at_most_once}
use Rattle.ip_ranges.proofs.Lanes.{lane_same}
use Rattle.ip_ranges.proofs.Entries.{is_same-refl, same_span, same_span-is, same_span-refl}

-- ---- crossings

-- a range crosses another one just where its entry meets the other's
pub met_is : (row other : IpRange) → is_met (entry_of row) (entry_of other) ≡ crosses row other
met_is row other = ap (λ (b : Bool). b && nat_le other.ends.start.value row.ends.end.value && nat_le row.ends.start.value other.ends.end.value) (lane_same (table_of other.vrf) (table_of row.vrf) other.ends.start.family row.ends.start.family)

-- where no entry is met, no other range crosses
pub no_rival : (rows : List IpRange) (entries : List Entry) (row : IpRange) (e : Entry) → IsTrackOf All rows entries → e ≡ entry_of row → count_by (is_met e) entries ≡ 0 → least_rival range_id crosses rows row ≡ None
no_rival rows entries row e t is n =
    let none = none_found (is_rival range_id crosses row) (passes All (is_met e))
    (λ x a. ap (λ (f : Entry). is_met f (entry_of x)) is ∙ met_is row x ∙ (both (not (range_id x == range_id row)) (crosses row x) a).1) rows (sym (t (is_met e)) ∙ n) in
    ap (option_map range_id) none

-- ---- one address

shuffle : (m s f l h : Bool) → (m && (s && f && l && h)) ≡ (m && s && (f && l && h))
shuffle true true true l h = refl
shuffle true true false l h = refl
shuffle true false f l h = refl
shuffle false s f l h = refl

-- a range is populated and has the address just where its entry is meant and meets the address
pub filled_is : (table : Table) (a : Address) (row : IpRange) → passes Populated (is_met (spot_of table a)) row ≡ is_populated_at table a row
filled_is table a row =
    let low = nat_le row.ends.start.value a.value in
    let high = nat_le a.value row.ends.end.value in
    ap (λ (b : Bool). row.mark_populated && (b && low && high)) (lane_same (table_of row.vrf) table row.ends.start.family a.family)
    ∙ shuffle row.mark_populated (same_table (table_of row.vrf) table) (same_family row.ends.start.family a.family) low high

-- where no entry is met, no populated range has the address
pub none_populated : (rows : List IpRange) (entries : List Entry) (table : Table) (a : Address) (e : Entry) → IsTrackOf Populated rows entries → e ≡ spot_of table a → count_by (is_met e) entries ≡ 0
    → least range_id (is_populated_at table a) rows ≡ None
none_populated rows entries table a e t is n =
    let none = none_found (is_populated_at table a) (passes Populated (is_met e))
    (λ x p. ap (λ (f : Entry). passes Populated (is_met f) x) is ∙ filled_is table a x ∙ p) rows (sym (t (is_met e)) ∙ n) in
    ap (option_map range_id) none

-- ---- the tracks of rows that change

-- the entry of a row that is there and meant
pub is_noted : (which : SpanKind) (rows : List IpRange) (entries : List Entry) (n : ℕ) (row : IpRange) (e : Entry) → IsTrackOf which rows entries → row_at range_id rows n ≡ Some row → is_meant which row ≡ true
    → e ≡ entry_of row → 1 ≤ count_by (is_same e) entries
is_noted which rows entries n row e t at meant is =
    let itself : is_same e (entry_of row) ≡ true = ap (is_same e) (sym is) ∙ is_same-refl e in
    let there = at_least_once (passes which (is_same e)) rows n row at (ap (λ (b : Bool). b && is_same e (entry_of row)) meant ∙ itself) in
    let as_many = t (is_same e) in
    omega arith

pub cut_track : (which : SpanKind) (rows new : List IpRange) (old kept : List Entry) (n : ℕ) → Rises range_id 0 rows → IsTrackOf which rows old
    → ((p : Entry → Bool) → count_by p kept + one_of (passes which p) (row_at range_id rows n) ≡ count_by p old) → new ≡ without range_id rows n → IsTrackOf which new kept
cut_track which rows new old kept n r t gone is = λ p. (
    let a = t p in
    let b = gone p in
    let c = count_without (passes which p) 0 rows n r in
    let d = ap (count_by (passes which p)) is in
    omega arith
    )

pub put_track : (which : SpanKind) (rows new : List IpRange) (old kept noted : List Entry) (row : IpRange) (n : ℕ) → n ≡ row.id → IsTrackOf which rows old
    → ((p : Entry → Bool) → count_by p kept + one_of (passes which p) (row_at range_id rows n) ≡ count_by p old)
    → ((p : Entry → Bool) → count_by p noted ≡ count_by p kept + one (passes which p row)) → new ≡ with_row range_id rows row → IsTrackOf which new noted
put_track which rows new old kept noted row n id t gone more is = λ p. (
    let a = t p in
    let b = gone p in
    let c = more p in
    let d = count_with (passes which p) rows row in
    let e = ap (count_by (passes which p)) is in
    let f = ap (λ m. one_of (passes which p) (row_at range_id rows m)) id in
    omega arith
    )

pub kept_track : (which : SpanKind) (rows new : List IpRange) (entries : List Entry) (row : IpRange) → IsTrackOf which rows entries → IsKept rows row → new ≡ with_row range_id rows row → IsTrackOf which new entries
kept_track which rows new entries row t kept is = λ p. (
    let a = t p in
    let b = kept which p in
    let d = count_with (passes which p) rows row in
    let e = ap (count_by (passes which p)) is in
    omega arith
    )

-- ---- spans

spanned_is : (table : Table) (family : Family) (which : SpanKind) (p : Span → Bool) (row : IpRange)
    → passes which (λ e. is_in_lane (lane_of table family) e && p e.span) row ≡ (is_spanned table family which row && p (span_of row))
spanned_is table family which p row =
    ap (λ (b : Bool). is_meant which row && (b && p (span_of row))) (lane_same (table_of row.vrf) table row.ends.start.family family)
    ∙ turned (same_table (table_of row.vrf) table && same_family row.ends.start.family family) (is_meant which row) (p (span_of row))
  where
    turned : (a b c : Bool) → (b && (a && c)) ≡ (a && b && c)
    turned true true c = refl
    turned true false c = refl
    turned false true c = refl
    turned false false c = refl

-- each test passes as many spans of the lane as of the ranges
pub lane_counts : (rows : List IpRange) (entries : List Entry) (table : Table) (family : Family) (which : SpanKind) → IsTrackOf which rows entries
    → (p : Span → Bool) → count_by p (lane_spans (lane_of table family) entries) ≡ count_by p (spans_of_rows rows table family which)
lane_counts rows entries table family which t p =
    count_picked (λ e. e.span) (is_in_lane (lane_of table family)) p entries
    ∙ t (λ e. is_in_lane (lane_of table family) e && p e.span)
    ∙ count_same (passes which (λ e. is_in_lane (lane_of table family) e && p e.span)) (λ row. is_spanned table family which row && p (span_of row)) (spanned_is table family which p) rows
    ∙ sym (count_picked span_of (is_spanned table family which) p rows)

abbrev backward : Span → Bool
backward s = nat_lt s.last.value s.first.value

forward_head : (x : Span) (xs : List Span) → count_by backward (x ∷ xs) ≡ 0 → x.first.value ≤ x.last.value
forward_head x xs b = go (backward x) refl where
  go : (t : Bool) → backward x ≡ t → x.first.value ≤ x.last.value
  go true t = let c = count_yes backward x xs t in absurd (omega arith)
  go false t = grind (arith, nat_tests, t)

in_both : (x y : Span) (ys : List Span) → x.first.value ≤ y.first.value → y.first.value ≤ y.last.value → y.first.value ≤ x.last.value
    → count_by (is_in_span y.first.value) (x ∷ y ∷ ys) ≤ 1 → ⊥
in_both x y ys a b c o =
    let p : is_in_span y.first.value x ≡ true = grind (arith, nat_tests) in
    let q : is_in_span y.first.value y ≡ true = grind (arith, nat_tests) in
    let n = count_yes (is_in_span y.first.value) x (y ∷ ys) p in
    let m = count_yes (is_in_span y.first.value) y ys q in
    omega arith

-- spans that rise, none of which ends before it begins, are apart where no address is in two
apart_from : (from : ℕ) (spans : List Span) → IsNonDecreasingBy (λ s. s.first.value) spans → count_by backward spans ≡ 0
    → ((a : ℕ) → count_by (is_in_span a) spans ≤ 1) → ((d : Span) → 0 < length spans → from ≤ (get_or spans 0 d).first.value) → AreApart from spans
apart_from from [] s b o f = tt
apart_from from (x ∷ []) s b o f = (f x (omega arith), forward_head x [] b, tt)
apart_from from (x ∷ y ∷ ys) s b o f =
    let c = count_cons backward x (y ∷ ys) in
    let up : x.first.value ≤ y.first.value = s 0 1 x (omega arith) (omega arith) in
    let later : count_by backward (y ∷ ys) ≡ 0 = omega arith in
    let rest = apart_from (x.last.value + 1) (y ∷ ys) (λ i j d le l. s (suc i) (suc j) d (omega arith) (omega arith)) later
    (λ a. (let n = count_cons (is_in_span a) x (y ∷ ys) in let m = o a in omega arith)) (λ d l. next up (forward_head y ys later) (nat_lt x.last.value y.first.value) refl) in
    (f x (omega arith), forward_head x (y ∷ ys) b, rest)
  where
    next : x.first.value ≤ y.first.value → y.first.value ≤ y.last.value → (t : Bool) → nat_lt x.last.value y.first.value ≡ t → x.last.value + 1 ≤ y.first.value
    next up on true t = let h : x.last.value < y.first.value = grind (arith, nat_tests, t) in omega arith
    next up on false t = let h : y.first.value ≤ x.last.value = grind (arith, nat_tests, t) in absurd (in_both x y ys up on h (o y.first.value))

-- ---- of rows that share no address

same_vrf : (a b : Option ℕ) (table : Table) → same_table (table_of a) table ≡ true → same_table (table_of b) table ≡ true → a ≡ b
same_vrf None None t e f = refl
same_vrf None (Some b) Global e f = cc
same_vrf None (Some b) (Of n) e f = cc
same_vrf (Some a) None Global e f = cc
same_vrf (Some a) None (Of n) e f = cc
same_vrf (Some a) (Some b) Global e f = cc
same_vrf (Some a) (Some b) (Of n) e f = (let p : a ≡ n = grind (arith, nat_tests) in let q : b ≡ n = grind (arith, nat_tests) in ap Some (p ∙ sym q))

-- what a range of the lane that has an address is
pub record IsHolder (table : Table) (family : Family) (a : ℕ) (row : IpRange) : Type 0 where
  pub table_is : same_table (table_of row.vrf) table ≡ true
  pub family_is : row.ends.start.family ≡ family
  pub from : row.ends.start.value ≤ a
  pub to : a ≤ row.ends.end.value

holder : (table : Table) (family : Family) (which : SpanKind) (a : ℕ) (row : IpRange) → (is_spanned table family which row && is_in_span a (span_of row)) ≡ true → IsHolder table family a row
holder table family which a row e =
    let h = both (is_spanned table family which row) (is_in_span a (span_of row)) e in
    let k = both (same_table (table_of row.vrf) table && same_family row.ends.start.family family) (is_meant which row) h.0 in
    let m = both (same_table (table_of row.vrf) table) (same_family row.ends.start.family family) k.0 in
    let n = both (nat_le row.ends.start.value a) (nat_le a row.ends.end.value) h.1 in
    let p = n.0 in
    let q = n.1 in
    record { table_is = m.0; family_is = one_family row.ends.start.family family m.1; from = grind (arith, nat_tests); to = grind (arith, nat_tests) }

share : (table : Table) (family : Family) (a : ℕ) (x y : IpRange) → IsHolder table family a x → IsHolder table family a y → ShareAddress x y
share table family a x y h k = record {
  table = same_vrf x.vrf y.vrf table h.table_is k.table_is;
  address = record { family = family; value = a };
  in_first = record { family = sym h.family_is; from = h.from; to = h.to };
  in_second = record { family = sym k.family_is; from = k.from; to = k.to };
}

-- each address is in one of the spans at most
once : (rows : List IpRange) (table : Table) (family : Family) (which : SpanKind) → Rises range_id 0 rows → IsApart range_id ShareAddress rows
    → (a : ℕ) → count_by (is_in_span a) (spans_of_rows rows table family which) ≤ 1
once rows table family which r apart a =
    let test : IpRange → Bool = λ row. is_spanned table family which row && is_in_span a (span_of row) in
    let most = at_most_once test 0 rows r (λ x y c d e f. apart x y c d (share table family a x y (holder table family which a x e) (holder table family which a y f))) in
    let same = count_picked span_of (is_spanned table family which) (is_in_span a) rows in
    omega arith

-- none ends before it begins
none_backward : (rows : List IpRange) (table : Table) (family : Family) (which : SpanKind) → AllAre IsRange rows → count_by backward (spans_of_rows rows table family which) ≡ 0
none_backward rows table family which each =
    let test : IpRange → Bool = λ row. is_spanned table family which row && backward (span_of row) in
    count_picked span_of (is_spanned table family which) backward rows ∙ none_contained test rows (λ y c. go y (each y c) (test y) refl)
  where
    go : (y : IpRange) → IsRange y → (t : Bool) → (is_spanned table family which y && backward (span_of y)) ≡ t → (is_spanned table family which y && backward (span_of y)) ≡ false
    go y h true t =
        let b = (both (is_spanned table family which y) (backward (span_of y)) t).1 in
        let less : y.ends.end.value < y.ends.start.value = grind (arith, nat_tests, b) in
        let order = h.order in
        absurd (omega arith)
    go y h false t = t

pub are_spans : (rows : List IpRange) (entries : List Entry) (spans : List Span) (table : Table) (family : Family) (which : SpanKind) → Rises range_id 0 rows → AllAre IsRange rows
    → IsApart range_id ShareAddress rows → IsTrackOf which rows entries → spans ≡ lane_spans (lane_of table family) entries → IsNonDecreasingBy (λ s. s.first.value) spans → AreSpansOf rows table family which spans
are_spans rows entries spans table family which r each apart t e rises =
    let counts : (p : Span → Bool) → count_by p spans ≡ count_by p (spans_of_rows rows table family which) = λ p. ap (count_by p) e ∙ lane_counts rows entries table family which t p in (
      by_counts same_span same_span-is same_span-refl spans (spans_of_rows rows table family which) counts,
      apart_from 0 spans rises (counts backward ∙ none_backward rows table family which each)
          (λ a. (let n = counts (is_in_span a) in let m = once rows table family which r apart a in omega arith)) (λ d l. omega arith),
    )
