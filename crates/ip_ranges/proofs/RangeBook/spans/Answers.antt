use Rattle.std.proofs.Common.{ℕ, List, ap, sym, subst, ◌∙◌}
use Rattle.ipam_data.specs.declared.range.IpRange.{IpRange}
use Rattle.ipam_data.specs.Rows.{range_id}
use Rattle.ipam_data.specs.RowList.{Rises}
use Rattle.placed_book.specs.RowBook.{Book}
use Rattle.ip_ranges.specs.declared.SpanKind.{SpanKind}
use Rattle.ip_ranges.specs.declared.SpanKind.TheVariants.{All, Utilized, Populated}
use Rattle.ip_ranges.specs.Spans.{AreSpansOf}
use Rattle.ip_ranges.specs.Tracks.{lane_spans, IsTrackOf}
use Rattle.ip_ranges.proofs.Spanned.{are_spans}
use Rattle.ip_ranges.proofs.RangeBook.spans.Goals as goal

pub returns-in-All : goal.returns-in-All
returns-in-All c =
    let entries = c.self.inside.all.entries in
    let rows = c.args.self.now.rows in
    let rows_is = ap (λ (b : Book IpRange). b.rows) c.self.view_is in
    let ordered = subst (Rises range_id 0) rows_is c.in_order.ensures.ordered in
    let track = subst (λ (xs : List IpRange). IsTrackOf All xs entries) rows_is c.self.invariant.4 in
    let spans_are = c.lane.ensures.spans ∙ ap (λ (l : ℕ). lane_spans l entries) c.lane_of-lane.ensures.lane in
    subst (λ (w : SpanKind). AreSpansOf rows c.args.table c.args.family w c.lane.result.now) (sym c.in-All.is)
    (are_spans rows entries c.lane.result.now c.args.table c.args.family All ordered c.requires.each c.requires.apart track spans_are c.lane.ensures.rises)

pub returns-in-Utilized : goal.returns-in-Utilized
returns-in-Utilized c =
    let entries = c.self.inside.utilized.entries in
    let rows = c.args.self.now.rows in
    let rows_is = ap (λ (b : Book IpRange). b.rows) c.self.view_is in
    let ordered = subst (Rises range_id 0) rows_is c.in_order.ensures.ordered in
    let track = subst (λ (xs : List IpRange). IsTrackOf Utilized xs entries) rows_is c.self.invariant.5 in
    let spans_are = c.lane-in-Utilized.ensures.spans ∙ ap (λ (l : ℕ). lane_spans l entries) c.lane_of-lane.ensures.lane in
    subst (λ (w : SpanKind). AreSpansOf rows c.args.table c.args.family w c.lane-in-Utilized.result.now) (sym c.in-Utilized.is)
    (are_spans rows entries c.lane-in-Utilized.result.now c.args.table c.args.family Utilized ordered c.requires.each c.requires.apart track spans_are c.lane-in-Utilized.ensures.rises)

pub returns-in-Populated : goal.returns-in-Populated
returns-in-Populated c =
    let entries = c.self.inside.populated.entries in
    let rows = c.args.self.now.rows in
    let rows_is = ap (λ (b : Book IpRange). b.rows) c.self.view_is in
    let ordered = subst (Rises range_id 0) rows_is c.in_order.ensures.ordered in
    let track = subst (λ (xs : List IpRange). IsTrackOf Populated xs entries) rows_is c.self.invariant.6 in
    let spans_are = c.lane-in-Populated.ensures.spans ∙ ap (λ (l : ℕ). lane_spans l entries) c.lane_of-lane.ensures.lane in
    subst (λ (w : SpanKind). AreSpansOf rows c.args.table c.args.family w c.lane-in-Populated.result.now) (sym c.in-Populated.is)
    (are_spans rows entries c.lane-in-Populated.result.now c.args.table c.args.family Populated ordered c.requires.each c.requires.apart track spans_are c.lane-in-Populated.ensures.rises)
