use Rattle.std.proofs.Common.{List, ◌∷◌, ◌++◌, [], ap, sym, subst, ◌∙◌}
use Rattle.std.proofs.lemmas.Option.{get_or_from_slice_get, slice_get_within}
use Rattle.ipam_data.specs.declared.prefix.Prefix.{Prefix}
use Rattle.ipam_data.specs.RowList.{AllBelow}
use Rattle.ipam_data.specs.Rows.{prefix_id}
use Rattle.register_tables.specs.Held.{state_of}
use Rattle.snapshot_rows.specs.Lists.{Lists}
use Rattle.snapshot_rows.proofs.Placing.{below_front, one_more}
use Rattle.snapshot_rows.proofs.filling.admit_prefixes.Goals as goal

pub admit_prefix-requires-clause-low : goal.admit_prefix-requires-clause-low
admit_prefix-requires-clause-low g c =
    let x = c.in-Some.row.now in
    let rows = c.args.book.now.rows in
    let found = sym c.in-Some.ensures in
    (below_front prefix_id 0 rows c.loop-index.index x c.len-index-end.ensures.ordered (slice_get_within rows c.loop-index.index x found) (sym (get_or_from_slice_get rows c.loop-index.index x x found))).1

pub admit_prefix-requires-clause-above : goal.admit_prefix-requires-clause-above
admit_prefix-requires-clause-above g c =
    let x = c.in-Some.row.now in
    let rows = c.args.book.now.rows in
    let found = sym c.in-Some.ensures in
    let below = (below_front prefix_id 0 rows c.loop-index.index x c.len-index-end.ensures.ordered (slice_get_within rows c.loop-index.index x found) (sym (get_or_from_slice_get rows c.loop-index.index x x found))).0 in
    subst (AllBelow prefix_id x.id) (sym (ap (λ (l : Lists). l.prefixes) c.loop-index.invariant)) below

pub loop-index-preserved : goal.loop-index-preserved
loop-index-preserved g c =
    let x = c.in-Some.row.now in
    let rows = c.args.book.now.rows in
    let found = sym c.in-Some.ensures in
    c.in_ok-admit_prefix.ensures
    ∙ (ap (λ (l : Lists). record { vrfs = l.vrfs; prefixes = l.prefixes ++ x ∷ [] }) c.loop-index.invariant
    ∙ ap (λ (rows : List Prefix). record { vrfs = (state_of c.args.tables.now).vrfs.rows; prefixes = rows })
    (one_more rows c.loop-index.index x (slice_get_within rows c.loop-index.index x found) (sym (get_or_from_slice_get rows c.loop-index.index x x found))))
