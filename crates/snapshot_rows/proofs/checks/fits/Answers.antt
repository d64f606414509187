use Rattle.std.proofs.Common.{rules, ◌≡◌, ◌<◌, ◌≤◌, None, IsSome, sym, subst}
use Rattle.ipam_data.specs.declared.replies.View.{View}
use Rattle.ipam_data.specs.Rows.{vrf_id, prefix_id}
use Rattle.ipam_data.specs.RowList.{row_at, row_after}
use Rattle.ipam_data.specs.Updates.{with_view, IsFit}
use Rattle.register_tables.specs.Held.{state_of}
use Rattle.snapshot_rows.specs.Ahead.{IsAhead}
use Rattle.snapshot_rows.proofs.Fitting.{vrf_stays, vrf_comes, prefix_stays, prefix_comes}
use Rattle.snapshot_rows.proofs.checks.fits.Goals as goal

pub returns-then-is_some : goal.returns-then-is_some
returns-then-is_some c = λ s h.
    let before = state_of c.args.tables.now in
    let row = c.in-Vrf.row in
    let low : 1 ≤ row.id = search rules in
    let high : row.id < 4294967296 = search rules in
    let there : IsSome (row_at vrf_id before.vrfs.rows row.id) = search rules in
    subst (λ (v : View). IsFit s v × IsAhead before (with_view s v) c.args.lasts) (sym c.in-Vrf.is) (vrf_stays before s c.args.lasts row h low high there)

pub returns-then-is_some-3 : goal.returns-then-is_some-3
returns-then-is_some-3 c = λ s h.
    let before = state_of c.args.tables.now in
    let row = c.in-Prefix.row in
    let low : 1 ≤ row.id = search rules in
    let high : row.id < 4294967296 = search rules in
    let there : IsSome (row_at prefix_id before.prefixes.rows row.id) = search rules in
    subst (λ (v : View). IsFit s v × IsAhead before (with_view s v) c.args.lasts) (sym c.in-Prefix.is) (prefix_stays before s c.args.lasts row c.in-Prefix.depth c.in-Prefix.children h low high there)

pub returns-else-id-lasts : goal.returns-else-id-lasts
returns-else-id-lasts c = λ s h.
    let before = state_of c.args.tables.now in
    let row = c.in-Vrf.row in
    let low : 1 ≤ row.id = search rules in
    let high : row.id < 4294967296 = search rules in
    let none : row_at vrf_id before.vrfs.rows row.id ≡ None = search rules in
    let after : row_after vrf_id before.vrfs.rows row.id ≡ None = search rules in
    subst (λ (v : View). IsFit s v × IsAhead before (with_view s v) (record { vrf = row.id; prefix = c.args.lasts.prefix })) (sym c.in-Vrf.is) (vrf_comes before s c.args.lasts row h low high none after c.if-id-lasts.false)

pub returns-else-id-lasts-2 : goal.returns-else-id-lasts-2
returns-else-id-lasts-2 c = λ s h.
    let before = state_of c.args.tables.now in
    let row = c.in-Prefix.row in
    let low : 1 ≤ row.id = search rules in
    let high : row.id < 4294967296 = search rules in
    let none : row_at prefix_id before.prefixes.rows row.id ≡ None = search rules in
    let after : row_after prefix_id before.prefixes.rows row.id ≡ None = search rules in
    subst (λ (v : View). IsFit s v × IsAhead before (with_view s v) (record { vrf = c.args.lasts.vrf; prefix = row.id })) (sym c.in-Prefix.is) (prefix_comes before s c.args.lasts row c.in-Prefix.depth c.in-Prefix.children h low high none after c.if-id-lasts-2.false)
