use Rattle.std.proofs.Common.{◌≡◌, ℕ, ap, sym, ◌∙◌, option_map}
use Rattle.block_space.specs.Listed.{times_of}
use Rattle.ipam_data.specs.RowList.{least}
use Rattle.number_pools.specs.Free.{holds, pool_of}
use Rattle.number_pools.specs.Rows.{member_id}
use Rattle.pool_rows.specs.Held.{Held}
use Rattle.pool_rows.proofs.Holders.{key_at, no_holder}
use Rattle.pool_rows.proofs.rows.PoolRows.holder.Goals as goal

pub returns-then-times-eq0 : goal.returns-then-times-eq0
returns-then-times-eq0 c =
    let now = c.self.inside in
    let pool = pool_of c.args.range.now in
    let n = c.args.number in
    let key : c.key_at.result ≡ key_at pool n = c.key_at.ensures ∙ ap (λ (p : ℕ). key_at p n) c.pool_of-pool.ensures in
    let none : times_of now.taken.blocks (key_at pool n) ≡ 0 = ap (times_of now.taken.blocks) (sym key) ∙ sym c.times.ensures ∙ c.if-times-eq0.true in
    let found = no_holder now.ranges.rows now.members.rows pool n now.taken.blocks c.self.invariant.0 none in
    sym (ap (λ (h : Held). least member_id (holds h.pools.ranges.rows pool n) h.pools.members.rows) (sym c.self.view_is) ∙ ap (option_map member_id) found)
