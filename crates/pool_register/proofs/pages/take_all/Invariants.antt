use Rattle.std.proofs.Common.{◌≡◌, take, count_by}
use Rattle.ipam_data.specs.Pages.{page_of}
use Rattle.number_pools.specs.Steps.{is_listed}
use Rattle.pool_register.proofs.pages.take_all.Given as goal

abbrev pub invariant-row : goal.invariant-row
invariant-row l =
    (l.met ≡ count_by (is_listed l.rows.pools.ranges.rows l.kind l.query) (take l.member-index l.members))
    × (l.page.items ≡ page_of (λ m. m) (is_listed l.rows.pools.ranges.rows l.kind l.query) l.query.limit l.query.offset (take l.member-index l.members))
