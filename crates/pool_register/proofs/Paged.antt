-- What a page comes to, by what was counted and taken.
use Rattle.std.proofs.Common.{◌≡◌, ℕ, List, length, count_by, filter, map, ap, sym, ◌∙◌}
use Rattle.std.proofs.lemmas.List.{map-id}
use Rattle.std.proofs.lemmas.List.Sums.{length-filter}
use Rattle.ipam_data.specs.Pages.{page_of}
use Rattle.ipam_data.specs.RowList.{page}
use Rattle.number_pools.specs.declared.rows.PoolKind.{PoolKind}
use Rattle.number_pools.specs.declared.rows.Member.{Member}
use Rattle.number_pools.specs.declared.calls.MemberQuery.{MemberQuery}
use Rattle.number_pools.specs.declared.calls.PoolCall.TheVariants as call
use Rattle.number_pools.specs.declared.calls.PoolReply.{PoolReply}
use Rattle.number_pools.specs.declared.calls.PoolReply.TheVariants.{Page}
use Rattle.number_pools.specs.Rows.{Pools}
use Rattle.number_pools.specs.Steps.{is_listed, listed_members, plain_pool_step}

pub page_read : (s : Pools) (kind : PoolKind) (query told : MemberQuery) (count : ℕ) (members : List Member) → told ≡ query
    → count ≡ count_by (is_listed s.ranges.rows kind query) s.members.rows
    → members ≡ page_of (λ m. m) (is_listed s.ranges.rows kind query) query.limit query.offset s.members.rows
    → plain_pool_step s (call.Page kind query) ≡ (s, Page told count members)
page_read s kind query told count members q n m =
    let all : List Member = listed_members s kind query in
    let shown : List Member = page query.limit query.offset all in
    ap (λ (r : PoolReply). let p : Pools × PoolReply = (s, r) in p) (
    ap (λ (k : ℕ). Page query k shown) (length-filter (is_listed s.ranges.rows kind query) s.members.rows ∙ sym n)
    ∙ ap (λ (ms : List Member). Page query count ms) (sym (m ∙ map-id shown))
    ∙ ap (λ (x : MemberQuery). Page x count members) (sym q))
