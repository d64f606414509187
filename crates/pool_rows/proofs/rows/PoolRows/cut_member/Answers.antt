use Rattle.std.proofs.Common.{◌≡◌, ℕ, ap, sym, subst, refl, List, ◌∷◌, Some, None, ◌∙◌, ◌+◌, ◌<◌, option_copied, MatchBool, IsPermutation}
use Rattle.inet_num.specs.declared.Family.TheVariants.{V6}
use Rattle.inet_num.specs.Net.{Cidr}
use Rattle.block_space.specs.Listed.{times_of}
use Rattle.ipam_data.specs.RowList.{row_at}
use Rattle.placed_book.proofs.RowPlaces.{without_none}
use Rattle.number_pools.specs.declared.rows.Member.{Member}
use Rattle.number_pools.specs.Free.{pool_at}
use Rattle.number_pools.specs.Keys.{AreKeys, key_block, key_of}
use Rattle.number_pools.specs.Rows.{Pools, member_id}
use Rattle.number_pools.specs.Steps.{without_member}
use Rattle.pool_rows.specs.Held.{Held}
use Rattle.pool_rows.proofs.KeysStay.{key_there, keys_without_member, taken_out}
use Rattle.pool_rows.proofs.rows.PoolRows.cut_member.Goals as goal

pub returns-in-None : goal.returns-in-None
returns-in-None c =
    let now = c.self.inside in
    let pools = ap (λ (h : Held). h.pools) c.self.view_is in
    let none : row_at member_id now.members.rows c.args.id ≡ None = sym c.get.ensures ∙ ap option_copied c.in-None.is in
    ap (λ (ms : List Member). let s : Pools = record { ranges = record { rows = now.ranges.rows; next = now.next_range }; members = record { rows = ms; next = now.next_member }; spent = now.spent + 1 } in s)
    (sym (without_none member_id now.members.rows c.args.id none)) ∙ ap (λ (s : Pools). without_member s c.args.id) pools

pub invariant_of-self-2 : goal.invariant_of-self-2
invariant_of-self-2 c =
    let now = c.self.inside in
    let pools = ap (λ (h : Held). h.pools) c.self.view_is in
    let m : Member = c.in-Some.member.now in
    let found : row_at member_id now.members.rows c.args.id ≡ Some m = sym c.get.ensures ∙ ap option_copied c.in-Some.is in
    let key : c.key_at-key.result ≡ key_block now.ranges.rows m =
    c.key_at-key.ensures ∙ ap (λ (pool : ℕ). let b : Cidr = record { family = V6; first = key_of pool m.number; len = 128 } in b)
    (c.pool.ensures m refl ∙ sym (ap (λ (p : Pools). pool_at p.ranges.rows m) pools)) in
    let there = key_there now.ranges.rows now.members.rows c.args.id m now.taken.blocks found c.self.invariant.0 in
    let taken = subst (λ (b : Cidr). MatchBool c.remove.result (IsPermutation now.taken.blocks (b ∷ c.remove.new.self.blocks)) (c.remove.new.self.blocks ≡ now.taken.blocks)) key c.remove.ensures.taken in
    let cause = subst (λ (b : Cidr). MatchBool c.remove.result (0 < times_of now.taken.blocks b) (times_of now.taken.blocks b ≡ 0)) key c.remove.ensures.cause in
    let out = taken_out c.remove.result now.taken.blocks c.remove.new.self.blocks (key_block now.ranges.rows m) taken cause there in
    let keys = keys_without_member now.ranges.rows now.members.rows c.args.id m now.taken.blocks c.remove.new.self.blocks c.rows-rows.ensures.ordered found c.self.invariant.0 out in
    (subst (λ (ms : List Member). AreKeys now.ranges.rows ms c.remove.new.self.blocks) (sym c.cut.ensures.rows) keys, c.remove.ensures.family ∙ c.self.invariant.1)
