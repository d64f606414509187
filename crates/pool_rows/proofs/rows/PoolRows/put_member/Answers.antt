use Rattle.std.proofs.Common.{◌≡◌, ℕ, ap, sym, subst, List, ◌∷◌, ◌∙◌, arith, refl, IsPermutation}
use Rattle.inet_num.specs.declared.Family.TheVariants.{V6}
use Rattle.inet_num.specs.Net.{Cidr}
use Rattle.ipam_data.specs.RowList.{AllBelow}
use Rattle.number_pools.specs.declared.rows.Member.{Member}
use Rattle.number_pools.specs.Free.{pool_at}
use Rattle.number_pools.specs.Keys.{AreKeys, key_block, key_of}
use Rattle.number_pools.specs.Lawful.{AreNumbered}
use Rattle.number_pools.specs.Rows.{Pools, member_id}
use Rattle.pool_rows.specs.Held.{Held}
use Rattle.pool_rows.proofs.KeysStay.{keys_length, keys_with_member}
use Rattle.pool_rows.proofs.rows.PoolRows.put_member.Goals as goal

pub insert-requires-clause-few : goal.insert-requires-clause-few
insert-requires-clause-few c =
    let keys = keys_length c.self.inside.ranges.rows c.self.inside.members.rows c.self.inside.taken.blocks c.self.invariant.0 in
    let few = c.len-len.ensures.few in
    omega arith

pub invariant_of-self : goal.invariant_of-self
invariant_of-self c =
    let now = c.self.inside in
    let pools = ap (λ (h : Held). h.pools) c.self.view_is in
    let numbered : AreNumbered member_id (record { rows = now.members.rows; next = now.next_member }) =
    subst (AreNumbered member_id) (sym (ap (λ (p : Pools). p.members) pools)) c.requires.numbered in
    let id : c.args.member.id ≡ now.next_member = c.requires.id ∙ sym (ap (λ (p : Pools). p.members.next) pools) in
    let below = subst (λ (n : ℕ). AllBelow member_id n now.members.rows) (sym id) numbered.below in
    let key : c.key_at-key.result ≡ key_block now.ranges.rows c.args.member =
    c.key_at-key.ensures ∙ ap (λ (pool : ℕ). let b : Cidr = record { family = V6; first = key_of pool c.args.member.number; len = 128 } in b) (c.pool.ensures c.args.member refl ∙ sym (ap (λ (p : Pools). pool_at p.ranges.rows c.args.member) pools)) in
    let put = subst (λ (b : Cidr). IsPermutation (b ∷ now.taken.blocks) c.insert.new.self.blocks) key c.insert.ensures.put in
    let keys = keys_with_member now.ranges.rows now.members.rows c.args.member now.taken.blocks c.insert.new.self.blocks below c.self.invariant.0 put in
    (subst (λ (ms : List Member). AreKeys now.ranges.rows ms c.insert.new.self.blocks) (sym c.put.ensures.rows) keys, c.insert.ensures.family ∙ c.self.invariant.1)
