use Rattle.std.proofs.Common.{◌∷◌, arith, subst, IsPermutation}
use Rattle.inet_num.specs.Net.{Cidr}
use Rattle.pool_opening.proofs.Looking.{few_held, key_by_range, one_passed, told_by_range}
use Rattle.pool_opening.proofs.passes.pass_members.Goals as goal

pub insert-requires-clause-few : goal.insert-requires-clause-few
insert-requires-clause-few c =
    let held = few_held c.args.ranges.now c.args.members.now c.row.found c.row.top c.row.at c.row.taken.blocks c.row.taken.family c.row.taken.spare c.row.invariant in
    let few = c.requires.few in
    omega arith

pub row-preserved : goal.row-preserved
row-preserved c =
    let m = c.index-members-at.result in
    let key = key_by_range c.args.ranges.now m _ c.key_of_member-key.result c.range_of-range.ensures c.key_of_member-key.ensures in
    let told = told_by_range c.args.ranges.now m _ c.key_of_member-key.result c.breaks_by_tree.result c.row.top c.row.taken.blocks c.range_of-range.ensures key c.breaks_by_tree.ensures in
    one_passed c.args.ranges.now c.args.members.now c.row.found c.row.top c.row.at c.row.taken.blocks c.row.taken.family c.row.taken.spare
    m m c.breaks_by_tree.result c.lesser_if-found.result c.greater-top.result c.insert.new.self.blocks c.insert.new.self.family c.insert.new.self.spare
    c.row.invariant c.row-test.true c.index-members-at.is c.number_fits.ensures told c.lesser_if-found.ensures c.greater-top.ensures
    (subst (λ (b : Cidr). IsPermutation (b ∷ c.row.taken.blocks) c.insert.new.self.blocks) key c.insert.ensures.put) c.insert.ensures.family c.insert.ensures.room
