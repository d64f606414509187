use Rattle.std.proofs.Common.{◌≤◌, ◌∷◌, ◌∙◌, sym, ap, subst, arith, List, IsPermutation}
use Rattle.std.proofs.lemmas.List.Sorted.{IsPermutation-insert}
use Rattle.inet_num.specs.Net.{Address, Cidr}
use Rattle.block_list.specs.Listing.{Listing}
use Rattle.block_list.proofs.Changes.{insert_listing}
use Rattle.block_list.proofs.BlockListSpace.insert.Goals as goal

pub invariant_of-self : goal.invariant_of-self
invariant_of-self c =
    let spare_is = ap (λ (l : Listing). l.spare) c.self.view_is in
    let family_is = ap (λ (l : Listing). l.family) c.self.view_is in
    let some : 1 ≤ c.self.inside.spare = (let room = c.requires.room in omega arith) in
    let room = c.self.invariant.1 in
    let len = c.in-Ok.ensures.len in
    let capacity = c.in-Ok.ensures.capacity in (
      insert_listing c.self.inside.family c.self.inside.blocks.items c.deref.result.now c.insert.new.self.items c.beginning_by-index.result c.value.result c.self.inside.spare c.args.block c.self.invariant.0 c.deref.ensures.value
          (c.value.ensures.value ∙ ap (λ (a : Address). a.value) c.first.ensures) c.beginning_by-index.ensures.bound c.beginning_by-index.ensures.below c.beginning_by-index.ensures.others c.in-Ok.ensures.items c.bounds.ensures
          (c.requires.family ∙ sym family_is) some,
      omega arith,
    )

pub returns-clause-put : goal.returns-clause-put
returns-clause-put c =
    let blocks_is = ap (λ (l : Listing). l.blocks) c.self.view_is in
    let put = IsPermutation-insert c.self.inside.blocks.items c.beginning_by-index.result c.args.block in
    subst (λ (bs : List Cidr). IsPermutation (c.args.block ∷ bs) c.insert.new.self.items) blocks_is
    (subst (λ (bs : List Cidr). IsPermutation (c.args.block ∷ c.self.inside.blocks.items) bs) (sym c.in-Ok.ensures.items) put)
