use Rattle.std.proofs.Common.{◌≡◌, ◌<◌, ◌∷◌, ◌∙◌, true, sym, ap, subst, arith, List, length, get_or, IsPermutation}
use Rattle.std.proofs.lemmas.List.Sorted.{IsPermutation-remove}
use Rattle.inet_num.specs.Net.{Cidr}
use Rattle.block_space.specs.Listed.{is_same}
use Rattle.block_list.specs.Listing.{Listing}
use Rattle.block_list.proofs.Changes.{remove_listing, found_is}
use Rattle.block_list.proofs.BlockListSpace.remove.Goals as goal

pub invariant_of-self : goal.invariant_of-self
invariant_of-self c =
    let room = c.self.invariant.1 in
    let len = c.remove.ensures.len in
    let capacity = c.remove.ensures.capacity in (
      remove_listing c.self.inside.family c.self.inside.blocks.items c.deref.result.now c.remove.new.self.items c.in-Some.index c.self.inside.spare c.args.block c.self.invariant.0 c.deref.ensures.value c.in-Some.ensures.found.0 c.remove.ensures.items,
      omega arith,
    )

pub returns-in-Some-clause-taken : goal.returns-in-Some-clause-taken
returns-in-Some-clause-taken c =
    let blocks_is = ap (λ (l : Listing). l.blocks) c.self.view_is in
    let family_is = ap (λ (l : Listing). l.family) c.self.view_is in
    let inside : c.in-Some.index < length c.self.inside.blocks.items = subst (λ (bs : List Cidr). c.in-Some.index < length bs) c.deref.ensures.value c.in-Some.ensures.found.0 in
    let same : is_same c.args.block (get_or c.self.inside.blocks.items c.in-Some.index c.args.block) ≡ true = subst (λ (bs : List Cidr). is_same c.args.block (get_or bs c.in-Some.index c.args.block) ≡ true) c.deref.ensures.value c.in-Some.ensures.found.1 in
    let is = found_is c.self.inside.family c.self.inside.blocks.items c.args.block c.in-Some.index c.self.invariant.0.lawful (c.requires ∙ sym family_is) inside same in
    let taken = IsPermutation-remove c.self.inside.blocks.items c.in-Some.index c.args.block inside is in
    subst (λ (bs : List Cidr). IsPermutation bs (c.args.block ∷ c.remove.new.self.items)) blocks_is
    (subst (λ (bs : List Cidr). IsPermutation c.self.inside.blocks.items (c.args.block ∷ bs)) (sym c.remove.ensures.items) taken)
