use Rattle.std.proofs.Common.{List, sym, subst}
use Rattle.std.specs.List.{AllByRecursion}
use Rattle.std.proofs.lemmas.Result.{IfOk-weaker}
use Rattle.inet_num.specs.Net.{Cidr, IsStrictlyInside}
use Rattle.inet_num.proofs.Available.{available_only}
use Rattle.span_set.specs.Blocks.{IsRest}
use Rattle.span_set.proofs.Available.{lists_available}
use Rattle.command_free.proofs.Leaving.{all_in_order, rest_in_order}
use Rattle.command_free.proofs.free.blocks_left.Goals as goal

pub left_of-requires : goal.left_of-requires
left_of-requires c = subst (AllByRecursion (λ (b : Cidr). IsStrictlyInside b c.args.within.now)) (sym c.deref.ensures.value)
    (all_in_order (λ (b : Cidr). IsStrictlyInside b c.args.within.now) c.args.children.items _ c.sort_unstable_by_key.ensures.permutation c.requires)

pub returns : goal.returns
returns c =
    let within = c.args.within.now in
    let children = c.args.children.items in
    let left = c.in_ok-left.left in
    let sorted : IsRest left within _ = subst (λ (bs : List Cidr). IsRest left within bs) c.deref.ensures.value c.in_ok-left.ensures.rest in
    let rest : IsRest left within children = rest_in_order left within children _ c.sort_unstable_by_key.ensures.permutation sorted in
    IfOk-weaker c.blocks-2.result _ _ (λ v lists. available_only within children v.items c.in_ok-left.ensures.lawful (lists_available left within children v.items c.in_ok-left.ensures.family rest lists)) c.blocks-2.ensures.fewest
