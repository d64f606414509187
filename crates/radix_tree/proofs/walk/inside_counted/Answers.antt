use Rattle.std.proofs.Common.{Option, List, [], ◌∷◌, ◌++◌, ◌∙◌, sym, ap, subst}
use Rattle.radix_tree.specs.Listed.{blocks_of}
use Rattle.radix_tree.specs.Inside.{ListsInside}
use Rattle.radix_tree.specs.Preorder.{to_come}
use Rattle.radix_tree.proofs.Walking.{link_lists}
use Rattle.radix_tree.proofs.walk.inside_counted.Goals as goal

pub returns : goal.returns
returns g c =
    let t = c.args.linked.now in
    let within = c.args.within.now in
    let at = c.link_inside-at.result in
    let items = c.push.ensures.items ∙ ap (λ (xs : List (Option _)). xs ++ at ∷ []) c.new-pending.ensures in
    subst (λ (xs : List (Option _)). ListsInside (blocks_of t.pool) within (to_come t.pool xs)) (sym items)
    (link_lists t c.requires.sound at within c.link_inside-at.ensures.link)
