use Rattle.std.proofs.Common.{rules}
use Rattle.std.proofs.lemmas.List.Sorted.{answers_always}
use Rattle.ipam_keeper.proofs.Searching.{searched}
use Rattle.ipam_keeper.proofs.places.search.Goals as goal

pub returns-clause-found : goal.returns-clause-found
returns-clause-found g c =
    let facts = c.binary_search_by_key.ensures in
    let by_place = facts.position g.T.HasPlace.number (answers_always _ _ _ (λ f a r h called. search rules)) in
    (searched g.T.HasPlace.number c.args.items.now c.args.here c.binary_search_by_key.result c.requires facts.bound by_place).0

pub returns-clause-absent : goal.returns-clause-absent
returns-clause-absent g c =
    let facts = c.binary_search_by_key.ensures in
    let by_place = facts.position g.T.HasPlace.number (answers_always _ _ _ (λ f a r h called. search rules)) in
    (searched g.T.HasPlace.number c.args.items.now c.args.here c.binary_search_by_key.result c.requires facts.bound by_place).1
