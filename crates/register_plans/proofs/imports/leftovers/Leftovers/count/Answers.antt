use Rattle.std.proofs.Common.{sym, ap, rules, ◌+◌, Some}
use Rattle.std.proofs.lemmas.Map.Text.{hash_map_updates_text}
use Rattle.register_plans.specs.RecordsLeft.{left_of}
use Rattle.register_plans.proofs.RecordsLeftLaws.{counted, uncounted}
use Rattle.register_plans.proofs.imports.leftovers.Leftovers.count.Goals as goal

pub returns-in-Some : goal.returns-in-Some
returns-in-Some c = λ keys records h.
    let next = c.in-Some.count.now + 1 in
    let sets = hash_map_updates_text c.args.key.now c.args.self.now.counts (c.get_mut.follows.lender next) (Some next) ((c.get_mut.follows.holds next).3 (search rules)) in
    counted c.args.self.now (record { counts = c.get_mut.follows.lender next }) c.args.key.now keys records c.in-Some.count.now (sym c.in-Some.ensures.value) sets h

pub returns-in_default : goal.returns-in_default
returns-in_default c = λ keys records h.
    uncounted c.args.self.now (record { counts = c.get_mut.follows.lender-at-none }) c.args.key.now (sym c.in_default.ensures.value) (λ q. ap (λ m. left_of (record { counts = m }) q) c.get_mut.follows.holds-at-none) keys records h
