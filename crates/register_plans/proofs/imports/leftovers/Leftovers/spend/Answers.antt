use Rattle.std.proofs.Common.{sym, ap, rules, ◌-◌, Some, arith}
use Rattle.std.proofs.lemmas.Map.Text.{hash_map_updates_text}
use Rattle.register_plans.specs.RecordsLeft.{left_of}
use Rattle.register_plans.proofs.RecordsLeftLaws.{spent_one, unspent}
use Rattle.register_plans.proofs.imports.leftovers.Leftovers.spend.Goals as goal

pub returns-then-count-gt0-clause-left : goal.returns-then-count-gt0-clause-left
returns-then-count-gt0-clause-left c = λ keys records spent h.
    let next = c.in-Some.count.now - 1 in
    let sets = hash_map_updates_text c.args.key.now c.args.self.now.counts (c.get_mut.follows.lender next) (Some next) ((c.get_mut.follows.holds next).3 (search rules)) in
    spent_one c.args.self.now (record { counts = c.get_mut.follows.lender next }) c.args.key.now keys records spent c.in-Some.count.now next (sym c.in-Some.ensures.value) (omega arith) sets h

pub returns-else-count-gt0-clause-left : goal.returns-else-count-gt0-clause-left
returns-else-count-gt0-clause-left c = λ keys records spent h.
    let same = c.in-Some.count.now in
    let sets = hash_map_updates_text c.args.key.now c.args.self.now.counts (c.get_mut.follows.lender same) (Some same) ((c.get_mut.follows.holds same).3 (search rules)) in
    spent_one c.args.self.now (record { counts = c.get_mut.follows.lender same }) c.args.key.now keys records spent same same (sym c.in-Some.ensures.value) (omega arith) sets h

pub returns-in-None-clause-left : goal.returns-in-None-clause-left
returns-in-None-clause-left c = λ keys records spent h.
    unspent c.args.self.now (record { counts = c.get_mut.follows.lender-at-none }) c.args.key.now (sym c.in-None.ensures.value) (λ q. ap (λ m. left_of (record { counts = m }) q) c.get_mut.follows.holds-at-none) keys records spent h
