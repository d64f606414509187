use Rattle.std.proofs.Common.{Box, Global, rules, ◌≡◌, [], ◌∷◌, sym, subst, List, Option, Some}
use Rattle.atomic_table.specs.Table.{opening}
use Rattle.history_lock.specs.LockRule.{KeepsOneHistory}
use Rattle.history_lock.specs.Views.{first_view}
use Rattle.history_lock.specs.Machines.{meaning}
use Rattle.history_lock.proofs.Keeps.{opens}
use Rattle.history_lock.proofs.lock.Shared.over.Goals as goal

pub new-requires : goal.new-requires
new-requires g c =
    let W = meaning (λ (b : Box g.row.M.Denot Global). g.M.Machine.opening b.value) (λ b. g.M.Machine.state b.value) (λ b. g.M.Machine.log b.value) (λ b. g.M.Machine.faults b.value) g.M.Machine.step in
    let items : c.push.new.self.items ≡ Some c.args.machine ∷ [] = search rules in
    let same : c.of-about.result.value ≡ c.args.machine = c.of-about.ensures in
    subst (λ (z : Box g.row.M.Denot Global × List (Option (Box g.row.M.Denot Global))). KeepsOneHistory W z.0 (opening (0 ∷ 0 ∷ 0 ∷ 0 ∷ 0 ∷ 0 ∷ 0 ∷ 0 ∷ 0 ∷ 0 ∷ 0 ∷ 0 ∷ 0 ∷ 0 ∷ 0 ∷ 0 ∷ 0 ∷ 0 ∷ 0 ∷ []) z.1 (first_view W z.0))) (λ i. (sym same i, sym items i))
    (opens W c.args.machine (0 ∷ 0 ∷ 0 ∷ 0 ∷ 0 ∷ 0 ∷ 0 ∷ 0 ∷ 0 ∷ 0 ∷ 0 ∷ 0 ∷ 0 ∷ 0 ∷ 0 ∷ 0 ∷ []) c.requires c.entries.ensures.replayed)

pub machine_of-requires-in-Err-new : goal.machine_of-requires-in-Err-new
machine_of-requires-in-Err-new g c =
    let items : c.push.new.self.items ≡ Some c.args.machine ∷ [] = search rules in
    let back = c.in-Err-new.ensures.err in
    let popped = c.in-Some.ensures.value in
    (c.args.machine, search rules)
