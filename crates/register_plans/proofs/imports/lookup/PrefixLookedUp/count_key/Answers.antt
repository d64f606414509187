use Rattle.std.proofs.Common.{◌∙◌, ℕ, List, ap, count_by}
use Rattle.std.proofs.lemmas.Result.{IfOk-weaker}
use Rattle.ipam_data.specs.State.{State}
use Rattle.ipam_data.specs.Prefixes.{prefix_rules}
use Rattle.register_plans.specs.Meets.{prefix_meets}
use Rattle.register_tables.specs.Held.{state_of}
use Rattle.register_plans.specs.KeptDrafts.{prefix_filter, has_key}
use Rattle.register_plans.proofs.LookedUp.{found_all, prefix_found}
use Rattle.register_plans.proofs.imports.lookup.PrefixLookedUp.count_key.Goals as goal

pub returns-in-Some : goal.returns-in-Some
returns-in-Some c =
    let s : State = state_of c.args.row_tables.now in
    let found = rw c.in-Some.is at c.in_ok-ids.ensures in
    let all =
    found_all prefix_rules s.prefixes.rows c.args.key.now (prefix_meets (prefix_filter c.args.draft.now)) c.in-Some.ids.items c.requires.lawful.prefixes.row_list.ordered found
    (prefix_found s c.requires.lawful c.args.draft.now c.args.key.now c.requires.kept c.requires.key) in
    IfOk-weaker c.count_found.result _ _ (λ n e. e ∙ ap (λ (ids : List ℕ). count_by (has_key prefix_rules s.prefixes.rows c.args.key.now) ids) c.deref.ensures.value ∙ all) c.count_found.ensures
