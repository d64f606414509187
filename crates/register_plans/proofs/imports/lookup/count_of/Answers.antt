use Rattle.std.proofs.Common.{◌∙◌, List, ℕ, sym, ap, count_by, map}
use Rattle.std.specs.Prelude.{bytes_eq}
use Rattle.register_tables.specs.Held.{state_of}
use Rattle.register_plans.specs.ReadyRows.{key_of_row}
use Rattle.register_plans.proofs.LookedUp.{none_spelled}
use Rattle.register_plans.proofs.imports.lookup.count_of.Goals as goal

pub returns-in-Some : goal.returns-in-Some
returns-in-Some g c =
    let rules = g.T.Listed.rules in
    let rows = (rules.row_list (state_of c.args.row_tables.now)).rows in
    let none = c.requires.ready.none c.in-Some.field-0 c.in-Some.is in
    sym (ap (λ (k : List ℕ). count_by (bytes_eq k) (map (key_of_row rules) rows)) none ∙ none_spelled rules rows c.requires.spelled)
