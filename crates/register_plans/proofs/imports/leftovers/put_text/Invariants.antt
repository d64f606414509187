use Rattle.std.proofs.Common.{◌≡◌, ◌++◌, drop, string_bytes}
use Rattle.register_plans.specs.TextKeys.{spelled}
use Rattle.register_plans.proofs.imports.leftovers.put_text.Given as goal

abbrev pub invariant-loop-b : goal.invariant-loop-b
invariant-loop-b l = string_bytes l.key ++ spelled (drop l.b-index l.text) ≡ string_bytes l.fn.key ++ spelled l.text
