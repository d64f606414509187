use Rattle.std.proofs.Common.{◌≡◌, ◌++◌, drop}
use Rattle.prefix_list.specs.Choices.{kept_after, kept_of}
use Rattle.prefix_list.proofs.routes.kept.Given as goal

abbrev pub invariant-each : goal.invariant-each
invariant-each l = l.kept.items ++ kept_after l.last (drop l.entry-index l.rest) ≡ kept_of l.fn.entries
