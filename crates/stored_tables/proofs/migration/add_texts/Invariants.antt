use Rattle.std.proofs.Common.{◌≡◌, ◌++◌, take}
use Rattle.stored_tables.proofs.migration.add_texts.Given as goal

abbrev pub invariant-loop-text : goal.invariant-loop-text
invariant-loop-text l = l.items.items ≡ l.initial.items.items ++ take l.text-index l.texts
