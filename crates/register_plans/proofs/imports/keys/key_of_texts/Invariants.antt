use Rattle.std.proofs.Common.{◌≡◌, take, string_bytes}
use Rattle.register_plans.specs.TextKeys.{key_of}
use Rattle.register_plans.proofs.imports.keys.key_of_texts.Given as goal

abbrev pub invariant-loop-text : goal.invariant-loop-text
invariant-loop-text l = string_bytes l.key ≡ key_of (take l.text-index l.texts)
