use Rattle.std.proofs.Common.{◌≡◌, map, take, string_bytes}
use Rattle.command_streams.proofs.arguments.words_of.Given as goal

abbrev pub invariant-loop-arg : goal.invariant-loop-arg
invariant-loop-arg l = map (λ w. w.now) l.words.items ≡ map string_bytes (take l.arg-index l.args)
