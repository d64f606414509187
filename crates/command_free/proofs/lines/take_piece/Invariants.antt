use Rattle.std.proofs.Common.{ℕ, List, ◌++◌, take}
use Rattle.command_free.specs.Reading.{IsReading}
use Rattle.command_free.proofs.lines.take_piece.Given as goal

abbrev pub invariant-loop-byte : goal.invariant-loop-byte
invariant-loop-byte l = (bytes : List ℕ) → IsReading l.within bytes l.initial.lines → IsReading l.within (bytes ++ take l.byte-index l.piece) l.lines
