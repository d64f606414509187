-- The arguments of a process, as the system gives them, and the arguments of a command among them.
use Rattle.std.specs.Prelude.{◌≡◌, ℕ, List, drop, map, string_bytes, Result, Ok, Err}
use Rattle.std.specs.IoError.{error_kind}
use Rattle.std.specs.Vec.Iter.{into_iter_items}
use Rattle.std.specs.declared.io.Error.{Error}
use Rattle.std.specs.declared.io.ErrorKind.TheVariants.{InvalidData}
use Rattle.std.specs.declared.string.String.{String}
use Rattle.std.specs.declared.vec.IntoIter.{IntoIter}
use Rattle.std.specs.declared.vec.Vec.{Vec}
use Rattle.command_streams.specs.declared.arguments.NoArguments.{NoArguments}
use Rattle.command_streams.specs.declared.arguments.NoArguments.TheVariants.{NoText, Memory}

-- the arguments of a command: all arguments but the first, which is the program's name, in order
abbrev pub words_behind : {Y Z : Type 0} → IntoIter (String Y) Z → List (List ℕ)
words_behind given = drop 1 (map string_bytes (into_iter_items given))

-- an argument is no UTF-8
abbrev pub HasNoText : Error → Type 0
HasNoText error = error_kind error ≡ InvalidData

-- why there are no words, by why there are no arguments
abbrev pub IsWhy : Error → NoArguments → Type 0
IsWhy error NoText = HasNoText error
IsWhy error Memory = ¬ HasNoText error

-- the words of these arguments, if there is memory for them; or why there are none
abbrev pub AreWords : {Y Z W : Type 0} → Result (IntoIter (String Y) Z) Error → Result (Vec (String Y) W) NoArguments → Type 0
AreWords (Ok given) (Ok words) = map string_bytes words.items ≡ words_behind given
AreWords (Ok given) (Err NoText) = ⊥
AreWords (Ok given) (Err Memory) = Unit {0}
AreWords (Err error) (Ok words) = ⊥
AreWords (Err error) (Err why) = IsWhy error why
