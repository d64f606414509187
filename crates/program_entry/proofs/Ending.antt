-- What the process ends with: the status of one run over standard streams, or that of arguments which are no text.
use Rattle.std.specs.Prelude.{map, string_bytes}
use Rattle.std.proofs.Common.{◌≡◌, ℕ, List, None, Result, Ok, Err, inl, inr, refl, sym, ap, ◌∙◌, subst}
use Rattle.std.specs.declared.io.Error.{Error}
use Rattle.std.specs.declared.string.String.{String}
use Rattle.std.specs.declared.vec.IntoIter.{IntoIter}
use Rattle.std.specs.declared.vec.Vec.{Vec}
use Rattle.command_streams.specs.Arguments.{AreWords}
use Rattle.command_streams.specs.declared.arguments.NoArguments.{NoArguments}
use Rattle.command_streams.specs.declared.arguments.NoArguments.TheVariants.{NoText, Memory}
use Rattle.command_streams.specs.Streams.{Streams, Told, streams}
use Rattle.program_entry.specs.Ending.{AreUntold, EndsWithout, IsEnding, RunsOf, RunsOver, SaysNoText, UsageOf}

-- a stream that tells nothing and has not failed
abbrev untold : Told
untold = record { bytes = None; faults = 0 }

-- where memory ran out to read the words nothing was used
pub not_run : {U : Type 0} (runs : RunsOf U) (words : List (List ℕ)) (kept : U) (status : ℕ) → ((seen : Streams) → runs words seen seen kept kept 5) → status ≡ 5
    → RunsOver runs words kept kept status
not_run runs words kept status none five = (
  streams untold untold untold,
  streams untold untold untold,
  record { input = record { bytes = refl; faults = refl }; output = record { bytes = refl; faults = refl }; errors = record { bytes = refl; faults = refl } },
  subst (λ (n : ℕ). runs words (streams untold untold untold) (streams untold untold untold) kept kept n) (sym five) (none (streams untold untold untold)),
)

-- the usage line was said to standard error
pub says_no_text : (says : UsageOf) (old new : Told) (status said : ℕ) → old.bytes ≡ None → old.faults ≡ 0 → status ≡ said
    → ((input output : Told) → says (streams input output old) (streams input output new) said) → SaysNoText says status
says_no_text says old new status said bytes faults same usage = (
  streams untold untold old,
  streams untold untold new,
  record { input = record { bytes = refl; faults = refl }; output = record { bytes = refl; faults = refl }; errors = record { bytes = bytes; faults = faults } },
  subst (λ (n : ℕ). says (streams untold untold old) (streams untold untold new) n) (sym same) (usage untold untold),
)

-- the words of the arguments were run
pub ended : {U Y Z W : Type 0} (runs : RunsOf U) (says : UsageOf) (given : Result (IntoIter (String Y) Z) Error) (args : Vec (String Y) W) (words : List (String Y)) (before after : U) (status : ℕ)
    → AreWords given (Ok args) → words ≡ args.items → RunsOver runs (map string_bytes words) before after status → IsEnding runs says given before after status
ended runs says (Ok given) args words before after status are same run =
    subst (λ (w : List (List ℕ)). RunsOver runs w before after status) (ap (map string_bytes) same ∙ are) run
ended runs says (Err error) args words before after status are same run = absurd are

-- a run of them over the standard streams
pub run_ended : {U Y Z W : Type 0} (runs : RunsOf U) (says : UsageOf) (given : Result (IntoIter (String Y) Z) Error) (args : Vec (String Y) W) (words : List (String Y)) (asked : List (List ℕ)) (old new : Streams) (before after : U) (status : ℕ)
    → AreWords given (Ok args) → words ≡ args.items → asked ≡ map string_bytes words → AreUntold old → runs asked old new before after status → IsEnding runs says given before after status
run_ended runs says given args words asked old new before after status are same these untold run =
    ended runs says given args words before after status are same (old, new, untold, subst (λ (w : List (List ℕ)). runs w old new before after status) these run)

-- there were no words
pub ended_without : {U Y Z : Type 0} (W : Type 0) (runs : RunsOf U) (says : UsageOf) (why : NoArguments) (given : Result (IntoIter (String Y) Z) Error) (kept : U) (status : ℕ)
    → ((words : List (List ℕ)) (seen : Streams) → runs words seen seen kept kept 5) → AreWords {W = W} given (Err why) → EndsWithout says why status → IsEnding runs says given kept kept status
ended_without W runs says NoText (Ok given) kept status none are ends = absurd are
ended_without W runs says NoText (Err error) kept status none are ends = (refl, inl (are, ends))
ended_without W runs says Memory (Ok given) kept status none are ends = not_run runs _ kept status (none _) ends
ended_without W runs says Memory (Err error) kept status none are ends = (refl, inr (are, ends))
