use Rattle.std.proofs.Common.{◌≡◌, take}
use Rattle.lock_trial.specs.Notes.{IsAt, calls_of}
use Rattle.lock_trial.proofs.workers.talk.Given as goal

abbrev pub invariant-loop-call : goal.invariant-loop-call
invariant-loop-call g l = IsAt l.lock l.seat.number l.notes.items l.seat × (l.seat.number ≡ l.initial.seat.number) × (calls_of l.notes.items ≡ take l.call-index l.calls)
