-- The plain step of a tally, which adds numbers modulo 2^64, and what each of its replies is to the lock.
use Rattle.std.specs.Prelude.{ℕ, ◌+◌, ◌%◌, ◌^◌, Bool, true, false}
use Rattle.history_lock.specs.Replies.{ReplyKind, accepted, fault, memory, plain}
use Rattle.lock_trial.specs.declared.calls.Reply.{Reply}
use Rattle.lock_trial.specs.declared.calls.Reply.TheVariants.{Added, Value, Fault, NoMemory}
use Rattle.lock_trial.specs.declared.calls.Call.{Call}
use Rattle.lock_trial.specs.declared.calls.Call.TheVariants.{Add, Read}

-- the sum after a call, and the reply
abbrev pub add_step : ℕ → Call → ℕ × Reply
add_step sum (Add n) = ((sum + n) % 2 ^ 64, Added ((sum + n) % 2 ^ 64))
add_step sum Read = (sum, Value sum)

-- what a reply is to the lock
abbrev pub kind_of : Reply → ReplyKind
kind_of (Added n) = accepted
kind_of (Value n) = plain
kind_of Fault = fault
kind_of NoMemory = memory

-- the reply reports an accepted change
abbrev pub is_accepted : Reply → Bool
is_accepted (Added n) = true
is_accepted (Value n) = false
is_accepted Fault = false
is_accepted NoMemory = false
