-- A tally over HTTP: what a request asks for, and what is answered.
use Rattle.std.specs.Prelude.{◌≡◌, ℕ, List, [], ◌∷◌, Option, Some, None, Result, Ok, Err, codes, decimal, if◌then◌else◌, option_map}
use Rattle.std.specs.Str.{bytes_eq}
use Rattle.http_session.specs.Replies.{field_of}
use Rattle.http_session.specs.Talk.{Answer}
use Rattle.http_session.specs.declared.reply.NumberField.{NumberField}
use Rattle.lock_trial.specs.Adds.{add_step, is_accepted, kind_of}
use Rattle.lock_trial.specs.declared.calls.Call.{Call}
use Rattle.lock_trial.specs.declared.calls.Call.TheVariants.{Add, Read}
use Rattle.lock_trial.specs.declared.calls.Reply.{Reply}
use Rattle.lock_trial.specs.declared.calls.Reply.TheVariants.{Added, Value, Fault, NoMemory}
use Rattle.machine_session.specs.Protocols.{Protocol}

-- a call, with nothing that its answer shows besides the reply; or the request is refused
abbrev pub Asked : Type 0
Asked = Result (Call × Unit {0}) (Unit {0})

-- a body of one byte is added
abbrev pub added_by : List ℕ → Asked
added_by [] = Err tt
added_by (more ∷ []) = Ok (Add more, tt)
added_by (one ∷ two ∷ others) = Err tt

abbrev pub asked_by : List ℕ → List ℕ → Asked
asked_by method body = if bytes_eq method (codes "GET") then Ok (Read, tt) else (if bytes_eq method (codes "POST") then added_by body else Err tt)

abbrev pub asked_of : Option Call → Asked
asked_of (Some call) = Ok (call, tt)
asked_of None = Err tt

abbrev pub answer_with : ℕ → Option NumberField → List ℕ → Answer
answer_with status field text = record { status = status; allow = []; field = option_map field_of field; media = codes "text/plain"; body = text }

abbrev pub placed_answer : ℕ → ℕ → List ℕ → Answer
placed_answer status place text =
    record { status = status; allow = []; field = Some (record { name = codes "Place"; number = place }); media = codes "text/plain"; body = text }

-- the answer of a reply, which has a place
abbrev pub reply_answer : Reply → ℕ → Answer
reply_answer (Added sum) place = placed_answer 200 place (decimal sum)
reply_answer (Value sum) place = placed_answer 200 place (decimal sum)
reply_answer Fault place = placed_answer 503 place (codes "failed")
reply_answer NoMemory place = placed_answer 500 place (codes "no memory")

abbrev pub refused_answer : Answer
refused_answer = answer_with 400 None (codes "no call")

abbrev pub misread_answer : Answer
misread_answer = answer_with 400 None (codes "bad request")

-- a tally and its service
abbrev pub tally_protocol : Protocol ℕ Call Reply Reply (Unit {0}) (Unit {0})
tally_protocol =
    record {
      step = add_step;
      answer = λ r. r;
      kind = kind_of;
      fallible = is_accepted;
      asks = λ request asked. asked ≡ asked_by request.method request.body;
      tells = λ call reply shown place. reply_answer reply place;
      refuses = λ request why answer. answer ≡ refused_answer;
      misread = λ fault answer. answer ≡ misread_answer;
    }
