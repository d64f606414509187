-- One request at a time: what it does to the seat that answers it.
use Rattle.std.specs.Prelude.{◌≡◌, ℕ, Result, Ok, Err, IfOk}
use Rattle.history_lock.specs.Seats.{SeatView, IsCall}
use Rattle.http_session.specs.declared.reply.Reply.{Reply as Written}
use Rattle.http_session.specs.Replies.{answer_of}
use Rattle.http_session.specs.Requests.{Framed}
use Rattle.http_session.specs.Talk.{Answer, May}
use Rattle.machine_session.specs.Protocols.{Protocol}

-- the seat was v and is w, and what a request asks for was answered so: by one call of the lock, or without it
abbrev pub IsAnswerNow : {S C A R W E : Type 0} → Protocol S C A R W E → SeatView S C → Framed → Result (C × W) E → Answer → SeatView S C → Type 0
IsAnswerNow {R = R} P v request (Ok asked) answer w =
    (reply : R) × (place : ℕ) × IsCall P.step P.fallible v w asked.0 (P.answer reply) (P.kind reply) place × (answer ≡ P.tells asked.0 reply asked.1 place)
IsAnswerNow P v request (Err why) answer w = P.refuses request why answer × (w ≡ v)

-- what a request may be answered through a seat
abbrev pub answers_in_turn : {S C A R W E : Type 0} → Protocol S C A R W E → May (SeatView S C)
answers_in_turn {C = C} {W = W} {E = E} P =
    record {
      answers = λ v request answer w. (asked : Result (C × W) E) × P.asks request asked × IsAnswerNow P v request asked answer w;
      refuses = P.misread;
    }

-- a call was made through the seat; its answer is this, or is lost for lack of memory
abbrev pub IsAsked : {S C A R W E F : Type 0} → Protocol S C A R W E → SeatView S C → C → W → Result Written F → SeatView S C → Type 0
IsAsked {R = R} P v call shown result w =
    (reply : R) × (place : ℕ) × IsCall P.step P.fallible v w call (P.answer reply) (P.kind reply) place × IfOk result (λ answer. answer_of answer ≡ P.tells call reply shown place)
