-- What a request of a reader is answered. A look is seen as the lists before the first change, the changes that it saw, and those that it
-- was told.
use Rattle.std.specs.Prelude.{◌≡◌, ℕ}
use Rattle.http_session.specs.Talk.{Answer, May}
use Rattle.ipam_data.specs.declared.calls.Call.{Call}
use Rattle.ipam_data.specs.declared.update.Update.{Update}
use Rattle.ipam_json.specs.declared.replies.Links.{Links}
use Rattle.rest_routes.specs.Answers.{IsFramingAnswer}
use Rattle.rest_answers.specs.Told.{told_answer}
use Rattle.snapshot_rows.specs.Lists.{Lists}
use Rattle.snapshot_reads.specs.declared.look.Looked.{Looked}
use Rattle.snapshot_reads.specs.declared.look.Looked.TheVariants.{Given, Behind, Memory}
use Rattle.snapshot_reads.specs.Seen.{Grows, IsAnswered, LookView}
use Rattle.snapshot_routes.specs.declared.question.Question.{Question}
use Rattle.snapshot_routes.specs.declared.question.Question.TheVariants.{Reads, Refused}
use Rattle.snapshot_routes.specs.Answers.{behind_answer, unread_answer}
use Rattle.snapshot_routes.specs.Questions.{IsQuestion}

-- the look, as the readers of VRFs and prefixes see it
abbrev pub Seen : Type 0
Seen = LookView Lists Update

-- the answer that gives what a look answered to a call whose page has these links: the reply with the number of changes as its place, or
-- that so many are too few. Out of memory is not reported
abbrev pub IsToldAnswer : Call → Links → Looked → Answer → Type 0
IsToldAnswer call links (Given reply n) answer = answer ≡ told_answer call reply links n
IsToldAnswer call links (Behind n) answer = answer ≡ behind_answer n
IsToldAnswer call links Memory answer = ⊥

-- the answer to a call after so many changes at least, which one read of the look gave
abbrev pub IsReadAnswer : Seen → Call → Links → ℕ → Answer → Seen → Type 0
IsReadAnswer before call links least answer now =
    (looked : Looked) × Grows before now × IsAnswered call least before now looked × IsToldAnswer call links looked answer

-- the answer to what a request asks for; if it is refused, the look is not asked
abbrev pub IsAnswerTo : Seen → Question → Answer → Seen → Type 0
IsAnswerTo before (Reads call links least) answer now = IsReadAnswer before call links least answer now
IsAnswerTo before (Refused why) answer now = (answer ≡ unread_answer why) × (now ≡ before)

-- what a request of a reader may be answered, and what bytes may be that are none
abbrev pub answers_read : May Seen
answers_read =
    record {
      answers = λ before request answer now. (question : Question) × IsQuestion request question × IsAnswerTo before question answer now;
      refuses = IsFramingAnswer;
    }
