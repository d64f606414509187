-- The register and its service, as what is said of any machine sees them.
use Rattle.std.specs.Prelude.{Ok, Err}
use Rattle.http_session.specs.Requests.{Framed}
use Rattle.ipam_data.specs.declared.calls.Call.{Call}
use Rattle.ipam_data.specs.declared.replies.Refusal.{Refusal}
use Rattle.ipam_data.specs.declared.replies.Reply.{Reply}
use Rattle.ipam_data.specs.Replays.{is_accepted}
use Rattle.ipam_data.specs.State.{State}
use Rattle.ipam_data.specs.Steps.{plain_step, HasCallBounds}
use Rattle.ipam_json.specs.declared.replies.Links.{Links}
use Rattle.machine_session.specs.Protocols.{Protocol, protocol_over}
use Rattle.register_core.specs.Machines.{Seen, kind_of, seen_step}
use Rattle.rest_answers.specs.Told.{told_answer}
use Rattle.rest_routes.specs.Answers.{IsFramingAnswer, IsRefusedAnswer}
use Rattle.rest_routes.specs.Requests.{Asked, IsRequest}

-- a call has the bounds of its types
abbrev pub IsBounded : Asked → Type 0
IsBounded (Ok asked) = HasCallBounds asked.0
IsBounded (Err refusal) = Unit {0}

-- what a request asks for: a call within its bounds, or why it is refused before the register
pub record IsAskedInBounds (request : Framed) (asked : Asked) : Type 0 where
  pub is : IsRequest request.method request.target request.body asked
  pub bounded : IsBounded asked

-- the plain register over HTTP: a fault, which is a failed keeper's, is reported only in place of an accepted change
abbrev pub register_protocol : Protocol State Call Reply Reply Links Refusal
register_protocol =
    record {
      step = plain_step;
      answer = λ reply. reply;
      kind = kind_of;
      fallible = is_accepted;
      asks = IsAskedInBounds;
      tells = told_answer;
      refuses = λ request refusal answer. IsRefusedAnswer request.target refusal answer;
      misread = IsFramingAnswer;
    }

-- the same, as the lock sees the register: with whether the tables of its keeper are known, which no call changes
abbrev pub seen_protocol : Protocol Seen Call Reply Reply Links Refusal
seen_protocol = protocol_over seen_step register_protocol
