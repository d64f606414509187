-- Number pools and their service, as what serves any machine sees them.
use Rattle.http_session.specs.Talk.{Answer}
use Rattle.number_pools.specs.declared.calls.PoolCall.{PoolCall}
use Rattle.number_pools.specs.declared.calls.PoolReply.{PoolReply}
use Rattle.number_pools.specs.Machines.{kind_of}
use Rattle.pool_json.specs.declared.bodies.RequestRefusal.{RequestRefusal}
use Rattle.pool_json.specs.declared.replies.Shape.{Shape}
use Rattle.pool_register.specs.Kept.{Seen, is_change, seen_step}
use Rattle.pool_rest.specs.Answers.{IsFramingAnswer, IsRefusedAnswer, reply_answer}
use Rattle.pool_rest.specs.Requests.{IsRequest}
use Rattle.machine_session.specs.Protocols.{Protocol}

-- the plain step of the pools, what a request asks for, and which answer gives a reply: as its call is written, with its place
abbrev pub pool_protocol : Protocol Seen PoolCall PoolReply PoolReply Shape RequestRefusal
pool_protocol =
    record {
      step = seen_step;
      answer = λ reply. reply;
      kind = kind_of;
      fallible = is_change;
      asks = λ request asked. IsRequest request.method request.target request.body asked;
      tells = λ call reply shape place. reply_answer shape reply place;
      refuses = λ request refusal answer. IsRefusedAnswer request.target refusal answer;
      misread = IsFramingAnswer;
    }
