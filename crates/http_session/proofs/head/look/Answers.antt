use Rattle.std.proofs.Common.{rules, ◌≡◌, take, arith, refl}
use Rattle.http_session.specs.Requests.{front}
use Rattle.http_session.proofs.Heads.{front_is, may_become, never_head, whole_head}
use Rattle.http_session.proofs.head.look.Goals as goal

pub returns-in-Ok-from_slice : goal.returns-in-Ok-from_slice
returns-in-Ok-from_slice c =
    let e : take c.min.result c.args.bytes.now ≡ front c.args.bytes.now = front_is c.args.bytes.now c.min.result (omega arith) in
    let facts = rw c.in-Ok-Complete.field-0-is at c.in-Ok-Complete.ensures in
    whole_head c.args.bytes.now _ c.parse_request.new.headers c.in-Ok-Complete.spans _ e (search rules) facts.within facts.complete refl c.length_by-length.ensures c.close_by-close.ensures (search rules) (search rules)

pub returns-in-Ok-Partial : goal.returns-in-Ok-Partial
returns-in-Ok-Partial c =
    let e : take c.min.result c.args.bytes.now ≡ front c.args.bytes.now = front_is c.args.bytes.now c.min.result (omega arith) in
    let none = rw c.in-Ok-Partial.field-0-is at c.in-Ok-Partial.ensures.partial in
    let may = rw c.in-Ok-Partial.field-0-is at c.in-Ok-Partial.ensures.unfinished in
    may_become c.args.bytes.now _ e none may

pub returns-in-Err : goal.returns-in-Err
returns-in-Err c =
    let e : take c.min.result c.args.bytes.now ≡ front c.args.bytes.now = front_is c.args.bytes.now c.min.result (omega arith) in
    never_head c.args.bytes.now _ e c.in-Err.ensures.no_room
