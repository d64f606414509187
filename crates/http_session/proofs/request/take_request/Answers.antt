use Rattle.http_session.proofs.Growth.{three_parts}
use Rattle.http_session.proofs.request.take_request.Goals as goal

pub returns-clause-body : goal.returns-clause-body
returns-clause-body c = let e = three_parts c.args.bytes.now.items c.args.head.len c.args.needed c.requires.order in cc (e, c.in_ok-body.ensures.items, c.deref.ensures.value, c.drop_front.ensures)
