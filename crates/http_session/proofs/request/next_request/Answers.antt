use Rattle.std.proofs.Common.{refl}
use Rattle.http_session.proofs.request.next_request.Goals as goal

pub returns-in-Err-Bad-clause-item : goal.returns-in-Err-Bad-clause-item
returns-in-Err-Bad-clause-item g c = let item = rw c.in-Err-Bad.field-0-is at c.in-Err-Bad.ensures.item in rw (← c.inbox.view_is) (item.0, item.1, (item.2, c.saturating_add-inbox-inside-in-Err-Bad.ensures), item.3, item.4)

pub returns-in-Err-SourceFault-clause-item : goal.returns-in-Err-SourceFault-clause-item
returns-in-Err-SourceFault-clause-item g c = let item = rw c.in-Err-SourceFault.field-0-is at c.in-Err-SourceFault.ensures.item in rw (← c.inbox.view_is) (item.0, item.1, (item.2.0, item.2.1, refl), item.3, item.4)
