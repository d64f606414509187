-- The clock of a request as the next one begins.
use Rattle.std.proofs.Common.{◌≡◌, Option, None, Some, inl, inr, ap, subst, sym}
use Rattle.std.specs.declared.time.Duration.{Duration}
use Rattle.ipam_listen.specs.declared.tcp.TcpIn.{TcpIn}
use Rattle.ipam_listen.specs.Tcp.{Begins, RequestClock, begun, request_clock}

pub begins : {R S : Type 0} (answered : Option Duration) (s t : TcpIn R S) → t ≡ begun answered s → Begins (request_clock s) (request_clock t)
begins None s t e = inl (ap request_clock e)
begins (Some at) s t e = inr (ap (λ x. (request_clock x).bytes) e)

pub begins_so : (old from new : RequestClock) → new ≡ from → Begins old from → Begins old new
begins_so old from new same k = subst (Begins old) (sym same) k
