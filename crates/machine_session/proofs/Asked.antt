-- What a call through the seat is to the request that asked for it.
use Rattle.std.proofs.Common.{IfOk, OnErr, Result, Ok, Err, refl, inr}
use Rattle.history_lock.specs.Seats.{SeatView}
use Rattle.http_session.specs.declared.reply.Reply.{Reply as Written}
use Rattle.http_session.specs.Replies.{answer_of}
use Rattle.http_session.specs.Requests.{Framed}
use Rattle.http_session.specs.Ends.{IsLeft}
use Rattle.machine_session.specs.Protocols.{Protocol}
use Rattle.machine_session.specs.InTurn.{IsAsked, answers_in_turn}

module _ {S C A R W E F : Type 0} (P : Protocol S C A R W E) where
  pub told_in_turn : (v w : SeatView S C) (request : Framed) (call : C) (shown : W) (result : Result Written F)
      → P.asks request (Ok (call, shown)) → IsAsked P v call shown result w → IfOk result (λ r. (answers_in_turn P).answers v request (answer_of r) w)
  told_in_turn v w request call shown (Ok a) asks k = (Ok (call, shown), asks, (k.0, k.1, k.2, k.3))
  told_in_turn v w request call shown (Err e) asks k = tt

  pub lost_in_turn : (v w : SeatView S C) (request : Framed) (call : C) (shown : W) (result : Result Written F)
      → P.asks request (Ok (call, shown)) → IsAsked P v call shown result w → OnErr result (IsLeft (answers_in_turn P) v request w)
  lost_in_turn v w request call shown (Ok a) asks k = tt
  lost_in_turn v w request call shown (Err e) asks k = inr (P.tells call k.0 shown k.1, (Ok (call, shown), asks, (k.0, k.1, k.2, refl)))
