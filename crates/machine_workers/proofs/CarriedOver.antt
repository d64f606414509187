-- What is said of the connections of a lane in one view of a seat is said in another, which stands for it.
use Rattle.std.proofs.Common.{ℕ, List, [], ◌∷◌, Option, sym, ap, subst}
use mathlib.Core.List.{IsPrefix}
use Rattle.ipam_listen.specs.Connections.{Connection}
use Rattle.history_lock.specs.Seats.{SeatView}
use Rattle.http_session.specs.Talk.{May}
use Rattle.http_lanes.specs.Served.{AreServed, HasServed, IsServedWhole}
use Rattle.machine_session.specs.Protocols.{Protocol}
use Rattle.machine_session.specs.Told.{IsLater, Standing, answers_in, standing_of}
use Rattle.machine_session.specs.InTurn.{answers_in_turn}
use Rattle.machine_session.proofs.Carried.{IsCarried, end_ahead, end_behind, end_carried}
use Rattle.machine_session.proofs.Talks.{in_turn, later_refl, longer, since}
use Rattle.machine_workers.specs.Workers.{HasServedSeat}

module _ {S T : Type 0} (may : May S) (must : May T) (f : S → T) (Ahead Behind : S → Type 0) (k : IsCarried may must f Ahead Behind) where
  one_ahead : (c : Connection) (s t : S) → IsServedWhole may c s t → Ahead s → Ahead t
  one_ahead c s t h x = end_ahead may must f Ahead Behind k s t c.before.written h.0.written h.2.bytes h.0.left h.2.how h.2.talk x

  one_behind : (c : Connection) (s t : S) → IsServedWhole may c s t → Behind t → Behind s
  one_behind c s t h y = end_behind may must f Ahead Behind k s t c.before.written h.0.written h.2.bytes h.0.left h.2.how h.2.talk y

  one_carried : (c : Connection) (s t : S) → IsServedWhole may c s t → Ahead s → Behind t → IsServedWhole must c (f s) (f t)
  one_carried c s t h x y = (
    h.0,
    h.1,
    record {
      bytes = h.2.bytes;
      how = h.2.how;
      grown = h.2.grown;
      needed = h.2.needed;
      talk = end_carried may must f Ahead Behind k s t c.before.written h.0.written h.2.bytes h.0.left h.2.how h.2.talk x y;
      source = h.2.source;
      source_kept = h.2.source_kept;
      sink = h.2.sink;
      sink_kept = h.2.sink_kept;
    },
  )

  pub served_ahead : (cs : List Connection) (s t : S) → AreServed may cs s t → Ahead s → Ahead t
  served_ahead [] s t h x = subst Ahead (sym h) x
  served_ahead (c ∷ cs) s t h x = served_ahead cs h.0 t h.2 (one_ahead c s h.0 h.1 x)

  served_behind : (cs : List Connection) (s t : S) → AreServed may cs s t → Behind t → Behind s
  served_behind [] s t h y = subst Behind h y
  served_behind (c ∷ cs) s t h y = one_behind c s h.0 h.1 (served_behind cs h.0 t h.2 y)

  pub served_carried : (cs : List Connection) (s t : S) → AreServed may cs s t → Ahead s → Behind t → AreServed must cs (f s) (f t)
  served_carried [] s t h x y = ap f h
  served_carried (c ∷ cs) s t h x y =
      (f h.0, one_carried c s h.0 h.1 x (served_behind cs h.0 t h.2 y), served_carried cs h.0 t h.2 (one_ahead c s h.0 h.1 x) y)

module _ {S C A R W E : Type 0} (P : Protocol S C A R W E) where
  -- connections whose requests were answered in turn were served in what the seat has seen then
  pub has_served_seat : (v w : SeatView S C) (told : Option (List Connection)) → HasServed (answers_in_turn P) v w told → HasServedSeat P v w told
  has_served_seat v w told h =
      record {
        connections = h.connections;
        told_are = h.told_are;
        later = served_ahead (answers_in_turn P) (answers_in_turn P) (λ s. s) (λ s. IsLater v s) (λ s. Unit {0}) (since P v) h.connections v w h.served (later_refl v);
        served = served_carried (answers_in_turn P) (answers_in P w.opening w.seen w.number) standing_of (λ s. Unit {0}) (λ t. IsLater t w) (in_turn P w) h.connections v w h.served tt (later_refl w);
      }

  -- what was served in a history was served in each longer one
  pub all_longer : (o : S) (h g : List (ℕ × C)) (n : ℕ) (cs : List Connection) (s t : Standing C) → IsPrefix h g → AreServed (answers_in P o h n) cs s t → AreServed (answers_in P o g n) cs s t
  all_longer o h g n cs s t p k =
      served_carried (answers_in P o h n) (answers_in P o g n) (λ s. s) (λ s. Unit {0}) (λ s. Unit {0}) (longer P o h g n p) cs s t k tt tt
