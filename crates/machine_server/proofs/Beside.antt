-- The history of a machine is one by a part of its state, where the steps of both go side by side.
use Rattle.std.proofs.Common.{ℕ, List, All, get_or}
use Rattle.ipam_listen.specs.Connections.{Returned}
use Rattle.machine_session.specs.Protocols.{GoBeside, Protocol, protocol_over}
use Rattle.machine_session.specs.Told.{answers_in, newcomer}
use Rattle.machine_session.proofs.Beside.{talk_beside}
use Rattle.machine_workers.proofs.CarriedOver.{served_carried}
use Rattle.machine_server.specs.History.{IsServedBy, IsShift, Shift}

module _ {S T C A R W E : Type 0} (P : Protocol S C A R W E) (more_step : T → C → T × A) (part : T → S) (beside : GoBeside P.step more_step part) where
  shift_beside : (t : T) (h : List (ℕ × C)) (s : Shift C) → IsShift (protocol_over more_step P) t h s → IsShift P (part t) h s
  shift_beside t h s k =
      served_carried (answers_in (protocol_over more_step P) t h s.number) (answers_in P (part t) h s.number) (λ x. x) (λ x. Unit {0}) (λ x. Unit {0})
      (talk_beside P more_step part beside t h s.number) s.connections newcomer s.reached k tt tt

  pub served_beside : (t : T) (m n : ℕ) (old new : List Returned) (none_left : Type 0) (h : List (ℕ × C))
      → IsServedBy (protocol_over more_step P) t m n old new none_left h → IsServedBy P (part t) m n old new none_left h
  served_beside t m n old new none_left h k =
      record {
        shifts = k.shifts;
        back = k.back;
        returned = k.returned;
        lanes = k.lanes;
        one_history = record {
          answered = λ i d lt. shift_beside t h (get_or k.shifts i d) (k.one_history.answered i d lt);
          changes = k.one_history.changes;
          numbers = k.one_history.numbers;
          nobody_else = k.one_history.nobody_else;
        };
        faults = k.faults;
        spent = k.spent;
      }
