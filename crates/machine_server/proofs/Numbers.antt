-- Numbers of seats that were split off one at a time, and joined again from the last to the first.
use Rattle.std.proofs.Common.{◌≡◌, ◌+◌, ◌-◌, ℕ, suc, List, [], ◌∷◌, ◌++◌, length, Option, Some, IfSome, sym, ap, ◌∙◌, subst, arith}
use Rattle.std.specs.Option.{option_to_list}
use Rattle.ipam_listen.specs.Connections.{Connection}
use Rattle.history_lock.specs.Seats.{SeatView}
use Rattle.machine_session.specs.Protocols.{Protocol}
use Rattle.machine_workers.specs.Workers.{AllHaveWorked, HasWorked}
use Rattle.machine_server.specs.History.{AreNumberedFrom, Shift}
use Rattle.machine_server.specs.Hired.{AreNumberedDown}

-- the worker's seat has this number
abbrev pub HasNumber : {S C : Type 0} → Option (SeatView S C) → ℕ → Type 0
HasNumber {S = S} {C = C} had n = IfSome had (λ (v : SeatView S C). v.number ≡ n)

pub shift_numbered : {C : Type 0} (first : ℕ) (ss : List (Shift C)) (s : Shift C) → AreNumberedFrom first ss → s.number ≡ first + length ss → AreNumberedFrom first (ss ++ s ∷ [])
shift_numbered first [] s k e = (omega arith, tt)
shift_numbered first (x ∷ xs) s k e = (k.0, shift_numbered (first + 1) xs s k.1 (omega arith))

pub seat_number : {S C : Type 0} (had : Option (SeatView S C)) (v : SeatView S C) (n : ℕ) → had ≡ Some v → HasNumber had n → v.number ≡ n
seat_number {S = S} {C = C} had v n is k = subst (λ (o : Option (SeatView S C)). IfSome o (λ (x : SeatView S C). x.number ≡ n)) is k

module _ {S C X : Type 0} (seat : X → Option (SeatView S C)) where
  pub number_pushed : (top : ℕ) (ws : List X) (w : X) → AreNumberedDown seat top ws → HasNumber (seat w) (top - length ws) → AreNumberedDown seat top (ws ++ w ∷ [])
  number_pushed top [] w k e =
      let none : top - 0 ≡ top = omega arith in
      (subst (λ (n : ℕ). HasNumber (seat w) n) none e, tt)
  number_pushed top (x ∷ xs) w k e =
      let same : top - length (x ∷ xs) ≡ (top - 1) - length xs = omega arith in
      (k.0, number_pushed (top - 1) xs w k.1 (subst (λ (n : ℕ). HasNumber (seat w) n) same e))

  pub number_last : (top : ℕ) (ws : List X) (w : X) → AreNumberedDown seat top (ws ++ w ∷ []) → AreNumberedDown seat top ws × HasNumber (seat w) (top - length ws)
  number_last top [] w k =
      let none : top ≡ top - 0 = omega arith in
      (tt, subst (λ (n : ℕ). HasNumber (seat w) n) none k.0)
  number_last top (x ∷ xs) w k =
      let r = number_last (top - 1) xs w k.1 in
      let same : (top - 1) - length xs ≡ top - length (x ∷ xs) = omega arith in
      ((k.0, r.0), subst (λ (n : ℕ). HasNumber (seat w) n) same r.1)

  pub number_popped : (top : ℕ) (xs ys : List X) (r : Option X) (w : X) → xs ≡ ys ++ option_to_list r → r ≡ Some w → AreNumberedDown seat top xs
      → AreNumberedDown seat top ys × HasNumber (seat w) (top - length ys)
  number_popped top xs ys r w e is k = number_last top ys w (subst (AreNumberedDown seat top) (e ∙ ap (λ (o : Option X). ys ++ option_to_list o) is) k)

  module _ {A B W E L : Type 0} (P : Protocol S C A B W E) (told : L → Option (List Connection)) (accepts faults : L → ℕ) (lane : X → L) where
    number_kept : (old : Option (SeatView S C)) (lane_old : L) (new : Option (SeatView S C)) (lane_new : L) (n : ℕ) → HasWorked P told accepts faults old lane_old new lane_new → HasNumber old n → HasNumber new n
    number_kept old lane_old new lane_new n k h =
        subst (λ (o : Option (SeatView S C)). IfSome o (λ (x : SeatView S C). x.number ≡ n)) (sym k.has) (k.served.later.same.1 ∙ seat_number old k.before n k.had h)

    -- work changes no number
    pub numbers_kept : (old new : List X) (top : ℕ) → length new ≡ length old → AllHaveWorked P told accepts faults seat lane old new → AreNumberedDown seat top old → AreNumberedDown seat top new
    numbers_kept [] [] top same worked k = tt
    numbers_kept [] (y ∷ ys) top same worked k = absurd (omega arith)
    numbers_kept (x ∷ xs) [] top same worked k = absurd (omega arith)
    numbers_kept (x ∷ xs) (y ∷ ys) top same worked k =
        (number_kept (seat x) (lane x) (seat y) (lane y) top (worked 0 x (omega arith)) k.0, numbers_kept xs ys (top - 1) (omega arith) (λ i w lt. worked (suc i) w (omega arith)) k.1)
