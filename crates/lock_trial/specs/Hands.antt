-- What a hand has between two marks.
use Rattle.std.specs.Prelude.{◌≡◌, ◌≤◌, ℕ, Option, Some}
use Rattle.atomic_table.specs.Seated.{TableId}
use Rattle.history_lock.specs.Seats.{SeatView}

-- a seat of this lock that has half of the weight and at least half of the numbers
pub record IsSeated (z : TableId) (seat : Option (SeatView ℕ ℕ)) : Type 0 where
  pub view : SeatView ℕ ℕ
  pub has : seat ≡ Some view
  pub lock : view.lock ≡ z
  pub weight : view.weight ≡ 32768
  pub spare : 32768 ≤ view.spare
