-- A worker that was just hired.
use Rattle.std.proofs.Common.{◌≡◌, ◌+◌, ◌-◌, ℕ, List, [], length, Option, Some, IfSome, ap, ◌∙◌}
use Rattle.atomic_table.specs.Seated.{TableId}
use Rattle.history_lock.specs.Replay.{own_entries}
use Rattle.history_lock.specs.Seats.{IsSplit, SeatView}
use Rattle.ipam_listen.specs.Connections.{Connection}
use Rattle.machine_session.specs.Protocols.{Protocol}
use Rattle.machine_session.specs.Told.{newcomer, standing_of}
use Rattle.machine_server.specs.Hired.{IsFresh, IsHired}

pub fresh_standing : {S C : Type 0} (r : SeatView S C) → r.seen ≡ [] → r.faults ≡ 0 → standing_of r ≡ newcomer
fresh_standing r seen faults = λ i. record { place = length (seen i); made = own_entries r.number (seen i); faults = faults i }

-- what a split leaves and what it gives
pub record IsHalved {S C : Type 0} (v : SeatView S C) (share : ℕ) (l r : SeatView S C) : Type 0 where
  pub lock : l.lock ≡ v.lock
  pub number : l.number ≡ v.number
  pub spare : l.spare ≡ v.spare - share
  pub weight : l.weight ≡ v.weight - share
  pub opening : l.opening ≡ v.opening
  pub base : l.base ≡ v.base
  pub seen : l.seen ≡ v.seen
  pub faults : l.faults ≡ v.faults
  pub ended : l.ended ≡ v.ended
  pub fresh_number : r.number ≡ v.number + (v.spare - share)

pub halved : {S C : Type 0} (v : SeatView S C) (share : ℕ) (l r : SeatView S C) → IsSplit v share l r → IsHalved v share l r
halved {S = S} {C = C} v share l r s = record {
  lock = ap (λ (k : SeatView S C). k.lock) s.old_loses_share;
  number = ap (λ (k : SeatView S C). k.number) s.old_loses_share;
  spare = ap (λ (k : SeatView S C). k.spare) s.old_loses_share;
  weight = ap (λ (k : SeatView S C). k.weight) s.old_loses_share;
  opening = ap (λ (k : SeatView S C). k.opening) s.old_loses_share;
  base = ap (λ (k : SeatView S C). k.base) s.old_loses_share;
  seen = ap (λ (k : SeatView S C). k.seen) s.old_loses_share;
  faults = ap (λ (k : SeatView S C). k.faults) s.old_loses_share;
  ended = ap (λ (k : SeatView S C). k.ended) s.old_loses_share;
  fresh_number = ap (λ (k : SeatView S C). k.number) s.new_has_share;
}

module _ {S C A B W E L : Type 0} (P : Protocol S C A B W E) (told : L → Option (List Connection)) (o : S) (base : ℕ) (z : TableId) where
  pub newly_hired : (v l r : SeatView S C) (had : Option (SeatView S C)) (lane : L) → IsSplit v 1 l r → v.lock ≡ z → v.opening ≡ o → v.base ≡ base → v.seen ≡ [] → had ≡ Some r
      → IfSome (told lane) (λ all. all ≡ []) → IsHired P told o base z had lane
  newly_hired v l r had lane s lock opening based seen has fresh =
      let r_seen : r.seen ≡ [] = ap (λ (k : SeatView S C). k.seen) s.new_has_share ∙ seen in
      let r_faults : r.faults ≡ 0 = ap (λ (k : SeatView S C). k.faults) s.new_has_share in
      record {
        seat = r;
        has = has;
        lock = ap (λ (k : SeatView S C). k.lock) s.new_has_share ∙ lock;
        weight = ap (λ (k : SeatView S C). k.weight) s.new_has_share;
        opening_is = ap (λ (k : SeatView S C). k.opening) s.new_has_share ∙ opening;
        base_is = ap (λ (k : SeatView S C). k.base) s.new_has_share ∙ based;
        ended = ap (λ (k : SeatView S C). k.ended) s.new_has_share;
        connections = [];
        told_are = fresh;
        served = fresh_standing r r_seen r_faults;
      }

  pub newly_fresh : (v l r : SeatView S C) (had : Option (SeatView S C)) (lane : L) → IsSplit v 1 l r → v.seen ≡ [] → had ≡ Some r → IfSome (told lane) (λ all. all ≡ []) → IsFresh told had lane
  newly_fresh v l r had lane s seen has fresh =
      record {
        seat = r;
        has = has;
        none_seen = ap (λ (k : SeatView S C). k.seen) s.new_has_share ∙ seen;
        no_faults = ap (λ (k : SeatView S C). k.faults) s.new_has_share;
        none_told = fresh;
      }
