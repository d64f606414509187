-- Hired workers after their work.
use Rattle.std.proofs.Common.{◌≡◌, ◌<◌, ℕ, List, All, length, get_or, Option, Some, None, sym, ap, ◌∙◌, subst}
use Rattle.atomic_table.specs.Seated.{TableId}
use Rattle.ipam_listen.specs.Connections.{Connection}
use Rattle.history_lock.specs.Seats.{SeatView}
use Rattle.machine_session.specs.Protocols.{Protocol}
use Rattle.machine_session.specs.Told.{Standing, answers_in, newcomer, standing_of}
use Rattle.http_lanes.specs.Served.{AreServed}
use Rattle.machine_workers.specs.Workers.{AllHaveWorked, HasWorked, IsReady}
use Rattle.machine_server.specs.Hired.{AreFresh, AreHired, IsFresh, IsHired, top_number}
use Rattle.machine_server.proofs.Hired.{fresh_standing}
use Rattle.machine_server.proofs.Numbers.{numbers_kept}

abbrev value_or : {A : Type 0} → A → Option A → A
value_or d None = d
value_or d (Some x) = x

some_same : {A : Type 0} (x y : A) → Some x ≡ Some y → x ≡ y
some_same x y e = ap (value_or x) e

module _ {S C A B W E L X : Type 0} (P : Protocol S C A B W E) (told : L → Option (List Connection)) (accepts faults : L → ℕ) (seat : X → Option (SeatView S C)) (lane : X → L) where
  module _ (o : S) (base : ℕ) (z : TableId) where
    one_worked : (old : Option (SeatView S C)) (lane_old : L) (new : Option (SeatView S C)) (lane_new : L) → HasWorked P told accepts faults old lane_old new lane_new → IsHired P told o base z old lane_old → IsFresh told old lane_old → IsHired P told o base z new lane_new
    one_worked old lane_old new lane_new k h f =
        let same : h.seat ≡ k.before = some_same h.seat k.before (sym h.has ∙ k.had) in
        let fresh_same : f.seat ≡ k.before = some_same f.seat k.before (sym f.has ∙ k.had) in
        let s = k.served in
        let stays = s.later.same in
        let opening : k.after.opening ≡ o = stays.4 ∙ (ap (λ (x : SeatView S C). x.opening) (sym same) ∙ h.opening_is) in
        let start : standing_of k.before ≡ newcomer = fresh_standing k.before (ap (λ (x : SeatView S C). x.seen) (sym fresh_same) ∙ f.none_seen) (ap (λ (x : SeatView S C). x.faults) (sym fresh_same) ∙ f.no_faults) in
        record {
          seat = k.after;
          has = k.has;
          lock = stays.0 ∙ (ap (λ (x : SeatView S C). x.lock) (sym same) ∙ h.lock);
          weight = stays.3 ∙ (ap (λ (x : SeatView S C). x.weight) (sym same) ∙ h.weight);
          opening_is = opening;
          base_is = stays.5 ∙ (ap (λ (x : SeatView S C). x.base) (sym same) ∙ h.base_is);
          ended = stays.6 ∙ (ap (λ (x : SeatView S C). x.ended) (sym same) ∙ h.ended);
          connections = s.connections;
          told_are = s.told_are;
          served = subst (λ (x : S × Standing C). AreServed (answers_in P x.0 k.after.seen k.after.number) s.connections x.1 (standing_of k.after)) (λ i. (opening i, start i)) s.served;
        }

    pub all_worked : (old new : List X) → length new ≡ length old → AllHaveWorked P told accepts faults seat lane old new → All (λ w. IsHired P told o base z (seat w) (lane w)) old → All (λ w. IsFresh told (seat w) (lane w)) old → All (λ w. IsHired P told o base z (seat w) (lane w)) new
    all_worked old new same worked hired fresh = λ k d lt.
        let there = subst (λ (n : ℕ). k < n) same lt in
        one_worked (seat (get_or old k d)) (lane (get_or old k d)) (seat (get_or new k d)) (lane (get_or new k d)) (worked k d there) (hired k d there) (fresh k d there)

  pub all_spent : (old new : List X) → length new ≡ length old → AllHaveWorked P told accepts faults seat lane old new → All (λ w. accepts (lane w) ≡ 0) new
  all_spent old new same worked = λ k d lt. let w = worked k d (subst (λ (n : ℕ). k < n) same lt) in w.none_left

-- a hired worker that has served nothing is ready
pub ready : {S C A B W E L : Type 0} (P : Protocol S C A B W E) (told : L → Option (List Connection)) (o : S) (base : ℕ) (z : TableId) (had : Option (SeatView S C)) (lane : L) → IsHired P told o base z had lane → IsFresh told had lane → IsReady told z had lane
ready P told o base z had lane h f = record { now = h.seat; has = h.has; lock = h.lock; fresh = f.none_told }

module _ {S C A B W E L X : Type 0} (P : Protocol S C A B W E) (told : L → Option (List Connection)) (o : S) (base : ℕ) (z : TableId) (seat : X → Option (SeatView S C)) (lane : X → L) where
  -- workers before their work may begin it
  pub crew_ready : (ws : List X) → AreFresh P told o base z seat lane ws → All (λ w. IsReady told z (seat w) (lane w)) ws
  crew_ready ws crew = λ k d lt. ready P told o base z (seat (get_or ws k d)) (lane (get_or ws k d)) (crew.hired.hired k d lt) (crew.fresh k d lt)

  -- and have done it
  pub crew_worked : (accepts faults : L → ℕ) (old new : List X) → length new ≡ length old → AllHaveWorked P told accepts faults seat lane old new → AreFresh P told o base z seat lane old → AreHired P told o base z seat lane new
  crew_worked accepts faults old new same worked crew =
      record {
        hired = all_worked P told accepts faults seat lane o base z old new same worked crew.hired.hired crew.fresh;
        numbers = numbers_kept seat P told accepts faults lane old new top_number same worked crew.hired.numbers;
      }

  -- what is said of workers from one opening state is said from one that is the same
  pub crew_moved : (p : S) (n : ℕ) (ws : List X) → o ≡ p → base ≡ n → AreFresh P told o base z seat lane ws → AreFresh P told p n z seat lane ws
  crew_moved p n ws e f crew = subst (λ (x : S × ℕ). AreFresh P told x.0 x.1 z seat lane ws) (λ i. (e i, f i)) crew
