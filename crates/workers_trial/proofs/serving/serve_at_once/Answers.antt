use Rattle.std.proofs.Common.{refl, Some, [], ◌∷◌}
use Rattle.std.proofs.lemmas.List.Elements.{All-from_recursion}
use Rattle.ipam_listen.specs.ListLanes.{lane_told}
use Rattle.machine_workers.specs.Workers.{IsReady}
use Rattle.workers_trial.proofs.serving.serve_at_once.Goals as goal

pub serve_workers-requires-after_bounds : goal.serve_workers-requires-after_bounds
serve_workers-requires-after_bounds g c κs within =
    All-from_recursion (λ w. IsReady (λ l. Some (lane_told l)) c.args.shared.now w.seat w.lane)
    (record { seat = Some c.args.seats.0; lane = c.args.lanes.0 } ∷ record { seat = Some c.args.seats.1; lane = c.args.lanes.1 } ∷ []) (
      record { now = c.args.seats.0; has = refl; lock = c.requires.lock.0; fresh = c.requires.none_told.0 },
      (
        record { now = c.args.seats.1; has = refl; lock = c.requires.lock.1; fresh = c.requires.none_told.1 },
        tt,
      ),
    )
