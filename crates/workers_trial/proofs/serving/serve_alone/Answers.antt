use Rattle.std.proofs.Common.{refl, ◌∙◌, []}
use Rattle.std.proofs.lemmas.List.Elements.{All-nil, All-push, All-same}
use Rattle.machine_workers.specs.Workers.{IsReady}
use Rattle.workers_trial.proofs.serving.serve_alone.Goals as goal

pub serve_workers-requires-after_bounds : goal.serve_workers-requires-after_bounds
serve_workers-requires-after_bounds g c κs within =
    All-same (λ w. IsReady g.A.Lane.told c.args.shared.now w.seat w.lane) _ _ (c.as_mut_slice.ensures.value ∙ c.in_ok-push.ensures.items)
    (All-push (λ w. IsReady g.A.Lane.told c.args.shared.now w.seat w.lane) c.new-workers.result.items _
    (All-same (λ w. IsReady g.A.Lane.told c.args.shared.now w.seat w.lane) c.new-workers.result.items [] c.new-workers.ensures.items
    (All-nil (λ w. IsReady g.A.Lane.told c.args.shared.now w.seat w.lane)))
    (record { now = c.args.seat; has = refl; lock = c.requires.lock; fresh = c.requires.none_told }))
