use Rattle.machine_server.proofs.Worked.{all_spent, crew_ready, crew_worked}
use Rattle.pool_service.specs.Protocol.{pool_protocol}
use Rattle.pool_command.proofs.workers.work_all.Goals as goal

pub serve_workers-requires-clause-ready : goal.serve_workers-requires-clause-ready
serve_workers-requires-clause-ready g c κs within =
    crew_ready pool_protocol g.A.Lane.told _ _ c.args.shared.now (λ w. w.seat) (λ w. w.lane) _ c.requires.ready.2

pub returns-then-workers-wanted-clause-hired : goal.returns-then-workers-wanted-clause-hired
returns-then-workers-wanted-clause-hired g c = λ opening base fresh.
    crew_worked pool_protocol g.A.Lane.told opening base c.args.shared.now (λ w. w.seat) (λ w. w.lane) g.A.Lane.accepts g.A.Lane.faults _ _ c.serve_workers.ensures.all c.serve_workers.ensures.worked fresh

pub returns-then-workers-wanted-clause-spent : goal.returns-then-workers-wanted-clause-spent
returns-then-workers-wanted-clause-spent g c = λ all.
    all_spent pool_protocol g.A.Lane.told g.A.Lane.accepts g.A.Lane.faults (λ w. w.seat) (λ w. w.lane) _ _ c.serve_workers.ensures.all c.serve_workers.ensures.worked
