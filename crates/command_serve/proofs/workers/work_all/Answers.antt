use Rattle.machine_server.proofs.Worked.{all_spent, crew_worked}
use Rattle.rest_ipam.specs.Protocol.{seen_protocol}
use Rattle.command_serve.proofs.workers.work_all.Goals as goal

pub returns-then-workers-wanted-clause-hired : goal.returns-then-workers-wanted-clause-hired
returns-then-workers-wanted-clause-hired g c = λ opening base crew.
    crew_worked seen_protocol g.A.Lane.told opening base _ (λ w. w.seat) (λ w. w.lane) g.A.Lane.accepts g.A.Lane.faults _ _ c.serve_workers.ensures.all c.serve_workers.ensures.worked crew

pub returns-then-workers-wanted-clause-spent : goal.returns-then-workers-wanted-clause-spent
returns-then-workers-wanted-clause-spent g c = λ many.
    all_spent seen_protocol g.A.Lane.told g.A.Lane.accepts g.A.Lane.faults (λ w. w.seat) (λ w. w.lane) _ _ c.serve_workers.ensures.all c.serve_workers.ensures.worked

pub returns-else-workers-wanted-clause-hired : goal.returns-else-workers-wanted-clause-hired
returns-else-workers-wanted-clause-hired g c = λ opening base crew. crew.hired
