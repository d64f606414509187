use Rattle.std.proofs.Common.{ℕ, List, None, option_copied, subst}
use Rattle.pool_rest.specs.Routes.{HasRoute}
use Rattle.pool_rest.proofs.Routed.{found, missed, no_text}
use Rattle.pool_rest.proofs.table.Routes.route_of.Goals as goal

pub returns-in_default : goal.returns-in_default
returns-in_default c = no_text c.args.target.now c.in_default.ensures.cases.0

pub returns-in-Some : goal.returns-in-Some
returns-in-Some c =
    let f = c.in-Some.ensures.found in
    subst (λ (z : List ℕ). HasRoute z c.route_at.result) c.in-Ok.ensures.cases.0
    (found c.self.inside.table c.in-Ok.path.now f.0 c.in-Some.found.value.now (option_copied c.in-Some.found.piece) c.route_at.result c.self.invariant f.1 f.2 c.route_at.ensures)

pub returns-in-None : goal.returns-in-None
returns-in-None c =
    subst (λ (z : List ℕ). HasRoute z None) c.in-Ok.ensures.cases.0
    (missed c.self.inside.table c.in-Ok.path.now c.self.invariant c.in-None.ensures.none)
