use Rattle.std.proofs.Common.{◌+◌, ℕ, Option, IfSome, min, max, refl, subst, arith}
use Rattle.command_load.specs.Hired.{Notes, last_of_v4}
use Rattle.command_load.proofs.Called.{renoted, same_on}
use Rattle.command_load.proofs.claims.claim_share.Goals as goal

pub loop-init : goal.loop-init
loop-init g c =
    let none = c.none-tally.ensures in
    record {
      same = (refl, refl, refl, refl, refl, refl, refl);
      count = none.0;
      noted = renoted c.args.seat 0 last_of_v4 0 _ _ _ none.0 none.1 none.2;
    }

pub loop-preserved : goal.loop-preserved
loop-preserved g c =
    let i = c.loop.invariant in
    let one = c.claim_one-rest.ensures in
    let t = c.with-tally.ensures in
    let count = i.count in
    let more = t.0 in
    record {
      same = same_on c.args.seat c.loop.seat c.claim_one-rest.result.0 i.same one.same;
      count = omega arith;
      noted = λ k. renoted c.claim_one-rest.result.0 _ _ _ _ _ _ t.0 t.1 t.2
          (subst (λ (o : Option ℕ). IfSome o (λ value. Notes c.claim_one-rest.result.0 (c.loop.tally.claimed + 1) (min c.loop.tally.least value) (max c.loop.tally.greatest value))) c.in-Some.is
          (one.noted c.loop.tally.claimed c.loop.tally.least c.loop.tally.greatest (i.noted k)));
    }
