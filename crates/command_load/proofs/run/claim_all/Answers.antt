use Rattle.std.proofs.Common.{rules, ◌≡◌, ◌+◌, ◌≤◌, ℕ, All, length, ap, sym, subst, ◌∙◌}
use Rattle.std.specs.Prelude.{sum_by}
use Rattle.command_load.specs.Hired.{AreNumberedDown, IsDone, IsHired, top_number}
use Rattle.command_load.proofs.AllClaims.{all_claimed}
use Rattle.command_load.proofs.Hired.{all_done, numbers_kept, over, shares_kept}
use Rattle.command_load.proofs.run.claim_all.Goals as goal

pub each_claims-requires-clause-hired : goal.each_claims-requires-clause-hired
each_claims-requires-clause-hired g c κs within = subst (All (IsHired c.args.shared.now)) (sym c.as_mut_slice.ensures.value) c.hire-seat.ensures.hired

pub dismiss-seat-requires-clause-seat : goal.dismiss-seat-requires-clause-seat
dismiss-seat-requires-clause-seat g c =
    let weight = c.hire-seat.result.weight in
    let many = ap (λ (n : ℕ). weight + n) (c.each_claims.ensures.all ∙ ap length c.as_mut_slice.ensures.value) ∙ c.hire-seat.ensures.seat.1 in
    (c.hire-seat.ensures.seat.0, over (λ l. weight + length l ≡ 65536) c.each_claims.new.claimers _ _ (search rules) many)

pub dismiss-seat-requires-clause-done : goal.dismiss-seat-requires-clause-done
dismiss-seat-requires-clause-done g c =
    let z = c.args.shared.now in
    let hired = subst (All (IsHired z)) (sym c.as_mut_slice.ensures.value) c.hire-seat.ensures.hired in
    over (All (IsDone z)) c.each_claims.new.claimers _ _ (search rules) (all_done z _ c.each_claims.new.claimers c.each_claims.ensures.all c.each_claims.ensures.claimed hired)

pub dismiss-seat-requires-clause-numbers : goal.dismiss-seat-requires-clause-numbers
dismiss-seat-requires-clause-numbers g c =
    let numbers = subst (AreNumberedDown top_number) (sym c.as_mut_slice.ensures.value) c.hire-seat.ensures.numbers in
    over (AreNumberedDown top_number) c.each_claims.new.claimers _ _ (search rules) (numbers_kept _ c.each_claims.new.claimers top_number c.each_claims.ensures.all c.each_claims.ensures.claimed numbers)

pub dismiss-seat-requires-clause-few : goal.dismiss-seat-requires-clause-few
dismiss-seat-requires-clause-few g c =
    let shares = shares_kept _ c.each_claims.new.claimers c.each_claims.ensures.all c.each_claims.ensures.claimed ∙ (ap (sum_by (λ w. w.share)) c.as_mut_slice.ensures.value ∙ c.hire-seat.ensures.shares) in
    over (λ l. sum_by (λ w. w.share) l ≤ 100000) c.each_claims.new.claimers _ _ (search rules) (subst (λ (n : ℕ). n ≤ 100000) (sym shares) c.requires.few.2)

pub returns-clause-came : goal.returns-clause-came
returns-clause-came g c =
    let d = c.dismiss-seat.ensures in
    let f = c.hire-seat.ensures.first in
    let many = over (λ l. length l ≡ c.args.workers) c.each_claims.new.claimers _ _ (search rules) (c.each_claims.ensures.all ∙ (ap length c.as_mut_slice.ensures.value ∙ c.hire-seat.ensures.all)) in
    let shares = shares_kept _ c.each_claims.new.claimers c.each_claims.ensures.all c.each_claims.ensures.claimed ∙ (ap (sum_by (λ w. w.share)) c.as_mut_slice.ensures.value ∙ c.hire-seat.ensures.shares) in
    let sum = over (λ l. sum_by (λ w. w.share) l ≡ c.args.count) c.each_claims.new.claimers _ _ (search rules) shares in
    all_claimed c.args.count c.args.workers _ _ c.args.seat c.hire-seat.result c.dismiss-seat.result.0 c.ask_figure-seat.result.0 c.dismiss-seat.result.1 c.dismiss-seat.result.2 c.ask_figure-seat.result.1 _
    c.load_outcome_of.ensures c.ask_figure-seat.ensures.asked c.ask_figure-seat.ensures.same d.dismissed many d.whole sum (f.0, f.2, f.3) (d.seat.2, d.seat.3) d.own d.seen
