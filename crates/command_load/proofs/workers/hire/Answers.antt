use Rattle.std.proofs.Common.{◌≡◌, ◌+◌, ◌-◌, length, length-append, ap, sym, subst, ◌∙◌, refl, arith}
use Rattle.std.specs.Prelude.{sum_by}
use Rattle.std.proofs.lemmas.List.Sums.{sum_by_push}
use Rattle.command_load.specs.Hired.{AreNumberedDown, Caller, IsHired, top_number}
use Rattle.command_load.proofs.Hired.{newly_hired, number_pushed, pushed}
use Rattle.command_load.proofs.workers.hire.Goals as goal

pub split-rest-requires-clause-lock : goal.split-rest-requires-clause-lock
split-rest-requires-clause-lock g c = c.loop-nth.invariant.lock

pub split-rest-requires-clause-share : goal.split-rest-requires-clause-share
split-rest-requires-clause-share g c =
    let i = c.loop-nth.invariant in
    let weight = i.weight in
    let spare = i.spare in
    let count = i.count in
    let less = c.loop-nth-test.true in
    let few = c.requires.few.1 in
    (omega arith, omega arith)

pub loop-nth-preserved : goal.loop-nth-preserved
loop-nth-preserved g c =
    let i = c.loop-nth.invariant in
    let s = c.split-rest.ensures in
    let v = c.loop-nth.seat in
    let l = c.split-rest.result.0 in
    let r = c.split-rest.result.1 in
    let weight : l.weight ≡ v.weight - 1 = ap (λ (k : Caller). k.weight) s.old_loses_share in
    let spare : l.spare ≡ v.spare - 1 = ap (λ (k : Caller). k.spare) s.old_loses_share in
    let zero = i.first.0 in
    let fresh_number : r.number ≡ v.number + (v.spare - 1) = ap (λ (k : Caller). k.number) s.new_has_share in
    let number : r.number ≡ top_number - length c.loop-nth.claimers.items = let weight = i.weight in let spare = i.spare in omega arith in
    let more : length c.push_reserved.new.self.items ≡ length c.loop-nth.claimers.items + 1 = ap length c.push_reserved.ensures.items ∙ length-append c.loop-nth.claimers.items _ in
    let sums : sum_by (λ w. w.share) c.push_reserved.new.self.items ≡ sum_by (λ w. w.share) c.loop-nth.claimers.items + c.share_of-share.result = ap (sum_by (λ w. w.share)) c.push_reserved.ensures.items ∙ sum_by_push (λ w. w.share) c.loop-nth.claimers.items _ in
    let less = c.loop-nth-test.true in
    let few = c.requires.few.1 in
    let weights = i.weight in
    let spares = i.spare in
    let count = i.count in
    let room = i.room in
    let shares = i.shares in
    let part = c.share_of-share.ensures.low in
    let capacity = c.push_reserved.ensures.capacity in
    record {
      lock = ap (λ (k : Caller). k.lock) s.old_loses_share ∙ i.lock;
      weight = omega arith;
      spare = omega arith;
      first = (
        ap (λ (k : Caller). k.number) s.old_loses_share ∙ i.first.0,
        ap (λ (k : Caller). k.ended) s.old_loses_share ∙ i.first.1,
        ap (λ (k : Caller). k.opening.state) s.old_loses_share ∙ i.first.2,
        ap (λ (k : Caller). k.seen) s.old_loses_share ∙ i.first.3,
      );
      hired = pushed (IsHired c.args.shared.now) c.loop-nth.claimers.items c.push_reserved.new.self.items _ c.push_reserved.ensures.items i.hired
          (newly_hired c.args.shared.now v l r _ s i.lock i.first.2 refl);
      numbers = subst (AreNumberedDown top_number) (sym c.push_reserved.ensures.items) (number_pushed top_number c.loop-nth.claimers.items _ i.numbers number);
      shares = omega arith;
      last = λ e. (let all = c.share_of-share.ensures.last (omega arith) in omega arith);
      count = omega arith;
      room = omega arith;
    }
