use Rattle.std.proofs.Common.{ℕ, ◌+◌, ◌<◌, ◌≤◌, length, vec_len, vec_capacity, ap, subst, ◌∙◌, arith}
use Rattle.kind_keeper.specs.Shelves.{Shelf}
use Rattle.kind_keeper.proofs.ByKind.{same_rows}
use Rattle.kind_keeper.proofs.Filing.{kept_are_shelves, room_more}
use Rattle.kind_keeper.proofs.shelves.reserve.Goals as goal

pub returns-in_err-reserve-clause-shelves : goal.returns-in_err-reserve-clause-shelves
returns-in_err-reserve-clause-shelves c =
    let at = c.loop-at in
    let low : at.at < 7 = let all = at.invariant.all in let test = c.loop-at-test.true in omega arith in
    let same = c.reserve.ensures.items ∙ ap (λ (s : Shelf). s.items) c.index_mut.ensures.value in
    kept_are_shelves at.shelves.items at.at c.reserve.new.self c.index_mut.result.now at.invariant.shelves low same

pub loop-at-preserved : goal.loop-at-preserved
loop-at-preserved c =
    let at = c.loop-at in
    let old = c.index_mut.result.now in
    let new = c.reserve.new.self in
    let low : at.at < 7 = let all = at.invariant.all in let test = c.loop-at-test.true in omega arith in
    let within : at.at < length at.shelves.items = let seven = at.invariant.shelves.seven in omega arith in
    let same = c.reserve.ensures.items ∙ ap (λ (s : Shelf). s.items) c.index_mut.ensures.value in
    let room = subst (λ (n : ℕ). vec_len new + n ≤ vec_capacity new) c.count-more.ensures c.in_ok-reserve.ensures.ok in
    record {
      all = at.invariant.all;
      shelves = kept_are_shelves at.shelves.items at.at new old at.invariant.shelves low same;
      rows = same_rows at.at at.shelves.items new old same ∙ at.invariant.rows;
      room = room_more c.args.puts.now at.shelves.items at.at new within at.invariant.room room;
    }
