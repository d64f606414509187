use Rattle.std.proofs.Common.{◌≡◌, ap, sym, ◌∙◌, subst, Option, length}
use Rattle.snapshot_rows.specs.Lists.{Lists}
use Rattle.ipam_data.specs.declared.update.Update.{Update}
use Rattle.left_right.specs.Sides.{view}
use Rattle.snapshot_reads.specs.declared.copies.Known.{Known}
use Rattle.snapshot_reads.specs.Seen.{LookView, opening_of, IsReading, Grows, IsAnswered}
use Rattle.snapshot_reads.specs.Published.{lists, after}
use Rattle.snapshot_reads.proofs.Keeps.{sees}
use Rattle.snapshot_reads.proofs.Answering.{answered_on}
use Rattle.snapshot_reads.proofs.Reading.{knows_on, knows_still, opens_still, grows_on, grows_same, found_on, lists_on}
use Rattle.snapshot_reads.proofs.look.Look.read_one.Goals as goal

pub enter_as-requires : goal.enter_as-requires
enter_as-requires c x = sees lists after _ _ x

pub invariant_of-result-in-Memory : goal.invariant_of-result-in-Memory
invariant_of-result-in-Memory c =
    let inside = c.self.inside in
    let k = knows_still lists after (view inside.reader.place) (view c.in-Ok.reading.place) c.in-Ok.reading.part.value inside.seen.book inside.told.book inside.seen.log inside.told.log c.in-Ok.ensures.1 c.self.invariant.0 in (
      subst (λ (z : Option (Known Lists Update)). IsReading z inside.seen.book inside.seen.log inside.told.book inside.told.log) (sym c.leave.ensures.1) k,
      c.self.invariant.1,
      c.self.invariant.2,
    )

pub returns-in-Memory-clause-answer : goal.returns-in-Memory-clause-answer
returns-in-Memory-clause-answer c =
    let inside = c.self.inside in
    let same = opens_still lists after (view inside.reader.place) (view c.in-Ok.reading.place) c.in-Ok.reading.part.value inside.seen.book inside.told.book inside.seen.log inside.told.log c.in-Ok.ensures.1 c.self.invariant.0 in
    ap (λ (o : Option Lists). record { book = inside.seen.book; opening = o; seen = inside.seen.log; told = inside.told.log }) (ap opening_of c.leave.ensures.1 ∙ same) ∙ c.self.view_is

pub returns-in-Memory-clause-grows : goal.returns-in-Memory-clause-grows
returns-in-Memory-clause-grows c =
    let inside = c.self.inside in
    let same = opens_still lists after (view inside.reader.place) (view c.in-Ok.reading.place) c.in-Ok.reading.part.value inside.seen.book inside.told.book inside.seen.log inside.told.log c.in-Ok.ensures.1 c.self.invariant.0 in
    grows_same _ _ (ap (λ (o : Option Lists). record { book = inside.seen.book; opening = o; seen = inside.seen.log; told = inside.told.log }) (ap opening_of c.leave.ensures.1 ∙ same) ∙ c.self.view_is)

pub invariant_of-result-in_default : goal.invariant_of-result-in_default
invariant_of-result-in_default c =
    let inside = c.self.inside in
    let x = c.in-Ok.reading.part.value in
    let seen : c.again-now.result ≡ x.seen = c.again-now.ensures ∙ ap (λ t. t.seen) c.get-twin.ensures in
    let r = c.self.invariant.0 in
    let then = c.in-Ok.ensures.1 in
    let k = knows_on lists after (view inside.reader.place) (view c.in-Ok.reading.place) x inside.seen.book inside.told.book inside.seen.log inside.told.log c.again-now.result.book c.again-now.result.log then r (ap (λ s. s.book) seen) (ap (λ s. s.log) seen) in
    let sight = then r.0 r.1 in (
      subst (λ (z : Option (Known Lists Update)). IsReading z c.again-now.result.book c.again-now.result.log inside.told.book inside.told.log) (sym c.leave-in_default.ensures.1) k,
      ap (λ t. t.count) c.get-twin.ensures ∙ (sight.count ∙ ap (λ s. length s.log) (sym seen)),
      c.self.invariant.2,
    )

pub returns-in_default-clause-grows : goal.returns-in_default-clause-grows
returns-in_default-clause-grows c =
    let inside = c.self.inside in
    let x = c.in-Ok.reading.part.value in
    let seen : c.again-now.result ≡ x.seen = c.again-now.ensures ∙ ap (λ t. t.seen) c.get-twin.ensures in
    let g = grows_on lists after (view inside.reader.place) (view c.in-Ok.reading.place) x inside.seen.book inside.told.book inside.seen.log inside.told.log c.again-now.result.book c.again-now.result.log c.in-Ok.ensures.1 c.self.invariant.0 (ap (λ s. s.book) seen) (ap (λ s. s.log) seen) in
    subst (λ (z : LookView Lists Update × Option (Known Lists Update)). Grows z.0 (record { book = c.again-now.result.book; opening = opening_of z.1; seen = c.again-now.result.log; told = inside.told.log })) (λ i. (c.self.view_is i, sym c.leave-in_default.ensures.1 i)) g

pub returns-in_default-clause-answer : goal.returns-in_default-clause-answer
returns-in_default-clause-answer c =
    let inside = c.self.inside in
    let x = c.in-Ok.reading.part.value in
    let v = view inside.reader.place in
    let place = c.leave-in_default.ensures.1 in
    let seen : c.again-now.result ≡ x.seen = c.again-now.ensures ∙ ap (λ t. t.seen) c.get-twin.ensures in
    let log = ap (λ s. s.log) seen in
    let count : c.get-twin.result.now.count ≡ x.count = ap (λ t. t.count) c.get-twin.ensures in
    let before : LookView Lists Update = record { book = inside.seen.book; opening = opening_of v; seen = inside.seen.log; told = inside.told.log } in
    let now : Option (Known Lists Update) → LookView Lists Update = λ w. record { book = c.again-now.result.book; opening = opening_of w; seen = c.again-now.result.log; told = inside.told.log } in
    let found = found_on lists after v (view c.in-Ok.reading.place) x inside.seen.book inside.told.book inside.seen.log inside.told.log c.get-twin.result.now.count c.again-now.result.book c.again-now.result.log c.in-Ok.ensures.1 c.self.invariant.0 count log in
    let known = lists_on lists after v (view c.in-Ok.reading.place) x inside.seen.book inside.told.book inside.seen.log inside.told.log c.again-now.result.log c.in-Ok.ensures.1 c.self.invariant.0 log in
    let now_known = now (view c.in-Ok.reading.place) in
    let same = ap (λ t. lists t.value) c.get-twin.ensures ∙ known.2 in
    let is = answered_on c.args.call.now c.args.least c.get-twin.result.now.count (lists c.get-twin.result.now.value) known.0 before now_known c.asked.result c.in_default.not-Memory c.asked.ensures known.1 same found in
    subst (λ (z : LookView Lists Update × Option (Known Lists Update)). IsAnswered c.args.call.now c.args.least z.0 (now z.1) c.asked.result) (λ i. (c.self.view_is i, sym place i)) is
