use Rattle.std.proofs.Common.{rules, arith, refl, ap, ◌∙◌, subst, get_or, take, List, ℕ, []}
use Rattle.std.proofs.lemmas.List.{take_all}
use Rattle.ipam_edge.specs.Writing.{WritesAll}
use Rattle.ipam_edge.proofs.FaultLemmas.{cause_behind}
use Rattle.ipam_edge.proofs.WritingLemmas.{writes_at_err}
use Rattle.text_pieces.proofs.Lines.{passes_more, front_more}
use Rattle.text_pieces.proofs.Passing.{whole_behind}
use Rattle.command_zones.specs.declared.zone.Place.{Place}
use Rattle.command_zones.specs.Zone.{line_at, lines_at}
use Rattle.command_zones.proofs.printing.write_lines.Goals as goal

-- the element past the end, which no loop looks at
abbrev none_of : Place
none_of = record { address = 0; id = 0; index = 0 }

pub returns-in_err-put_line-clause-told : goal.returns-in_err-put_line-clause-told
returns-in_err-put_line-clause-told g c =
    let rows = c.args.addresses.now.rows in
    let places = c.args.places.now in
    let i = c.loop-place.place-index in
    writes_at_err _ _ c.from_residual.result (lines_at rows places) (search rules)
    (front_more (λ (s : Place). line_at rows s.index) places i (get_or places i none_of) none_of c.loop-place-test.true refl
    _ _ _ _ _ c.loop-place.invariant.passed c.in_err-put_line.ensures.told)

pub loop-place-preserved : goal.loop-place-preserved
loop-place-preserved g c =
    let rows = c.args.addresses.now.rows in
    let places = c.args.places.now in
    let i = c.loop-place.place-index in
    record {
      passed = passes_more (λ (s : Place). line_at rows s.index) places i (get_or places i none_of) none_of c.loop-place-test.true refl
          _ _ _ _ _ _ c.loop-place.invariant.passed c.in_ok-put_line.ensures.told;
      same = c.in_ok-put_line.ensures.cause.kept refl ∙ c.loop-place.invariant.same;
    }

pub returns-clause-told : goal.returns-clause-told
returns-clause-told g c =
    let rows = c.args.addresses.now.rows in
    let places = c.args.places.now in
    let i = c.loop-place.place-index in
    let old = g.Si.Sink.written c.args.output.now in
    let new = g.Si.Sink.written c.write_all.new.sink in
    subst (λ (text : List ℕ). WritesAll old new c.write_all.result text) (ap (λ (ss : List Place). lines_at rows ss) (take_all i places (omega arith)))
    (whole_behind _ _ _ [] c.loop-place.piece.items (lines_at rows (take i places)) c.write_all.result refl c.loop-place.invariant.passed
    (subst (λ (bytes : List ℕ). WritesAll (g.Si.Sink.written c.loop-place.output) new c.write_all.result bytes) c.as_slice.ensures.value
    c.write_all.ensures.told))

pub returns-clause-cause : goal.returns-clause-cause
returns-clause-cause g c = cause_behind _ _ _ c.write_all.result c.loop-place.invariant.same c.write_all.ensures.cause
