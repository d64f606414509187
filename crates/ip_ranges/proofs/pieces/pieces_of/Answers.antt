use Rattle.std.proofs.Common.{ap, ◌∙◌}
use Rattle.inet_num.specs.Net.{Address}
use Rattle.span_set.specs.Spans.{Spans}
use Rattle.ip_ranges.proofs.Pieced.{just_from, pieces_ok}
use Rattle.ip_ranges.proofs.pieces.pieces_of.Goals as goal

pub returns : goal.returns
returns c =
    let set = c.add.new.self in
    let first = ap (λ (a : Address). a.value) c.start-2.ensures.start in
    let last = ap (λ (a : Address). a.value) c.end.ensures.end in
    let empty = ap (λ (s : Spans). s.runs) c.new-set.ensures in
    let family = c.in_ok-add.ensures.family ∙ ap (λ (s : Spans). s.family) c.new-set.ensures ∙ c.family.ensures.family ∙ ap (λ (a : Address). a.family) c.start.ensures.start in
    let just = just_from c.args.row.now c.new-set.result set c.start-2.result.value c.end.result.value empty first last c.in_ok-add.ensures.added in
    let found = c.blocks-2.ensures in
    pieces_ok c.args.row.now set c.requires family just (λ v. v.items) c.blocks-2.result found.fewest found.shortest found.members found.lawful found.family
