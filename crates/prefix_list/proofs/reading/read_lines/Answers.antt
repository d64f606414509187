use Rattle.std.proofs.Common.{◌≡◌, ◌<◌, ◌+◌, List, ℕ, [], ◌∷◌, length, arith, ap, sym, ◌∙◌}
use Rattle.prefix_list.specs.Reading.{lines_of}
use Rattle.prefix_list.proofs.Lines.{if_some, if_none}
use Rattle.prefix_list.proofs.Readings.{at_more, at_end}
use Rattle.prefix_list.proofs.reading.read_lines.Goals as goal

pub lines-preserved : goal.lines-preserved
lines-preserved c =
    let line = c.cut_line.result.0.now in
    let rest = c.lines.rest.now in
    let more = c.in-Some.more.now in
    let cut : lines_of rest ≡ line ∷ lines_of more = if_some c.cut_line.result.1 c.in-Some.more _ c.in-Some.is c.cut_line.ensures.some in
    let shorter : length more < length rest = if_some c.cut_line.result.1 c.in-Some.more _ c.in-Some.is c.cut_line.ensures.shorter in
    let enough = c.lines.invariant.enough in
    let next : c.saturating_add-number.result ≡ c.lines.number + 1 = omega arith in
    record {
      at = at_more c.args.form.now c.args.bytes.now rest line more c.lines.number c.saturating_add-number.result c.lines.blocks.items c.take_line.new.blocks.items
          c.lines.invariant.at cut next c.in_ok-take_line.ensures;
      enough = omega arith;
    }

pub returns-in-None-clause-ok : goal.returns-in-None-clause-ok
returns-in-None-clause-ok c =
    let line = c.cut_line.result.0.now in
    let rest = c.lines.rest.now in
    let cut : lines_of rest ≡ line ∷ [] = if_none c.cut_line.result.1 _ c.in-None.is c.cut_line.ensures.none in
    at_end c.args.form.now c.args.bytes.now rest line c.lines.number c.lines.blocks.items c.take_line.new.blocks.items c.lines.invariant.at cut c.in_ok-take_line.ensures
