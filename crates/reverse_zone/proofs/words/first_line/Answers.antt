use Rattle.std.proofs.Common.{◌∷◌, ◌∙◌, ap, sym, List, ℕ, length, arith}
use Rattle.std.proofs.lemmas.List.{take_rest, drop_all}
use Rattle.std.specs.Str.Lines.{lines}
use Rattle.reverse_zone.proofs.LineWords.{line_first, line_last}
use Rattle.reverse_zone.proofs.words.first_line.Goals as goal

pub returns-in-Some-clause-line : goal.returns-in-Some-clause-line
returns-in-Some-clause-line c =
    let rest = c.in-Some.rest.now in
    line_first c.args.text.now c.in-Some.line.now rest c.in-Some.ensures.some c.in-Some.ensures.front ∙ ap (λ (line : List ℕ). line ∷ lines rest) (sym c.without_return.ensures)

pub returns-in-None-clause-line : goal.returns-in-None-clause-line
returns-in-None-clause-line c =
    let text = c.args.text.now in
    line_last text _ c.in-None.ensures.none c.requires (take_rest text (length text) ∙ drop_all (length text) text (omega arith))
