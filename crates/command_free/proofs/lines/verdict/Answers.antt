use Rattle.std.proofs.Common.{◌≡◌, ◌≢◌, ℕ, true, false, List, [], arith, length, sym, ap, subst, ◌∙◌, ◌==◌}
use Rattle.std.proofs.lemmas.Bool.Decides.{nat_tests}
use Rattle.command_free.specs.declared.free.LineFault.{LineFault}
use Rattle.command_free.specs.Free.{IsLineFault}
use Rattle.command_free.specs.Reading.{IsEnded, line_fault_of}
use Rattle.command_free.proofs.Readings.{text_refused}
use Rattle.command_free.proofs.lines.verdict.Goals as goal

pub returns-in-Err : goal.returns-in-Err
returns-in-Err c = λ whole h.
    let line = c.args.line.now in
    let is : line ≡ whole = subst (IsEnded whole line) c.if-long.false h in
    let some : line ≢ [] = λ none. (let z : length line ≡ 0 = ap length none in let t : (length line == 0) ≡ true = grind (arith, nat_tests) in let wrong : true ≡ false = sym (c.is_empty.ensures ∙ t) ∙ c.if-is_empty.false in cc) in
    let refused = text_refused c.args.within.now c.args.number line c.in-Err.fault c.if-number-gt-MOST_LINES.false some c.if-line-gt64.false c.in-Err.ensures.fault in
    subst (λ (f : LineFault). IsLineFault c.args.within.now c.args.number whole f) (sym c.line_fault.ensures)
    (subst (λ (l : List ℕ). IsLineFault c.args.within.now c.args.number l (line_fault_of c.in-Err.fault)) is refused)
