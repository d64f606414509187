use Rattle.std.proofs.Common.{rules, arith, refl, ◌∙◌}
use Rattle.text_pieces.proofs.Passing.{puts_at_err}
use Rattle.command_lists.proofs.Lines.{passes_line, front_line}
use Rattle.command_lists.proofs.pieces.put_entries.Goals as goal

pub returns-in_err-put_entry-clause-told : goal.returns-in_err-put_entry-clause-told
returns-in_err-put_entry-clause-told g c =
    puts_at_err _ _ _ _ _ c.from_residual.result (search rules)
    (front_line c.args.form c.args.opening.now c.args.entries.now c.each.entry-index c.each.number c.entry-item.result c.each-test.true c.each.invariant.number c.entry-item.is
    _ _ _ _ _ c.each.invariant.passed c.in_err-put_entry.ensures.told)

pub each-preserved : goal.each-preserved
each-preserved g c =
    let number = c.each.invariant.number in
    record {
      number = omega arith;
      passed = passes_line c.args.form c.args.opening.now c.args.entries.now c.each.entry-index c.each.number c.entry-item.result c.each-test.true c.each.invariant.number c.entry-item.is
          _ _ _ _ _ _ c.each.invariant.passed c.in_ok-put_entry.ensures.told;
      same = c.in_ok-put_entry.ensures.cause.kept refl ∙ c.each.invariant.same;
    }
