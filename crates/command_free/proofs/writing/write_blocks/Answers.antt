use Rattle.std.proofs.Common.{rules, refl, ◌∙◌}
use Rattle.ipam_edge.proofs.FaultLemmas.{cause_behind}
use Rattle.ipam_edge.proofs.WritingLemmas.{writes_at_err}
use Rattle.text_pieces.proofs.Lines.{passes_more, front_more}
use Rattle.command_free.specs.Free.{line_text_of, lines_text_of}
use Rattle.command_free.proofs.writing.write_blocks.Goals as goal

pub returns-in_err-put_line-clause-told : goal.returns-in_err-put_line-clause-told
returns-in_err-put_line-clause-told g c =
    writes_at_err _ _ c.from_residual.result (lines_text_of c.args.blocks.now) (search rules)
    (front_more line_text_of c.args.blocks.now c.loop-block.block-index c.block-item.result _ c.loop-block-test.true c.block-item.is
    _ _ _ _ _ c.loop-block.invariant.passed c.in_err-put_line.ensures.told)

pub loop-block-preserved : goal.loop-block-preserved
loop-block-preserved g c = record {
  passed = passes_more line_text_of c.args.blocks.now c.loop-block.block-index c.block-item.result _ c.loop-block-test.true c.block-item.is
      _ _ _ _ _ _ c.loop-block.invariant.passed c.in_ok-put_line.ensures.told;
  same = c.in_ok-put_line.ensures.cause.kept refl ∙ c.loop-block.invariant.same;
}

pub returns-clause-cause : goal.returns-clause-cause
returns-clause-cause g c = cause_behind _ _ _ c.write_all.result c.loop-block.invariant.same c.write_all.ensures.cause
