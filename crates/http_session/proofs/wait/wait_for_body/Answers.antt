use Rattle.std.proofs.Common.{rules, ◌∙◌}
use Rattle.std.proofs.lemmas.Result.{err_from_is_err_and}
use Rattle.ipam_edge.proofs.FaultLemmas.{unless}
use Rattle.http_session.specs.Steps.{IsShort}
use Rattle.http_session.proofs.Growth.{Grown-trans, read_on}
use Rattle.http_session.proofs.Pieces.{one_more, short_reads}
use Rattle.http_session.proofs.wait.wait_for_body.Goals as goal

pub loop-source-preserved : goal.loop-source-preserved
loop-source-preserved g c = (
  Grown-trans _ _ _ _ _ _ c.loop-source.invariant.0 c.read_piece.ensures.grown,
  unless (λ e. cc e) c.in_ok-read_piece.ensures.cause.kept ∙ c.loop-source.invariant.1,
  read_on (IsShort c.args.needed) _ _ _ c.loop-source.invariant.0.got c.read_piece.ensures.grown.got c.loop-source.invariant.0.grown c.read_piece.ensures.grown.grown c.read_piece.ensures.most (search rules),
  one_more _ (IsShort c.args.needed) _ _ _ _ _ _ c.loop-source.invariant.3 (search rules) c.in_ok-read_piece.ensures.read,
)

pub returns-in_err-read_piece-clause-reads : goal.returns-in_err-read_piece-clause-reads
returns-in_err-read_piece-clause-reads g c =
    let p = err_from_is_err_and c.from_residual.result c.from_residual.ensures.1 in
    rw (p.1, p.2) (short_reads _ (IsShort c.args.needed) _ _ _ _ _ _ c.loop-source.invariant.3 (search rules) _ c.in_err-read_piece.ensures.read)
