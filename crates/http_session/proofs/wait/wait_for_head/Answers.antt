use Rattle.std.proofs.Common.{rules, ◌∙◌, inl, inr, subst, refl}
use Rattle.ipam_edge.specs.Reading.{Told, Failed}
use Rattle.ipam_edge.proofs.FaultLemmas.{unless}
use Rattle.http_session.specs.Requests.{NeverHead, StopsInHead, front}
use Rattle.http_session.proofs.Growth.{Grown-trans, read_none, read_on}
use Rattle.http_session.proofs.Heads.{stops_in_head}
use Rattle.http_session.proofs.Pieces.{one_more, the_end, the_fault}
use Rattle.http_session.proofs.wait.wait_for_head.Goals as goal

pub returns-in-Bad-clause-head : goal.returns-in-Bad-clause-head
returns-in-Bad-clause-head g c = (inl (subst (λ b. NeverHead (front b)) c.as_slice.ensures.value c.in-Bad.ensures), refl)

pub loop-head-preserved : goal.loop-head-preserved
loop-head-preserved g c = (
  Grown-trans _ _ _ _ _ _ c.loop-head.invariant.0 c.read_piece.ensures.grown,
  unless (λ e. cc e) c.in-Ok.ensures.cause.kept ∙ c.loop-head.invariant.1,
  read_on StopsInHead _ _ _ c.loop-head.invariant.0.got c.read_piece.ensures.grown.got c.loop-head.invariant.0.grown c.read_piece.ensures.grown.grown c.read_piece.ensures.most
      (stops_in_head _ _ _ c.as_slice.ensures.value refl (search rules) c.in-More.ensures),
  one_more _ StopsInHead _ _ _ _ _ _ c.loop-head.invariant.3 (stops_in_head _ _ _ c.as_slice.ensures.value refl (search rules) c.in-More.ensures) c.in-Ok.ensures.read,
)

pub returns-in-Err-End-clause-grown : goal.returns-in-Err-End-clause-grown
returns-in-Err-End-clause-grown g c = Grown-trans _ _ _ _ _ _ c.loop-head.invariant.0 c.read_piece.ensures.grown

pub returns-in-Err-End-clause-head : goal.returns-in-Err-End-clause-head
returns-in-Err-End-clause-head g c =
    let piece = rw c.in-Err-End.field-0-is at c.in-Err-End.ensures.piece in
    (inr (inr (piece.1, inl (search rules, stops_in_head _ _ _ c.as_slice.ensures.value piece.0 (search rules) c.in-More.ensures))), refl)

pub returns-in-Err-SourceFault-clause-grown : goal.returns-in-Err-SourceFault-clause-grown
returns-in-Err-SourceFault-clause-grown g c = Grown-trans _ _ _ _ _ _ c.loop-head.invariant.0 c.read_piece.ensures.grown

pub returns-in-Err-SourceFault-clause-head : goal.returns-in-Err-SourceFault-clause-head
returns-in-Err-SourceFault-clause-head g c = stops_in_head _ _ _ c.as_slice.ensures.value (rw c.in-Err-SourceFault.field-0-is at c.in-Err-SourceFault.ensures.piece) (search rules) c.in-More.ensures

pub returns-in-Err-Memory-clause-grown : goal.returns-in-Err-Memory-clause-grown
returns-in-Err-Memory-clause-grown g c = Grown-trans _ _ _ _ _ _ c.loop-head.invariant.0 c.read_piece.ensures.grown

pub returns-in-Err-End-clause-needed : goal.returns-in-Err-End-clause-needed
returns-in-Err-End-clause-needed g c = read_none StopsInHead _ _ _ (let piece = rw c.in-Err-End.field-0-is at c.in-Err-End.ensures.piece in piece.0) c.loop-head.invariant.2

pub returns-in-Err-SourceFault-clause-needed : goal.returns-in-Err-SourceFault-clause-needed
returns-in-Err-SourceFault-clause-needed g c = read_none StopsInHead _ _ _ (rw c.in-Err-SourceFault.field-0-is at c.in-Err-SourceFault.ensures.piece) c.loop-head.invariant.2

pub returns-in-Err-Memory-clause-needed : goal.returns-in-Err-Memory-clause-needed
returns-in-Err-Memory-clause-needed g c = read_none StopsInHead _ _ _ (rw c.in-Err-Memory.field-0-is at c.in-Err-Memory.ensures.piece) c.loop-head.invariant.2

pub returns-then-is_empty-clause-reads : goal.returns-then-is_empty-clause-reads
returns-then-is_empty-clause-reads g c =
    (Told, refl, the_end _ StopsInHead _ _ _ _ _ _ c.loop-head.invariant.3 (stops_in_head _ _ _ c.as_slice.ensures.value refl (search rules) c.in-More.ensures) (rw c.in-Err-End.field-0-is at c.in-Err-End.ensures.read))

pub returns-in-Err-End-clause-reads : goal.returns-in-Err-End-clause-reads
returns-in-Err-End-clause-reads g c =
    (Told, inr refl, the_end _ StopsInHead _ _ _ _ _ _ c.loop-head.invariant.3 (stops_in_head _ _ _ c.as_slice.ensures.value refl (search rules) c.in-More.ensures) (rw c.in-Err-End.field-0-is at c.in-Err-End.ensures.read))

pub returns-in-Err-SourceFault-clause-reads : goal.returns-in-Err-SourceFault-clause-reads
returns-in-Err-SourceFault-clause-reads g c =
    (Failed, refl, the_fault _ StopsInHead _ _ _ _ _ _ c.loop-head.invariant.3 (stops_in_head _ _ _ c.as_slice.ensures.value refl (search rules) c.in-More.ensures) (rw c.in-Err-SourceFault.field-0-is at c.in-Err-SourceFault.ensures.read))
