use Rattle.std.proofs.Common.{◌∙◌, inl, inr, refl, arith}
use Rattle.std.proofs.lemmas.Result.{err_from_is_err_and}
use Rattle.http_session.specs.Steps.{framed}
use Rattle.http_session.proofs.Growth.{Grown-trans}
use Rattle.http_session.proofs.Items.{body_reads, body_was_needed, head_last, head_reads, head_stops, head_was_needed, refused_by_fields, small_body, stops_in_body, is_request}
use Rattle.http_session.proofs.request.ask.Goals as goal

pub returns-in-Err-clause-item : goal.returns-in-Err-clause-item
returns-in-Err-clause-item g c = (
  c.wait_for_head.new.bytes.items,
  c.wait_for_head.ensures.grown,
  (refused_by_fields _ _ c.in_ok-head.head c.in-Err.fault c.in_ok-head.ensures.head c.in-Err.is, refl),
  head_was_needed _ _ c.wait_for_head.ensures.needed,
  (c.in_ok-head.ensures.reads.0, inl c.in_ok-head.ensures.reads.1, head_reads _ _ _ _ _ _ c.in_ok-head.ensures.reads.2),
)

pub overflow_add-needed : goal.overflow_add-needed
overflow_add-needed g c =
    let small = small_body _ c.in_ok-head.head c.in-Ok.length c.in_ok-head.ensures.head c.in-Ok.is in
    let short = c.in_ok-head.ensures.head.short in
    omega arith

pub returns-in-Err-End-clause-item : goal.returns-in-Err-End-clause-item
returns-in-Err-End-clause-item g c =
    let grown = c.wait_for_body.ensures.grown in
    let reads = rw c.in-Err-End.field-0-is at c.in-Err-End.ensures.reads in
    let body = rw c.in-Err-End.field-0-is at c.in-Err-End.ensures.body in (
      c.wait_for_body.new.bytes.items,
      Grown-trans _ _ _ _ _ _ c.wait_for_head.ensures.grown grown,
      (inr (inr (body.0, inr (stops_in_body _ _ grown.got c.in_ok-head.head c.in-Ok.length c.in_ok-head.ensures.head c.in-Ok.is grown.grown body.1))), refl),
      body_was_needed _ _ _ _ c.in_ok-head.head c.in-Ok.length c.in_ok-head.ensures.head c.in-Ok.is c.wait_for_head.ensures.grown.grown c.wait_for_head.ensures.needed c.wait_for_body.ensures.needed,
      (reads.0, inr reads.1, body_reads _ _ _ _ _ _ _ _ _ c.in_ok-head.head c.in-Ok.length c.in_ok-head.ensures.head c.in-Ok.is c.in_ok-head.ensures.reads.1 c.in_ok-head.ensures.reads.2 reads.2),
    )

pub returns-in-Err-SourceFault-clause-item : goal.returns-in-Err-SourceFault-clause-item
returns-in-Err-SourceFault-clause-item g c =
    let grown = c.wait_for_body.ensures.grown in
    let reads = rw c.in-Err-SourceFault.field-0-is at c.in-Err-SourceFault.ensures.reads in
    let body = rw c.in-Err-SourceFault.field-0-is at c.in-Err-SourceFault.ensures.body in (
      c.wait_for_body.new.bytes.items,
      Grown-trans _ _ _ _ _ _ c.wait_for_head.ensures.grown grown,
      (inr (stops_in_body _ _ grown.got c.in_ok-head.head c.in-Ok.length c.in_ok-head.ensures.head c.in-Ok.is grown.grown body), refl),
      body_was_needed _ _ _ _ c.in_ok-head.head c.in-Ok.length c.in_ok-head.ensures.head c.in-Ok.is c.wait_for_head.ensures.grown.grown c.wait_for_head.ensures.needed c.wait_for_body.ensures.needed,
      (reads.0, reads.1, body_reads _ _ _ _ _ _ _ _ _ c.in_ok-head.head c.in-Ok.length c.in_ok-head.ensures.head c.in-Ok.is c.in_ok-head.ensures.reads.1 c.in_ok-head.ensures.reads.2 reads.2),
    )

pub returns-in-Err-Memory-clause-item : goal.returns-in-Err-Memory-clause-item
returns-in-Err-Memory-clause-item g c =
    let reads = rw c.in-Err-Memory.field-0-is at c.in-Err-Memory.ensures.reads in (
      c.wait_for_body.new.bytes.items,
      Grown-trans _ _ _ _ _ _ c.wait_for_head.ensures.grown c.wait_for_body.ensures.grown,
      refl,
      body_was_needed _ _ _ _ c.in_ok-head.head c.in-Ok.length c.in_ok-head.ensures.head c.in-Ok.is c.wait_for_head.ensures.grown.grown c.wait_for_head.ensures.needed c.wait_for_body.ensures.needed,
      (reads.0, reads.1, body_reads _ _ _ _ _ _ _ _ _ c.in_ok-head.head c.in-Ok.length c.in_ok-head.ensures.head c.in-Ok.is c.in_ok-head.ensures.reads.1 c.in_ok-head.ensures.reads.2 reads.2),
    )

pub returns-in_err-take_request-clause-item : goal.returns-in_err-take_request-clause-item
returns-in_err-take_request-clause-item g c =
    let p = err_from_is_err_and c.from_residual-in_err-take_request.result c.from_residual-in_err-take_request.ensures.1 in (
      c.wait_for_body.new.bytes.items,
      Grown-trans _ _ _ _ _ _ c.wait_for_head.ensures.grown c.wait_for_body.ensures.grown,
      rw (p.1, p.2) c.in_err-take_request.ensures.err,
      body_was_needed _ _ _ _ c.in_ok-head.head c.in-Ok.length c.in_ok-head.ensures.head c.in-Ok.is c.wait_for_head.ensures.grown.grown c.wait_for_head.ensures.needed c.wait_for_body.ensures.needed,
      (c.in-Ok-wait_for_body.ensures.reads.0, rw (p.1, p.2) c.in-Ok-wait_for_body.ensures.reads.1, body_reads _ _ _ _ _ _ _ _ _ c.in_ok-head.head c.in-Ok.length c.in_ok-head.ensures.head c.in-Ok.is c.in_ok-head.ensures.reads.1 c.in_ok-head.ensures.reads.2 c.in-Ok-wait_for_body.ensures.reads.2),
    )

pub returns-clause-item : goal.returns-clause-item
returns-clause-item g c =
    let grown = c.wait_for_body.ensures.grown in
    let taken = c.in_ok-take_request.ensures in (
      c.wait_for_body.new.bytes.items,
      Grown-trans _ _ _ _ _ _ c.wait_for_head.ensures.grown grown,
      is_request c.args.number _ _ grown.got _ c.in_ok-head.head c.in-Ok.length (framed c.in_ok-take_request.field-0) c.in_ok-head.ensures.head c.in-Ok.is grown.grown
          taken.body taken.long taken.head.0 taken.head.1 (taken.head.2 ∙ c.closes-close.ensures),
      body_was_needed _ _ _ _ c.in_ok-head.head c.in-Ok.length c.in_ok-head.ensures.head c.in-Ok.is c.wait_for_head.ensures.grown.grown c.wait_for_head.ensures.needed c.wait_for_body.ensures.needed,
      (c.in-Ok-wait_for_body.ensures.reads.0, c.in-Ok-wait_for_body.ensures.reads.1, body_reads _ _ _ _ _ _ _ _ _ c.in_ok-head.head c.in-Ok.length c.in_ok-head.ensures.head c.in-Ok.is c.in_ok-head.ensures.reads.1 c.in_ok-head.ensures.reads.2 c.in-Ok-wait_for_body.ensures.reads.2),
    )

pub returns-in_err-head-clause-item : goal.returns-in_err-head-clause-item
returns-in_err-head-clause-item g c =
    let p = err_from_is_err_and c.from_residual.result c.from_residual.ensures.1 in
    let reads = c.in_err-head.ensures.reads in (
      c.wait_for_head.new.bytes.items,
      c.wait_for_head.ensures.grown,
      rw (p.1, p.2) (head_stops c.args.number c.in_err-head.field-0.0 c.wait_for_head.new.bytes.items (g.S.Source.left c.wait_for_head.new.source) c.in_err-head.ensures.head),
      head_was_needed _ _ c.wait_for_head.ensures.needed,
      (reads.0, rw (p.1, p.2) (head_last c.in_err-head.field-0.0 reads.0 reads.1), head_reads _ _ _ _ _ _ reads.2),
    )
