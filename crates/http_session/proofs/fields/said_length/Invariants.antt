use Rattle.std.proofs.Common.{map, take}
use Rattle.httparse.specs.Spans.{header_bytes}
use Rattle.http_session.specs.Fields.{values_of, content_length}
use Rattle.http_session.proofs.FieldLemmas.{IsSaidSoFar}
use Rattle.http_session.proofs.fields.said_length.Given as goal

abbrev pub invariant-loop-field : goal.invariant-loop-field
invariant-loop-field l = IsSaidSoFar l.seen l.said (values_of content_length (map (header_bytes l.front) (take l.field-index l.fields)))
