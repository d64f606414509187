use Rattle.std.proofs.Common.{◌≡◌, false, map, take}
use Rattle.std.specs.List.{list_any}
use Rattle.httparse.specs.Spans.{header_bytes}
use Rattle.http_session.specs.Fields.{names_close, values_of, connection}
use Rattle.http_session.proofs.fields.any_close.Given as goal

abbrev pub invariant-loop-field : goal.invariant-loop-field
invariant-loop-field l = list_any names_close (values_of connection (map (header_bytes l.front) (take l.field-index l.fields))) ≡ false
