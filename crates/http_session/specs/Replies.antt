-- What the answer of a desk says.
use Rattle.std.specs.Prelude.{ℕ, List, option_map}
use Rattle.http_session.specs.declared.reply.Body.{Body}
use Rattle.http_session.specs.declared.reply.Body.TheVariants.{Written, Short}
use Rattle.http_session.specs.declared.reply.NumberField.{NumberField}
use Rattle.http_session.specs.declared.reply.Reply.{Reply}
use Rattle.http_session.specs.Answers.{NamedNumber}
use Rattle.http_session.specs.Talk.{Answer}

-- the bytes of a body
abbrev pub body_bytes : Body → List ℕ
body_bytes (Written bytes) = bytes.items
body_bytes (Short bytes) = bytes.items

-- a field that the desk names
abbrev pub field_of : NumberField → NamedNumber
field_of field = record { name = field.name.now; number = field.number }

-- the answer, before its frame
abbrev pub answer_of : Reply → Answer
answer_of r = record { status = r.status; allow = r.allow.now; field = option_map field_of r.field; media = r.media.now; body = body_bytes r.body }
