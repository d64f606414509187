-- The text of an answer: status line, fields, empty line, body (RFC 9112, sections 2.1 and 4).
use Rattle.std.specs.Prelude.{◌≡◌, ◌++◌, ℕ, Bool, List, [], Option, Some, None, if◌then◌else◌, codes, decimal, length, nat_lt, ◌≤◌, unwrap_or}
use Rattle.http.specs.StatusCode.{code_digits, reason_phrase}
use Rattle.std.specs.Io.KnownBytes.{Appends}
use Rattle.ipam_edge.specs.Writing.{AppendsLess}
use Rattle.ipam_edge.specs.Faults.{Rose}
use Rattle.http_session.specs.declared.answer.PutEnd.{PutEnd}
use Rattle.http_session.specs.declared.answer.PutEnd.TheVariants.{Whole, SinkFault}

-- the standard phrase of a status, and no bytes for one that has none (RFC 9110, section 15)
unfoldable pub phrase_of : ℕ → List ℕ
phrase_of status = unwrap_or (reason_phrase status) []

-- a line, if it exists
abbrev pub line_where : Bool → List ℕ → List ℕ → List ℕ
line_where there name text = if there then name ++ text ++ codes "\r\n" else []

-- the two fields that describe a body, if there is one: its media type and its length (RFC 9110, sections 8.3 and 8.6)
abbrev pub body_fields : Bool → List ℕ → List ℕ → List ℕ
body_fields there media length = line_where there (codes "Content-Type: ") media ++ line_where there (codes "Content-Length: ") length

-- there are some bytes
abbrev pub is_there : List ℕ → Bool
is_there text = nat_lt 0 (length text)

-- a field that the desk names, with a number for its value
pub record NamedNumber : Type 0 where
  pub name : List ℕ
  pub number : ℕ

-- the line of a field that the desk names, if there is one
abbrev pub field_line : Option NamedNumber → List ℕ
field_line None = []
field_line (Some field) = field.name ++ codes ": " ++ decimal field.number ++ codes "\r\n"

-- the head of an answer: status line, fields (two of them describe the body, sent or not), and the empty line
unfoldable pub head_text : ℕ → List ℕ → Option NamedNumber → List ℕ → Bool → List ℕ → List ℕ
head_text status allow field media close body =
    codes "HTTP/1.1 " ++ code_digits status ++ codes " " ++ phrase_of status ++ codes "\r\n"
    ++ body_fields (is_there body) media (decimal (length body))
    ++ line_where (is_there allow) (codes "Allow: ") allow
    ++ field_line field
    ++ line_where close (codes "Connection: ") (codes "close")
    ++ codes "\r\n"

-- what is sent of a body: nothing in a bare answer
abbrev pub sent_body : Bool → List ℕ → List ℕ
sent_body bare body = if bare then [] else body

-- an answer: the same head, whether it is bare or not, and the body if it is not
abbrev pub answer_text : ℕ → List ℕ → Option NamedNumber → List ℕ → Bool → Bool → List ℕ → List ℕ
answer_text status allow field media close bare body = head_text status allow field media close body ++ sent_body bare body

-- a whole answer was written, or a prefix of it that is shorter
abbrev pub IsPutEnd : Option (List ℕ) → Option (List ℕ) → PutEnd → List ℕ → Type 0
IsPutEnd old new Whole text = Appends old new text
IsPutEnd old new SinkFault text = AppendsLess old new text

-- a part of the text was written, and the rest of it is gathered; after a fault a shorter prefix of it was written
abbrev pub IsGathered : Option (List ℕ) → Option (List ℕ) → PutEnd → List ℕ → List ℕ → Type 0
IsGathered start now Whole gathered text = (sent : List ℕ) × Appends start now sent × (text ≡ sent ++ gathered)
IsGathered start now SinkFault gathered text = AppendsLess start now text

-- a fault is returned only if the sink's count rose, and a whole answer leaves the count
abbrev pub HasPutCause : ℕ → ℕ → PutEnd → Type 0
HasPutCause old new Whole = new ≡ old
HasPutCause old new SinkFault = (old ≤ new) × Rose old new
