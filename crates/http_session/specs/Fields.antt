-- What the fields of a head say of the body that follows it and of the connection (RFC 9112,
-- sections 6.1, 6.2 and 9.6; RFC 9110, sections 5.6.1 and 8.6).
use Rattle.std.specs.Prelude.{ℕ, ◌==◌, ◌||◌, ◌&&◌, Bool, List, [], ◌∷◌, length, map, filter, Result, Ok, Err, codes, if◌then◌else◌, nat_lt, nat_le}
use Rattle.std.specs.List.{list_all, list_any, slice_split}
use Rattle.std.specs.Char.{is_ascii_digit}
use Rattle.std.specs.Str.{str_eq_ignore_ascii_case}
use Rattle.std.specs.Str.Parse.{digits_value}
use Rattle.httparse.specs.Grammar.{RequestHead, trim_ows}
use Rattle.httparse.specs.Spans.{name_and_value}
use Rattle.http_session.specs.declared.request.Fault.{Fault}
use Rattle.http_session.specs.declared.request.Fault.TheVariants.{BadHead, LargeBody, Coding}

-- the field that says how long the body is
abbrev pub content_length : List ℕ
content_length = codes "content-length"

-- the field that says whether a request follows
abbrev pub connection : List ℕ
connection = codes "connection"

-- the field that says how the body is coded
abbrev pub transfer_encoding : List ℕ
transfer_encoding = codes "transfer-encoding"

-- the field has this name, in any case
unfoldable pub is_named : List ℕ → List ℕ × List ℕ → Bool
is_named name field = str_eq_ignore_ascii_case field.0 name

-- the values of the fields of this name, in order
unfoldable pub values_of : List ℕ → List (List ℕ × List ℕ) → List (List ℕ)
values_of name fields = map (λ f. f.1) (filter (is_named name) fields)

-- 1 to 19 decimal digits
unfoldable pub is_length_text : List ℕ → Bool
is_length_text text = nat_lt 0 (length text) && nat_lt (length text) 20 && list_all is_ascii_digit text

-- a length, which may be too large for a body
unfoldable pub length_from : List ℕ → Result ℕ Fault
length_from text = if is_length_text text then (if nat_le (digits_value 10 text) 4194304 then Ok (digits_value 10 text) else Err LargeBody) else Err BadHead

-- at most one field says the length; without one it is 0
abbrev pub length_among : List (List ℕ) → Result ℕ Fault
length_among [] = Ok 0
length_among (text ∷ []) = length_from text
length_among (text ∷ more ∷ others) = Err BadHead

-- the length of the body, or why there is none: codings first, then lengths
unfoldable pub length_by : List (List ℕ × List ℕ) → Result ℕ Fault
length_by fields =
    if list_any (is_named transfer_encoding) fields then Err Coding else length_among (values_of content_length fields)

-- what parts the tokens of a value
abbrev pub is_comma : ℕ → Bool
is_comma byte = byte == 44

-- the text without the spaces and tabs around it is `close`, in any case
unfoldable pub is_close : List ℕ → Bool
is_close text = str_eq_ignore_ascii_case (trim_ows text) (codes "close")

-- one of the tokens of the value, which are between commas, is `close`
unfoldable pub names_close : List ℕ → Bool
names_close value = list_any is_close (slice_split is_comma value)

-- no request follows: the version is 1.0, or a `Connection` field says so
unfoldable pub close_by : ℕ → List (List ℕ × List ℕ) → Bool
close_by minor fields = minor == 0 || list_any names_close (values_of connection fields)

-- the length of the body that follows this head
abbrev pub length_of : RequestHead → Result ℕ Fault
length_of h = length_by (map name_and_value h.fields)

-- no request follows the one with this head
abbrev pub asks_close : RequestHead → Bool
asks_close h = close_by h.minor (map name_and_value h.fields)
