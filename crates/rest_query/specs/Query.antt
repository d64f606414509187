-- The parameters of a query (the URL Standard, 5.1): its pairs, decoded; of several with one name the last counts, and a pair that
-- is not asked for counts for nothing.
use Rattle.std.specs.Prelude.{ℕ, ◌==◌, ◌+◌, Bool, List, [], ◌∷◌, take, drop, bytes_eq, Option, Some, None, option_map, if◌then◌else◌}
use Rattle.std.specs.List.{position_or_len}
use Rattle.std.specs.Str.Lossy.{utf8_lossy}
use Rattle.form_urlencoded.specs.Form.{raw_pairs, decode, append_pair}
use Rattle.ipam_data.specs.declared.replies.FieldName.{FieldName}
use Rattle.ipam_data.specs.Answers.{field_text}

abbrev pub is_mark : ℕ → Bool
is_mark c = c == 63

-- what is before the first question mark of a target
abbrev pub path_in : List ℕ → List ℕ
path_in target = take (position_or_len is_mark target) target

-- and what follows it, or nothing
abbrev pub query_in : List ℕ → List ℕ
query_in target = drop (position_or_len is_mark target + 1) target

-- a name or a value as a text
abbrev pub text_of : List ℕ → List ℕ
text_of bytes = utf8_lossy (decode bytes)

-- the value of the last pair of a name, still encoded, or what was found before
abbrev pub newest : List ℕ → Option (List ℕ) → List (List ℕ × List ℕ) → Option (List ℕ)
newest name found [] = found
newest name found (pair ∷ pairs) = newest name (if bytes_eq (text_of pair.0) name then Some pair.1 else found) pairs

-- the value of a parameter, if the query has it
unfoldable pub parameter : List ℕ → List ℕ → Option (List ℕ)
parameter query name = option_map text_of (newest name None (raw_pairs query))

-- the same by the name of the parameter
abbrev pub value_in : List ℕ → FieldName → Option (List ℕ)
value_in query name = parameter query (field_text name)

-- a form with a parameter that is given
abbrev pub with_given : List ℕ → List ℕ → Option (List ℕ) → List ℕ
with_given form name None = form
with_given form name (Some value) = append_pair form name value

-- a form with a parameter of the query, if it has it
abbrev pub with_value : List ℕ → FieldName → List ℕ → List ℕ
with_value query name form = with_given form (field_text name) (value_in query name)
