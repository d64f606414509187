-- JSON values that rows are made of. An object has its members in the byte order of their names.
use Rattle.std.specs.Prelude.{ℕ, List, [], ◌∷◌, ◌++◌, codes, decimal, Bool, Option, Some, None}
use Rattle.inet_num.specs.Net.{Address}
use Rattle.inet_num.specs.declared.Family.{Family}
use Rattle.inet_num.specs.declared.Family.TheVariants.{V4, V6}
use Rattle.inet_num.specs.Text.{canonical_text_of}
use Rattle.serde_json.specs.Data.{Data, null, boolean, number, unsigned, string, object, Members, member, no_members}
use Rattle.ipam_data.specs.declared.replies.FieldName.{FieldName}
use Rattle.ipam_data.specs.declared.replies.FieldName.TheVariants.{Family as FamilyField}
use Rattle.ipam_data.specs.Answers.{field_text}

-- the members of an object, by name and value
abbrev pub members : List (List ℕ × Data) → Members
members [] = no_members
members (m ∷ ms) = member m.0 m.1 (members ms)

abbrev pub number_data : ℕ → Data
number_data n = number (unsigned n)

-- a number, or null if there is none
abbrev pub id_data : Option ℕ → Data
id_data None = null
id_data (Some n) = number_data n

-- a text, or null if there is none
abbrev pub text_data : Option (List ℕ) → Data
text_data None = null
text_data (Some text) = string text

-- a family is the number of its version
abbrev pub version_of : Family → ℕ
version_of V4 = 4
version_of V6 = 6

-- one of a few words: the label that is shown, and the value that names it
abbrev pub choice_data : List ℕ → List ℕ → Data
choice_data label value = object (members (
    (codes "label", string label)
    ∷ (codes "value", string value) ∷ []))

-- an address with its mask
abbrev pub host_text : Address → ℕ → List ℕ
host_text addr len = canonical_text_of addr.family addr.value ++ 47 ∷ decimal len

-- ---- members of rows, each with its name

abbrev pub Named : Type 0
Named = List ℕ × Data

abbrev pub id_named : ℕ → Named
id_named n = (codes "id", number_data n)

abbrev pub text_named : FieldName → List ℕ → Named
text_named name text = (field_text name, string text)

abbrev pub number_named : FieldName → ℕ → Named
number_named name n = (field_text name, number_data n)

abbrev pub flag_named : FieldName → Bool → Named
flag_named name flag = (field_text name, boolean flag)

abbrev pub reference_named : FieldName → Option ℕ → Named
reference_named name id = (field_text name, id_data id)

abbrev pub family_named : Family → Named
family_named family = number_named FamilyField (version_of family)
