-- What reading gives: a value or the refusal that is answered, one after another.
use Rattle.std.specs.Prelude.{◌≡◌, ◌⊎◌, Option, Some, None, ok_or, Result, Ok, Err}
use Rattle.ipam_data.specs.declared.replies.FieldName.{FieldName}
use Rattle.ipam_data.specs.declared.replies.Refusal.{Refusal}
use Rattle.ipam_data.specs.declared.replies.Refusal.TheVariants.{Field, Memory}
use Rattle.ipam_data.specs.Answers.{field_text}
use Rattle.serde_json.specs.Data.{Data}
use Rattle.serde_json.specs.Find.{get}

-- what comes next of a good value; a refusal stays
abbrev pub then : {A B : Type 0} → Result A Refusal → (A → Result B Refusal) → Result B Refusal
then (Ok a) next = next a
then (Err refusal) next = Err refusal

-- a member or a parameter that is malformed or missing is answered by its name
abbrev pub field : {A : Type 0} → FieldName → Option A → Result A Refusal
field name value = ok_or value (Field name)

-- the value of a member of an object, if it has one
abbrev pub value_of : FieldName → Data → Option Data
value_of name d = get (field_text name) d

-- a member of an object, as this reads it
abbrev pub read_member : {A : Type 0} → FieldName → (Option Data → Option A) → Data → Result A Refusal
read_member name read d = field name (read (value_of name d))

-- a good value that is given
abbrev pub given : {A : Type 0} → Result A Refusal → Result (Option A) Refusal
given (Ok a) = Ok (Some a)
given (Err refusal) = Err refusal

-- what is given is as this says
abbrev pub IsGiven : {A : Type 0} → (Result A Refusal → Type 0) → Result (Option A) Refusal → Type 0
IsGiven IsRight (Ok None) = ⊥
IsGiven IsRight (Ok (Some a)) = IsRight (Ok a)
IsGiven IsRight (Err refusal) = IsRight (Err refusal)

-- the member of an edit: an absent one leaves the field, every other one is read as that of a draft, so that null clears if it
-- is none
abbrev pub given_member : {A : Type 0} → FieldName → (Option Data → Option A) → Option Data → Result (Option A) Refusal
given_member key read None = Ok None
given_member key read (Some d) = given (field key (read (Some d)))

-- the same of the object of an edit
abbrev pub read_given : {A : Type 0} → FieldName → (Option Data → Option A) → Data → Result (Option A) Refusal
read_given name read d = given_member name read (value_of name d)

-- the answer is as it should be, or out of memory
abbrev pub OrMemory : {A : Type 0} → (Result A Refusal → Type 0) → Result A Refusal → Type 0
OrMemory IsRight (Ok a) = IsRight (Ok a)
OrMemory IsRight (Err refusal) = (refusal ≡ Memory) ⊎ IsRight (Err refusal)
