-- What the body of a claim asks for: its items, and whether it was given as one object or as a list of objects; or the refusal that is
-- answered. The body is one JSON text, as that of a Create.
use Rattle.std.specs.Prelude.{◌≡◌, ◌⊎◌, ℕ, ◌≤◌, Bool, List, [], ◌∷◌, Option, Some, None, Result, Ok, Err, IsUtf8, is_some, if◌then◌else◌}
use Rattle.std.specs.List.{list_all}
use Rattle.ipam_data.specs.declared.calls.Answered.{Answered}
use Rattle.ipam_data.specs.declared.calls.Answered.TheVariants.{AsOne, AsList}
use Rattle.ipam_data.specs.declared.replies.FieldName.TheVariants.{Body}
use Rattle.ipam_data.specs.declared.replies.Refusal.{Refusal}
use Rattle.ipam_data.specs.declared.replies.Refusal.TheVariants.{BadJson, Field}
use Rattle.serde_json.specs.Data.{Data, Items, no_items, item}
use Rattle.serde_json.specs.Find.{as_array, as_object}
use Rattle.serde_json.specs.Read.{read}
use Rattle.ipam_json.specs.Outcomes.{then as and_then}

-- the bytes are a JSON text of this value
pub record IsJsonText (body : List ℕ) (d : Data) : Type 0 where
  pub utf8 : IsUtf8 body
  pub value : read body ≡ Some d

-- the bytes are no JSON text
abbrev pub IsNoJsonText : List ℕ → Type 0
IsNoJsonText body = (d : Data) → ¬ IsJsonText body d

abbrev pub is_object : Data → Bool
is_object d = is_some (as_object d)

-- the values of an array
abbrev pub values_of : Items → List Data
values_of no_items = []
values_of (item d ds) = d ∷ values_of ds

-- a list has objects alone, and one at least
abbrev pub list_checked : List Data → Result (Unit {0}) Refusal
list_checked [] = Err (Field Body)
list_checked (d ∷ ds) = if list_all is_object (d ∷ ds) then Ok tt else Err BadJson

-- one more item before others
abbrev pub with_item : {A : Type 0} → Result A Refusal → Result (List A) Refusal → Result (List A) Refusal
with_item first others = and_then first λ a. and_then others λ rest. Ok (a ∷ rest)

-- the items of objects, as this reads one: the first that is refused is answered
abbrev pub items_in : {A : Type 0} → (Data → Result A Refusal) → List Data → Result (List A) Refusal
items_in read_item [] = Ok []
items_in read_item (d ∷ ds) = with_item (read_item d) (items_in read_item ds)

-- a claim by one object
abbrev pub one_claim : {A : Type 0} → (Data → Result A Refusal) → Data → Result (Answered × List A) Refusal
one_claim read_item d = if is_object d then and_then (read_item d) (λ a. Ok (AsOne, a ∷ [])) else Err BadJson

-- a claim by a list of objects
abbrev pub list_claim : {A : Type 0} → (Data → Result A Refusal) → List Data → Result (Answered × List A) Refusal
list_claim read_item ds = and_then (list_checked ds) λ _. and_then (items_in read_item ds) λ items. Ok (AsList, items)

-- a claim by a value, which may be an array
abbrev pub claim_by : {A : Type 0} → (Data → Result A Refusal) → Data → Option Items → Result (Answered × List A) Refusal
claim_by read_item d None = one_claim read_item d
claim_by read_item d (Some ds) = list_claim read_item (values_of ds)

abbrev pub claim_of : {A : Type 0} → (Data → Result A Refusal) → Data → Result (Answered × List A) Refusal
claim_of read_item d = claim_by read_item d (as_array d)

-- what a body asks for
abbrev pub IsClaimOf : {A : Type 0} → (Data → Result A Refusal) → List ℕ → Result (Answered × List A) Refusal → Type 0
IsClaimOf read_item body answer =
    ((d : Data) × IsJsonText body d × (claim_of read_item d ≡ answer)) ⊎ (IsNoJsonText body × (answer ≡ Err BadJson))

-- a claim has an item, and exactly one if it was given as one object
abbrev pub HasItems : Answered → ℕ → Type 0
HasItems AsOne n = n ≡ 1
HasItems AsList n = 1 ≤ n
