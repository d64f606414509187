-- What the body of a call that records chosen numbers asks for: the number and the name of each item. The body is one object or a list of
-- objects, as that of a claim.
use Rattle.std.specs.Prelude.{◌≡◌, ℕ, List, [], ◌∷◌, Option, Some, None, Result, Ok, Err, codes}
use Rattle.ipam_data.specs.declared.calls.Answered.{Answered}
use Rattle.ipam_data.specs.declared.replies.FieldName.TheVariants.{Name}
use Rattle.ipam_data.specs.declared.replies.Refusal.{Refusal}
use Rattle.serde_json.specs.Data.{Data}
use Rattle.serde_json.specs.Find.{get}
use Rattle.ipam_json.specs.Claims.{IsClaimOf}
use Rattle.ipam_json.specs.Members.{name_of}
use Rattle.ipam_json.specs.Outcomes.{read_member}
use Rattle.number_pools.specs.declared.calls.Chosen.{Chosen}
use Rattle.number_pools.specs.declared.rows.PoolKind.{PoolKind}
use Rattle.number_pools.specs.declared.rows.PoolKind.TheVariants.{Asn, Vlan}
use Rattle.pool_json.specs.declared.bodies.RequestRefusal.{RequestRefusal}
use Rattle.pool_json.specs.declared.bodies.RequestRefusal.TheVariants.{Common, Number}
use Rattle.pool_json.specs.Bodies.{asn_name_of, number_of}

-- the member of an item that gives its number
abbrev pub number_name : PoolKind → List ℕ
number_name Asn = codes "asn"
number_name Vlan = codes "vid"

-- a VLAN has a name, which is required, and an ASN may have one
abbrev pub chosen_name : PoolKind → Data → Result (List ℕ) Refusal
chosen_name Asn d = read_member Name asn_name_of d
chosen_name Vlan d = read_member Name name_of d

-- a number and a name: the first of them that is missing or malformed is answered
abbrev pub chosen_by : PoolKind → Option ℕ → Result (List ℕ) Refusal → Result Chosen RequestRefusal
chosen_by kind None name = Err (Number kind)
chosen_by kind (Some n) (Err refusal) = Err (Common refusal)
chosen_by kind (Some n) (Ok name) = Ok (record { number = n; name = name })

-- what an object chooses
abbrev pub chosen_item : PoolKind → Data → Result Chosen RequestRefusal
chosen_item kind d = chosen_by kind (number_of (get (number_name kind) d)) (chosen_name kind d)

-- one more item before others
abbrev pub with_chosen : Result Chosen RequestRefusal → Result (List Chosen) RequestRefusal → Result (List Chosen) RequestRefusal
with_chosen (Ok item) (Ok items) = Ok (item ∷ items)
with_chosen (Ok item) (Err refusal) = Err refusal
with_chosen (Err refusal) items = Err refusal

-- what objects choose: the first that is refused is answered
abbrev pub chosen_in : PoolKind → List Data → Result (List Chosen) RequestRefusal
chosen_in kind [] = Ok []
chosen_in kind (d ∷ ds) = with_chosen (chosen_item kind d) (chosen_in kind ds)

-- the objects of a body as they are
abbrev pub as_data : Data → Result Data Refusal
as_data d = Ok d

abbrev pub answered_as : Answered → Result (List Chosen) RequestRefusal → Result (Answered × List Chosen) RequestRefusal
answered_as answered (Ok items) = Ok (answered, items)
answered_as answered (Err refusal) = Err refusal

-- what is recorded of the objects of a body
abbrev pub recorded : PoolKind → Result (Answered × List Data) Refusal → Result (Answered × List Chosen) RequestRefusal
recorded kind (Ok objects) = answered_as objects.0 (chosen_in kind objects.1)
recorded kind (Err refusal) = Err (Common refusal)

-- what the body asks for
abbrev pub IsRecord : PoolKind → List ℕ → Result (Answered × List Chosen) RequestRefusal → Type 0
IsRecord kind body answer = (objects : Result (Answered × List Data) Refusal) × IsClaimOf as_data body objects × (recorded kind objects ≡ answer)
