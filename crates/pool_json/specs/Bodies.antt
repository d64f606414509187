-- What the body of a request of number pools asks for; or the refusal that is answered. The body is one JSON text (RFC 8259), read by
-- the definition of serde_json: at most 127 levels deep, in UTF-8.
use Rattle.std.specs.Prelude.{◌≡◌, ◌⊎◌, ◌==◌, ℕ, nat_le, List, [], length, Option, Some, None, Result, Ok, Err, codes, option_and_then, if◌then◌else◌}
use Rattle.ipam_data.specs.declared.calls.Answered.{Answered}
use Rattle.ipam_data.specs.declared.replies.FieldName.TheVariants.{Name}
use Rattle.ipam_data.specs.declared.replies.Refusal.{Refusal}
use Rattle.ipam_data.specs.declared.replies.Refusal.TheVariants.{BadJson, Memory}
use Rattle.serde_json.specs.Data.{Data}
use Rattle.serde_json.specs.Find.{as_number, as_str, as_u64, get}
use Rattle.ipam_json.specs.Bodies.{IsObjectText, IsNoObjectText}
use Rattle.ipam_json.specs.Claims.{IsClaimOf}
use Rattle.ipam_json.specs.Members.{name_of, within}
use Rattle.ipam_json.specs.Outcomes.{read_member}
use Rattle.number_pools.specs.declared.rows.PoolKind.{PoolKind}
use Rattle.number_pools.specs.declared.rows.PoolKind.TheVariants.{Asn, Vlan}
use Rattle.pool_json.specs.declared.bodies.RequestRefusal.{RequestRefusal}
use Rattle.pool_json.specs.declared.bodies.RequestRefusal.TheVariants.{Common, Start, End}
use Rattle.pool_json.specs.declared.bodies.RangeDraft.{RangeDraft}

-- a number of a range is a whole number from 0 to 4294967295, without fraction and exponent; whether it fits is a rule of the pools
abbrev pub number_within : ℕ → Option ℕ
number_within n = if nat_le n 4294967295 then Some n else None

-- it is required
abbrev pub number_of : Option Data → Option ℕ
number_of None = None
number_of (Some d) = option_and_then number_within (option_and_then as_u64 (as_number d))

-- a range of a name, a first and a last number: the first of them that is missing or malformed is answered
abbrev pub drafted : Result (List ℕ) Refusal → Option ℕ → Option ℕ → Result RangeDraft RequestRefusal
drafted (Err refusal) first last = Err (Common refusal)
drafted (Ok name) None last = Err Start
drafted (Ok name) (Some first) None = Err End
drafted (Ok name) (Some first) (Some last) = Ok (record { name = name; first = first; last = last })

-- the range that an object asks for
abbrev pub range_draft : Data → Result RangeDraft RequestRefusal
range_draft d = drafted (read_member Name name_of d) (number_of (get (codes "start") d)) (number_of (get (codes "end") d))

-- what a body asks for that is to be an object, which is read by this
abbrev pub IsOfObject : {A : Type 0} → (Data → Result A RequestRefusal) → List ℕ → Result A RequestRefusal → Type 0
IsOfObject read body answer =
    ((d : Data) × IsObjectText body d × (read d ≡ answer)) ⊎ (IsNoObjectText body × (answer ≡ Err (Common BadJson)))

-- what the body of a new range asks for
abbrev pub IsRangeBody : List ℕ → Result RangeDraft RequestRefusal → Type 0
IsRangeBody body answer = IsOfObject range_draft body answer

-- the name that an object of a claim gives: one of VLANs has a name, which is required; of one of ASNs nothing is read, and the name
-- is empty
abbrev pub claim_item : PoolKind → Data → Result (List ℕ) Refusal
claim_item Asn d = Ok []
claim_item Vlan d = read_member Name name_of d

-- the name of a chosen ASN in words: it may be empty
abbrev pub asn_named : List ℕ → Option (List ℕ)
asn_named text = if length text == 0 then Some text else within 1 100 text

-- an absent one is empty
abbrev pub asn_name_of : Option Data → Option (List ℕ)
asn_name_of None = Some []
asn_name_of (Some d) = option_and_then asn_named (as_str d)

-- what the body of a claim asks for: a name for each number, and whether it was given as one object or as a list
abbrev pub IsClaim : PoolKind → List ℕ → Result (Answered × List (List ℕ)) Refusal → Type 0
IsClaim kind body answer = IsClaimOf (claim_item kind) body answer

-- the answer is as it should be, or out of memory
abbrev pub OrWant : {A : Type 0} → (Result A RequestRefusal → Type 0) → Result A RequestRefusal → Type 0
OrWant IsRight (Ok a) = IsRight (Ok a)
OrWant IsRight (Err refusal) = (refusal ≡ Common Memory) ⊎ IsRight (Err refusal)
