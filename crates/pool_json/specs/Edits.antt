-- What the body of an edit asks for: an absent member leaves what there is, every other one is read as that of a new row.
use Rattle.std.specs.Prelude.{ℕ, List, Option, Some, None, Result, Ok, Err, codes}
use Rattle.ipam_data.specs.declared.replies.FieldName.TheVariants.{Name}
use Rattle.ipam_data.specs.declared.replies.Refusal.{Refusal}
use Rattle.serde_json.specs.Data.{Data}
use Rattle.serde_json.specs.Find.{get}
use Rattle.ipam_json.specs.Members.{name_of}
use Rattle.ipam_json.specs.Outcomes.{read_given}
use Rattle.number_pools.specs.declared.rows.PoolKind.{PoolKind}
use Rattle.number_pools.specs.declared.rows.PoolKind.TheVariants.{Asn, Vlan}
use Rattle.pool_json.specs.declared.bodies.RequestRefusal.{RequestRefusal}
use Rattle.pool_json.specs.declared.bodies.RequestRefusal.TheVariants.{Common, Start, End}
use Rattle.pool_json.specs.declared.edits.RangeEdit.{RangeEdit}
use Rattle.pool_json.specs.Bodies.{IsOfObject, asn_name_of, number_of}

-- a number that is given is to be one
abbrev pub number_or : RequestRefusal → Option ℕ → Result (Option ℕ) RequestRefusal
number_or why None = Err why
number_or why (Some n) = Ok (Some n)

abbrev pub given_number : RequestRefusal → Option Data → Result (Option ℕ) RequestRefusal
given_number why None = Ok None
given_number why (Some d) = number_or why (number_of (Some d))

-- of a name, a first and a last number the first that is malformed is answered
abbrev pub edit_by : Result (Option (List ℕ)) Refusal → Result (Option ℕ) RequestRefusal → Result (Option ℕ) RequestRefusal → Result RangeEdit RequestRefusal
edit_by (Err refusal) first last = Err (Common refusal)
edit_by (Ok name) (Err refusal) last = Err refusal
edit_by (Ok name) (Ok first) (Err refusal) = Err refusal
edit_by (Ok name) (Ok first) (Ok last) = Ok (record { name = name; first = first; last = last })

-- the edit of a range that an object asks for
abbrev pub range_edit : Data → Result RangeEdit RequestRefusal
range_edit d = edit_by (read_given Name name_of d) (given_number Start (get (codes "start") d)) (given_number End (get (codes "end") d))

-- what the body of an edit of a range asks for
abbrev pub IsRangeEdit : List ℕ → Result RangeEdit RequestRefusal → Type 0
IsRangeEdit body answer = IsOfObject range_edit body answer

-- the name that an edit gives a member: that of an ASN may be empty
abbrev pub member_name : PoolKind → Data → Result (Option (List ℕ)) Refusal
member_name Asn d = read_given Name asn_name_of d
member_name Vlan d = read_given Name name_of d

abbrev pub or_common : Result (Option (List ℕ)) Refusal → Result (Option (List ℕ)) RequestRefusal
or_common (Ok name) = Ok name
or_common (Err refusal) = Err (Common refusal)

-- the name that an object gives a member
abbrev pub member_edit : PoolKind → Data → Result (Option (List ℕ)) RequestRefusal
member_edit kind d = or_common (member_name kind d)

-- what the body of an edit of a member asks for
abbrev pub IsMemberEdit : PoolKind → List ℕ → Result (Option (List ℕ)) RequestRefusal → Type 0
IsMemberEdit kind body answer = IsOfObject (member_edit kind) body answer
