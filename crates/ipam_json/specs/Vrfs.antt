-- VRFs in JSON: the bodies of a Create and of a Change, and the row.
use Rattle.std.specs.Prelude.{true, false, List, [], ◌∷◌, Result, Ok}
use Rattle.ipam_data.specs.declared.vrf.Vrf.{Vrf}
use Rattle.ipam_data.specs.declared.calls.Draft.{Draft}
use Rattle.ipam_data.specs.declared.calls.Draft.TheVariants.{Vrf as VrfDraft}
use Rattle.ipam_data.specs.declared.calls.Edit.{Edit}
use Rattle.ipam_data.specs.declared.calls.Edit.TheVariants.{Vrf as VrfEdit}
use Rattle.ipam_data.specs.declared.replies.FieldName.TheVariants.{Description, EnforceUnique, Name, Rd}
use Rattle.ipam_data.specs.declared.replies.Refusal.{Refusal}
use Rattle.ipam_data.specs.Answers.{field_text}
use Rattle.serde_json.specs.Data.{Data, object}
use Rattle.ipam_json.specs.Outcomes.{then, read_member, read_given}
use Rattle.ipam_json.specs.Members.{name_of, description_of, rd_of, flag_of}
use Rattle.ipam_json.specs.Values.{members, text_data, Named, id_named, text_named, flag_named}

-- the body of a VRF: its members in this order, and the first that is malformed or missing is answered
abbrev pub vrf_draft : Data → Result Draft Refusal
vrf_draft d =
    then (read_member Name name_of d) λ name.
    then (read_member Rd rd_of d) λ rd.
    then (read_member EnforceUnique (flag_of true) d) λ enforce_unique.
    then (read_member Description description_of d) λ description.
    Ok (VrfDraft name rd enforce_unique description)

-- that of an edit, in the same order: what is absent stays
abbrev pub vrf_edit : Data → Result Edit Refusal
vrf_edit d =
    then (read_given Name name_of d) λ name.
    then (read_given Rd rd_of d) λ rd.
    then (read_given EnforceUnique (flag_of false) d) λ enforce_unique.
    then (read_given Description description_of d) λ description.
    Ok (VrfEdit name rd enforce_unique description)

abbrev pub vrf_members : Vrf → List Named
vrf_members row =
    text_named Description row.description
    ∷ flag_named EnforceUnique row.enforce_unique
    ∷ id_named row.id
    ∷ text_named Name row.name
    ∷ (field_text Rd, text_data row.rd) ∷ []

abbrev pub vrf_data : Vrf → Data
vrf_data row = object (members (vrf_members row))
