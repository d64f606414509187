-- RIRs in JSON: the bodies of a Create and of a Change, and the row.
use Rattle.std.specs.Prelude.{false, List, [], ◌∷◌, Result, Ok}
use Rattle.ipam_data.specs.declared.rir.Rir.{Rir}
use Rattle.ipam_data.specs.declared.calls.Draft.{Draft}
use Rattle.ipam_data.specs.declared.calls.Draft.TheVariants.{Rir as RirDraft}
use Rattle.ipam_data.specs.declared.calls.Edit.{Edit}
use Rattle.ipam_data.specs.declared.calls.Edit.TheVariants.{Rir as RirEdit}
use Rattle.ipam_data.specs.declared.replies.FieldName.TheVariants.{Description, IsPrivate, Name, Slug}
use Rattle.ipam_data.specs.declared.replies.Refusal.{Refusal}
use Rattle.serde_json.specs.Data.{Data, object}
use Rattle.ipam_json.specs.Outcomes.{then, read_member, read_given}
use Rattle.ipam_json.specs.Members.{name_of, slug_of, description_of, flag_of}
use Rattle.ipam_json.specs.Values.{members, Named, id_named, text_named, flag_named}

-- the body of an RIR: its members in this order, and the first that is malformed or missing is answered
abbrev pub rir_draft : Data → Result Draft Refusal
rir_draft d =
    then (read_member Name name_of d) λ name.
    then (read_member Slug slug_of d) λ slug.
    then (read_member IsPrivate (flag_of false) d) λ is_private.
    then (read_member Description description_of d) λ description.
    Ok (RirDraft name slug is_private description)

-- that of an edit, in the same order: what is absent stays
abbrev pub rir_edit : Data → Result Edit Refusal
rir_edit d =
    then (read_given Name name_of d) λ name.
    then (read_given Slug slug_of d) λ slug.
    then (read_given IsPrivate (flag_of false) d) λ is_private.
    then (read_given Description description_of d) λ description.
    Ok (RirEdit name slug is_private description)

abbrev pub rir_members : Rir → List Named
rir_members row =
    text_named Description row.description
    ∷ id_named row.id
    ∷ flag_named IsPrivate row.is_private
    ∷ text_named Name row.name
    ∷ text_named Slug row.slug ∷ []

abbrev pub rir_data : Rir → Data
rir_data row = object (members (rir_members row))
