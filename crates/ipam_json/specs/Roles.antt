-- Roles in JSON: the bodies of a Create and of a Change, and the row.
use Rattle.std.specs.Prelude.{List, [], ◌∷◌, Result, Ok}
use Rattle.ipam_data.specs.declared.role.Role.{Role}
use Rattle.ipam_data.specs.declared.calls.Draft.{Draft}
use Rattle.ipam_data.specs.declared.calls.Draft.TheVariants.{Role as RoleDraft}
use Rattle.ipam_data.specs.declared.calls.Edit.{Edit}
use Rattle.ipam_data.specs.declared.calls.Edit.TheVariants.{Role as RoleEdit}
use Rattle.ipam_data.specs.declared.replies.FieldName.TheVariants.{Description, Name, Slug, Weight}
use Rattle.ipam_data.specs.declared.replies.Refusal.{Refusal}
use Rattle.serde_json.specs.Data.{Data, object}
use Rattle.ipam_json.specs.Outcomes.{then, read_member, read_given}
use Rattle.ipam_json.specs.Members.{name_of, slug_of, description_of, weight_of}
use Rattle.ipam_json.specs.Values.{members, Named, id_named, text_named, number_named}

-- the body of a role: its members in this order, and the first that is malformed or missing is answered
abbrev pub role_draft : Data → Result Draft Refusal
role_draft d =
    then (read_member Name name_of d) λ name.
    then (read_member Slug slug_of d) λ slug.
    then (read_member Weight weight_of d) λ weight.
    then (read_member Description description_of d) λ description.
    Ok (RoleDraft name slug weight description)

-- that of an edit, in the same order: what is absent stays
abbrev pub role_edit : Data → Result Edit Refusal
role_edit d =
    then (read_given Name name_of d) λ name.
    then (read_given Slug slug_of d) λ slug.
    then (read_given Weight weight_of d) λ weight.
    then (read_given Description description_of d) λ description.
    Ok (RoleEdit name slug weight description)

abbrev pub role_members : Role → List Named
role_members row =
    text_named Description row.description
    ∷ id_named row.id
    ∷ text_named Name row.name
    ∷ text_named Slug row.slug
    ∷ number_named Weight row.weight ∷ []

abbrev pub role_data : Role → Data
role_data row = object (members (role_members row))
