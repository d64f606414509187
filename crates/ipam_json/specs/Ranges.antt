-- Ranges in JSON: the bodies of a Create and of a Change, and the row.
use Rattle.std.specs.Prelude.{false, List, [], ◌∷◌, codes, Option, Result, Ok}
use Rattle.ipam_data.specs.Hosts.{Masked}
use Rattle.ipam_data.specs.declared.range.IpRange.{IpRange}
use Rattle.ipam_data.specs.declared.calls.Draft.{Draft}
use Rattle.ipam_data.specs.declared.calls.Draft.TheVariants.{IpRange as RangeDraft}
use Rattle.ipam_data.specs.declared.calls.Edit.{Edit}
use Rattle.ipam_data.specs.declared.calls.Edit.TheVariants.{IpRange as RangeEdit}
use Rattle.ipam_data.specs.declared.replies.FieldName.TheVariants.{Description, EndAddress, MarkPopulated, MarkUtilized, Role as RoleField, StartAddress, Status, Vrf as VrfField}
use Rattle.ipam_data.specs.declared.replies.Refusal.{Refusal}
use Rattle.ipam_data.specs.Answers.{field_text}
use Rattle.serde_json.specs.Data.{Data, object}
use Rattle.ipam_json.specs.Outcomes.{then, read_member, read_given}
use Rattle.ipam_json.specs.Members.{description_of, flag_of, id_of, range_status_of}
use Rattle.ipam_json.specs.Sizes.{range_size}
use Rattle.ipam_words.specs.Words.{range_status_label, range_status_value}
use Rattle.ipam_json.specs.Values.{members, number_data, choice_data, host_text, Named, id_named, text_named, flag_named, reference_named, family_named}

-- the body of a range, whose members `start_address` and `end_address` come first and give these hosts or refusals
abbrev pub range_draft : Result Masked Refusal → Result Masked Refusal → Data → Result Draft Refusal
range_draft start end d =
    then start λ start.
    then end λ end.
    then (read_member VrfField id_of d) λ vrf.
    then (read_member Status range_status_of d) λ status.
    then (read_member RoleField id_of d) λ role.
    then (read_member MarkUtilized (flag_of false) d) λ mark_utilized.
    then (read_member MarkPopulated (flag_of false) d) λ mark_populated.
    then (read_member Description description_of d) λ description.
    Ok (RangeDraft start end vrf status role mark_utilized mark_populated description)

-- that of an edit, in the same order: what is absent stays
abbrev pub range_edit : Result (Option Masked) Refusal → Result (Option Masked) Refusal → Data → Result Edit Refusal
range_edit start end d =
    then start λ start.
    then end λ end.
    then (read_given VrfField id_of d) λ vrf.
    then (read_given Status range_status_of d) λ status.
    then (read_given RoleField id_of d) λ role.
    then (read_given MarkUtilized (flag_of false) d) λ mark_utilized.
    then (read_given MarkPopulated (flag_of false) d) λ mark_populated.
    then (read_given Description description_of d) λ description.
    Ok (RangeEdit start end vrf status role mark_utilized mark_populated description)

abbrev pub range_members : IpRange → List Named
range_members row =
    text_named Description row.description
    ∷ text_named EndAddress (host_text row.ends.end row.ends.len)
    ∷ family_named row.ends.start.family
    ∷ id_named row.id
    ∷ flag_named MarkPopulated row.mark_populated
    ∷ flag_named MarkUtilized row.mark_utilized
    ∷ reference_named RoleField row.role
    ∷ (codes "size", number_data (range_size row.ends))
    ∷ text_named StartAddress (host_text row.ends.start row.ends.len)
    ∷ (field_text Status, choice_data (range_status_label row.status) (range_status_value row.status))
    ∷ reference_named VrfField row.vrf ∷ []

abbrev pub range_data : IpRange → Data
range_data row = object (members (range_members row))
