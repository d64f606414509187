-- Prefixes in JSON: the bodies of a Create and of a Change, and the row.
use Rattle.std.specs.Prelude.{ℕ, false, List, [], ◌∷◌, codes, Option, Result, Ok}
use Rattle.inet_num.specs.Net.{Cidr}
use Rattle.inet_num.specs.Text.{block_text_of}
use Rattle.ipam_data.specs.declared.prefix.Prefix.{Prefix}
use Rattle.ipam_data.specs.declared.calls.Draft.{Draft}
use Rattle.ipam_data.specs.declared.calls.Draft.TheVariants.{Prefix as PrefixDraft}
use Rattle.ipam_data.specs.declared.calls.Edit.{Edit}
use Rattle.ipam_data.specs.declared.calls.Edit.TheVariants.{Prefix as PrefixEdit}
use Rattle.ipam_data.specs.declared.replies.FieldName.TheVariants.{Description, IsPool, MarkUtilized, Prefix as PrefixField, Role as RoleField, Status, Vrf as VrfField}
use Rattle.ipam_data.specs.declared.replies.Refusal.{Refusal}
use Rattle.ipam_data.specs.Answers.{field_text}
use Rattle.serde_json.specs.Data.{Data, object}
use Rattle.ipam_json.specs.Outcomes.{then, read_member, read_given}
use Rattle.ipam_json.specs.Members.{description_of, flag_of, id_of, prefix_status_of}
use Rattle.ipam_words.specs.Words.{prefix_status_label, prefix_status_value}
use Rattle.ipam_json.specs.Values.{members, number_data, choice_data, Named, id_named, text_named, flag_named, reference_named, family_named}

-- the body of a prefix, whose member `prefix` comes first and gives this block or refusal
abbrev pub prefix_draft : Result Cidr Refusal → Data → Result Draft Refusal
prefix_draft block d =
    then block λ block.
    then (read_member VrfField id_of d) λ vrf.
    then (read_member Status prefix_status_of d) λ status.
    then (read_member RoleField id_of d) λ role.
    then (read_member IsPool (flag_of false) d) λ is_pool.
    then (read_member MarkUtilized (flag_of false) d) λ mark_utilized.
    then (read_member Description description_of d) λ description.
    Ok (PrefixDraft block vrf status role is_pool mark_utilized description)

-- that of an edit, in the same order: what is absent stays
abbrev pub prefix_edit : Result (Option Cidr) Refusal → Data → Result Edit Refusal
prefix_edit block d =
    then block λ block.
    then (read_given VrfField id_of d) λ vrf.
    then (read_given Status prefix_status_of d) λ status.
    then (read_given RoleField id_of d) λ role.
    then (read_given IsPool (flag_of false) d) λ is_pool.
    then (read_given MarkUtilized (flag_of false) d) λ mark_utilized.
    then (read_given Description description_of d) λ description.
    Ok (PrefixEdit block vrf status role is_pool mark_utilized description)

abbrev pub prefix_members : Prefix → ℕ → ℕ → List Named
prefix_members row depth children =
    (codes "children", number_data children)
    ∷ (codes "depth", number_data depth)
    ∷ text_named Description row.description
    ∷ family_named row.block.family
    ∷ id_named row.id
    ∷ flag_named IsPool row.is_pool
    ∷ flag_named MarkUtilized row.mark_utilized
    ∷ text_named PrefixField (block_text_of row.block)
    ∷ reference_named RoleField row.role
    ∷ (field_text Status, choice_data (prefix_status_label row.status) (prefix_status_value row.status))
    ∷ reference_named VrfField row.vrf ∷ []

abbrev pub prefix_data : Prefix → ℕ → ℕ → Data
prefix_data row depth children = object (members (prefix_members row depth children))
