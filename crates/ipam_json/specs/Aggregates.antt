-- Aggregates in JSON: the bodies of a Create and of a Change, and the row.
use Rattle.std.specs.Prelude.{List, [], ◌∷◌, Option, Result, Ok}
use Rattle.inet_num.specs.Net.{Cidr}
use Rattle.inet_num.specs.Text.{block_text_of}
use Rattle.ipam_data.specs.declared.aggregate.Aggregate.{Aggregate}
use Rattle.ipam_data.specs.declared.calls.Draft.{Draft}
use Rattle.ipam_data.specs.declared.calls.Draft.TheVariants.{Aggregate as AggregateDraft}
use Rattle.ipam_data.specs.declared.calls.Edit.{Edit}
use Rattle.ipam_data.specs.declared.calls.Edit.TheVariants.{Aggregate as AggregateEdit}
use Rattle.ipam_data.specs.declared.replies.FieldName.TheVariants.{Description, Prefix as PrefixField, Rir as RirField}
use Rattle.ipam_data.specs.declared.replies.Refusal.{Refusal}
use Rattle.serde_json.specs.Data.{Data, object}
use Rattle.ipam_json.specs.Outcomes.{then, read_member, read_given}
use Rattle.ipam_json.specs.Members.{description_of, row_id_of}
use Rattle.ipam_json.specs.Values.{members, Named, id_named, text_named, number_named, family_named}

-- the body of an aggregate, whose member `prefix` comes first and gives this block or refusal
abbrev pub aggregate_draft : Result Cidr Refusal → Data → Result Draft Refusal
aggregate_draft block d =
    then block λ block.
    then (read_member RirField row_id_of d) λ rir.
    then (read_member Description description_of d) λ description.
    Ok (AggregateDraft block rir description)

-- that of an edit, in the same order: what is absent stays
abbrev pub aggregate_edit : Result (Option Cidr) Refusal → Data → Result Edit Refusal
aggregate_edit block d =
    then block λ block.
    then (read_given RirField row_id_of d) λ rir.
    then (read_given Description description_of d) λ description.
    Ok (AggregateEdit block rir description)

abbrev pub aggregate_members : Aggregate → List Named
aggregate_members row =
    text_named Description row.description
    ∷ family_named row.block.family
    ∷ id_named row.id
    ∷ text_named PrefixField (block_text_of row.block)
    ∷ number_named RirField row.rir ∷ []

abbrev pub aggregate_data : Aggregate → Data
aggregate_data row = object (members (aggregate_members row))
