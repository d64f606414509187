-- Drafts as records keep them, and what is known of a row of an import that was made ready.
use Rattle.std.specs.Prelude.{◌≡◌, ℕ, Bool, false, List, [], Option, Some, None, bytes_eq}
use Rattle.ipam_data.specs.declared.calls.Draft.{Draft}
use Rattle.ipam_data.specs.declared.calls.Draft.TheVariants.{Prefix as PrefixDraft, IpAddress as AddressDraft}
use Rattle.ipam_data.specs.declared.calls.Filter.{Filter}
use Rattle.ipam_data.specs.declared.calls.Filter.TheVariants.{Vrfs as SomeVrfs, Prefixes as SomePrefixes, Addresses as SomeAddresses}
use Rattle.ipam_data.specs.declared.kinds.Kind.{Kind}
use Rattle.ipam_data.specs.declared.replies.Refusal.{Refusal}
use Rattle.ipam_data.specs.Fields.{drafted, kind_of_draft, recorded, stored_draft}
use Rattle.ipam_data.specs.Plans.{KindRules}
use Rattle.ipam_data.specs.RowList.{row_at}
use Rattle.inet_num.specs.Net.{block_at, width_of}
use Rattle.stored_tables.specs.Reading.{IsBare}
use Rattle.register_plans.specs.declared.imports.ready.Ready.{Ready}
use Rattle.register_plans.specs.ReadyRows.{key_of_draft, key_of_row}

-- a draft of this kind as a record keeps it
pub record IsKept (kind : Kind) (d : Draft) : Type 0 where
  pub is_of : kind_of_draft d ≡ kind
  pub bare : IsBare (drafted 1 d)
  pub same : recorded (drafted 1 d) ≡ d

-- a row that is not refused by itself has the key of the draft that a record would keep; any other has none
pub record IsReadied (kind : Kind) (row : Ready) : Type 0 where
  pub kept : row.fault ≡ None → IsKept kind (stored_draft row.draft)
  pub key : row.fault ≡ None → row.key ≡ key_of_draft (stored_draft row.draft)
  pub none : (refusal : Refusal) → row.fault ≡ Some refusal → row.key ≡ []

-- ---- records that are looked up

-- a filter that each record meets which has the fields of the draft: of its table, and of its block or its host
abbrev pub prefix_filter : Draft → Filter
prefix_filter (PrefixDraft block vrf status role is_pool mark_utilized description) = SomePrefixes None (Some vrf) None None (Some block) None None None
prefix_filter other = SomeVrfs None None

abbrev pub address_filter : Draft → Filter
address_filter (AddressDraft host vrf status role dns_name description) = SomeAddresses None (Some vrf) None None (Some (block_at host.addr (width_of host.addr.family))) None
address_filter other = SomeVrfs None None

-- the record of an id has the key
abbrev pub has_key_if : {T : Type 0} → KindRules T → List ℕ → Option T → Bool
has_key_if rules key None = false
has_key_if rules key (Some row) = bytes_eq key (key_of_row rules row)

abbrev pub has_key : {T : Type 0} → KindRules T → List T → List ℕ → ℕ → Bool
has_key rules rows key n = has_key_if rules key (row_at rules.id rows n)
