-- What the body of a Create asks for, a draft of its kind, and that of a Change, an edit; or the refusal that is answered. The body is one JSON text (RFC 8259),
-- read by the definition of serde_json: at most 127 levels deep, in UTF-8.
use Rattle.std.specs.Prelude.{◌≡◌, ◌⊎◌, ℕ, List, Option, Some, Result, Err, IsUtf8, is_some, IsTrue}
use Rattle.inet_num.specs.Net.{Cidr}
use Rattle.ipam_data.specs.declared.kinds.Kind.{Kind}
use Rattle.ipam_data.specs.declared.kinds.Kind.TheVariants.{Vrfs, Rirs, Roles, Aggregates, Prefixes, Ranges, Addresses}
use Rattle.ipam_data.specs.declared.calls.Draft.{Draft}
use Rattle.ipam_data.specs.declared.calls.Edit.{Edit}
use Rattle.ipam_data.specs.Hosts.{Masked}
use Rattle.ipam_data.specs.declared.replies.FieldName.TheVariants.{Address as AddressField, EndAddress, Prefix as PrefixField, StartAddress}
use Rattle.ipam_data.specs.declared.replies.Refusal.{Refusal}
use Rattle.ipam_data.specs.declared.replies.Refusal.TheVariants.{BadJson}
use Rattle.serde_json.specs.Data.{Data}
use Rattle.serde_json.specs.Find.{as_object}
use Rattle.serde_json.specs.Read.{read}
pub use Rattle.ipam_json.specs.Outcomes.{OrMemory}
use Rattle.ipam_json.specs.Outcomes.{value_of}
use Rattle.ipam_json.specs.Blocks.{IsBlockMember, IsBlockEdit}
use Rattle.ipam_json.specs.Hosts.{IsHostMember, IsHostEdit}
use Rattle.ipam_json.specs.Vrfs.{vrf_draft, vrf_edit}
use Rattle.ipam_json.specs.Rirs.{rir_draft, rir_edit}
use Rattle.ipam_json.specs.Roles.{role_draft, role_edit}
use Rattle.ipam_json.specs.Aggregates.{aggregate_draft, aggregate_edit}
use Rattle.ipam_json.specs.Prefixes.{prefix_draft, prefix_edit}
use Rattle.ipam_json.specs.Ranges.{range_draft, range_edit}
use Rattle.ipam_json.specs.Addresses.{address_draft, address_edit}

-- the bytes are a JSON text, and its value is this object
pub record IsObjectText (body : List ℕ) (d : Data) : Type 0 where
  pub utf8 : IsUtf8 body
  pub value : read body ≡ Some d
  pub object : IsTrue (is_some (as_object d))

-- the bytes are no JSON text, or one of no object
abbrev pub IsNoObjectText : List ℕ → Type 0
IsNoObjectText body = (d : Data) → ¬ IsObjectText body d

-- what the object asks for
abbrev pub IsObjectOf : Kind → Data → Result Draft Refusal → Type 0
IsObjectOf Vrfs d answer = answer ≡ vrf_draft d
IsObjectOf Rirs d answer = answer ≡ rir_draft d
IsObjectOf Roles d answer = answer ≡ role_draft d
IsObjectOf Aggregates d answer =
    (block : Result Cidr Refusal) × IsBlockMember (value_of PrefixField d) block × (answer ≡ aggregate_draft block d)
IsObjectOf Prefixes d answer =
    (block : Result Cidr Refusal) × IsBlockMember (value_of PrefixField d) block × (answer ≡ prefix_draft block d)
IsObjectOf Ranges d answer =
    (start end : Result Masked Refusal)
    × IsHostMember StartAddress (value_of StartAddress d) start × IsHostMember EndAddress (value_of EndAddress d) end
    × (answer ≡ range_draft start end d)
IsObjectOf Addresses d answer =
    (host : Result Masked Refusal) × IsHostMember AddressField (value_of AddressField d) host × (answer ≡ address_draft host d)

-- what the object of an edit asks for likewise
abbrev pub IsEditObjectOf : Kind → Data → Result Edit Refusal → Type 0
IsEditObjectOf Vrfs d answer = answer ≡ vrf_edit d
IsEditObjectOf Rirs d answer = answer ≡ rir_edit d
IsEditObjectOf Roles d answer = answer ≡ role_edit d
IsEditObjectOf Aggregates d answer =
    (block : Result (Option Cidr) Refusal) × IsBlockEdit (value_of PrefixField d) block × (answer ≡ aggregate_edit block d)
IsEditObjectOf Prefixes d answer =
    (block : Result (Option Cidr) Refusal) × IsBlockEdit (value_of PrefixField d) block × (answer ≡ prefix_edit block d)
IsEditObjectOf Ranges d answer =
    (start end : Result (Option Masked) Refusal)
    × IsHostEdit StartAddress (value_of StartAddress d) start × IsHostEdit EndAddress (value_of EndAddress d) end
    × (answer ≡ range_edit start end d)
IsEditObjectOf Addresses d answer =
    (host : Result (Option Masked) Refusal) × IsHostEdit AddressField (value_of AddressField d) host × (answer ≡ address_edit host d)

-- what a body asks for whose object asks for this; other bodies are refused
abbrev pub IsTextOf : {A : Type 0} → (Data → Result A Refusal → Type 0) → List ℕ → Result A Refusal → Type 0
IsTextOf IsObject body answer =
    ((d : Data) × IsObjectText body d × IsObject d answer) ⊎ (IsNoObjectText body × (answer ≡ Err BadJson))

-- what the body of a Create asks for
abbrev pub IsBodyOf : Kind → List ℕ → Result Draft Refusal → Type 0
IsBodyOf kind body answer = IsTextOf (IsObjectOf kind) body answer

-- what the body of a Change asks for
abbrev pub IsEditOf : Kind → List ℕ → Result Edit Refusal → Type 0
IsEditOf kind body answer = IsTextOf (IsEditObjectOf kind) body answer
