-- The member of a host: the text of an address, with a mask or without one, whose reading is a relation.
use Rattle.std.specs.Prelude.{◌≡◌, ℕ, List, Option, Some, None, Result, Ok, Err}
use Rattle.inet_num.specs.Text.{IsHostText}
use Rattle.inet_num.specs.Fault.{IsHostFault}
use Rattle.inet_num.specs.declared.text.TextFault.{TextFault}
use Rattle.ipam_data.specs.Hosts.{Masked}
use Rattle.ipam_data.specs.declared.replies.FieldName.{FieldName}
use Rattle.ipam_data.specs.declared.replies.Refusal.{Refusal}
use Rattle.ipam_data.specs.declared.replies.Refusal.TheVariants.{Field}
use Rattle.serde_json.specs.Data.{Data}
use Rattle.serde_json.specs.Find.{as_str}
use Rattle.ipam_json.specs.Outcomes.{IsGiven}

-- a text is that of a host, or has a fault and is answered by the member's name
abbrev pub IsHostReading : FieldName → List ℕ → Result Masked Refusal → Type 0
IsHostReading key text (Ok host) = IsHostText text host.addr host.len
IsHostReading key text (Err refusal) = ((fault : TextFault) × IsHostFault text fault) × (refusal ≡ Field key)

-- a text is wanted
abbrev pub IsHostValue : FieldName → Option (List ℕ) → Result Masked Refusal → Type 0
IsHostValue key None host = host ≡ Err (Field key)
IsHostValue key (Some text) host = IsHostReading key text host

-- the member is required
abbrev pub IsHostMember : FieldName → Option Data → Result Masked Refusal → Type 0
IsHostMember key None host = host ≡ Err (Field key)
IsHostMember key (Some d) host = IsHostValue key (as_str d) host

-- in an edit the member may be absent, which leaves the host
abbrev pub IsHostEdit : FieldName → Option Data → Result (Option Masked) Refusal → Type 0
IsHostEdit key None host = host ≡ Ok None
IsHostEdit key (Some d) host = IsGiven (IsHostMember key (Some d)) host
