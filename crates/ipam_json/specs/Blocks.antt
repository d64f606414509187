-- The member of a block: a text, whose reading is a relation.
use Rattle.std.specs.Prelude.{◌≡◌, ℕ, List, Option, Some, None, Result, Ok, Err}
use Rattle.inet_num.specs.Net.{Cidr}
use Rattle.inet_num.specs.Text.{IsBlockText}
use Rattle.inet_num.specs.Fault.{IsBlockFault}
use Rattle.inet_num.specs.declared.text.TextFault.{TextFault}
use Rattle.inet_num.specs.declared.text.TextFault.TheVariants.{Octet, Group, Shape, Length, HostBits as HasHostBits}
use Rattle.ipam_data.specs.declared.replies.FieldName.TheVariants.{Prefix as PrefixField}
use Rattle.ipam_data.specs.declared.replies.Rule.TheVariants.{HostBits}
use Rattle.ipam_data.specs.declared.replies.Refusal.{Refusal}
use Rattle.ipam_data.specs.declared.replies.Refusal.TheVariants.{Field, Rule as Breaks}
use Rattle.serde_json.specs.Data.{Data}
use Rattle.serde_json.specs.Find.{as_str}
use Rattle.ipam_json.specs.Outcomes.{IsGiven}

-- what a faulty text of a block is answered
abbrev pub block_refusal : TextFault → Refusal
block_refusal Shape = Field PrefixField
block_refusal Octet = Field PrefixField
block_refusal Group = Field PrefixField
block_refusal Length = Field PrefixField
block_refusal (HasHostBits block) = Breaks (HostBits block)

-- a text is that of a block, or has a fault
abbrev pub IsBlockReading : List ℕ → Result Cidr Refusal → Type 0
IsBlockReading text (Ok block) = IsBlockText text block
IsBlockReading text (Err refusal) = (fault : TextFault) × IsBlockFault text fault × (refusal ≡ block_refusal fault)

-- a text is wanted
abbrev pub IsBlockValue : Option (List ℕ) → Result Cidr Refusal → Type 0
IsBlockValue None block = block ≡ Err (Field PrefixField)
IsBlockValue (Some text) block = IsBlockReading text block

-- the member is required
abbrev pub IsBlockMember : Option Data → Result Cidr Refusal → Type 0
IsBlockMember None block = block ≡ Err (Field PrefixField)
IsBlockMember (Some d) block = IsBlockValue (as_str d) block

-- in an edit the member may be absent, which leaves the block
abbrev pub IsBlockEdit : Option Data → Result (Option Cidr) Refusal → Type 0
IsBlockEdit None block = block ≡ Ok None
IsBlockEdit (Some d) block = IsGiven (IsBlockMember (Some d)) block
