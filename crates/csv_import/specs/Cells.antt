-- The cells of a line under a header, and what each kind of cell is read as. An absent column and an empty cell are the same; `None`
-- is a cell that is malformed.
use Rattle.std.specs.Prelude.{◌≡◌, ◌≢◌, ℕ, ◌≤◌, nat_le, Bool, true, false, not, ◌&&◌, ◌==◌, List, [], length, chars, codes, decimal, bytes_eq, Option, Some, None, option_map, option_and_then, unwrap_or, Result, Ok, Err, ok_or, MatchBool, if◌then◌else◌}
use Rattle.std.specs.List.{list_any, list_all, position_from}
use Rattle.csv.specs.Records.{field_at}
use Rattle.inet_num.specs.Net.{Cidr}
use Rattle.inet_num.specs.Text.{IsBlockText, IsHostText}
use Rattle.inet_num.specs.Fault.{IsBlockFault, IsHostFault}
use Rattle.inet_num.specs.declared.text.TextFault.{TextFault}
use Rattle.inet_num.specs.declared.text.TextFault.TheVariants.{Octet, Group, Shape, Length, HostBits as HasHostBits}
use Rattle.ipam_data.specs.Texts.{is_control, is_slug_char}
use Rattle.ipam_data.specs.Hosts.{Masked}
use Rattle.ipam_data.specs.declared.prefix.PrefixStatus.{PrefixStatus}
use Rattle.ipam_data.specs.declared.prefix.PrefixStatus.TheVariants.{Active as ActivePrefix}
use Rattle.ipam_data.specs.declared.range.RangeStatus.{RangeStatus}
use Rattle.ipam_data.specs.declared.range.RangeStatus.TheVariants.{Active as ActiveRange}
use Rattle.ipam_data.specs.declared.address.AddressStatus.{AddressStatus}
use Rattle.ipam_data.specs.declared.address.AddressStatus.TheVariants.{Active as ActiveAddress}
use Rattle.ipam_data.specs.declared.address.AddressRole.{AddressRole}
use Rattle.ipam_data.specs.declared.replies.FieldName.{FieldName}
use Rattle.ipam_data.specs.declared.replies.FieldName.TheVariants.{Prefix as PrefixField}
use Rattle.ipam_data.specs.declared.replies.Rule.TheVariants.{HostBits}
use Rattle.ipam_data.specs.declared.replies.RowFault.{RowFault}
use Rattle.ipam_data.specs.declared.replies.RowFault.TheVariants.{Field, Rule as Breaks}
use Rattle.ipam_data.specs.Answers.{field_text}
use Rattle.ipam_words.specs.Words.{prefix_status_named, range_status_named, address_status_named, address_role_named}

-- the field under the column of this name, or nothing
abbrev pub cell : List (List ℕ) → List (List ℕ) → FieldName → List ℕ
cell header fields name = unwrap_or (option_and_then (field_at fields) (position_from (bytes_eq (field_text name)) 0 header)) []

-- a cell that is malformed is answered by its column
abbrev pub column : {A : Type 0} → FieldName → Option A → Result A RowFault
column name value = ok_or value (Field name)

-- ---- texts

-- the text has so many characters, and none is a control character
abbrev pub is_plain : ℕ → ℕ → List ℕ → Bool
is_plain least most text =
    nat_le least (length (chars text)) && nat_le (length (chars text)) most && not (list_any is_control (chars text))

-- a text of so many characters
abbrev pub within : ℕ → ℕ → List ℕ → Option (List ℕ)
within least most text = if is_plain least most text then Some text else None

-- a text of so many characters, or none if the cell is empty
abbrev pub within_or_none : ℕ → List ℕ → Option (Option (List ℕ))
within_or_none most text = if length text == 0 then Some None else option_map Some (within 1 most text)

-- a slug has 1 to 100 characters, and each may be in a slug
abbrev pub slugged : List ℕ → Option (List ℕ)
slugged text = if is_plain 1 100 text && list_all is_slug_char (chars text) then Some text else None

-- the name of a host has at most 255 bytes; what its labels may be is a rule of the register
abbrev pub of_bytes : List ℕ → Option (List ℕ)
of_bytes text = if nat_le (length text) 255 then Some text else None

-- ---- choices

-- a truth value; an empty cell is the default
abbrev pub flag_of : Bool → List ℕ → Option Bool
flag_of default text =
    if length text == 0 then Some default
    else (if bytes_eq text (codes "true") then Some true
    else (if bytes_eq text (codes "false") then Some false else None))

-- a status; an empty cell is active
abbrev pub prefix_status_of : List ℕ → Option PrefixStatus
prefix_status_of text = if length text == 0 then Some ActivePrefix else prefix_status_named text

abbrev pub range_status_of : List ℕ → Option RangeStatus
range_status_of text = if length text == 0 then Some ActiveRange else range_status_named text

abbrev pub address_status_of : List ℕ → Option AddressStatus
address_status_of text = if length text == 0 then Some ActiveAddress else address_status_named text

-- the role of an address, or none if the cell is empty
abbrev pub address_role_of : List ℕ → Option (Option AddressRole)
address_role_of text = if length text == 0 then Some None else option_map Some (address_role_named text)

-- ---- weights

-- a weight is a number from 0 to 32767, in decimal without a leading zero
abbrev pub IsWeightText : List ℕ → Option ℕ → Type 0
IsWeightText text None = (n : ℕ) → n ≤ 32767 → text ≢ decimal n
IsWeightText text (Some n) = (text ≡ decimal n) × (n ≤ 32767)

-- an empty cell is 1000
abbrev pub IsWeightCell : List ℕ → Option ℕ → Type 0
IsWeightCell text weight = MatchBool (length text == 0) (weight ≡ Some 1000) (IsWeightText text weight)

-- ---- blocks and hosts

-- what a faulty text of a block is answered
abbrev pub block_fault : TextFault → RowFault
block_fault Shape = Field PrefixField
block_fault Octet = Field PrefixField
block_fault Group = Field PrefixField
block_fault Length = Field PrefixField
block_fault (HasHostBits block) = Breaks (HostBits block)

-- a text is that of a block, or has a fault
abbrev pub IsBlockReading : List ℕ → Result Cidr RowFault → Type 0
IsBlockReading text (Ok block) = IsBlockText text block
IsBlockReading text (Err fault) = (why : TextFault) × IsBlockFault text why × (fault ≡ block_fault why)

-- a text is that of a host, whose mask is its width if it has none, or has a fault
abbrev pub IsHostReading : FieldName → List ℕ → Result Masked RowFault → Type 0
IsHostReading key text (Ok host) = IsHostText text host.addr host.len
IsHostReading key text (Err fault) = ((why : TextFault) × IsHostFault text why) × (fault ≡ Field key)
