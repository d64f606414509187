-- Members of the object that a body is: which field each of them gives. `None` is a member that is malformed, or absent if
-- it is required. A member is looked up by `get` of serde_json, which knows the last of two with one name, and no order.
use Rattle.std.specs.Prelude.{ℕ, nat_le, Bool, not, ◌&&◌, ◌==◌, List, [], length, chars, Option, Some, None, option_map, option_and_then, is_some, if◌then◌else◌}
use Rattle.std.specs.List.{list_any, list_all}
use Rattle.ipam_data.specs.Texts.{is_control, is_slug_char}
use Rattle.ipam_data.specs.declared.prefix.PrefixStatus.{PrefixStatus}
use Rattle.ipam_data.specs.declared.prefix.PrefixStatus.TheVariants.{Active as ActivePrefix}
use Rattle.ipam_data.specs.declared.range.RangeStatus.{RangeStatus}
use Rattle.ipam_data.specs.declared.range.RangeStatus.TheVariants.{Active as ActiveRange}
use Rattle.ipam_data.specs.declared.address.AddressStatus.{AddressStatus}
use Rattle.ipam_data.specs.declared.address.AddressStatus.TheVariants.{Active as ActiveAddress}
use Rattle.ipam_data.specs.declared.address.AddressRole.{AddressRole}
use Rattle.ipam_words.specs.Words.{prefix_status_named, range_status_named, address_status_named, address_role_named}
use Rattle.serde_json.specs.Data.{Data}
use Rattle.serde_json.specs.Find.{as_null, as_bool, as_number, as_str, as_u64}

-- the text has so many characters, and none is a control character
abbrev pub is_plain : ℕ → ℕ → List ℕ → Bool
is_plain least most text =
    nat_le least (length (chars text)) && nat_le (length (chars text)) most && not (list_any is_control (chars text))

-- a text of so many characters
abbrev pub within : ℕ → ℕ → List ℕ → Option (List ℕ)
within least most text = if is_plain least most text then Some text else None

-- a name is required, and is a text of 1 to 100 characters
abbrev pub name_of : Option Data → Option (List ℕ)
name_of None = None
name_of (Some d) = option_and_then (within 1 100) (as_str d)

-- the text of a slug has 1 to 100 characters, each an ASCII letter, a digit, a hyphen or an underscore
abbrev pub slugged : List ℕ → Option (List ℕ)
slugged text = if is_plain 1 100 text && list_all is_slug_char (chars text) then Some text else None

-- a slug is required
abbrev pub slug_of : Option Data → Option (List ℕ)
slug_of None = None
slug_of (Some d) = option_and_then slugged (as_str d)

-- a description is a text of at most 200 characters; an absent one is empty
abbrev pub description_of : Option Data → Option (List ℕ)
description_of None = Some []
description_of (Some d) = option_and_then (within 0 200) (as_str d)

-- a route distinguisher in words: an empty text is none
abbrev pub distinguisher_of : List ℕ → Option (Option (List ℕ))
distinguisher_of text = if length text == 0 then Some None else option_map Some (within 1 21 text)

-- a route distinguisher is a text of at most 21 characters; null, an empty text and an absent member are none
abbrev pub rd_of : Option Data → Option (Option (List ℕ))
rd_of None = Some None
rd_of (Some d) = if is_some (as_null d) then Some None else option_and_then distinguisher_of (as_str d)

-- the text of a host's name has at most 255 bytes; what its labels may be is a rule of the register
abbrev pub of_bytes : List ℕ → Option (List ℕ)
of_bytes text = if nat_le (length text) 255 then Some text else None

-- an absent name of a host is empty
abbrev pub dns_name_of : Option Data → Option (List ℕ)
dns_name_of None = Some []
dns_name_of (Some d) = option_and_then of_bytes (as_str d)

-- a truth value; an absent one is the default
abbrev pub flag_of : Bool → Option Data → Option Bool
flag_of default None = Some default
flag_of default (Some d) = as_bool d

-- an id is a whole number from 1 to 4294967295, without fraction and exponent
abbrev pub id_within : ℕ → Option ℕ
id_within n = if nat_le 1 n && nat_le n 4294967295 then Some n else None

-- the id of another row, which is required
abbrev pub row_id_of : Option Data → Option ℕ
row_id_of None = None
row_id_of (Some d) = option_and_then id_within (option_and_then as_u64 (as_number d))

-- the id of another row; null and an absent member are none
abbrev pub id_of : Option Data → Option (Option ℕ)
id_of None = Some None
id_of (Some d) =
    if is_some (as_null d) then Some None
    else option_map Some (option_and_then id_within (option_and_then as_u64 (as_number d)))

-- the length of a block is a whole number from 0 to 255; whether it fits where it is wanted is a rule of the register
abbrev pub length_within : ℕ → Option ℕ
length_within n = if nat_le n 255 then Some n else None

-- the length of a block that is wanted is required
abbrev pub prefix_length_of : Option Data → Option ℕ
prefix_length_of None = None
prefix_length_of (Some d) = option_and_then length_within (option_and_then as_u64 (as_number d))

-- the status of a prefix is one of four words; an absent one is active
abbrev pub prefix_status_of : Option Data → Option PrefixStatus
prefix_status_of None = Some ActivePrefix
prefix_status_of (Some d) = option_and_then prefix_status_named (as_str d)

-- that of a range one of three
abbrev pub range_status_of : Option Data → Option RangeStatus
range_status_of None = Some ActiveRange
range_status_of (Some d) = option_and_then range_status_named (as_str d)

-- that of an address one of five
abbrev pub address_status_of : Option Data → Option AddressStatus
address_status_of None = Some ActiveAddress
address_status_of (Some d) = option_and_then address_status_named (as_str d)

-- the role of an address in words: an empty text is none
abbrev pub address_role_in : List ℕ → Option (Option AddressRole)
address_role_in text = if length text == 0 then Some None else option_map Some (address_role_named text)

-- the role of an address is one of eight words; null, an empty text and an absent member are none
abbrev pub address_role_of : Option Data → Option (Option AddressRole)
address_role_of None = Some None
address_role_of (Some d) = if is_some (as_null d) then Some None else option_and_then address_role_in (as_str d)

-- a weight is a whole number from 0 to 32767
abbrev pub weight_within : ℕ → Option ℕ
weight_within n = if nat_le n 32767 then Some n else None

-- an absent weight is 1000
abbrev pub weight_of : Option Data → Option ℕ
weight_of None = Some 1000
weight_of (Some d) = option_and_then weight_within (option_and_then as_u64 (as_number d))
