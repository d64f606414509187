-- The JSON of a reply: which value represents each row, page and refusal, with the members of each object in the byte order of
-- their names, and its text, which is compact as serde_json writes it.
use Rattle.std.specs.Prelude.{ℕ, List, [], ◌∷◌, codes, length, map, Option, Some, None}
use Rattle.inet_num.specs.Net.{Address, Cidr}
use Rattle.inet_num.specs.Text.{block_text_of}
use Rattle.ipam_data.specs.declared.replies.View.{View}
use Rattle.ipam_data.specs.declared.replies.View.TheVariants.{Vrf as VrfView, Rir as RirView, Role as RoleView, Aggregate as AggregateView, Prefix as PrefixView, IpRange as RangeView, IpAddress as AddressView}
use Rattle.ipam_data.specs.declared.replies.FieldName.TheVariants.{Address as AddressField, Prefix as PrefixField, Vrf as VrfField}
use Rattle.ipam_data.specs.declared.replies.Refusal.{Refusal}
use Rattle.ipam_data.specs.declared.replies.Reply.{Reply}
use Rattle.ipam_data.specs.declared.replies.Reply.TheVariants.{Made, MadeMany, Changed, Gone, Imported, One, Page, Blocks, Addrs, Percent, Rows, Lines, Refused}
use Rattle.ipam_data.specs.Answers.{code_of, detail_of}
use Rattle.serde_json.specs.Data.{Data, string, array, object}
use Rattle.serde_json.specs.View.{items_of}
use Rattle.serde_json.specs.Written.{compact_text}
use Rattle.ipam_json.specs.declared.replies.Links.{Links}
use Rattle.ipam_json.specs.Values.{members, number_data, text_data, host_text, text_named, reference_named, family_named}
use Rattle.ipam_json.specs.Vrfs.{vrf_data}
use Rattle.ipam_json.specs.Rirs.{rir_data}
use Rattle.ipam_json.specs.Roles.{role_data}
use Rattle.ipam_json.specs.Aggregates.{aggregate_data}
use Rattle.ipam_json.specs.Prefixes.{prefix_data}
use Rattle.ipam_json.specs.Ranges.{range_data}
use Rattle.ipam_json.specs.Addresses.{address_data}

abbrev pub view_data : View → Data
view_data (VrfView row) = vrf_data row
view_data (RirView row) = rir_data row
view_data (RoleView row) = role_data row
view_data (AggregateView row) = aggregate_data row
view_data (PrefixView row depth children) = prefix_data row depth children
view_data (RangeView row) = range_data row
view_data (AddressView row) = address_data row

-- rows in their order
abbrev pub views_data : List View → Data
views_data views = array (items_of (map view_data views))

-- a page of a list: how many rows the list has, the links to the next page and the previous one, and its rows
abbrev pub page_form : ℕ → Links → Data → Data
page_form count links results = object (members (
    (codes "count", number_data count)
    ∷ (codes "next", text_data links.next)
    ∷ (codes "previous", text_data links.previous)
    ∷ (codes "results", results) ∷ []))

abbrev pub page_data : ℕ → List View → Links → Data
page_data count views links = page_form count links (views_data views)

-- things as an array
abbrev pub list_data : {T : Type 0} → (T → Data) → List T → Data
list_data data_of xs = array (items_of (map data_of xs))

-- an available block of the table of this VRF, or of the global one
abbrev pub block_data : Option ℕ → Cidr → Data
block_data vrf block = object (members (
    family_named block.family
    ∷ text_named PrefixField (block_text_of block)
    ∷ reference_named VrfField vrf ∷ []))

-- an available address likewise, with its mask
abbrev pub addr_data : Option ℕ → ℕ → Address → Data
addr_data vrf len addr = object (members (
    text_named AddressField (host_text addr len)
    ∷ family_named addr.family
    ∷ reference_named VrfField vrf ∷ []))

-- what an import did: how many rows made a record, and how many existed already
abbrev pub imported_data : ℕ → ℕ → Data
imported_data created present = object (members (
    (codes "created", number_data created)
    ∷ (codes "present", number_data present) ∷ []))

-- how much is used, in whole percent
abbrev pub percent_data : ℕ → Data
percent_data figure = object (members ((codes "utilization", number_data figure) ∷ []))

-- how many rows or lines there are: what they say is the matter of files and reports
abbrev pub length_data : List ℕ → ℕ → Data
length_data name count = object (members ((name, number_data count) ∷ []))

abbrev pub refusal_data : Refusal → Data
refusal_data refusal = object (members (
    (codes "code", string (code_of refusal))
    ∷ (codes "detail", string (detail_of refusal)) ∷ []))

-- the value of a reply, if it has one: a row that is gone has none. Links belong to a page alone
abbrev pub reply_data : Reply → Links → Option Data
reply_data (Made view) links = Some (view_data view)
reply_data (MadeMany views) links = Some (views_data views)
reply_data (Changed view) links = Some (view_data view)
reply_data Gone links = None
reply_data (Imported created present) links = Some (imported_data created present)
reply_data (One view) links = Some (view_data view)
reply_data (Page count views) links = Some (page_data count views links)
reply_data (Blocks vrf list) links = Some (list_data (block_data vrf) list)
reply_data (Addrs vrf len list) links = Some (list_data (addr_data vrf len) list)
reply_data (Percent figure) links = Some (percent_data figure)
reply_data (Rows rows) links = Some (length_data (codes "rows") (length rows))
reply_data (Lines lines) links = Some (length_data (codes "lines") (length lines))
reply_data (Refused refusal) links = Some (refusal_data refusal)

-- the text of a value, and none if there is no value
abbrev pub text_of_value : Option Data → List ℕ
text_of_value None = []
text_of_value (Some d) = compact_text d

-- the text of a reply
abbrev pub reply_text : Reply → Links → List ℕ
reply_text reply links = text_of_value (reply_data reply links)

-- the text of a refusal
abbrev pub refusal_text : Refusal → List ℕ
refusal_text refusal = compact_text (refusal_data refusal)
