-- The JSON of a reply: which value represents it, and its text, which is compact as serde_json writes it.
use Rattle.std.specs.Prelude.{ℕ, Bool, true, false, List, [], ◌∷◌, codes, Option, Some, None}
use Rattle.serde_json.specs.Data.{Data, object, string}
use Rattle.serde_json.specs.Written.{compact_text}
use Rattle.ipam_json.specs.Replies.{list_data, refusal_text, text_of_value}
use Rattle.ipam_json.specs.Values.{members, number_data}
use Rattle.number_pools.specs.declared.rows.PoolKind.{PoolKind}
use Rattle.number_pools.specs.declared.rows.PoolKind.TheVariants.{Asn, Vlan}
use Rattle.number_pools.specs.declared.rows.Member.{Member}
use Rattle.number_pools.specs.declared.calls.PoolRefusal.{PoolRefusal}
use Rattle.number_pools.specs.declared.calls.PoolReply.{PoolReply}
use Rattle.number_pools.specs.declared.calls.PoolReply.TheVariants.{Made, Gone, Claimed, ChangedRange, ChangedMember, OneRange, OneMember, Ranges, Members, Numbers, Page, Refused}
use Rattle.pool_json.specs.declared.bodies.RequestRefusal.{RequestRefusal}
use Rattle.pool_json.specs.declared.bodies.RequestRefusal.TheVariants.{Common, Start, End, Number, Range}
use Rattle.pool_json.specs.declared.replies.Shape.{Shape}
use Rattle.pool_json.specs.Rows.{member_data, range_data}
use Rattle.pool_json.specs.Pages.{page_data}
use Rattle.pool_json.specs.Words.{code_of, detail_of}

-- a code and words for it
abbrev pub words_data : List ℕ → List ℕ → Data
words_data code detail = object (members ((codes "code", string code) ∷ (codes "detail", string detail) ∷ []))

abbrev pub pool_refusal_data : PoolRefusal → Data
pool_refusal_data refusal = words_data (code_of refusal) (detail_of refusal)

-- what was claimed: a claim by a list is answered by a list, and one by one object by its one member
abbrev pub claimed_data : PoolKind → Bool → List Member → Option Data
claimed_data kind true rows = Some (list_data (member_data kind) rows)
claimed_data kind false [] = None
claimed_data kind false (row ∷ rows) = Some (member_data kind row)

-- the value of a reply, if it has one: a row that is gone has none
abbrev pub reply_data : Shape → PoolReply → Option Data
reply_data shape (Made range) = Some (range_data range)
reply_data shape Gone = None
reply_data shape (Claimed rows) = claimed_data shape.kind shape.list rows
reply_data shape (ChangedRange range) = Some (range_data range)
reply_data shape (ChangedMember row) = Some (member_data shape.kind row)
reply_data shape (OneRange range) = Some (range_data range)
reply_data shape (OneMember row) = Some (member_data shape.kind row)
reply_data shape (Ranges rows) = Some (list_data range_data rows)
reply_data shape (Members rows) = Some (list_data (member_data shape.kind) rows)
reply_data shape (Numbers numbers) = Some (list_data number_data numbers)
reply_data shape (Page query count members) = Some (page_data shape.kind query count members)
reply_data shape (Refused refusal) = Some (pool_refusal_data refusal)

-- the text of a reply
abbrev pub reply_text : Shape → PoolReply → List ℕ
reply_text shape reply = text_of_value (reply_data shape reply)

-- in words that the number of an item of a kind is missing or malformed
abbrev pub number_words : PoolKind → List ℕ
number_words Asn = codes "asn is missing or malformed"
number_words Vlan = codes "vid is missing or malformed"

-- in words that the range that a list asks for is malformed
abbrev pub range_words : PoolKind → List ℕ
range_words Asn = codes "range_id is missing or malformed"
range_words Vlan = codes "group_id is missing or malformed"

-- the text of a refusal before the pools are asked
abbrev pub request_refusal_text : RequestRefusal → List ℕ
request_refusal_text (Common refusal) = refusal_text refusal
request_refusal_text Start = compact_text (words_data (codes "field") (codes "start is missing or malformed"))
request_refusal_text End = compact_text (words_data (codes "field") (codes "end is missing or malformed"))
request_refusal_text (Number kind) = compact_text (words_data (codes "field") (number_words kind))
request_refusal_text (Range kind) = compact_text (words_data (codes "field") (range_words kind))
