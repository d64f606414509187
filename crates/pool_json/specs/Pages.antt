-- A page of the members of a kind in JSON, with the links to the next page and the previous one.
use Rattle.std.specs.Prelude.{ℕ, ◌+◌, ◌-◌, ◌==◌, nat_le, List, [], ◌++◌, codes, decimal, length, Option, Some, None, option_map, if◌then◌else◌}
use Rattle.form_urlencoded.specs.Form.{append_pair}
use Rattle.serde_json.specs.Data.{Data}
use Rattle.ipam_data.specs.Answers.{field_text}
use Rattle.ipam_data.specs.declared.replies.FieldName.TheVariants.{Limit, Name, Offset}
use Rattle.ipam_json.specs.declared.replies.Links.{Links}
use Rattle.ipam_json.specs.Replies.{list_data, page_form}
use Rattle.rest_query.specs.Query.{with_given}
use Rattle.number_pools.specs.declared.rows.PoolKind.{PoolKind}
use Rattle.number_pools.specs.declared.rows.PoolKind.TheVariants.{Asn, Vlan}
use Rattle.number_pools.specs.declared.rows.Member.{Member}
use Rattle.number_pools.specs.declared.calls.MemberQuery.{MemberQuery}
use Rattle.pool_json.specs.Records.{number_name}
use Rattle.pool_json.specs.Rows.{member_data}

-- the members of ranges of a kind by their name in a path
abbrev pub members_text : PoolKind → List ℕ
members_text Asn = codes "asns"
members_text Vlan = codes "vlans"

-- the parameter of a query that gives the id of the range of each member
abbrev pub range_name : PoolKind → List ℕ
range_name Asn = codes "range_id"
range_name Vlan = codes "group_id"

-- a form with a parameter that is a number, if it is given
abbrev pub with_number : List ℕ → List ℕ → Option ℕ → List ℕ
with_number form name number = with_given form name (option_map decimal number)

-- what is asked of each member
abbrev pub with_query : PoolKind → MemberQuery → List ℕ
with_query kind query =
    with_given (with_number (with_number [] (number_name kind) query.number) (range_name kind) query.range) (field_text Name) query.name

-- the query of a link to a page: what is asked of each member, then limit and offset
abbrev pub link_query : PoolKind → MemberQuery → ℕ → List ℕ
link_query kind query offset =
    append_pair (append_pair (with_query kind query) (field_text Limit) (decimal query.limit)) (field_text Offset) (decimal offset)

abbrev pub link_text : PoolKind → MemberQuery → ℕ → List ℕ
link_text kind query offset = codes "/api/ipam/" ++ (members_text kind ++ (codes "/?" ++ link_query kind query offset))

-- a page is after this one if the list has more members than those up to its end, and one is before it if it does not begin the list
abbrev pub links_of : PoolKind → MemberQuery → ℕ → ℕ → Links
links_of kind query count shown = record {
  next = if nat_le count (query.offset + shown) then None else Some (link_text kind query (query.offset + query.limit));
  previous = if query.offset == 0 then None else Some (link_text kind query (query.offset - query.limit));
}

abbrev pub page_data : PoolKind → MemberQuery → ℕ → List Member → Data
page_data kind query count members = page_form count (links_of kind query count (length members)) (list_data (member_data kind) members)
