-- A query asks for one thing.
use Rattle.std.proofs.Common.{◌≡◌, ℕ, ◌<◌, Bool, true, false, List, Option, Some, None, Result, decimal, codes, bytes_eq, sym, ◌∙◌, ap, subst, refl, arith}
use Rattle.std.proofs.lemmas.Fmt.{decimal_injective}
use Rattle.inet_num.specs.Net.{Address, Cidr, block_at, width_of}
use Rattle.inet_num.proofs.Readings.{reading_is_one}
use Rattle.ipam_data.specs.declared.kinds.Kind.{Kind}
use Rattle.ipam_data.specs.declared.kinds.Kind.TheVariants.{Vrfs, Rirs, Roles, Aggregates, Prefixes, Ranges, Addresses}
use Rattle.ipam_data.specs.declared.calls.Filter.{Filter}
use Rattle.ipam_data.specs.declared.replies.Refusal.{Refusal}
use Rattle.rest_query.specs.declared.asked.AggregateTests.{AggregateTests}
use Rattle.rest_query.specs.declared.asked.PrefixTests.{PrefixTests}
use Rattle.rest_query.specs.declared.asked.RangeTests.{RangeTests}
use Rattle.rest_query.specs.declared.asked.AddressTests.{AddressTests}
use Rattle.ipam_data.specs.declared.replies.FieldName.TheVariants.{DnsName, Limit, Offset, VrfId, RoleId}
use Rattle.ipam_json.specs.Outcomes.{field}
use Rattle.rest_query.specs.Query.{value_in}
use Rattle.rest_query.specs.Readings.{HasId, HasIdOrNull, IsIdTest, IsRowTest, IsBlockTest, HasBlock, IsAreaOf, IsAreaTest, available_limit, default_limit, limit_of, IsLimit, IsOffset}
use Rattle.rest_query.specs.Aggregates.{AreAggregateTests, aggregate_filter}
use Rattle.rest_query.specs.Prefixes.{ArePrefixTests, prefix_filter}
use Rattle.rest_query.specs.Ranges.{AreRangeTests, range_filter}
use Rattle.rest_query.specs.Addresses.{AreAddressTests, address_filter, lower}
use Rattle.rest_query.specs.Lists.{IsFilterOf, IsLimitAsked, IsOffsetAsked, listing_of}
use Rattle.rest_query.specs.Laws.{LimitIsOne, ListingIsOne}

one_number : (text : List ℕ) (m n : ℕ) → m < 10000000000 → n < 10000000000 → text ≡ decimal m → text ≡ decimal n → m ≡ n
one_number text m n a b h k = decimal_injective m n (omega arith) (omega arith) (sym h ∙ k)

one_id : (text : List ℕ) (a b : Option (Option (Option ℕ))) → HasId text a → HasId text b → a ≡ b
one_id text None None h k = refl
one_id text None (Some None) h k = absurd k
one_id text None (Some (Some None)) h k = absurd k
one_id text None (Some (Some (Some n))) h k = absurd (h n k.1 k.2 k.0)
one_id text (Some None) b h k = absurd h
one_id text (Some (Some None)) b h k = absurd h
one_id text (Some (Some (Some m))) None h k = absurd (k m h.1 h.2 h.0)
one_id text (Some (Some (Some m))) (Some None) h k = absurd k
one_id text (Some (Some (Some m))) (Some (Some None)) h k = absurd k
one_id text (Some (Some (Some m))) (Some (Some (Some n))) h k =
    ap (λ (x : ℕ). Some (Some (Some x))) (one_number text m n (let l = h.2 in omega arith) (let l = k.2 in omega arith) h.0 k.0)

one_id_or_null : (null : Bool) (text : List ℕ) (a b : Option (Option (Option ℕ))) → HasIdOrNull null text a → HasIdOrNull null text b → a ≡ b
one_id_or_null true text a b h k = h ∙ sym k
one_id_or_null false text a b h k = one_id text a b h k

one_id_test : (text : Option (List ℕ)) (a b : Option (Option (Option ℕ))) → IsIdTest text a → IsIdTest text b → a ≡ b
one_id_test None a b h k = h ∙ sym k
one_id_test (Some text) a b h k = one_id_or_null (bytes_eq text (codes "null")) text a b h k

pub one_row_test : (text : Option (List ℕ)) (a b : Option (Option ℕ)) → IsRowTest text a → IsRowTest text b → a ≡ b
one_row_test None a b h k = h ∙ sym k
one_row_test (Some text) None None h k = refl
one_row_test (Some text) None (Some None) h k = absurd k
one_row_test (Some text) None (Some (Some n)) h k = absurd (h n k.1 k.2 k.0)
one_row_test (Some text) (Some None) b h k = absurd h
one_row_test (Some text) (Some (Some m)) None h k = absurd (k m h.1 h.2 h.0)
one_row_test (Some text) (Some (Some m)) (Some None) h k = absurd k
one_row_test (Some text) (Some (Some m)) (Some (Some n)) h k =
    ap (λ (x : ℕ). Some (Some x)) (one_number text m n (let l = h.2 in omega arith) (let l = k.2 in omega arith) h.0 k.0)

one_block : (text : List ℕ) (a b : Option Cidr) → HasBlock text a → HasBlock text b → a ≡ b
one_block text None None h k = refl
one_block text None (Some b) h k = absurd (h b k)
one_block text (Some a) None h k = absurd (k a h)
one_block text (Some a) (Some b) h k = ap Some (reading_is_one.blocks text a b h k)

one_block_test : (text : Option (List ℕ)) (a b : Option (Option Cidr)) → IsBlockTest text a → IsBlockTest text b → a ≡ b
one_block_test None a b h k = h ∙ sym k
one_block_test (Some text) None None h k = refl
one_block_test (Some text) None (Some None) h k = absurd k
one_block_test (Some text) None (Some (Some b)) h k = absurd (h b k)
one_block_test (Some text) (Some None) b h k = absurd h
one_block_test (Some text) (Some (Some a)) None h k = absurd (k a h)
one_block_test (Some text) (Some (Some a)) (Some None) h k = absurd k
one_block_test (Some text) (Some (Some a)) (Some (Some b)) h k = ap (λ (x : Cidr). Some (Some x)) (reading_is_one.blocks text a b h k)

one_area_of : (block : Option Cidr) (text : List ℕ) (a b : Option (Option Cidr)) → IsAreaOf block text a → IsAreaOf block text b → a ≡ b
one_area_of (Some block) text a b h k = h ∙ sym k
one_area_of None text None None h k = refl
one_area_of None text None (Some None) h k = absurd k
one_area_of None text None (Some (Some b)) h k = absurd (h k.0 k.1)
one_area_of None text (Some None) b h k = absurd h
one_area_of None text (Some (Some a)) None h k = absurd (k h.0 h.1)
one_area_of None text (Some (Some a)) (Some None) h k = absurd k
one_area_of None text (Some (Some a)) (Some (Some b)) h k =
    ap (λ (x : Cidr). Some (Some x)) (h.2 ∙ ap (λ (x : Address). block_at x (width_of x.family)) (reading_is_one.addresses text h.0 k.0 h.1 k.1) ∙ sym k.2)

one_area_test : (text : Option (List ℕ)) (a b : Option (Option Cidr)) → IsAreaTest text a → IsAreaTest text b → a ≡ b
one_area_test None a b h k = h ∙ sym k
one_area_test (Some text) a b h k =
    one_area_of k.0 text a b (subst (λ (block : Option Cidr). IsAreaOf block text a) (one_block text h.0 k.0 h.1 k.1) h.2) k.2

one_limit : (default : ℕ) (text : Option (List ℕ)) (a b : Option ℕ) → IsLimit default text a → IsLimit default text b → a ≡ b
one_limit default None a b h k = h ∙ sym k
one_limit default (Some text) None None h k = refl
one_limit default (Some text) None (Some b) h k = absurd (h k.0 k.2 k.1)
one_limit default (Some text) (Some a) None h k = absurd (k h.0 h.2 h.1)
one_limit default (Some text) (Some a) (Some b) h k = ap Some (h.3 ∙ ap limit_of (one_number text h.0 k.0 h.2 k.2 h.1 k.1) ∙ sym k.3)

one_offset : (text : Option (List ℕ)) (a b : Option ℕ) → IsOffset text a → IsOffset text b → a ≡ b
one_offset None a b h k = h ∙ sym k
one_offset (Some text) None None h k = refl
one_offset (Some text) None (Some b) h k = absurd (h b k.1 k.0)
one_offset (Some text) (Some a) None h k = absurd (k a h.1 h.0)
one_offset (Some text) (Some a) (Some b) h k = ap Some (one_number text a b (let l = h.1 in omega arith) (let l = k.1 in omega arith) h.0 k.0)

one_prefix_filter : (query : List ℕ) (a b : PrefixTests) → ArePrefixTests query a → ArePrefixTests query b → prefix_filter a ≡ prefix_filter b
one_prefix_filter query a b h k =
    let family : a.family ≡ b.family = h.family ∙ sym k.family in
    let vrf_id : a.vrf_id ≡ b.vrf_id = one_id_test (value_in query VrfId) a.vrf_id b.vrf_id h.vrf_id k.vrf_id in
    let status : a.status ≡ b.status = h.status ∙ sym k.status in
    let role_id : a.role_id ≡ b.role_id = one_id_test (value_in query RoleId) a.role_id b.role_id h.role_id k.role_id in
    let prefix : a.prefix ≡ b.prefix = one_block_test _ a.prefix b.prefix h.prefix k.prefix in
    let within : a.within ≡ b.within = one_block_test _ a.within b.within h.within k.within in
    let within_include : a.within_include ≡ b.within_include = one_block_test _ a.within_include b.within_include h.within_include k.within_include in
    let contains : a.contains ≡ b.contains = one_area_test _ a.contains b.contains h.contains k.contains in
    rw (family, vrf_id, status, role_id, prefix, within, within_include, contains) refl

one_aggregate_filter : (query : List ℕ) (a b : AggregateTests) → AreAggregateTests query a → AreAggregateTests query b → aggregate_filter a ≡ aggregate_filter b
one_aggregate_filter query a b h k =
    let family : a.family ≡ b.family = h.family ∙ sym k.family in
    let rir_id : a.rir_id ≡ b.rir_id = one_row_test _ a.rir_id b.rir_id h.rir_id k.rir_id in
    rw (family, rir_id) refl

one_range_filter : (query : List ℕ) (a b : RangeTests) → AreRangeTests query a → AreRangeTests query b → range_filter a ≡ range_filter b
one_range_filter query a b h k =
    let family : a.family ≡ b.family = h.family ∙ sym k.family in
    let vrf_id : a.vrf_id ≡ b.vrf_id = one_id_test (value_in query VrfId) a.vrf_id b.vrf_id h.vrf_id k.vrf_id in
    let status : a.status ≡ b.status = h.status ∙ sym k.status in
    let role_id : a.role_id ≡ b.role_id = one_id_test (value_in query RoleId) a.role_id b.role_id h.role_id k.role_id in
    let contains : a.contains ≡ b.contains = one_area_test _ a.contains b.contains h.contains k.contains in
    rw (family, vrf_id, status, role_id, contains) refl

one_address_filter : (query : List ℕ) (name : Option (List ℕ)) (a b : AddressTests) → AreAddressTests query a → AreAddressTests query b → address_filter a name ≡ address_filter b name
one_address_filter query name a b h k =
    let family : a.family ≡ b.family = h.family ∙ sym k.family in
    let vrf_id : a.vrf_id ≡ b.vrf_id = one_id_test (value_in query VrfId) a.vrf_id b.vrf_id h.vrf_id k.vrf_id in
    let status : a.status ≡ b.status = h.status ∙ sym k.status in
    let role : a.role ≡ b.role = h.role ∙ sym k.role in
    let parent : a.parent ≡ b.parent = one_block_test _ a.parent b.parent h.parent k.parent in
    rw (family, vrf_id, status, role, parent) refl

one_filter : (kind : Kind) (query : List ℕ) (a b : Result Filter Refusal) → IsFilterOf kind query a → IsFilterOf kind query b → a ≡ b
one_filter Vrfs query a b h k = h ∙ sym k
one_filter Rirs query a b h k = h ∙ sym k
one_filter Roles query a b h k = h ∙ sym k
one_filter Aggregates query a b h k = h.2 ∙ one_aggregate_filter query h.0 k.0 h.1 k.1 ∙ sym k.2
one_filter Prefixes query a b h k = h.2 ∙ one_prefix_filter query h.0 k.0 h.1 k.1 ∙ sym k.2
one_filter Ranges query a b h k = h.2 ∙ one_range_filter query h.0 k.0 h.1 k.1 ∙ sym k.2
one_filter Addresses query a b h k = h.2 ∙ one_address_filter query (lower (value_in query DnsName)) h.0 k.0 h.1 k.1 ∙ sym k.2

pub listing_is_one : ListingIsOne
listing_is_one kind query a b h k =
    h.is
    ∙ ap (λ (filter : Result Filter Refusal). listing_of filter h.limit h.offset) (one_filter kind query h.filter k.filter h.filtered k.filtered)
    ∙ ap (λ (limit : Option ℕ). listing_of k.filter limit h.offset) (one_limit default_limit _ h.limit k.limit h.limited k.limited)
    ∙ ap (λ (offset : Option ℕ). listing_of k.filter k.limit offset) (one_offset _ h.offset k.offset h.moved k.moved)
    ∙ sym k.is

pub limit_is_one : LimitIsOne
limit_is_one available query a b h k =
    h.2 ∙ ap (λ (limit : Option ℕ). field Limit limit) (one_limit (available_limit available) (value_in query Limit) h.0 k.0 h.1 k.1) ∙ sym k.2

pub offset_is_one : (query : List ℕ) (a b : Result ℕ Refusal) → IsOffsetAsked query a → IsOffsetAsked query b → a ≡ b
offset_is_one query a b h k = h.2 ∙ ap (λ (offset : Option ℕ). field Offset offset) (one_offset (value_in query Offset) h.0 k.0 h.1 k.1) ∙ sym k.2
