-- Rows that are stored alike are one, kind by kind.
use Rattle.std.proofs.Common.{◌≡◌, ◌∷◌, [], ap, refl, decimal}
use Rattle.ipam_data.specs.declared.vrf.Vrf.{Vrf}
use Rattle.stored_tables.specs.declared.tables.Row.{Row}
use Rattle.stored_tables.specs.Stored.{stored_vrf, vrf_texts, flag_text, optional_text, stored_rir, rir_texts, stored_role, role_texts, stored_aggregate, aggregate_texts, stored_prefix, prefix_texts, prefix_status_text, reference_text, stored_range, range_texts, range_status_text, host_text, stored_address, address_texts, address_role_text, address_status_text}
use Rattle.stored_tables.specs.Reading.{IsTypedVrf, IsTypedRir, IsTypedRole, IsTypedAggregate, IsTypedPrefix, IsTypedRange, masked_text, IsTypedAddress}
use Rattle.stored_tables.proofs.ColumnLaws.{row_texts, one_distinguisher, one_flag, one_weight, one_block, one_number, one_prefix_status, one_reference, one_ends, one_range_status, one_address_role, one_address_status, one_host}
use Rattle.ipam_data.specs.declared.rir.Rir.{Rir}
use Rattle.ipam_data.specs.declared.role.Role.{Role}
use Rattle.inet_num.specs.Text.{block_text_of}
use Rattle.ipam_data.specs.declared.aggregate.Aggregate.{Aggregate}
use Rattle.ipam_data.specs.declared.prefix.Prefix.{Prefix}
use Rattle.ipam_data.specs.declared.range.IpRange.{IpRange}
use Rattle.ipam_data.specs.declared.address.IpAddress.{IpAddress}

pub one_vrf : (a b : Vrf) → IsTypedVrf a → IsTypedVrf b → stored_vrf a ≡ stored_vrf b → a ≡ b
unfolding vrf_texts
one_vrf a b h k e =
    let id : a.id ≡ b.id = ap (λ (r : Row). r.id) e in
    let texts : a.name ∷ optional_text a.rd ∷ flag_text a.enforce_unique ∷ a.description ∷ [] ≡ b.name ∷ optional_text b.rd ∷ flag_text b.enforce_unique ∷ b.description ∷ [] = ap row_texts e in
    let name : a.name ≡ b.name = cc in
    let rd : a.rd ≡ b.rd = one_distinguisher a.rd b.rd h.bounds.rd k.bounds.rd cc in
    let enforce_unique : a.enforce_unique ≡ b.enforce_unique = one_flag a.enforce_unique b.enforce_unique cc in
    let description : a.description ≡ b.description = cc in
    let same : (let row : Vrf = record { id = a.id; name = a.name; rd = a.rd; enforce_unique = a.enforce_unique; description = a.description } in row) ≡ (let row : Vrf = record { id = b.id; name = b.name; rd = b.rd; enforce_unique = b.enforce_unique; description = b.description } in row) = rw (id, name, rd, enforce_unique, description) refl in
    same

pub one_rir : (a b : Rir) → IsTypedRir a → IsTypedRir b → stored_rir a ≡ stored_rir b → a ≡ b
unfolding rir_texts
one_rir a b h k e =
    let id : a.id ≡ b.id = ap (λ (r : Row). r.id) e in
    let texts : a.name ∷ a.slug ∷ flag_text a.is_private ∷ a.description ∷ [] ≡ b.name ∷ b.slug ∷ flag_text b.is_private ∷ b.description ∷ [] = ap row_texts e in
    let name : a.name ≡ b.name = cc in
    let slug : a.slug ≡ b.slug = cc in
    let is_private : a.is_private ≡ b.is_private = one_flag a.is_private b.is_private cc in
    let description : a.description ≡ b.description = cc in
    let same : (let row : Rir = record { id = a.id; name = a.name; slug = a.slug; is_private = a.is_private; description = a.description } in row) ≡ (let row : Rir = record { id = b.id; name = b.name; slug = b.slug; is_private = b.is_private; description = b.description } in row) = rw (id, name, slug, is_private, description) refl in
    same

pub one_role : (a b : Role) → IsTypedRole a → IsTypedRole b → stored_role a ≡ stored_role b → a ≡ b
unfolding role_texts
one_role a b h k e =
    let id : a.id ≡ b.id = ap (λ (r : Row). r.id) e in
    let texts : a.name ∷ a.slug ∷ decimal a.weight ∷ a.description ∷ [] ≡ b.name ∷ b.slug ∷ decimal b.weight ∷ b.description ∷ [] = ap row_texts e in
    let name : a.name ≡ b.name = cc in
    let slug : a.slug ≡ b.slug = cc in
    let weight : a.weight ≡ b.weight = one_weight a.weight b.weight h.bounds.weight k.bounds.weight cc in
    let description : a.description ≡ b.description = cc in
    let same : (let row : Role = record { id = a.id; name = a.name; slug = a.slug; weight = a.weight; description = a.description } in row) ≡ (let row : Role = record { id = b.id; name = b.name; slug = b.slug; weight = b.weight; description = b.description } in row) = rw (id, name, slug, weight, description) refl in
    same

pub one_aggregate : (a b : Aggregate) → IsTypedAggregate a → IsTypedAggregate b → stored_aggregate a ≡ stored_aggregate b → a ≡ b
unfolding aggregate_texts
one_aggregate a b h k e =
    let id : a.id ≡ b.id = ap (λ (r : Row). r.id) e in
    let texts : block_text_of a.block ∷ decimal a.rir ∷ a.description ∷ [] ≡ block_text_of b.block ∷ decimal b.rir ∷ b.description ∷ [] = ap row_texts e in
    let block : a.block ≡ b.block = one_block a.block b.block h.bounds.block k.bounds.block cc in
    let rir : a.rir ≡ b.rir = one_number a.rir b.rir h.rir k.rir cc in
    let description : a.description ≡ b.description = cc in
    let same : (let row : Aggregate = record { id = a.id; block = a.block; rir = a.rir; description = a.description } in row) ≡ (let row : Aggregate = record { id = b.id; block = b.block; rir = b.rir; description = b.description } in row) = rw (id, block, rir, description) refl in
    same

pub one_prefix : (a b : Prefix) → IsTypedPrefix a → IsTypedPrefix b → stored_prefix a ≡ stored_prefix b → a ≡ b
unfolding prefix_texts
one_prefix a b h k e =
    let id : a.id ≡ b.id = ap (λ (r : Row). r.id) e in
    let texts : block_text_of a.block ∷ reference_text a.vrf ∷ prefix_status_text a.status ∷ reference_text a.role ∷ flag_text a.is_pool ∷ flag_text a.mark_utilized ∷ a.description ∷ [] ≡ block_text_of b.block ∷ reference_text b.vrf ∷ prefix_status_text b.status ∷ reference_text b.role ∷ flag_text b.is_pool ∷ flag_text b.mark_utilized ∷ b.description ∷ [] = ap row_texts e in
    let block : a.block ≡ b.block = one_block a.block b.block h.bounds.block k.bounds.block cc in
    let vrf : a.vrf ≡ b.vrf = one_reference a.vrf b.vrf h.vrf k.vrf cc in
    let status : a.status ≡ b.status = one_prefix_status a.status b.status cc in
    let role : a.role ≡ b.role = one_reference a.role b.role h.role k.role cc in
    let is_pool : a.is_pool ≡ b.is_pool = one_flag a.is_pool b.is_pool cc in
    let mark_utilized : a.mark_utilized ≡ b.mark_utilized = one_flag a.mark_utilized b.mark_utilized cc in
    let description : a.description ≡ b.description = cc in
    let same : (let row : Prefix = record { id = a.id; block = a.block; vrf = a.vrf; status = a.status; role = a.role; is_pool = a.is_pool; mark_utilized = a.mark_utilized; description = a.description } in row) ≡ (let row : Prefix = record { id = b.id; block = b.block; vrf = b.vrf; status = b.status; role = b.role; is_pool = b.is_pool; mark_utilized = b.mark_utilized; description = b.description } in row) = rw (id, block, vrf, status, role, is_pool, mark_utilized, description) refl in
    same

pub one_range : (a b : IpRange) → IsTypedRange a → IsTypedRange b → stored_range a ≡ stored_range b → a ≡ b
unfolding range_texts
one_range a b h k e =
    let id : a.id ≡ b.id = ap (λ (r : Row). r.id) e in
    let texts : host_text a.ends.start a.ends.len ∷ host_text a.ends.end a.ends.len ∷ reference_text a.vrf ∷ range_status_text a.status ∷ reference_text a.role ∷ flag_text a.mark_utilized ∷ flag_text a.mark_populated ∷ a.description ∷ [] ≡ host_text b.ends.start b.ends.len ∷ host_text b.ends.end b.ends.len ∷ reference_text b.vrf ∷ range_status_text b.status ∷ reference_text b.role ∷ flag_text b.mark_utilized ∷ flag_text b.mark_populated ∷ b.description ∷ [] = ap row_texts e in
    let starts : host_text a.ends.start a.ends.len ≡ host_text b.ends.start b.ends.len = cc in
    let ends_too : host_text a.ends.end a.ends.len ≡ host_text b.ends.end b.ends.len = cc in
    let ends : a.ends ≡ b.ends = one_ends a.ends b.ends h.bounds.ends k.bounds.ends cc in
    let vrf : a.vrf ≡ b.vrf = one_reference a.vrf b.vrf h.vrf k.vrf cc in
    let status : a.status ≡ b.status = one_range_status a.status b.status cc in
    let role : a.role ≡ b.role = one_reference a.role b.role h.role k.role cc in
    let mark_utilized : a.mark_utilized ≡ b.mark_utilized = one_flag a.mark_utilized b.mark_utilized cc in
    let mark_populated : a.mark_populated ≡ b.mark_populated = one_flag a.mark_populated b.mark_populated cc in
    let description : a.description ≡ b.description = cc in
    let same : (let row : IpRange = record { id = a.id; ends = a.ends; vrf = a.vrf; status = a.status; role = a.role; mark_utilized = a.mark_utilized; mark_populated = a.mark_populated; description = a.description } in row) ≡ (let row : IpRange = record { id = b.id; ends = b.ends; vrf = b.vrf; status = b.status; role = b.role; mark_utilized = b.mark_utilized; mark_populated = b.mark_populated; description = b.description } in row) = rw (id, ends, vrf, status, role, mark_utilized, mark_populated, description) refl in
    same

pub one_address : (a b : IpAddress) → IsTypedAddress a → IsTypedAddress b → stored_address a ≡ stored_address b → a ≡ b
unfolding address_texts
one_address a b h k e =
    let id : a.id ≡ b.id = ap (λ (r : Row). r.id) e in
    let texts : masked_text a.host ∷ reference_text a.vrf ∷ address_status_text a.status ∷ address_role_text a.role ∷ a.dns_name ∷ a.description ∷ [] ≡ masked_text b.host ∷ reference_text b.vrf ∷ address_status_text b.status ∷ address_role_text b.role ∷ b.dns_name ∷ b.description ∷ [] = ap row_texts e in
    let host : a.host ≡ b.host = one_host a.host b.host h.bounds.host k.bounds.host cc in
    let vrf : a.vrf ≡ b.vrf = one_reference a.vrf b.vrf h.vrf k.vrf cc in
    let status : a.status ≡ b.status = one_address_status a.status b.status cc in
    let role : a.role ≡ b.role = one_address_role a.role b.role cc in
    let dns_name : a.dns_name ≡ b.dns_name = cc in
    let description : a.description ≡ b.description = cc in
    let same : (let row : IpAddress = record { id = a.id; host = a.host; vrf = a.vrf; status = a.status; role = a.role; dns_name = a.dns_name; description = a.description } in row) ≡ (let row : IpAddress = record { id = b.id; host = b.host; vrf = b.vrf; status = b.status; role = b.role; dns_name = b.dns_name; description = b.description } in row) = rw (id, host, vrf, status, role, dns_name, description) refl in
    same
