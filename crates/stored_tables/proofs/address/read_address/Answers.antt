-- An address that is read, column by column.
use Rattle.std.proofs.Common.{length, ap, arith, sym}
use Rattle.ipam_data.specs.declared.kinds.Kind.TheVariants.{Addresses}
use Rattle.ipam_data.specs.Hosts.{IsMasked}
use Rattle.ipam_data.specs.Texts.{IsDescription, IsLowered}
use Rattle.stored_tables.specs.Stored.{address_texts, address_role_text, address_status_text, reference_text}
use Rattle.stored_tables.specs.Reading.{IsAny, IsWord, IsAbsentOr, masked_text, row_of}
use Rattle.stored_tables.proofs.ColumnLaws.{unread, was_read, row_texts, column, next_column, no_more_columns}
use Rattle.stored_tables.proofs.address.read_address.Goals as goal

pub returns-then-fields-ne6 : goal.returns-then-fields-ne6
unfolding address_texts
returns-then-fields-ne6 c = λ x h e. c.if-fields-ne6.true (sym (ap length (ap row_texts e)))

pub returns-in_default-read_host_text : goal.returns-in_default-read_host_text
unfolding address_texts
returns-in_default-read_host_text c = λ x h e. unread IsMasked masked_text c.host-item.result c.read_host_text.result c.in_default-read_host_text.is c.read_host_text.ensures
    x.host h.bounds.host (column 0 c.host-item.result (ap row_texts e) c.host-item.is)

pub returns-in_default-read_reference : goal.returns-in_default-read_reference
unfolding address_texts
returns-in_default-read_reference c = λ x h e. unread (IsAbsentOr IsWord) reference_text c.vrf-item.result c.read_reference.result c.in_default-read_reference.is c.read_reference.ensures
    x.vrf h.vrf (column 1 c.vrf-item.result (ap row_texts e) c.vrf-item.is)

pub returns-in_default-read_address_status : goal.returns-in_default-read_address_status
unfolding address_texts
returns-in_default-read_address_status c = λ x h e. unread IsAny address_status_text c.status-item.result c.read_address_status.result c.in_default-read_address_status.is c.read_address_status.ensures
    x.status tt (column 2 c.status-item.result (ap row_texts e) c.status-item.is)

pub returns-in_default-read_address_role : goal.returns-in_default-read_address_role
unfolding address_texts
returns-in_default-read_address_role c = λ x h e. unread IsAny address_role_text c.role-item.result c.read_address_role.result c.in_default-read_address_role.is c.read_address_role.ensures
    x.role tt (column 3 c.role-item.result (ap row_texts e) c.role-item.is)

pub returns-in_default-2 : goal.returns-in_default-2
unfolding address_texts
returns-in_default-2 c = λ x h e. unread IsLowered (λ n. n) c.dns_name-item.result c.in_ok-dns_name.field-0 c.in_default-2.is c.in_ok-dns_name.ensures
    x.dns_name h.bounds.dns_name (column 4 c.dns_name-item.result (ap row_texts e) c.dns_name-item.is)

pub returns-in_default-3 : goal.returns-in_default-3
unfolding address_texts
returns-in_default-3 c = λ x h e. unread IsDescription (λ n. n) c.description-item.result c.in_ok-description.field-0 c.in_default-3.is c.in_ok-description.ensures
    x.description h.bounds.description (column 5 c.description-item.result (ap row_texts e) c.description-item.is)

pub returns : goal.returns
unfolding address_texts
returns c =
    let xs = c.args.fields.now in
    let host = was_read IsMasked masked_text c.host-item.result c.read_host_text.result c.in-Some.host c.in-Some.is c.read_host_text.ensures in
    let vrf = was_read (IsAbsentOr IsWord) reference_text c.vrf-item.result c.read_reference.result c.in-Some-read_reference.vrf c.in-Some-read_reference.is c.read_reference.ensures in
    let status = was_read IsAny address_status_text c.status-item.result c.read_address_status.result c.in-Some-read_address_status.status c.in-Some-read_address_status.is c.read_address_status.ensures in
    let role = was_read IsAny address_role_text c.role-item.result c.read_address_role.result c.in-Some-read_address_role.role c.in-Some-read_address_role.is c.read_address_role.ensures in
    let dns_name = was_read IsLowered (λ n. n) c.dns_name-item.result c.in_ok-dns_name.field-0 c.in-Some-2.dns_name c.in-Some-2.is c.in_ok-dns_name.ensures in
    let description = was_read IsDescription (λ n. n) c.description-item.result c.in_ok-description.field-0 c.in-Some-3.description c.in-Some-3.is c.in_ok-description.ensures in (
      record { low = c.requires; high = omega arith; vrf = vrf.0; bounds = record { host = host.0; dns_name = dns_name.0; description = description.0 } },
      ap (row_of Addresses c.args.id) (
          next_column xs 0 c.host-item.result (omega arith) c.host-item.is host.1 (
          next_column xs 1 c.vrf-item.result (omega arith) c.vrf-item.is vrf.1 (
          next_column xs 2 c.status-item.result (omega arith) c.status-item.is status.1 (
          next_column xs 3 c.role-item.result (omega arith) c.role-item.is role.1 (
          next_column xs 4 c.dns_name-item.result (omega arith) c.dns_name-item.is dns_name.1 (
          next_column xs 5 c.description-item.result (omega arith) c.description-item.is description.1 (
          no_more_columns xs 6 (omega arith)))))))),
    )
