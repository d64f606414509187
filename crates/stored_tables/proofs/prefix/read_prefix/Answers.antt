-- A prefix that is read, column by column.
use Rattle.std.proofs.Common.{length, ap, arith, sym}
use Rattle.inet_num.specs.Net.{IsBlock}
use Rattle.inet_num.specs.Text.{block_text_of}
use Rattle.ipam_data.specs.declared.kinds.Kind.TheVariants.{Prefixes}
use Rattle.ipam_data.specs.Texts.{IsDescription}
use Rattle.stored_tables.specs.Stored.{prefix_texts, flag_text, prefix_status_text, reference_text}
use Rattle.stored_tables.specs.Reading.{IsAny, IsWord, IsAbsentOr, row_of}
use Rattle.stored_tables.proofs.ColumnLaws.{unread, was_read, row_texts, column, next_column, no_more_columns}
use Rattle.stored_tables.proofs.prefix.read_prefix.Goals as goal

pub returns-then-fields-ne7 : goal.returns-then-fields-ne7
unfolding prefix_texts
returns-then-fields-ne7 c = λ x h e. c.if-fields-ne7.true (sym (ap length (ap row_texts e)))

pub returns-in_default-read_block_text : goal.returns-in_default-read_block_text
unfolding prefix_texts
returns-in_default-read_block_text c = λ x h e. unread IsBlock block_text_of c.block-item.result c.read_block_text.result c.in_default-read_block_text.is c.read_block_text.ensures
    x.block h.bounds.block (column 0 c.block-item.result (ap row_texts e) c.block-item.is)

pub returns-in_default-read_reference : goal.returns-in_default-read_reference
unfolding prefix_texts
returns-in_default-read_reference c = λ x h e. unread (IsAbsentOr IsWord) reference_text c.vrf-item.result c.read_reference.result c.in_default-read_reference.is c.read_reference.ensures
    x.vrf h.vrf (column 1 c.vrf-item.result (ap row_texts e) c.vrf-item.is)

pub returns-in_default-read_prefix_status : goal.returns-in_default-read_prefix_status
unfolding prefix_texts
returns-in_default-read_prefix_status c = λ x h e. unread IsAny prefix_status_text c.status-item.result c.read_prefix_status.result c.in_default-read_prefix_status.is c.read_prefix_status.ensures
    x.status tt (column 2 c.status-item.result (ap row_texts e) c.status-item.is)

pub returns-in_default-read_reference-2 : goal.returns-in_default-read_reference-2
unfolding prefix_texts
returns-in_default-read_reference-2 c = λ x h e. unread (IsAbsentOr IsWord) reference_text c.role-item.result c.read_reference-2.result c.in_default-read_reference-2.is c.read_reference-2.ensures
    x.role h.role (column 3 c.role-item.result (ap row_texts e) c.role-item.is)

pub returns-in_default-read_flag : goal.returns-in_default-read_flag
unfolding prefix_texts
returns-in_default-read_flag c = λ x h e. unread IsAny flag_text c.is_pool-item.result c.read_flag.result c.in_default-read_flag.is c.read_flag.ensures
    x.is_pool tt (column 4 c.is_pool-item.result (ap row_texts e) c.is_pool-item.is)

pub returns-in_default-read_flag-2 : goal.returns-in_default-read_flag-2
unfolding prefix_texts
returns-in_default-read_flag-2 c = λ x h e. unread IsAny flag_text c.mark_utilized-item.result c.read_flag-2.result c.in_default-read_flag-2.is c.read_flag-2.ensures
    x.mark_utilized tt (column 5 c.mark_utilized-item.result (ap row_texts e) c.mark_utilized-item.is)

pub returns-in_default-2 : goal.returns-in_default-2
unfolding prefix_texts
returns-in_default-2 c = λ x h e. unread IsDescription (λ n. n) c.description-item.result c.in_ok-description.field-0 c.in_default-2.is c.in_ok-description.ensures
    x.description h.bounds.description (column 6 c.description-item.result (ap row_texts e) c.description-item.is)

pub returns : goal.returns
unfolding prefix_texts
returns c =
    let xs = c.args.fields.now in
    let block = was_read IsBlock block_text_of c.block-item.result c.read_block_text.result c.in-Some.block c.in-Some.is c.read_block_text.ensures in
    let vrf = was_read (IsAbsentOr IsWord) reference_text c.vrf-item.result c.read_reference.result c.in-Some-read_reference.vrf c.in-Some-read_reference.is c.read_reference.ensures in
    let status = was_read IsAny prefix_status_text c.status-item.result c.read_prefix_status.result c.in-Some-read_prefix_status.status c.in-Some-read_prefix_status.is c.read_prefix_status.ensures in
    let role = was_read (IsAbsentOr IsWord) reference_text c.role-item.result c.read_reference-2.result c.in-Some-read_reference-2.role c.in-Some-read_reference-2.is c.read_reference-2.ensures in
    let is_pool = was_read IsAny flag_text c.is_pool-item.result c.read_flag.result c.in-Some-read_flag.is_pool c.in-Some-read_flag.is c.read_flag.ensures in
    let mark_utilized = was_read IsAny flag_text c.mark_utilized-item.result c.read_flag-2.result c.in-Some-read_flag-2.mark_utilized c.in-Some-read_flag-2.is c.read_flag-2.ensures in
    let description = was_read IsDescription (λ n. n) c.description-item.result c.in_ok-description.field-0 c.in-Some-2.description c.in-Some-2.is c.in_ok-description.ensures in (
      record { low = c.requires; high = omega arith; vrf = vrf.0; role = role.0; bounds = record { block = block.0; description = description.0 } },
      ap (row_of Prefixes c.args.id) (
          next_column xs 0 c.block-item.result (omega arith) c.block-item.is block.1 (
          next_column xs 1 c.vrf-item.result (omega arith) c.vrf-item.is vrf.1 (
          next_column xs 2 c.status-item.result (omega arith) c.status-item.is status.1 (
          next_column xs 3 c.role-item.result (omega arith) c.role-item.is role.1 (
          next_column xs 4 c.is_pool-item.result (omega arith) c.is_pool-item.is is_pool.1 (
          next_column xs 5 c.mark_utilized-item.result (omega arith) c.mark_utilized-item.is mark_utilized.1 (
          next_column xs 6 c.description-item.result (omega arith) c.description-item.is description.1 (
          no_more_columns xs 7 (omega arith))))))))),
    )
