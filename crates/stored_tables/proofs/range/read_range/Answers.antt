-- A range that is read, column by column.
use Rattle.std.proofs.Common.{◌≡◌, ◌∷◌, [], length, ap, arith, sym}
use Rattle.ipam_data.specs.declared.kinds.Kind.TheVariants.{Ranges}
use Rattle.ipam_data.specs.Hosts.{AreEnds}
use Rattle.ipam_data.specs.Texts.{IsDescription}
use Rattle.stored_tables.specs.Stored.{range_texts, flag_text, range_status_text, reference_text, host_text}
use Rattle.stored_tables.specs.Reading.{IsAny, IsWord, IsAbsentOr, ends_texts, row_of}
use Rattle.stored_tables.proofs.ColumnLaws.{unread, was_read, row_texts, column, two_columns, next_column, no_more_columns}
use Rattle.stored_tables.proofs.range.read_range.Goals as goal

pub returns-then-fields-ne8 : goal.returns-then-fields-ne8
unfolding range_texts
returns-then-fields-ne8 c = λ x h e. c.if-fields-ne8.true (sym (ap length (ap row_texts e)))

pub returns-in_default-read_ends : goal.returns-in_default-read_ends
unfolding range_texts
returns-in_default-read_ends c = λ x h e. unread AreEnds ends_texts (c.start-item.result ∷ c.end-item.result ∷ []) c.read_ends.result c.in_default-read_ends.is c.read_ends.ensures
    x.ends h.bounds.ends (two_columns 0 c.start-item.result c.end-item.result (ap row_texts e) c.start-item.is c.end-item.is)

pub returns-in_default-read_reference : goal.returns-in_default-read_reference
unfolding range_texts
returns-in_default-read_reference c = λ x h e. unread (IsAbsentOr IsWord) reference_text c.vrf-item.result c.read_reference.result c.in_default-read_reference.is c.read_reference.ensures
    x.vrf h.vrf (column 2 c.vrf-item.result (ap row_texts e) c.vrf-item.is)

pub returns-in_default-read_range_status : goal.returns-in_default-read_range_status
unfolding range_texts
returns-in_default-read_range_status c = λ x h e. unread IsAny range_status_text c.status-item.result c.read_range_status.result c.in_default-read_range_status.is c.read_range_status.ensures
    x.status tt (column 3 c.status-item.result (ap row_texts e) c.status-item.is)

pub returns-in_default-read_reference-2 : goal.returns-in_default-read_reference-2
unfolding range_texts
returns-in_default-read_reference-2 c = λ x h e. unread (IsAbsentOr IsWord) reference_text c.role-item.result c.read_reference-2.result c.in_default-read_reference-2.is c.read_reference-2.ensures
    x.role h.role (column 4 c.role-item.result (ap row_texts e) c.role-item.is)

pub returns-in_default-read_flag : goal.returns-in_default-read_flag
unfolding range_texts
returns-in_default-read_flag c = λ x h e. unread IsAny flag_text c.mark_utilized-item.result c.read_flag.result c.in_default-read_flag.is c.read_flag.ensures
    x.mark_utilized tt (column 5 c.mark_utilized-item.result (ap row_texts e) c.mark_utilized-item.is)

pub returns-in_default-read_flag-2 : goal.returns-in_default-read_flag-2
unfolding range_texts
returns-in_default-read_flag-2 c = λ x h e. unread IsAny flag_text c.mark_populated-item.result c.read_flag-2.result c.in_default-read_flag-2.is c.read_flag-2.ensures
    x.mark_populated tt (column 6 c.mark_populated-item.result (ap row_texts e) c.mark_populated-item.is)

pub returns-in_default-2 : goal.returns-in_default-2
unfolding range_texts
returns-in_default-2 c = λ x h e. unread IsDescription (λ n. n) c.description-item.result c.in_ok-description.field-0 c.in_default-2.is c.in_ok-description.ensures
    x.description h.bounds.description (column 7 c.description-item.result (ap row_texts e) c.description-item.is)

pub returns : goal.returns
unfolding range_texts
returns c =
    let xs = c.args.fields.now in
    let ends = was_read AreEnds ends_texts (c.start-item.result ∷ c.end-item.result ∷ []) c.read_ends.result c.in-Some.ends c.in-Some.is c.read_ends.ensures in
    let start : host_text c.in-Some.ends.start c.in-Some.ends.len ≡ c.start-item.result = (let both = ends.1 in cc) in
    let end : host_text c.in-Some.ends.end c.in-Some.ends.len ≡ c.end-item.result = (let both = ends.1 in cc) in
    let vrf = was_read (IsAbsentOr IsWord) reference_text c.vrf-item.result c.read_reference.result c.in-Some-read_reference.vrf c.in-Some-read_reference.is c.read_reference.ensures in
    let status = was_read IsAny range_status_text c.status-item.result c.read_range_status.result c.in-Some-read_range_status.status c.in-Some-read_range_status.is c.read_range_status.ensures in
    let role = was_read (IsAbsentOr IsWord) reference_text c.role-item.result c.read_reference-2.result c.in-Some-read_reference-2.role c.in-Some-read_reference-2.is c.read_reference-2.ensures in
    let mark_utilized = was_read IsAny flag_text c.mark_utilized-item.result c.read_flag.result c.in-Some-read_flag.mark_utilized c.in-Some-read_flag.is c.read_flag.ensures in
    let mark_populated = was_read IsAny flag_text c.mark_populated-item.result c.read_flag-2.result c.in-Some-read_flag-2.mark_populated c.in-Some-read_flag-2.is c.read_flag-2.ensures in
    let description = was_read IsDescription (λ n. n) c.description-item.result c.in_ok-description.field-0 c.in-Some-2.description c.in-Some-2.is c.in_ok-description.ensures in (
      record { low = c.requires; high = omega arith; vrf = vrf.0; role = role.0; bounds = record { ends = ends.0; description = description.0 } },
      ap (row_of Ranges c.args.id) (
          next_column xs 0 c.start-item.result (omega arith) c.start-item.is start (
          next_column xs 1 c.end-item.result (omega arith) c.end-item.is end (
          next_column xs 2 c.vrf-item.result (omega arith) c.vrf-item.is vrf.1 (
          next_column xs 3 c.status-item.result (omega arith) c.status-item.is status.1 (
          next_column xs 4 c.role-item.result (omega arith) c.role-item.is role.1 (
          next_column xs 5 c.mark_utilized-item.result (omega arith) c.mark_utilized-item.is mark_utilized.1 (
          next_column xs 6 c.mark_populated-item.result (omega arith) c.mark_populated-item.is mark_populated.1 (
          next_column xs 7 c.description-item.result (omega arith) c.description-item.is description.1 (
          no_more_columns xs 8 (omega arith)))))))))),
    )
