-- An RIR that is read, column by column.
use Rattle.std.proofs.Common.{length, ap, arith, sym}
use Rattle.ipam_data.specs.declared.kinds.Kind.TheVariants.{Rirs}
use Rattle.ipam_data.specs.Texts.{IsName, IsSlug, IsDescription}
use Rattle.stored_tables.specs.Stored.{rir_texts, flag_text}
use Rattle.stored_tables.specs.Reading.{IsAny, row_of}
use Rattle.stored_tables.proofs.ColumnLaws.{unread, was_read, row_texts, column, next_column, no_more_columns}
use Rattle.stored_tables.proofs.rir.read_rir.Goals as goal

pub returns-then-fields-ne4 : goal.returns-then-fields-ne4
unfolding rir_texts
returns-then-fields-ne4 c = λ x h e. c.if-fields-ne4.true (sym (ap length (ap row_texts e)))

pub returns-in_default-2 : goal.returns-in_default-2
unfolding rir_texts
returns-in_default-2 c = λ x h e. unread IsName (λ n. n) c.name-item.result c.in_ok-name.field-0 c.in_default-2.is c.in_ok-name.ensures
    x.name h.bounds.name (column 0 c.name-item.result (ap row_texts e) c.name-item.is)

pub returns-in_default-3 : goal.returns-in_default-3
unfolding rir_texts
returns-in_default-3 c = λ x h e. unread IsSlug (λ n. n) c.slug-item.result c.in_ok-slug.field-0 c.in_default-3.is c.in_ok-slug.ensures
    x.slug h.bounds.slug (column 1 c.slug-item.result (ap row_texts e) c.slug-item.is)

pub returns-in_default-read_flag : goal.returns-in_default-read_flag
unfolding rir_texts
returns-in_default-read_flag c = λ x h e. unread IsAny flag_text c.is_private-item.result c.read_flag.result c.in_default-read_flag.is c.read_flag.ensures
    x.is_private tt (column 2 c.is_private-item.result (ap row_texts e) c.is_private-item.is)

pub returns-in_default-4 : goal.returns-in_default-4
unfolding rir_texts
returns-in_default-4 c = λ x h e. unread IsDescription (λ n. n) c.description-item.result c.in_ok-description.field-0 c.in_default-4.is c.in_ok-description.ensures
    x.description h.bounds.description (column 3 c.description-item.result (ap row_texts e) c.description-item.is)

pub returns : goal.returns
unfolding rir_texts
returns c =
    let xs = c.args.fields.now in
    let name = was_read IsName (λ n. n) c.name-item.result c.in_ok-name.field-0 c.in-Some.name c.in-Some.is c.in_ok-name.ensures in
    let slug = was_read IsSlug (λ n. n) c.slug-item.result c.in_ok-slug.field-0 c.in-Some-2.slug c.in-Some-2.is c.in_ok-slug.ensures in
    let is_private = was_read IsAny flag_text c.is_private-item.result c.read_flag.result c.in-Some-read_flag.is_private c.in-Some-read_flag.is c.read_flag.ensures in
    let description = was_read IsDescription (λ n. n) c.description-item.result c.in_ok-description.field-0 c.in-Some-3.description c.in-Some-3.is c.in_ok-description.ensures in (
      record { low = c.requires; high = omega arith; bounds = record { name = name.0; slug = slug.0; description = description.0 } },
      ap (row_of Rirs c.args.id) (
          next_column xs 0 c.name-item.result (omega arith) c.name-item.is name.1 (
          next_column xs 1 c.slug-item.result (omega arith) c.slug-item.is slug.1 (
          next_column xs 2 c.is_private-item.result (omega arith) c.is_private-item.is is_private.1 (
          next_column xs 3 c.description-item.result (omega arith) c.description-item.is description.1 (
          no_more_columns xs 4 (omega arith)))))),
    )
