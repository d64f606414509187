-- An aggregate that is read, column by column.
use Rattle.std.proofs.Common.{length, ap, arith, decimal, sym}
use Rattle.inet_num.specs.Net.{IsBlock}
use Rattle.inet_num.specs.Text.{block_text_of}
use Rattle.ipam_data.specs.declared.kinds.Kind.TheVariants.{Aggregates}
use Rattle.ipam_data.specs.Texts.{IsDescription}
use Rattle.stored_tables.specs.Stored.{aggregate_texts}
use Rattle.stored_tables.specs.Reading.{IsWord, row_of}
use Rattle.stored_tables.proofs.ColumnLaws.{unread, was_read, row_texts, column, next_column, no_more_columns}
use Rattle.stored_tables.proofs.aggregate.read_aggregate.Goals as goal

pub returns-then-fields-ne3 : goal.returns-then-fields-ne3
unfolding aggregate_texts
returns-then-fields-ne3 c = λ x h e. c.if-fields-ne3.true (sym (ap length (ap row_texts e)))

pub returns-in_default-read_block_text : goal.returns-in_default-read_block_text
unfolding aggregate_texts
returns-in_default-read_block_text c = λ x h e. unread IsBlock block_text_of c.block-item.result c.read_block_text.result c.in_default-read_block_text.is c.read_block_text.ensures
    x.block h.bounds.block (column 0 c.block-item.result (ap row_texts e) c.block-item.is)

pub returns-in_default-read_number : goal.returns-in_default-read_number
unfolding aggregate_texts
returns-in_default-read_number c = λ x h e. unread IsWord decimal c.rir-item.result c.read_number.result c.in_default-read_number.is c.read_number.ensures
    x.rir h.rir (column 1 c.rir-item.result (ap row_texts e) c.rir-item.is)

pub returns-in_default-2 : goal.returns-in_default-2
unfolding aggregate_texts
returns-in_default-2 c = λ x h e. unread IsDescription (λ n. n) c.description-item.result c.in_ok-description.field-0 c.in_default-2.is c.in_ok-description.ensures
    x.description h.bounds.description (column 2 c.description-item.result (ap row_texts e) c.description-item.is)

pub returns : goal.returns
unfolding aggregate_texts
returns c =
    let xs = c.args.fields.now in
    let block = was_read IsBlock block_text_of c.block-item.result c.read_block_text.result c.in-Some.block c.in-Some.is c.read_block_text.ensures in
    let rir = was_read IsWord decimal c.rir-item.result c.read_number.result c.in-Some-read_number.rir c.in-Some-read_number.is c.read_number.ensures in
    let description = was_read IsDescription (λ n. n) c.description-item.result c.in_ok-description.field-0 c.in-Some-2.description c.in-Some-2.is c.in_ok-description.ensures in (
      record { low = c.requires; high = omega arith; rir = rir.0; bounds = record { block = block.0; description = description.0 } },
      ap (row_of Aggregates c.args.id) (
          next_column xs 0 c.block-item.result (omega arith) c.block-item.is block.1 (
          next_column xs 1 c.rir-item.result (omega arith) c.rir-item.is rir.1 (
          next_column xs 2 c.description-item.result (omega arith) c.description-item.is description.1 (
          no_more_columns xs 3 (omega arith))))),
    )
