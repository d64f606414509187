-- A VRF that is read, column by column.
use Rattle.std.proofs.Common.{◌≡◌, ℕ, length, ap, List, Option, Some, None, arith, sym, refl, subst}
use Rattle.ipam_data.specs.declared.vrf.Vrf.{Vrf}
use Rattle.ipam_data.specs.declared.kinds.Kind.TheVariants.{Vrfs}
use Rattle.ipam_data.specs.Texts.{IsName, IsDistinguisher, IsDescription}
use Rattle.stored_tables.specs.Stored.{vrf_texts, flag_text, optional_text}
use Rattle.stored_tables.specs.Reading.{IsAny, IsAbsentOr, IsTypedVrf, row_of}
use Rattle.stored_tables.proofs.ColumnLaws.{unread, was_read, row_texts, column, next_column, no_more_columns}
use Rattle.stored_tables.proofs.vrf.read_vrf.Goals as goal

distinguished : (x : Vrf) → IsTypedVrf x → (o : Option (List ℕ)) → x.rd ≡ o → IsAbsentOr IsDistinguisher o
distinguished x h None e = tt
distinguished x h (Some text) e = h.bounds.rd text e

absent_is : (o : Option (List ℕ)) → IsAbsentOr IsDistinguisher o → (t : List ℕ) → o ≡ Some t → IsDistinguisher t
absent_is None h t e = cc
absent_is (Some s) h t e = subst IsDistinguisher (let q : s ≡ t = cc in q) h

pub returns-then-fields-ne4 : goal.returns-then-fields-ne4
unfolding vrf_texts
returns-then-fields-ne4 c = λ x h e. c.if-fields-ne4.true (sym (ap length (ap row_texts e)))

pub returns-in_default-2 : goal.returns-in_default-2
unfolding vrf_texts
returns-in_default-2 c = λ x h e. unread IsName (λ n. n) c.name-item.result c.in_ok-name.field-0 c.in_default-2.is c.in_ok-name.ensures
    x.name h.bounds.name (column 0 c.name-item.result (ap row_texts e) c.name-item.is)

pub returns-in_default-3 : goal.returns-in_default-3
unfolding vrf_texts
returns-in_default-3 c = λ x h e. unread (IsAbsentOr IsDistinguisher) optional_text c.rd-item.result c.in_ok-rd.field-0 c.in_default-3.is c.in_ok-rd.ensures
    x.rd (distinguished x h x.rd refl) (column 1 c.rd-item.result (ap row_texts e) c.rd-item.is)

pub returns-in_default-read_flag : goal.returns-in_default-read_flag
unfolding vrf_texts
returns-in_default-read_flag c = λ x h e. unread IsAny flag_text c.enforce_unique-item.result c.read_flag.result c.in_default-read_flag.is c.read_flag.ensures
    x.enforce_unique tt (column 2 c.enforce_unique-item.result (ap row_texts e) c.enforce_unique-item.is)

pub returns-in_default-4 : goal.returns-in_default-4
unfolding vrf_texts
returns-in_default-4 c = λ x h e. unread IsDescription (λ n. n) c.description-item.result c.in_ok-description.field-0 c.in_default-4.is c.in_ok-description.ensures
    x.description h.bounds.description (column 3 c.description-item.result (ap row_texts e) c.description-item.is)

pub returns : goal.returns
unfolding vrf_texts
returns c =
    let xs = c.args.fields.now in
    let name = was_read IsName (λ n. n) c.name-item.result c.in_ok-name.field-0 c.in-Some.name c.in-Some.is c.in_ok-name.ensures in
    let rd = was_read (IsAbsentOr IsDistinguisher) optional_text c.rd-item.result c.in_ok-rd.field-0 c.in-Some-2.rd c.in-Some-2.is c.in_ok-rd.ensures in
    let enforce_unique = was_read IsAny flag_text c.enforce_unique-item.result c.read_flag.result c.in-Some-read_flag.enforce_unique c.in-Some-read_flag.is c.read_flag.ensures in
    let description = was_read IsDescription (λ n. n) c.description-item.result c.in_ok-description.field-0 c.in-Some-3.description c.in-Some-3.is c.in_ok-description.ensures in (
      record { low = c.requires; high = omega arith; bounds = record { name = name.0; rd = λ t e. absent_is c.in-Some-2.rd rd.0 t e; description = description.0 } },
      ap (row_of Vrfs c.args.id) (
          next_column xs 0 c.name-item.result (omega arith) c.name-item.is name.1 (
          next_column xs 1 c.rd-item.result (omega arith) c.rd-item.is rd.1 (
          next_column xs 2 c.enforce_unique-item.result (omega arith) c.enforce_unique-item.is enforce_unique.1 (
          next_column xs 3 c.description-item.result (omega arith) c.description-item.is description.1 (
          no_more_columns xs 4 (omega arith)))))),
    )
