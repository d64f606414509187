use Rattle.std.proofs.Common.{rules, ◌∙◌, inl, inr, sym, arith, take, get_or}
use Rattle.std.specs.Char.{is_ascii_digit, digit_value}
use Rattle.std.specs.Str.Parse.{digits_value}
use Rattle.std.proofs.lemmas.Int.Digits.{digits_value_more}
use Rattle.std.proofs.lemmas.List.Folds.{list_all_at, list_all_more}
use Rattle.std.proofs.lemmas.Str.{digit_value_digit}
use Rattle.http_session.proofs.FieldLemmas.{no_length, no_digit, step_value, large_length, small_length, both_true}
use Rattle.http_session.proofs.fields.read_length.Goals as goal
use Rattle.http_session.proofs.fields.read_length.Goals.{then-is_empty-via-then-is_empty, then-is_empty-via-else-is_empty+then-text-ge20}

pub returns-then-is_empty : goal.returns-then-is_empty
returns-then-is_empty c = elim c.then-is_empty.branch [
  | then-is_empty-via-then-is_empty w ↦ sym (no_length c.args.text.now (inl (search rules)))
  | then-is_empty-via-else-is_empty+then-text-ge20 w ↦ sym (no_length c.args.text.now (inr (omega arith)))
]

pub returns-then-not-is_ascii_digit : goal.returns-then-not-is_ascii_digit
returns-then-not-is_ascii_digit c = sym (no_digit c.args.text.now (list_all_at is_ascii_digit c.args.text.now c.loop-b.b-index 0 c.loop-b-test.true (search rules)))

pub loop-b-preserved : goal.loop-b-preserved
loop-b-preserved c =
    let digit = digit_value_digit (get_or c.args.text.now c.loop-b.b-index 0) (search rules) in
    record {
      value = step_value (digits_value 10 (take c.loop-b.b-index c.args.text.now)) c.loop-b.n (digit_value (get_or c.args.text.now c.loop-b.b-index 0)) (get_or c.args.text.now c.loop-b.b-index 0) c.from.result _ _
          c.loop-b.invariant.value c.from.ensures digit c.min-n.ensures (digits_value_more 10 c.args.text.now c.loop-b.b-index c.loop-b-test.true);
      digits = list_all_more is_ascii_digit c.args.text.now c.loop-b.b-index 0 c.loop-b-test.true ∙ both_true _ _ c.loop-b.invariant.digits (sym c.is_ascii_digit.ensures.value ∙ c.if-not-is_ascii_digit.false);
    }

pub returns-then-n-gt-BODY_LIMIT : goal.returns-then-n-gt-BODY_LIMIT
returns-then-n-gt-BODY_LIMIT c = sym (large_length c.args.text.now c.loop-b.b-index c.loop-b.n (search rules) c.if-text-ge20.false c.loop-b-test.false c.loop-b.invariant.digits c.loop-b.invariant.value c.if-n-gt-BODY_LIMIT.true)

pub returns : goal.returns
returns c = sym (small_length c.args.text.now c.loop-b.b-index c.loop-b.n (search rules) c.if-text-ge20.false c.loop-b-test.false c.loop-b.invariant.digits c.loop-b.invariant.value c.if-n-gt-BODY_LIMIT.false)
