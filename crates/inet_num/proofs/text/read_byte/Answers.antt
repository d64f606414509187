use Rattle.std.proofs.Common.{◌≡◌, ℕ, ◌+◌, ◌*◌, ◌<◌, sym, ◌∙◌, ap, arith, subst, ◌≢◌, take, length, get_or, decimal}
use Rattle.std.specs.Char.{digit_value}
use Rattle.std.specs.Str.Parse.{AllDigits, digits_value}
use Rattle.std.proofs.lemmas.Int.Digits.{digits_more, digits_value_more}
use Rattle.inet_num.proofs.Decimals.{decimal_is, decimal_of, digit_at}
use Rattle.std.proofs.lemmas.List.{take_all}
use Rattle.inet_num.proofs.text.read_byte.Goals.{then-text-gt1+else-text-eq48, else-text-gt1}
use Rattle.inet_num.proofs.text.read_byte.Goals as goal

pub returns-then-text-lt1-clause-none : goal.returns-then-text-lt1-clause-none
returns-then-text-lt1-clause-none c = λ n small e. let s = (decimal_is _ n small e).some in omega arith

pub returns-then-text-gt3-clause-none : goal.returns-then-text-gt3-clause-none
returns-then-text-gt3-clause-none c = λ n small e. let s = (decimal_is _ n small e).few in omega arith

pub returns-then-text-eq48-clause-none : goal.returns-then-text-eq48-clause-none
returns-then-text-eq48-clause-none c = λ n small e. (decimal_is _ n small e).lead c.if-text-gt1.true c.if-text-eq48.true

pub returns-in_default-clause-none : goal.returns-in_default-clause-none
returns-in_default-clause-none c = λ n small e.
    let low = digit_at c.args.text.now c.digits.byte-index (decimal_is _ n small e).digits c.digits-test.true in
    c.in_default.ensures.value (subst (λ (x : ℕ). digit_value x < 10) (sym c.from.ensures) low)

pub digits-preserved : goal.digits-preserved
digits-preserved c = record {
  all = digits_more 10 c.args.text.now c.digits.byte-index c.digits-test.true c.digits.invariant.all (subst (λ (x : ℕ). digit_value x < 10) c.from.ensures c.in-Some.ensures.value.0);
  value = (let v = c.digits.invariant.value in let d = c.in-Some.ensures.value.1 ∙ ap digit_value c.from.ensures in ap (λ (n : ℕ). n * 10 + c.in-Some.digit) v ∙ ap (λ (n : ℕ). digits_value 10 (take c.digits.byte-index c.args.text.now) * 10 + n) d) ∙ sym (digits_value_more 10 c.args.text.now c.digits.byte-index c.digits-test.true);
}

pub returns-then-value-gt255-clause-none : goal.returns-then-value-gt255-clause-none
returns-then-value-gt255-clause-none c = λ n small e.
    let s = (decimal_is _ n small e).value in
    let all = take_all c.digits.byte-index c.args.text.now c.digits-test.false in
    let v : c.digits.value ≡ n = c.digits.invariant.value ∙ ap (digits_value 10) all ∙ s in
    omega arith

pub returns-clause-some : goal.returns-clause-some
returns-clause-some c =
    let all = take_all c.digits.byte-index c.args.text.now c.digits-test.false in
    let digits = subst (AllDigits 10) all c.digits.invariant.all in
    let v : c.digits.value ≡ digits_value 10 c.args.text.now = c.digits.invariant.value ∙ ap (digits_value 10) all in
    let lead : 1 < length c.args.text.now → get_or c.args.text.now 0 0 ≢ 48 = elim c.if-text-gt1.branch [
      | then-text-gt1+else-text-eq48 w ↦ λ _. w.if-text-eq48.false
      | else-text-gt1 w ↦ λ long. absurd (omega arith)
    ] in
    decimal_of c.args.text.now digits c.if-text-lt1.false c.if-text-gt3.false lead ∙ ap decimal (sym v)
