use Rattle.std.proofs.Common.{◌≡◌, ℕ, ◌+◌, ◌∷◌, [], List, length, Option, inr, true, refl, sym, ◌∙◌, subst, arith, ◌==◌}
use Rattle.std.specs.Option.{IfSome, IfNone}
use Rattle.std.proofs.lemmas.Bool.Decides.{nat_tests}
use Rattle.std.specs.Str.Lines.{lines}
use Rattle.reverse_zone.specs.declared.record.Pair.{Pair}
use Rattle.reverse_zone.specs.Records.{IsRecordOf}
use Rattle.reverse_zone.proofs.Pairings.{HasRead, begin, read_pair, skip_line, refuse_line, read_end}
use Rattle.reverse_zone.proofs.input.read_ptrs.Goals as goal

nothing_left : (text : List ℕ) → (length text == 0) ≡ true → lines text ≡ []
nothing_left [] e = refl
nothing_left (c ∷ text) e = absurd (grind (arith, nat_tests))

pub loop-rest-init : goal.loop-rest-init
loop-rest-init c = record { read = begin (lines c.args.bytes.now) c.new-pairs.result.items c.new-pairs.ensures.items; few = omega arith }

pub returns-in_default-clause-err : goal.returns-in_default-clause-err
returns-in_default-clause-err c =
    let line = c.first_line.result.0.now in
    let none : (pair : Pair) → ¬ IsRecordOf line pair = subst (λ (found : Option Pair). IfNone found ((pair : Pair) → ¬ IsRecordOf line pair)) c.in_default.is c.in_ok-pair.ensures.none in
    inr (
      c.loop-rest.number + 1,
      refl,
      refuse_line (lines c.args.bytes.now) (lines c.loop-rest.rest.now) (lines c.first_line.result.1.now) line c.loop-rest.number c.loop-rest.pairs.items
          c.first_line.ensures.line (sym c.is_skipped_line.ensures ∙ c.if-not-is_skipped_line.true) none c.loop-rest.invariant.read,
    )

pub loop-rest-preserved-in_ok-push : goal.loop-rest-preserved-in_ok-push
loop-rest-preserved-in_ok-push c =
    let line = c.first_line.result.0.now in
    let pair = c.in-Some.pair in
    let one : IsRecordOf line pair = subst (λ (found : Option Pair). IfSome found (IsRecordOf line)) c.in-Some.is c.in_ok-pair.ensures.some in
    let read = read_pair (lines c.args.bytes.now) (lines c.loop-rest.rest.now) (lines c.first_line.result.1.now) line c.loop-rest.number c.loop-rest.pairs.items pair
    c.first_line.ensures.line (sym c.is_skipped_line.ensures ∙ c.if-not-is_skipped_line.true) one c.loop-rest.invariant.read in
    record {
      read = subst (λ (pairs : List Pair). HasRead (lines c.args.bytes.now) (lines c.first_line.result.1.now) (c.loop-rest.number + 1) pairs) (sym c.in_ok-push.ensures.items) read;
      few = (let few = c.loop-rest.invariant.few in let shorter = c.first_line.ensures.shorter in omega arith);
    }

pub loop-rest-preserved : goal.loop-rest-preserved
loop-rest-preserved c = record {
  read = skip_line (lines c.args.bytes.now) (lines c.loop-rest.rest.now) (lines c.first_line.result.1.now) c.first_line.result.0.now c.loop-rest.number c.loop-rest.pairs.items
      c.first_line.ensures.line (sym c.is_skipped_line.ensures ∙ c.if-not-is_skipped_line.false) c.loop-rest.invariant.read;
  few = (let few = c.loop-rest.invariant.few in let shorter = c.first_line.ensures.shorter in omega arith);
}

pub returns-clause-ok : goal.returns-clause-ok
returns-clause-ok c =
    read_end (lines c.args.bytes.now) (lines c.loop-rest.rest.now) c.loop-rest.number c.loop-rest.pairs.items
    (nothing_left c.loop-rest.rest.now (sym c.is_empty.ensures ∙ c.loop-rest-test.false)) c.loop-rest.invariant.read
