use Rattle.std.proofs.Common.{◌≡◌, ℕ, ◌++◌, ◌∷◌, List, sym, ◌∙◌, ap, arith, take, length}
use Rattle.std.proofs.lemmas.List.{take_all}
use Rattle.inet_num.specs.Text.{front_of}
use Rattle.inet_num.proofs.Cuts.{at_slash, no_slash, cut_there, not_longer}
use Rattle.inet_num.proofs.text.cut.Goals as goal

pub returns-then-text-i-eq47-clause-front : goal.returns-then-text-i-eq47-clause-front
returns-then-text-i-eq47-clause-front c = ap (λ (k : ℕ). take k c.args.text.now) (sym (at_slash c.args.text.now c.scan.i c.scan-test.true c.scan.invariant c.if-text-i-eq47.true))

pub returns-then-text-i-eq47-clause-some : goal.returns-then-text-i-eq47-clause-some
returns-then-text-i-eq47-clause-some c = cut_there c.args.text.now c.scan.i c.scan-test.true (at_slash c.args.text.now c.scan.i c.scan-test.true c.scan.invariant c.if-text-i-eq47.true) c.if-text-i-eq47.true

pub returns-clause-front : goal.returns-clause-front
returns-clause-front c = sym (ap (λ (k : ℕ). take k c.args.text.now) (no_slash c.args.text.now c.scan.i c.scan-test.false c.scan.auto.i-end c.scan.invariant) ∙ take_all (length c.args.text.now) c.args.text.now (omega arith))

pub returns-clause-none : goal.returns-clause-none
returns-clause-none c = λ rest e.
    let whole : front_of c.args.text.now ≡ c.args.text.now = ap (λ (k : ℕ). take k c.args.text.now) (no_slash c.args.text.now c.scan.i c.scan-test.false c.scan.auto.i-end c.scan.invariant) ∙ take_all (length c.args.text.now) c.args.text.now (omega arith) in
    not_longer c.args.text.now rest (e ∙ ap (λ (f : List ℕ). f ++ 47 ∷ rest) whole)

pub returns-clause-whole : goal.returns-clause-whole
returns-clause-whole c =
    ap (λ (k : ℕ). take k c.args.text.now) (no_slash c.args.text.now c.scan.i c.scan-test.false c.scan.auto.i-end c.scan.invariant) ∙ take_all (length c.args.text.now) c.args.text.now (omega arith)
