use Rattle.std.proofs.Common.{sym, ◌∙◌, codes}
use Rattle.std.proofs.lemmas.Bool.Decides.{Decides-eqb}
use Rattle.std.proofs.lemmas.Slice.Eq.{strip_prefix_is}
use Rattle.prefix_list.proofs.Numbers.{permit_some, permit_none, no_number}
use Rattle.prefix_list.proofs.reading.behind_number.Goals as goal

pub returns-then-is_number-clause-some : goal.returns-then-is_number-clause-some
returns-then-is_number-clause-some c =
    permit_some c.args.text.now c.cut_word.result.0.now c.cut_word.result.1.now c.strip_prefix.result
    (strip_prefix_is Decides-eqb c.cut_word.result.1.now (codes " permit ") c.strip_prefix.result c.strip_prefix.ensures.cases)
    c.cut_word.ensures.whole (sym c.is_number.ensures ∙ c.if-is_number.true)

pub returns-then-is_number-clause-none : goal.returns-then-is_number-clause-none
returns-then-is_number-clause-none c =
    permit_none c.args.text.now c.cut_word.result.0.now c.cut_word.result.1.now c.strip_prefix.result
    (strip_prefix_is Decides-eqb c.cut_word.result.1.now (codes " permit ") c.strip_prefix.result c.strip_prefix.ensures.cases)
    c.cut_word.ensures.word c.cut_word.ensures.whole

pub returns-else-is_number-clause-none : goal.returns-else-is_number-clause-none
returns-else-is_number-clause-none c = no_number c.args.text.now c.cut_word.result.0.now c.cut_word.ensures.word (sym c.is_number.ensures ∙ c.if-is_number.false)
