use Rattle.std.proofs.Common.{List, ℕ, sym, subst}
use Rattle.prefix_list.specs.Reading.{IsFormed}
use Rattle.prefix_list.proofs.Lines.{none_weaker}
use Rattle.prefix_list.proofs.reading.line_block.Goals as goal

pub returns-clause-none : goal.returns-clause-none
returns-clause-none c =
    let form = c.args.form.now in
    none_weaker c.block_behind.result
    (λ none b m. none b (subst (λ (front : List ℕ). IsFormed form.style front form.family c.args.line.now b) (sym c.deref.ensures.value) m.formed))
    c.block_behind.ensures.none
