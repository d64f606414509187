use Rattle.std.proofs.Common.{◌∙◌, ap}
use Rattle.std.proofs.lemmas.Bool.{iff_false}
use Rattle.inet_num.specs.Net.{Cidr}
use Rattle.inet_num.proofs.Readings.{reading_is_one}
use Rattle.prefix_list.proofs.reading.block_of.Goals as goal

pub returns-in-Err-clause-none : goal.returns-in-Err-clause-none
returns-in-Err-clause-none c = λ b good same. reading_is_one.apart c.args.text.now b _ good c.in-Err.ensures.fault

pub returns-else-is-clause-none : goal.returns-else-is-clause-none
returns-else-is-clause-none c = λ b good same.
    let one = reading_is_one.blocks c.args.text.now c.in-Ok.block b c.in-Ok.ensures.ok good in
    iff_false c.is.ensures c.if-is.false (c.family.ensures.family ∙ ap (λ (x : Cidr). x.family) one ∙ same)
