use Rattle.std.proofs.Common.{◌≡◌, ◌≤◌, ℕ, ◌-◌, ◌*◌, ◌^◌, ◌<◌, sym, ◌∙◌, arith}
use Rattle.command_load.specs.LoadText.{longest, load_len as len_of}
use Rattle.command_load.proofs.Lengths.{longest-step, longest-found, longest-none, shifted}
use Rattle.command_load.proofs.length.load_len.Goals as goal

pub loop-len-preserved : goal.loop-len-preserved
loop-len-preserved c =
    let e = shifted c.loop-len.len in
    let same = c.from-wanted.ensures in
    let below = c.if-len-wanted.true in
    let short : 2 ^ (32 - c.loop-len.len) < 4 * c.args.claims = grind arith in
    (omega arith, sym (longest-step c.args.claims c.loop-len.len c.loop-len-test.true short) ∙ c.loop-len.invariant.1)

pub returns-else-len-wanted-clause-len : goal.returns-else-len-wanted-clause-len
returns-else-len-wanted-clause-len c =
    let e = shifted c.loop-len.len in
    let same = c.from-wanted.ensures in
    let above = c.if-len-wanted.false in
    let enough : 4 * c.args.claims ≤ 2 ^ (32 - c.loop-len.len) = grind arith in
    sym (longest-found c.args.claims c.loop-len.len c.loop-len-test.true enough) ∙ c.loop-len.invariant.1

pub returns-after-loop-len-clause-len : goal.returns-after-loop-len-clause-len
returns-after-loop-len-clause-len c = longest-none c.args.claims c.loop-len.len c.loop-len-test.false ∙ c.loop-len.invariant.1
