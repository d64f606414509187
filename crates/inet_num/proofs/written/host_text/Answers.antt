use Rattle.std.proofs.Common.{◌≡◌, ◌++◌, ◌∷◌, ◌∙◌, ◌<◌, ◌^◌, decimal, sym, subst, IsUtf8, arith}
use Rattle.inet_num.specs.Net.{width_of}
use Rattle.inet_num.specs.Text.{canonical_text_of}
use Rattle.inet_num.specs.declared.Family.{Family}
use Rattle.inet_num.specs.declared.Family.TheVariants.{V6}
use Rattle.inet_num.proofs.Ascii.{groups_are_text}
use Rattle.inet_num.proofs.written.host_text.Goals as goal

pub characters-requires-clause-text : goal.characters-requires-clause-text
characters-requires-clause-text c =
    let same : c.as_slice.result.now ≡ canonical_text_of V6 c.addr.inside.value ++ 47 ∷ decimal c.args.len = c.as_slice.ensures.value ∙ c.groups_block_text.ensures in
    subst IsUtf8 (sym same) (groups_are_text c.addr.inside.value c.args.len (subst (λ (f : Family). c.addr.inside.value < 2 ^ width_of f) c.in-V6.is c.addr.invariant) (let l = c.ranges.len.fits in omega arith))
