use Rattle.std.proofs.Common.{◌≡◌, ℕ, ◌+◌, ◌*◌, List, [], ◌∷◌, ◌++◌, length, take, sym, ◌∙◌, ap, arith}
use Rattle.std.proofs.lemmas.List.{take_more, length-take}
use Rattle.inet_num.specs.Net.{Cidr}
use Rattle.prefix_list.specs.Styles.{line_of, lines_from}
use Rattle.prefix_list.proofs.Written.{lines_more}
use Rattle.prefix_list.proofs.writing.lines_text.Goals as goal

pub each-preserved : goal.each-preserved
each-preserved c =
    let style = c.args.style in
    let name = c.args.name.now in
    let first = c.args.first in
    let blocks = c.args.blocks.now in
    let i = c.each.block-index in
    let block = c.block-item.result in
    let count : length (take i blocks) ≡ i = (let l = length-take i blocks in let h = c.each-test.true in omega arith) in
    let number : c.each.number ≡ first + 5 * length (take i blocks) = (let n = c.each.invariant.number in omega arith) in
    let more : take (i + 1) blocks ≡ take i blocks ++ block ∷ [] = take_more blocks i block c.each-test.true ∙ ap (λ (b : Cidr). take i blocks ++ b ∷ []) (sym c.block-item.is) in
    record {
      number = (let n = c.each.invariant.number in omega arith);
      text = c.in_ok-push_line.ensures
          ∙ ap (λ (t : List ℕ). t ++ line_of style name c.each.number block ++ 10 ∷ []) c.each.invariant.text
          ∙ ap (λ (k : ℕ). lines_from style name first (take i blocks) ++ line_of style name k block ++ 10 ∷ []) number
          ∙ sym (lines_more style name first (take i blocks) block)
          ∙ ap (lines_from style name first) (sym more);
    }
