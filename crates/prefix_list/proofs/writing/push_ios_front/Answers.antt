use Rattle.std.proofs.Common.{List, ℕ, ◌++◌, ◌∙◌, ap, codes}
use Rattle.prefix_list.specs.Styles.{protocol_of}
use Rattle.prefix_list.proofs.Bytes.{joined_four}
use Rattle.prefix_list.proofs.writing.push_ios_front.Goals as goal

pub returns : goal.returns
returns c =
    let out = c.args.out.now.items in
    joined_four out (protocol_of c.args.family) (codes " prefix-list ") c.args.name.now (codes " seq ") c.extend_from_slice.new.self.items c.extend_from_slice-2.new.self.items
    c.extend_from_slice-3.new.self.items c.extend_from_slice-4.new.self.items
    (c.in_ok-extend_from_slice.ensures.items ∙ ap (λ (p : List ℕ). out ++ p) c.protocol.ensures)
    c.in_ok-extend_from_slice-2.ensures.items
    (c.in_ok-extend_from_slice-3.ensures.items ∙ ap (λ (n : List ℕ). c.extend_from_slice-2.new.self.items ++ n) c.as_bytes.ensures.value)
    c.in_ok-extend_from_slice-4.ensures.items
