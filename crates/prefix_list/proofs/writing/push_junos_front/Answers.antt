use Rattle.std.proofs.Common.{List, ℕ, ◌++◌, ◌∙◌, ap, codes}
use Rattle.prefix_list.proofs.Bytes.{joined_three}
use Rattle.prefix_list.proofs.writing.push_junos_front.Goals as goal

pub returns : goal.returns
returns c = λ family.
    joined_three c.args.out.now.items (codes "set policy-options prefix-list ") c.args.name.now (codes " ") c.extend_from_slice.new.self.items c.extend_from_slice-2.new.self.items
    c.extend_from_slice-3.new.self.items
    c.in_ok-extend_from_slice.ensures.items
    (c.in_ok-extend_from_slice-2.ensures.items ∙ ap (λ (n : List ℕ). c.extend_from_slice.new.self.items ++ n) c.as_bytes.ensures.value)
    c.in_ok-extend_from_slice-3.ensures.items
