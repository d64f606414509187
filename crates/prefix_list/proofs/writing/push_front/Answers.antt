use Rattle.std.proofs.Common.{◌≡◌, ◌++◌, sym, subst, OnOk}
use Rattle.prefix_list.specs.declared.styles.Style.{Style}
use Rattle.prefix_list.specs.Styles.{front_of}
use Rattle.prefix_list.proofs.writing.push_front.Goals as goal

pub returns-in-Junos : goal.returns-in-Junos
returns-in-Junos c =
    let out = c.args.out.now.items in
    subst (λ (s : Style). OnOk c.push_junos_front.result (c.push_junos_front.new.out.items ≡ out ++ front_of s c.args.name.now c.args.family)) (sym c.in-Junos.is)
    (c.push_junos_front.ensures c.args.family)
