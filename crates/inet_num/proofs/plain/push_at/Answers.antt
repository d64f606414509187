use Rattle.std.proofs.Common.{◌≡◌, ◌++◌, List, sym, ◌∙◌, ap, arith, append_assoc}
use Rattle.std.proofs.lemmas.List.{append-nil}
use Rattle.inet_num.specs.declared.Family.{Family}
use Rattle.inet_num.specs.Net.{Address, Cidr, width_of}
use Rattle.inet_num.specs.Free.{picked_of}
use Rattle.inet_num.proofs.PlainSearch.{picked_below, picked_none, picked_more, picked_all}
use Rattle.inet_num.proofs.plain.push_at.Goals as goal

pub loop-len-init : goal.loop-len-init
loop-len-init c = sym (ap (λ (bs : List Cidr). c.args.out.now.items ++ bs) (picked_none c.args.within.now c.args.children.now c.args.addr.value) ∙ append-nil _)

pub loop-len-preserved : goal.loop-len-preserved
loop-len-preserved c =
    let within = c.args.within.now in
    let children = c.args.children.now in
    let a = c.args.addr.value in
    let n = c.loop-len.len in
    c.in_ok-push_one.ensures
    ∙ ap (λ (bs : List Cidr). bs ++ picked_of within children (let b : Cidr = record { family = c.args.addr.family; first = a; len = n } in b)) c.loop-len.invariant
    ∙ append_assoc c.args.out.now.items _ _
    ∙ ap (λ (f : Family). c.args.out.now.items ++ (picked_below within children a n ++ picked_of within children (let b : Cidr = record { family = f; first = a; len = n } in b))) c.requires.family
    ∙ ap (λ (bs : List Cidr). c.args.out.now.items ++ bs) (sym (picked_more within children a n))

pub returns : goal.returns
returns c =
    let w : width_of c.addr.inside.family ≡ width_of c.args.within.now.family = ap (λ (a : Address). width_of a.family) c.addr.view_is ∙ ap width_of c.requires.family in
    let e = c.width-len-end.ensures in
    c.loop-len.invariant ∙ ap (λ (bs : List Cidr). c.args.out.now.items ++ bs) (picked_all c.args.within.now c.args.children.now c.args.addr.value c.loop-len.len (omega arith))
