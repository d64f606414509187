use Rattle.std.proofs.Common.{◌≡◌, ℕ, ◌-◌, ◌++◌, ◌∷◌, List, sym, ◌∙◌, ap, arith, subst, bit_and}
use Rattle.inet_num.specs.Net.{Address, IsBlock, width_of}
use Rattle.inet_num.specs.Text.{front_of, IsAddressText}
use Rattle.inet_num.specs.Fault.{IsAddressFault}
use Rattle.inet_num.proofs.FaultKinds.{block_fault}
use Rattle.inet_num.proofs.Cuts.{no_length, lawful_around, around_is, not_lawful}
use Rattle.inet_num.proofs.text.read_block.Goals as goal

pub returns-in-Err-clause-fault : goal.returns-in-Err-clause-fault
returns-in-Err-clause-fault c = block_fault c.args.text.now c.in-Err.fault (subst (λ (t : List ℕ). IsAddressFault t c.in-Err.fault) c.cut.ensures.front c.in-Err.ensures.fault)

pub returns-in_default-read_length-clause-fault : goal.returns-in_default-read_length-clause-fault
returns-in_default-read_length-clause-fault c =
    let a : Address = record { family = c.addr.inside.family; value = c.addr.inside.value } in
    let here : IsAddressText c.cut.result.0.now a = subst (λ (x : Address). IsAddressText c.cut.result.0.now x) (sym c.addr.view_is) c.in-Ok.ensures.ok in
    record {
      addr = a;
      address = subst (λ (t : List ℕ). IsAddressText t a) c.cut.ensures.front here;
      none = no_length (width_of a.family) c.args.text.now c.in-Some.rest.now (rw c.in-Some.is at c.cut.ensures.some) c.in_default-read_length.ensures.none;
    }

pub invariant_of-block : goal.invariant_of-block
invariant_of-block c =
    let a : Address = record { family = c.addr.inside.family; value = c.addr.inside.value } in
    subst IsBlock (sym (around_is a c.in-Some-read_length.len c.low_ones-ones.result c.low_ones-ones.ensures)) (lawful_around a c.in-Some-read_length.len c.in-Some-read_length.ensures.short c.addr.invariant)

pub invariant_of-block-else-past-eq0 : goal.invariant_of-block-else-past-eq0
invariant_of-block-else-past-eq0 c =
    let a : Address = record { family = c.addr.inside.family; value = c.addr.inside.value } in
    subst IsBlock (sym (around_is a c.in-Some-read_length.len c.low_ones-ones.result c.low_ones-ones.ensures)) (lawful_around a c.in-Some-read_length.len c.in-Some-read_length.ensures.short c.addr.invariant)

pub returns-then-past-eq0-clause-ok : goal.returns-then-past-eq0-clause-ok
returns-then-past-eq0-clause-ok c =
    let a : Address = record { family = c.addr.inside.family; value = c.addr.inside.value } in
    let len = c.in-Some-read_length.len in
    let ones = c.low_ones-ones.result in
    let here : IsAddressText c.cut.result.0.now a = subst (λ (x : Address). IsAddressText c.cut.result.0.now x) (sym c.addr.view_is) c.in-Ok.ensures.ok in
    let there : IsAddressText (front_of c.args.text.now) a = subst (λ (t : List ℕ). IsAddressText t a) c.cut.ensures.front here in
    let kept : a.value ≡ a.value - bit_and a.value ones = (let z = c.if-past-eq0.true in omega arith) in
    record {
      address = subst (λ (n : ℕ). IsAddressText (front_of c.args.text.now) (let x : Address = record { family = a.family; value = n } in x)) kept there;
      length_is = (rw c.in-Some.is at c.cut.ensures.some) ∙ ap (λ (r : List ℕ). front_of c.args.text.now ++ 47 ∷ r) c.in-Some-read_length.ensures.some;
      lawful = subst IsBlock (sym (around_is a len ones c.low_ones-ones.ensures)) (lawful_around a len c.in-Some-read_length.ensures.short c.addr.invariant);
    }

pub returns-else-past-eq0-clause-fault : goal.returns-else-past-eq0-clause-fault
returns-else-past-eq0-clause-fault c =
    let a : Address = record { family = c.addr.inside.family; value = c.addr.inside.value } in
    let len = c.in-Some-read_length.len in
    let ones = c.low_ones-ones.result in
    let here : IsAddressText c.cut.result.0.now a = subst (λ (x : Address). IsAddressText c.cut.result.0.now x) (sym c.addr.view_is) c.in-Ok.ensures.ok in
    record {
      addr = a;
      len = len;
      address = subst (λ (t : List ℕ). IsAddressText t a) c.cut.ensures.front here;
      length_is = (rw c.in-Some.is at c.cut.ensures.some) ∙ ap (λ (r : List ℕ). front_of c.args.text.now ++ 47 ∷ r) c.in-Some-read_length.ensures.some;
      short = c.in-Some-read_length.ensures.short;
      set = not_lawful a len ones c.low_ones-ones.ensures c.if-past-eq0.false;
      cleared = around_is a len ones c.low_ones-ones.ensures;
    }
