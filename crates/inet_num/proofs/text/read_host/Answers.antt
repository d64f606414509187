use Rattle.std.proofs.Common.{ℕ, List, sym, subst}
use Rattle.inet_num.specs.Net.{Address, width_of}
use Rattle.inet_num.specs.Text.{IsAddressText}
use Rattle.inet_num.specs.Fault.{IsAddressFault}
use Rattle.inet_num.proofs.FaultKinds.{host_fault}
use Rattle.inet_num.proofs.Cuts.{no_length, slash_stands}
use Rattle.inet_num.proofs.text.read_host.Goals as goal

pub returns-in-Err-clause-fault : goal.returns-in-Err-clause-fault
returns-in-Err-clause-fault c = host_fault c.args.text.now c.in-Err.none (subst (λ (t : List ℕ). IsAddressFault t c.in-Err.none) c.cut.ensures.front c.in-Err.ensures.fault)

pub returns-in_default-read_length-clause-fault : goal.returns-in_default-read_length-clause-fault
returns-in_default-read_length-clause-fault c =
    let a : Address = record { family = c.addr-2.inside.family; value = c.addr-2.inside.value } in
    let here : IsAddressText c.cut.result.0.now a = subst (λ (x : Address). IsAddressText c.cut.result.0.now x) (sym c.addr-2.view_is) c.in-Ok.ensures.ok in (
      slash_stands c.args.text.now c.in-Some.rest.now (rw c.in-Some.is at c.cut.ensures.some),
      record {
        addr = a;
        address = subst (λ (t : List ℕ). IsAddressText t a) c.cut.ensures.front here;
        none = no_length (width_of a.family) c.args.text.now c.in-Some.rest.now (rw c.in-Some.is at c.cut.ensures.some) c.in_default-read_length.ensures.none;
      },
    )
