-- What a run of `free` promises, from what its parts left.
use Rattle.std.proofs.Common.{◌≡◌, ℕ, inl, inr, refl, sym, ◌∙◌, ap, subst, arith, List, [], ◌++◌, Option, Some, None, IfSome, append-nil}
use Rattle.std.specs.Io.KnownBytes.{Consumes, IsAtEnd}
use Rattle.ipam_edge.specs.Writing.{AppendsFront}
use Rattle.inet_num.specs.Net.{Cidr}
use Rattle.inet_num.specs.Free.{available_blocks_of}
use Rattle.command_streams.specs.Streams.{Streams, Gains, GainsFront, NeverFalls}
use Rattle.command_free.specs.declared.free.LineFault.{LineFault}
use Rattle.command_free.specs.Free.{IsFreeText, IsRefusedLine, lines_text_of, refusal_text_of}
use Rattle.command_free.specs.Reading.{HasRead}
use Rattle.command_free.specs.Run.{PrintsFree, IsFree, IsNamed}
use Rattle.command_free.proofs.OneAnswer.{printed_not_refused}

-- the text of an input that was read to its end, of which a front was written
pub printed_front : (within : Cidr) (left_old left_new old new : Option (List ℕ)) (children blocks : List Cidr) (bytes : List ℕ)
    → Consumes left_old left_new bytes → IsAtEnd left_new → HasRead within bytes children → blocks ≡ available_blocks_of within children
    → AppendsFront old new (lines_text_of blocks)
    → IfSome left_old (λ input. (text : List ℕ) × IsFreeText within input text × AppendsFront old new text × (left_new ≡ Some []))
printed_front within None left_new old new children blocks bytes took end read are front = tt
printed_front within (Some x) None old new children blocks bytes took end read are front = absurd took
printed_front within (Some x) (Some y) old new children blocks bytes took end read are front =
    let whole : x ≡ bytes = took ∙ ap (λ (t : List ℕ). bytes ++ t) end ∙ append-nil bytes in
    let text : IsFreeText within bytes (lines_text_of blocks) = record { children = children; few = read.few; named = read.named; text = ap lines_text_of are } in
    (lines_text_of blocks, subst (λ (t : List ℕ). IsFreeText within t (lines_text_of blocks)) (sym whole) text, front, ap Some end)

-- what holds of all bytes holds of told ones
pub always : (told : Option (List ℕ)) (P : List ℕ → Type 0) → ((bytes : List ℕ) → P bytes) → IfSome told P
always None P h = tt
always (Some bytes) P h = h bytes

-- a refused line, with what was said of it
named_so : (within : Cidr) (number : ℕ) (fault : LineFault) (told : Option (List ℕ)) (Says : ℕ → LineFault → Type 0)
    → IfSome told (λ bytes. IsRefusedLine within bytes number fault) → Says number fault
    → IfSome told (λ bytes. (n : ℕ) × (f : LineFault) × IsRefusedLine within bytes n f × Says n f)
named_so within number fault None Says refused says = tt
named_so within number fault (Some bytes) Says refused says = (number, fault, refused, says)

-- the blocks were written
pub free_done : (within : Cidr) (old new : Streams) → PrintsFree within old.input new.input old.output new.output → new.errors ≡ old.errors → NeverFalls old new
    → IsFree within old new 0
free_done within old new prints silent later = record {
  statuses = inl refl;
  done = λ z. (prints, silent);
  refused = λ z. absurd (omega arith);
  fault = λ z. absurd (omega arith);
  memory = λ z. absurd (omega arith);
  refuses = λ number fault. printed_not_refused within old.input new.input old.output new.output number fault _ prints;
  later = later;
  quiet = λ z. absurd (omega arith);
}

-- a line was refused, and named as far as that could be
pub free_refused : (within : Cidr) (number : ℕ) (fault : LineFault) (old new : Streams) (status : ℕ)
    → IfSome old.input.bytes (λ bytes. IsRefusedLine within bytes number fault) → new.output ≡ old.output → new.input.faults ≡ old.input.faults
    → IsNamed within number fault old.errors new.errors status → NeverFalls old new → IsFree within old new status
free_refused within number fault old new status refused same read (inl (one, gains)) later = record {
  statuses = inr (inl one);
  done = λ z. absurd (omega arith);
  refused = λ z. (named_so within number fault old.input.bytes (λ n f. Gains old.errors new.errors (refusal_text_of within n f)) refused gains, same);
  fault = λ z. absurd (omega arith);
  memory = λ z. absurd (omega arith);
  refuses = λ n f. always old.input.bytes _ (λ bytes h. inl one);
  later = later;
  quiet = λ z. absurd (omega arith);
}
free_refused within number fault old new status refused same read (inr (inl (three, failed, front))) later = record {
  statuses = inr (inr (inl three));
  done = λ z. absurd (omega arith);
  refused = λ z. absurd (omega arith);
  fault = λ z. inr (inr (record { failed = failed; front = named_so within number fault old.input.bytes (λ n f. GainsFront old.errors new.errors (refusal_text_of within n f)) refused front; output = same }));
  memory = λ z. absurd (omega arith);
  refuses = λ n f. always old.input.bytes _ (λ bytes h. inr (inl three));
  later = later;
  quiet = λ z. absurd (omega arith);
}
free_refused within number fault old new status refused same read (inr (inr (five, silent))) later = record {
  statuses = inr (inr (inr five));
  done = λ z. absurd (omega arith);
  refused = λ z. absurd (omega arith);
  fault = λ z. absurd (omega arith);
  memory = λ z. (same, silent);
  refuses = λ n f. always old.input.bytes _ (λ bytes h. inr (inr five));
  later = later;
  quiet = λ z. record { input = read; output = ap (λ t. t.faults) same; errors = ap (λ t. t.faults) silent };
}
