-- What a text that was printed leaves, by its status.
use Rattle.std.proofs.Common.{◌≡◌, ◌⊎◌, ℕ, List, inl, inr, sym, ap, subst, arith}
use Rattle.command_streams.specs.Streams.{EndsWith, Failed, Gains, NeverFalls, NeverRises, Streams, Told}
use Rattle.program_entry.specs.About.{IsPrinted}

-- what was said, with which status
abbrev pub Said : Told → Told → List ℕ → ℕ → Type 0
Said old new text status = EndsWith old new text 0 status ⊎ ((status ≡ 5) × (new ≡ old))

pub said_statuses : (old new : Told) (text : List ℕ) (status : ℕ) → Said old new text status → (status ≡ 0) ⊎ (status ≡ 1) ⊎ (status ≡ 3) ⊎ (status ≡ 4) ⊎ (status ≡ 5)
said_statuses old new text status (inl (inl said)) = inl said.0
said_statuses old new text status (inl (inr failed)) = inr (inr (inl failed.0))
said_statuses old new text status (inr none) = inr (inr (inr (inr none.0)))

pub said_whole : (old new : Told) (text : List ℕ) (status : ℕ) → Said old new text status → status ≡ 0 → Gains old new text
said_whole old new text status (inl (inl said)) z = said.1
said_whole old new text status (inl (inr failed)) z = absurd (let e = failed.0 in omega arith)
said_whole old new text status (inr none) z = absurd (let e = none.0 in omega arith)

pub said_failed : (old new : Told) (text : List ℕ) (status : ℕ) → Said old new text status → status ≡ 3 → Failed old new
said_failed old new text status (inl (inl said)) z = absurd (let e = said.0 in omega arith)
said_failed old new text status (inl (inr failed)) z = failed.1
said_failed old new text status (inr none) z = absurd (let e = none.0 in omega arith)

pub said_nothing : (old new : Told) (text : List ℕ) (status : ℕ) → Said old new text status → status ≡ 5 → new ≡ old
said_nothing old new text status (inl (inl said)) z = absurd (let e = said.0 in omega arith)
said_nothing old new text status (inl (inr failed)) z = absurd (let e = failed.0 in omega arith)
said_nothing old new text status (inr none) z = none.1

pub never_else : (old new : Told) (text : List ℕ) (status : ℕ) → Said old new text status → (status ≡ 1) ⊎ (status ≡ 4) → ⊥
never_else old new text status (inl (inl said)) z = (let e = said.0 in elim z [ inl i ↦ omega arith | inr i ↦ omega arith ])
never_else old new text status (inl (inr failed)) z = (let e = failed.0 in elim z [ inl i ↦ omega arith | inr i ↦ omega arith ])
never_else old new text status (inr none) z = (let e = none.0 in elim z [ inl i ↦ omega arith | inr i ↦ omega arith ])

pub printed_quiet : (text : List ℕ) (old new : Streams) (status : ℕ) → IsPrinted text old new status → status ≡ 5 → NeverRises old new
printed_quiet text old new status s z = record {
  input = ap (λ (t : Told). t.faults) s.input;
  output = ap (λ (t : Told). t.faults) (said_nothing old.output new.output text status s.said z);
  errors = ap (λ (t : Told). t.faults) s.errors;
}

pub printed_not_begun : (text : List ℕ) (old new : Streams) (status : ℕ) → status ≡ 5 → new ≡ old → IsPrinted text old new status
printed_not_begun text old new status five same = record {
  input = ap (λ (t : Streams). t.input) same;
  errors = ap (λ (t : Streams). t.errors) same;
  said = inr (five, ap (λ (t : Streams). t.output) same);
  later = subst (λ (t : Streams). NeverFalls old t) (sym same) (record { input = omega arith; output = omega arith; errors = omega arith });
}
