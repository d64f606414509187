-- What is left of a run of the command.
use Rattle.std.proofs.Common.{◌≡◌, ◌≤◌, inl, inr, ℕ, List, refl, sym, ap, ◌∙◌, subst, arith}
use Rattle.command_streams.specs.Streams.{Told, EndsWith}
use Rattle.command_load.specs.declared.figures.Figures.{Figures}
use Rattle.command_load.specs.LoadText.{figures_text, load_figures, load_text}
use Rattle.command_load.specs.Load.{IsLoad}

text_is : (count : ℕ) → figures_text (load_figures count) ≡ load_text count
unfolding load_text
text_is count = refl

said : (count workers : ℕ) (old new : Told) (status : ℕ) → EndsWith old new (load_text count) 0 status → old.faults ≤ new.faults → IsLoad count workers old new status
said count workers old new status (inl well) later = let zero = well.0 in record {
  statuses = inl zero;
  done = λ e. well.1;
  fault = λ e. absurd (omega arith);
  memory = λ e. absurd (omega arith);
  later = later;
}
said count workers old new status (inr broken) later = let three = broken.0 in record {
  statuses = inr (inl three);
  done = λ e. absurd (omega arith);
  fault = λ e. (broken.1, broken.2);
  memory = λ e. absurd (omega arith);
  later = later;
}

-- the lines of the figures were printed, as far as that could be
pub printed : (count workers : ℕ) (old new : Told) (status : ℕ) (f : Figures) (text : List ℕ) → f ≡ load_figures count → text ≡ figures_text f
    → EndsWith old new text 0 status → old.faults ≤ new.faults → IsLoad count workers old new status
printed count workers old new status f text is lines ends later =
    said count workers old new status (subst (λ (t : List ℕ). EndsWith old new t 0 status) (lines ∙ (ap figures_text is ∙ text_is count)) ends) later

-- memory ran out
pub unprinted : (count workers : ℕ) (old new : Told) (status : ℕ) → status ≡ 5 → new ≡ old → IsLoad count workers old new status
unprinted count workers old new status five same = record {
  statuses = inr (inr five);
  done = λ e. absurd (omega arith);
  fault = λ e. absurd (omega arith);
  memory = λ e. same;
  later = subst (λ (t : Told). old.faults ≤ t.faults) (sym same) (omega arith);
}
