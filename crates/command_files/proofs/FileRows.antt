-- What is known of a file that was read whole: its rows, or why it has none.
use Rattle.std.proofs.Common.{◌≡◌, ℕ, ◌⊎◌, List, [], inl, inr, Option, Some, None, Ok, Err, IfSome, subst, sym, ◌∙◌}
use Rattle.ipam_data.specs.declared.kinds.Kind.{Kind}
use Rattle.ipam_data.specs.declared.replies.Refusal.{Refusal}
use Rattle.ipam_data.specs.declared.replies.Refusal.TheVariants.{Memory as NoMemory}
use Rattle.ipam_data.specs.declared.imports.ImportRow.{ImportRow}
use Rattle.csv_import.specs.Files.{IsFileOf, most_bytes}
use Rattle.command_streams.specs.Streams.{Told}
use Rattle.ipam_edge.specs.Whole.{IsWhole}
use Rattle.command_files.specs.declared.files.FileStop.{FileStop}
use Rattle.command_files.specs.declared.files.FileStop.TheVariants.{Unread, Refused, Memory}
use Rattle.command_files.specs.Files.{GivesRows, RefusesFile, IsStopOf, IsFileStop}

module _ (kind : Kind) (items bytes : List ℕ) (same : bytes ≡ items) where
  given_at : (left after : Option (List ℕ)) (rows : List ImportRow) → IfSome left (λ all. (all ≡ items) × (after ≡ Some [])) → IsFileOf kind bytes (Ok rows)
      → IfSome left (λ all. IsFileOf kind all (Ok rows) × (after ≡ Some []))
  given_at None after rows told file = tt
  given_at (Some all) after rows told file = (subst (λ (b : List ℕ). IsFileOf kind b (Ok rows)) (same ∙ sym told.0) file, told.1)

  refused_at : (left after : Option (List ℕ)) (refusal : Refusal) → IfSome left (λ all. (all ≡ items) × (after ≡ Some [])) → IsFileOf kind bytes (Err refusal)
      → IfSome left (λ all. IsFileOf kind all (Err refusal))
  refused_at None after refusal told file = tt
  refused_at (Some all) after refusal told file = subst (λ (b : List ℕ). IsFileOf kind b (Err refusal)) (same ∙ sym told.0) file

  -- the file has rows
  pub rows_given : (old new : Told) (rows given : List ImportRow) → IsWhole most_bytes old.bytes new.bytes items → IsFileOf kind bytes (Ok rows) → given ≡ rows
      → GivesRows kind old new given
  rows_given old new rows given whole file is = subst (GivesRows kind old new) (sym is) (given_at old.bytes new.bytes rows whole.told file)

  -- it has none
  pub stopped : (old new : Told) (refusal : Refusal) (stop : FileStop) → IsWhole most_bytes old.bytes new.bytes items → (refusal ≡ NoMemory) ⊎ IsFileOf kind bytes (Err refusal)
      → IsStopOf refusal stop → IsFileStop kind old new stop
  stopped old new refusal Unread whole file stops = absurd stops
  stopped old new refusal (Refused other) whole (inl none) stops = absurd (stops.1 none)
  stopped old new refusal (Refused other) whole (inr file) stops =
      subst (RefusesFile kind old) (sym stops.0) (refused_at old.bytes new.bytes refusal whole.told file)
  stopped old new refusal Memory whole file stops = tt
