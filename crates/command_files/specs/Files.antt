-- What is known of a file on the input, and the words that say why it or its import is refused.
use Rattle.std.specs.Prelude.{◌≡◌, ℕ, ◌⊎◌, List, [], ◌∷◌, ◌++◌, Some, Ok, Err, IfSome}
use Rattle.ipam_data.specs.declared.kinds.Kind.{Kind}
use Rattle.ipam_data.specs.declared.kinds.Kind.TheVariants as kind
use Rattle.ipam_data.specs.declared.replies.Refusal.{Refusal}
use Rattle.ipam_data.specs.declared.replies.Refusal.TheVariants.{Memory as NoMemory}
use Rattle.ipam_words.specs.Lines.{refusal_line}
use Rattle.ipam_data.specs.declared.imports.ImportRow.{ImportRow}
use Rattle.csv_import.specs.Files.{IsFileOf}
use Rattle.command_words.specs.declared.asked.KindName.{KindName}
use Rattle.command_words.specs.declared.asked.KindName.TheVariants.{Vrfs, Rirs, Roles, Aggregates, Prefixes, Ranges, Addresses}
use Rattle.command_streams.specs.Streams.{Told, EndsWith, Failed}
use Rattle.command_files.specs.declared.files.FileStop.{FileStop}
use Rattle.command_files.specs.declared.files.FileStop.TheVariants.{Unread, Refused, Memory}

-- the kind of this name
abbrev pub kind_named : KindName → Kind
kind_named Vrfs = kind.Vrfs
kind_named Rirs = kind.Rirs
kind_named Roles = kind.Roles
kind_named Aggregates = kind.Aggregates
kind_named Prefixes = kind.Prefixes
kind_named Ranges = kind.Ranges
kind_named Addresses = kind.Addresses

-- the input, if its bytes are known, is a file of these rows, and it was read to its end
abbrev pub GivesRows : Kind → Told → Told → List ImportRow → Type 0
GivesRows kind old new rows = IfSome old.bytes (λ bytes. IsFileOf kind bytes (Ok rows) × (new.bytes ≡ Some []))

-- the input, if its bytes are known, is a file that is refused so
abbrev pub RefusesFile : Kind → Told → Refusal → Type 0
RefusesFile kind old refusal = IfSome old.bytes (λ bytes. IsFileOf kind bytes (Err refusal))

-- a refusal as a stop: out of memory is separate
abbrev pub IsStopOf : Refusal → FileStop → Type 0
IsStopOf refusal Unread = ⊥
IsStopOf refusal (Refused other) = (other ≡ refusal) × ¬ (refusal ≡ NoMemory)
IsStopOf refusal Memory = refusal ≡ NoMemory

-- why the input gave no rows
abbrev pub IsFileStop : Kind → Told → Told → FileStop → Type 0
IsFileStop kind old new Unread = Failed old new
IsFileStop kind old new (Refused refusal) = RefusesFile kind old refusal
IsFileStop kind old new Memory = Unit {0}

-- the line that names a refusal
abbrev pub refusal_text : Refusal → List ℕ
refusal_text refusal = refusal_line refusal ++ 10 ∷ []

-- it was said and the status is this one, or it could not be; or memory ran out, and nothing was said
abbrev pub NamesIt : Refusal → ℕ → Told → Told → ℕ → Type 0
NamesIt refusal wanted old new status = EndsWith old new (refusal_text refusal) wanted status ⊎ ((status ≡ 5) × (new ≡ old))

-- why the input gave no rows was said, with its status; nothing is said if it failed
abbrev pub IsFileStopSaid : FileStop → Told → Told → ℕ → Type 0
IsFileStopSaid Unread old new status = (status ≡ 3) × (new ≡ old)
IsFileStopSaid (Refused refusal) old new status = NamesIt refusal 1 old new status
IsFileStopSaid Memory old new status = (status ≡ 5) × (new ≡ old)
