-- What a run of the command `reverse-read` promises of each status: the pairs of the PTR lines of an input as a file with two columns.
use Rattle.std.specs.Prelude.{◌≡◌, ℕ, ◌<◌, ◌≤◌, ◌⊎◌, List, [], ◌∷◌, ◌++◌, Some, IfSome, codes, decimal, flat_map, length}
use Rattle.std.specs.Str.Lines.{lines}
use Rattle.inet_num.specs.Text.{canonical_text_of}
use Rattle.ipam_data.specs.declared.replies.Part.TheVariants.{Body}
use Rattle.ipam_data.specs.declared.replies.Refusal.TheVariants.{TooLarge}
use Rattle.ipam_words.specs.Lines.{refusal_line}
use Rattle.reverse_zone.specs.declared.record.Pair.{Pair}
use Rattle.reverse_zone.specs.declared.input.PtrFault.{PtrFault}
use Rattle.reverse_zone.specs.declared.input.PtrFault.TheVariants as ptr
use Rattle.reverse_zone.specs.Inputs.{ArePairsOf, IsFirstRefused}
use Rattle.command_streams.specs.Streams.{Told, Streams, EndsWith, Gains, GainsFront, Failed, NeverFalls, NeverRises}
use Rattle.command_zones.specs.declared.pairs.ReadRefusal.{ReadRefusal}
use Rattle.command_zones.specs.declared.pairs.ReadRefusal.TheVariants.{TooLong, Line}
use Rattle.command_zones.specs.declared.pairs.ReadStop.{ReadStop}
use Rattle.command_zones.specs.declared.pairs.ReadStop.TheVariants.{Unread, Refused, Memory}

-- how many bytes an input may have
abbrev pub most_bytes : ℕ
most_bytes = 4194304

-- the line of a pair: the address without a length, a comma and the name
abbrev pub pair_text_of : Pair → List ℕ
pair_text_of pair = canonical_text_of pair.host.family pair.host.value ++ 44 ∷ pair.name ++ 10 ∷ []

-- the header, and a line for each pair, in order
abbrev pub pairs_text_of : List Pair → List ℕ
pairs_text_of pairs = codes "address,dns_name\n" ++ flat_map pair_text_of pairs

-- an input has these pairs
pub record HasPairs (bytes : List ℕ) (pairs : List Pair) : Type 0 where
  pub few : length bytes ≤ most_bytes
  pub are : ArePairsOf (lines bytes) pairs

-- why an input has none: it is too long, or this line is the first that is no PTR line
abbrev pub IsReadRefusal : List ℕ → ReadRefusal → Type 0
IsReadRefusal bytes TooLong = most_bytes < length bytes
IsReadRefusal bytes (Line n) = (length bytes ≤ most_bytes) × IsFirstRefused (lines bytes) n

-- the input, if its bytes are known, has these pairs, and it was read to its end
abbrev pub GivesPairs : Told → Told → List Pair → Type 0
GivesPairs old new pairs = IfSome old.bytes (λ bytes. HasPairs bytes pairs × (new.bytes ≡ Some []))

-- the input, if its bytes are known, is refused so
abbrev pub RefusesInput : Told → ReadRefusal → Type 0
RefusesInput old refusal = IfSome old.bytes (λ bytes. IsReadRefusal bytes refusal)

-- why the input gave no pairs
abbrev pub IsReadStop : Told → Told → ReadStop → Type 0
IsReadStop old new Unread = Failed old new
IsReadStop old new (Refused refusal) = RefusesInput old refusal
IsReadStop old new Memory = Unit {0}

-- a fault of the lines as a stop
abbrev pub IsStopBy : PtrFault → ReadStop → Type 0
IsStopBy fault Unread = ⊥
IsStopBy fault (Refused TooLong) = ⊥
IsStopBy fault (Refused (Line n)) = fault ≡ ptr.Line n
IsStopBy fault Memory = Unit {0}

-- what is said of an input that is too long
abbrev pub long_text : List ℕ
long_text = refusal_line (TooLarge Body) ++ 10 ∷ []

-- the line that names a refusal
abbrev pub read_refusal_text : ReadRefusal → List ℕ
read_refusal_text TooLong = long_text
read_refusal_text (Line n) = codes "line " ++ decimal n ++ codes ": not a PTR line\n"

-- it was said and the status is 1, or it could not be; or memory ran out, and nothing was said
abbrev pub NamesReadRefusal : ReadRefusal → Told → Told → ℕ → Type 0
NamesReadRefusal refusal old new status = EndsWith old new (read_refusal_text refusal) 1 status ⊎ ((status ≡ 5) × (new ≡ old))

-- why the input gave no pairs was said, with its status; nothing is said if it failed
abbrev pub IsReadStopSaid : ReadStop → Told → Told → ℕ → Type 0
IsReadStopSaid Unread old new status = (status ≡ 3) × (new ≡ old)
IsReadStopSaid (Refused refusal) old new status = NamesReadRefusal refusal old new status
IsReadStopSaid Memory old new status = (status ≡ 5) × (new ≡ old)

-- the pairs were printed, or could not be; or memory ran out, and nothing was printed
abbrev pub IsPairsSaid : List Pair → Told → Told → ℕ → Type 0
IsPairsSaid pairs old new status = EndsWith old new (pairs_text_of pairs) 0 status ⊎ ((status ≡ 5) × (new ≡ old))

-- the input was read to its end, and the header and a line for each of its pairs are on the output
abbrev pub PrintsPairs : Streams → Streams → Type 0
PrintsPairs old new = (pairs : List Pair) × GivesPairs old.input new.input pairs × Gains old.output new.output (pairs_text_of pairs) × (new.errors ≡ old.errors)

-- the refusal was said, and nothing was printed
pub record NamesRead (old new : Streams) : Type 0 where
  pub refusal : ReadRefusal
  pub cause : RefusesInput old.input refusal
  pub said : Gains old.errors new.errors (read_refusal_text refusal)
  pub output : new.output ≡ old.output

-- the input failed, nothing was printed and nothing said
pub record FailsToRead (old new : Streams) : Type 0 where
  pub failed : Failed old.input new.input
  pub output : new.output ≡ old.output
  pub errors : new.errors ≡ old.errors

-- the output failed, with a prefix of the text, and nothing was said
pub record FailsToPrint (old new : Streams) : Type 0 where
  pub failed : Failed old.output new.output
  pub pairs : List Pair
  pub given : GivesPairs old.input new.input pairs
  pub front : GainsFront old.output new.output (pairs_text_of pairs)
  pub errors : new.errors ≡ old.errors

-- what was to be said of the input could not be, and nothing was printed
pub record FailsToSayRead (old new : Streams) : Type 0 where
  pub failed : Failed old.errors new.errors
  pub refusal : ReadRefusal
  pub cause : RefusesInput old.input refusal
  pub front : GainsFront old.errors new.errors (read_refusal_text refusal)
  pub output : new.output ≡ old.output

-- a run of `reverse-read`
pub record IsReverseRead (old new : Streams) (status : ℕ) : Type 0 where
  pub statuses : (status ≡ 0) ⊎ (status ≡ 1) ⊎ (status ≡ 3) ⊎ (status ≡ 5)
  -- 0: the input was read to its end, and the header and a line for each of its pairs are printed
  pub done : status ≡ 0 → PrintsPairs old new
  -- 1: the input is too long, or one of its lines is no PTR line
  pub refused : status ≡ 1 → NamesRead old new
  -- 3: one of the streams failed
  pub fault : status ≡ 3 → FailsToRead old new ⊎ FailsToPrint old new ⊎ FailsToSayRead old new
  -- 5: out of memory. Nothing was printed, and nothing said
  pub memory : status ≡ 5 → (new.output ≡ old.output) × (new.errors ≡ old.errors)
  pub later : NeverFalls old new
  -- 5: no count of faults rose
  pub quiet : status ≡ 5 → NeverRises old new
