-- What a run of `reverse-read` leaves, as the command's record has it, by where it ended; and what is known of an input that was read whole.
use Rattle.std.proofs.Common.{◌≡◌, ℕ, ◌⊎◌, List, [], inl, inr, Option, Some, None, IfSome, subst, sym, ap, arith}
use Rattle.std.specs.Str.Lines.{lines}
use Rattle.ipam_edge.specs.Whole.{IsWhole}
use Rattle.ipam_edge.proofs.FaultLemmas.{unless}
use Rattle.reverse_zone.specs.declared.record.Pair.{Pair}
use Rattle.reverse_zone.specs.declared.input.PtrFault.{PtrFault}
use Rattle.reverse_zone.specs.declared.input.PtrFault.TheVariants as ptr
use Rattle.reverse_zone.specs.Inputs.{ArePairsOf, IsFirstRefused}
use Rattle.command_streams.specs.Streams.{Told, Streams, NeverFalls, NeverRises}
use Rattle.command_zones.specs.declared.pairs.ReadRefusal.{ReadRefusal}
use Rattle.command_zones.specs.declared.pairs.ReadRefusal.TheVariants.{TooLong, Line}
use Rattle.command_zones.specs.declared.pairs.ReadStop.{ReadStop}
use Rattle.command_zones.specs.declared.pairs.ReadStop.TheVariants.{Unread, Refused, Memory}
use Rattle.command_zones.specs.Pairs.{most_bytes, HasPairs, IsReadRefusal, GivesPairs, RefusesInput, IsReadStop, IsStopBy, IsReadStopSaid, IsPairsSaid, NamesReadRefusal, FailsToRead, FailsToPrint, FailsToSayRead, IsReverseRead}

-- ---- the input

module _ (items bytes : List ℕ) (same : bytes ≡ items) where
  given_at : (left after : Option (List ℕ)) (pairs : List Pair) → IsWhole most_bytes left after items → ArePairsOf (lines bytes) pairs
      → IfSome left (λ all. HasPairs all pairs × (after ≡ Some []))
  given_at None after pairs whole are = tt
  given_at (Some all) after pairs whole are =
      let read : all ≡ items = whole.told.0 in
      let has : HasPairs items pairs = record { few = whole.few; are = subst (λ (b : List ℕ). ArePairsOf (lines b) pairs) same are } in
      (subst (λ (b : List ℕ). HasPairs b pairs) (sym read) has, whole.told.1)

  refused_at : (left after : Option (List ℕ)) (n : ℕ) → IsWhole most_bytes left after items → IsFirstRefused (lines bytes) n
      → IfSome left (λ all. IsReadRefusal all (Line n))
  refused_at None after n whole first = tt
  refused_at (Some all) after n whole first =
      let read : all ≡ items = whole.told.0 in
      let is : IsReadRefusal items (Line n) = (whole.few, subst (λ (b : List ℕ). IsFirstRefused (lines b) n) same first) in
      subst (λ (b : List ℕ). IsReadRefusal b (Line n)) (sym read) is

  -- the lines have pairs
  pub pairs_given : (old new : Told) (pairs : List Pair) → IsWhole most_bytes old.bytes new.bytes items → ArePairsOf (lines bytes) pairs
      → GivesPairs old new pairs
  pairs_given old new pairs whole are = given_at old.bytes new.bytes pairs whole are

  -- they have none
  pub lines_stopped : (old new : Told) (fault : PtrFault) (stop : ReadStop) → IsWhole most_bytes old.bytes new.bytes items
      → (fault ≡ ptr.Memory) ⊎ ((n : ℕ) × (fault ≡ ptr.Line n) × IsFirstRefused (lines bytes) n) → IsStopBy fault stop → IsReadStop old new stop
  lines_stopped old new fault Unread whole is stops = absurd stops
  lines_stopped old new fault (Refused TooLong) whole is stops = absurd stops
  lines_stopped old new fault (Refused (Line n)) whole (inl none) stops = absurd (cc)
  lines_stopped old new fault (Refused (Line n)) whole (inr (m, line, first)) stops =
      let one : m ≡ n = cc in
      refused_at old.bytes new.bytes n whole (subst (λ (k : ℕ). IsFirstRefused (lines bytes) k) one first)
  lines_stopped old new fault Memory whole is stops = tt

-- ---- the run

module _ (old new : Streams) (status : ℕ) (later : NeverFalls old new) (quiet : status ≡ 5 → NeverRises old new) where
  at_memory : status ≡ 5 → new.output ≡ old.output → new.errors ≡ old.errors → IsReverseRead old new status
  at_memory five output errors = record {
    statuses = inr (inr (inr five));
    done = λ z. absurd (omega arith);
    refused = λ z. absurd (omega arith);
    fault = λ z. absurd (omega arith);
    memory = λ z. (output, errors);
    later = later;
    quiet = quiet;
  }

  at_fault : status ≡ 3 → FailsToRead old new ⊎ FailsToPrint old new ⊎ FailsToSayRead old new → IsReverseRead old new status
  at_fault three fault = record {
    statuses = inr (inr (inl three));
    done = λ z. absurd (omega arith);
    refused = λ z. absurd (omega arith);
    fault = λ z. fault;
    memory = λ z. absurd (omega arith);
    later = later;
    quiet = quiet;
  }

  -- the pairs were printed, or could not be
  pub of_pairs : (pairs : List Pair) → GivesPairs old.input new.input pairs → IsPairsSaid pairs old.output new.output status → new.errors ≡ old.errors
      → IsReverseRead old new status
  of_pairs pairs given (inl (inl (zero, gains))) errors = record {
    statuses = inl zero;
    done = λ z. (pairs, given, gains, errors);
    refused = λ z. absurd (omega arith);
    fault = λ z. absurd (omega arith);
    memory = λ z. absurd (omega arith);
    later = later;
    quiet = quiet;
  }
  of_pairs pairs given (inl (inr (three, failed, front))) errors =
      at_fault three (inr (inl (record { failed = failed; pairs = pairs; given = given; front = front; errors = errors })))
  of_pairs pairs given (inr (five, output)) errors = at_memory five output errors

  named : (refusal : ReadRefusal) → RefusesInput old.input refusal → NamesReadRefusal refusal old.errors new.errors status → new.output ≡ old.output
      → IsReverseRead old new status
  named refusal cause (inl (inl (one, gains))) output = record {
    statuses = inr (inl one);
    done = λ z. absurd (omega arith);
    refused = λ z. record { refusal = refusal; cause = cause; said = gains; output = output };
    fault = λ z. absurd (omega arith);
    memory = λ z. absurd (omega arith);
    later = later;
    quiet = quiet;
  }
  named refusal cause (inl (inr (three, failed, front))) output =
      at_fault three (inr (inr (record { failed = failed; refusal = refusal; cause = cause; front = front; output = output })))
  named refusal cause (inr (five, errors)) output = at_memory five output errors

  -- the input gave none
  pub of_stop : (stop : ReadStop) → IsReadStop old.input new.input stop → IsReadStopSaid stop old.errors new.errors status → new.output ≡ old.output
      → IsReverseRead old new status
  of_stop Unread failed said output = at_fault said.0 (inl (record { failed = failed; output = output; errors = said.1 }))
  of_stop (Refused refusal) cause said output = named refusal cause said output
  of_stop Memory cause said output = at_memory said.0 output said.1

-- ---- out of memory

-- where memory ran out to print pairs, no count rose
pub quiet_pairs : (old new : Streams) (status : ℕ) (pairs : List Pair) → new.input.faults ≡ old.input.faults → IsPairsSaid pairs old.output new.output status → new.errors ≡ old.errors
    → status ≡ 5 → NeverRises old new
quiet_pairs old new status pairs read (inl (inl e)) silent five = (let zero_ = e.0 in absurd (omega arith))
quiet_pairs old new status pairs read (inl (inr e)) silent five = (let three = e.0 in absurd (omega arith))
quiet_pairs old new status pairs read (inr e) silent five = record { input = read; output = ap (λ (t : Told). t.faults) e.1; errors = ap (λ (t : Told). t.faults) silent }

-- nor where the input gave none
pub quiet_stop : (old new : Streams) (status : ℕ) (stop : ReadStop) → (stop ≡ Unread) ⊎ (new.input.faults ≡ old.input.faults) → IsReadStopSaid stop old.errors new.errors status
    → new.output ≡ old.output → status ≡ 5 → NeverRises old new
quiet_stop old new status Unread kept said output five = (let three = said.0 in absurd (omega arith))
quiet_stop old new status (Refused refusal) kept (inl (inl e)) output five = (let one = e.0 in absurd (omega arith))
quiet_stop old new status (Refused refusal) kept (inl (inr e)) output five = (let three = e.0 in absurd (omega arith))
quiet_stop old new status (Refused refusal) kept (inr e) output five =
    record { input = unless (λ k. cc k) kept; output = ap (λ (t : Told). t.faults) output; errors = ap (λ (t : Told). t.faults) e.1 }
quiet_stop old new status Memory kept said output five =
    record { input = unless (λ k. cc k) kept; output = ap (λ (t : Told). t.faults) output; errors = ap (λ (t : Told). t.faults) said.1 }
