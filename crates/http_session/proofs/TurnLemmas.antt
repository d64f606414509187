-- How the turns of a session go on, and how they end.
use Rattle.std.proofs.Common.{◌≡◌, ◌∙◌, ◌+◌, ◌≤◌, ◌⊎◌, ◌++◌, ℕ, true, false, List, [], ◌∷◌, length, Option, refl, sym, ap, subst, arith, zero-add, inl, inr}
use Rattle.std.proofs.lemmas.List.{append_cancel_left}
use Rattle.std.specs.Io.KnownBytes.{Appends, Consumes, IsAtEnd}
use Rattle.std.proofs.KnownBytes.{Consumes-trans}
use Rattle.ipam_edge.specs.Reading.{GrownByReads, Last, Open, Told, Failed, Step, joined}
use Rattle.ipam_edge.specs.Writing.{AppendsLess, ByWrites}
use Rattle.ipam_edge.proofs.ReadingLemmas.{kept_by_reads, read_as, read_better, read_by_part, read_nothing, read_then}
use Rattle.ipam_edge.proofs.WritingLemmas.{kept_by_writes, write_nothing}
use Rattle.http_session.specs.Requests.{Framed, IsItem, IsUnfinished, Item, Asks, closes}
use Rattle.http_session.specs.Steps.{Grown, IsReadWhile}
use Rattle.http_session.specs.Talk.{Answer, Answered, May, text_of}
use Rattle.http_session.specs.Ends.{HasNoNext, IsBetween, IsClosed, IsEnd, IsLastRead, IsLeft, IsReadAsNeeded}
use Rattle.ipam_edge.specs.Faults.{Rose}
use Rattle.http_session.specs.declared.answer.PutEnd.{PutEnd}
use Rattle.http_session.specs.declared.answer.PutEnd.TheVariants.{Whole, SinkFault as PutFault}
use Rattle.http_session.specs.Answers.{HasPutCause}
use Rattle.http_session.specs.Turns.{HasEndCause, HasNoMoreThan, IsInTurns, IsLineSession, Rounds}
use Rattle.http_session.specs.declared.session.SessionEnd.{SessionEnd}
use Rattle.http_session.specs.declared.session.SessionEnd.TheVariants.{Closed, SourceFault, SinkFault, Memory}
use Rattle.http_session.proofs.Talks.{closes_now, cut_short, ends, goes_on, no_more, talked, starved, starved_at, still_needed, unsaid, waiting}

-- one more round
pub rounds_more : {S L : Type 0} (may : May S) (reads writes : Step L) (written : L → Option (List ℕ)) (n k : ℕ) (s : S) (from : L) (so_far : List ℕ) (items : List Item) (answers : List Answer) (t : S) (at : L) (now : List ℕ) (item : Item) (a : Answer) (u : S) (asked answered : L) (then : List ℕ)
    → Rounds may reads writes written n s from so_far items answers t at now → k ≡ n + length items
    → GrownByReads reads (HasNoMoreThan k) at asked now then Open → Answered may t item a u → ByWrites writes asked answered → Appends (written asked) (written answered) (text_of a item)
    → Rounds may reads writes written n s from so_far (items ++ item ∷ []) (answers ++ a ∷ []) u answered then
rounds_more may reads writes written n k s from so_far [] [] t at now item a u asked answered then (same_seat, same_line, same_bytes) e wait h wrote said =
    let number : k ≡ n = omega (arith, e) in
    let wait_n = subst (λ (m : ℕ). GrownByReads reads (HasNoMoreThan m) at asked now then Open) number wait in
    let wait_at = subst (λ (l : List ℕ). GrownByReads reads (HasNoMoreThan n) at asked l then Open) same_bytes wait_n in
    let wait_from = subst (λ (l : _). GrownByReads reads (HasNoMoreThan n) l asked so_far then Open) same_line wait_at in
    (u, asked, answered, then, wait_from, subst (λ x. Answered may x item a u) same_seat h, wrote, said, (refl, refl, refl))
rounds_more may reads writes written n k s from so_far [] (b ∷ bs) t at now item a u asked answered then r e wait h wrote said = absurd r
rounds_more may reads writes written n k s from so_far (i ∷ is) [] t at now item a u asked answered then r e wait h wrote said = absurd r
rounds_more may reads writes written n k s from so_far (i ∷ is) (b ∷ bs) t at now item a u asked answered then (mid, asked0, answered0, then0, wait0, h0, wrote0, said0, rest) e wait h wrote said =
    (mid, asked0, answered0, then0, wait0, h0, wrote0, said0, rounds_more may reads writes written (n + 1) k mid answered0 then0 is bs t at now item a u asked answered then rest (omega (arith, e)) wait h wrote said)

-- what is read of a part of the line, which no write changes
module _ {S L T : Type 0} (may : May S) (reads writes : Step L) (written : L → Option (List ℕ)) (part : Step T) (f : L → T) (read_part : (a b : L) (g : Option (List ℕ)) → reads a g b → part (f a) g (f b)) (write_part : (a b : L) (g : Option (List ℕ)) → writes a g b → f b ≡ f a) where
  part_waits : (n : ℕ) (a b : L) (old new : List ℕ) (last : Last) → GrownByReads reads (HasNoMoreThan n) a b old new last → GrownByReads part HasNoNext (f a) (f b) old new last
  part_waits n a b old new last wait = read_better part (HasNoMoreThan n) HasNoNext (f a) (f b) old new last (λ later h. h.next) (read_by_part reads part f read_part (HasNoMoreThan n) a b old new last wait)

  part_stays : (a b : L) → ByWrites writes a b → f b ≡ f a
  part_stays a b wrote = kept_by_writes writes f write_part a b wrote

  rounds_reads : (n : ℕ) (s : S) (from : L) (so_far : List ℕ) (items : List Item) (answers : List Answer) (t : S) (to : L) (now : List ℕ) → Rounds may reads writes written n s from so_far items answers t to now → GrownByReads part HasNoNext (f from) (f to) so_far now Open
  rounds_reads n s from so_far [] [] t to now (same_seat, same_line, same_bytes) = read_nothing part HasNoNext (f from) (f to) so_far now (ap f same_line) same_bytes
  rounds_reads n s from so_far [] (a ∷ answers) t to now r = absurd r
  rounds_reads n s from so_far (i ∷ items) [] t to now r = absurd r
  rounds_reads n s from so_far (i ∷ items) (a ∷ answers) t to now (mid, asked, answered, then, wait, h, wrote, said, rest) =
      let first = subst (λ (x : T). GrownByReads part HasNoNext (f from) x so_far then Open) (sym (part_stays asked answered wrote)) (part_waits n from asked so_far then Open wait) in
      read_then part HasNoNext (f from) (f answered) (f to) so_far then now Open first (rounds_reads (n + 1) mid answered then items answers t to now rest)

  pub reads_of_turns : (s : S) (from to : L) (bytes : List ℕ) (ended : Type 0) (last : Last) → IsInTurns may reads writes written s from to bytes ended last → GrownByReads part HasNoNext (f from) (f to) [] bytes last
  reads_of_turns s from to bytes ended last turns =
      let before = rounds_reads 0 s from [] turns.items turns.answers turns.mid turns.at turns.now turns.rounds in
      let wait = part_waits (length turns.items) turns.at turns.waited turns.now bytes last turns.wait in
      subst (λ (x : T). GrownByReads part HasNoNext (f from) x [] bytes last) (sym (part_stays turns.waited to turns.last_answer))
      (read_then part HasNoNext (f from) (f turns.at) (f turns.waited) [] turns.now bytes last before wait)

-- what neither a read nor a write changes
module _ {S L A : Type 0} (may : May S) (reads writes : Step L) (written : L → Option (List ℕ)) (f : L → A) (read_law : (a b : L) (g : Option (List ℕ)) → reads a g b → f b ≡ f a) (write_law : (a b : L) (g : Option (List ℕ)) → writes a g b → f b ≡ f a) where
  kept_in_rounds : (n : ℕ) (s : S) (from : L) (so_far : List ℕ) (items : List Item) (answers : List Answer) (t : S) (to : L) (now : List ℕ) → Rounds may reads writes written n s from so_far items answers t to now → f to ≡ f from
  kept_in_rounds n s from so_far [] [] t to now (same_seat, same_line, same_bytes) = ap f same_line
  kept_in_rounds n s from so_far [] (a ∷ answers) t to now r = absurd r
  kept_in_rounds n s from so_far (i ∷ items) [] t to now r = absurd r
  kept_in_rounds n s from so_far (i ∷ items) (a ∷ answers) t to now (mid, asked, answered, then, wait, h, wrote, said, rest) =
      kept_in_rounds (n + 1) mid answered then items answers t to now rest ∙ kept_by_writes writes f write_law asked answered wrote ∙ kept_by_reads reads f read_law (HasNoMoreThan n) from asked so_far then Open wait

  pub kept_in_turns : (s : S) (from to : L) (bytes : List ℕ) (ended : Type 0) (last : Last) → IsInTurns may reads writes written s from to bytes ended last → f to ≡ f from
  kept_in_turns s from to bytes ended last turns =
      kept_by_writes writes f write_law turns.waited to turns.last_answer ∙ kept_by_reads reads f read_law (HasNoMoreThan (length turns.items)) turns.at turns.waited turns.now bytes last turns.wait
      ∙ kept_in_rounds 0 s from [] turns.items turns.answers turns.mid turns.at turns.now turns.rounds

module _ {S L : Type 0} (may : May S) (reads writes : Step L) (left written : L → Option (List ℕ)) (quiet_read : (a b : L) (g : Option (List ℕ)) → reads a g b → written b ≡ written a) (quiet_write : (a b : L) (g : Option (List ℕ)) → writes a g b → left b ≡ left a)
    (s t : S) (from mid : L) (bytes rest : List ℕ) (n : ℕ) (so_far : IsBetween may s t (written from) (written mid) bytes rest n) (rounds : Rounds may reads writes written 0 s from [] so_far.items so_far.talk.answers t mid bytes)
    (first : Grown (left from) (left mid) [] bytes) (needed : IsReadAsNeeded bytes)
    (waited : L) (all : List ℕ) (more : Grown (left mid) (left waited) rest all) (was : IsReadWhile IsUnfinished rest all) (last : Last) (wait : GrownByReads reads IsUnfinished mid waited rest all last) where
  -- nothing was written in the wait
  same_written : written waited ≡ written mid
  same_written = kept_by_reads reads written quiet_read IsUnfinished mid waited rest all last wait

  -- nothing was read while an answer was written
  same_left : (to : L) → ByWrites writes waited to → left to ≡ left waited
  same_left to wrote = kept_by_writes writes left quiet_write waited to wrote

  -- each read of the wait was made while the bytes had no whole item but those that were answered
  still_no_more : GrownByReads reads (HasNoMoreThan (length so_far.items)) mid waited bytes (bytes ++ more.got) last
  still_no_more =
      let same = append_cancel_left rest more.got (joined wait.pieces) (sym more.grown ∙ wait.grown) in
      read_as reads IsUnfinished (HasNoMoreThan (length so_far.items)) mid waited rest bytes all more.got last
      (no_more may s t (written from) (written mid) bytes rest n so_far more.got all more.grown) wait same

  -- the session ends here
  line_session : (to : L) (u : S) (end_ : SessionEnd) → ByWrites writes waited to → IsLastRead end_ last → IsEnd may s u (written from) (written to) (bytes ++ more.got) (left to) end_
      → IsLineSession may reads writes left written s u from to end_
  line_session to u end_ wrote said ended =
      record {
        bytes = bytes ++ more.got;
        grown = record { got = first.got ++ more.got; consumes = Consumes-trans (left from) (left mid) (left to) first.got more.got first.consumes (subst (λ l. Consumes (left mid) l more.got) (sym (same_left to wrote)) more.consumes); grown = ap (λ l. l ++ more.got) first.grown };
        ends = ended;
        needed = still_needed may s t (written from) (written mid) bytes rest n so_far more.got all more.grown needed was;
        last = last;
        last_is = said;
        turns = record {
          items = so_far.items;
          answers = so_far.talk.answers;
          rest = all;
          items_are = waiting may s t (written from) (written mid) bytes rest n so_far more.got all more.grown (IsAtEnd (left to));
          mid = t;
          at = mid;
          waited = waited;
          now = bytes;
          rounds = rounds;
          wait = still_no_more;
          last_answer = wrote;
        };
      }

  -- what stands next does so too at the end
  item_at : (to : L) (item : Item) (kept : List ℕ) → ByWrites writes waited to → IsItem n all (IsAtEnd (left waited)) item kept → IsItem n all (IsAtEnd (left to)) item kept
  item_at to item kept wrote q = subst (λ l. IsItem n all (IsAtEnd l) item kept) (sym (same_left to wrote)) q

  -- the next item was answered, and closes the connection
  pub line_closes : (to : L) (u : S) (item : Item) (kept : List ℕ) (a : Answer) (text : List ℕ) (count : ℕ) → ByWrites writes waited to → (last ≡ Open) ⊎ (last ≡ Told) → IsItem n all (IsAtEnd (left waited)) item kept → closes item ≡ true
      → Appends (written waited) (written to) text → text ≡ text_of a item → Answered may t item a u → count ≡ n + 1 → IsLineSession may reads writes left written s u from to (Closed count)
  line_closes to u item kept a text count wrote told q c said e h k =
      let closed = closes_now may s t (written from) (written mid) bytes rest n so_far more.got all more.grown (IsAtEnd (left to)) item kept a u (written to) text (item_at to item kept wrote q) c
      (subst (λ w. Appends w (written to) text) same_written said) e h in
      line_session to u (Closed count) wrote told (subst (λ m. IsClosed may s u (written from) (written to) (bytes ++ more.got) (IsAtEnd (left to)) m) (sym k) closed)

  -- the answer to the next item could not be written
  pub line_unsaid : (to : L) (u : S) (item : Item) (kept : List ℕ) (a : Answer) (text : List ℕ) → ByWrites writes waited to → (last ≡ Open) ⊎ (last ≡ Told) → IsItem n all (IsAtEnd (left waited)) item kept
      → AppendsLess (written waited) (written to) text → text ≡ text_of a item → Answered may t item a u → IsLineSession may reads writes left written s u from to SinkFault
  line_unsaid to u item kept a text wrote told q said e h =
      line_session to u SinkFault wrote told
      (unsaid may s t (written from) (written mid) bytes rest n so_far more.got all more.grown (IsAtEnd (left to)) item kept a u (written to) text (item_at to item kept wrote q)
      (subst (λ w. AppendsLess w (written to) text) same_written said) e h)

  -- nothing was written behind the wait
  session_waited : (u : S) (end_ : SessionEnd) → IsLastRead end_ last → IsEnd may s u (written from) (written mid) (bytes ++ more.got) (left waited) end_ → IsLineSession may reads writes left written s u from waited end_
  session_waited u end_ said ended =
      line_session waited u end_ (write_nothing writes waited waited refl) said (subst (λ w. IsEnd may s u (written from) w (bytes ++ more.got) (left waited) end_) (sym same_written) ended)

  -- memory ran out at a request
  pub line_starved_at : (u : S) (r : Framed) (kept : List ℕ) → last ≡ Open → IsItem n all (IsAtEnd (left waited)) (Asks r) kept → IsLeft may t r u → IsLineSession may reads writes left written s u from waited Memory
  line_starved_at u r kept said q h = session_waited u Memory said (starved_at may s t (written from) (written mid) bytes rest n so_far more.got all more.grown (IsAtEnd (left waited)) r kept u q h)

  -- memory ran out
  pub line_starved : last ≡ Open → IsLineSession may reads writes left written s t from waited Memory
  line_starved said = session_waited t Memory said (inl (starved may s t (written from) (written mid) bytes rest n so_far more.got all more.grown t refl))

  -- the input ended
  pub line_ends : (count : ℕ) → last ≡ Told → IsAtEnd (left waited) → all ≡ [] → count ≡ n → IsLineSession may reads writes left written s t from waited (Closed count)
  line_ends count said end_ none k =
      session_waited t (Closed count) (inr said)
      (subst (λ m. IsClosed may s t (written from) (written mid) (bytes ++ more.got) (IsAtEnd (left waited)) m) (sym k) (ends may s t (written from) (written mid) bytes rest n so_far more.got all more.grown (IsAtEnd (left waited)) end_ none))

  -- the source failed
  pub line_cut_short : last ≡ Failed → IsUnfinished all → IsLineSession may reads writes left written s t from waited SourceFault
  line_cut_short said u = session_waited t SourceFault said (cut_short may s t (written from) (written mid) bytes rest n so_far more.got all more.grown u)

  -- the next item was answered, and the connection stays open
  pub line_goes_on : (to : L) (u : S) (item : Item) (kept : List ℕ) (a : Answer) (text : List ℕ) (count : ℕ) → last ≡ Open → ByWrites writes waited to → IsItem n all (IsAtEnd (left waited)) item kept → closes item ≡ false → n + 1 ≤ 999
      → Appends (written waited) (written to) text → text ≡ text_of a item → Answered may t item a u → count ≡ n + 1
      → (between : IsBetween may s u (written from) (written to) (bytes ++ more.got) kept count) × Rounds may reads writes written 0 s from [] between.items between.talk.answers u to (bytes ++ more.got)
  unfolding goes_on talked
  line_goes_on to u item kept a text count open_ wrote q o few said e h k =
      let round = rounds_more may reads writes written 0 (length so_far.items) s from [] so_far.items so_far.talk.answers t mid bytes item a u waited to (bytes ++ more.got) rounds (sym (zero-add (length so_far.items)))
      (subst (λ l. GrownByReads reads (HasNoMoreThan (length so_far.items)) mid waited bytes (bytes ++ more.got) l) open_ still_no_more) h wrote (subst (Appends (written waited) (written to)) e said) in
      subst (λ (m : ℕ). (between : IsBetween may s u (written from) (written to) (bytes ++ more.got) kept m) × Rounds may reads writes written 0 s from [] between.items between.talk.answers u to (bytes ++ more.got)) (sym k) (
        goes_on may s t (written from) (written mid) bytes rest n so_far more.got all more.grown (IsAtEnd (left waited)) item kept a u (written to) text q o few (subst (λ w. Appends w (written to) text) same_written said) e h,
        round,
      )

  -- all that was read by then
  pub line_total : (to : L) → ByWrites writes waited to → Grown (left from) (left to) [] (bytes ++ more.got)
  line_total to wrote =
      record { got = first.got ++ more.got; consumes = Consumes-trans (left from) (left mid) (left to) first.got more.got first.consumes (subst (λ l. Consumes (left mid) l more.got) (sym (same_left to wrote)) more.consumes); grown = ap (λ l. l ++ more.got) first.grown }

  -- no more was read than was needed
  pub line_needed : IsReadAsNeeded (bytes ++ more.got)
  line_needed = still_needed may s t (written from) (written mid) bytes rest n so_far more.got all more.grown needed was

module _ {L : Type 0} (reads : Step L) (source sink : L → ℕ) (quiet_read : (a b : L) (g : Option (List ℕ)) → reads a g b → sink b ≡ sink a)
    (from mid waited : L) (rest all : List ℕ) (last : Last) (wait : GrownByReads reads IsUnfinished mid waited rest all last) (source_so_far : source mid ≡ source from) (sink_so_far : sink mid ≡ sink from) where
  sink_waited : sink waited ≡ sink from
  sink_waited = kept_by_reads reads sink quiet_read IsUnfinished mid waited rest all last wait ∙ sink_so_far

  -- the session ends with a read that failed
  pub cause_source : source mid ≤ source waited → Rose (source mid) (source waited) → HasEndCause (source from) (source waited) (sink from) (sink waited) SourceFault
  cause_source later rose =
      record {
        source_later = subst (λ n. n ≤ source waited) source_so_far later;
        source = λ e. subst (λ n. Rose n (source waited)) source_so_far rose;
        source_kept = inl refl;
        sink_later = omega (arith, sink_waited);
        sink = λ e. cc e;
        sink_kept = inr sink_waited;
      }

-- the source did not fail in the last wait
module _ {L : Type 0} (reads writes : Step L) (source sink : L → ℕ) (quiet_read : (a b : L) (g : Option (List ℕ)) → reads a g b → sink b ≡ sink a) (quiet_write : (a b : L) (g : Option (List ℕ)) → writes a g b → source b ≡ source a)
    (from mid waited : L) (rest all : List ℕ) (last : Last) (wait : GrownByReads reads IsUnfinished mid waited rest all last) (source_so_far : source mid ≡ source from) (sink_so_far : sink mid ≡ sink from) (source_same : source waited ≡ source mid) where
  sink_still : sink waited ≡ sink from
  sink_still = sink_waited reads source sink quiet_read from mid waited rest all last wait source_so_far sink_so_far

  -- the session ends behind a wait
  pub cause_waited : (end_ : SessionEnd) → (end_ ≡ SourceFault → ⊥) → (end_ ≡ SinkFault → ⊥) → HasEndCause (source from) (source waited) (sink from) (sink waited) end_
  cause_waited end_ no_source no_sink =
      record {
        source_later = omega (arith, source_same, source_so_far);
        source = λ e. absurd (no_source e);
        source_kept = inr (source_same ∙ source_so_far);
        sink_later = omega (arith, sink_still);
        sink = λ e. absurd (no_sink e);
        sink_kept = inr sink_still;
      }

  -- no count rose by the time an answer was written
  pub source_put : (to : L) → ByWrites writes waited to → source to ≡ source from
  source_put to wrote = kept_by_writes writes source quiet_write waited to wrote ∙ source_same ∙ source_so_far

  pub sink_put : (to : L) → HasPutCause (sink waited) (sink to) Whole → sink to ≡ sink from
  sink_put to h = h ∙ sink_still

  sink_after : (to : L) (put : PutEnd) → HasPutCause (sink waited) (sink to) put → sink from ≤ sink to
  sink_after to Whole h = omega (arith, sink_still, h)
  sink_after to PutFault h = omega (arith, sink_still, h.0)

  sink_unless : (to : L) (put : PutEnd) (end_ : SessionEnd) → HasPutCause (sink waited) (sink to) put → (put ≡ PutFault → end_ ≡ SinkFault) → (end_ ≡ SinkFault) ⊎ (sink to ≡ sink from)
  sink_unless to Whole end_ h is_end = inr (sink_put to h)
  sink_unless to PutFault end_ h is_end = inl (is_end refl)

  -- the session ends behind an answer
  pub cause_put : (to : L) (put : PutEnd) (end_ : SessionEnd) → ByWrites writes waited to → HasPutCause (sink waited) (sink to) put → (end_ ≡ SourceFault → ⊥) → (end_ ≡ SinkFault → put ≡ PutFault) → (put ≡ PutFault → end_ ≡ SinkFault)
      → HasEndCause (source from) (source to) (sink from) (sink to) end_
  cause_put to put end_ wrote h no_source is_put is_end =
      record {
        source_later = omega (arith, source_put to wrote);
        source = λ e. absurd (no_source e);
        source_kept = inr (source_put to wrote);
        sink_later = sink_after to put h;
        sink = λ e.
            let fault : HasPutCause (sink waited) (sink to) PutFault = subst (HasPutCause (sink waited) (sink to)) (is_put e) h in
            subst (λ n. Rose n (sink to)) sink_still fault.1;
        sink_kept = sink_unless to put end_ h is_end;
      }
