-- When a session reads and when it writes, on a line: a source and a sink in one object.
use Rattle.std.specs.Prelude.{◌≡◌, ◌⊎◌, ◌≤◌, ◌+◌, ℕ, List, [], ◌∷◌, length, Option}
use Rattle.std.specs.Io.KnownBytes.{Appends, IsAtEnd}
use Rattle.ipam_edge.specs.Faults.{Rose}
use Rattle.ipam_edge.specs.Reading.{GrownByReads, Last, Open, Step}
use Rattle.ipam_edge.specs.Writing.{ByWrites}
use Rattle.http_session.specs.Requests.{AreItems, Item}
use Rattle.http_session.specs.Talk.{Answer, Answered, May, text_of}
use Rattle.http_session.specs.Steps.{Grown}
use Rattle.http_session.specs.Ends.{HasNoNext, IsEnd, IsLastRead, IsReadAsNeeded}
use Rattle.http_session.specs.declared.session.SessionEnd.{SessionEnd}
use Rattle.http_session.specs.declared.session.SessionEnd.TheVariants.{SourceFault, SinkFault}

-- the bytes have n whole items, which leave the connection open, and no whole next one
pub record HasNoMoreThan (n : ℕ) (bytes : List ℕ) : Type 0 where
  pub next : HasNoNext bytes
  pub count : length next.items ≡ n

-- one item after another was read and then answered, from number n on: each read was made while the bytes had no whole item but those
-- that were answered before, and then the answer's whole text was written, with no read between
abbrev pub Rounds : {S L : Type 0} → May S → Step L → Step L → (L → Option (List ℕ)) → ℕ → S → L → List ℕ → List Item → List Answer → S → L → List ℕ → Type 0
Rounds may reads writes written n s from so_far [] [] t to now = (t ≡ s) × (to ≡ from) × (now ≡ so_far)
Rounds {S} {L} may reads writes written n s from so_far (item ∷ items) (a ∷ answers) t to now =
    (mid : S) × (asked : L) × (answered : L) × (then : List ℕ)
    × GrownByReads reads (HasNoMoreThan n) from asked so_far then Open
    × Answered may s item a mid
    × ByWrites writes asked answered
    × Appends (written asked) (written answered) (text_of a item)
    × Rounds may reads writes written (n + 1) mid answered then items answers t to now
Rounds may reads writes written n s from so_far [] (a ∷ answers) t to now = ⊥
Rounds may reads writes written n s from so_far (item ∷ items) [] t to now = ⊥

-- all reads of a session: those of the rounds, and those of the last wait, which too were made while the bytes had no whole item but
-- those that were answered; what was written after the last wait, the last answer or a prefix of it, no read followed
pub record IsInTurns {S L : Type 0} (may : May S) (reads writes : Step L) (written : L → Option (List ℕ)) (s : S) (from to : L) (bytes : List ℕ) (ended : Type 0) (last : Last) : Type 0 where
  pub items : List Item
  pub answers : List Answer
  pub rest : List ℕ
  pub items_are : AreItems 0 bytes ended items rest
  pub mid : S
  pub at : L
  pub waited : L
  pub now : List ℕ
  pub rounds : Rounds may reads writes written 0 s from [] items answers mid at now
  pub wait : GrownByReads reads (HasNoMoreThan (length items)) at waited now bytes last
  pub last_answer : ByWrites writes waited to

-- a session on a line: the bytes that it read, its end, and its reads and writes, in turns
pub record IsLineSession {S L : Type 0} (may : May S) (reads writes : Step L) (left written : L → Option (List ℕ)) (s t : S) (from to : L) (end_ : SessionEnd) : Type 0 where
  pub bytes : List ℕ
  pub grown : Grown (left from) (left to) [] bytes
  pub ends : IsEnd may s t (written from) (written to) bytes (left to) end_
  pub needed : IsReadAsNeeded bytes
  pub last : Last
  pub last_is : IsLastRead end_ last
  pub turns : IsInTurns may reads writes written s from to bytes (IsAtEnd (left to)) last

-- a session ends with a fault only if the count of the side that failed rose; a count rises with no other end, and none falls
pub record HasEndCause (source_old source_new sink_old sink_new : ℕ) (end_ : SessionEnd) : Type 0 where
  pub source_later : source_old ≤ source_new
  pub source : end_ ≡ SourceFault → Rose source_old source_new
  pub source_kept : (end_ ≡ SourceFault) ⊎ (source_new ≡ source_old)
  pub sink_later : sink_old ≤ sink_new
  pub sink : end_ ≡ SinkFault → Rose sink_old sink_new
  pub sink_kept : (end_ ≡ SinkFault) ⊎ (sink_new ≡ sink_old)
