-- One more read.
use Rattle.std.proofs.Common.{List, ℕ, Ok, Err, refl}
use Rattle.ipam_edge.specs.Reading.{GrownByReads, Open, Told, Failed, Step}
use Rattle.ipam_edge.proofs.ReadingLemmas.{read_end, read_fault, read_nothing, read_piece, read_then}
use Rattle.http_session.specs.declared.wait.Short.TheVariants as short
use Rattle.http_session.specs.declared.wait.Short.{Short}
use Rattle.http_session.specs.Steps.{IsPieceRead, IsReadUntil, IsShortLast}

module _ {S : Type 0} (step : Step S) (P : List ℕ → Type 0) (s m t : S) (old now new : List ℕ) (so_far : GrownByReads step P s m old now Open) (here : P now) where
  -- that added a piece
  pub one_more : IsPieceRead step m t now new (Ok tt) → GrownByReads step P s t old new Open
  one_more (piece, some, stepped, e) = read_then step P s m t old now new Open so_far (read_piece step P m t now new piece here some stepped e)

  -- that said the end
  pub the_end : IsPieceRead step m t now new (Err short.End) → GrownByReads step P s t old new Told
  the_end (stepped, e) = read_then step P s m t old now new Told so_far (read_end step P m t now new here stepped e)

  -- that failed
  pub the_fault : IsPieceRead step m t now new (Err short.SourceFault) → GrownByReads step P s t old new Failed
  the_fault (stepped, e) = read_then step P s m t old now new Failed so_far (read_fault step P m t now new here stepped e)

  -- none, for lack of memory
  pub none_more : IsPieceRead step m t now new (Err short.Memory) → GrownByReads step P s t old new Open
  none_more (same, e) = read_then step P s m t old now new Open so_far (read_nothing step P m t now new same e)

  -- whatever it said but bytes
  pub short_reads : (e : Short) → IsPieceRead step m t now new (Err e) → IsReadUntil step P s t old new (λ last. IsShortLast (Err e) last)
  short_reads short.End h = (Told, refl, the_end h)
  short_reads short.SourceFault h = (Failed, refl, the_fault h)
  short_reads short.Memory h = (Open, refl, none_more h)
