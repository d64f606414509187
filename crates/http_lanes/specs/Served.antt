-- Connections that a request handler served, one after another.
use Rattle.std.specs.Prelude.{◌≡◌, ◌⊎◌, ℕ, List, [], ◌∷◌, Option, Some, IfSome}
use Rattle.ipam_edge.specs.Faults.{Rose}
use Rattle.ipam_listen.specs.Connections.{Connection, Ends}
use Rattle.http_session.specs.Steps.{Grown}
use Rattle.http_session.specs.Talk.{May}
use Rattle.http_session.specs.Ends.{IsEnd, IsReadAsNeeded}
use Rattle.http_session.specs.declared.session.SessionEnd.{SessionEnd}
use Rattle.http_session.specs.declared.session.SessionEnd.TheVariants.{SourceFault, SinkFault}

-- a connection was served to its end, which is one of four; the seat was seen as s and is seen as t
pub record IsServed {V : Type 0} (may : May V) (before after : Ends) (s t : V) : Type 0 where
  pub bytes : List ℕ
  pub how : SessionEnd
  -- what was read
  pub grown : Grown before.left after.left [] bytes
  pub needed : IsReadAsNeeded bytes
  -- what was answered and written
  pub talk : IsEnd may s t before.written after.written bytes after.left how
  -- a fault of an end is returned only if its count rose, which it does with no other end
  pub source : how ≡ SourceFault → Rose before.source_faults after.source_faults
  pub source_kept : (how ≡ SourceFault) ⊎ (after.source_faults ≡ before.source_faults)
  pub sink : how ≡ SinkFault → Rose before.sink_faults after.sink_faults
  pub sink_kept : (how ≡ SinkFault) ⊎ (after.sink_faults ≡ before.sink_faults)

-- a connection was served, and taken back by its lane
abbrev pub IsServedWhole : {V : Type 0} → May V → Connection → V → V → Type 0
IsServedWhole may c s t = (after : Ends) × (c.after ≡ Some after) × IsServed may c.before after s t

-- connections were served one after another, and taken back
abbrev pub AreServed : {V : Type 0} → May V → List Connection → V → V → Type 0
AreServed may [] s t = t ≡ s
AreServed {V} may (c ∷ cs) s t = (mid : V) × IsServedWhole may c s mid × AreServed may cs mid t

-- the seat served all known connections of the lane
pub record HasServed {V : Type 0} (may : May V) (s t : V) (told : Option (List Connection)) : Type 0 where
  pub connections : List Connection
  pub told_are : IfSome told (λ all. all ≡ connections)
  pub served : AreServed may connections s t
