-- What is known of the connections that went through a lane and a listener.
use Rattle.std.specs.Prelude.{option_map, ◌≡◌, ◌<◌, ◌⊎◌, ◌-◌, ◌^◌, ◌≤◌, ℕ, List, [], ◌∷◌, ◌++◌, Option, Some, None, Result, Ok, Err}

-- both ends of a connection at one time: the bytes that are left to read and those that were written, if they are known, and how
-- often each end has failed
pub record Ends : Type 0 where
  pub left : Option (List ℕ)
  pub written : Option (List ℕ)
  pub source_faults : ℕ
  pub sink_faults : ℕ

-- these four as one value
abbrev pub ends_of : Option (List ℕ) → Option (List ℕ) → ℕ → ℕ → Ends
ends_of left written source_faults sink_faults =
    record { left = left; written = written; source_faults = source_faults; sink_faults = sink_faults }

-- a connection: its ends as it was handed out, and as it was taken back, once it was
pub record Connection : Type 0 where
  pub before : Ends
  pub after : Option Ends

-- it is out
abbrev pub handed_out : Ends → Connection
handed_out before = record { before = before; after = None }

-- it was taken back
abbrev pub finished : Ends → Ends → Connection
finished before after = record { before = before; after = Some after }

-- the last of them is taken back
abbrev pub last_finished : List Connection → Ends → List Connection
last_finished [] after = []
last_finished (c ∷ []) after = finished c.before after ∷ []
last_finished (c ∷ d ∷ cs) after = c ∷ last_finished (d ∷ cs) after

-- the last of them is out
abbrev pub IsLastOut : List Connection → Type 0
IsLastOut [] = ⊥
IsLastOut (c ∷ []) = c.after ≡ None
IsLastOut (c ∷ d ∷ cs) = IsLastOut (d ∷ cs)

-- the known connections of the lane after an accept: one more at the end if it handed one out, and else the same
abbrev pub told_after_accept : {In Out E : Type 0} → (In → Out → Ends) → Option (List Connection) → Result (Option (In × Out)) E → Option (List Connection)
told_after_accept seen told (Ok (Some pair)) = option_map (λ cs. cs ++ handed_out (seen pair.0 pair.1) ∷ []) told
told_after_accept seen told (Ok None) = told
told_after_accept seen told (Err e) = told

-- an accept answers None exactly if none was left
abbrev pub IsNoneExactly : {P E : Type 0} → ℕ → Result (Option P) E → Type 0
IsNoneExactly accepts (Ok None) = accepts ≡ 0
IsNoneExactly accepts (Ok (Some pair)) = 0 < accepts
IsNoneExactly accepts (Err e) = 0 < accepts

-- what a listener is bound to: a place, and how many connections each lane may accept
pub record Binding : Type 0 where
  pub place : List ℕ
  pub connections : ℕ

-- these two as one value
abbrev pub binding : List ℕ → ℕ → Binding
binding place connections = record { place = place; connections = connections }

-- a lane that was given back: the known connections of the lane, and the accepts that it had left
pub record Returned : Type 0 where
  pub told : Option (List Connection)
  pub accepts : ℕ

-- a count that rises exactly if something failed, and stays at the last value of a u64
pub record RisesExactly (failed : Type 0) (old new : ℕ) : Type 0 where
  pub later : old ≤ new
  pub rose : failed → (old < new) ⊎ (2 ^ 64 - 1 ≤ new)
  pub only : old < new → failed
