-- How the listening went, and the lanes that were given back.
use Rattle.std.specs.Prelude.{ℕ, List, Option}
use Rattle.ipam_listen.specs.Connections.{Connection, Returned}
use Rattle.http_lanes.specs.declared.listening.Listening.{Listening}
use Rattle.http_lanes.specs.declared.listening.Listening.TheVariants.{Whole, Broken}

-- with all lanes and no fault, or with a fault
abbrev pub IsListening : Type 0 → Type 0 → Listening → Type 0
IsListening came failed Whole = came
IsListening came failed Broken = failed

-- a lane as the listener shows it once it has it back
abbrev pub returned_as : {L : Type 0} → (L → Option (List Connection)) → (L → ℕ) → L → Returned
returned_as told accepts lane = record { told = told lane; accepts = accepts lane }
