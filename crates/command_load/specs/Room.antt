-- The block of `load` has room for its claims.
use Rattle.std.specs.Prelude.{ℕ, ◌+◌, ◌≤◌}
use Rattle.command_load.specs.LoadText.{load_len}
use Rattle.command_load.specs.Histories.{HasRoomFor}

-- for 1 to 100,000 claims, with the entry of the prefix
abbrev pub LoadHasRoom : Type 0
LoadHasRoom = (claims : ℕ) → 1 ≤ claims → claims ≤ 100000 → HasRoomFor (load_len claims) (claims + 1)
