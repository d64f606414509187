-- Rows put one after another: those from before stay, and new ones have rising ids.
use Rattle.std.specs.Prelude.{ℕ, ◌<◌, List, IsSome}
use Rattle.ipam_data.specs.Rows.{vrf_id, prefix_id}
use Rattle.ipam_data.specs.RowList.{row_at, AllBelow}
use Rattle.ipam_data.specs.State.{State}
use Rattle.snapshot_rows.specs.declared.checks.Lasts.{Lasts}

-- the rows from before, and new ones whose ids are at most the last
pub record Ahead {T : Type 0} (id : T → ℕ) (before rows : List T) (last : ℕ) : Type 0 where
  pub there : (n : ℕ) → IsSome (row_at id before n) → IsSome (row_at id rows n)
  pub below : (n : ℕ) → last < n → AllBelow id n before → AllBelow id n rows

-- the same of both kinds
pub record IsAhead (before s : State) (lasts : Lasts) : Type 0 where
  pub vrfs : Ahead vrf_id before.vrfs.rows s.vrfs.rows lasts.vrf
  pub prefixes : Ahead prefix_id before.prefixes.rows s.prefixes.rows lasts.prefix
