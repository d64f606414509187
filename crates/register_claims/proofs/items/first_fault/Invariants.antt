use Rattle.std.proofs.Common.{◌≡◌, drop}
use Rattle.std.specs.List.{flat_map}
use Rattle.ipam_data.specs.Checks.{first}
use Rattle.ipam_data.specs.Claims.{told_of_block}
use Rattle.register_tables.specs.Held.{state_of}
use Rattle.register_claims.proofs.items.first_fault.Given as goal

abbrev pub invariant-items : goal.invariant-items
invariant-items l = first (flat_map (told_of_block (state_of l.row_tables) l.row) l.items) ≡ first (flat_map (told_of_block (state_of l.row_tables) l.row) (drop l.item-index l.items))
