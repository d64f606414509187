use Rattle.std.proofs.Common.{◌≡◌, take}
use Rattle.command_lists.specs.Tables.{blocks_listed}
use Rattle.command_lists.proofs.table.blocks_of.Given as goal

abbrev pub invariant-prefixes : goal.invariant-prefixes
invariant-prefixes g l = l.blocks.items ≡ blocks_listed l.table l.family l.counted (take l.index l.register.state.prefixes.rows)
