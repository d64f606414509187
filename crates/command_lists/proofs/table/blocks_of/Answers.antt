use Rattle.command_lists.proofs.Listed.{listed_more}
use Rattle.command_lists.proofs.table.blocks_of.Goals as goal

pub prefixes-preserved : goal.prefixes-preserved
prefixes-preserved g c =
    listed_more c.args.table c.args.family c.args.counted c.args.register.now.state.prefixes.rows c.prefixes.index c.prefix_at-row.result.now c.prefixes.blocks.items _
    c.prefix_at-row.ensures c.prefixes.invariant c.in_ok-keep_listed.ensures
