use Rattle.route_table.proofs.Table.{refused_read}
use Rattle.route_table.proofs.put.Goals as goal

pub memory_of-requires : goal.memory_of-requires
memory_of-requires g c = refused_read c.args.text.now c.args.value c.args.router.now c.insert.new.self c.insert.result c.in-Err.error c.requires c.in-Err.is c.insert.ensures
