use Rattle.ipam_json.proofs.Pieces.{wrote}
use Rattle.pool_json.proofs.Told.{as_number}
use Rattle.pool_json.proofs.rows.put_one_number.Goals as goal

pub returns : goal.returns
returns c = as_number c.from.ensures (wrote c.u64.ensures)
