use Rattle.ipam_json.proofs.Pieces.{wrote, after, as_number}
use Rattle.pool_json.proofs.rows.put_number.Goals as goal

pub returns : goal.returns
returns c = as_number c.from.ensures (after (wrote c.in_ok-key.ensures) (wrote c.u64.ensures))
