use Rattle.ipam_json.proofs.Pieces.{wrote, after}
use Rattle.pool_json.proofs.rows.put_text.Goals as goal

pub returns : goal.returns
returns c = after (wrote c.in_ok-key.ensures) (wrote c.string.ensures)
