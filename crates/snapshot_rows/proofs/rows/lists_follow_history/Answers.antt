use Rattle.snapshot_rows.proofs.Following.{history_follows}
use Rattle.snapshot_rows.proofs.rows.lists_follow_history.Goals as goal

pub returns : goal.returns
returns c = history_follows
