use Rattle.snapshot_rows.proofs.Following.{lists_follow}
use Rattle.snapshot_rows.proofs.rows.lists_follow.Goals as goal

pub returns : goal.returns
returns c = lists_follow
