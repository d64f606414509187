use Rattle.std.proofs.Common.{sym, subst}
use Rattle.std.specs.declared.alloc.AllocError.{AllocError}
use Rattle.ipam_data.specs.declared.replies.View.{View}
use Rattle.ipam_json.specs.Replies.{view_data}
use Rattle.ipam_json.specs.Written.{Puts, pieces_of}
use Rattle.ipam_json.proofs.rows.put_view.Goals as goal

pub returns-in-IpRange : goal.returns-in-IpRange
returns-in-IpRange c =
    subst (λ (view : View). Puts {E = AllocError} c.put_range.result c.args.writer.now c.put_range.new.writer (pieces_of (view_data view))) (sym c.in-IpRange.is) c.put_range.ensures
