use Rattle.ipam_json.specs.Replies.{addr_data}
use Rattle.ipam_json.proofs.Pieces.{wrote, after, as_pieces, rows_end}
use Rattle.ipam_json.proofs.available.put_addrs.Goals as goal

pub returns : goal.returns
returns c =
    after (wrote c.in_ok-begin_array.ensures)
    (as_pieces (rows_end (addr_data c.args.vrf c.args.len) c.args.addrs.now)
    (after c.in_ok-put_each_addr.ensures
    (wrote c.end_array.ensures)))
