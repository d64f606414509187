use Rattle.ipam_json.specs.Replies.{addr_data}
use Rattle.ipam_json.proofs.Pieces.{after, as_pieces, rows_more}
use Rattle.ipam_json.proofs.available.put_each_addr.Goals as goal

pub loop-addr-preserved : goal.loop-addr-preserved
loop-addr-preserved c =
    as_pieces (rows_more (addr_data c.args.vrf c.args.len) c.args.addrs.now c.loop-addr.addr-index c.addr-item.result c.loop-addr-test.true c.addr-item.is)
    (after c.loop-addr.invariant c.in_ok-put_addr.ensures)
