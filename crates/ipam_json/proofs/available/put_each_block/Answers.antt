use Rattle.ipam_json.specs.Replies.{block_data}
use Rattle.ipam_json.proofs.Pieces.{after, as_pieces, rows_more}
use Rattle.ipam_json.proofs.available.put_each_block.Goals as goal

pub loop-block-preserved : goal.loop-block-preserved
loop-block-preserved c =
    as_pieces (rows_more (block_data c.args.vrf) c.args.blocks.now c.loop-block.block-index c.block-item.result c.loop-block-test.true c.block-item.is)
    (after c.loop-block.invariant c.in_ok-put_block.ensures)
