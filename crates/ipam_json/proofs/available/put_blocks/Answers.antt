use Rattle.ipam_json.specs.Replies.{block_data}
use Rattle.ipam_json.proofs.Pieces.{wrote, after, as_pieces, rows_end}
use Rattle.ipam_json.proofs.available.put_blocks.Goals as goal

pub returns : goal.returns
returns c =
    after (wrote c.in_ok-begin_array.ensures)
    (as_pieces (rows_end (block_data c.args.vrf) c.args.blocks.now)
    (after c.in_ok-put_each_block.ensures
    (wrote c.end_array.ensures)))
