use Rattle.ipam_json.specs.Values.{number_data}
use Rattle.ipam_json.proofs.Pieces.{wrote, after, as_pieces, rows_end}
use Rattle.pool_json.proofs.rows.put_numbers.Goals as goal

pub returns : goal.returns
returns c =
    after (wrote c.in_ok-begin_array.ensures)
    (as_pieces (rows_end number_data c.args.numbers.now)
    (after c.in_ok-put_each_number.ensures
    (wrote c.end_array.ensures)))
