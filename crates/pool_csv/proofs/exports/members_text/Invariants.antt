use Rattle.std.proofs.Common.{◌≡◌, ◌++◌, take}
use Rattle.std.specs.List.{flat_map}
use Rattle.csv.specs.Writing.{default_writer, row_text}
use Rattle.pool_csv.specs.Exports.{member_header, member_line}
use Rattle.pool_csv.proofs.exports.members_text.Given as goal

abbrev pub invariant-loop-member : goal.invariant-loop-member
invariant-loop-member l =
    l.text.items ≡ row_text default_writer (member_header l.fn.kind) ++ flat_map (member_line l.fn.kind l.rows.pools.ranges.rows) (take l.member-index l.rows.pools.members.rows)
