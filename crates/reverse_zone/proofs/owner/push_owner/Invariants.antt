use Rattle.std.proofs.Common.{◌≡◌, ◌+◌, ◌*◌, ◌≤◌, ◌++◌}
use Rattle.arrayvec.specs.ArrayVec.{array_vec_len}
use Rattle.reverse_zone.specs.Owners.{labels_of, owner_of}
use Rattle.reverse_zone.proofs.owner.push_owner.Given as goal

abbrev pub invariant-loop-count : goal.invariant-loop-count
invariant-loop-count l = record {
  items : l.line.items ++ labels_of l.family l.count l.left ≡ l.fn.line.items ++ owner_of l.fn.host;
  room : array_vec_len l.line + 4 * l.count ≤ 128;
}

abbrev pub decreases-loop-count : goal.decreases-loop-count
decreases-loop-count l = l.count
