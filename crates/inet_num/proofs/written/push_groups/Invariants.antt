use Rattle.std.proofs.Common.{◌≡◌, ◌+◌, ◌*◌, ◌≤◌, ◌∷◌, ◌++◌, get_or, take}
use Rattle.std.specs.Net.Text.{groups_text}
use Rattle.arrayvec.specs.ArrayVec.{array_vec_len}
use Rattle.inet_num.proofs.written.push_groups.Given as goal

abbrev pub invariant-loop-group : goal.invariant-loop-group
invariant-loop-group l = record {
  items : l.text.items ≡ l.fn.text.items ++ groups_text (get_or l.groups 0 0 ∷ take l.group-index l.rest);
  len : array_vec_len l.text ≤ array_vec_len l.fn.text + 5 * (l.group-index + 1);
}
