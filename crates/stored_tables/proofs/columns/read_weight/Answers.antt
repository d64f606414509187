use Rattle.std.proofs.Common.{◌≤◌, arith}
use Rattle.stored_tables.proofs.ColumnLaws.{no_heavy}
use Rattle.stored_tables.proofs.columns.read_weight.Goals as goal

pub returns-then-n-gt32767 : goal.returns-then-n-gt32767
returns-then-n-gt32767 c = λ w h e. let l : c.in-Some.n ≤ 32767 = no_heavy c.in-Some.n w c.args.text.now c.in-Some.ensures h e in omega arith
