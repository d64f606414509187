use Rattle.std.proofs.Common.{◌≤◌, ◌*◌, ◌/◌, arith}
use Rattle.std.proofs.lemmas.Nat.{le-div}
use Rattle.inet_num.proofs.percentage.percent.Goals as goal

pub returns-then-count-size : goal.returns-then-count-size
returns-then-count-size c =
    let full : 100 ≤ 100 * c.args.count / c.args.size = le-div 100 (100 * c.args.count) c.args.size c.requires.some (omega arith) in
    omega arith
