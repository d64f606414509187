use Rattle.inet_num.proofs.Colons.{piece_there, piece_alone}
use Rattle.inet_num.proofs.fault.next_piece.Goals as goal

pub returns-then-text-i-eq58-clause-some : goal.returns-then-text-i-eq58-clause-some
returns-then-text-i-eq58-clause-some c = piece_there c.args.text.now c.scan.i c.scan-test.true c.scan.invariant c.if-text-i-eq58.true

pub returns-clause-none : goal.returns-clause-none
returns-clause-none c = piece_alone c.args.text.now c.scan.i c.scan-test.false c.scan.invariant
