use Rattle.prefix_list.proofs.Bytes.{first_line, last_line}
use Rattle.prefix_list.proofs.reading.cut_line.Goals as goal

pub returns-then-bytes-i-eq10-clause-some : goal.returns-then-bytes-i-eq10-clause-some
returns-then-bytes-i-eq10-clause-some c = first_line c.args.bytes.now c.scan.i c.scan-test.true c.scan.invariant c.if-bytes-i-eq10.true

pub returns-clause-none : goal.returns-clause-none
returns-clause-none c = last_line c.args.bytes.now c.scan.i c.scan-test.false c.scan.invariant
