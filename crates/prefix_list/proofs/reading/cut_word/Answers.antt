use Rattle.prefix_list.proofs.Bytes.{word_at, word_whole}
use Rattle.prefix_list.proofs.reading.cut_word.Goals as goal

pub returns-then-text-i-eq32-clause-word : goal.returns-then-text-i-eq32-clause-word
returns-then-text-i-eq32-clause-word c = word_at c.args.text.now c.scan.i c.scan-test.true c.scan.invariant c.if-text-i-eq32.true

pub returns-clause-word : goal.returns-clause-word
returns-clause-word c = word_whole c.args.text.now c.scan.i c.scan-test.false c.scan.invariant
