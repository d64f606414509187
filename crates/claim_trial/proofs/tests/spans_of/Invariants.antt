use Rattle.std.proofs.Common.{◌++◌, List}
use Rattle.inet_num.specs.declared.Span.{Span}
use Rattle.block_space.specs.Usable.{AreApart}
use Rattle.claim_trial.proofs.tests.spans_of.Given as goal

abbrev pub invariant-words : goal.invariant-words
invariant-words l = record {
  next : (goal.iterator-words).can_next l.word-iterator;
  finite : (goal.iterator-words).is_finite l.word-iterator;
  apart : (more : List Span) → AreApart l.from more → AreApart 0 (l.out.items ++ more);
}
