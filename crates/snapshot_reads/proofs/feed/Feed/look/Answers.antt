use Rattle.std.proofs.Common.{◌≡◌, Some, ap, sym, ◌∙◌}
use Rattle.left_right.specs.Sides.{view}
use Rattle.snapshot_reads.specs.Published.{lists, after}
use Rattle.snapshot_reads.proofs.Keeps.{admits, forks, merges}
use Rattle.snapshot_reads.proofs.Lists.{prefix_same}
use Rattle.snapshot_reads.proofs.feed.Feed.look.Goals as goal

pub reader-requires : goal.reader-requires
reader-requires c = admits lists after

pub tell-requires : goal.tell-requires
tell-requires c = forks lists after _ _

pub learn-requires-clause-rule : goal.learn-requires-clause-rule
learn-requires-clause-rule c = merges lists after _ _ _ _

pub over-requires-clause-reader : goal.over-requires-clause-reader
over-requires-clause-reader c =
    let k = c.self.invariant.0 in
    let shown : c.again.result ≡ k.0.seen = c.again.ensures ∙ (ap (λ t. t.seen) c.published-shown.ensures ∙ (ap (λ p. p.value.seen) c.tell.ensures.kept.0 ∙ sym k.2)) in
    let known : view c.learn.new.self.place ≡ Some k.0 = c.learn.ensures.1 ∙ (c.tell.ensures.given.1 ∙ k.1) in
    let book = ap (λ s. s.book) (sym shown) in
    let log = prefix_same c.again.result.log k.0.seen.log (ap (λ s. s.log) shown) in
    (k.0, known, book, book, log, log)
