use Rattle.std.proofs.Common.{rules, ◌≡◌, [], ap, sym, ◌∙◌, refl, length}
use Rattle.snapshot_reads.specs.Published.{lists, after}
use Rattle.snapshot_reads.specs.History.{head_of}
use Rattle.snapshot_reads.proofs.Keeps.{opens, begins}
use Rattle.snapshot_reads.proofs.Reading.{shown_same, match_ok}
use Rattle.snapshot_reads.proofs.feed.Feed.new.Goals as goal

pub publish_as-writer-requires : goal.publish_as-writer-requires
publish_as-writer-requires c = λ c' next is.
    let empty : c'.in_ok-writer.writer.desk.shown.value.seen.log ≡ [] = search rules in
    let same = shown_same _ _ _ _ (c'.in_ok-writer.ensures.1) is in
    begins lists after _ _ c'.in_ok-writer.writer.desk.shown.value next (ap (λ h. h.lists) same) (ap (λ h. h.count) same) (ap (λ h. h.seen) same) empty

pub new-requires-clause-rule : goal.new-requires-clause-rule
new-requires-clause-rule c = λ c'. opens lists after _ refl c'.begin-head.ensures.0

pub invariant_of-result : goal.invariant_of-result
invariant_of-result c = λ c'.
    let values = match_ok _ _ c'.publish_as-writer.result.1 _ c'.in-Ok.is c'.publish_as-writer.ensures.values in
    let rule = match_ok _ _ c'.publish_as-writer.result.1 _ c'.in-Ok.is c'.publish_as-writer.ensures.rule in
    let same = shown_same _ _ _ _ (c'.in_ok-writer.ensures.1) values.0 in
    let first = c'.in_ok-writer.ensures.0 in
    let seen : c'.publish_as-writer.result.0.desk.shown.value.seen ≡ c'.begin-head.result.1 = ap (λ h. h.seen) same ∙ ap (λ t. t.seen) first in
    let count : c'.publish_as-writer.result.0.desk.shown.value.count ≡ 0 = ap (λ h. h.count) same ∙ ap (λ t. t.count) first in (
      (_, rule, refl, count ∙ sym (ap (λ s. length s.log) seen ∙ ap length c'.begin-head.ensures.0)),
      c'.begin-head.ensures.1 ∙ ap (λ s. head_of s.book) (sym seen),
      λ t. values.1,
    )
