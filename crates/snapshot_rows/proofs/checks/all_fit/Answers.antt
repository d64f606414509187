use Rattle.std.proofs.Common.{◌≡◌, ◌+◌, List, [], ◌∷◌, ◌++◌, take, sym, subst, ap, ◌∙◌}
use Rattle.std.proofs.lemmas.List.{take_more}
use Rattle.ipam_data.specs.declared.replies.View.{View}
use Rattle.register_tables.specs.Held.{state_of}
use Rattle.snapshot_rows.proofs.Fitting.{AreAhead, one_more}
use Rattle.snapshot_rows.proofs.checks.all_fit.Goals as goal

pub loop-view-preserved : goal.loop-view-preserved
loop-view-preserved c =
    let before = state_of c.args.tables.now in
    let i = c.loop-view.view-index in
    let views = c.args.views.now in
    let x = c.view-item.result in
    let more : take i views ++ x ∷ [] ≡ take (i + 1) views = ap (λ (y : View). take i views ++ y ∷ []) c.view-item.is ∙ sym (take_more views i x c.loop-view-test.true) in
    subst (λ (vs : List View). AreAhead before vs c.in-Some.next) more (one_more before (take i views) x c.loop-view.lasts c.in-Some.next c.loop-view.invariant c.in-Some.ensures)
