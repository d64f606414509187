use Rattle.std.proofs.Common.{List, ℕ, [], ◌++◌, rules, ap, ◌∙◌}
use Rattle.ipam_edge.proofs.WritingLemmas.{appends_front_longer}
use Rattle.text_pieces.proofs.Passing.{passes_kept, passes_both, puts_both, puts_at_err, puts_through}
use Rattle.text_pieces.proofs.put_behind.Goals as goal

pub returns-in_err-pass-clause-told : goal.returns-in_err-pass-clause-told
returns-in_err-pass-clause-told g c = puts_at_err _ _ _ _ _ c.from_residual.result (search rules) (appends_front_longer _ _ _ c.args.text.now c.in_err-pass.ensures.front)

pub returns-in-Ok-clause-told : goal.returns-in-Ok-clause-told
returns-in-Ok-clause-told g c =
    passes_both _ _ _ _ [] _ [] c.args.text.now c.in_ok-pass.ensures.told
    (passes_kept _ [] _ c.args.text.now (c.in-Ok.ensures.ok ∙ ap (λ (p : List ℕ). p ++ c.args.text.now) c.in_ok-pass.ensures.empty))

pub returns-in-Err-clause-told : goal.returns-in-Err-clause-told
returns-in-Err-clause-told g c =
    puts_both _ _ _ _ [] _ [] c.args.text.now c.write_all.result c.in_ok-pass.ensures.told
    (puts_through _ _ _ c.args.text.now c.write_all.result (ap (λ v. v.items) c.in-Err.ensures.err ∙ c.in_ok-pass.ensures.empty) c.write_all.ensures.told)
