use Rattle.std.proofs.Common.{ℕ, List, take, get_or, sym, subst}
use Rattle.std.proofs.lemmas.List.{take_more}
use Rattle.ipam_data.specs.declared.kinds.Kind.{Kind}
use Rattle.ipam_data.specs.declared.kinds.Kind.TheVariants.{Vrfs}
use Rattle.ipam_data.specs.Updates.{AreKept}
use Rattle.snapshot_rows.proofs.Fitting.{kept_push}
use Rattle.snapshot_rows.proofs.checks.ids_are_kept.Goals as goal

pub loop-id-preserved : goal.loop-id-preserved
loop-id-preserved c =
    let i = c.loop-id.id-index in
    let ids = c.args.ids.now in
    let x = get_or ids i (Vrfs, 0) in
    subst (λ (l : List (Kind × ℕ)). AreKept l) (sym (take_more ids i (Vrfs, 0) c.loop-id-test.true)) (kept_push (take i ids) x c.loop-id.invariant c.id_is_kept.ensures)
