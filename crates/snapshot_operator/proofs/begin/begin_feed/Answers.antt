use Rattle.std.proofs.Common.{rules, ◌≡◌, ◌∙◌, All, Some, map, ap, sym, refl, subst, arith}
use Rattle.ipam_data.specs.Replays.{replay}
use Rattle.register_core.specs.Machines.{pair_of}
use Rattle.snapshot_reads.specs.Seen.{IsNewLook}
use Rattle.snapshot_rows.specs.Lists.{Lists, lists_of}
use Rattle.snapshot_operator.proofs.Shown.{shown_first}
use Rattle.snapshot_operator.proofs.begin.begin_feed.Goals as goal

pub new-requires-clause-alike : goal.new-requires-clause-alike
new-requires-clause-alike g c =
    c.in_ok-first.ensures
    ∙ ((λ i. record { vrfs = (c.vrfs.ensures ∙ sym c.vrfs-2.ensures) i; prefixes = (c.prefixes.ensures.rows ∙ sym c.prefixes-2.ensures.rows) i })
    ∙ sym c.in_ok-second.ensures)

pub returns-in-Ok-clause-shown : goal.returns-in-Ok-clause-shown
returns-in-Ok-clause-shown g c =
    let kept = c.args.register.now in
    let same = c.take_looks.ensures.same in
    let rows : c.in_ok-first.first ≡ lists_of kept.state = c.in_ok-first.ensures ∙ (λ i. record { vrfs = c.vrfs.ensures i; prefixes = c.prefixes.ensures.rows i }) in
    let state : kept.state ≡ kept.opening = c.replayed.ensures ∙ ap (replay kept.opening) c.requires.fresh in
    shown_first kept.opening (map pair_of kept.log) c.take_looks.new.feed (ap (map pair_of) c.requires.fresh) (ap (λ f. f.opening) same ∙ (c.in_ok-feed.ensures.opening ∙ ap Some (rows ∙ ap lists_of state)))
    (ap (λ f. f.published) same ∙ c.in_ok-feed.ensures.published) (ap (λ f. f.live) same ∙ c.in_ok-feed.ensures.live)

pub returns-in-Ok-clause-looks : goal.returns-in-Ok-clause-looks
returns-in-Ok-clause-looks g c = subst (λ f. All (λ look. IsNewLook f look) c.take_looks.new.looks.items) (sym c.take_looks.ensures.same) c.in-Ok.ensures.looks
