use Rattle.std.proofs.Common.{map, sym, subst, ◌∙◌, inl, inr}
use Rattle.machine_session.specs.Owned.{owned}
use Rattle.machine_session.specs.Sessions.{IsOwnSession}
use Rattle.register_core.specs.Machines.{pair_of, seen}
use Rattle.rest_ipam.specs.Protocol.{seen_protocol}
use Rattle.snapshot_operator.specs.Shown.{IsKept, IsShown}
use Rattle.snapshot_operator.proofs.Shown.{kept_whole}
use Rattle.snapshot_operator.proofs.session.serve_operator.Goals as goal

pub serve_own-register-requires : goal.serve_own-register-requires
serve_own-register-requires g c =
    kept_whole _ _ c.args.feed _ _ c.new.ensures.0 c.new.ensures.1 (subst (λ r. IsShown r.opening (map pair_of r.log) c.args.feed) (sym c.lend_updates.ensures) c.requires)

pub returns-clause-session : goal.returns-clause-session
returns-clause-session g c =
    let told = g.K.Keeper.told in
    let faults = g.K.Keeper.faults in
    let left = c.serve_own-register.result.0 in
    subst
    (λ r. IsOwnSession seen_protocol g.So.Source.reads (owned (seen r.opening (told r.keeper)) (map pair_of r.log) (faults r.keeper))
    (owned (seen left.opening (told left.keeper)) (map pair_of left.log) (faults left.keeper))
    c.args.source.now c.serve_own-register.new.source (g.So.Source.left c.args.source.now) (g.So.Source.left c.serve_own-register.new.source)
    (g.Si.Sink.written c.args.sink.now) (g.Si.Sink.written c.serve_own-register.new.sink) c.serve_own-register.result.2)
    c.lend_updates.ensures c.serve_own-register.ensures.session

pub returns-clause-kept : goal.returns-clause-kept
returns-clause-kept g c =
    let register = c.serve_own-register.result.0 in
    let publisher = c.serve_own-register.result.1 in
    let parts = c.into_parts-feed.ensures in
    subst (λ feed. IsKept c.into_parts-feed.result.1 register.opening (map pair_of register.log) feed) (sym parts.0)
    (subst (λ whole. IsKept whole register.opening (map pair_of register.log) publisher.feed) (sym parts.1) c.serve_own-register.ensures.kept)

pub returns-clause-memory : goal.returns-clause-memory
returns-clause-memory g c =
    elim (c.serve_own-register.ensures.whole c.new.ensures.1) [ inl memory ↦ inl memory | inr whole ↦ inr (c.into_parts-feed.ensures.1 ∙ whole) ]
