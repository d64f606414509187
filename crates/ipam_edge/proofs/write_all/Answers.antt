use Rattle.std.proofs.Common.{rules, refl, ◌≤◌, length, drop, take, ◌-◌, sym, subst, arith, length-drop, take-append-drop}
use Rattle.std.proofs.lemmas.List.{take_rest}
use Rattle.std.proofs.Math.Seq.{take-add}
use Rattle.std.specs.Io.KnownBytes.{Appends}
use Rattle.std.proofs.KnownBytes.{Appends-trans, Appends-kept, Appends-nil}
use Rattle.ipam_edge.proofs.WritingLemmas.{writes_at_err, write_nothing, write_piece, write_then}
use Rattle.ipam_edge.proofs.write_all.Goals as goal

pub loop-done-preserved : goal.loop-done-preserved
loop-done-preserved g c =
    let inv = c.loop-done.invariant in
    let done = c.loop-done.done in
    let n = c.in_ok-done.field-0 in
    let bytes = c.args.bytes.now in
    -- the piece is `take (length bytes - done) (drop done bytes)`
    let most : n ≤ length (drop done bytes) = subst (λ l. n ≤ length l) (take_rest bytes done) c.in_ok-done.ensures.most in
    let gave = subst (λ l. Appends (g.S.Sink.written c.loop-done.sink) (g.S.Sink.written c.write.new.self) (take n l)) (take_rest bytes done) c.in_ok-done.ensures.gave in
    let fits : n ≤ length bytes - done = subst (λ k. n ≤ k) (length-drop done bytes) most in
    let before = inv.0 in
    (omega (arith), subst (Appends _ _) (sym (take-add done n bytes)) (Appends-trans _ _ _ _ _ inv.1 gave), search rules, write_then _ _ _ _ inv.3 (write_piece _ _ _ _ c.write.ensures.step))

pub returns-in_err-done-clause-told : goal.returns-in_err-done-clause-told
returns-in_err-done-clause-told g c =
    let done = c.loop-done.done in
    let bytes = c.args.bytes.now in
    writes_at_err _ _ c.from_residual.result bytes (search rules)
    (take done bytes, (drop done bytes, sym (take-append-drop done bytes)), Appends-kept _ _ _ _ c.loop-done.invariant.1 c.in_err-done.ensures.gave)

pub loop-done-init : goal.loop-done-init
loop-done-init g c = (omega arith, Appends-nil _, refl, write_nothing _ _ _ refl)

pub returns-in_err-done-clause-writes : goal.returns-in_err-done-clause-writes
returns-in_err-done-clause-writes g c = write_then _ _ _ _ c.loop-done.invariant.3 (write_piece _ _ _ _ c.write.ensures.step)
