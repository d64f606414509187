use Rattle.std.proofs.Common.{◌≡◌, ◌∙◌, ◌<◌, ◌++◌, ◌∷◌, List, ℕ, [], take, length, string_bytes, refl, ap, sym, subst, arith}
use Rattle.register_plans.specs.RecordsLeft.{IsLeft}
use Rattle.register_plans.specs.ReadyRows.{keys_of}
use Rattle.register_plans.proofs.LookedUp.{readied_next}
use Rattle.register_plans.proofs.imports.keys.expect_all.Goals as goal

pub loop-row-init : goal.loop-row-init
loop-row-init c = c.new-left.ensures []

pub loop-row-preserved : goal.loop-row-preserved
loop-row-preserved c =
    let i : ℕ = c.loop-row.row-index in
    let rows = c.args.rows.now in
    let row = c.row-item.result in
    let low : i < length rows = omega arith in
    let own : string_bytes c.in_ok-key.key ≡ row.key = (let a = c.in_ok-key.ensures.ok in let b = c.as_str.ensures in cc) in
    let more = readied_next rows i row low c.row-item.is in
    subst (λ (keys : List (List ℕ)). IsLeft c.expect.new.self keys [] []) (sym (more ∙ ap (λ (k : List ℕ). keys_of (take i rows) ++ k ∷ []) (sym own)))
    (c.in_ok-expect.ensures (keys_of (take i rows)) [] refl c.loop-row.invariant)
