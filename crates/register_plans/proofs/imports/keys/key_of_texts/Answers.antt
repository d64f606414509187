use Rattle.std.proofs.Common.{◌≡◌, ◌∙◌, ℕ, ◌+◌, ◌<◌, List, [], ◌∷◌, ◌++◌, length, take, ap, ap₂, sym, arith}
use Rattle.std.proofs.lemmas.List.{take_more}
use Rattle.register_plans.specs.TextKeys.{spelled, key_of}
use Rattle.register_plans.proofs.CountedKeys.{key_next}
use Rattle.register_plans.proofs.imports.keys.key_of_texts.Goals as goal

pub loop-text-preserved : goal.loop-text-preserved
loop-text-preserved c =
    let texts : List (List ℕ) = c.args.texts.now in
    let i : ℕ = c.loop-text.text-index in
    let text : List ℕ = c.text-item.result in
    let within : i < length texts = omega arith in
    let next : take (i + 1) texts ≡ take i texts ++ text ∷ [] = take_more texts i text within ∙ ap (λ (t : List ℕ). take i texts ++ t ∷ []) (sym c.text-item.is) in
    c.in_ok-put_text.ensures
    ∙ ap₂ (λ (k s : List ℕ). k ++ s) c.loop-text.invariant (ap spelled (c.as_bytes.ensures.value ∙ c.as_str.ensures))
    ∙ sym (key_next (take i texts) text)
    ∙ ap key_of (sym next)
