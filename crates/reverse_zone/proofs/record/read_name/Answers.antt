use Rattle.std.proofs.Common.{◌≡◌, ℕ, ◌-◌, ◌++◌, ◌∷◌, [], List, length, take, sym, ◌∙◌, ap, subst, arith}
use Rattle.std.specs.Str.{IsUtf8}
use Rattle.std.proofs.lemmas.Str.{IsUtf8-from_ascii}
use Rattle.std.proofs.lemmas.List.{length-append}
use Rattle.std.proofs.Math.Seq.{take-append_seam}
use Rattle.reverse_zone.proofs.HostBytes.{fit_plain, plain_ascii}
use Rattle.reverse_zone.proofs.record.read_name.Goals as goal

front_is : (word name : List ℕ) → word ≡ name ++ 46 ∷ [] → take (length word - 1) word ≡ name
front_is word name e =
    let len : length (name ++ 46 ∷ []) - 1 ≡ length name = omega (arith, length-append name (46 ∷ [])) in
    ap (λ (text : List ℕ). take (length text - 1) text) e ∙ ap (λ (n : ℕ). take n (name ++ 46 ∷ [])) len ∙ take-append_seam name (46 ∷ [])

pub returns-in_default-from_utf8-clause-none : goal.returns-in_default-from_utf8-clause-none
returns-in_default-from_utf8-clause-none c = λ name fits e.
    c.in_default-from_utf8.ensures.cases.0 (subst IsUtf8 (sym (front_is c.args.word.now name e)) (IsUtf8-from_ascii name (plain_ascii name (fit_plain name fits))))
