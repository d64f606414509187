-- Refusals whose details are fixed: their texts are short, and need no escape.
use Rattle.std.proofs.Common.{◌≡◌, ◌∙◌, ◌++◌, ℕ, List, [], true, codes, refl, ap}
use Rattle.ipam_data.specs.declared.replies.Part.TheVariants.{Head, Body}
use Rattle.ipam_data.specs.declared.replies.Refusal.{Refusal}
use Rattle.ipam_data.specs.declared.replies.Refusal.TheVariants.{BadHead, TooLarge, Coding, NoRoute, Method, BadJson, Field, NotFound, Rule as Breaks, InUse, NoSpace, Limit, Keeper, Memory, Row}
use Rattle.ipam_data.specs.Answers.{code_of}
use Rattle.serde_json.proofs.OnLiterals.{serde_json_on_literals}
use Rattle.ipam_words.specs.Lines.{is_fixed, fixed_text}
use Rattle.ipam_json.specs.Replies.{refusal_text}

joined : (r : Refusal) → is_fixed r ≡ true → codes "{\"code\":\"" ++ code_of r ++ codes "\",\"detail\":\"" ++ fixed_text r ++ codes "\"}" ≡ refusal_text r
unfolding serde_json_on_literals
joined BadHead h = refl
joined (TooLarge Head) h = refl
joined (TooLarge Body) h = refl
joined Coding h = refl
joined NoRoute h = refl
joined Method h = refl
joined BadJson h = refl
joined (Field member) h = cc h
joined (NotFound kind n) h = cc h
joined (Breaks rule) h = cc h
joined (InUse kind n) h = cc h
joined (NoSpace n) h = cc h
joined (Limit which n) h = cc h
joined Keeper h = refl
joined Memory h = refl
joined (Row n why) h = cc h

join : (xs xs' ys ys' : List ℕ) → xs ≡ xs' → ys ≡ ys' → xs ++ ys ≡ xs' ++ ys'
join xs xs' ys ys' p q = ap (λ l. l ++ ys) p ∙ ap (λ l. xs' ++ l) q

-- the text as it is put together, piece by piece
pub put_together : (r : Refusal) → is_fixed r ≡ true → (none one two three four five code said detail told : List ℕ)
    → none ≡ [] → one ≡ none ++ codes "{\"code\":\"" → code ≡ code_of r → said ≡ code → two ≡ one ++ said → three ≡ two ++ codes "\",\"detail\":\""
    → detail ≡ fixed_text r → told ≡ detail → four ≡ three ++ told → five ≡ four ++ codes "\"}" → five ≡ refusal_text r
put_together r h none one two three four five code said detail told n a c s b d e t f g =
    g ∙ ap (λ l. l ++ codes "\"}") (f ∙ join three (codes "{\"code\":\"" ++ code_of r ++ codes "\",\"detail\":\"") told (fixed_text r)
    (d ∙ ap (λ l. l ++ codes "\",\"detail\":\"") (b ∙ join one (codes "{\"code\":\"") said (code_of r) (a ∙ ap (λ l. l ++ codes "{\"code\":\"") n) (s ∙ c))) (t ∙ e))
    ∙ joined r h
