-- Worked examples, each by evaluation.
use Rattle.std.proofs.Common.{◌≡◌, [], ◌∷◌, ◌++◌, refl, codes}
use Rattle.std.specs.Fmt.{digits}
use Rattle.command_load.specs.LoadText.{longest, load_len, load_text}

lengths : (load_len 1 ∷ load_len 1000 ∷ load_len 1024 ∷ load_len 1025 ∷ load_len 100000 ∷ []) ≡ 30 ∷ 20 ∷ 20 ∷ 19 ∷ 13 ∷ []
unfolding longest
lengths = refl

one : load_text 1 ≡ codes "claimed 1" ++ 10 ∷ codes "first 10.0.0.1" ++ 10 ∷ codes "last 10.0.0.1" ++ 10 ∷ codes "percent 50" ++ 10 ∷ codes "entries 2" ++ 10 ∷ []
unfolding load_text longest digits
one = refl

thousand : load_text 1000 ≡ codes "claimed 1000" ++ 10 ∷ codes "first 10.0.0.1" ++ 10 ∷ codes "last 10.0.3.232" ++ 10 ∷ codes "percent 24" ++ 10 ∷ codes "entries 1001" ++ 10 ∷ []
unfolding load_text longest digits
thousand = refl

most : load_text 100000 ≡ codes "claimed 100000" ++ 10 ∷ codes "first 10.0.0.1" ++ 10 ∷ codes "last 10.1.134.160" ++ 10 ∷ codes "percent 19" ++ 10 ∷ codes "entries 100001" ++ 10 ∷ []
unfolding load_text longest digits
most = refl
