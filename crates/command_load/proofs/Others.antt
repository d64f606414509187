-- Where all but one caller made claims alone, the history is one of claims.
use Rattle.std.proofs.Common.{◌≡◌, ℕ, zero, suc, ◌<◌, ◌==◌, Bool, true, false, cond, List, [], ◌∷◌, length, get_or, refl, ap, subst, arith}
use Rattle.std.proofs.lemmas.Bool.Decides.{nat_tests}
use Rattle.history_lock.specs.Replay.{own_entries}
use Rattle.ipam_data.specs.declared.calls.Call.{Call}
use Rattle.command_load.specs.Claims.{claim_of_one, creation_of}
use Rattle.command_load.specs.Histories.{AreClaims}
use Rattle.command_load.specs.Notes.{OthersMakeClaims}
use Rattle.command_load.proofs.Histories.{own_more}
use Rattle.command_load.proofs.Tallies.{shared_at}

each_claim : (xs : List (ℕ × Call)) (d : ℕ × Call) → ((k : ℕ) → k < length xs → (get_or xs k d).1 ≡ claim_of_one) → AreClaims xs
each_claim [] d f = tt
each_claim (x ∷ xs) d f = (f 0 (omega arith), each_claim xs d (λ k l. f (suc k) (omega arith)))

own_claim : (xs : List (ℕ × Call)) (n k : ℕ) (d : ℕ × Call) → AreClaims (own_entries n xs) → k < length xs → (get_or xs k d).0 ≡ n → (get_or xs k d).1 ≡ claim_of_one
own_claim [] n k d all l is = absurd (omega arith)
own_claim (x ∷ xs) n zero d all l is =
    let own : (x.0 == n) ≡ true = grind (arith, nat_tests, is) in
    (subst (λ (t : Bool). AreClaims (cond t (x ∷ own_entries n xs) (own_entries n xs))) own all).0
own_claim (x ∷ xs) n (suc k) d all l is = own_claim xs n k d (go (x.0 == n) all) (omega arith) is where
  go : (t : Bool) → AreClaims (cond t (x ∷ own_entries n xs) (own_entries n xs)) → AreClaims (own_entries n xs)
  go true all = all.1
  go false all = all

pub others_claim : OthersMakeClaims
others_claim len maker claims numbers one shared each =
    let first : ℕ × Call = (maker, creation_of len) in
    let mine : (maker == maker) ≡ true = grind (arith, nat_tests) in
    let more = own_more maker first claims in
    let self : cond {A = ℕ} (maker == maker) 1 0 ≡ 1 = ap (λ (t : Bool). cond {A = ℕ} t 1 0) mine in
    let none : length (own_entries maker claims) ≡ 0 = omega arith in
    each_claim claims first (λ k l.
    own_claim (first ∷ claims) (get_or claims k first).0 (suc k) first (each (get_or claims k first).0 (shared_at claims maker numbers k first shared.1 none l)) (omega arith) refl)
