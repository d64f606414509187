-- What `--match` and `--le` say.
use Rattle.std.proofs.Common.{◌≡◌, ◌≢◌, ℕ, ◌≤◌, refl, sym, subst, arith, Bool, false, List, Option, Some, None, is_some, option_map, codes, MatchOption}
use Rattle.inet_num.specs.declared.Family.{Family}
use Rattle.command_words.specs.declared.asked.Matching.{Matching}
use Rattle.command_words.specs.Matching.{IsMatchValue}
use Rattle.command_words.specs.Values.{IsNumberOr}

-- the number that was given, or the usual one, is not above the most
pub most_given : (most : ℕ) (text : Option (List ℕ)) (n : ℕ) → IsNumberOr most most text n → n ≤ most
most_given most None n h = omega (arith, h)
most_given most (Some text) n h = h.2

-- a word that is not `longer`, without a length
pub plain_named : (family : Family) (text : List ℕ) (most : Option (List ℕ)) (r : Option Matching) → text ≢ codes "longer" → most ≡ None
    → MatchOption r ((m : Matching) → text ≢ codes "longer" → ¬ IsMatchValue family (Some text) None m) (λ m. IsMatchValue family (Some text) None m)
    → MatchOption r ((m : Matching) → ¬ IsMatchValue family (Some text) most m) (λ m. IsMatchValue family (Some text) most m)
plain_named family text most None other none h = λ m value. h m other (subst (λ (t : Option (List ℕ)). IsMatchValue family (Some text) t m) none value)
plain_named family text most (Some m) other none h = subst (λ (t : Option (List ℕ)). IsMatchValue family (Some text) t m) (sym none) h

-- nothing was given
pub no_length : {X : Type 0} (f : X → List ℕ) (given : Option X) (test : Bool) → test ≡ is_some given → test ≡ false → option_map f given ≡ None
no_length f None test h k = refl
no_length f (Some x) test h k = absurd (cc)
