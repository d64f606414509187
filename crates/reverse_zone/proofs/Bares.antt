-- A text without a last period, and the name that the DNS has for a row.
use Rattle.std.proofs.Common.{◌≡◌, ◌≢◌, ℕ, Bool, true, false, cond, ◌==◌, List, [], ◌∷◌, ◌++◌, length, reverse, Some, None, refl, ap, sym, ◌∙◌, arith}
use Rattle.std.proofs.lemmas.Bool.Decides.{nat_tests}
use Rattle.std.proofs.lemmas.List.{reverse-append, reverse-reverse}
use Rattle.ipam_data.specs.HostNames.{is_dot, after_dot, bare}
use Rattle.reverse_zone.specs.Names.{has_star, ptr_name_of}

pub stripped : (text front : List ℕ) → text ≡ front ++ 46 ∷ [] → bare text ≡ front
stripped text front e =
    let turned : reverse text ≡ 46 ∷ reverse front = ap reverse e ∙ reverse-append front (46 ∷ []) in
    ap (λ (t : List ℕ). reverse (after_dot t)) turned ∙ reverse-reverse front

dot_step : (b : Bool) (c : ℕ) (cs : List ℕ) → is_dot c ≡ b → c ≢ 46 → cond b cs (c ∷ cs) ≡ c ∷ cs
dot_step false c cs e other = refl
dot_step true c cs e other = absurd (other (same c e))
  where
    same : (c : ℕ) → is_dot c ≡ true → c ≡ 46
    same c e = grind (arith, nat_tests)

kept : (turned text : List ℕ) → reverse turned ≡ text → ((front : List ℕ) → text ≢ front ++ 46 ∷ []) → after_dot turned ≡ turned
kept [] text e none = refl
kept (c ∷ cs) text e none =
    dot_step (is_dot c) c cs refl
    (λ dot. none (reverse cs) (sym e ∙ reverse-append (c ∷ []) cs ∙ ap (λ (d : ℕ). reverse cs ++ d ∷ []) dot))

pub unstripped : (text : List ℕ) → ((front : List ℕ) → text ≢ front ++ 46 ∷ []) → bare text ≡ text
unstripped text none = ap reverse (kept (reverse text) text (reverse-reverse text) none) ∙ reverse-reverse text

pub named : (text : List ℕ) → (length text == 0) ≡ false → has_star text ≡ false → ptr_name_of text ≡ Some (bare text)
named [] some plain = absurd (cc)
named (c ∷ cs) some plain = ap (λ (b : Bool). cond b None (Some (bare (c ∷ cs)))) plain
