-- The blocks strictly inside a block, as a space counts them.
use Rattle.std.proofs.Common.{◌≡◌, ◌&&◌, Bool, true, false, not, cond, List, [], ◌∷◌, length, refl, ap, sym, subst, ◌∙◌, arith, inl, inr, IsPermutation}
use Rattle.std.specs.List.{count_by}
use Rattle.std.proofs.lemmas.Bool.{cases_lt}
use Rattle.std.proofs.lemmas.Bool.Decides.{nat_tests}
use Rattle.inet_num.specs.declared.Family.{Family}
use Rattle.inet_num.specs.Net.{Cidr, IsBlock}
use Rattle.inet_num.specs.Free.{is_inside}
use Rattle.inet_num.proofs.Numbers.{strictly_by_len}
use Rattle.inet_num.proofs.Nested.{same_by_len}
use Rattle.inet_num.proofs.Available.{inside_test, inside_tested}
use Rattle.block_space.specs.Listed.{AreBlocksOf, is_same, counts, counting_of}
use Rattle.inet_num.specs.Blocks.{is_strictly_inside}
use Rattle.inet_num.proofs.Insides.{inside_is_by_ends}
use Rattle.placed_book.proofs.Orders.{count_yes, count_no, count_alike}
use Rattle.placed_book.proofs.Around.{shorter}

-- what counts strictly is what lies strictly inside
pub counts_strictly : (w b : Cidr) → IsBlock w → IsBlock b → b.family ≡ w.family → counts w true b ≡ is_strictly_inside b w
counts_strictly w b hw hb e = go (is_inside b w) refl (is_same b w) refl
  where
    only_inside : is_strictly_inside b w ≡ true → is_inside b w ≡ true
    only_inside t = inside_tested b w ((inside_is_by_ends b w hb hw).0 t).inside

    strict_from : is_inside b w ≡ true → is_same b w ≡ false → is_strictly_inside b w ≡ true
    strict_from t s =
        let inside = inside_test b w e t in
        elim (cases_lt w.len b.len) [
          | inl less ↦ (inside_is_by_ends b w hb hw).1 (strictly_by_len b w less inside)
          | inr most ↦
              let is = same_by_len b w inside most hb.short hw.short in
              let one : is_same b b ≡ true = grind (arith, nat_tests) in
              let wrong : true ≡ false = sym one ∙ ap (λ (x : Cidr). is_same b x) is ∙ s in
              cc
        ]

    not_itself : is_same b w ≡ true → is_strictly_inside b w ≡ false
    not_itself s = deny (is_strictly_inside b w) refl where
      deny : (t : Bool) → is_strictly_inside b w ≡ t → t ≡ false
      deny true t = (let less = shorter b w t in let f : false ≡ true = grind (arith, nat_tests) in cc)
      deny false t = refl

    outside : is_inside b w ≡ false → is_strictly_inside b w ≡ false
    outside s = deny (is_strictly_inside b w) refl where
      deny : (t : Bool) → is_strictly_inside b w ≡ t → t ≡ false
      deny true t = (let k = only_inside t in let f : false ≡ true = sym s ∙ k in cc)
      deny false t = refl

    go : (t : Bool) → is_inside b w ≡ t → (s : Bool) → is_same b w ≡ s → (t && not (true && s)) ≡ is_strictly_inside b w
    go true t true s = sym (not_itself s)
    go true t false s = sym (strict_from t s)
    go false t s k = sym (outside t)

inside_counted : (w : Cidr) (bs : List Cidr) → IsBlock w → AreBlocksOf w.family bs → length (counting_of bs w true) ≡ count_by (λ b. is_strictly_inside b w) bs
inside_counted w [] hw h = refl
inside_counted w (b ∷ bs) hw h = go (is_strictly_inside b w) refl (inside_counted w bs hw h.1) where
  test : counts w true b ≡ is_strictly_inside b w
  test = counts_strictly w b hw h.0.lawful h.0.family_is

  go : (t : Bool) → is_strictly_inside b w ≡ t → length (counting_of bs w true) ≡ count_by (λ x. is_strictly_inside x w) bs → length (counting_of (b ∷ bs) w true) ≡ count_by (λ x. is_strictly_inside x w) (b ∷ bs)
  go true t ih =
      let more = count_yes (λ x. is_strictly_inside x w) b bs t in
      let is = ap (λ (s : Bool). length (cond s (b ∷ counting_of bs w true) (counting_of bs w true))) (test ∙ t) in
      omega arith
  go false t ih = ap (λ (s : Bool). length (cond s (b ∷ counting_of bs w true) (counting_of bs w true))) (test ∙ t) ∙ ih ∙ sym (count_no (λ x. is_strictly_inside x w) b bs t)

pub inside_any_order : (family : Family) (w : Cidr) (held blocks : List Cidr) → IsBlock w → w.family ≡ family → AreBlocksOf family held → IsPermutation blocks held → length (counting_of held w true) ≡ count_by (λ b. is_strictly_inside b w) blocks
inside_any_order family w held blocks hw e h p =
    inside_counted w held hw (subst (λ (f : Family). AreBlocksOf f held) (sym e) h) ∙ sym (count_alike (λ b. is_strictly_inside b w) blocks held p)
