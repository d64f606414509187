-- A list of blocks of one family has an address just where one of its blocks has the number.
use Rattle.std.proofs.Common.{◌≡◌, ◌≢◌, ◌↔◌, ℕ, ◌+◌, ◌-◌, ◌<◌, ◌≤◌, refl, sym, ◌∙◌, ap, subst, arith, Bool, true, false, not, ◌&&◌, ◌||◌, IsTrue, nat_le, nat_lt, List, [], ◌∷◌, length}
use Rattle.std.specs.List.{AllByRecursion}
use Rattle.std.proofs.lemmas.Bool.{cases_lt}
use Rattle.std.proofs.lemmas.Bool.Decides.{nat_tests}
use Rattle.std.proofs.lemmas.Nat.{pow_pos}
use Rattle.inet_num.specs.declared.Family.{Family}
use Rattle.inet_num.specs.Net.{Address, Cidr, IsBlock, HasAddress, width_of, size_of, first_of, last_of}
use Rattle.inet_num.specs.Blocks.{same_family, block_holds}
use Rattle.inet_num.specs.Free.{has_address, is_taken}
use Rattle.inet_num.specs.Fewest.{IsWithin, HaveJust}
use Rattle.inet_num.proofs.Insides.{same_family-refl, one_family}
use Rattle.span_set.specs.Spans.{Spans, IsIn}
use Rattle.span_set.specs.Blocks as span_set
use Rattle.prefix_list.specs.Lists.{addresses_of_list, HasJust, NoneIsShorter, AreOf}

abbrev pub at : Family → ℕ → Address
at family n = record { family = family; value = n }

-- the last number of a block bounds it as the one behind does
ends : (b : Cidr) (n : ℕ) → nat_le n (last_of b).value ≡ nat_lt n (b.first + size_of b)
ends b n = (let some = pow_pos (width_of b.family - b.len) in grind (arith, nat_tests))

pub here : (b : Cidr) (n : ℕ) → block_holds b (at b.family n) ≡ has_address b n
here b n = rw (same_family-refl b.family, ends b n) refl

elsewhere : (b : Cidr) (a : Address) → a.family ≢ b.family → block_holds b a ≡ false
elsewhere b a other = go (same_family a.family b.family) refl where
  go : (t : Bool) → same_family a.family b.family ≡ t → block_holds b a ≡ false
  go true e = absurd (other (one_family a.family b.family e))
  go false e = rw e refl

-- of the family, a list has the numbers of its blocks
pub list_has : (family : Family) (bs : List Cidr) (n : ℕ) → AreOf family bs → addresses_of_list bs (at family n) ≡ is_taken bs n
list_has family [] n h = refl
list_has family (b ∷ bs) n h =
    let one : block_holds b (at family n) ≡ has_address b n = subst (λ (f : Family). block_holds b (at f n) ≡ has_address b n) h.0 (here b n) in
    let rest = list_has family bs n h.1 in
    rw (one, rest) refl

-- and none of another family
pub list_has_not : (family : Family) (bs : List Cidr) (a : Address) → AreOf family bs → a.family ≢ family → addresses_of_list bs a ≡ false
list_has_not family [] a h other = refl
list_has_not family (b ∷ bs) a h other =
    let one : block_holds b a ≡ false = elsewhere b a (λ e. other (e ∙ h.0)) in
    let rest = list_has_not family bs a h.1 other in
    rw (one, rest) refl
