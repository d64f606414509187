use Rattle.std.proofs.Common.{◌≡◌, ◌≢◌, Bool, true, false, not, refl, sym, ap, subst, arith, inl, inr}
use Rattle.std.proofs.lemmas.Bool.{cases_lt}
use Rattle.inet_num.specs.Net.{Cidr, width_of, IsBlock, IsInside}
use Rattle.inet_num.proofs.Nested.{same_by_len, inside_trans}
use Rattle.inet_num.proofs.Numbers.{low_half_lawful, high_half_lawful}
use Rattle.radix_tree.specs.Shape.{half, HasRoom}
use Rattle.radix_tree.specs.Find.{IsJoint}
use Rattle.radix_tree.proofs.Sides.{half_in, side_of, same_side, longer}

pub half_lawful : (s : Bool) (b : Cidr) → IsBlock b → HasRoom b → IsBlock (half s b)
half_lawful false b h room = low_half_lawful b h room
half_lawful true b h room = high_half_lawful b h room

pub other_side : (s r : Bool) → s ≢ r → s ≡ not r
other_side false false h = absurd (h refl)
other_side false true h = refl
other_side true false h = refl
other_side true true h = absurd (h refl)

-- what is inside a block, is not the block and is not in one half is in the other
pub in_other : (b a : Cidr) (s : Bool) → IsBlock b → IsBlock a → IsInside a b → a ≢ b → (IsInside a (half s b) → ⊥) → IsInside a (half (not s) b)
in_other b a s hb ha i other out =
    let side = side_of b a hb ha i (longer a b ha hb i other) in
    elim (same_side side.0 s) [
      | inl same ↦ absurd (out (subst (λ (r : Bool). IsInside a (half r b)) same side.1))
      | inr apart ↦ subst (λ (r : Bool). IsInside a (half r b)) (other_side side.0 s apart) side.1
    ]

-- no block of two that are apart is a block around both
pub not_around : (a b around : Cidr) → (IsInside b a → ⊥) → IsInside b around → a ≢ around
not_around a b around apart inside same = apart (subst (IsInside b) (sym same) inside)

pub joint_is : (land a b around : Cidr) (s : Bool) → IsBlock around → IsBlock b → IsInside around land → HasRoom around → IsInside b around → (IsInside a b → ⊥) → IsInside a (half s around)
    → (IsInside b (half s around) → ⊥) → IsJoint land a b (record { block = around; high = s })
joint_is land a b around s hr hb inside room b_in apart first out = record {
  lawful = hr;
  inside = inside;
  room = room;
  first = first;
  second = in_other around b s hr hb b_in (not_around b a around apart (inside_trans a (half s around) around first (half_in s around room))) out;
}

-- the next block down
pub next_lawful : (s : Bool) (land around : Cidr) → IsBlock around → HasRoom around → IsInside around land → IsInside (half s around) land
next_lawful s land around h room i = inside_trans (half s around) around land (half_in s around room) i

-- a block that has no halves is not around two that are apart
pub no_room : (a b around : Cidr) → IsBlock a → IsBlock around → IsInside a around → IsInside b around → (IsInside b a → ⊥) → HasRoom around
no_room a b around ha hr i j apart = elim (cases_lt around.len (width_of around.family)) [
  | inl less ↦ less
  | inr full ↦
      let short = ha.short in
      let same : width_of a.family ≡ width_of around.family = ap width_of i.family in
      absurd (not_around a b around apart j (same_by_len a around i (omega arith) ha.short hr.short))
]
