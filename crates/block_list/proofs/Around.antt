-- The blocks around a block, looked for one length after another.
use Rattle.std.proofs.Common.{◌≡◌, ℕ, ◌+◌, ◌-◌, ◌<◌, ◌≤◌, min, refl, sym, ◌∙◌, ap, subst, arith, List}
use Rattle.inet_num.specs.Net.{Cidr, IsBlock, IsInside, enclosing_of}
use Rattle.inet_num.proofs.Nested.{inside_trans}
use Rattle.block_space.specs.Listed.{times_of, wider_of, around_below, around_of}
use Rattle.block_space.proofs.InAvailable.{enclosing_lawful, inside_enclosing}
use Rattle.block_space.proofs.Around.{wider_is, around_next, around_none}

-- this wider block was come to, and those longer than it are counted
pub record IsCountedTo (blocks : List Cidr) (block wide : Cidr) (count : ℕ) : Type 0 where
  pub few : count + wide.len ≤ block.len
  pub lawful : IsBlock wide
  pub inside : IsInside block wide
  pub counted : count + around_below blocks block wide.len ≡ around_of blocks block

pub counted_first : (blocks : List Cidr) (block : Cidr) → IsBlock block → IsCountedTo blocks block block 0
counted_first blocks block h = record {
  few = omega arith;
  lawful = h;
  inside = record { family = refl; each = λ a k. k };
  counted = omega arith;
}

-- one bit shorter
pub counted_more : (blocks : List Cidr) (block wide wider : Cidr) (count times : ℕ) → IsBlock block → IsCountedTo blocks block wide count → 0 < wide.len → wider ≡ enclosing_of wide → times ≡ times_of blocks wider
    → IsCountedTo blocks block wider (count + min times 1)
counted_more blocks block wide wider count times hb h some is t =
    let lawful : IsBlock wider = subst IsBlock (sym is) (enclosing_lawful wide h.lawful) in
    let inside : IsInside block wider = inside_trans block wide wider h.inside (subst (IsInside wide) (sym is) (inside_enclosing wide h.lawful)) in
    let len : wider.len ≡ wide.len - 1 = ap (λ (b : Cidr). b.len) is in
    let few = h.few in
    let own = wider_is block wider hb lawful inside (omega arith) in
    let step = around_next blocks block wider.len in
    let found : min (times_of blocks (wider_of block wider.len)) 1 ≡ min times 1 = ap (λ (b : Cidr). min (times_of blocks b) 1) own ∙ ap (λ (n : ℕ). min n 1) (sym t) in
    let next : around_below blocks block wide.len ≡ around_below blocks block (wider.len + 1) = ap (around_below blocks block) (let e : wide.len ≡ wider.len + 1 = omega arith in e) in
    let counted = h.counted in
    let once : min times 1 ≤ 1 = omega arith in
    record { few = omega arith; lawful = lawful; inside = inside; counted = omega arith }

-- the block of length 0 is the last
pub counted_last : (blocks : List Cidr) (block wide : Cidr) (count : ℕ) → IsCountedTo blocks block wide count → wide.len ≡ 0 → count ≡ around_of blocks block
counted_last blocks block wide count h none =
    let last : around_below blocks block wide.len ≡ 0 = ap (around_below blocks block) none ∙ around_none blocks block in
    let counted = h.counted in
    omega arith
