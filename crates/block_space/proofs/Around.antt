-- The blocks that contain a block: of each length there is one, so they are counted length by length.
use Rattle.std.proofs.Common.{◌≡◌, ℕ, zero, suc, ◌+◌, ◌-◌, ◌*◌, ◌/◌, ◌%◌, ◌^◌, ◌<◌, ◌≤◌, refl, sym, ◌∙◌, ap, arith, inl, inr, min, List}
use Rattle.std.proofs.lemmas.Bool.{cases_lt}
use Rattle.std.proofs.lemmas.Nat.{pow_pos, div-add-mod'}
use Rattle.std.proofs.Math.Nat.{mul-mod_left, lt-div-mul-add}
use Rattle.inet_num.specs.Net.{width_of, Cidr, IsBlock, IsInside}
use Rattle.inet_num.proofs.Aligned.{inside_by_start, nested}
use Rattle.inet_num.proofs.Nested.{same_by_len}
use Rattle.block_space.specs.Listed.{times_of, wider_of, around_below}

-- the block of a length around a block is one
pub wider_lawful : (b : Cidr) (n : ℕ) → IsBlock b → n ≤ b.len → IsBlock (wider_of b n)
wider_lawful b n h le =
    let size : ℕ = 2 ^ (width_of b.family - n) in
    let short = h.short in
    let in_range = h.in_range in
    let below = div-add-mod' b.first size in
    record { short = omega arith; aligned = mul-mod_left (b.first / size) size; in_range = omega arith }

-- and contains it
pub inside_wider : (b : Cidr) (n : ℕ) → IsBlock b → n ≤ b.len → IsInside b (wider_of b n)
inside_wider b n h le =
    let size : ℕ = 2 ^ (width_of b.family - n) in
    let below = div-add-mod' b.first size in
    let some : 0 < size = pow_pos (width_of b.family - n) in
    let above : b.first < b.first / size * size + size = lt-div-mul-add some in
    inside_by_start b (wider_of b n) h (wider_lawful b n h le) refl (omega arith) (omega arith) above

-- two blocks of one length around a block are one
pub one_of_length : (block b e : Cidr) → IsBlock b → IsBlock e → IsInside block b → IsInside block e → b.len ≡ e.len → b ≡ e
one_of_length block b e hb he i j same =
    let some = pow_pos (width_of block.family - block.len) in
    let at_b = i.each block.first (omega arith, omega arith) in
    let at_e = j.each block.first (omega arith, omega arith) in
    elim (nested b e hb he (sym i.family ∙ j.family) block.first at_b at_e) [
      | inl k ↦ same_by_len b e k (omega arith) hb.short he.short
      | inr k ↦ sym (same_by_len e b k (omega arith) he.short hb.short)
    ]

-- so a block around it is the one of its length
pub wider_is : (block e : Cidr) → IsBlock block → IsBlock e → IsInside block e → e.len ≤ block.len → wider_of block e.len ≡ e
wider_is block e hb he i le = one_of_length block (wider_of block e.len) e (wider_lawful block e.len hb le) he (inside_wider block e.len hb le) i refl

-- one length more
pub around_next : (blocks : List Cidr) (block : Cidr) (n : ℕ) → around_below blocks block (n + 1) ≡ around_below blocks block n + min (times_of blocks (wider_of block n)) 1
unfolding around_below
around_next blocks block n = ap (around_below blocks block) (let e : n + 1 ≡ suc n = omega arith in e)

-- no length at all
pub around_none : (blocks : List Cidr) (block : Cidr) → around_below blocks block 0 ≡ 0
unfolding around_below
around_none blocks block = refl

-- lengths of which the list has no block around it
pub around_skip : (blocks : List Cidr) (block : Cidr) (low high : ℕ) → low ≤ high → ((n : ℕ) → low ≤ n → n < high → times_of blocks (wider_of block n) ≡ 0) → around_below blocks block high ≡ around_below blocks block low
unfolding around_below
around_skip blocks block low zero le none = ap (around_below blocks block) (let e : 0 ≡ low = omega arith in e)
around_skip blocks block low (suc high) le none = elim (cases_lt high low) [
  | inl less ↦ ap (around_below blocks block) (let e : suc high ≡ low = omega arith in e)
  | inr more ↦
      let before = around_skip blocks block low high more (λ n from below. none n from (omega arith)) in
      let step : around_below blocks block (suc high) ≡ around_below blocks block high + 0 = ap (λ (k : ℕ). around_below blocks block high + min k 1) (none high more (omega arith)) in
      step ∙ (let e : around_below blocks block high + 0 ≡ around_below blocks block low = omega arith in e)
]

-- at most one a length
pub around_few : (blocks : List Cidr) (block : Cidr) (n : ℕ) → around_below blocks block n ≤ n
unfolding around_below
around_few blocks block zero = omega arith
around_few blocks block (suc n) =
    let before = around_few blocks block n in
    let times : ℕ = times_of blocks (wider_of block n) in
    let step : around_below blocks block (suc n) ≡ around_below blocks block n + min times 1 = refl in
    omega arith
