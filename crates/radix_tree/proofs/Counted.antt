-- How many blocks count for a land: the copies of its topmost node, and those in that node's halves.
use Rattle.std.proofs.Common.{◌≡◌, ◌≢◌, ℕ, suc, ◌+◌, ◌<◌, ◌≤◌, Bool, true, false, not, ◌&&◌, refl, sym, ◌∙◌, ap, subst, arith, inl, inr, Some, None, List, [], ◌∷◌, length}
use Rattle.std.specs.Prelude.{cond, Contains}
use Rattle.std.specs.List.{count_by}
use Rattle.std.proofs.lemmas.Bool.{cases_lt}
use Rattle.std.proofs.lemmas.Bool.Decides.{nat_tests}
use Rattle.std.proofs.lemmas.List.Sums.{sum_by-cons, length-filter, count_by-le-length}
use Rattle.inet_num.specs.Net.{Cidr, width_of, IsBlock, IsInside}
use Rattle.inet_num.specs.Free.{is_inside}
use Rattle.inet_num.proofs.Numbers.{same_block}
use Rattle.inet_num.proofs.Nested.{inside_trans, same_by_len}
use Rattle.inet_num.proofs.Available.{inside_test, inside_tested}
use Rattle.block_space.specs.Listed.{is_same, counts, counting_of}
use Rattle.block_space.proofs.FirstFits.{both, both_true}
use Rattle.node_pool.specs.Pooled.{node_at}
use Rattle.radix_tree.specs.declared.Node.{Node}
use Rattle.radix_tree.specs.declared.links.Linked.{Linked}
use Rattle.radix_tree.specs.Shape.{half, HasRoom, IsLink}
use Rattle.radix_tree.specs.Listed.{blocks_of}
use Rattle.radix_tree.specs.Sound.{IsSound}
use Rattle.radix_tree.proofs.Sides.{has_first, half_family, half_in, not_in_half, sides_apart, side_of, longer}
use Rattle.radix_tree.proofs.Order.{some_same, not_both, one_node}
use Rattle.radix_tree.proofs.Copies.{same_true}
use Rattle.radix_tree.proofs.Times.{same_false, times_node}
use Rattle.radix_tree.proofs.Covers.{node_of}
use Rattle.radix_tree.proofs.Covered.{not_true}
use Rattle.radix_tree.proofs.Lands.{none_is_land}
use Rattle.radix_tree.proofs.Strictly.{counts_other}

-- ---- counts over a list

abbrev one : (Cidr → Bool) → Cidr → ℕ
one p b = cond (p b) 1 0

count_none : (xs : List Cidr) → count_by (λ (b : Cidr). false) xs ≡ 0
count_none [] = refl
count_none (x ∷ xs) = count_none xs

count_same : (p q : Cidr → Bool) (xs : List Cidr) → ((b : Cidr) → Contains xs b → p b ≡ q b) → count_by p xs ≡ count_by q xs
count_same p q [] h = refl
count_same p q (x ∷ xs) h =
    let head : one p x ≡ one q x = ap (λ (t : Bool). cond t 1 0) (h x (0, omega arith, refl)) in
    let rest = count_same p q xs (λ b k. h b (suc k.0, omega (arith, k.1), k.2)) in
    let a = sum_by-cons (one p) x xs in
    let b = sum_by-cons (one q) x xs in
    omega (arith, head, rest, a, b)

count_parts : (p q r s : Cidr → Bool) (xs : List Cidr) → ((b : Cidr) → Contains xs b → one p b ≡ one q b + one r b + one s b) → count_by p xs ≡ count_by q xs + count_by r xs + count_by s xs
count_parts p q r s [] h = refl
count_parts p q r s (x ∷ xs) h =
    let head = h x (0, omega arith, refl) in
    let rest = count_parts p q r s xs (λ b k. h b (suc k.0, omega (arith, k.1), k.2)) in
    let a = sum_by-cons (one p) x xs in
    let b = sum_by-cons (one q) x xs in
    let c = sum_by-cons (one r) x xs in
    let d = sum_by-cons (one s) x xs in
    omega (arith, head, rest, a, b, c, d)

-- ---- one block

one_of : (p : Cidr → Bool) (b : Cidr) (t : Bool) → p b ≡ t → one p b ≡ cond t 1 0
one_of p b t e = ap (λ (x : Bool). cond x 1 0) e

counts_in : (land b : Cidr) → IsInside b land → counts land false b ≡ true
counts_in land b i = both_true (is_inside b land) true (inside_tested b land i) refl

counts_out : (land b : Cidr) → b.family ≡ land.family → (IsInside b land → ⊥) → counts land false b ≡ false
counts_out land b fam out = not_true (counts land false b) (λ e. out (inside_test b land fam (both (is_inside b land) true e).0))

counts_from : (land b : Cidr) → b.family ≡ land.family → counts land false b ≡ true → IsInside b land
counts_from land b fam e = inside_test b land fam (both (is_inside b land) true e).0

-- a block of the land is the node's, or lies in one of its halves
parts_one : (land n b : Cidr) → IsBlock n → IsBlock b → HasRoom n → b.family ≡ n.family → IsInside n land → (IsInside b land → IsInside b n)
    → one (counts land false) b ≡ one (is_same n) b + one (counts (half false n) false) b + one (counts (half true n) false) b
parts_one land n b hn hb room fam inside under = go (counts land false b) refl where
  half_fam : (s : Bool) → b.family ≡ (half s n).family
  half_fam s = fam ∙ sym (half_family s n)

  in_side : counts land false b ≡ true → (s : Bool) → IsInside b (half s n) → n.len < b.len → one (counts land false) b ≡ one (is_same n) b + one (counts (half false n) false) b + one (counts (half true n) false) b
  in_side e false i less =
      let first = has_first b in
      let all = one_of (counts land false) b true e in
      let own = one_of (is_same n) b false (same_false n b (sym fam) (λ z. (let l = ap (λ (c : Cidr). c.len) z in omega arith))) in
      let low = one_of (counts (half false n) false) b true (counts_in (half false n) b i) in
      let high = one_of (counts (half true n) false) b false (counts_out (half true n) b (half_fam true) (λ j. sides_apart false true n b.first (λ z. cc) (i.each b.first first) (j.each b.first first))) in
      omega (arith, all, own, low, high)
  in_side e true i less =
      let first = has_first b in
      let all = one_of (counts land false) b true e in
      let own = one_of (is_same n) b false (same_false n b (sym fam) (λ z. (let l = ap (λ (c : Cidr). c.len) z in omega arith))) in
      let low = one_of (counts (half false n) false) b false (counts_out (half false n) b (half_fam false) (λ j. sides_apart true false n b.first (λ z. cc) (i.each b.first first) (j.each b.first first))) in
      let high = one_of (counts (half true n) false) b true (counts_in (half true n) b i) in
      omega (arith, all, own, low, high)

  not_half : (s : Bool) → b ≡ n → IsInside b (half s n) → ⊥
  not_half s same i = not_in_half s n room (subst (λ (c : Cidr). IsInside c (half s n)) same i)

  go : (t : Bool) → counts land false b ≡ t → one (counts land false) b ≡ one (is_same n) b + one (counts (half false n) false) b + one (counts (half true n) false) b
  go true e =
      let i = under (counts_from land b (fam ∙ inside.family) e) in
      elim (cases_lt n.len b.len) [
        | inl less ↦ (let side = side_of n b hn hb i less in in_side e side.0 side.1 less)
        | inr not_less ↦
            let same = same_by_len b n i (omega arith) hb.short hn.short in
            let all = one_of (counts land false) b true e in
            let own = one_of (is_same n) b true (same_true n b (sym same)) in
            let low = one_of (counts (half false n) false) b false (counts_out (half false n) b (half_fam false) (not_half false same)) in
            let high = one_of (counts (half true n) false) b false (counts_out (half true n) b (half_fam true) (not_half true same)) in
            omega (arith, all, own, low, high)
      ]
  go false e =
      let out : IsInside b land → ⊥ = λ i. (let f : true ≡ false = sym (counts_in land b i) ∙ e in cc) in
      let all = one_of (counts land false) b false e in
      let own = one_of (is_same n) b false (same_false n b (sym fam) (λ z. out (subst (λ (c : Cidr). IsInside c land) z inside))) in
      let low = one_of (counts (half false n) false) b false (counts_out (half false n) b (half_fam false) (λ i. out (inside_trans b n land (inside_trans b (half false n) n i (half_in false n room)) inside))) in
      let high = one_of (counts (half true n) false) b false (counts_out (half true n) b (half_fam true) (λ i. out (inside_trans b n land (inside_trans b (half true n) n i (half_in true n room)) inside))) in
      omega (arith, all, own, low, high)

-- ---- the blocks of a tree

-- no node lies in the land
pub counted_none : (t : Linked) → IsSound t → (land : Cidr) (strict : Bool) → land.family ≡ t.family → IsLink t.pool None land → length (counting_of (blocks_of t.pool) land strict) ≡ 0
counted_none t w land strict fam link =
    length-filter (counts land strict) (blocks_of t.pool)
    ∙ count_same (counts land strict) (λ (b : Cidr). false) (blocks_of t.pool) (λ b k.
    let m = node_of t.pool.slots b k in
    let b_fam : b.family ≡ land.family = ap (λ (c : Cidr). c.family) (sym m.3) ∙ (w.tree.each m.0 m.1 m.2).family_is ∙ sym fam in
    not_true (counts land strict b) (λ e.
    let i = inside_test b land b_fam (both (is_inside b land) (not (strict && is_same b land)) e).0 in
    let lead = link.leads m.0 m.1 m.2 (subst (λ (c : Cidr). IsInside c land) (sym m.3) i) in not_both None lead.0 refl lead.2))
    ∙ count_none (blocks_of t.pool)

module _ (t : Linked) (w : IsSound t) (land : Cidr) (fam : land.family ≡ t.family) (id : ℕ) (n : Node) (e : node_at t.pool id ≡ Some n) (link : IsLink t.pool (Some id) land) where
  own : IsBlock n.block
  own = (w.tree.each id n e).lawful

  own_fam : n.block.family ≡ t.family
  own_fam = (w.tree.each id n e).family_is

  top_in : IsInside n.block land
  top_in = (let top = link.top id refl in subst (λ (x : Node). IsInside x.block land) (one_node t.pool id id top.0 n refl top.1 e) top.2)

  under : (b : Cidr) → Contains (blocks_of t.pool) b → IsInside b land → IsInside b n.block
  under b k i =
      let m = node_of t.pool.slots b k in
      let lead = link.leads m.0 m.1 m.2 (subst (λ (c : Cidr). IsInside c land) (sym m.3) i) in
      subst (λ (c : Cidr). IsInside c n.block) m.3 (subst (λ (x : Node). IsInside m.1.block x.block) (one_node t.pool lead.0 id lead.1 n (sym (some_same id lead.0 lead.2)) lead.3 e) lead.4)

  lawful : (b : Cidr) → Contains (blocks_of t.pool) b → IsBlock b × (b.family ≡ t.family)
  lawful b k = (let m = node_of t.pool.slots b k in (subst IsBlock m.3 (w.tree.each m.0 m.1 m.2).lawful, ap (λ (c : Cidr). c.family) (sym m.3) ∙ (w.tree.each m.0 m.1 m.2).family_is))

  -- a node with halves
  pub counted_halves : HasRoom n.block → length (counting_of (blocks_of t.pool) land false) ≡ n.count + length (counting_of (blocks_of t.pool) (half false n.block) false) + length (counting_of (blocks_of t.pool) (half true n.block) false)
  counted_halves room =
      let all = length-filter (counts land false) (blocks_of t.pool) in
      let low = length-filter (counts (half false n.block) false) (blocks_of t.pool) in
      let high = length-filter (counts (half true n.block) false) (blocks_of t.pool) in
      let times = times_node t w.tree n.block own_fam id n e refl in
      let parts = count_parts (counts land false) (is_same n.block) (counts (half false n.block) false) (counts (half true n.block) false) (blocks_of t.pool)
      (λ b k. let is = lawful b k in parts_one land n.block b own is.0 room (is.1 ∙ sym own_fam) top_in (under b k)) in
      omega (arith, all, low, high, times, parts)

  -- a single address
  pub counted_single : n.block.len ≡ width_of n.block.family → length (counting_of (blocks_of t.pool) land false) ≡ n.count
  counted_single full =
      let all = length-filter (counts land false) (blocks_of t.pool) in
      let times = times_node t w.tree n.block own_fam id n e refl in
      let same = count_same (counts land false) (is_same n.block) (blocks_of t.pool) (λ b k. one_test b k (counts land false b) refl) in
      omega (arith, all, times, same)
    where
      one_test : (b : Cidr) → Contains (blocks_of t.pool) b → (x : Bool) → counts land false b ≡ x → counts land false b ≡ is_same n.block b
      one_test b k true is =
          let lb = lawful b k in
          let i = under b k (counts_from land b (lb.1 ∙ sym fam) is) in
          let short = lb.0.short in
          let wide : width_of b.family ≡ width_of n.block.family = ap width_of i.family in
          let same = same_by_len b n.block i (omega (arith, short, wide, full)) lb.0.short own.short in
          is ∙ sym (same_true n.block b (sym same))
      one_test b k false is =
          let lb = lawful b k in
          is ∙ sym (same_false n.block b (own_fam ∙ sym lb.1) (λ z. (let f : true ≡ false = sym (counts_in land b (subst (λ (c : Cidr). IsInside c land) z top_in)) ∙ is in cc)))

  -- the block's own node does not count
  pub counted_strict : IsBlock land → n.block ≡ land → length (counting_of (blocks_of t.pool) land false) ≡ n.count + length (counting_of (blocks_of t.pool) land true)
  counted_strict hl same =
      let all = length-filter (counts land false) (blocks_of t.pool) in
      let rest = length-filter (counts land true) (blocks_of t.pool) in
      let times = times_node t w.tree land fam id n e same in
      let none = count_none (blocks_of t.pool) in
      let parts = count_parts (counts land false) (is_same land) (counts land true) (λ (b : Cidr). false) (blocks_of t.pool) (λ b k. strict_one b k (is_same b land) refl) in
      omega (arith, all, rest, times, none, parts)
    where
      strict_one : (b : Cidr) → Contains (blocks_of t.pool) b → (x : Bool) → is_same b land ≡ x → one (counts land false) b ≡ one (is_same land) b + one (counts land true) b + 0
      strict_one b k true is =
          let lb = lawful b k in
          let first : b.first ≡ land.first = grind (arith, nat_tests) in
          let len : b.len ≡ land.len = grind (arith, nat_tests) in
          let eq = same_block b land (lb.1 ∙ sym fam) first len in
          let all = one_of (counts land false) b true (counts_in land b (subst (λ (c : Cidr). IsInside c land) (same ∙ sym eq) top_in)) in
          let own = one_of (is_same land) b true (same_true land b (sym eq)) in
          let rest = one_of (counts land true) b false (not_true (counts land true b) (λ f. (let g = (both (is_inside b land) (not (true && is_same b land)) f).1 in let h : not true ≡ true = sym (ap not is) ∙ g in cc))) in
          omega (arith, all, own, rest)
      strict_one b k false is =
          let lb = lawful b k in
          let other : b ≢ land = λ eq. (let f : true ≡ false = sym (same_true b land eq) ∙ is in cc) in
          let own = one_of (is_same land) b false (same_false land b (fam ∙ sym lb.1) (λ z. other (sym z))) in
          let same_test : counts land true b ≡ counts land false b = ap (λ (x : Bool). is_inside b land && not x) is in
          let rest : one (counts land true) b ≡ one (counts land false) b = ap (λ (x : Bool). cond x 1 0) same_test in
          omega (arith, own, rest)

  -- another node: it is no matter whether the block itself counts
  pub counted_other : IsBlock land → (strict : Bool) → ((strict ≡ true) × (n.block ≡ land) → ⊥) → length (counting_of (blocks_of t.pool) land false) ≡ length (counting_of (blocks_of t.pool) land strict)
  counted_other hl false out = refl
  counted_other hl true out =
      length-filter (counts land false) (blocks_of t.pool)
      ∙ count_same (counts land false) (counts land true) (blocks_of t.pool) (λ b k. other_one b k (is_inside b land) refl)
      ∙ sym (length-filter (counts land true) (blocks_of t.pool))
    where
      other_one : (b : Cidr) → Contains (blocks_of t.pool) b → (x : Bool) → is_inside b land ≡ x → counts land false b ≡ counts land true b
      other_one b k false is = ap (λ (x : Bool). x && true) is ∙ sym (ap (λ (x : Bool). x && not (is_same b land)) is)
      other_one b k true is =
          let m = node_of t.pool.slots b k in
          let lb = lawful b k in
          let different : n.block ≢ land = λ z. out (refl, z) in
          let not_land : b ≢ land = λ z. none_is_land t land id n e link hl own (longer n.block land own hl top_in different) m.0 m.1 m.2 (m.3 ∙ z) in
          ap (λ (x : Bool). is_inside b land && x) (sym (counts_other true land b (lb.1 ∙ sym fam) not_land))

pub fewer : (xs : List Cidr) (land : Cidr) (strict : Bool) → length (counting_of xs land strict) ≤ length xs
fewer xs land strict = omega (arith, length-filter (counts land strict) xs, count_by-le-length (counts land strict) xs)
