-- The parts of a search for the first fit: the lowest place in a free land, the links for its halves, and how many nodes it visits.
use Rattle.std.proofs.Common.{◌≡◌, ◌≢◌, ℕ, zero, suc, ◌+◌, ◌*◌, ◌<◌, ◌≤◌, Bool, true, false, not, ◌&&◌, ◌↔◌, refl, sym, ◌∙◌, ap, subst, arith, inl, inr, Option, Some, None, List, []}
use Rattle.std.specs.Prelude.{IfSome, IsSome, IsTrue}
use Rattle.std.proofs.lemmas.Bool.{cases_lt}
use Rattle.inet_num.specs.Net.{Cidr, width_of, size_of, HasAddress, IsBlock, IsInside, first_of, block_at}
use Rattle.inet_num.specs.Free.{is_taken, IsFree}
use Rattle.inet_num.proofs.Nested.{inside_trans, same_by_len}
use Rattle.inet_num.proofs.Aligned.{aligned_smaller, inside_by_start, nested}
use Rattle.block_space.specs.Listed.{is_same, counting_of}
use Rattle.block_space.specs.Fit.{Fits, IsFirstFit}
use Rattle.node_pool.specs.Pooled.{node_at}
use Rattle.radix_tree.specs.declared.Node.{Node}
use Rattle.radix_tree.specs.declared.fits.Sides.{Sides}
use Rattle.radix_tree.specs.declared.links.Linked.{Linked}
use Rattle.radix_tree.specs.declared.links.Found.{Found}
use Rattle.radix_tree.specs.declared.links.Place.TheVariants.{Under}
use Rattle.radix_tree.specs.Shape.{half, HasRoom, IsLink, IsTree}
use Rattle.radix_tree.specs.Listed.{blocks_of}
use Rattle.radix_tree.specs.Find.{IsFound}
use Rattle.radix_tree.specs.Figures.{Figures}
use Rattle.radix_tree.specs.Frees.{if_uncounted, lesser, side_free, HasFrees, IsLeastFree}
use Rattle.radix_tree.specs.Fits.{Reaches, side_link, AreFitting, depth, IsQuick}
use Rattle.radix_tree.specs.Sound.{IsSound}
use Rattle.radix_tree.proofs.Sides.{self_in, has_first, half_in, longer, room_above}
use Rattle.radix_tree.proofs.Order.{some_same, not_both, one_node, move_link}
use Rattle.radix_tree.proofs.Joints.{half_lawful}
use Rattle.radix_tree.proofs.Covers.{half_len}
use Rattle.radix_tree.proofs.Halving.{free_agree, first_low, first_high}
use Rattle.radix_tree.proofs.Lands.{land_taken, half_taken, halves_linked, half_free, none_is_land}
use Rattle.radix_tree.proofs.Leasts.{node_least}

-- ---- the lowest place in a land

place_lawful : (land : Cidr) (len : ℕ) → IsBlock land → land.len ≤ len → len ≤ width_of land.family → IsBlock (block_at (first_of land) len)
place_lawful land len hl long short = record { short = short; aligned = aligned_smaller land.first (width_of land.family) land.len len long short hl.aligned; in_range = hl.in_range }

-- nothing fits in a land that ends before
pub none_from : (land : Cidr) (xs : List Cidr) (len from : ℕ) → land.first + size_of land ≤ from → IsFirstFit land xs len from None
none_from land xs len from ends = λ b fits.
    let in_land = fits.inside.each b.first (has_first b) in
    let from_on = fits.from_on in
    omega (arith, in_land.1)

pub place_first : (land : Cidr) (len from : ℕ) (r : Option Cidr) → IsBlock land → land.len ≤ len → len ≤ width_of land.family → from ≤ land.first
    → IfSome r (λ b. b ≡ block_at (first_of land) len) → (IsSome r ↔ IsBlock (block_at (first_of land) len)) → IsFirstFit land [] len from r
place_first land len from None hl long short early some cause = (let f : IsTrue false = cause.1 (place_lawful land len hl long short) in let g : ⊥ = cc in absurd g)
place_first land len from (Some b) hl long short early some cause =
    let p = block_at (first_of land) len in
    let hp = place_lawful land len hl long short in
    subst (λ (x : Cidr). IsFirstFit land [] len from (Some x)) (sym some) (
      record { lawful = hp; len_is = refl; inside = inside_by_start p land hp hl refl long (omega arith) (has_first land).1; free = λ a h. refl; from_on = early },
      λ c f. (f.inside.each c.first (has_first c)).0,
    )

-- a search in one half of a land without blocks
pub place_low : (land : Cidr) (len from : ℕ) (low : Cidr) (r : Option Cidr) (b : Cidr) → IsBlock land → len ≤ width_of land.family → land.len < len → low ≡ half false land → r ≡ Some b → IsFirstFit low [] len from r → IsFirstFit land [] len from (Some b)
place_low land len from low r b hl short less low_is is h =
    let there = subst (λ (x : Cidr). IsFirstFit x [] len from (Some b)) low_is (subst (IsFirstFit low [] len from) is h) in
    first_low land hl (omega arith) [] (λ s. []) (λ s a k. refl) len from less b there

pub place_high : (land : Cidr) (len from : ℕ) (low high : Cidr) (r q : Option Cidr) → IsBlock land → len ≤ width_of land.family → land.len < len → low ≡ half false land → high ≡ half true land → r ≡ None
    → IsFirstFit low [] len from r → IsFirstFit high [] len from q → IsFirstFit land [] len from q
place_high land len from low high r q hl short less low_is high_is is h k =
    first_high land hl (omega arith) [] (λ s. []) (λ s a x. refl) len from less q (subst (λ (x : Cidr). IsFirstFit x [] len from None) low_is (subst (IsFirstFit low [] len from) is h)) (subst (λ (x : Cidr). IsFirstFit x [] len from q) high_is k)

-- lists that take the same of a land have one first fit there
pub fit_agree : (xs ys : List Cidr) (land : Cidr) (len from : ℕ) → ((a : ℕ) → HasAddress land a → is_taken xs a ≡ is_taken ys a) → (r : Option Cidr) → IsFirstFit land xs len from r → IsFirstFit land ys len from r
fit_agree xs ys land len from same r h = go r h where
  to : (b : Cidr) → Fits land xs len from b → Fits land ys len from b
  to b f = record { lawful = f.lawful; len_is = f.len_is; inside = f.inside; free = free_agree xs ys b (λ a k. same a (f.inside.each a k)) f.free; from_on = f.from_on }

  back : (b : Cidr) → Fits land ys len from b → Fits land xs len from b
  back b f = record { lawful = f.lawful; len_is = f.len_is; inside = f.inside; free = free_agree ys xs b (λ a k. sym (same a (f.inside.each a k))) f.free; from_on = f.from_on }

  go : (r : Option Cidr) → IsFirstFit land xs len from r → IsFirstFit land ys len from r
  go None h = λ b f. h b (back b f)
  go (Some b) h = (to b h.0, λ c f. h.1 c (back c f))

-- ---- links for a block and for the halves of a land

pub link_none : (t : Linked) → IsTree t → (within : Cidr) (f : Found) → IsFound t within f → f.at ≡ None → IsLink t.pool None within
link_none t w within f h none = record {
  top = λ id e. absurd (not_both None id refl e);
  leads = λ id m e i. (let lead = (w.links f.place f.at f.land h.here).leads id m e (inside_trans m.block within f.land i h.inside) in absurd (not_both f.at lead.0 none lead.2));
}

module _ (t : Linked) (w : IsTree t) (within : Cidr) (f : Found) (h : IsFound t within f) (id : ℕ) (n : Node) (there : f.at ≡ Some id) (e : node_at t.pool id ≡ Some n) where
  under_top : (j : ℕ) (m : Node) → node_at t.pool j ≡ Some m → IsInside m.block within → IsInside m.block n.block
  under_top j m k i =
      let lead = (w.links f.place f.at f.land h.here).leads j m k (inside_trans m.block within f.land i h.inside) in
      subst (λ (x : Node). IsInside m.block x.block) (one_node t.pool lead.0 id lead.1 n (some_same lead.0 id (sym lead.2 ∙ there)) lead.3 e) lead.4

  pub link_some : IsInside n.block within → IsLink t.pool (Some id) within
  link_some inside = record {
    top = λ j js. (n, subst (λ (x : ℕ). node_at t.pool x ≡ Some n) (some_same id j js) e, inside);
    leads = λ j m k i. (id, n, refl, e, under_top j m k i);
  }

  pub link_apart : IsBlock within → within.family ≡ t.family → (IsInside n.block within → ⊥) → IsLink t.pool None within
  link_apart hb fam out = record {
    top = λ j js. absurd (not_both None j refl js);
    leads = λ j m k i.
        let own = w.each id n e in
        let first = has_first m.block in
        elim (nested within n.block hb own.lawful (fam ∙ sym own.family_is) m.block.first (i.each m.block.first first) ((under_top j m k i).each m.block.first first)) [
          | inl under ↦ absurd (out (subst (IsInside n.block) (h.stops id n there e under) (self_in n.block)))
          | inr over ↦ absurd (out over)
        ];
  }

module _ (t : Linked) (w : IsSound t) (frees : HasFrees t.pool) (land : Cidr) (hl : IsBlock land) (fam : land.family ≡ t.family) (id : ℕ) (n : Node) (e : node_at t.pool id ≡ Some n) (link : IsLink t.pool (Some id) land) (len : ℕ) where
  own_least : IsLeastFree (counting_of (blocks_of t.pool) n.block false) n.block n.free
  own_least = node_least t w frees (width_of n.block.family) id n e (omega arith)

  pub top_in : IsInside n.block land
  top_in = (let top = link.top id refl in subst (λ (x : Node). IsInside x.block land) (one_node t.pool id id top.0 n refl top.1 e) top.2)

  -- the land is the node's block, and the node says that no block of the length is free
  pub none_free : n.block ≡ land → (Reaches n.free len → ⊥) → (b : Cidr) → IsBlock b → IsInside b land → b.len ≤ len → IsFree (counting_of (blocks_of t.pool) land false) b → ⊥
  none_free same out b hb i le free = go n.free (subst (λ (x : Cidr). IsLeastFree (counting_of (blocks_of t.pool) x false) x n.free) same own_least) out where
    go : (f : Option ℕ) → IsLeastFree (counting_of (blocks_of t.pool) land false) land f → (Reaches f len → ⊥) → ⊥
    go None h out = h b hb i free
    go (Some l) h out = out (let least = h.1 b hb i free in omega arith)

  uncounted : Reaches n.free len → n.count ≡ 0
  uncounted reaches = go n.count refl where
    go : (c : ℕ) → n.count ≡ c → n.count ≡ 0
    go zero is = is
    go (suc c) is = absurd (subst (λ (f : Option ℕ). Reaches f len) (ap (λ (f : Figures). f.free) (frees id n e) ∙ ap (λ (x : ℕ). if_uncounted x (lesser (side_free t.pool (n.block.len + 1) n.low) (side_free t.pool (n.block.len + 1) n.high))) is) reaches)

  pub own_sides : n.block ≡ land → HasRoom land → Reaches n.free len → (sides : Sides) → sides.low ≡ n.low → sides.high ≡ n.high → AreFitting t land len sides
  own_sides same room reaches sides low_is high_is = record {
    links = links;
    others = λ j m k some is. some (ap (λ (x : Node). x.count) (one_node t.pool j id m n (w.tree.one j id m n k e (is ∙ sym same)) k e) ∙ uncounted reaches);
    fits = go n.free (subst (λ (x : Cidr). IsLeastFree (counting_of (blocks_of t.pool) x false) x n.free) same own_least) reaches;
  } where
    links : (s : Bool) → IsLink t.pool (side_link s sides) (half s land)
    links false = w.tree.links (Under id false) sides.low (half false land) (n, e, subst HasRoom (sym same) room, low_is, ap (half false) (sym same))
    links true = w.tree.links (Under id true) sides.high (half true land) (n, e, subst HasRoom (sym same) room, high_is, ap (half true) (sym same))

    go : (f : Option ℕ) → IsLeastFree (counting_of (blocks_of t.pool) land false) land f → Reaches f len → (b : Cidr) × IsBlock b × IsInside b land × IsFree (counting_of (blocks_of t.pool) land false) b × (b.len ≤ len)
    go None h out = absurd out
    go (Some l) h out = (let one = h.0 in (one.0, one.1, one.2, one.3, (let is = one.4 in omega arith)))

  -- the node is smaller than the land
  pub beside_sides : n.block ≢ land → land.len < len → (s : Bool) → IsInside n.block (half s land) → (sides : Sides) → side_link s sides ≡ Some id → side_link (not s) sides ≡ None → AreFitting t land len sides
  beside_sides other less s i sides own_is other_is =
      let hn = (w.tree.each id n e).lawful in
      let room = room_above n.block land hn top_in (longer n.block land hn hl top_in other) in
      let links = halves_linked t w.tree land room id n e link s i in
      let others = none_is_land t land id n e link hl hn (longer n.block land hn hl top_in other) in
      record {
        links = both_sides s (move_link t.pool (Some id) (side_link s sides) (half s land) (half s land) own_is refl links.0) (move_link t.pool None (side_link (not s) sides) (half (not s) land) (half (not s) land) other_is refl links.1);
        others = λ j m k some. others j m k;
        fits = (
          half (not s) land,
          half_lawful (not s) land hl room,
          half_in (not s) land room,
          half_free t w.tree land hl fam room false (λ a h. others h.id h.node h.here) (not s) links.1,
          (let is = half_len (not s) land in omega arith),
        );
      }
    where
      both_sides : (s : Bool) → IsLink t.pool (side_link s sides) (half s land) → IsLink t.pool (side_link (not s) sides) (half (not s) land) → (r : Bool) → IsLink t.pool (side_link r sides) (half r land)
      both_sides false a b false = a
      both_sides false a b true = b
      both_sides true a b false = b
      both_sides true a b true = a

-- ---- the search in a land

-- a land with a node has no free block of its own length
pub none_of_len : (t : Linked) → IsSound t → (land : Cidr) (strict : Bool) (id : ℕ) (n : Node) → node_at t.pool id ≡ Some n → IsInside n.block land → ((m : Cidr) → IsInside m n.block → not (strict && is_same m land) ≡ true) → IsBlock land → (len from : ℕ) → land.len ≡ len
    → IsFirstFit land (counting_of (blocks_of t.pool) land strict) len from None
none_of_len t w land strict id n e i counted hl len from same = λ b f.
    let is = f.len_is in
    land_taken t w land strict id n e i counted (subst (IsFree (counting_of (blocks_of t.pool) land strict)) (same_by_len b land f.inside (omega arith) f.lawful.short hl.short) f.free)

-- a free block of at most the length has a place at its begin, so a search from the land's first address finds one
pub some_fits : (land : Cidr) (xs : List Cidr) (len from : ℕ) (b : Cidr) → IsBlock b → IsInside b land → IsFree xs b → b.len ≤ len → len ≤ width_of land.family → from ≤ land.first → IsFirstFit land xs len from None → ⊥
some_fits land xs len from b hb i free le short early none =
    let fam : width_of b.family ≡ width_of land.family = ap width_of i.family in
    let p = block_at (first_of b) len in
    let hp = place_lawful b len hb le (omega arith) in
    let in_b = inside_by_start p b hp hb refl le (omega arith) (has_first b).1 in
    let first = (i.each b.first (has_first b)).0 in
    none p (record { lawful = hp; len_is = refl; inside = inside_trans p b land in_b i; free = λ a h. free a (in_b.each a h); from_on = omega arith })

module _ (t : Linked) (w : IsSound t) (land : Cidr) (hl : IsBlock land) (fam : land.family ≡ t.family) (room : HasRoom land) (strict : Bool) (strictly : (id : ℕ) (m : Node) → node_at t.pool id ≡ Some m → m.count ≢ 0 → not (strict && is_same m.block land) ≡ true → m.block ≢ land)
    (len from : ℕ) (less : land.len < len) (low : Cidr) (low_is : low ≡ half false land) (r : Option Cidr) where
  agree : (s : Bool) (a : ℕ) → HasAddress (half s land) a → is_taken (counting_of (blocks_of t.pool) land strict) a ≡ is_taken (counting_of (blocks_of t.pool) (half s land) false) a
  agree = half_taken t w.tree land hl fam room strict (λ a h. strictly h.id h.node h.here h.some h.counted)

  pub fit_low : (b : Cidr) → r ≡ Some b → IsFirstFit low (counting_of (blocks_of t.pool) low false) len from r → IsFirstFit land (counting_of (blocks_of t.pool) land strict) len from (Some b)
  fit_low b is h = first_low land hl room (counting_of (blocks_of t.pool) land strict) (λ s. counting_of (blocks_of t.pool) (half s land) false) agree len from less b
      (subst (λ (x : Cidr). IsFirstFit x (counting_of (blocks_of t.pool) x false) len from (Some b)) low_is (subst (IsFirstFit low (counting_of (blocks_of t.pool) low false) len from) is h))

  pub fit_high : (high : Cidr) → high ≡ half true land → (q : Option Cidr) → r ≡ None → IsFirstFit low (counting_of (blocks_of t.pool) low false) len from r → IsFirstFit high (counting_of (blocks_of t.pool) high false) len from q
      → IsFirstFit land (counting_of (blocks_of t.pool) land strict) len from q
  fit_high high high_is q is h k = first_high land hl room (counting_of (blocks_of t.pool) land strict) (λ s. counting_of (blocks_of t.pool) (half s land) false) agree len from less q
      (subst (λ (x : Cidr). IsFirstFit x (counting_of (blocks_of t.pool) x false) len from None) low_is (subst (IsFirstFit low (counting_of (blocks_of t.pool) low false) len from) is h))
      (subst (λ (x : Cidr). IsFirstFit x (counting_of (blocks_of t.pool) x false) len from q) high_is k)

-- ---- visits

half_depth : (s : Bool) (land : Cidr) → HasRoom land → depth (half s land) + 1 ≡ depth land
half_depth false land room = omega arith
half_depth true land room = omega arith

-- the low half gave nothing: either it was passed by, or the high one is searched from its begin
both_visits : (land : Cidr) → HasRoom land → (from : ℕ) (q : Option Cidr) (s1 s2 s3 : ℕ) → IsQuick (half false land) from None s1 s2 → IsQuick (half true land) from q s2 s3 → s3 ≤ s1 + 4 * depth land
both_visits land room from q s1 s2 s3 low high =
    let d = half_depth false land room in
    let e = half_depth true land room in
    elim (cases_lt from (half true land).first) [
      | inl less ↦ (let a = low.none refl in let b = high.early (omega arith) in omega (arith, a, b, d, e))
      | inr past ↦ (let a = low.past (omega arith) in let b = high.all in omega (arith, a, b, d, e))
    ]

-- a search that visits nothing, one that visits the land's node alone, and one that finds a block in the low half
pub quick_at_once : (land : Cidr) (from : ℕ) (r : Option Cidr) (s : ℕ) → IsQuick land from r s s
quick_at_once land from r s = record { past = λ le. refl; none_early = λ none early. omega arith; none = λ none. omega arith; early = λ early. omega arith; all = omega arith }

pub quick_here : (land : Cidr) (from : ℕ) (r : Option Cidr) (s0 s1 : ℕ) → from < land.first + size_of land → s1 ≡ s0 + 1 → IsQuick land from r s0 s1
quick_here land from r s0 s1 reached one = record { past = λ le. absurd (omega arith); none_early = λ none early. omega arith; none = λ none. omega arith; early = λ early. omega arith; all = omega arith }

pub quick_low : (land : Cidr) → HasRoom land → (from : ℕ) (low : Cidr) (r : Option Cidr) (b : Cidr) (s0 s1 s2 : ℕ) → from < land.first + size_of land → low ≡ half false land → r ≡ Some b → s1 ≡ s0 + 1 → IsQuick low from r s1 s2 → IsQuick land from r s0 s2
quick_low land room from low r b s0 s1 s2 reached low_is found one h =
    let l : IsQuick (half false land) from r s1 s2 = subst (λ (x : Cidr). IsQuick x from r s1 s2) low_is h in
    let some : r ≡ None → ⊥ = λ none. not_both r b none found in record {
      past = λ le. absurd (omega arith);
      none_early = λ none early. absurd (some none);
      none = λ none. absurd (some none);
      early = λ early. (let le = l.early early in omega arith);
      all = (let le = l.all in omega arith);
    }

pub quick_high : (land : Cidr) → IsBlock land → HasRoom land → (from : ℕ) (low high : Cidr) (r q : Option Cidr) (s0 s1 s2 s3 : ℕ) → from < land.first + size_of land → low ≡ half false land → high ≡ half true land → r ≡ None → s1 ≡ s0 + 1
    → (q ≡ None → from ≤ land.first → ⊥) → IsQuick low from r s1 s2 → IsQuick high from q s2 s3 → IsQuick land from q s0 s3
quick_high land hl room from low high r q s0 s1 s2 s3 reached low_is high_is is one finds h k =
    let l = subst (λ (x : Cidr). IsQuick x from None s1 s2) low_is (subst (λ (x : Option Cidr). IsQuick low from x s1 s2) is h) in
    let g = subst (λ (x : Cidr). IsQuick x from q s2 s3) high_is k in
    let d = half_depth false land room in
    let e = half_depth true land room in
    let all = both_visits land room from q s1 s2 s3 l g in
    record {
      past = λ over. absurd (omega arith);
      none_early = λ none early. absurd (finds none early);
      none = λ none. elim (cases_lt from (half true land).first) [
        | inl less ↦ (let a = l.none refl in let b = g.none_early none (omega arith) in omega (arith, a, b, d, one))
        | inr past ↦ (let a = l.past (omega arith) in let b = g.none none in omega (arith, a, b, e, one))
      ];
      early = λ early. (let a = l.none_early refl early in let b = g.early (omega arith) in omega (arith, a, b, e, one));
      all = omega (arith, all, one);
    }

pub pair_visits : (land : Cidr) → HasRoom land → (from : ℕ) (low high : Cidr) (r q : Option Cidr) (s1 s2 s3 : ℕ) → low ≡ half false land → high ≡ half true land → r ≡ None → IsQuick low from r s1 s2 → IsQuick high from q s2 s3 → s3 ≤ s1 + 4 * depth land
pair_visits land room from low high r q s1 s2 s3 low_is high_is is h k =
    both_visits land room from q s1 s2 s3 (subst (λ (x : Cidr). IsQuick x from None s1 s2) low_is (subst (λ (x : Option Cidr). IsQuick low from x s1 s2) is h)) (subst (λ (x : Cidr). IsQuick x from q s2 s3) high_is k)
