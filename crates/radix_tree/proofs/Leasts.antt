-- What follows for a node from its children is the least length of a free block inside it.
use Rattle.std.proofs.Common.{◌≡◌, ◌≢◌, ℕ, zero, suc, ◌+◌, ◌<◌, ◌≤◌, Bool, true, false, not, refl, sym, ◌∙◌, ap, subst, arith, inl, inr, Option, Some, None}
use Rattle.std.specs.Prelude.{nat_lt, cond}
use Rattle.std.proofs.lemmas.Bool.{cases_lt}
use Rattle.std.proofs.lemmas.Bool.Decides.{nat_tests}
use Rattle.inet_num.specs.Net.{Cidr, width_of, IsBlock, IsInside}
use Rattle.inet_num.proofs.Nested.{inside_trans, same_by_len}
use Rattle.block_space.specs.Listed.{counting_of}
use Rattle.node_pool.specs.Pooled.{node_at}
use Rattle.radix_tree.specs.declared.Node.{Node}
use Rattle.radix_tree.specs.declared.links.Linked.{Linked}
use Rattle.radix_tree.specs.declared.links.Place.TheVariants.{Under}
use Rattle.radix_tree.specs.Shape.{half, child, HasRoom, IsLink}
use Rattle.radix_tree.specs.Listed.{blocks_of}
use Rattle.radix_tree.specs.Figures.{Figures}
use Rattle.radix_tree.specs.Frees.{free_beside, side_free, if_uncounted, lesser, HasFrees, HasLeastFrees, IsLeastFree}
use Rattle.radix_tree.specs.Sound.{IsSound}
use Rattle.radix_tree.proofs.Sides.{self_in, has_first, half_family, half_in, side_of, room_above, len_of_inside}
use Rattle.radix_tree.proofs.Order.{one_node}
use Rattle.radix_tree.proofs.Joints.{half_lawful}
use Rattle.radix_tree.proofs.Covers.{half_len}
use Rattle.radix_tree.proofs.Covered.{half_short}
use Rattle.radix_tree.proofs.Taken.{HasHeld, held_to}
use Rattle.radix_tree.proofs.Mending.{child_node}
use Rattle.radix_tree.proofs.Halving.{least_halves, free_side}
use Rattle.radix_tree.proofs.Lands.{land_taken, land_free, half_taken, halves_linked, half_free, none_is_land}

lt_true : (m n : ℕ) → m < n → nat_lt m n ≡ true
lt_true m n h = grind (arith, nat_tests)

lt_false : (m n : ℕ) → n ≤ m → nat_lt m n ≡ false
lt_false m n h = grind (arith, nat_tests)

-- beside a smaller node one half of the land is free, and the land is not
pub beside_least : (t : Linked) → IsSound t → (land : Cidr) → IsBlock land → land.family ≡ t.family → (id : ℕ) (n : Node) → node_at t.pool id ≡ Some n → IsLink t.pool (Some id) land → IsInside n.block land → land.len < n.block.len
    → IsLeastFree (counting_of (blocks_of t.pool) land false) land (Some (land.len + 1))
beside_least t w land hl fam id n e link i less =
    let hn = (w.tree.each id n e).lawful in
    let room = room_above n.block land hn i less in
    let s = side_of land n.block hl hn i less in
    let links = halves_linked t w.tree land room id n e link s.0 s.1 in
    let strictly : (a : ℕ) (h : HasHeld t land false a) → h.node.block ≢ land = λ a h. none_is_land t land id n e link hl hn less h.id h.node h.here in
    let agree = half_taken t w.tree land hl fam room false strictly in
    let free = half_free t w.tree land hl fam room false strictly (not s.0) links.1 in
    let taken = land_taken t w land false id n e i (λ m j. refl) in (
      (half (not s.0) land, half_lawful (not s.0) land hl room, half_in (not s.0) land room, free, half_len (not s.0) land),
      λ b hb j f.
          let r = free_side land hl room (counting_of (blocks_of t.pool) land false) (λ q. counting_of (blocks_of t.pool) (half q land) false) agree taken b hb j f in
          let le = len_of_inside b (half r.0 land) hb.short (half_short r.0 land room) r.1.0 in
          let is = half_len r.0 land in
          omega (arith, le, is),
    )

-- a land with no node is free
pub clear_least : (t : Linked) → IsSound t → (land : Cidr) → IsBlock land → land.family ≡ t.family → IsLink t.pool None land → IsLeastFree (counting_of (blocks_of t.pool) land false) land (Some land.len)
clear_least t w land hl fam link = (
  (land, hl, self_in land, land_free t w.tree land false fam link, refl),
  λ b hb i f. len_of_inside b land hb.short hl.short i,
)

node_step : (t : Linked) → IsSound t → HasFrees t.pool → (id : ℕ) (n : Node) → node_at t.pool id ≡ Some n
    → (HasRoom n.block → (c : ℕ) (k : Node) → node_at t.pool c ≡ Some k → IsInside k.block n.block → n.block.len < k.block.len → IsLeastFree (counting_of (blocks_of t.pool) k.block false) k.block k.free)
    → IsLeastFree (counting_of (blocks_of t.pool) n.block false) n.block n.free
node_step t w frees id n e deeper = go n.count refl where
  own : IsBlock n.block
  own = (w.tree.each id n e).lawful

  fam : n.block.family ≡ t.family
  fam = (w.tree.each id n e).family_is

  -- the node has all its addresses
  counted : n.count ≢ 0 → IsLeastFree (counting_of (blocks_of t.pool) n.block false) n.block None
  counted some = λ b hb i free.
      let first = has_first b in
      let full = held_to t n.block false b.first (record { id = id; node = n; here = e; some = some; inside = self_in n.block; counted = refl; has = i.each b.first first }) in
      let none = free b.first first in
      let f : ⊥ = cc in f

  sided : (room : HasRoom n.block) (s : Bool) → ((c : ℕ) (k : Node) → child s n ≡ Some c → node_at t.pool c ≡ Some k → IsInside k.block (half s n.block) → IsLeastFree (counting_of (blocks_of t.pool) k.block false) k.block k.free)
      → (x : Option ℕ) → child s n ≡ x → IsLeastFree (counting_of (blocks_of t.pool) (half s n.block) false) (half s n.block) (side_free t.pool (n.block.len + 1) x)
  sided room s below None is =
      let land = half s n.block in
      let link = subst (λ (x : Option ℕ). IsLink t.pool x land) is (w.tree.links (Under id s) (child s n) land (n, e, room, refl, refl)) in
      subst (λ (l : ℕ). IsLeastFree (counting_of (blocks_of t.pool) land false) land (Some l)) (half_len s n.block) (clear_least t w land (half_lawful s n.block own room) (half_family s n.block ∙ fam) link)
  sided room s below (Some c) is =
      let land = half s n.block in
      let hl = half_lawful s n.block own room in
      let k = child_node t w.tree id n s c e is in
      let hk = (w.tree.each c k.0 k.1).lawful in
      let len = half_len s n.block in
      let le = len_of_inside k.0.block land hk.short hl.short k.2 in
      let link = subst (λ (x : Option ℕ). IsLink t.pool x land) is (w.tree.links (Under id s) (child s n) land (n, e, room, refl, refl)) in
      subst (IsLeastFree (counting_of (blocks_of t.pool) land false) land) (sym (ap (free_beside (n.block.len + 1)) k.1)) (elim (cases_lt (n.block.len + 1) k.0.block.len) [
        | inl less ↦ subst (IsLeastFree (counting_of (blocks_of t.pool) land false) land) (sym (ap (λ (x : Bool). cond x (Some (n.block.len + 1 + 1)) k.0.free) (lt_true (n.block.len + 1) k.0.block.len less)))
            (subst (λ (l : ℕ). IsLeastFree (counting_of (blocks_of t.pool) land false) land (Some (l + 1))) len (beside_least t w land hl (half_family s n.block ∙ fam) c k.0 k.1 link k.2 (omega (arith, len, less))))
        | inr not_less ↦
            let same = same_by_len k.0.block land k.2 (omega (arith, len, not_less)) hk.short hl.short in
            subst (IsLeastFree (counting_of (blocks_of t.pool) land false) land) (sym (ap (λ (x : Bool). cond x (Some (n.block.len + 1 + 1)) k.0.free) (lt_false (n.block.len + 1) k.0.block.len (omega (arith, not_less)))))
            (subst (λ (b : Cidr). IsLeastFree (counting_of (blocks_of t.pool) b false) b k.0.free) same (below c k.0 is k.1 k.2))
      ])

  uncounted : n.count ≡ 0 → (room : HasRoom n.block) → ((s : Bool) (c : ℕ) (k : Node) → child s n ≡ Some c → node_at t.pool c ≡ Some k → IsInside k.block (half s n.block) → IsLeastFree (counting_of (blocks_of t.pool) k.block false) k.block k.free)
      → IsLeastFree (counting_of (blocks_of t.pool) n.block false) n.block (lesser (side_free t.pool (n.block.len + 1) n.low) (side_free t.pool (n.block.len + 1) n.high))
  uncounted none room below =
      let strictly : (a : ℕ) (h : HasHeld t n.block false a) → h.node.block ≢ n.block = λ a h same. h.some (ap (λ (x : Node). x.count) (one_node t.pool h.id id h.node n (w.tree.one h.id id h.node n h.here e same) h.here e) ∙ none) in
      let agree = half_taken t w.tree n.block own fam room false strictly in
      let taken = land_taken t w n.block false id n e (self_in n.block) (λ m j. refl) in
      least_halves n.block own room (counting_of (blocks_of t.pool) n.block false) (λ q. counting_of (blocks_of t.pool) (half q n.block) false) agree taken
      (side_free t.pool (n.block.len + 1) n.low) (side_free t.pool (n.block.len + 1) n.high) (sided room false (below false) n.low refl) (sided room true (below true) n.high refl)

  has_room : n.count ≡ 0 → HasRoom n.block
  has_room none = elim (cases_lt n.block.len (width_of n.block.family)) [
    | inl room ↦ room
    | inr full ↦ absurd (w.full id n e (λ k. cc) none false ((w.tree.each id n e).shut (λ room. omega arith) false))
  ]

  says : (c : ℕ) → n.count ≡ c → n.free ≡ if_uncounted c (lesser (side_free t.pool (n.block.len + 1) n.low) (side_free t.pool (n.block.len + 1) n.high))
  says c is = ap (λ (f : Figures). f.free) (frees id n e) ∙ ap (λ (x : ℕ). if_uncounted x (lesser (side_free t.pool (n.block.len + 1) n.low) (side_free t.pool (n.block.len + 1) n.high))) is

  go : (c : ℕ) → n.count ≡ c → IsLeastFree (counting_of (blocks_of t.pool) n.block false) n.block n.free
  go (suc c) is = subst (IsLeastFree (counting_of (blocks_of t.pool) n.block false) n.block) (sym (says (suc c) is)) (counted (λ z. omega arith))
  go zero is = subst (IsLeastFree (counting_of (blocks_of t.pool) n.block false) n.block) (sym (says zero is)) (uncounted is (has_room is) (λ s c k js f i.
      let le = len_of_inside k.block (half s n.block) (w.tree.each c k f).lawful.short (half_short s n.block (has_room is)) i in
      let len = half_len s n.block in
      deeper (has_room is) c k f (inside_trans k.block (half s n.block) n.block i (half_in s n.block (has_room is))) (omega (arith, le, len))))

pub node_least : (t : Linked) → IsSound t → HasFrees t.pool → (d : ℕ) (id : ℕ) (n : Node) → node_at t.pool id ≡ Some n → width_of n.block.family ≤ n.block.len + d → IsLeastFree (counting_of (blocks_of t.pool) n.block false) n.block n.free
node_least t w frees zero id n e deep = node_step t w frees id n e (λ room c k f i less. absurd (omega arith))
node_least t w frees (suc d) id n e deep = node_step t w frees id n e (λ room c k f i less. (let fam : width_of k.block.family ≡ width_of n.block.family = ap width_of i.family in node_least t w frees d c k f (omega arith)))

pub all_least : (t : Linked) → IsSound t → HasFrees t.pool → HasLeastFrees t.pool
all_least t w frees id n e = node_least t w frees (width_of n.block.family) id n e (omega arith)
