-- The numbers that the register picks for claims of addresses are the free addresses.
use Rattle.std.proofs.Common.{◌&&◌, ◌+◌, ◌-◌, ◌<◌, ◌==◌, ◌^◌, ◌||◌, ◌∙◌, ◌≡◌, ◌≢◌, ◌≤◌, Bool, Contains, None, Option, Some, ap, arith, false, inl, inr, nat_le, nat_lt, not, refl, suc, sym, true, zero, ℕ}
use Rattle.std.proofs.lemmas.Bool.{cases_lt}
use Rattle.std.proofs.lemmas.Bool.Decides.{nat_tests}
use Rattle.std.proofs.lemmas.Nat.{pow_below, pow_pos}
use Rattle.inet_num.proofs.Insides.{both, one_family, same_family-refl}
use Rattle.inet_num.specs.Blocks.{block_holds, same_family}
use Rattle.inet_num.specs.Net.{Address, Cidr, first_of, last_of, size_of, width_of}
use Rattle.inet_num.specs.declared.Family.{Family}
use Rattle.inet_num.specs.declared.Family.TheVariants.{V4, V6}
use Rattle.block_space.specs.Listed.{counts}
use Rattle.block_space.specs.Usable.{has_broadcast, is_omitted, keeps_back}
use Rattle.ipam_data.specs.Claims.{has_number, is_beside, is_child_address, is_container, is_hosted, is_withheld, sees_all, usable_in, usable_of_range}
use Rattle.ipam_data.specs.State.{State}
use Rattle.ipam_data.specs.Tables.{same_table, table_of}
use Rattle.ipam_data.specs.declared.address.IpAddress.{IpAddress}
use Rattle.ipam_data.specs.declared.kinds.Table.TheVariants.{Global}
use Rattle.ipam_data.specs.declared.prefix.Prefix.{Prefix}
use Rattle.ipam_data.specs.declared.prefix.PrefixStatus.{PrefixStatus}
use Rattle.ipam_data.specs.declared.prefix.PrefixStatus.TheVariants.{Active, Container, Deprecated, Reserved}
use Rattle.ipam_data.specs.declared.range.IpRange.{IpRange}
use Rattle.ipam_data.proofs.Decided.{same_table-of}
use Rattle.claim_laws.specs.Free.{Counts, IsFreeIn, IsFreeInRange, IsGlobalContainer, IsIn, IsInRange, IsKeptBack}
use Rattle.claim_laws.proofs.Lists.{any_false, false_if_not, none_of_any, not_both, or_cases, or_true}
use Rattle.claim_laws.proofs.Picked.{spare_words, usable_words}

-- ---- tables

pub one_address : (a b : Address) → a.family ≡ b.family → a.value ≡ b.value → a ≡ b
one_address a b f v =
    ap (λ (x : Family). let c : Address = record { family = x; value = a.value } in c) f
    ∙ ap (λ (x : ℕ). let c : Address = record { family = b.family; value = x } in c) v

pub one_table : (a b : Option ℕ) → same_table (table_of a) (table_of b) ≡ true → a ≡ b
one_table None None e = refl
one_table None (Some n) e = cc
one_table (Some m) None e = cc
one_table (Some m) (Some n) e = (let same : m ≡ n = grind (arith, nat_tests) in ap (λ (k : ℕ). Some k) same)

container_is : (status : PrefixStatus) → is_container status ≡ true → status ≡ Container
container_is Container e = refl
container_is Active e = cc
container_is Reserved e = cc
container_is Deprecated e = cc

global_is : (vrf : Option ℕ) → same_table (table_of vrf) Global ≡ true → vrf ≡ None
global_is None e = refl
global_is (Some n) e = cc

pub global_seen : (p : Prefix) → IsGlobalContainer p → sees_all p ≡ true
global_seen p h = rw (h.0, h.1) refl

pub seen_global : (p : Prefix) → sees_all p ≡ true → IsGlobalContainer p
seen_global p e = let h = both (is_container p.status) (same_table (table_of p.vrf) Global) e in (container_is p.status h.0, global_is p.vrf h.1)

-- the table counts
pub table_counts : (p : Prefix) (vrf : Option ℕ) → Counts p vrf → (sees_all p || same_table (table_of vrf) (table_of p.vrf)) ≡ true
table_counts p vrf (inl e) = rw (same_table-of vrf p.vrf e) (or_true (sees_all p))
table_counts p vrf (inr h) = rw (global_seen p h) refl

pub counted : (p : Prefix) (vrf : Option ℕ) → (sees_all p || same_table (table_of vrf) (table_of p.vrf)) ≡ true → Counts p vrf
counted p vrf e = elim (or_cases (sees_all p) (same_table (table_of vrf) (table_of p.vrf)) e) [
  | inl t ↦ inr (seen_global p t)
  | inr t ↦ inl (one_table vrf p.vrf t)
]

-- ---- addresses in a block

holds_in : (b : Cidr) (a : Address) → IsIn b a → block_holds b a ≡ true
holds_in b a h =
    let low = h.1.0 in
    let high = h.1.1 in
    let family : same_family a.family b.family ≡ true = rw (h.0) (same_family-refl b.family) in
    let one : nat_le b.first a.value ≡ true = grind (arith, nat_tests) in
    let le : a.value ≤ b.first + size_of b - 1 = omega arith in
    let two : nat_le a.value (b.first + size_of b - 1) ≡ true = grind (arith, nat_tests) in
    rw (family, one, two) refl

in_held : (b : Cidr) (a : Address) → block_holds b a ≡ true → IsIn b a
in_held b a e =
    let h = both (same_family a.family b.family && nat_le b.first a.value) (nat_le a.value (b.first + size_of b - 1)) e in
    let k = both (same_family a.family b.family) (nat_le b.first a.value) h.0 in
    let some = pow_pos (width_of b.family - b.len) in
    let low : b.first ≤ a.value = (let t = k.1 in grind (arith, nat_tests)) in
    let high : a.value ≤ b.first + size_of b - 1 = (let t = h.1 in grind (arith, nat_tests)) in
    (one_family a.family b.family k.0, (low, omega arith))

-- ---- of a prefix

module _ (s : State) (p : Prefix) (a : Address) where
  unhosted : IsIn p.block a → ((y : IpAddress) → Contains s.addresses.rows y → Counts p y.vrf → y.host.addr ≢ a) → is_hosted s.addresses.rows p a.value ≡ false
  unhosted inside free = any_false (λ r. is_child_address p r && r.host.addr.value == a.value) s.addresses.rows (λ y c t.
      let k = both (is_child_address p y) (y.host.addr.value == a.value) t in
      let m = both (sees_all p || same_table (table_of y.vrf) (table_of p.vrf)) (block_holds p.block y.host.addr) k.0 in
      let value : y.host.addr.value ≡ a.value = (let e = k.1 in grind (arith, nat_tests)) in
      free y c (counted p y.vrf m.0) (one_address y.host.addr a ((in_held p.block y.host.addr m.1).0 ∙ sym inside.0) value))

  hosted_not : IsIn p.block a → is_hosted s.addresses.rows p a.value ≡ false → (y : IpAddress) → Contains s.addresses.rows y → Counts p y.vrf → y.host.addr ≢ a
  hosted_not inside f y c counts e =
      let held : block_holds p.block y.host.addr ≡ true = rw e (holds_in p.block a inside) in
      let value : (y.host.addr.value == a.value) ≡ true = (let v = ap (λ (b : Address). b.value) e in grind (arith, nat_tests)) in
      let child : is_child_address p y ≡ true = rw (table_counts p y.vrf counts, held) refl in
      let test : (is_child_address p y && y.host.addr.value == a.value) ≡ true = rw (child, value) refl in
      not_both (is_child_address p y && y.host.addr.value == a.value) test (none_of_any (λ r. is_child_address p r && r.host.addr.value == a.value) s.addresses.rows y f c)

  unwithheld : IsIn p.block a → ((r : IpRange) → Contains s.ranges.rows r → r.vrf ≡ p.vrf → r.mark_populated ≡ true → ¬ IsInRange r a) → is_withheld s.ranges.rows p a.value ≡ false
  unwithheld inside free = any_false (λ r. r.mark_populated && is_beside p r && has_number r a.value) s.ranges.rows (λ r c t.
      let k = both (r.mark_populated && is_beside p r) (has_number r a.value) t in
      let m = both r.mark_populated (is_beside p r) k.0 in
      let b = both (same_table (table_of r.vrf) (table_of p.vrf)) (same_family r.ends.start.family p.block.family) m.1 in
      let n = both (nat_le r.ends.start.value a.value) (nat_le a.value r.ends.end.value) k.1 in
      let low : r.ends.start.value ≤ a.value = (let e = n.0 in grind (arith, nat_tests)) in
      let high : a.value ≤ r.ends.end.value = (let e = n.1 in grind (arith, nat_tests)) in
      free r c (one_table r.vrf p.vrf b.0) m.0 (inside.0 ∙ sym (one_family r.ends.start.family p.block.family b.1), low, high))

  withheld_not : IsIn p.block a → is_withheld s.ranges.rows p a.value ≡ false → (r : IpRange) → Contains s.ranges.rows r → r.vrf ≡ p.vrf → r.mark_populated ≡ true → ¬ IsInRange r a
  withheld_not inside f r c table mark i =
      let low = i.1 in
      let high = i.2 in
      let family : same_family r.ends.start.family p.block.family ≡ true = rw (sym (i.0) ∙ inside.0) (same_family-refl p.block.family) in
      let one : nat_le r.ends.start.value a.value ≡ true = grind (arith, nat_tests) in
      let two : nat_le a.value r.ends.end.value ≡ true = grind (arith, nat_tests) in
      let test : (r.mark_populated && is_beside p r && has_number r a.value) ≡ true = rw (mark, same_table-of r.vrf p.vrf table, family, one, two) refl in
      not_both (r.mark_populated && is_beside p r && has_number r a.value) test (none_of_any (λ r. r.mark_populated && is_beside p r && has_number r a.value) s.ranges.rows r f c)

-- ---- what is kept back

larger : (n : ℕ) → 2 ≤ n → 2 < 2 ^ n
larger n h = pow_below 1 n (omega arith)

smaller : (n : ℕ) → n < 2 → 2 ^ n ≤ 2
smaller zero h = omega arith
smaller (suc zero) h = omega arith
smaller (suc (suc n)) h = absurd (omega arith)

broadcast_is : (f : Family) → has_broadcast f ≡ true → f ≡ V4
broadcast_is V4 e = refl
broadcast_is V6 e = cc

unpooled : (t u : Bool) → (not t && u) ≡ true → (t ≡ false) × (u ≡ true)
unpooled true u e = cc
unpooled false u e = (refl, e)

module _ (p : Prefix) (a : Address) (family : a.family ≡ p.block.family) where
  kept_back : is_omitted p.block p.is_pool a.value ≡ true → IsKeptBack p a
  kept_back e =
      let last : Bool = has_broadcast p.block.family && a.value + 1 == p.block.first + size_of p.block in
      let h = both (keeps_back p.block p.is_pool) (a.value == p.block.first || last) e in
      let k = unpooled p.is_pool (nat_lt (p.block.len + 1) (width_of p.block.family)) h.0 in
      let long : p.block.len + 1 < width_of p.block.family = (let t = k.1 in grind (arith, nat_tests)) in
      let some = pow_pos (width_of p.block.family - p.block.len) in
      record {
        no_pool = k.0;
        large = larger (width_of p.block.family - p.block.len) (omega arith);
        which = elim (or_cases (a.value == p.block.first) last h.1) [
          | inl t ↦ inl (one_address a (first_of p.block) family (grind (arith, nat_tests, t)))
          | inr t ↦ (
              let m = both (has_broadcast p.block.family) (a.value + 1 == p.block.first + size_of p.block) t in
              let value : a.value + 1 ≡ p.block.first + size_of p.block = (let e = m.1 in grind (arith, nat_tests)) in
              inr (broadcast_is p.block.family m.0, one_address a (last_of p.block) family (omega arith)))
        ];
      }

  back_kept : IsKeptBack p a → is_omitted p.block p.is_pool a.value ≡ true
  back_kept k =
      let large = k.large in
      let few : p.block.len + 1 < width_of p.block.family = elim (cases_lt (p.block.len + 1) (width_of p.block.family)) [
        | inl l ↦ l
        | inr l ↦ (let e = smaller (width_of p.block.family - p.block.len) (omega arith) in absurd (omega arith))
      ] in
      let long : nat_lt (p.block.len + 1) (width_of p.block.family) ≡ true = grind (arith, nat_tests) in
      let some = pow_pos (width_of p.block.family - p.block.len) in
      elim k.which [
        | inl e ↦ (let value : (a.value == p.block.first) ≡ true = (let v = ap (λ (b : Address). b.value) e in grind (arith, nat_tests)) in rw (k.no_pool, long, value) refl)
        | inr e ↦ (
            let v : a.value ≡ p.block.first + size_of p.block - 1 = ap (λ (b : Address). b.value) (e.1) in
            let value : (a.value + 1 == p.block.first + size_of p.block) ≡ true = (let w : a.value + 1 ≡ p.block.first + size_of p.block = omega arith in grind (arith, nat_tests)) in
            let cast : has_broadcast p.block.family ≡ true = rw (e.0) refl in
            rw (k.no_pool, long, cast, value) (or_true (a.value == p.block.first)))
      ]

-- ---- so what is picked is free

pub usable_free : (s : State) (p : Prefix) (a : Address) → a.family ≡ p.block.family → Contains (usable_in s p) a.value → IsFreeIn s p a
usable_free s p a family c =
    let k = (usable_words s p a.value).0 c in
    let inside : IsIn p.block a = (family, k.0) in
    record {
      inside = inside;
      unused = hosted_not s p a inside k.1;
      unpopulated = withheld_not s p a inside k.2;
      not_kept = λ h. not_both (is_omitted p.block p.is_pool a.value) (back_kept p a family h) k.3;
    }

pub free_usable : (s : State) (p : Prefix) (a : Address) → IsFreeIn s p a → Contains (usable_in s p) a.value
free_usable s p a h = (usable_words s p a.value).1 (
  h.inside.1,
  unhosted s p a h.inside h.unused,
  unwithheld s p a h.inside h.unpopulated,
  false_if_not (is_omitted p.block p.is_pool a.value) (λ e. h.not_kept (kept_back p a h.inside.0 e)),
)

-- ---- of a range

pub spare_free : (s : State) (r : IpRange) (a : Address) → a.family ≡ r.ends.start.family → Contains (usable_of_range s r) a.value → IsFreeInRange s r a
spare_free s r a family c =
    let k = (spare_words s r a.value).0 c in
    record {
      inside = (family, k.1, k.2);
      unused = λ y d table e. (
          let same : same_family y.host.addr.family r.ends.start.family ≡ true = rw (ap (λ (b : Address). b.family) e ∙ family) (same_family-refl r.ends.start.family) in
          let value : (y.host.addr.value == a.value) ≡ true = (let v = ap (λ (b : Address). b.value) e in grind (arith, nat_tests)) in
          let test : (same_table (table_of y.vrf) (table_of r.vrf) && same_family y.host.addr.family r.ends.start.family && y.host.addr.value == a.value) ≡ true = rw (same_table-of y.vrf r.vrf table, same, value) refl in
          not_both _ test (none_of_any (λ q. same_table (table_of q.vrf) (table_of r.vrf) && same_family q.host.addr.family r.ends.start.family && q.host.addr.value == a.value) s.addresses.rows y k.3 d));
      unpopulated = k.0;
    }

pub free_spare : (s : State) (r : IpRange) (a : Address) → IsFreeInRange s r a → Contains (usable_of_range s r) a.value
free_spare s r a h = (spare_words s r a.value).1 (
  h.unpopulated,
  h.inside.1,
  h.inside.2,
  any_false (λ q. same_table (table_of q.vrf) (table_of r.vrf) && same_family q.host.addr.family r.ends.start.family && q.host.addr.value == a.value) s.addresses.rows (λ y c t.
      let k = both (same_table (table_of y.vrf) (table_of r.vrf) && same_family y.host.addr.family r.ends.start.family) (y.host.addr.value == a.value) t in
      let m = both (same_table (table_of y.vrf) (table_of r.vrf)) (same_family y.host.addr.family r.ends.start.family) k.0 in
      let value : y.host.addr.value ≡ a.value = (let e = k.1 in grind (arith, nat_tests)) in
      h.unused y c (one_table y.vrf r.vrf m.0) (one_address y.host.addr a (one_family y.host.addr.family r.ends.start.family m.1 ∙ sym h.inside.0) value)),
)
