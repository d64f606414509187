-- The numbers that the register picks for claims of addresses, by the tests that pick them.
use Rattle.std.proofs.Common.{◌&&◌, ◌+◌, ◌-◌, ◌<◌, ◌==◌, ◌↔◌, ◌∙◌, ◌∷◌, ◌≡◌, ◌≤◌, Bool, Contains, [], ap, arith, cond, false, filter, if◌then◌else◌, not, refl, suc, sym, true, zero, ℕ}
use Rattle.std.proofs.lemmas.Bool.Decides.{nat_tests}
use Rattle.inet_num.specs.Count.{addresses_of, numbers_from}
use Rattle.inet_num.specs.Net.{HasAddress, size_of}
use Rattle.block_space.specs.Usable.{is_omitted, is_usable, usable_of}
use Rattle.ipam_data.specs.Claims.{is_host_beside, is_hosted, is_withheld, usable_in, usable_of_range}
use Rattle.ipam_data.specs.State.{State}
use Rattle.ipam_data.specs.declared.prefix.Prefix.{Prefix}
use Rattle.ipam_data.specs.declared.range.IpRange.{IpRange}
use Rattle.ipam_data.proofs.AddressClaims.{Ups}
use Rattle.ipam_data.proofs.RowLists.{contains_rest}
use Rattle.claim_laws.proofs.Lemmas.{each_of, given_out, not_that, rising}
use Rattle.claim_laws.proofs.Lists.{each_contained}

-- the numbers between two that pass a test
module _ (p : ℕ → Bool) (from many : ℕ) where
  record IsPicked (u : ℕ) : Type 0 where
    low : from ≤ u
    high : u < from + many
    passes : p u ≡ true

  picked : (u : ℕ) → Contains (filter p (numbers_from from many)) u → IsPicked u
  picked u c = each_contained IsPicked (filter p (numbers_from from many)) u (each_of IsPicked p from many (λ x l h e. record { low = l; high = h; passes = e })) c

module _ (s : State) (p : Prefix) where
  pub usable_rise : Ups p.block.first (usable_in s p)
  unfolding usable_of addresses_of
  usable_rise = rising (is_usable (is_hosted s.addresses.rows p) (is_withheld s.ranges.rows p) p.block p.is_pool) p.block.first (size_of p.block)

module _ (s : State) (row : IpRange) where
  abbrev spare : ℕ → Bool
  spare a = not (is_host_beside s.addresses.rows row a)

  abbrev many : ℕ
  many = row.ends.end.value + 1 - row.ends.start.value

  pub spare_rise : Ups row.ends.start.value (usable_of_range s row)
  spare_rise = given_out (Ups row.ends.start.value) row.mark_populated (filter spare (numbers_from row.ends.start.value many)) tt (rising spare row.ends.start.value many)

-- a number between two that passes is picked
picks : (p : ℕ → Bool) (from many u : ℕ) → from ≤ u → u < from + many → p u ≡ true → Contains (filter p (numbers_from from many)) u
unfolding numbers_from
picks p from zero u low high t = absurd (omega arith)
picks p from (suc many) u low high t = go (p from) refl (from == u) refl (λ l. picks p (from + 1) many u l (omega arith) t)
  where
    go : (a : Bool) → p from ≡ a → (b : Bool) → (from == u) ≡ b → (from + 1 ≤ u → Contains (filter p (numbers_from (from + 1) many)) u)
        → Contains (cond a (from ∷ filter p (numbers_from (from + 1) many)) (filter p (numbers_from (from + 1) many))) u
    go true a true b ih = (let e : from ≡ u = grind (arith, nat_tests, b) in (0, omega arith, e))
    go true a false b ih = contains_rest from u (filter p (numbers_from (from + 1) many)) (ih (grind (arith, nat_tests, b)))
    go false a true b ih = (let e : from ≡ u = grind (arith, nat_tests, b) in let w : true ≡ false = sym t ∙ ap p (sym e) ∙ a in cc)
    go false a false b ih = ih (grind (arith, nat_tests, b))

three : (t u v : Bool) → (not t && not u && not v) ≡ true → (t ≡ false) × (u ≡ false) × (v ≡ false)
three false false false e = (refl, refl, refl)
three true u v e = cc
three false true v e = cc
three false false true e = cc

pub usable_words : (s : State) (p : Prefix) (a : ℕ) → Contains (usable_in s p) a
    ↔ (HasAddress p.block a × (is_hosted s.addresses.rows p a ≡ false) × (is_withheld s.ranges.rows p a ≡ false) × (is_omitted p.block p.is_pool a ≡ false))
unfolding usable_of addresses_of
usable_words s p a = (
  (λ c. let k = picked (is_usable (is_hosted s.addresses.rows p) (is_withheld s.ranges.rows p) p.block p.is_pool) p.block.first (size_of p.block) a c in
      let t = three (is_hosted s.addresses.rows p a) (is_withheld s.ranges.rows p a) (is_omitted p.block p.is_pool a) k.passes in
      ((k.low, k.high), t.0, t.1, t.2)),
  (λ h. picks (is_usable (is_hosted s.addresses.rows p) (is_withheld s.ranges.rows p) p.block p.is_pool) p.block.first (size_of p.block) a h.0.0 h.0.1 (rw (h.1, h.2, h.3) refl)),
)

pub spare_words : (s : State) (r : IpRange) (a : ℕ) → Contains (usable_of_range s r) a
    ↔ ((r.mark_populated ≡ false) × (r.ends.start.value ≤ a) × (a ≤ r.ends.end.value) × (is_host_beside s.addresses.rows r a ≡ false))
spare_words s r a = ((λ c. go r.mark_populated refl c), (λ h. back h.0 h.1 h.2 h.3))
  where
    go : (t : Bool) → r.mark_populated ≡ t → Contains (if t then [] else filter (spare s r) (numbers_from r.ends.start.value (many s r))) a
        → (r.mark_populated ≡ false) × (r.ends.start.value ≤ a) × (a ≤ r.ends.end.value) × (is_host_beside s.addresses.rows r a ≡ false)
    go true t c = let l = c.1 in absurd (omega arith)
    go false t c = let k = picked (spare s r) r.ends.start.value (many s r) a c in let low = k.low in let high = k.high in
        (t, k.low, omega arith, not_that (is_host_beside s.addresses.rows r a) k.passes)

    back : r.mark_populated ≡ false → r.ends.start.value ≤ a → a ≤ r.ends.end.value → is_host_beside s.addresses.rows r a ≡ false → Contains (usable_of_range s r) a
    back t low high free = rw t (picks (spare s r) r.ends.start.value (many s r) a low (omega arith) (rw free refl))
