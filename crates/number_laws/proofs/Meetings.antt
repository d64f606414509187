-- What a claim got is there where a later call gives numbers out, unless a call between gave it back; members hold different numbers.
use Rattle.std.proofs.Common.{◌≡◌, ◌⊎◌, ℕ, zero, suc, ◌<◌, ◌≤◌, Contains, List, [], ◌∷◌, length, take, Option, Some, None, refl, ap, sym, ◌∙◌, subst, arith, inl, inr}
use Rattle.std.specs.List.{slice_get}
use Rattle.ipam_data.specs.RowList.{row_at}
use Rattle.ipam_data.proofs.Kept.{contains_without}
use Rattle.number_pools.specs.declared.calls.PoolCall.{PoolCall}
use Rattle.number_pools.specs.declared.calls.PoolReply.TheVariants.{Gone}
use Rattle.number_pools.specs.declared.rows.PoolKind.{PoolKind}
use Rattle.number_pools.specs.declared.rows.NumberRange.{NumberRange}
use Rattle.number_pools.specs.declared.rows.Member.{Member}
use Rattle.number_pools.specs.Rows.{Pools, member_id, range_id}
use Rattle.number_pools.specs.Free.{pool_at, pool_by, pool_found}
use Rattle.number_pools.specs.Lawful.{IsLawfulPools}
use Rattle.number_pools.specs.Steps.{Check, cut_member_step, cut_member_checks, member_at, plain_pool_step, unless, without_member}
use Rattle.ipam_data.specs.Checks.{first as first_of}
use Rattle.number_pools.proofs.StepLaws.{steps_keep}
use Rattle.claim_laws.proofs.Lists.{place_within}
use Rattle.number_laws.specs.Histories.{replay, IsOfAsns, IsGivenBack, NumbersNeverMeet}
use Rattle.number_laws.proofs.Stays.{IsThere, GivesBack, stays}

-- ---- places of a history

lawful_at : (history : List PoolCall) (n : ℕ) (s : Pools) → IsLawfulPools s → IsLawfulPools (replay s (take n history))
lawful_at history zero s h = h
lawful_at [] (suc n) s h = h
lawful_at (c ∷ cs) (suc n) s h = lawful_at cs n (plain_pool_step s c).0 (steps_keep s c h)

after_call : (history : List PoolCall) (i : ℕ) (s : Pools) (c : PoolCall) → slice_get history i ≡ Some c → replay s (take (suc i) history) ≡ (plain_pool_step (replay s (take i history)) c).0
after_call [] i s c q = cc
after_call (d ∷ ds) zero s c q = (let same : d ≡ c = cc in ap (λ (e : PoolCall). (plain_pool_step s e).0) same)
after_call (d ∷ ds) (suc i) s c q = after_call ds i (plain_pool_step s d).0 c q

module _ (x : Member) (r : NumberRange) where
  -- a call from one place on and before another gives the number back
  record IsBack (s : Pools) (history : List PoolCall) (from to : ℕ) : Type 0 where
    place : ℕ
    from_on : from ≤ place
    before : place < to
    asked : PoolCall
    there : slice_get history place ≡ Some asked
    gives : GivesBack x r (replay s (take place history)) asked

  later : (s : Pools) (c : PoolCall) (cs : List PoolCall) (from to : ℕ) → IsBack (plain_pool_step s c).0 cs from to → IsBack s (c ∷ cs) (suc from) (suc to)
  later s c cs from to b = record { place = suc b.place; from_on = (let a = b.from_on in omega arith); before = (let a = b.before in omega arith); asked = b.asked; there = b.there; gives = b.gives }

  sooner : (s : Pools) (history : List PoolCall) (to : ℕ) → IsBack s history 1 to → IsBack s history zero to
  sooner s history to b = record { place = b.place; from_on = omega arith; before = b.before; asked = b.asked; there = b.there; gives = b.gives }

  kept_to : (history : List PoolCall) (from to : ℕ) (s : Pools) → from ≤ to → to ≤ length history → IsLawfulPools s → IsThere x r (replay s (take from history)) → IsThere x r (replay s (take to history)) ⊎ IsBack s history from to
  kept_to history zero zero s l m h p = inl p
  kept_to history (suc from) zero s l m h p = absurd (omega arith)
  kept_to [] from (suc to) s l m h p = absurd (omega arith)
  kept_to (c ∷ cs) zero (suc to) s l m h p = go (stays x r s c h p) (λ q. kept_to cs zero to (plain_pool_step s c).0 (omega arith) (omega arith) (steps_keep s c h) q)
    where
      go : IsThere x r (plain_pool_step s c).0 ⊎ GivesBack x r s c → (IsThere x r (plain_pool_step s c).0 → IsThere x r (replay (plain_pool_step s c).0 (take to cs)) ⊎ IsBack (plain_pool_step s c).0 cs zero to)
          → IsThere x r (replay (plain_pool_step s c).0 (take to cs)) ⊎ IsBack s (c ∷ cs) zero (suc to)
      go (inr g) ih = inr (record { place = zero; from_on = omega arith; before = omega arith; asked = c; there = refl; gives = g })
      go (inl q) ih = elim (ih q) [ inl k ↦ inl k | inr b ↦ inr (sooner s (c ∷ cs) (suc to) (later s c cs zero to b)) ]
  kept_to (c ∷ cs) (suc from) (suc to) s l m h p = elim (kept_to cs from to (plain_pool_step s c).0 (omega arith) (omega arith) (steps_keep s c h) p) [
    | inl q ↦ inl q
    | inr b ↦ inr (later s c cs from to b)
  ]

  given_back : (s : Pools) (history : List PoolCall) (i j : ℕ) → IsBack s history (suc i) j → IsGivenBack s history i j x.id
  given_back s history i j b = record {
    place = b.place;
    after = (let a = b.from_on in omega arith);
    before = b.before;
    kind = b.gives.kind;
    there = b.there ∙ ap (λ (c : PoolCall). Some c) b.gives.is;
    accepted = subst (λ (c : PoolCall). (plain_pool_step (replay s (take b.place history)) c).1 ≡ Gone) b.gives.is b.gives.gone;
  }

-- a call that gives a number back gives none out
none_given : (s : Pools) (id : ℕ) (found : Option Member) (y : Member) → Contains (cut_member_step s id found).0.members.rows y → Contains s.members.rows y
none_given s id None y c = c
none_given s id (Some m) y c = go (first_of (cut_member_checks s)) c
  where
    go : (why : Check) → Contains (unless why s (without_member s id) Gone).0.members.rows y → Contains s.members.rows y
    go (Some w) c = c
    go None c = contains_without member_id s.members.rows id y c

-- two members of one range, or of two ranges of ASNs, hold their numbers of one pool
pub asn_pool : (s : Pools) (m : Member) → IsOfAsns s m.range → pool_at s.ranges.rows m ≡ 0
asn_pool s m h = ap (λ (o : Option NumberRange). pool_found o m.range) h.1 ∙ ap (λ (k : PoolKind). pool_by k h.0.id) h.2

pub never_meet : NumbersNeverMeet
never_meet s history i j one other x y h l p q m n pools =
    let first : Pools = (plain_pool_step (replay s (take i history)) one).0 in
    let before : Pools = replay s (take j history) in
    let last : Pools = (plain_pool_step before other).0 in
    let lawful : IsLawfulPools before = lawful_at history j s h in
    let lawful_first : IsLawfulPools first = steps_keep (replay s (take i history)) one (lawful_at history i s h) in
    let lawful_last : IsLawfulPools last = steps_keep before other lawful in
    let own = lawful_first.within x m.0 in
    let there : IsThere x own.0 (replay s (take (suc i) history)) = subst (IsThere x own.0) (sym (after_call history i s one p)) (record { now = x; same = record { id = refl; range = refl; number = refl }; member = m.0; row = own.0; range = own.1; kind = refl }) in
    let within = place_within history j other q in
    elim (kept_to x own.0 history (suc i) j s (omega arith) (omega arith) h there) [
      | inr b ↦ inr (given_back x own.0 s history i j b)
      | inl k ↦ elim (stays x own.0 before other lawful k) [
        | inr g ↦ absurd (n.1 y (none_given before x.id (member_at before g.kind x.id) y (subst (λ (c : PoolCall). Contains (plain_pool_step before c).0.members.rows y) g.is n.0)) refl)
        | inl a ↦ inl (λ same. (
            let pool : pool_at last.ranges.rows x ≡ pool_at last.ranges.rows y = one_pool first last x y own.0 a.row own.1 a.range a.kind pools in
            let now : pool_at last.ranges.rows a.now ≡ pool_at last.ranges.rows x = ap (λ (k : ℕ). pool_found (row_at range_id last.ranges.rows k) k) a.same.range in
            n.1 k.now k.member (k.same.id ∙ sym a.same.id ∙ lawful_last.numbers a.now y a.member n.0 (now ∙ pool, a.same.number ∙ same))))
      ]
    ]
  where
    one_pool : (first last : Pools) (x y : Member) (r row : NumberRange) → row_at range_id first.ranges.rows x.range ≡ Some r → row_at range_id last.ranges.rows x.range ≡ Some row → row.kind ≡ r.kind
        → (x.range ≡ y.range) ⊎ (IsOfAsns first x.range × IsOfAsns last y.range) → pool_at last.ranges.rows x ≡ pool_at last.ranges.rows y
    one_pool first last x y r row e f k (inl same) = ap (λ (n : ℕ). pool_found (row_at range_id last.ranges.rows n) n) same
    one_pool first last x y r row e f k (inr both) =
        let is : both.0.0 ≡ r = (let q : Some both.0.0 ≡ Some r = sym both.0.1 ∙ e in cc) in
        asn_pool last x (row, f, k ∙ ap (λ (q : NumberRange). q.kind) (sym is) ∙ both.0.2) ∙ sym (asn_pool last y both.1)
