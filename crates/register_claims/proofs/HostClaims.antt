-- Claims of addresses: what is told of the items, the rows that they get, and what the claim comes to.
use Rattle.std.proofs.Common.{◌≡◌, ℕ, zero, suc, ◌+◌, ◌-◌, ◌<◌, ◌≤◌, min, nat_lt, nat_le, Bool, true, false, cond, List, [], ◌∷◌, ◌++◌, Option, Some, None, refl, ap, sym, ◌∙◌, subst, arith, map, length, take, get_or, is_some, Result, Ok, Err, IfOk, Vec, Global}
use Rattle.std.specs.List.{flat_map, AllByRecursion}
use Rattle.std.specs.declared.alloc.AllocError.{AllocError}
use Rattle.std.proofs.lemmas.Bool.Decides.{nat_tests}
use Rattle.inet_num.specs.declared.Family.{Family}
use Rattle.inet_num.specs.Net.{width_of, Address}
use Rattle.block_space.specs.Usable.{addressed}
use Rattle.block_claim.specs.Claims.{IsServed, IsShort}
use Rattle.block_claim.specs.declared.fault.ClaimFault.{ClaimFault}
use Rattle.block_claim.specs.declared.fault.ClaimFault.TheVariants.{NoSpace as ShortOf, Memory}
use Rattle.ipam_data.specs.declared.address.IpAddress.{IpAddress}
use Rattle.ipam_data.specs.declared.kinds.Kind.TheVariants.{Addresses as AddressKind}
use Rattle.ipam_data.specs.declared.replies.Which.TheVariants.{Claims}
use Rattle.ipam_data.specs.declared.replies.Refusal.{Refusal}
use Rattle.ipam_data.specs.declared.replies.Refusal.TheVariants.{NoSpace}
use Rattle.ipam_data.specs.declared.replies.View.{View}
use Rattle.ipam_data.specs.declared.replies.View.TheVariants.{IpAddress as AddressView}
use Rattle.ipam_data.specs.declared.update.Update.{Update}
use Rattle.std.proofs.lemmas.List.{length-map, length-take, map-append}
use Rattle.ipam_data.specs.Hosts.{Masked}
use Rattle.ipam_data.specs.Rows.{most_addresses}
use Rattle.ipam_data.specs.Checks.{first, too_many, no_room, no_log}
use Rattle.ipam_data.specs.State.{State, Plan, verdict_of}
use Rattle.ipam_data.specs.Plans.{no_place}
use Rattle.ipam_data.specs.Replays.{is_accepted}
use Rattle.ipam_data.specs.Addresses.{address_rules}
use Rattle.register_tables.specs.declared.planned.Planned.{Planned}
use Rattle.register_tables.specs.declared.planned.Planned.TheVariants.{Refused, Read, Change}
use Rattle.register_tables.specs.Planned.{IsPlanned, IsChange}
use Rattle.register_tables.proofs.Firsts.{head_refuses, head_passes}
use Rattle.ipam_data.specs.declared.calls.AddrItem.{AddrItem}
use Rattle.ipam_data.specs.declared.calls.Answered.{Answered}
use Rattle.ipam_data.specs.declared.calls.Answered.TheVariants.{AsOne, AsList}
use Rattle.ipam_data.specs.Claims.{most_items, no_space, told_of_address, claimed_addresses, served, claim_addresses_of}

-- ---- the first of some lists that refuses

module _ {A : Type 0} (f : A → List (Option Refusal)) where
  pub none_told : (xs : List A) (i : ℕ) (x : A) → i < length xs → x ≡ get_or xs i x → first (f x) ≡ None → first (flat_map f (take i xs)) ≡ None → first (flat_map f (take (i + 1) xs)) ≡ None
  none_told [] i x l e h n = absurd (omega arith)
  none_told (y ∷ ys) zero x l e h n = (let here : first (f y) ≡ None = ap (λ (z : A). first (f z)) (sym e) ∙ h in head_passes (f y) [] here)
  none_told (y ∷ ys) (suc i) x l e h n =
      let s : suc i + 1 ≡ suc (i + 1) = omega arith in
      rw s (go (first (f y)) refl n (λ m. none_told ys i x (omega arith) e h m))
    where
      go : (o : Option Refusal) → first (f y) ≡ o → first (f y ++ flat_map f (take i ys)) ≡ None → (first (flat_map f (take i ys)) ≡ None → first (flat_map f (take (i + 1) ys)) ≡ None) → first (f y ++ flat_map f (take (i + 1) ys)) ≡ None
      go None o n ih = head_passes (f y) (flat_map f (take (i + 1) ys)) o ∙ ih (sym (head_passes (f y) (flat_map f (take i ys)) o) ∙ n)
      go (Some r) o n ih = (let k = head_refuses (f y) (flat_map f (take i ys)) r o in cc)

  pub first_told : (xs : List A) (i : ℕ) (x : A) (r : Refusal) → i < length xs → x ≡ get_or xs i x → first (f x) ≡ Some r → first (flat_map f (take i xs)) ≡ None → first (flat_map f xs) ≡ Some r
  first_told [] i x r l e h n = absurd (omega arith)
  first_told (y ∷ ys) zero x r l e h n = head_refuses (f y) (flat_map f ys) r (ap (λ (z : A). first (f z)) (sym e) ∙ h)
  first_told (y ∷ ys) (suc i) x r l e h n = go (first (f y)) refl n (λ m. first_told ys i x r (omega arith) e h m)
    where
      go : (o : Option Refusal) → first (f y) ≡ o → first (f y ++ flat_map f (take i ys)) ≡ None → (first (flat_map f (take i ys)) ≡ None → first (flat_map f ys) ≡ Some r) → first (f y ++ flat_map f ys) ≡ Some r
      go None o n ih = head_passes (f y) (flat_map f ys) o ∙ ih (sym (head_passes (f y) (flat_map f (take i ys)) o) ∙ n)
      go (Some s) o n ih = (let k = head_refuses (f y) (flat_map f (take i ys)) s o in cc)

  pub told_here : (xs : List A) (i : ℕ) (x : A) (fault : Option Refusal) → i < length xs → x ≡ get_or xs i x → fault ≡ first (f x) → is_some fault ≡ true → first (flat_map f (take i xs)) ≡ None → fault ≡ first (flat_map f xs)
  told_here xs i x None l e h k n = cc
  told_here xs i x (Some r) l e h k n = sym (first_told xs i x r l e (sym h) n)

  pub told_next : (xs : List A) (i : ℕ) (x : A) (fault : Option Refusal) → i < length xs → x ≡ get_or xs i x → fault ≡ first (f x) → is_some fault ≡ false → first (flat_map f (take i xs)) ≡ None → first (flat_map f (take (i + 1) xs)) ≡ None
  told_next xs i x None l e h k n = none_told xs i x l e (sym h) n
  told_next xs i x (Some r) l e h k n = cc

-- ---- the rows that items get

module _ (vrf : Option ℕ) (len : ℕ) where
  -- one more
  pub claimed_more : (next : ℕ) (items : List AddrItem) (hosts : List Address) (i : ℕ) (x : AddrItem) (a : Address) → i < length items → i < length hosts → x ≡ get_or items i x → a ≡ get_or hosts i a
      → claimed_addresses vrf len next (take (i + 1) items) (take (i + 1) hosts) ≡ claimed_addresses vrf len next (take i items) (take i hosts) ++ claimed_addresses vrf len (next + i) (x ∷ []) (a ∷ [])
  claimed_more next [] hosts i x a l m e f = absurd (omega arith)
  claimed_more next (y ∷ ys) [] i x a l m e f = absurd (omega arith)
  claimed_more next (y ∷ ys) (b ∷ bs) zero x a l m e f =
      let n : next ≡ next + zero = omega arith in
      ap (λ (z : AddrItem). claimed_addresses vrf len next (z ∷ []) (b ∷ [])) (sym e) ∙ ap (λ (z : Address). claimed_addresses vrf len next (x ∷ []) (z ∷ [])) (sym f)
      ∙ ap (λ (k : ℕ). claimed_addresses vrf len k (x ∷ []) (a ∷ [])) n
  claimed_more next (y ∷ ys) (b ∷ bs) (suc i) x a l m e f =
      let s : suc i + 1 ≡ suc (i + 1) = omega arith in
      let n : (next + 1) + i ≡ next + suc i = omega arith in
      rw s (ap (λ (zs : List IpAddress). claimed_addresses vrf len next (y ∷ []) (b ∷ []) ++ zs) (claimed_more (next + 1) ys bs i x a (omega arith) (omega arith) e f
      ∙ ap (λ (k : ℕ). claimed_addresses vrf len (next + 1) (take i ys) (take i bs) ++ claimed_addresses vrf len k (x ∷ []) (a ∷ [])) n))

  -- as many as there are items and addresses
  pub claimed_count : (next : ℕ) (items : List AddrItem) (hosts : List Address) → length (claimed_addresses vrf len next items hosts) ≡ min (length items) (length hosts)
  claimed_count next [] hosts = omega arith
  claimed_count next (x ∷ xs) [] = omega arith
  claimed_count next (x ∷ xs) (a ∷ bs) = (let h = claimed_count (next + 1) xs bs in omega arith)

  -- from the first addresses alone
  pub claimed_first : (next : ℕ) (items : List AddrItem) (hosts : List Address) → claimed_addresses vrf len next items (take (length items) hosts) ≡ claimed_addresses vrf len next items hosts
  claimed_first next [] hosts = refl
  claimed_first next (x ∷ xs) [] = refl
  claimed_first next (x ∷ xs) (a ∷ bs) = ap (λ (zs : List IpAddress). claimed_addresses vrf len next (x ∷ []) (a ∷ []) ++ zs) (claimed_first (next + 1) xs bs)

  -- the next view
  pub next_view : (next : ℕ) (items : List AddrItem) (hosts : List Address) (i : ℕ) (x : AddrItem) (host : Masked) (row : IpAddress) (views more : List View) → i < length items → length hosts ≡ length items → x ≡ get_or items i x
      → host.addr ≡ get_or hosts i host.addr → host.len ≡ len → row ∷ [] ≡ claimed_addresses vrf host.len (next + i) (x ∷ []) (host.addr ∷ [])
      → views ≡ map AddressView (claimed_addresses vrf len next (take i items) (take i hosts)) → more ≡ views ++ AddressView row ∷ []
      → more ≡ map AddressView (claimed_addresses vrf len next (take (i + 1) items) (take (i + 1) hosts))
  next_view next items hosts i x host row views more l m e f k is before after =
      let one : row ∷ [] ≡ claimed_addresses vrf len (next + i) (x ∷ []) (host.addr ∷ []) = is ∙ ap (λ (n : ℕ). claimed_addresses vrf n (next + i) (x ∷ []) (host.addr ∷ [])) k in
      after ∙ ap (λ (vs : List View). vs ++ AddressView row ∷ []) before
      ∙ ap (λ (rows : List IpAddress). map AddressView (claimed_addresses vrf len next (take i items) (take i hosts)) ++ map AddressView rows) one
      ∙ sym (map-append AddressView (claimed_addresses vrf len next (take i items) (take i hosts)) (claimed_addresses vrf len (next + i) (x ∷ []) (host.addr ∷ [])))
      ∙ ap (λ (rows : List IpAddress). map AddressView rows) (sym (claimed_more next items hosts i x host.addr l (omega arith) e f))

-- ---- what the claim comes to

-- what is told of a claim before anything is looked for
abbrev pub told_of_claim : List AddrItem → Family → List (Option Refusal)
told_of_claim items family = too_many Claims most_items (length items) ∷ flat_map (told_of_address family) items

short_is : (wanted got n : ℕ) → got ≡ n → n < wanted → no_space wanted got ≡ Some (NoSpace n)
short_is wanted got n e l =
    let t : nat_lt n wanted ≡ true = grind (arith, nat_tests) in
    ap (λ (k : ℕ). no_space wanted k) e ∙ ap (λ (u : Bool). cond u (Some (NoSpace n)) None) t

long_is : (wanted got : ℕ) → got ≡ wanted → no_space wanted got ≡ None
long_is wanted got e =
    let t : nat_lt got wanted ≡ false = grind (arith, nat_tests) in
    ap (λ (u : Bool). cond u (Some (NoSpace got)) None) t

accepted : (list : Answered) (views : List View) → is_accepted (served list views) ≡ true
accepted AsOne [] = refl
accepted AsOne (view ∷ views) = refl
accepted AsList views = refl

module _ (s : State) (list : Answered) (items : List AddrItem) (vrf : Option ℕ) (len : ℕ) (family : Family) (usable : List ℕ) where
  abbrev plan_of_claim : Plan
  plan_of_claim = claim_addresses_of s list items vrf len family usable

  abbrev rows_of_claim : List IpAddress
  rows_of_claim = claimed_addresses vrf len s.addresses.next items (addressed family usable)

  abbrev rest_of_claim : List (Option Refusal)
  rest_of_claim = no_space (length items) (length rows_of_claim) ∷ no_place address_rules s (length items)

  -- what is told refuses
  pub claim_told : (r : Refusal) → first (told_of_claim items family) ≡ Some r → verdict_of plan_of_claim ≡ Some r
  claim_told r e = head_refuses (told_of_claim items family) rest_of_claim r e

  many_rows : length rows_of_claim ≡ min (length items) (length usable)
  many_rows =
      claimed_count vrf len s.addresses.next items (addressed family usable)
      ∙ ap (λ (k : ℕ). min (length items) k) (length-map usable (λ (a : ℕ). let x : Address = record { family = family; value = a } in x))

  -- an item gets nothing
  pub claim_short : (n : ℕ) → first (told_of_claim items family) ≡ None → IsShort (length items) (length usable) (ShortOf n) → verdict_of plan_of_claim ≡ Some (NoSpace n)
  claim_short n e h =
      let m = many_rows in
      let is : n ≡ length usable = h.0 in
      let less : length usable < length items = h.1 in
      let low : n < length items = omega arith in
      let got : length rows_of_claim ≡ n = omega arith in
      head_passes (told_of_claim items family) rest_of_claim e
      ∙ ap (λ (o : Option Refusal). first (o ∷ no_place address_rules s (length items))) (short_is (length items) (length rows_of_claim) n got low)

  -- each item gets something: the place decides
  served_verdict : (found : List Address) → first (told_of_claim items family) ≡ None → IsServed (length items) (addressed family usable) found → verdict_of plan_of_claim ≡ first (no_place address_rules s (length items))
  served_verdict found e h =
      let m = claimed_count vrf len s.addresses.next items (addressed family usable) in
      let enough = h.enough in
      let got : length rows_of_claim ≡ length items = omega arith in
      head_passes (told_of_claim items family) rest_of_claim e
      ∙ ap (λ (o : Option Refusal). first (o ∷ no_place address_rules s (length items))) (long_is (length items) (length rows_of_claim) got)

  pub claim_full : (found : List Address) (r : Refusal) → first (told_of_claim items family) ≡ None → IsServed (length items) (addressed family usable) found → first (no_place address_rules s (length items)) ≡ Some r → verdict_of plan_of_claim ≡ Some r
  claim_full found r e h f = served_verdict found e h ∙ f

  rows_are : (found : List Address) → IsServed (length items) (addressed family usable) found → map AddressView rows_of_claim ≡ map AddressView (claimed_addresses vrf len s.addresses.next items found)
  rows_are found h =
      ap (λ (rows : List IpAddress). map AddressView rows)
      (sym (claimed_first vrf len s.addresses.next items (addressed family usable)) ∙ ap (λ (hosts : List Address). claimed_addresses vrf len s.addresses.next items hosts) (sym h.least))

  pub claim_served : (found : List Address) (p : Planned) → first (told_of_claim items family) ≡ None → IsServed (length items) (addressed family usable) found → first (no_place address_rules s (length items)) ≡ None
      → (let views = map AddressView (claimed_addresses vrf len s.addresses.next items found) in p ≡ Change (record { puts = views; cuts = []; next = (AddressKind, s.addresses.next + length items) ∷ []; spent = length items }) (served list views))
      → IsPlanned plan_of_claim p
  claim_served found p e h f is =
      subst (λ (q : Planned). IsPlanned plan_of_claim q) (sym is) (record {
        verdict = served_verdict found e h ∙ f;
        does = ap (λ (views : List View). let u : Update = record { puts = views; cuts = []; next = (AddressKind, s.addresses.next + length items) ∷ []; spent = length items } in u) (rows_are found h);
        says = ap (λ (views : List View). served list views) (rows_are found h);
        accepted = accepted list (map AddressView (claimed_addresses vrf len s.addresses.next items found));
      })

-- ---- as the functions say it

-- the place is asked of what the books say
pub place_is : (s : State) (more count next spent : ℕ) (r : Option Refusal) → count ≡ length s.addresses.rows → next ≡ s.addresses.next → spent ≡ s.spent
    → r ≡ first (no_room AddressKind most_addresses count next more ++ no_log spent more ∷ []) → first (no_place address_rules s more) ≡ r
place_is s more count next spent r a b c is =
    sym (is
    ∙ ap (λ (k : ℕ). first (no_room AddressKind most_addresses k next more ++ no_log spent more ∷ [])) a
    ∙ ap (λ (k : ℕ). first (no_room AddressKind most_addresses (length s.addresses.rows) k more ++ no_log spent more ∷ [])) b
    ∙ ap (λ (k : ℕ). first (no_room AddressKind most_addresses (length s.addresses.rows) s.addresses.next more ++ no_log k more ∷ [])) c)

module _ (s : State) (list : Answered) (items : List AddrItem) (vrf : Option ℕ) (len : ℕ) (family : Family) where
  pub made_planned : (found : List Address) (r : Result Planned AllocError) → first (told_of_claim items family) ≡ None → first (no_place address_rules s (length items)) ≡ None
      → IfOk r (λ p. let views = map AddressView (claimed_addresses vrf len s.addresses.next items found) in p ≡ Change (record { puts = views; cuts = []; next = (AddressKind, s.addresses.next + length items) ∷ []; spent = length items }) (served list views))
      → IfOk r (λ p. (usable : List ℕ) → IsServed (length items) (addressed family usable) found → IsPlanned (claim_addresses_of s list items vrf len family usable) p)
  made_planned found (Ok p) e f is = λ usable h. claim_served s list items vrf len family usable found p e h f is
  made_planned found (Err x) e f is = is

  pub served_planned : (l : ℕ) (f : Family) (usable : List ℕ) (found : List Address) (r : Result Planned AllocError) → len ≡ l → family ≡ f → IsServed (length items) (addressed f usable) found
      → IfOk r (λ p. (usable : List ℕ) → IsServed (length items) (addressed family usable) found → IsPlanned (claim_addresses_of s list items vrf len family usable) p)
      → IfOk r (λ p. IsPlanned (claim_addresses_of s list items vrf l f usable) p)
  served_planned l f usable found (Ok p) a b h all =
      subst (λ (k : ℕ). IsPlanned (claim_addresses_of s list items vrf k f usable) p) a
      (subst (λ (x : Family). IsPlanned (claim_addresses_of s list items vrf len x usable) p) b (all usable (subst (λ (x : Family). IsServed (length items) (addressed x usable) found) (sym b) h)))
  served_planned l f usable found (Err x) a b h all = all

  pub short_planned : (l : ℕ) (f : Family) (usable : List ℕ) (r : Result Planned AllocError) → len ≡ l → family ≡ f → first (told_of_claim items family) ≡ None
      → IfOk r (λ p. (p ≡ Refused (NoSpace (length usable))) × (length usable < length items)) → IfOk r (λ p. IsPlanned (claim_addresses_of s list items vrf l f usable) p)
  short_planned l f usable (Ok p) a b e h =
      subst (λ (q : Planned). IsPlanned (claim_addresses_of s list items vrf l f usable) q) (sym h.0)
      (claim_short s list items vrf l f usable (length usable) (subst (λ (x : Family). first (told_of_claim items x) ≡ None) b e) (refl, h.1))
  short_planned l f usable (Err x) a b e h = h

  pub told_planned : (l : ℕ) (f : Family) (usable : List ℕ) (r : Refusal) → family ≡ f → first (told_of_claim items family) ≡ Some r → verdict_of (claim_addresses_of s list items vrf l f usable) ≡ Some r
  told_planned l f usable r b e = claim_told s list items vrf l f usable r (subst (λ (x : Family). first (told_of_claim items x) ≡ Some r) b e)

pub mask_of : (l k : ℕ) (xs ys : List Address) → k ≡ l → ys ≡ xs → AllByRecursion (λ (a : Address). l ≤ width_of a.family) xs → AllByRecursion (λ (a : Address). k ≤ width_of a.family) ys
mask_of l k xs ys e f h =
    subst (λ (zs : List Address). AllByRecursion (λ (a : Address). k ≤ width_of a.family) zs) (sym f) (subst (λ (n : ℕ). AllByRecursion (λ (a : Address). n ≤ width_of a.family) xs) (sym e) h)

-- the addresses that are served: as many as were wanted, each one that the mask fits
masks : (len n : ℕ) (f : Family) (xs : List ℕ) → len ≤ width_of f → AllByRecursion (λ (a : Address). len ≤ width_of a.family) (take n (addressed f xs))
masks len zero f xs h = tt
masks len (suc n) f [] h = tt
masks len (suc n) f (x ∷ xs) h = (h, masks len n f xs h)

module _ (len n : ℕ) (f : Family) (usable : List ℕ) where
  pub served_mask : (r : Result (Vec Address Global) ClaimFault) → len ≤ width_of f → IfOk r (λ v. IsServed n (addressed f usable) v.items) → IfOk r (λ v. AllByRecursion (λ (a : Address). len ≤ width_of a.family) v.items)
  served_mask (Ok v) h is = subst (λ (xs : List Address). AllByRecursion (λ (a : Address). len ≤ width_of a.family) xs) (sym is.least) (masks len n f usable h)
  served_mask (Err x) h is = is

  pub served_count : (r : Result (Vec Address Global) ClaimFault) → IfOk r (λ v. IsServed n (addressed f usable) v.items) → IfOk r (λ v. length v.items ≡ n)
  served_count (Ok v) is = (let e = is.enough in ap (λ (xs : List Address). length xs) is.least ∙ length-take n (addressed f usable) ∙ omega arith)
  served_count (Err x) is = is
