-- Lemmas on the plans of claims and on deleted roles.
use Rattle.std.proofs.Common.{◌≡◌, ℕ, zero, suc, ◌==◌, ◌+◌, ◌-◌, ◌<◌, ◌≤◌, ◌&&◌, Contains, Bool, true, false, cond, not, nat_lt, nat_le, List, [], ◌∷◌, ◌++◌, length, map, fold, filter, Option, Some, None, IsSome, refl, ap, sym, ◌∙◌, arith, if◌then◌else◌}
use Rattle.std.specs.List.{AllByRecursion}
use Rattle.std.proofs.lemmas.Bool.Decides.{nat_tests}
use Rattle.std.proofs.lemmas.Nat.{pow_pos}
use Rattle.inet_num.specs.Net.{Address, width_of, Cidr, size_of, last_of}
use Rattle.inet_num.specs.Count.{numbers_from}
use Rattle.inet_num.specs.Blocks.{same_family, is_strictly_inside}
use Rattle.inet_num.proofs.Numbers.{ends_of_inside}
use Rattle.inet_num.proofs.Insides.{same_family-refl}
use Rattle.block_space.specs.Fit.{Fits, first_fit_of, fits_of, onto_next}
use Rattle.ipam_data.specs.declared.calls.AddrItem.{AddrItem}
use Rattle.ipam_data.specs.declared.calls.BlockItem.{BlockItem}
use Rattle.ipam_data.specs.declared.prefix.Prefix.{Prefix}
use Rattle.ipam_data.specs.declared.range.IpRange.{IpRange}
use Rattle.ipam_data.specs.Rows.{prefix_id, range_id, address_id}
use Rattle.ipam_data.specs.Tables.{is_named}
use Rattle.ipam_data.specs.RowList.{row_at, mapped, Rises}
use Rattle.ipam_data.specs.State.{State}
use Rattle.ipam_data.specs.Updates.{with_view}
use Rattle.ipam_data.specs.Roles.{without_role}
use Rattle.ipam_data.specs.Prefixes.{prefix_without_role, prefixes_without_role, prefix_rules}
use Rattle.ipam_data.specs.Ranges.{range_without_role, ranges_without_role, range_rules}
use Rattle.ipam_data.specs.Claims.{claimed_prefixes, claimed_addresses, lengths_of}
use Rattle.ipam_data.proofs.RowLists.{eq_true, find_none}
use Rattle.ipam_data.proofs.Ties.{prefixes_tied, ranges_tied, put_all, puts_append}
use Rattle.ipam_data.proofs.Again.{put_again}
use Rattle.ipam_data.proofs.ManyCan.{Follow}
use Rattle.ipam_data.proofs.AddressClaims.{Ups}

-- ---- numbers that pass a test

pub rising : (p : ℕ → Bool) (a n : ℕ) → Ups a (filter p (numbers_from a n))
unfolding numbers_from
rising p a zero = tt
rising p a (suc n) = go (p a) (rising p (a + 1) n) where
  later : (us : List ℕ) → Ups (a + 1) us → Ups a us
  later [] h = tt
  later (u ∷ us) h = ((let l = h.0 in omega arith), h.1)

  go : (t : Bool) → Ups (a + 1) (filter p (numbers_from (a + 1) n)) → Ups a (cond t (a ∷ filter p (numbers_from (a + 1) n)) (filter p (numbers_from (a + 1) n)))
  go true h = (omega arith, h)
  go false h = later (filter p (numbers_from (a + 1) n)) h

pub each_of : (Q : ℕ → Type 0) (p : ℕ → Bool) (a n : ℕ) → ((x : ℕ) → a ≤ x → x < a + n → p x ≡ true → Q x) → AllByRecursion Q (filter p (numbers_from a n))
unfolding numbers_from
each_of Q p a zero h = tt
each_of Q p a (suc n) h = go (p a) refl (each_of Q p (a + 1) n (λ x low high. h x (omega arith) (omega arith))) where
  go : (t : Bool) → p a ≡ t → AllByRecursion Q (filter p (numbers_from (a + 1) n)) → AllByRecursion Q (cond t (a ∷ filter p (numbers_from (a + 1) n)) (filter p (numbers_from (a + 1) n)))
  go true e k = (h a (omega arith) (omega arith) e, k)
  go false e k = k

pub not_first : (t u v : Bool) → (not t && u && v) ≡ true → t ≡ false
not_first true u v e = cc
not_first false u v e = refl

pub not_that : (t : Bool) → not t ≡ true → t ≡ false
not_that true e = cc
not_that false e = refl

-- what holds of no numbers and of these holds of those that are given out
pub given_out : (Q : List ℕ → Type 0) (mark : Bool) (us : List ℕ) → Q [] → Q us → Q (if mark then [] else us)
given_out Q true us none some = none
given_out Q false us none some = some

-- ---- the rows of claims

pub prefixes_follow : (p : Prefix) (n : ℕ) (items : List BlockItem) (blocks : List Cidr) → Follow prefix_id n (claimed_prefixes p n items blocks)
prefixes_follow p n [] blocks = tt
prefixes_follow p n (item ∷ items) [] = tt
prefixes_follow p n (item ∷ items) (b ∷ blocks) = (refl, prefixes_follow p (n + 1) items blocks)

pub prefixes_few : (p : Prefix) (n : ℕ) (items : List BlockItem) (blocks : List Cidr) → length (claimed_prefixes p n items blocks) ≤ length items
prefixes_few p n [] blocks = omega arith
prefixes_few p n (item ∷ items) [] = omega arith
prefixes_few p n (item ∷ items) (b ∷ blocks) = let e = prefixes_few p (n + 1) items blocks in omega arith

pub addresses_follow : (vrf : Option ℕ) (len n : ℕ) (items : List AddrItem) (hosts : List Address) → Follow address_id n (claimed_addresses vrf len n items hosts)
addresses_follow vrf len n [] hosts = tt
addresses_follow vrf len n (item ∷ items) [] = tt
addresses_follow vrf len n (item ∷ items) (b ∷ hosts) = (refl, addresses_follow vrf len (n + 1) items hosts)

-- the prefix that an item gets
abbrev pub row_of : Prefix → ℕ → BlockItem → Cidr → Prefix
row_of p next item b = record { id = next; block = b; vrf = p.vrf; status = item.status; role = item.role; is_pool = item.is_pool; mark_utilized = item.mark_utilized; description = item.description }

-- a block that fits in a prefix's block and is longer lies strictly inside
pub fit_inside : (w : Cidr) (blocks : List Cidr) (len : ℕ) (b : Cidr) → w.len < len → Fits w blocks len w.first b → is_strictly_inside b w ≡ true
fit_inside w blocks len b longer h =
    let ends = ends_of_inside b w h.inside in
    let len_is = h.len_is in
    let low = ends.0 in
    let high = ends.1 in
    let some = pow_pos (width_of b.family - b.len) in
    let family : same_family b.family w.family ≡ true = rw h.inside.family (same_family-refl w.family) in
    let one : nat_lt w.len b.len ≡ true = grind (arith, nat_tests) in
    let two : nat_le w.first b.first ≡ true = grind (arith, nat_tests) in
    let three : nat_le (last_of b).value (last_of w).value ≡ true = (let le : b.first + size_of b - 1 ≤ w.first + size_of w - 1 = omega arith in grind (arith, nat_tests)) in
    rw (family, one, two, three) refl

pub fits_length : (w : Cidr) (lens : List ℕ) (blocks : List Cidr) → length (fits_of w blocks lens) ≤ length lens
unfolding fits_of
fits_length w [] blocks = omega arith
fits_length w (len ∷ lens) blocks = go (first_fit_of w blocks len w.first) (λ b. fits_length w lens (blocks ++ b ∷ [])) where
  go : (r : Option Cidr) → ((b : Cidr) → length (fits_of w (blocks ++ b ∷ []) lens) ≤ length lens) → length (onto_next r (λ b. fits_of w (blocks ++ b ∷ []) lens)) ≤ length (len ∷ lens)
  go None h = omega arith
  go (Some b) h = (let n = h b in omega arith)

pub lengths_length : (items : List BlockItem) → length (lengths_of items) ≡ length items
lengths_length [] = refl
lengths_length (item ∷ items) = ap (λ (n : ℕ). suc n) (lengths_length items)

pub claimed_length : (p : Prefix) (next : ℕ) (items : List BlockItem) (blocks : List Cidr) → length blocks ≤ length items → length (claimed_prefixes p next items blocks) ≡ length blocks
claimed_length p next [] [] le = refl
claimed_length p next [] (b ∷ blocks) le = absurd (omega arith)
claimed_length p next (item ∷ items) [] le = refl
claimed_length p next (item ∷ items) (b ∷ blocks) le = ap (λ (n : ℕ). suc n) (claimed_length p (next + 1) items blocks (omega arith))

-- ---- rows by their ids

-- a row that is there is found under its id
pub found_in : {T : Type 0} (id : T → ℕ) (xs : List T) (x : T) → Contains xs x → IsSome (row_at id xs (id x))
found_in {T} id xs x c = go (row_at id xs (id x)) refl
  where
    go : (found : Option T) → row_at id xs (id x) ≡ found → IsSome (row_at id xs (id x))
    go (Some y) e = rw e refl
    go None e =
        let a = find_none (λ row. id row == id x) xs x e c in
        let b = eq_true (id x) (id x) refl in
        let f : true ≡ false = sym b ∙ a in cc

-- where a role goes, all prefixes and ranges are put again, each without it
pub forgotten_of : (s : State) (n : ℕ) → Rises prefix_id 0 s.prefixes.rows → Rises range_id 0 s.ranges.rows → fold with_view s (without_role s n)
    ≡ record s { prefixes = mapped (prefix_without_role n) s.prefixes; ranges = mapped (range_without_role n) s.ranges }
forgotten_of s n one_rises other_rises =
    let prefixes : List Prefix = prefixes_without_role n s.prefixes.rows in
    let ranges : List IpRange = ranges_without_role n s.ranges.rows in
    let some : State = record s { prefixes = mapped (prefix_without_role n) s.prefixes } in
    let one : fold with_view s (map prefix_rules.view prefixes) ≡ some =
    put_all prefix_rules prefixes_tied s prefixes
    ∙ ap (λ (rows : List Prefix). record s { prefixes = record { rows = rows; next = s.prefixes.next } })
    (put_again prefix_id (prefix_without_role n) (λ row. is_named n row.role) 0 s.prefixes.rows one_rises (λ x. refl) (λ x e. rw e refl)) in
    let other : fold with_view some (map range_rules.view ranges) ≡ record some { ranges = mapped (range_without_role n) s.ranges } =
    put_all range_rules ranges_tied some ranges
    ∙ ap (λ (rows : List IpRange). record some { ranges = record { rows = rows; next = s.ranges.next } })
    (put_again range_id (range_without_role n) (λ row. is_named n row.role) 0 s.ranges.rows other_rises (λ x. refl) (λ x e. rw e refl)) in
    puts_append s (map prefix_rules.view prefixes) (map range_rules.view ranges)
    ∙ ap (λ (t : State). fold with_view t (map range_rules.view ranges)) one ∙ other
