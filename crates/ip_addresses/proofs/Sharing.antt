-- Addresses that clash: they are rows at one place, of which not both have a shared role.
use Rattle.std.proofs.Common.{◌≡◌, ℕ, zero, suc, ◌+◌, ◌<◌, ◌≤◌, ◌==◌, nat_lt, ◌&&◌, Bool, true, false, not, cond, List, [], ◌∷◌, drop, drop_of_length-le, length, Option, Some, None, find, slice_get, refl, ap, sym, subst, ◌∙◌, arith, option_map}
use Rattle.std.specs.List.{count_by}
use Rattle.std.specs.Option.{option_or}
use Rattle.inet_num.specs.declared.Family.{Family}
use Rattle.inet_num.specs.declared.Family.TheVariants.{V4, V6}
use Rattle.inet_num.specs.Net.{Address, block_at, width_of}
use Rattle.inet_num.specs.Blocks.{same_family, same_block, same_address}
use Rattle.ipam_data.specs.declared.address.IpAddress.{IpAddress}
use Rattle.ipam_data.specs.declared.kinds.Table.{Table}
use Rattle.ipam_data.specs.RowList.{row_at, least, least_pair, least_rival, is_rival, Rises}
use Rattle.ipam_data.specs.Rows.{address_id}
use Rattle.ipam_data.specs.Tables.{table_of, same_table}
use Rattle.ipam_data.specs.Addresses.{is_shared, clash, clashes, clash_in, clash_of}
use Rattle.ipam_data.proofs.Kept.{none_from_map}
use Rattle.placed_book.proofs.RowPlaces.{lt_true, lt_false, eq_true, eq_false}
use Rattle.placed_book.specs.Kinds.{placed_address}
use Rattle.placed_book.specs.Rivals.{in_one_table, is_rival as is_placed_rival}
use Rattle.placed_book.proofs.Lookups.{one_table}
use Rattle.ip_addresses.specs.Book.{clashes_past}
use Rattle.placed_book.proofs.Orders.{both, count_yes, count_no}
use Rattle.placed_book.proofs.Searches.{some_within, none_counted, none_drop, never_found, rises_from, pair_step}

-- ---- tests of one row and another

-- the blocks of two hosts are one where the hosts are
host_test : (f g : Family) (v w : ℕ) → (same_family f g && (v == w) && (width_of f == width_of g)) ≡ (same_family f g && (v == w))
host_test V4 V4 v w = all_true (v == w) where
  all_true : (t : Bool) → (t && true) ≡ t
  all_true true = refl
  all_true false = refl
host_test V4 V6 v w = refl
host_test V6 V4 v w = refl
host_test V6 V6 v w = all_true (v == w) where
  all_true : (t : Bool) → (t && true) ≡ t
  all_true true = refl
  all_true false = refl

host_blocks : (a b : Address) → same_block (block_at a (width_of a.family)) (block_at b (width_of b.family)) ≡ same_address a b
host_blocks a b = host_test a.family b.family a.value b.value

-- all that is at the place of a row whose role is not shared clashes with it
grouped : (n t s : Bool) → (n && t && s) ≡ (n && (t && (s && true)))
grouped true true true = refl
grouped true true false = refl
grouped true false s = refl
grouped false t s = refl

unshared : (row x : IpAddress) → is_shared row ≡ false → is_placed_rival address_id placed_address row x ≡ is_rival address_id clashes row x
unshared row x u =
    ap (λ (t : Bool). not (x.id == row.id) && in_one_table (placed_address row) (placed_address x) && t) (host_blocks x.host.addr row.host.addr)
    ∙ grouped (not (x.id == row.id)) (in_one_table (placed_address row) (placed_address x)) (same_address x.host.addr row.host.addr)
    ∙ ap (λ (s : Bool). not (x.id == row.id) && (in_one_table (placed_address row) (placed_address x) && (same_address x.host.addr row.host.addr && not (s && is_shared x)))) (sym u)

-- and what clashes with a row is at its place
at_one_place : (n t s c : Bool) → (n && (t && (s && c))) ≡ true → (n && t && s) ≡ true
at_one_place true true true c h = refl
at_one_place true true false c h = h
at_one_place true false s c h = h
at_one_place false t s c h = h

is_there_too : (row x : IpAddress) → is_rival address_id clashes row x ≡ true → is_placed_rival address_id placed_address row x ≡ true
is_there_too row x h =
    ap (λ (t : Bool). not (x.id == row.id) && in_one_table (placed_address row) (placed_address x) && t) (host_blocks x.host.addr row.host.addr)
    ∙ at_one_place (not (x.id == row.id)) (in_one_table (placed_address row) (placed_address x)) (same_address x.host.addr row.host.addr) (not (is_shared row && is_shared x)) h

-- ---- what is found by either

module _ {T : Type 0} (p q : T → Bool) where
  found_alike : ((x : T) → p x ≡ q x) → (xs : List T) → find p xs ≡ find q xs
  found_alike same [] = refl
  found_alike same (x ∷ xs) = ap (λ (t : Bool). cond t (Some x) (find p xs)) (same x) ∙ ap (λ (o : Option T). cond (q x) (Some x) o) (found_alike same xs)

  none_of_fewer : ((x : T) → q x ≡ true → p x ≡ true) → (xs : List T) → find p xs ≡ None → find q xs ≡ None
  none_of_fewer fewer [] h = refl
  none_of_fewer fewer (x ∷ xs) h = go (p x) (q x) (fewer x) h (none_of_fewer fewer xs) where
    go : (t s : Bool) → (s ≡ true → t ≡ true) → cond t (Some x) (find p xs) ≡ None → (find p xs ≡ None → find q xs ≡ None) → cond s (Some x) (find q xs) ≡ None
    go true s f h ih = cc
    go false true f h ih = (let wrong : false ≡ true = f refl in cc)
    go false false f h ih = ih h

  -- where one row passes the wider test, no other one passes the narrower
  only_one : ((x : T) → q x ≡ true → p x ≡ true) → (xs : List T) (y : T) → count_by p xs ≡ 1 → find p xs ≡ Some y → find q xs ≡ cond (q y) (Some y) None
  only_one fewer [] y n f = cc
  only_one fewer (x ∷ xs) y n f = go (p x) refl f (only_one fewer xs y) where
    go : (t : Bool) → p x ≡ t → cond t (Some x) (find p xs) ≡ Some y → (count_by p xs ≡ 1 → find p xs ≡ Some y → find q xs ≡ cond (q y) (Some y) None) → cond (q x) (Some x) (find q xs) ≡ cond (q y) (Some y) None
    go true t f ih =
        let is : x ≡ y = cc in
        let sum = count_yes p x xs t in
        let rest : find q xs ≡ None = none_of_fewer fewer xs (none_counted p xs (omega arith)) in
        subst (λ (z : T). cond (q x) (Some x) (find q xs) ≡ cond (q z) (Some z) None) is (ap (λ (o : Option T). cond (q x) (Some x) o) rest)
    go false t f ih =
        let sum = count_no p x xs t in
        ap (λ (s : Bool). cond s (Some x) (find q xs)) (denied (q x) (λ s. sym t ∙ fewer x s)) ∙ ih (omega arith) f
      where
        denied : (s : Bool) → (s ≡ true → false ≡ true) → s ≡ false
        denied true f = (let wrong : false ≡ true = f refl in cc)
        denied false f = refl

  -- a row that is found is the one of its id
  found_at : (id : T → ℕ) (low : ℕ) (xs : List T) (y : T) → Rises id low xs → find p xs ≡ Some y → (row_at id xs (id y) ≡ Some y) × (low < id y)
  found_at id low [] y r f = cc
  found_at id low (x ∷ xs) y r f = go (p x) f (found_at id (id x) xs y r.1) where
    go : (t : Bool) → cond t (Some x) (find p xs) ≡ Some y → (find p xs ≡ Some y → (row_at id xs (id y) ≡ Some y) × (id x < id y)) → (cond (id x == id y) (Some x) (row_at id xs (id y)) ≡ Some y) × (low < id y)
    go true f ih =
        let is : x ≡ y = cc in
        let same = ap id is in
        let above = r.0 in
        (rw (eq_true (id x) (id y) same) (ap Some is), omega arith)
    go false f ih =
        let rest = ih f in
        let later = rest.1 in
        let above = r.0 in
        (rw (eq_false (id x) (id y) (omega arith)) rest.0, omega arith)

-- rows past an id

module _ {T : Type 0} (id : T → ℕ) (q : T → Bool) where
  with_test : (t s : Bool) → s ≡ true → (t && s) ≡ t
  with_test true true e = refl
  with_test true false e = cc
  with_test false s e = refl

  without_test : (t s : Bool) → s ≡ false → (t && s) ≡ false
  without_test true true e = cc
  without_test true false e = refl
  without_test false s e = refl

  -- where all ids are above it, each row is past it
  all_past : (n low : ℕ) (xs : List T) → n ≤ low → Rises id low xs → find (λ x. q x && nat_lt n (id x)) xs ≡ find q xs
  all_past n low [] le r = refl
  all_past n low (x ∷ xs) le r =
      let above = r.0 in
      ap (λ (t : Bool). cond t (Some x) (find (λ y. q y && nat_lt n (id y)) xs)) (with_test (q x) (nat_lt n (id x)) (lt_true n (id x) (omega arith)))
      ∙ ap (λ (o : Option T). cond (q x) (Some x) o) (all_past n (id x) xs (omega arith) r.1)

  above_at : (low : ℕ) (xs : List T) (i : ℕ) (row : T) → Rises id low xs → slice_get xs i ≡ Some row → low < id row
  above_at low [] i row r e = cc
  above_at low (x ∷ xs) zero row r e = (let is : x ≡ row = cc in let same = ap id is in let above = r.0 in omega arith)
  above_at low (x ∷ xs) (suc i) row r e = (let above = r.0 in let rest = above_at (id x) xs i row r.1 e in omega arith)

  -- those behind a row are those of ids above its own
  past_are_behind : (low : ℕ) (xs : List T) (i : ℕ) (row : T) → Rises id low xs → slice_get xs i ≡ Some row → find (λ x. q x && nat_lt (id row) (id x)) xs ≡ find q (drop (i + 1) xs)
  past_are_behind low [] i row r e = cc
  past_are_behind low (x ∷ xs) zero row r e =
      let is : x ≡ row = cc in
      let same = ap id is in
      ap (λ (t : Bool). cond t (Some x) (find (λ y. q y && nat_lt (id row) (id y)) xs)) (without_test (q x) (nat_lt (id row) (id x)) (lt_false (id row) (id x) (omega arith)))
      ∙ all_past (id row) (id x) xs (omega arith) r.1
  past_are_behind low (x ∷ xs) (suc i) row r e =
      let later = above_at (id x) xs i row r.1 e in
      let next : suc i + 1 ≡ suc (i + 1) = omega arith in
      ap (λ (t : Bool). cond t (Some x) (find (λ y. q y && nat_lt (id row) (id y)) xs)) (without_test (q x) (nat_lt (id row) (id x)) (lt_false (id row) (id x) (omega arith)))
      ∙ past_are_behind (id x) xs i row r.1 e
      ∙ rw next refl

pub unshared_least : (rows : List IpAddress) (row : IpAddress) → is_shared row ≡ false → least address_id (is_placed_rival address_id placed_address row) rows ≡ least_rival address_id clashes rows row
unshared_least rows row u = ap (λ (o : Option IpAddress). option_map address_id o) (found_alike (is_placed_rival address_id placed_address row) (is_rival address_id clashes row) (λ x. unshared row x u) rows)

-- ---- where it is one row that may clash

past_is_there : (past : ℕ) (row x : IpAddress) → clashes_past past row x ≡ true → is_placed_rival address_id placed_address row x ≡ true
past_is_there past row x h = is_there_too row x (both (is_rival address_id clashes row x) (nat_lt past x.id) h).0

module _ (rows : List IpAddress) (row : IpAddress) where
  as_ids : (p : IpAddress → Bool) (xs : List IpAddress) → find p xs ≡ None → None ≡ least address_id p xs
  as_ids p xs none = sym (ap (λ (o : Option IpAddress). option_map address_id o) none)

  -- where none is there, none clashes
  pub none_there : (from : ℕ) → count_by (is_placed_rival address_id placed_address row) rows ≡ 0 → None ≡ least address_id (is_rival address_id clashes row) (drop from rows)
  none_there from n =
      let none = none_of_fewer (is_placed_rival address_id placed_address row) (is_rival address_id clashes row) (is_there_too row) rows (none_counted (is_placed_rival address_id placed_address row) rows n) in
      as_ids (is_rival address_id clashes row) (drop from rows) (none_drop (is_rival address_id clashes row) from rows none)

  pub none_first : (past : ℕ) → None ≡ least address_id (is_placed_rival address_id placed_address row) rows → None ≡ least address_id (clashes_past past row) rows
  none_first past none =
      as_ids (clashes_past past row) rows
      (none_of_fewer (is_placed_rival address_id placed_address row) (clashes_past past row) (past_is_there past row) rows
      (none_from_map address_id (find (is_placed_rival address_id placed_address row) rows) (sym none)))

  found_with : (o : Option IpAddress) (n : ℕ) → Some n ≡ option_map address_id o → (y : IpAddress) × (o ≡ Some y) × (n ≡ y.id)
  found_with None n e = cc
  found_with (Some y) n e = (y, refl, cc)

  module _ (rises : Rises address_id 0 rows) (n : ℕ) (first : Some n ≡ least address_id (is_placed_rival address_id placed_address row) rows) where
    first_row : (y : IpAddress) × (find (is_placed_rival address_id placed_address row) rows ≡ Some y) × (row_at address_id rows n ≡ Some y)
    first_row =
        let found = found_with (find (is_placed_rival address_id placed_address row) rows) n first in
        let at = found_at (is_placed_rival address_id placed_address row) (is_rival address_id clashes row) address_id 0 rows found.0 rises found.1 in
        (found.0, found.1, ap (λ (k : ℕ). row_at address_id rows k) found.2 ∙ at.0)

    pub is_not_missing : None ≡ row_at address_id rows n → ⊥
    is_not_missing none = (let there = first_row in let wrong : None ≡ Some there.0 = none ∙ there.2 in cc)

    -- the one that is there is the least that clashes, or none does
    pub only_it : (past : ℕ) (other : IpAddress) → Some other ≡ row_at address_id rows n → count_by (is_placed_rival address_id placed_address row) rows ≡ 1
        → (b : Bool) → b ≡ clashes_past past row other → cond b (Some other.id) None ≡ least address_id (clashes_past past row) rows
    only_it past other at one b is =
        let there = first_row in
        let same : there.0 ≡ other = (let e : Some other ≡ Some there.0 = at ∙ there.2 in cc) in
        let alone = only_one (is_placed_rival address_id placed_address row) (clashes_past past row) (past_is_there past row) rows other one (there.1 ∙ ap Some same) in
        as_id b (clashes_past past row other) is ∙ sym (ap (λ (o : Option IpAddress). option_map address_id o) alone)
      where
        as_id : (b c : Bool) → b ≡ c → cond b (Some other.id) None ≡ option_map address_id (cond c (Some other) None)
        as_id true true e = refl
        as_id true false e = cc
        as_id false true e = cc
        as_id false false e = refl

  -- past 0 are all rows, and past the id of one of them those behind it
  pub past_none : Rises address_id 0 rows → least address_id (clashes_past 0 row) rows ≡ least_rival address_id clashes rows row
  past_none rises = ap (λ (o : Option IpAddress). option_map address_id o) (all_past address_id (is_rival address_id clashes row) 0 0 rows (omega arith) rises)

  pub past_itself : (i : ℕ) → Rises address_id 0 rows → Some row ≡ slice_get rows i → least address_id (clashes_past row.id row) rows ≡ least address_id (is_rival address_id clashes row) (drop (i + 1) rows)
  past_itself i rises at = ap (λ (o : Option IpAddress). option_map address_id o) (past_are_behind address_id (is_rival address_id clashes row) 0 rows i row rises (sym at))

-- ---- pairs in a table

-- of rows with greater ids, those of the table that clash with a row of it are those that clash with it in its own
later_alike : (table : Table) (row : IpAddress) (xs : List IpAddress) (low : ℕ) → row.id ≤ low → Rises address_id low xs → same_table (table_of row.vrf) table ≡ true → find (clash_in table row) xs ≡ find (is_rival address_id clashes row) xs
later_alike table row [] low le r s = refl
later_alike table row (y ∷ ys) low le r s =
    let above = r.0 in
    let other : (y.id == row.id) ≡ false = eq_false y.id row.id (omega arith) in
    let is = one_table (table_of row.vrf) table s in
    let same : clash_in table row y ≡ is_rival address_id clashes row y =
    ap (λ (t : Bool). t && same_table (table_of y.vrf) table && clash row y) s
    ∙ ap (λ (t : Table). same_table (table_of y.vrf) t && clash row y) (sym is)
    ∙ sym (ap (λ (t : Bool). not t && clashes row y) other) in
    ap (λ (t : Bool). cond t (Some y) (find (clash_in table row) ys)) same ∙ ap (λ (o : Option IpAddress). cond (is_rival address_id clashes row y) (Some y) o) (later_alike table row ys y.id (omega arith) r.1 s)

other_table_none : (table : Table) (row : IpAddress) (xs : List IpAddress) → same_table (table_of row.vrf) table ≡ false → find (clash_in table row) xs ≡ None
other_table_none table row xs s = never_found (clash_in table row) xs (λ y. ap (λ (t : Bool). t && same_table (table_of y.vrf) table && clash row y) s)

later_pair : (table : Table) (rows : List IpAddress) (i : ℕ) (row : IpAddress) → Rises address_id 0 rows → slice_get rows i ≡ Some row → same_table (table_of row.vrf) table ≡ true
    → find (clash_in table row) (drop (i + 1) rows) ≡ find (is_rival address_id clashes row) (drop (i + 1) rows)
later_pair table rows i row r e s = later_alike table row (drop (i + 1) rows) row.id (omega arith) (rises_from address_id (clash_in table) 0 rows i row r e) s

abbrev pub these : ℕ → ℕ → Option (ℕ × ℕ)
these n m = Some (n, m)

abbrev pub pair_with : ℕ → Option IpAddress → Option (ℕ × ℕ)
pair_with n r = option_map (λ y. (n, y.id)) r

pair_of : (r : Option IpAddress) (n m : ℕ) → Some m ≡ option_map address_id r → these n m ≡ pair_with n r
pair_of None n m e = cc
pair_of (Some y) n m e = (let is : m ≡ y.id = cc in ap (λ (k : ℕ). these n k) is)

no_pair : (r : Option IpAddress) (n : ℕ) → None ≡ option_map address_id r → None ≡ pair_with n r
no_pair None n e = refl
no_pair (Some y) n e = cc

module _ (table : Table) (rows : List IpAddress) (i : ℕ) (row x : IpAddress) (at : Some row ≡ slice_get rows i) (e : slice_get rows i ≡ Some x) where
  row_is : row ≡ x
  row_is = (let f : Some row ≡ Some x = at ∙ e in cc)

  pub pair_in_no_table : same_table (table_of row.vrf) table ≡ false → None ≡ pair_with x.id (find (clash_in table x) (drop (i + 1) rows))
  pair_in_no_table s = sym (ap (λ (o : Option IpAddress). pair_with x.id o) (other_table_none table x (drop (i + 1) rows) (ap (λ (z : IpAddress). same_table (table_of z.vrf) table) (sym row_is) ∙ s)))

  pub pair_found : Rises address_id 0 rows → same_table (table_of row.vrf) table ≡ true → (other : ℕ) → Some other ≡ least address_id (is_rival address_id clashes row) (drop (i + 1) rows)
      → these row.id other ≡ pair_with x.id (find (clash_in table x) (drop (i + 1) rows))
  pair_found r s other found =
      subst (λ (z : IpAddress). these row.id other ≡ pair_with z.id (find (clash_in table z) (drop (i + 1) rows))) row_is
      (pair_of (find (is_rival address_id clashes row) (drop (i + 1) rows)) row.id other found ∙ ap (λ (o : Option IpAddress). pair_with row.id o) (sym (later_pair table rows i row r (sym at) s)))

  pub pair_none : Rises address_id 0 rows → same_table (table_of row.vrf) table ≡ true → None ≡ least address_id (is_rival address_id clashes row) (drop (i + 1) rows) → None ≡ pair_with x.id (find (clash_in table x) (drop (i + 1) rows))
  pair_none r s found =
      subst (λ (z : IpAddress). None ≡ pair_with z.id (find (clash_in table z) (drop (i + 1) rows))) row_is
      (no_pair (find (is_rival address_id clashes row) (drop (i + 1) rows)) row.id found ∙ ap (λ (o : Option IpAddress). pair_with row.id o) (sym (later_pair table rows i row r (sym at) s)))

-- one row after another
pub next_pair : (table : Table) (rows : List IpAddress) (i : ℕ) → i < length rows → ((x : IpAddress) → slice_get rows i ≡ Some x → None ≡ pair_with x.id (find (clash_in table x) (drop (i + 1) rows)))
    → least_pair address_id (clash_in table) rows ≡ least_pair address_id (clash_in table) (drop i rows) → least_pair address_id (clash_in table) rows ≡ least_pair address_id (clash_in table) (drop (i + 1) rows)
next_pair table rows i h none so_far =
    let x = some_within rows i h in
    so_far ∙ pair_step address_id (clash_in table) rows i x.0 x.1 ∙ ap (λ (o : Option (ℕ × ℕ)). option_or o (least_pair address_id (clash_in table) (drop (i + 1) rows))) (sym (none x.0 x.1))

pub this_pair : (table : Table) (rows : List IpAddress) (i : ℕ) (pair : ℕ × ℕ) → i < length rows → ((x : IpAddress) → slice_get rows i ≡ Some x → Some pair ≡ pair_with x.id (find (clash_in table x) (drop (i + 1) rows)))
    → least_pair address_id (clash_in table) rows ≡ least_pair address_id (clash_in table) (drop i rows) → Some pair ≡ clash_of rows table
unfolding clash_of
this_pair table rows i pair h some so_far =
    let x = some_within rows i h in
    sym (so_far ∙ pair_step address_id (clash_in table) rows i x.0 x.1 ∙ ap (λ (o : Option (ℕ × ℕ)). option_or o (least_pair address_id (clash_in table) (drop (i + 1) rows))) (sym (some x.0 x.1)))

pub no_more_pairs : (table : Table) (rows : List IpAddress) (i : ℕ) → length rows ≤ i → least_pair address_id (clash_in table) rows ≡ least_pair address_id (clash_in table) (drop i rows) → None ≡ clash_of rows table
unfolding clash_of
no_more_pairs table rows i h so_far = sym (so_far ∙ ap (λ (xs : List IpAddress). least_pair address_id (clash_in table) xs) (drop_of_length-le rows h))
