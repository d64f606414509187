-- The least ids at each place, as rows are put in and taken out.
use Rattle.std.proofs.Common.{◌≡◌, ◌≢◌, ℕ, ◌<◌, ◌==◌, ◌&&◌, nat_lt, Bool, true, false, not, cond, List, [], ◌∷◌, map, find, Option, Some, None, IsSome, option_map, refl, ap, sym, subst, ◌∙◌, arith, inl, inr, if◌then◌else◌}
use Rattle.std.proofs.lemmas.Bool.{cases_lt}
use Rattle.std.proofs.lemmas.Bool.Decides.{nat_tests}
use Rattle.std.specs.HashMap.{HashMap, get, IsReordered}
use Rattle.std.specs.Map.{lookup}
use Rattle.inet_num.specs.declared.Family.{Family}
use Rattle.inet_num.specs.declared.Family.TheVariants.{V4, V6}
use Rattle.inet_num.specs.Net.{Cidr, width_of}
use Rattle.ipam_data.specs.declared.kinds.Table.{Table}
use Rattle.ipam_data.specs.RowList.{row_at, with_row, without, least, Rises, AllBelow}
use Rattle.ipam_data.specs.Tables.{table_of, same_table}
use Rattle.inet_num.specs.Blocks.{same_block}
use Rattle.placed_book.specs.RowBook.{IsFitting}
use Rattle.placed_book.proofs.RowPlaces.{none_below, without_none, eq_true, eq_false}
use Rattle.placed_book.specs.declared.firsts.Spot.{Spot}
use Rattle.placed_book.specs.Book.{Placed, placed_id}
use Rattle.placed_book.specs.Keys.{number_of}
use Rattle.placed_book.specs.Rivals.{is_rival, is_where}
use Rattle.placed_book.specs.Firsts.{is_at, first_at, spot_of, same_spot, HasFirsts, IsSetAt, lesser}
use Rattle.placed_book.proofs.Lookups.{same_numbers, one_table, same_self}
use Rattle.placed_book.proofs.Orders.{both, is_block, same_block-refl}
use Rattle.placed_book.proofs.Places.{places_at, places_with, places_without, places_rise}
use Rattle.ipam_data.proofs.RowLists.{find_none}
use Rattle.placed_book.proofs.Rows.{found_row}
use Rattle.placed_book.proofs.Meetings.{rival_where}

-- ---- keys

one_width : (f g : Family) → width_of f ≡ width_of g → f ≡ g
one_width V4 V4 e = refl
one_width V4 V6 e = absurd (omega arith)
one_width V6 V4 e = absurd (omega arith)
one_width V6 V6 e = refl

one_number : (a b : Table) → number_of a ≡ number_of b → a ≡ b
one_number a b e = one_table a b (same_numbers a b ∙ eq_true (number_of a) (number_of b) e)

block_is : (b c : Cidr) → b.family ≡ c.family → b.first ≡ c.first → b.len ≡ c.len → b ≡ c
block_is b c f g h = is_block b c (subst (λ (x : Family). same_block b (record { family = x; first = c.first; len = c.len }) ≡ true) f
    (subst (λ (n : ℕ). same_block b (record { family = b.family; first = n; len = c.len }) ≡ true) g (subst (λ (n : ℕ). same_block b (record { family = b.family; first = b.first; len = n }) ≡ true) h (same_block-refl b))))

-- one key is of one table and one block
spot_is : (t u : Table) (b c : Cidr) → same_spot (spot_of t b) (spot_of u c) ≡ true → (t ≡ u) × (b ≡ c)
spot_is t u b c e =
    let h = both (b.first == c.first) (number_of t == number_of u && (width_of b.family == width_of c.family && b.len == c.len)) e in
    let k = both (number_of t == number_of u) (width_of b.family == width_of c.family && b.len == c.len) h.1 in
    let m = both (width_of b.family == width_of c.family) (b.len == c.len) k.1 in
    let first_is : b.first ≡ c.first = (let q = h.0 in grind (arith, nat_tests, q)) in
    let table_is : number_of t ≡ number_of u = (let q = k.0 in grind (arith, nat_tests, q)) in
    let width_is : width_of b.family ≡ width_of c.family = (let q = m.0 in grind (arith, nat_tests, q)) in
    let len_is : b.len ≡ c.len = (let q = m.1 in grind (arith, nat_tests, q)) in
    (one_number t u table_is, block_is b c (one_width b.family c.family width_is) first_is len_is)

itself : (a : Spot) → same_spot a a ≡ true
itself a =
    rw (eq_true a.first a.first refl, eq_true a.table a.table refl, eq_true a.width a.width refl, eq_true a.len a.len refl) refl

-- the row at a key's place, and at another one's
here_is : (x : Placed) → is_at (table_of x.vrf) x.block x ≡ true
here_is x = rw (same_self (table_of x.vrf), same_block-refl x.block) refl

elsewhere : (x : Placed) (table : Table) (block : Cidr) → same_spot (spot_of (table_of x.vrf) x.block) (spot_of table block) ≡ false → is_at table block x ≡ false
elsewhere x table block other = go (is_at table block x) refl where
  go : (t : Bool) → is_at table block x ≡ t → is_at table block x ≡ false
  go false e = e
  go true e =
      let h = both (same_table (table_of x.vrf) table) (same_block x.block block) e in
      let t_is = one_table (table_of x.vrf) table h.0 in
      let b_is = is_block x.block block h.1 in
      let one : same_spot (spot_of (table_of x.vrf) x.block) (spot_of table block) ≡ true =
      subst (λ (u : Table). same_spot (spot_of (table_of x.vrf) x.block) (spot_of u block) ≡ true) t_is
      (subst (λ (c : Cidr). same_spot (spot_of (table_of x.vrf) x.block) (spot_of (table_of x.vrf) c) ≡ true) b_is (itself (spot_of (table_of x.vrf) x.block))) in
      let f : true ≡ false = sym one ∙ other in
      cc

-- ---- searches of rows without one of them

find_without : (p : Placed → Bool) (n : ℕ) (rows : List Placed) → find p (without placed_id rows n) ≡ find (λ y. not (y.id == n) && p y) rows
find_without p n [] = refl
find_without p n (y ∷ ys) = go (y.id == n) (find_without p n ys) where
  go : (t : Bool) → find p (without placed_id ys n) ≡ find (λ x. not (x.id == n) && p x) ys
      → find p (cond (not t) (y ∷ without placed_id ys n) (without placed_id ys n)) ≡ cond (not t && p y) (Some y) (find (λ x. not (x.id == n) && p x) ys)
  go true ih = ih
  go false ih = ap (λ (o : Option Placed). cond (p y) (Some y) o) ih

-- a row that does not pass is no matter
find_other : (p : Placed → Bool) (low : ℕ) (rows : List Placed) (n : ℕ) (x : Placed) → Rises placed_id low rows → row_at placed_id rows n ≡ Some x → p x ≡ false → find p (without placed_id rows n) ≡ find p rows
find_other p low [] n x r e f = refl
find_other p low (y ∷ ys) n x r e f = go (y.id == n) refl e (find_other p y.id ys n x r.1) where
  go : (t : Bool) → (y.id == n) ≡ t → cond t (Some y) (row_at placed_id ys n) ≡ Some x → (row_at placed_id ys n ≡ Some x → p x ≡ false → find p (without placed_id ys n) ≡ find p ys)
      → find p (cond (not t) (y ∷ without placed_id ys n) (without placed_id ys n)) ≡ cond (p y) (Some y) (find p ys)
  go true t e ih =
      let is : y ≡ x = cc in
      let id_is : y.id ≡ n = grind (arith, nat_tests, t) in
      let none = without_none placed_id ys n (none_below placed_id y.id n ys r.1 (omega arith)) in
      let fails : p y ≡ false = ap p is ∙ f in
      ap (λ (xs : List Placed). find p xs) none ∙ sym (ap (λ (b : Bool). cond b (Some y) (find p ys)) fails)
  go false t e ih = ap (λ (o : Option Placed). cond (p y) (Some y) o) (ih e f)

-- ---- a row taken out

pub cut_firsts : {S : Type 0} (rows : List Placed) (n : ℕ) (x : Placed) (old new : HashMap Spot ℕ S) (id : Option ℕ) → Rises placed_id 0 rows → row_at placed_id rows n ≡ Some x → HasFirsts rows old
    → IsSetAt (spot_of (table_of x.vrf) x.block) id old new → id ≡ least placed_id (λ y. not (y.id == n) && is_at (table_of x.vrf) x.block y) rows → HasFirsts (without placed_id rows n) new
cut_firsts rows n x old new id r e h set is = λ table block. go table block (same_spot (spot_of (table_of x.vrf) x.block) (spot_of table block)) refl where
  go : (table : Table) (block : Cidr) (t : Bool) → same_spot (spot_of (table_of x.vrf) x.block) (spot_of table block) ≡ t → get same_spot new (spot_of table block) ≡ first_at (without placed_id rows n) table block
  go table block true t =
      let same = spot_is (table_of x.vrf) table x.block block t in
      let got = set (spot_of table block) ∙ ap (λ (b : Bool). cond b id (get same_spot old (spot_of table block))) t in
      let there : first_at (without placed_id rows n) (table_of x.vrf) x.block ≡ id = ap (λ (o : Option Placed). option_map placed_id o) (find_without (is_at (table_of x.vrf) x.block) n rows) ∙ sym is in
      got ∙ sym there ∙ ap (λ (u : Table). first_at (without placed_id rows n) u x.block) same.0 ∙ ap (λ (c : Cidr). first_at (without placed_id rows n) table c) same.1
  go table block false t =
      let got = set (spot_of table block) ∙ ap (λ (b : Bool). cond b id (get same_spot old (spot_of table block))) t in
      got ∙ h table block ∙ sym (ap (λ (o : Option Placed). option_map placed_id o) (find_other (is_at table block) 0 rows n x r e (elsewhere x table block t)))

-- ---- a row put in

-- ids rise, so what is found has a greater one
found_above : (p : Placed → Bool) (low : ℕ) (ys : List Placed) → Rises placed_id low ys → lesser low (least placed_id p ys) ≡ low
found_above p low [] r = refl
found_above p low (y ∷ ys) r = go (p y) where
  above : (n : ℕ) → low < n → lesser low (Some n) ≡ low
  above n less = (let f : nat_lt n low ≡ false = grind (arith, nat_tests) in rw f refl)

  rest : (m : ℕ) (zs : List Placed) → low < m → Rises placed_id m zs → lesser low (least placed_id p zs) ≡ low
  rest m [] less k = refl
  rest m (z ∷ zs) less k = pick (p z) (rest z.id zs (let q = k.0 in omega arith) k.1) where
    pick : (t : Bool) → lesser low (least placed_id p zs) ≡ low → lesser low (option_map placed_id (cond t (Some z) (find p zs))) ≡ low
    pick true ih = above z.id (let q = k.0 in omega arith)
    pick false ih = ih

  go : (t : Bool) → lesser low (option_map placed_id (cond t (Some y) (find p ys))) ≡ low
  go true = above y.id r.0
  go false = rest y.id ys r.0 r.1

-- the id of a row that may be put is above that of a row before its place
below_fitting : (y row : Placed) (ys : List Placed) → Rises placed_id y.id ys → (y.id == row.id) ≡ false → IsFitting placed_id (y ∷ ys) row → y.id < row.id
below_fitting y row ys r other fits = elim fits [
  | inl some ↦ (let there : IsSome (row_at placed_id ys row.id) = subst (λ (t : Bool). IsSome (cond t (Some y) (row_at placed_id ys row.id))) other some in
      elim (cases_lt y.id row.id) [
        | inl less ↦ less
        | inr most ↦ (let none = none_below placed_id y.id row.id ys r most in let f : false ≡ true = subst (λ (o : Option Placed). IsSome o) none there in cc)
      ])
  | inr above ↦ above.0
]

fitting_rest : (y row : Placed) (ys : List Placed) → (y.id == row.id) ≡ false → IsFitting placed_id (y ∷ ys) row → IsFitting placed_id ys row
fitting_rest y row ys other fits = elim fits [
  | inl some ↦ inl (subst (λ (t : Bool). IsSome (cond t (Some y) (row_at placed_id ys row.id))) other some)
  | inr above ↦ inr above.1
]

least_with : (p : Placed → Bool) (low : ℕ) (rows : List Placed) (row : Placed) → Rises placed_id low rows → IsFitting placed_id rows row
    → least placed_id p (with_row placed_id rows row) ≡ cond (p row) (Some (lesser row.id (least placed_id p (without placed_id rows row.id)))) (least placed_id p (without placed_id rows row.id))
least_with p low [] row r fits = go (p row) where
  go : (t : Bool) → option_map placed_id (cond t (Some row) None) ≡ cond t (Some row.id) None
  go true = refl
  go false = refl
least_with p low (y ∷ ys) row r fits = go (y.id == row.id) refl (least_with p y.id ys row r.1) where
  go : (t : Bool) → (y.id == row.id) ≡ t
      → (IsFitting placed_id ys row → least placed_id p (with_row placed_id ys row) ≡ cond (p row) (Some (lesser row.id (least placed_id p (without placed_id ys row.id)))) (least placed_id p (without placed_id ys row.id)))
      → least placed_id p (if t then row ∷ ys else y ∷ with_row placed_id ys row)
      ≡ cond (p row) (Some (lesser row.id (least placed_id p (cond (not t) (y ∷ without placed_id ys row.id) (without placed_id ys row.id))))) (least placed_id p (cond (not t) (y ∷ without placed_id ys row.id) (without placed_id ys row.id)))
  go true t ih =
      let id_is : y.id ≡ row.id = grind (arith, nat_tests, t) in
      let none = without_none placed_id ys row.id (none_below placed_id y.id row.id ys r.1 (omega arith)) in
      let above = subst (λ (n : ℕ). lesser n (least placed_id p ys) ≡ n) id_is (found_above p y.id ys r.1) in
      rw none (pick (p row) above)
    where
      pick : (s : Bool) → lesser row.id (least placed_id p ys) ≡ row.id → option_map placed_id (cond s (Some row) (find p ys)) ≡ cond s (Some (lesser row.id (least placed_id p ys))) (least placed_id p ys)
      pick true above = ap Some (sym above)
      pick false above = refl
  go false t ih =
      let less = below_fitting y row ys r.1 t fits in
      let test : nat_lt y.id row.id ≡ true = grind (arith, nat_tests) in
      let one : lesser row.id (Some y.id) ≡ y.id = rw test refl in
      pick (p y) one (ih (fitting_rest y row ys t fits))
    where
      pick : (s : Bool) → lesser row.id (Some y.id) ≡ y.id
          → least placed_id p (with_row placed_id ys row) ≡ cond (p row) (Some (lesser row.id (least placed_id p (without placed_id ys row.id)))) (least placed_id p (without placed_id ys row.id))
          → option_map placed_id (cond s (Some y) (find p (with_row placed_id ys row)))
          ≡ cond (p row) (Some (lesser row.id (option_map placed_id (cond s (Some y) (find p (without placed_id ys row.id)))))) (option_map placed_id (cond s (Some y) (find p (without placed_id ys row.id))))
      pick true one ih = own (p row) where
        own : (b : Bool) → Some y.id ≡ cond b (Some (lesser row.id (Some y.id))) (Some y.id)
        own true = ap Some (sym one)
        own false = refl
      pick false one ih = ih

pub put_firsts : {S : Type 0} (rows : List Placed) (row : Placed) (old new : HashMap Spot ℕ S) → Rises placed_id 0 rows → IsFitting placed_id rows row → HasFirsts (without placed_id rows row.id) old
    → IsSetAt (spot_of (table_of row.vrf) row.block) (Some (lesser row.id (get same_spot old (spot_of (table_of row.vrf) row.block)))) old new → HasFirsts (with_row placed_id rows row) new
put_firsts rows row old new r fits h set = λ table block. go table block (same_spot (spot_of (table_of row.vrf) row.block) (spot_of table block)) refl where
  go : (table : Table) (block : Cidr) (t : Bool) → same_spot (spot_of (table_of row.vrf) row.block) (spot_of table block) ≡ t → get same_spot new (spot_of table block) ≡ first_at (with_row placed_id rows row) table block
  go table block true t =
      let spot = spot_of (table_of row.vrf) row.block in
      let same = spot_is (table_of row.vrf) table row.block block t in
      let got = set (spot_of table block) ∙ ap (λ (b : Bool). cond b (Some (lesser row.id (get same_spot old spot))) (get same_spot old (spot_of table block))) t in
      let was : Some (lesser row.id (get same_spot old spot)) ≡ Some (lesser row.id (first_at (without placed_id rows row.id) (table_of row.vrf) row.block)) =
      ap (λ (o : Option ℕ). let r : Option ℕ = Some (lesser row.id o) in r) (h (table_of row.vrf) row.block) in
      let with : first_at (with_row placed_id rows row) (table_of row.vrf) row.block ≡ Some (lesser row.id (first_at (without placed_id rows row.id) (table_of row.vrf) row.block)) =
      least_with (is_at (table_of row.vrf) row.block) 0 rows row r fits ∙ ap (λ (b : Bool). cond b (Some (lesser row.id (first_at (without placed_id rows row.id) (table_of row.vrf) row.block))) (first_at (without placed_id rows row.id) (table_of row.vrf) row.block)) (here_is row) in
      got ∙ was ∙ sym with ∙ ap (λ (u : Table). first_at (with_row placed_id rows row) u row.block) same.0 ∙ ap (λ (c : Cidr). first_at (with_row placed_id rows row) table c) same.1
  go table block false t =
      let spot = spot_of (table_of row.vrf) row.block in
      let got = set (spot_of table block) ∙ ap (λ (b : Bool). cond b (Some (lesser row.id (get same_spot old spot))) (get same_spot old (spot_of table block))) t in
      let with = least_with (is_at table block) 0 rows row r fits
      ∙ ap (λ (b : Bool). cond b (Some (lesser row.id (first_at (without placed_id rows row.id) table block))) (first_at (without placed_id rows row.id) table block)) (elsewhere row table block t) in
      got ∙ h table block ∙ sym with

-- no rows
pub no_firsts : {S : Type 0} (m : HashMap Spot ℕ S) → m.entries ≡ [] → HasFirsts [] m
no_firsts m e = λ table block. ap (λ (es : List (Spot × ℕ)). lookup (same_spot (spot_of table block)) es) e

-- the same entries in another order
pub same_firsts : {S : Type 0} (rows : List Placed) (old new : HashMap Spot ℕ S) → IsReordered same_spot old new → HasFirsts rows old → HasFirsts rows new
same_firsts rows old new e h = λ table block. e.2 (spot_of table block) ∙ h table block

-- the place of a row that is there has a first id
some_first : {S : Type 0} (rows : List Placed) (n : ℕ) (x : Placed) (m : HashMap Spot ℕ S) → row_at placed_id rows n ≡ Some x → HasFirsts rows m → IsSome (get same_spot m (spot_of (table_of x.vrf) x.block))
some_first rows n x m e h = subst (λ (o : Option ℕ). IsSome o) (sym (h (table_of x.vrf) x.block)) (go (find (is_at (table_of x.vrf) x.block) rows) refl) where
  go : (o : Option Placed) → find (is_at (table_of x.vrf) x.block) rows ≡ o → IsSome (option_map placed_id o)
  go (Some y) k = refl
  go None k = (let f : true ≡ false = sym (here_is x) ∙ find_none (is_at (table_of x.vrf) x.block) rows x k (found_row rows n x e) in cc)

-- ---- of rows

module _ {T : Type 0} (id : T → ℕ) (placed : T → Placed) (same : (x : T) → (placed x).id ≡ id x) where
  -- the least id by a test of places, and by one of rows
  least_placed : (p : Placed → Bool) (q : T → Bool) → ((x : T) → q x ≡ p (placed x)) → (rows : List T) → least placed_id p (map placed rows) ≡ least id q rows
  least_placed p q agree [] = refl
  least_placed p q agree (x ∷ xs) = rw (agree x) (go (p (placed x)) (least_placed p q agree xs)) where
    go : (t : Bool) → least placed_id p (map placed xs) ≡ least id q xs → option_map placed_id (cond t (Some (placed x)) (find p (map placed xs))) ≡ option_map id (cond t (Some x) (find q xs))
    go true ih = ap Some (same x)
    go false ih = ih

  -- the other rows at a row's place are its rivals
  rivals_at : (row : T) (x : T) → is_rival id placed row x ≡ (not ((placed x).id == id row) && is_at (table_of (placed row).vrf) (placed row).block (placed x))
  rivals_at row x = rival_where id placed row x ∙ ap (λ (n : ℕ). not (n == id row) && is_where (placed row) (placed x)) (sym (same x))

  pub least_rivals : (rows : List T) (row : T) → least placed_id (λ y. not (y.id == id row) && is_at (table_of (placed row).vrf) (placed row).block y) (map placed rows) ≡ least id (is_rival id placed row) rows
  least_rivals rows row = least_placed (λ y. not (y.id == id row) && is_at (table_of (placed row).vrf) (placed row).block y) (is_rival id placed row) (rivals_at row) rows

  -- where the first one is another row, it is the least rival
  kept_first : (p : Placed → Bool) (n first : ℕ) → first ≢ n → (xs : List Placed) → Some first ≡ least placed_id p xs → Some first ≡ least placed_id (λ y. not (y.id == n) && p y) xs
  kept_first p n first other [] e = cc
  kept_first p n first other (y ∷ ys) e = go (p y) e (kept_first p n first other ys) where
    go : (t : Bool) → Some first ≡ option_map placed_id (cond t (Some y) (find p ys)) → (Some first ≡ least placed_id p ys → Some first ≡ least placed_id (λ x. not (x.id == n) && p x) ys)
        → Some first ≡ option_map placed_id (cond (not (y.id == n) && t) (Some y) (find (λ x. not (x.id == n) && p x) ys))
    go true e ih =
        let is : first ≡ y.id = cc in
        let f : (y.id == n) ≡ false = eq_false y.id n (λ k. other (is ∙ k)) in
        rw f e
    go false e ih = pick (y.id == n) (ih e) where
      pick : (s : Bool) → Some first ≡ least placed_id (λ x. not (x.id == n) && p x) ys → Some first ≡ option_map placed_id (cond (not s && false) (Some y) (find (λ x. not (x.id == n) && p x) ys))
      pick true k = k
      pick false k = k

  pub first_rival : {S : Type 0} (rows : List T) (row : T) (firsts : HashMap Spot ℕ S) (spot : Spot) (first : ℕ) → HasFirsts (map placed rows) firsts → spot ≡ spot_of (table_of (placed row).vrf) (placed row).block
      → Some first ≡ get same_spot firsts spot → first ≢ id row → Some first ≡ least id (is_rival id placed row) rows
  first_rival rows row firsts spot first h is got other =
      let found = got ∙ ap (λ (s : Spot). get same_spot firsts s) is ∙ h (table_of (placed row).vrf) (placed row).block in
      kept_first (is_at (table_of (placed row).vrf) (placed row).block) (id row) first other (map placed rows) found ∙ least_rivals rows row

  -- what is found under an id has it
  pub row_id : (rows : List T) (n : ℕ) (x : T) → row_at id rows n ≡ Some x → n ≡ id x
  row_id [] n x e = cc
  row_id (y ∷ ys) n x e = go (id y == n) refl e (row_id ys n x) where
    go : (t : Bool) → (id y == n) ≡ t → cond t (Some y) (row_at id ys n) ≡ Some x → (row_at id ys n ≡ Some x → n ≡ id x) → n ≡ id x
    go true t e ih = (let is : y ≡ x = cc in let own : id y ≡ n = grind (arith, nat_tests, t) in sym own ∙ ap id is)
    go false t e ih = ih e

  pub some_row_first : {S : Type 0} (rows : List T) (n : ℕ) (x : T) (firsts : HashMap Spot ℕ S) (spot : Spot) → row_at id rows n ≡ Some x → spot ≡ spot_of (table_of (placed x).vrf) (placed x).block → HasFirsts (map placed rows) firsts
      → IsSome (get same_spot firsts spot)
  some_row_first rows n x firsts spot e is h =
      subst (λ (q : Spot). IsSome (get same_spot firsts q)) (sym is) (some_first (map placed rows) n (placed x) firsts (places_at id placed same rows n ∙ ap (λ (o : Option T). option_map placed o) e) h)

  pub cut_row_firsts : {S : Type 0} (rows : List T) (n : ℕ) (x : T) (old new : HashMap Spot ℕ S) (spot : Spot) (first : Option ℕ) → Rises id 0 rows → row_at id rows n ≡ Some x → n ≡ id x → HasFirsts (map placed rows) old
      → spot ≡ spot_of (table_of (placed x).vrf) (placed x).block → IsSetAt spot first old new → first ≡ least id (is_rival id placed x) rows → HasFirsts (map placed (without id rows n)) new
  cut_row_firsts rows n x old new spot first r e is h s set found =
      let there = places_at id placed same rows n ∙ ap (λ (o : Option T). option_map placed o) e in
      let least_is = subst (λ (k : ℕ). first ≡ least placed_id (λ y. not (y.id == k) && is_at (table_of (placed x).vrf) (placed x).block y) (map placed rows)) (sym is) (found ∙ sym (least_rivals rows x)) in
      subst (λ (ps : List Placed). HasFirsts ps new) (places_without id placed same rows n)
      (cut_firsts (map placed rows) n (placed x) old new first (places_rise id placed same 0 rows r) there h (subst (λ (q : Spot). IsSetAt q first old new) s set) least_is)

  pub cut_no_firsts : {S : Type 0} (rows : List T) (n : ℕ) (firsts : HashMap Spot ℕ S) → row_at id rows n ≡ None → HasFirsts (map placed rows) firsts → HasFirsts (map placed (without id rows n)) firsts
  cut_no_firsts rows n firsts e h = subst (λ (xs : List T). HasFirsts (map placed xs) firsts) (sym (without_none id rows n e)) h

  -- a row that may be put has a place that may
  fitting_places : (rows : List T) (row : T) → IsFitting id rows row → IsFitting placed_id (map placed rows) (placed row)
  fitting_places rows row fits = elim fits [
    | inl some ↦ inl (subst (λ (n : ℕ). IsSome (row_at placed_id (map placed rows) n)) (sym (same row)) (subst (λ (o : Option Placed). IsSome o) (sym (places_at id placed same rows (id row))) (mapped (row_at id rows (id row)) some)))
    | inr above ↦ inr (subst (λ (n : ℕ). AllBelow placed_id n (map placed rows)) (sym (same row)) (below rows above))
  ]
    where
      mapped : (o : Option T) → IsSome o → IsSome (option_map placed o)
      mapped (Some x) s = refl
      mapped None s = cc

      below : (xs : List T) → AllBelow id (id row) xs → AllBelow placed_id (id row) (map placed xs)
      below [] h = tt
      below (x ∷ xs) h = (subst (λ (n : ℕ). n < id row) (sym (same x)) h.0, below xs h.1)

  pub put_row_firsts : {S : Type 0} (rows after : List T) (row : T) (old new : HashMap Spot ℕ S) (spot : Spot) (n : ℕ) → Rises id 0 rows → after ≡ with_row id rows row → n ≡ id row → IsFitting id rows row
      → HasFirsts (map placed (without id rows n)) old → spot ≡ spot_of (table_of (placed row).vrf) (placed row).block → IsSetAt spot (Some (lesser n (get same_spot old spot))) old new → HasFirsts (map placed after) new
  put_row_firsts rows after row old new spot n r after_is is fits h s set =
      let own : n ≡ (placed row).id = is ∙ sym (same row) in
      let less = subst (λ (ps : List Placed). HasFirsts ps old) (sym (places_without id placed same rows n)) h in
      let set_here = subst (λ (q : Spot). IsSetAt q (Some (lesser n (get same_spot old q))) old new) s set in
      let put = put_firsts (map placed rows) (placed row) old new (places_rise id placed same 0 rows r) (fitting_places rows row fits)
      (subst (λ (k : ℕ). HasFirsts (without placed_id (map placed rows) k) old) own less)
      (subst (λ (k : ℕ). IsSetAt (spot_of (table_of (placed row).vrf) (placed row).block) (Some (lesser k (get same_spot old (spot_of (table_of (placed row).vrf) (placed row).block)))) old new) own set_here) in
      subst (λ (xs : List T). HasFirsts (map placed xs) new) (sym after_is) (subst (λ (ps : List Placed). HasFirsts ps new) (places_with id placed same rows row) put)
