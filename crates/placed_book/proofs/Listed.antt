-- The ids of the rows at a place, one row after another.
use Rattle.std.proofs.Common.{◌≡◌, ℕ, ◌+◌, ◌≤◌, Bool, true, false, cond, List, [], ◌∷◌, ◌++◌, append-nil, append_assoc, length, map, filter, find, drop, drop_of_length-le, slice_get, Some, None, option_map, refl, ap, sym, ◌∙◌, arith}
use Rattle.std.specs.List.{count_by}
use Rattle.std.specs.HashMap.{HashMap, get}
use Rattle.inet_num.specs.Net.{Cidr}
use Rattle.ipam_data.specs.declared.kinds.Table.{Table}
use Rattle.ipam_data.specs.declared.kinds.Table.TheVariants.{Global, Of}
use Rattle.ipam_data.specs.RowList.{least}
use Rattle.block_space.specs.Listed.{times_of}
use Rattle.placed_book.specs.declared.firsts.Spot.{Spot}
use Rattle.placed_book.specs.Book.{Placed, placed_id, TableBlocks, blocks_at, AreInOrder}
use Rattle.placed_book.specs.Firsts.{is_at, ids_at, one_if, spot_of, same_spot, HasFirsts}
use Rattle.placed_book.proofs.Orders.{count_yes, count_no}
use Rattle.placed_book.proofs.Searches.{drop_get}
use Rattle.placed_book.proofs.Meetings.{where_times}

-- ---- few of them

none_listed : (p : Placed → Bool) (xs : List Placed) → None ≡ least placed_id p xs → map placed_id (filter p xs) ≡ []
none_listed p [] e = refl
none_listed p (y ∷ ys) e = go (p y) e (none_listed p ys) where
  go : (t : Bool) → None ≡ option_map placed_id (cond t (Some y) (find p ys)) → (None ≡ least placed_id p ys → map placed_id (filter p ys) ≡ []) → map placed_id (cond t (y ∷ filter p ys) (filter p ys)) ≡ []
  go true e ih = cc
  go false e ih = ih e

uncounted : (p : Placed → Bool) (xs : List Placed) → count_by p xs ≡ 0 → map placed_id (filter p xs) ≡ []
uncounted p [] e = refl
uncounted p (y ∷ ys) e = go (p y) refl (uncounted p ys) where
  go : (t : Bool) → p y ≡ t → (count_by p ys ≡ 0 → map placed_id (filter p ys) ≡ []) → map placed_id (cond t (y ∷ filter p ys) (filter p ys)) ≡ []
  go true t ih = (let n = count_yes p y ys t in absurd (omega arith))
  go false t ih = ih (sym (count_no p y ys t) ∙ e)

one_listed : (p : Placed → Bool) (first : ℕ) (xs : List Placed) → count_by p xs ≡ 1 → Some first ≡ least placed_id p xs → map placed_id (filter p xs) ≡ first ∷ []
one_listed p first [] n e = cc
one_listed p first (y ∷ ys) n e = go (p y) refl e (one_listed p first ys) where
  go : (t : Bool) → p y ≡ t → Some first ≡ option_map placed_id (cond t (Some y) (find p ys)) → (count_by p ys ≡ 1 → Some first ≡ least placed_id p ys → map placed_id (filter p ys) ≡ first ∷ [])
      → map placed_id (cond t (y ∷ filter p ys) (filter p ys)) ≡ first ∷ []
  go true t e ih =
      let is : first ≡ y.id = cc in
      let more = count_yes p y ys t in
      let rest = uncounted p ys (omega arith) in
      ap (λ (ns : List ℕ). y.id ∷ ns) rest ∙ ap (λ (k : ℕ). let ns : List ℕ = k ∷ [] in ns) (sym is)
  go false t e ih = ih (sym (count_no p y ys t) ∙ n) e

at_times : (rows : List Placed) (tables : List TableBlocks) (table : Table) (block : Cidr) → AreInOrder rows tables → count_by (is_at table block) rows ≡ times_of (blocks_at tables table block.family) block
at_times rows tables Global block h = where_times rows tables (record { id = 0; vrf = None; block = block }) h
at_times rows tables (Of n) block h = where_times rows tables (record { id = 0; vrf = Some n; block = block }) h

pub nothing_at : {S : Type 0} (rows : List Placed) (firsts : HashMap Spot ℕ S) (spot : Spot) (table : Table) (block : Cidr) → HasFirsts rows firsts → spot ≡ spot_of table block → None ≡ get same_spot firsts spot → [] ≡ ids_at rows table block
nothing_at rows firsts spot table block h is e = sym (none_listed (is_at table block) rows (e ∙ ap (λ (s : Spot). get same_spot firsts s) is ∙ h table block))

pub one_at : {S : Type 0} (rows : List Placed) (tables : List TableBlocks) (firsts : HashMap Spot ℕ S) (spot : Spot) (table : Table) (block : Cidr) (first times : ℕ) → AreInOrder rows tables → HasFirsts rows firsts → spot ≡ spot_of table block
    → Some first ≡ get same_spot firsts spot → times ≡ times_of (blocks_at tables table block.family) block → times ≡ 1 → first ∷ [] ≡ ids_at rows table block
one_at rows tables firsts spot table block first times o h is e t n =
    sym (one_listed (is_at table block) first rows (at_times rows tables table block o ∙ sym t ∙ n) (e ∙ ap (λ (s : Spot). get same_spot firsts s) is ∙ h table block))

-- ---- row by row

module _ {T : Type 0} (placed : T → Placed) (table : Table) (block : Cidr) where
  ids_cons : (x : T) (xs : List T) → ids_at (map placed (x ∷ xs)) table block ≡ one_if (is_at table block (placed x)) (placed x).id ++ ids_at (map placed xs) table block
  ids_cons x xs = go (is_at table block (placed x)) where
    go : (t : Bool) → map placed_id (cond t (placed x ∷ filter (is_at table block) (map placed xs)) (filter (is_at table block) (map placed xs))) ≡ one_if t (placed x).id ++ ids_at (map placed xs) table block
    go true = refl
    go false = refl

  pub listed_more : (xs : List T) (i : ℕ) (x : T) (out next all : List ℕ) (here : Bool) (n : ℕ) → slice_get xs i ≡ Some x → here ≡ is_at table block (placed x) → n ≡ (placed x).id → next ≡ out ++ one_if here n
      → out ++ ids_at (map placed (drop i xs)) table block ≡ all → next ++ ids_at (map placed (drop (i + 1) xs)) table block ≡ all
  listed_more xs i x out next all here n e t m is h =
      let rest = ids_at (map placed (drop (i + 1) xs)) table block in
      let one : ids_at (map placed (drop i xs)) table block ≡ one_if here n ++ rest =
      ap (λ (ys : List T). ids_at (map placed ys) table block) (drop_get xs i x e) ∙ ids_cons x (drop (i + 1) xs) ∙ ap (λ (b : Bool). one_if b (placed x).id ++ rest) (sym t) ∙ ap (λ (k : ℕ). one_if here k ++ rest) (sym m) in
      ap (λ (ns : List ℕ). ns ++ rest) is ∙ append_assoc out (one_if here n) rest ∙ ap (λ (ns : List ℕ). out ++ ns) (sym one) ∙ h

  pub listed_all : (xs : List T) (i : ℕ) (out all : List ℕ) → length xs ≤ i → out ++ ids_at (map placed (drop i xs)) table block ≡ all → out ≡ all
  listed_all xs i out all le h = sym (append-nil out) ∙ ap (λ (ys : List T). out ++ ids_at (map placed ys) table block) (sym (drop_of_length-le xs le)) ∙ h
