-- Rows whose ids rise are put one after another.
use Rattle.std.proofs.Common.{◌≡◌, ℕ, ◌+◌, ◌<◌, ◌≤◌, ◌++◌, List, [], ◌∷◌, append_assoc, append-nil, length, refl, ap, sym, ◌∙◌, subst, arith}
use Rattle.ipam_data.specs.RowList.{AllBelow, Rises, with_row}
use Rattle.ipam_data.proofs.Kept.{none_above}
use Rattle.placed_book.proofs.RowPlaces.{with_row_new}
use Rattle.number_pools.specs.declared.rows.Member.{Member}
use Rattle.number_pools.specs.Rows.{Pools, member_id}
use Rattle.pool_rows.specs.Held.{Held}

-- the rows that were put and those that are left are all, and there is room for these
pub record IsFilling {T : Type 0} (all kept left : List T) (room : ℕ) : Type 0 where
  pub whole : kept ++ left ≡ all
  pub fits : length left ≤ room

module _ {T : Type 0} (id : T → ℕ) where
  -- ids that rise: those before one are below it
  parted_rise : (low : ℕ) (xs : List T) (y : T) (ys : List T) → Rises id low (xs ++ y ∷ ys) → AllBelow id (id y) xs × (low < id y)
  parted_rise low [] y ys r = (tt, r.0)
  parted_rise low (x ∷ xs) y ys r = (let ih = parted_rise (id x) xs y ys r.1 in let a = ih.1 in let b = r.0 in ((a, ih.0), omega arith))

  pub next_below : (all kept left : List T) (x : T) (rest : List T) → Rises id 0 all → kept ++ left ≡ all → left ≡ x ∷ rest → AllBelow id (id x) kept × (0 < id x)
  next_below all kept left x rest r w e = parted_rise 0 kept x rest (subst (λ (xs : List T). Rises id 0 xs) (sym w ∙ ap (λ (ys : List T). kept ++ ys) e) r)

  pub one_put : (all kept new left : List T) (x : T) (rest : List T) → Rises id 0 all → kept ++ left ≡ all → left ≡ x ∷ rest → new ≡ with_row id kept x → new ++ rest ≡ all
  one_put all kept new left x rest r w e n =
      let below = (next_below all kept left x rest r w e).0 in
      let put : with_row id kept x ≡ kept ++ x ∷ [] = with_row_new id kept x (none_above id (id x) (id x) kept below (omega arith)) in
      ap (λ (ys : List T). ys ++ rest) (n ∙ put) ∙ append_assoc kept (x ∷ []) rest ∙ sym (ap (λ (ys : List T). kept ++ ys) e) ∙ w

pub all_put : {T : Type 0} (all kept left : List T) → kept ++ left ≡ all → left ≡ [] → kept ≡ all
all_put {T} all kept left w e = sym (append-nil kept) ∙ sym (ap (λ (ys : List T). kept ++ ys) e) ∙ w

-- ---- members

-- these pools with other members
abbrev pub with_rows : Pools → List Member → Pools
with_rows s ms = record { ranges = s.ranges; members = record { rows = ms; next = s.members.next }; spent = s.spent }

pub record IsAdmitting (start : Pools) (all : List Member) (now : Held) (left : List Member) : Type 0 where
  pub beside : now.pools ≡ with_rows start now.pools.members.rows
  pub whole : now.pools.members.rows ++ left ≡ all
  pub room : length left ≤ now.member_room
  pub key_room : length left ≤ now.key_room

pub one_admitted : (start : Pools) (all : List Member) (now new : Held) (left : List Member) (m : Member) (rest : List Member) → Rises member_id 0 all → IsAdmitting start all now left → left ≡ m ∷ rest
    → new.pools ≡ with_rows now.pools (with_row member_id now.pools.members.rows m) → now.member_room ≤ new.member_room + 1 → now.key_room ≤ new.key_room + 1 → IsAdmitting start all new rest
one_admitted start all now new left m rest r h e p room key_room =
    let rows : new.pools.members.rows ≡ with_row member_id now.pools.members.rows m = ap (λ (s : Pools). s.members.rows) p in
    let n : length left ≡ length (m ∷ rest) = ap length e in
    let a = h.room in
    let b = h.key_room in
    record {
      beside = p ∙ ap (λ (s : Pools). with_rows s (with_row member_id now.pools.members.rows m)) h.beside ∙ ap (with_rows start) (sym rows);
      whole = one_put member_id all now.pools.members.rows new.pools.members.rows left m rest r h.whole e rows;
      room = omega arith;
      key_room = omega arith;
    }

pub all_admitted : (start : Pools) (all : List Member) (now : Held) (left : List Member) → IsAdmitting start all now left → left ≡ [] → now.pools ≡ with_rows start all
all_admitted start all now left h e = h.beside ∙ ap (with_rows start) (all_put all now.pools.members.rows left h.whole e)
