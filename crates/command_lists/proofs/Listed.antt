-- The blocks of a table's prefixes, one prefix after another, and the family that they and the fewest blocks of their addresses have.
use Rattle.std.proofs.Common.{◌≡◌, ◌≢◌, ℕ, ◌+◌, ◌-◌, refl, sym, ◌∙◌, ap, subst, arith, Bool, true, false, ◌&&◌, List, [], ◌∷◌, ◌++◌, map, filter, take, get_or, Some, slice_get}
use Rattle.std.specs.List.{AllByRecursion}
use Rattle.std.proofs.lemmas.Bool.{and_parts, or_left, or_right}
use Rattle.std.proofs.lemmas.List.{take_more, map-append}
use Rattle.std.proofs.lemmas.List.Elements.{filter-append}
use Rattle.std.proofs.lemmas.Option.{slice_get_within, get_or_from_slice_get}
use Rattle.std.proofs.lemmas.Nat.{pow_pos}
use Rattle.inet_num.specs.declared.Family.{Family}
use Rattle.inet_num.specs.Net.{Address, Cidr, IsBlock, width_of, first_of}
use Rattle.inet_num.specs.Blocks.{same_family, block_holds}
use Rattle.inet_num.proofs.Insides.{same_family-refl, one_family}
use Rattle.ipam_data.specs.declared.kinds.Table.{Table}
use Rattle.ipam_data.specs.declared.prefix.Prefix.{Prefix}
use Rattle.ipam_data.specs.Tables.{table_of, same_table}
use Rattle.word_values.specs.declared.statuses.Statuses.{Statuses}
use Rattle.prefix_list.specs.Lists.{addresses_of_list, HasJust, AreOf}
use Rattle.prefix_list.proofs.Members.{here, list_has_not}
use Rattle.prefix_list.proofs.JustSets.{has_as_test}
use Rattle.command_lists.specs.Tables.{is_counted, is_listed, blocks_listed}

-- the block of a prefix
abbrev block_of : Prefix → Cidr
block_of row = row.block

listed_append : (table : Table) (family : Family) (counted : Statuses) (xs ys : List Prefix) → blocks_listed table family counted (xs ++ ys) ≡ blocks_listed table family counted xs ++ blocks_listed table family counted ys
listed_append table family counted xs ys =
    ap (map block_of) (filter-append (is_listed table family counted) xs ys)
    ∙ map-append block_of (filter (is_listed table family counted) xs) (filter (is_listed table family counted) ys)

-- one prefix more
pub listed_more : (table : Table) (family : Family) (counted : Statuses) (rows : List Prefix) (i : ℕ) (row : Prefix) (before after : List Cidr)
    → Some row ≡ slice_get rows i → before ≡ blocks_listed table family counted (take i rows) → after ≡ before ++ blocks_listed table family counted (row ∷ [])
    → after ≡ blocks_listed table family counted (take (i + 1) rows)
listed_more table family counted rows i row before after found so_far more =
    let less = slice_get_within rows i row (sym found) in
    let row_is : get_or rows i row ≡ row = get_or_from_slice_get rows i row row (sym found) in
    let front : take (i + 1) rows ≡ take i rows ++ row ∷ [] = take_more rows i row less ∙ ap (λ (x : Prefix). take i rows ++ x ∷ []) row_is in
    more
    ∙ ap (λ (bs : List Cidr). bs ++ blocks_listed table family counted (row ∷ [])) so_far
    ∙ sym (listed_append table family counted (take i rows) (row ∷ []))
    ∙ ap (blocks_listed table family counted) (sym front)

-- each block is of the family
pub listed_are_of : (table : Table) (family : Family) (counted : Statuses) (rows : List Prefix) → AreOf family (blocks_listed table family counted rows)
listed_are_of table family counted [] = tt
listed_are_of table family counted (row ∷ rows) = go (is_listed table family counted row) refl (listed_are_of table family counted rows)
  where
    go : (t : Bool) → is_listed table family counted row ≡ t → AreOf family (blocks_listed table family counted rows) → AreOf family (blocks_listed table family counted (row ∷ rows))
    go true e rest = rw e (one_family row.block.family family (and_parts (same_table (table_of row.vrf) table) (same_family row.block.family family) (and_parts (same_table (table_of row.vrf) table && same_family row.block.family family) (is_counted counted row.status) e).0).1, rest)
    go false e rest = rw e rest

-- a block whose first address is one of a list of the family is of it
own_family : (family : Family) (have : List Cidr) (b : Cidr) → AreOf family have → addresses_of_list have (first_of b) ≡ true → b.family ≡ family
own_family family have b of there = go (same_family b.family family) refl
  where
    go : (t : Bool) → same_family b.family family ≡ t → b.family ≡ family
    go true e = one_family b.family family e
    go false e =
        let other : b.family ≢ family = λ same. (let one : same_family b.family family ≡ true = subst (λ (f : Family). same_family b.family f ≡ true) same (same_family-refl b.family) in cc) in
        let lacks = list_has_not family have (first_of b) of other in
        cc

kept : (family : Family) (have cs : List Cidr) → AreOf family have → AllByRecursion IsBlock cs
    → ((a : Address) → addresses_of_list cs a ≡ true → addresses_of_list have a ≡ true) → AreOf family cs
kept family have [] of lawful inside = tt
kept family have (b ∷ cs) of lawful inside =
    let some = pow_pos (width_of b.family - b.len) in
    let holds : block_holds b (first_of b) ≡ true = here b b.first ∙ has_as_test b b.first (omega arith, omega arith) in (
      own_family family have b of (inside (first_of b) (or_left (block_holds b (first_of b)) (addresses_of_list cs (first_of b)) holds)),
      kept family have cs of lawful.1 (λ a h. inside a (or_right (block_holds b a) (addresses_of_list cs a) h)),
    )

-- blocks that have just the addresses of blocks of the family are of it
pub family_kept : (family : Family) (have bs : List Cidr) → AreOf family have → AllByRecursion IsBlock bs → HasJust (addresses_of_list have) bs → AreOf family bs
family_kept family have bs of lawful same = kept family have bs of lawful (λ a h. sym (same a) ∙ h)
