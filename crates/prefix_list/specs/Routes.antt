-- A prefix list as a router matches it: the set of routes that it lets in (`le` of Cisco's prefix lists, `upto` of Junos). A route is a block. An entry
-- lets in the routes inside its block that are no longer than its greatest length, so one of its block's own length lets in this block alone.
use Rattle.std.specs.Prelude.{◌≡◌, ◌⊎◌, ℕ, ◌<◌, ◌≤◌, ◌&&◌, nat_le, Bool, true, List, [], ◌∷◌, map}
use Rattle.std.specs.List.{list_any, AllByRecursion}
use Rattle.inet_num.specs.Net.{Cidr, IsBlock}
use Rattle.inet_num.specs.Blocks.{same_block, is_block_inside}
use Rattle.inet_num.specs.Free.{InOrder}
use Rattle.prefix_list.specs.declared.routes.Entry.{Entry}

-- the entry lets in the route
abbrev pub lets_in : Entry → Cidr → Bool
lets_in e r = is_block_inside r e.block && nat_le r.len e.most

-- one of the entries does
abbrev pub let_in_by : List Entry → Cidr → Bool
let_in_by entries r = list_any (λ e. lets_in e r) entries

-- ---- the routes that are asked for

-- the route is one of the blocks
abbrev pub is_among : List Cidr → Cidr → Bool
is_among blocks r = list_any (λ b. same_block b r) blocks

-- one of the blocks contains the route, which is no longer than this
abbrev pub is_within : ℕ → List Cidr → Cidr → Bool
is_within most blocks r = list_any (λ b. is_block_inside r b) blocks && nat_le r.len most

-- ---- the entries of a list

-- the entry that lets in its block alone
abbrev pub exactly : Cidr → Entry
exactly b = record { block = b; most = b.len }

abbrev pub blocks_of : List Entry → List Cidr
blocks_of entries = map (λ e. e.block) entries

-- the first block comes before the second one: by its first address, and a block before those inside it
abbrev pub IsBefore : Cidr → Cidr → Type 0
IsBefore b c = (b.first < c.first) ⊎ ((b.first ≡ c.first) × (b.len < c.len))

-- after this block, each one comes before the next, so each is listed once
abbrev pub RisesFrom : Cidr → List Cidr → Type 0
RisesFrom b [] = Unit {0}
RisesFrom b (c ∷ cs) = IsBefore b c × RisesFrom c cs

abbrev pub IsRising : List Cidr → Type 0
IsRising [] = Unit {0}
IsRising (b ∷ bs) = RisesFrom b bs

-- the entries let in just the blocks: each block has its own entry, once and in order
pub record AreExact (blocks : List Cidr) (entries : List Entry) : Type 0 where
  pub rising : IsRising (blocks_of entries)
  pub alone : AllByRecursion (λ e. e.most ≡ e.block.len) entries
  pub routes : (r : Cidr) → IsBlock r → let_in_by entries r ≡ is_among blocks r

-- the entries let in just the routes that one of the blocks contains and that are no longer than this. Each has one of the blocks, so none is merged
-- with another one; none is inside another, and none is longer
pub record AreOutermost (most : ℕ) (blocks : List Cidr) (entries : List Entry) : Type 0 where
  pub ordered : InOrder 0 (blocks_of entries)
  pub own : AllByRecursion (λ e. (is_among blocks e.block ≡ true) × (e.block.len ≤ most) × (e.most ≡ most)) entries
  pub routes : (r : Cidr) → let_in_by entries r ≡ is_within most blocks r
