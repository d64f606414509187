-- A call is answered that there is no space exactly where it is a claim and its space falls short.
use Rattle.std.proofs.Common.{◌≡◌, ◌≢◌, ℕ, suc, ◌+◌, ◌<◌, Bool, true, false, nat_lt, min, List, [], ◌∷◌, ◌++◌, length, map, Option, Some, None, refl, sym, ◌∙◌, ap, arith, if◌then◌else◌}
use Rattle.std.proofs.lemmas.Bool.Decides.{nat_tests}
use Rattle.std.specs.List.{flat_map}
use Rattle.inet_num.specs.declared.Family.{Family}
use Rattle.inet_num.specs.Net.{Cidr, Address}
use Rattle.block_space.specs.Fit.{fits_of}
use Rattle.block_space.specs.Usable.{addressed}
use Rattle.ipam_data.specs.declared.prefix.Prefix.{Prefix}
use Rattle.ipam_data.specs.declared.range.IpRange.{IpRange}
use Rattle.ipam_data.specs.declared.calls.Call.{Call}
use Rattle.ipam_data.specs.declared.calls.Call.TheVariants.{List as ListOf, Get, Create, Change, Delete, Blocks, PrefixAddrs, RangeAddrs, ClaimBlocks, ClaimPrefixAddrs, ClaimRangeAddrs, Utilization, Import, Export, Survey}
use Rattle.ipam_data.specs.declared.calls.Answered.{Answered}
use Rattle.ipam_data.specs.declared.calls.BlockItem.{BlockItem}
use Rattle.ipam_data.specs.declared.calls.AddrItem.{AddrItem}
use Rattle.ipam_data.specs.declared.replies.Refusal.{Refusal}
use Rattle.ipam_data.specs.declared.replies.Refusal.TheVariants.{NoSpace, NotFound, Memory, Keeper}
use Rattle.ipam_data.specs.declared.replies.Reply.{Reply}
use Rattle.ipam_data.specs.declared.replies.Reply.TheVariants.{Refused}
use Rattle.ipam_data.specs.declared.replies.Which.TheVariants.{Claims}
use Rattle.ipam_data.specs.Rows.{prefix_id, range_id}
use Rattle.ipam_data.specs.RowList.{row_at}
use Rattle.ipam_data.specs.Checks.{first, too_many}
use Rattle.ipam_data.specs.State.{State, Plan, verdict_of}
use Rattle.ipam_data.specs.Plans.{KindRules, no_place, with_found}
use Rattle.ipam_data.specs.Prefixes.{prefix_rules}
use Rattle.ipam_data.specs.Ranges.{range_rules}
use Rattle.ipam_data.specs.Addresses.{address_rules}
use Rattle.ipam_data.specs.Updates.{updated, outcome}
use Rattle.ipam_data.specs.Claims.{no_space, most_items, claim, child_blocks, lengths_of, told_of_block, told_of_address, claimed_prefixes, claimed_addresses, usable_in, usable_of_range, claim_blocks_of, claim_addresses_of}
use Rattle.ipam_data.specs.Steps.{plan_of, verdict, plain_step}
use Rattle.register_core.specs.declared.stop.Stop.{Stop}
use Rattle.register_core.specs.declared.stop.Stop.TheVariants.{Memory as NoMemory, Keeper as KeeperStop}
use Rattle.register_core.specs.Stops.{refusal_of}
use Rattle.register_core.specs.Spaces.{FallsShort, LacksSpace}
use Rattle.register_core.proofs.Never.{IsApart, never_begun, never_placed, told_blocks, told_addresses, never_answered, answered_alike, never_served}

apart : (i : ℕ) → IsApart (NoSpace i)
apart i = record { rule = λ broken e. cc; limit = λ which most e. cc; used = λ kind n e. cc; absent = λ kind n e. cc; field = λ member e. cc; row = λ n fault e. cc }

-- what a list of checks says, by what its first part says
past_none : (xs ys : List (Option Refusal)) → first xs ≡ None → first (xs ++ ys) ≡ first ys
past_none [] ys e = refl
past_none (None ∷ xs) ys e = past_none xs ys e
past_none (Some x ∷ xs) ys e = cc

stops_some : (xs ys : List (Option Refusal)) (refusal : Refusal) → first xs ≡ Some refusal → first (xs ++ ys) ≡ Some refusal
stops_some [] ys refusal e = cc
stops_some (None ∷ xs) ys refusal e = stops_some xs ys refusal e
stops_some (Some x ∷ xs) ys refusal e = e

-- a plan is answered by its verdict
refused_so : (s : State) (plan : Plan) (refusal : Refusal) → verdict_of plan ≡ Some refusal → (outcome s plan).1 ≡ Refused refusal
refused_so s plan refusal e = rw (e, outcome) refl

verdict_so : (s : State) (plan : Plan) (i : ℕ) → (verdict_of plan ≡ None → (refusal : Refusal) → plan.reply ≢ Refused refusal) → (outcome s plan).1 ≡ Refused (NoSpace i) → verdict_of plan ≡ Some (NoSpace i)
verdict_so s plan i reply h = go (verdict_of plan) refl
  where
    go : (v : Option Refusal) → verdict_of plan ≡ v → v ≡ Some (NoSpace i)
    go (Some refusal) e = (let q : Refused refusal ≡ Refused (NoSpace i) = rw (e, outcome) at h in cc)
    go None e = absurd (answered_alike (NoSpace i) (apart i) (updated s plan.update) plan.reply (reply e) (rw (e, outcome) at h))

module _ {T : Type 0} (rules : KindRules T) (s : State) where
  -- the checks from the search for space on
  searched : (wanted got i : ℕ) → first (no_space wanted got ∷ no_place rules s wanted) ≡ Some (NoSpace i) → (i ≡ got) × (got < wanted)
  searched wanted got i e = go (nat_lt got wanted) refl e
    where
      go : (t : Bool) → nat_lt got wanted ≡ t → first ((if t then Some (NoSpace got) else None) ∷ no_place rules s wanted) ≡ Some (NoSpace i) → (i ≡ got) × (got < wanted)
      go true t e = (cc, grind (arith, nat_tests, t))
      go false t e = absurd (never_placed (NoSpace i) (apart i) rules s wanted e)

  found_short : (wanted got : ℕ) → got < wanted → first (no_space wanted got ∷ no_place rules s wanted) ≡ Some (NoSpace got)
  found_short wanted got h = go (nat_lt got wanted) refl
    where
      go : (t : Bool) → nat_lt got wanted ≡ t → first ((if t then Some (NoSpace got) else None) ∷ no_place rules s wanted) ≡ Some (NoSpace got)
      go true t = refl
      go false t = absurd (grind (arith, nat_tests, t, h))

  claim_short : (told : List (Option Refusal)) (wanted i : ℕ) (form : Answered) (rows : List T) → first told ≢ Some (NoSpace i)
      → verdict_of (claim rules s told wanted form rows) ≡ Some (NoSpace i) → FallsShort told wanted (length rows) i
  claim_short told wanted i form rows t e = go (first (too_many Claims most_items wanted ∷ told)) refl
    where
      go : (v : Option Refusal) → first (too_many Claims most_items wanted ∷ told) ≡ v → FallsShort told wanted (length rows) i
      go (Some refusal) b =
          let same : Some refusal ≡ Some (NoSpace i) = sym (stops_some (too_many Claims most_items wanted ∷ told) (no_space wanted (length rows) ∷ no_place rules s wanted) refusal b) ∙ e in
          absurd (never_begun (NoSpace i) (apart i) rules s told wanted t (b ∙ same))
      go None b =
          let rest = searched wanted (length rows) i (sym (past_none (too_many Claims most_items wanted ∷ told) (no_space wanted (length rows) ∷ no_place rules s wanted) b) ∙ e) in
          record { begun = b; first_without = rest.0; short = rest.1 }

  short_claim : (told : List (Option Refusal)) (wanted i : ℕ) (form : Answered) (rows : List T) → FallsShort told wanted (length rows) i
      → verdict_of (claim rules s told wanted form rows) ≡ Some (NoSpace i)
  short_claim told wanted i form rows f =
      past_none (too_many Claims most_items wanted ∷ told) (no_space wanted (length rows) ∷ no_place rules s wanted) f.begun
      ∙ found_short wanted (length rows) f.short ∙ ap (λ (n : ℕ). Some (NoSpace n)) (sym f.first_without)

-- the row that is named is there
found_one : {T : Type 0} (rules : KindRules T) (s : State) (n i : ℕ) (plan : T → Plan) (found : Option T) → (outcome s (with_found rules n plan found)).1 ≡ Refused (NoSpace i)
    → (row : T) × (found ≡ Some row) × ((outcome s (plan row)).1 ≡ Refused (NoSpace i))
found_one rules s n i plan None e = (let q : Refused (NotFound rules.kind n) ≡ Refused (NoSpace i) = e in cc)
found_one rules s n i plan (Some row) e = (row, refl, e)

one_found : {T : Type 0} (rules : KindRules T) (s : State) (n i : ℕ) (plan : T → Plan) (found : Option T) (row : T) → found ≡ Some row → verdict_of (plan row) ≡ Some (NoSpace i)
    → verdict_of (with_found rules n plan found) ≡ Some (NoSpace i)
one_found rules s n i plan found row q e = rw q e

-- as many get something as there are items and places
prefixes_count : (row : Prefix) (next : ℕ) (items : List BlockItem) (blocks : List Cidr) → length (claimed_prefixes row next items blocks) ≡ min (length items) (length blocks)
prefixes_count row next [] blocks = omega arith
prefixes_count row next (x ∷ xs) [] = omega arith
prefixes_count row next (x ∷ xs) (b ∷ bs) = (let h = prefixes_count row (next + 1) xs bs in omega arith)

addresses_count : (vrf : Option ℕ) (len next : ℕ) (items : List AddrItem) (hosts : List Address) → length (claimed_addresses vrf len next items hosts) ≡ min (length items) (length hosts)
addresses_count vrf len next [] hosts = omega arith
addresses_count vrf len next (x ∷ xs) [] = omega arith
addresses_count vrf len next (x ∷ xs) (a ∷ bs) = (let h = addresses_count vrf len (next + 1) xs bs in omega arith)

addressed_count : (family : Family) (numbers : List ℕ) → length (addressed family numbers) ≡ length numbers
addressed_count family [] = refl
addressed_count family (a ∷ numbers) = ap (λ (n : ℕ). suc n) (addressed_count family numbers)

-- whether it falls short is the same with as many as there are places
without_least : (told : List (Option Refusal)) (wanted got taken i : ℕ) → taken ≡ min wanted got → FallsShort told wanted taken i → FallsShort told wanted got i
without_least told wanted got taken i e f = (let a = f.first_without in let b = f.short in record { begun = f.begun; first_without = omega (arith, e, a, b); short = omega (arith, e, b) })

with_least : (told : List (Option Refusal)) (wanted got taken i : ℕ) → taken ≡ min wanted got → FallsShort told wanted got i → FallsShort told wanted taken i
with_least told wanted got taken i e f = (let a = f.first_without in let b = f.short in record { begun = f.begun; first_without = omega (arith, e, a, b); short = omega (arith, e, b) })

-- ---- the three claims

blocks_lack : (s : State) (i : ℕ) (form : Answered) (items : List BlockItem) (row : Prefix) → (outcome s (claim_blocks_of s form items row)).1 ≡ Refused (NoSpace i)
    → FallsShort (flat_map (told_of_block s row) items) (length items) (length (fits_of row.block (child_blocks s.prefixes.rows row) (lengths_of items))) i
blocks_lack s i form items row e =
    let fits = fits_of row.block (child_blocks s.prefixes.rows row) (lengths_of items) in
    let rows = claimed_prefixes row s.prefixes.next items fits in
    let told = flat_map (told_of_block s row) items in
    let v = verdict_so s (claim prefix_rules s told (length items) form rows) i (λ n refusal. never_served (NoSpace i) (apart i) form (map prefix_rules.view rows) refusal) e in
    without_least told (length items) (length fits) (length rows) i (prefixes_count row s.prefixes.next items fits)
    (claim_short prefix_rules s told (length items) i form rows (told_blocks (NoSpace i) (apart i) s items row) v)

lack_blocks : (s : State) (i : ℕ) (form : Answered) (items : List BlockItem) (row : Prefix)
    → FallsShort (flat_map (told_of_block s row) items) (length items) (length (fits_of row.block (child_blocks s.prefixes.rows row) (lengths_of items))) i
    → verdict_of (claim_blocks_of s form items row) ≡ Some (NoSpace i)
lack_blocks s i form items row f =
    let fits = fits_of row.block (child_blocks s.prefixes.rows row) (lengths_of items) in
    let rows = claimed_prefixes row s.prefixes.next items fits in
    let told = flat_map (told_of_block s row) items in
    short_claim prefix_rules s told (length items) i form rows (with_least told (length items) (length fits) (length rows) i (prefixes_count row s.prefixes.next items fits) f)

hosts_lack : (s : State) (i : ℕ) (form : Answered) (items : List AddrItem) (vrf : Option ℕ) (len : ℕ) (family : Family) (usable : List ℕ)
    → (outcome s (claim_addresses_of s form items vrf len family usable)).1 ≡ Refused (NoSpace i) → FallsShort (flat_map (told_of_address family) items) (length items) (length usable) i
hosts_lack s i form items vrf len family usable e =
    let rows = claimed_addresses vrf len s.addresses.next items (addressed family usable) in
    let told = flat_map (told_of_address family) items in
    let v = verdict_so s (claim address_rules s told (length items) form rows) i (λ n refusal. never_served (NoSpace i) (apart i) form (map address_rules.view rows) refusal) e in
    let count : length rows ≡ min (length items) (length usable) =
    addresses_count vrf len s.addresses.next items (addressed family usable) ∙ ap (λ (n : ℕ). min (length items) n) (addressed_count family usable) in
    without_least told (length items) (length usable) (length rows) i count
    (claim_short address_rules s told (length items) i form rows (told_addresses (NoSpace i) (apart i) family items) v)

lack_hosts : (s : State) (i : ℕ) (form : Answered) (items : List AddrItem) (vrf : Option ℕ) (len : ℕ) (family : Family) (usable : List ℕ)
    → FallsShort (flat_map (told_of_address family) items) (length items) (length usable) i → verdict_of (claim_addresses_of s form items vrf len family usable) ≡ Some (NoSpace i)
lack_hosts s i form items vrf len family usable f =
    let rows = claimed_addresses vrf len s.addresses.next items (addressed family usable) in
    let told = flat_map (told_of_address family) items in
    let count : length rows ≡ min (length items) (length usable) =
    addresses_count vrf len s.addresses.next items (addressed family usable) ∙ ap (λ (n : ℕ). min (length items) n) (addressed_count family usable) in
    short_claim address_rules s told (length items) i form rows (with_least told (length items) (length usable) (length rows) i count f)

-- ---- all calls

-- an answer that there is no space has its cause
pub space_lacks : (s : State) (call : Call) (i : ℕ) → (plain_step s call).1 ≡ Refused (NoSpace i) → LacksSpace s call i
space_lacks s (ClaimBlocks n form items) i e =
    let found = found_one prefix_rules s n i (claim_blocks_of s form items) (row_at prefix_id s.prefixes.rows n) e in
    (found.0, found.1, blocks_lack s i form items found.0 found.2)
space_lacks s (ClaimPrefixAddrs n form items) i e =
    let found = found_one prefix_rules s n i (λ (row : Prefix). claim_addresses_of s form items row.vrf row.block.len row.block.family (usable_in s row)) (row_at prefix_id s.prefixes.rows n) e in
    (found.0, found.1, hosts_lack s i form items found.0.vrf found.0.block.len found.0.block.family (usable_in s found.0) found.2)
space_lacks s (ClaimRangeAddrs n form items) i e =
    let found = found_one range_rules s n i (λ (row : IpRange). claim_addresses_of s form items row.vrf row.ends.len row.ends.start.family (usable_of_range s row)) (row_at range_id s.ranges.rows n) e in
    (found.0, found.1, hosts_lack s i form items found.0.vrf found.0.ends.len found.0.ends.start.family (usable_of_range s found.0) found.2)
space_lacks s (ListOf kind filter limit offset) i e = never_answered (NoSpace i) (apart i) s (ListOf kind filter limit offset) refl e
space_lacks s (Get kind n) i e = never_answered (NoSpace i) (apart i) s (Get kind n) refl e
space_lacks s (Create draft) i e = never_answered (NoSpace i) (apart i) s (Create draft) refl e
space_lacks s (Change n edit) i e = never_answered (NoSpace i) (apart i) s (Change n edit) refl e
space_lacks s (Delete kind n) i e = never_answered (NoSpace i) (apart i) s (Delete kind n) refl e
space_lacks s (Blocks n limit) i e = never_answered (NoSpace i) (apart i) s (Blocks n limit) refl e
space_lacks s (PrefixAddrs n limit) i e = never_answered (NoSpace i) (apart i) s (PrefixAddrs n limit) refl e
space_lacks s (RangeAddrs n limit) i e = never_answered (NoSpace i) (apart i) s (RangeAddrs n limit) refl e
space_lacks s (Utilization kind n) i e = never_answered (NoSpace i) (apart i) s (Utilization kind n) refl e
space_lacks s (Import kind rows) i e = never_answered (NoSpace i) (apart i) s (Import kind rows) refl e
space_lacks s (Export kind) i e = never_answered (NoSpace i) (apart i) s (Export kind) refl e
space_lacks s Survey i e = never_answered (NoSpace i) (apart i) s Survey refl e

-- and where space falls short, the call is refused so
pub lacks_space : (s : State) (call : Call) (i : ℕ) → LacksSpace s call i → verdict s call ≡ Some (NoSpace i)
lacks_space s (ClaimBlocks n form items) i e =
    one_found prefix_rules s n i (claim_blocks_of s form items) (row_at prefix_id s.prefixes.rows n) e.0 e.1 (lack_blocks s i form items e.0 e.2)
lacks_space s (ClaimPrefixAddrs n form items) i e =
    one_found prefix_rules s n i (λ (row : Prefix). claim_addresses_of s form items row.vrf row.block.len row.block.family (usable_in s row)) (row_at prefix_id s.prefixes.rows n) e.0 e.1
    (lack_hosts s i form items e.0.vrf e.0.block.len e.0.block.family (usable_in s e.0) e.2)
lacks_space s (ClaimRangeAddrs n form items) i e =
    one_found range_rules s n i (λ (row : IpRange). claim_addresses_of s form items row.vrf row.ends.len row.ends.start.family (usable_of_range s row)) (row_at range_id s.ranges.rows n) e.0 e.1
    (lack_hosts s i form items e.0.vrf e.0.ends.len e.0.ends.start.family (usable_of_range s e.0) e.2)
lacks_space s (ListOf kind filter limit offset) i e = absurd e
lacks_space s (Get kind n) i e = absurd e
lacks_space s (Create draft) i e = absurd e
lacks_space s (Change n edit) i e = absurd e
lacks_space s (Delete kind n) i e = absurd e
lacks_space s (Blocks n limit) i e = absurd e
lacks_space s (PrefixAddrs n limit) i e = absurd e
lacks_space s (RangeAddrs n limit) i e = absurd e
lacks_space s (Utilization kind n) i e = absurd e
lacks_space s (Import kind rows) i e = absurd e
lacks_space s (Export kind) i e = absurd e
lacks_space s Survey i e = absurd e

pub lacking_answered : (s : State) (call : Call) (i : ℕ) → LacksSpace s call i → (plain_step s call).1 ≡ Refused (NoSpace i)
lacking_answered s call i e = refused_so s (plan_of s call) (NoSpace i) (lacks_space s call i e)

-- what stops a call is not answered so, and not where it is looked for space
pub stopped_otherwise : (stop : Stop) (refusal : Refusal) (reply : Reply) (i : ℕ) → reply ≡ Refused refusal → refusal ≡ refusal_of stop → reply ≡ Refused (NoSpace i) → ⊥
stopped_otherwise NoMemory refusal reply i e r k = (let q : Refused (NoSpace i) ≡ Refused Memory = sym k ∙ e ∙ ap Refused r in cc)
stopped_otherwise KeeperStop refusal reply i e r k = (let q : Refused (NoSpace i) ≡ Refused Keeper = sym k ∙ e ∙ ap Refused r in cc)

pub stopped_before : (stop : Stop) (refusal : Refusal) (reply : Reply) (s : State) (call : Call) (i : ℕ) → reply ≡ Refused refusal → refusal ≡ refusal_of stop → reply ≢ Refused Memory
    → (stop ≡ KeeperStop → verdict s call ≡ None) → LacksSpace s call i → ⊥
stopped_before NoMemory refusal reply s call i e r m v l = m (e ∙ ap Refused r)
stopped_before KeeperStop refusal reply s call i e r m v l = (let q : Some (NoSpace i) ≡ None = sym (lacks_space s call i l) ∙ v refl in cc)
