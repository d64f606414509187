-- What the checks of a claim come to where each of its parts is known, and the rows that it makes.
use Rattle.std.proofs.Common.{◌≡◌, ℕ, zero, suc, ◌&&◌, ◌+◌, ◌<◌, ◌≤◌, nat_lt, nat_le, Bool, true, false, List, [], ◌∷◌, ◌++◌, map, take, length, get_or, Option, Some, None, refl, ap, sym, ◌∙◌, subst, arith, add-one, Result, Ok, Err, IfOk, if◌then◌else◌}
use Rattle.std.proofs.lemmas.Bool.Decides.{nat_tests}
use Rattle.std.proofs.lemmas.List.{map-append}
use Rattle.std.specs.List.{flat_map}
use Rattle.std.specs.declared.alloc.AllocError.{AllocError}
use Rattle.inet_num.specs.Net.{Cidr, width_of}
use Rattle.inet_num.proofs.Insides.{both}
use Rattle.block_claim.specs.Claims.{FitInside}
use Rattle.ipam_data.specs.declared.calls.Answered.{Answered}
use Rattle.ipam_data.specs.declared.calls.Answered.TheVariants.{AsOne, AsList}
use Rattle.ipam_data.specs.declared.calls.BlockItem.{BlockItem}
use Rattle.ipam_data.specs.declared.prefix.Prefix.{Prefix}
use Rattle.ipam_data.specs.declared.kinds.Kind.{Kind}
use Rattle.ipam_data.specs.declared.kinds.Kind.TheVariants.{Roles}
use Rattle.ipam_data.specs.declared.replies.Refusal.{Refusal}
use Rattle.ipam_data.specs.declared.replies.Refusal.TheVariants.{NotFound, NoSpace, Limit}
use Rattle.ipam_data.specs.declared.replies.Rule.TheVariants.{WantedLength}
use Rattle.ipam_data.specs.declared.replies.Which.TheVariants.{Claims}
use Rattle.ipam_data.specs.declared.replies.Reply.{Reply}
use Rattle.ipam_data.specs.declared.replies.Reply.TheVariants.{Made, MadeMany}
use Rattle.ipam_data.specs.declared.replies.View.{View}
use Rattle.ipam_data.specs.declared.update.Update.{Update}
use Rattle.ipam_data.specs.Checks.{first, too_many, no_such, breaks}
use Rattle.ipam_data.specs.RowList.{row_at}
use Rattle.ipam_data.specs.Rows.{role_id}
use Rattle.ipam_data.specs.State.{State, Plan, verdict_of}
use Rattle.ipam_data.specs.Plans.{KindRules, no_place, with_row_at, with_found}
use Rattle.ipam_data.specs.Replays.{is_accepted}
use Rattle.ipam_data.specs.Prefixes.{prefix_rules}
use Rattle.ipam_data.specs.Claims.{most_items, no_space, served, claim, wanted_length, told_of_block, lengths_of, claimed_prefixes}
use Rattle.ipam_data.proofs.Verdicts.{none_head, none_left, none_right, none_broken, test_holds}
use Rattle.register_tables.specs.declared.planned.Planned.{Planned}
use Rattle.register_tables.specs.declared.planned.Planned.TheVariants.{Refused, Read, Change}
use Rattle.register_tables.specs.Planned.{IsPlanned}
use Rattle.register_tables.proofs.Firsts.{head_refuses, head_passes}
use Rattle.register_claims.specs.Claimed.{claimed_prefix}

-- ---- the row of an id

module _ {T : Type 0} (rules : KindRules T) (s : State) (n : ℕ) (plan : T → Plan) where
  -- what is planned of a row that is there
  pub found_planned : (row : T) (p : Result Planned AllocError) → row_at rules.id (rules.row_list s).rows n ≡ Some row → IfOk p (λ q. IsPlanned (plan row) q) → IfOk p (λ q. IsPlanned (with_row_at rules s n plan) q)
  found_planned row p e h = subst (λ (found : Option T). IfOk p (λ q. IsPlanned (with_found rules n plan found) q)) (sym e) h

  -- where there is none, that it is not there
  pub missing_planned : row_at rules.id (rules.row_list s).rows n ≡ None → IsPlanned (with_row_at rules s n plan) (Refused (NotFound rules.kind n))
  missing_planned e = subst (λ (found : Option T). IsPlanned (with_found rules n plan found) (Refused (NotFound rules.kind n))) (sym e) refl

-- ---- the checks of a claim

no_more : (wanted : ℕ) → wanted ≤ most_items → too_many Claims most_items wanted ≡ None
no_more wanted h = (let t : nat_le wanted most_items ≡ true = grind (arith, nat_tests) in ap (λ (u : Bool). if u then None else Some (Limit Claims most_items)) t)

pub few_items : (wanted : ℕ) → too_many Claims most_items wanted ≡ None → wanted ≤ most_items
few_items wanted e = go (nat_le wanted most_items) refl e
  where
    go : (t : Bool) → nat_le wanted most_items ≡ t → (if t then None else Some (Limit Claims most_items)) ≡ None → wanted ≤ most_items
    go true t e = grind (arith, nat_tests, t)
    go false t e = cc

room_for_all : (wanted got : ℕ) → got ≡ wanted → no_space wanted got ≡ None
room_for_all wanted got e = (let t : nat_lt got wanted ≡ false = grind (arith, nat_tests) in ap (λ (u : Bool). if u then Some (NoSpace got) else None) t)

pub served_accepted : (answered : Answered) (views : List View) → is_accepted (served answered views) ≡ true
served_accepted AsOne [] = refl
served_accepted AsOne (view ∷ views) = refl
served_accepted AsList views = refl

module _ {T : Type 0} (rules : KindRules T) (s : State) (answered : Answered) where
  -- a claim is refused by what is told of its items
  pub claim_told : (told : List (Option Refusal)) (wanted : ℕ) (rows : List T) (refusal : Refusal) → first (too_many Claims most_items wanted ∷ told) ≡ Some refusal
      → verdict_of (claim rules s told wanted answered rows) ≡ Some refusal
  claim_told told wanted rows refusal e = head_refuses (too_many Claims most_items wanted ∷ told) (no_space wanted (length rows) ∷ no_place rules s wanted) refusal e

  past_told : (told : List (Option Refusal)) (wanted : ℕ) (rows : List T) → first (too_many Claims most_items wanted ∷ told) ≡ None
      → verdict_of (claim rules s told wanted answered rows) ≡ first (no_space wanted (length rows) ∷ no_place rules s wanted)
  past_told told wanted rows e = head_passes (too_many Claims most_items wanted ∷ told) (no_space wanted (length rows) ∷ no_place rules s wanted) e

  -- or for want of space, by the first item that gets nothing
  pub claim_short : (told : List (Option Refusal)) (wanted got : ℕ) (rows : List T) → first (too_many Claims most_items wanted ∷ told) ≡ None → length rows ≡ got → got < wanted
      → verdict_of (claim rules s told wanted answered rows) ≡ Some (NoSpace got)
  claim_short told wanted got rows e l h =
      let t : nat_lt (length rows) wanted ≡ true = grind (arith, nat_tests) in
      past_told told wanted rows e
      ∙ ap (λ (u : Bool). first ((if u then Some (NoSpace (length rows)) else None) ∷ no_place rules s wanted)) t
      ∙ ap (λ (n : ℕ). Some (NoSpace n)) l

  -- or by what is left of rows, ids and log items
  pub claim_placed : (told : List (Option Refusal)) (wanted : ℕ) (rows : List T) → first (too_many Claims most_items wanted ∷ told) ≡ None → length rows ≡ wanted
      → verdict_of (claim rules s told wanted answered rows) ≡ first (no_place rules s wanted)
  claim_placed told wanted rows e l =
      past_told told wanted rows e ∙ ap (λ (o : Option Refusal). first (o ∷ no_place rules s wanted)) (room_for_all wanted (length rows) l)

  pub untold_placed : (wanted : ℕ) (rows : List T) → wanted ≤ most_items → length rows ≡ wanted → verdict_of (claim rules s [] wanted answered rows) ≡ first (no_place rules s wanted)
  untold_placed wanted rows h l = claim_placed [] wanted rows (ap (λ (o : Option Refusal). first (o ∷ [])) (no_more wanted h)) l

  -- a claim of which nothing is told is planned without it
  known : (told : List (Option Refusal)) (wanted : ℕ) (rows : List T) (q : Planned) → first (too_many Claims most_items wanted ∷ told) ≡ None → length rows ≡ wanted
      → IsPlanned (claim rules s [] wanted answered rows) q → IsPlanned (claim rules s told wanted answered rows) q
  known told wanted rows q e l h = go q h
    where
      same : verdict_of (claim rules s told wanted answered rows) ≡ verdict_of (claim rules s [] wanted answered rows)
      same = claim_placed told wanted rows e l
          ∙ sym (claim_placed [] wanted rows (ap (λ (o : Option Refusal). first (o ∷ [])) (none_head (too_many Claims most_items wanted) told e)) l)

      go : (q : Planned) → IsPlanned (claim rules s [] wanted answered rows) q → IsPlanned (claim rules s told wanted answered rows) q
      go (Refused refusal) h = same ∙ h
      go (Read reply) h = record { verdict = same ∙ h.verdict; idle = h.idle; says = h.says; plain = h.plain }
      go (Change update reply) h = record { verdict = same ∙ h.verdict; does = h.does; says = h.says; accepted = h.accepted }

  pub claim_known : (told : List (Option Refusal)) (wanted : ℕ) (rows : List T) (p : Result Planned AllocError) → first (too_many Claims most_items wanted ∷ told) ≡ None → length rows ≡ wanted
      → IfOk p (λ q. IsPlanned (claim rules s [] wanted answered rows) q) → IfOk p (λ q. IsPlanned (claim rules s told wanted answered rows) q)
  claim_known told wanted rows (Ok q) e l h = known told wanted rows q e l h
  claim_known told wanted rows (Err f) e l h = h

  pub short_planned : (told : List (Option Refusal)) (wanted got : ℕ) (rows : List T) (p : Result Planned AllocError) → first (too_many Claims most_items wanted ∷ told) ≡ None → length rows ≡ got
      → IfOk p (λ q. (q ≡ Refused (NoSpace got)) × (got < wanted)) → IfOk p (λ q. IsPlanned (claim rules s told wanted answered rows) q)
  short_planned told wanted got rows (Ok q) e l h =
      subst (λ (x : Planned). IsPlanned (claim rules s told wanted answered rows) x) (sym h.0) (claim_short told wanted got rows e l h.1)
  short_planned told wanted got rows (Err f) e l h = h

  -- what is done where no check refuses
  pub rows_planned : (wanted next : ℕ) (kind : Kind) (rows : List T) (puts : List View) (reply : Reply) (p : Result Planned AllocError) → wanted ≤ most_items → length rows ≡ wanted
      → first (no_place rules s wanted) ≡ None → puts ≡ map rules.view rows → reply ≡ served answered (map rules.view rows) → kind ≡ rules.kind → next ≡ (rules.row_list s).next + wanted
      → IfOk p (λ q. q ≡ Change (record { puts = puts; cuts = []; next = (kind, next) ∷ []; spent = wanted }) reply)
      → IfOk p (λ q. IsPlanned (claim rules s [] wanted answered rows) q)
  rows_planned wanted next kind rows puts reply (Ok q) h l v f r k n e =
      subst (λ (x : Planned). IsPlanned (claim rules s [] wanted answered rows) x) (sym e) (record {
        verdict = untold_placed wanted rows h l ∙ v;
        does = rw (f, k, n) refl;
        says = sym r;
        accepted = ap is_accepted r ∙ served_accepted answered (map rules.view rows);
      })
  rows_planned wanted next kind rows puts reply (Err x) h l v f r k n e = e

-- ---- the items of a claim of blocks

pub fit_inside : (s : State) (row : Prefix) (items : List BlockItem) → first (flat_map (told_of_block s row) items) ≡ None → FitInside row.block (lengths_of items)
fit_inside s row [] e = tt
fit_inside s row (item ∷ items) e =
    let told = none_left (told_of_block s row item) (flat_map (told_of_block s row) items) e in
    let length_breaks = none_head (breaks (wanted_length row item.len)) (breaks (no_such Roles (row_at role_id s.roles.rows) item.role) ∷ []) told in
    let tests = test_holds (nat_lt row.block.len item.len && nat_le item.len (width_of row.block.family)) WantedLength (none_broken (wanted_length row item.len) length_breaks) in
    let parts = both (nat_lt row.block.len item.len) (nat_le item.len (width_of row.block.family)) tests in
    let longer : row.block.len < item.len = (let t = parts.0 in grind (arith, nat_tests)) in
    let short : item.len ≤ width_of row.block.family = (let t = parts.1 in grind (arith, nat_tests)) in
    ((longer, short), fit_inside s row items (none_right (told_of_block s row item) (flat_map (told_of_block s row) items) e))

-- ---- the rows of a claim of blocks

pub claimed_length : (row : Prefix) (next : ℕ) (items : List BlockItem) (blocks : List Cidr) → length blocks ≤ length items → length (claimed_prefixes row next items blocks) ≡ length blocks
claimed_length row next [] [] h = refl
claimed_length row next [] (block ∷ blocks) h = absurd (omega arith)
claimed_length row next (item ∷ items) [] h = refl
claimed_length row next (item ∷ items) (block ∷ blocks) h = ap (λ (n : ℕ). suc n) (claimed_length row (next + 1) items blocks (omega arith))

more : (row : Prefix) (next i id : ℕ) (items : List BlockItem) (blocks : List Cidr) (item : BlockItem) (block : Cidr) → i < length items → i < length blocks → id ≡ next + i → item ≡ get_or items i item → block ≡ get_or blocks i block
    → claimed_prefixes row next (take (suc i) items) blocks ≡ claimed_prefixes row next (take i items) blocks ++ claimed_prefix row id item block ∷ []
more row next i id [] blocks item block h k n e f = absurd (omega arith)
more row next i id (x ∷ xs) [] item block h k n e f = absurd (omega arith)
more row next zero id (x ∷ xs) (b ∷ bs) item block h k n e f =
    let same : next ≡ id = omega (arith, n) in
    ap (λ (m : ℕ). claimed_prefix row m x b ∷ []) same ∙ ap (λ (y : BlockItem). claimed_prefix row id y b ∷ []) (sym e) ∙ ap (λ (c : Cidr). claimed_prefix row id item c ∷ []) (sym f)
more row next (suc i) id (x ∷ xs) (b ∷ bs) item block h k n e f =
    ap (λ (rows : List Prefix). claimed_prefix row next x b ∷ rows) (more row (next + 1) i id xs bs item block (omega arith) (omega arith) (omega (arith, n)) e f)

-- the rows of one item more
pub views_more : (row : Prefix) (next i id : ℕ) (items : List BlockItem) (blocks : List Cidr) (item : BlockItem) (block : Cidr) (old new : List View) (view : View)
    → i < length items → length blocks ≡ length items → id ≡ next + i → item ≡ get_or items i item → block ≡ get_or blocks i block
    → old ≡ map prefix_rules.view (claimed_prefixes row next (take i items) blocks) → view ≡ prefix_rules.view (claimed_prefix row id item block) → new ≡ old ++ view ∷ []
    → new ≡ map prefix_rules.view (claimed_prefixes row next (take (i + 1) items) blocks)
views_more row next i id items blocks item block old new view h k n e f o v w =
    w ∙ ap (λ (views : List View). views ++ view ∷ []) o
    ∙ ap (λ (y : View). map prefix_rules.view (claimed_prefixes row next (take i items) blocks) ++ y ∷ []) v
    ∙ sym (map-append prefix_rules.view (claimed_prefixes row next (take i items) blocks) (claimed_prefix row id item block ∷ []))
    ∙ ap (λ (rows : List Prefix). map prefix_rules.view rows) (sym (more row next i id items blocks item block h (omega (arith, k)) n e f))
    ∙ rw add-one refl

-- ---- a claim of blocks

module _ (s : State) (row : Prefix) (answered : Answered) (items : List BlockItem) where
  -- each item got a block, beside a state that stayed
  pub blocks_planned : (t : State) (fits blocks : List Cidr) (p : Result Planned AllocError) → t ≡ s → blocks ≡ fits → length blocks ≡ length items
      → first (too_many Claims most_items (length items) ∷ flat_map (told_of_block s row) items) ≡ None
      → IfOk p (λ q. IsPlanned (claim prefix_rules t [] (length items) answered (claimed_prefixes row t.prefixes.next items blocks)) q)
      → IfOk p (λ q. IsPlanned (claim prefix_rules s (flat_map (told_of_block s row) items) (length items) answered (claimed_prefixes row s.prefixes.next items fits)) q)
  blocks_planned t fits blocks p same found each e h =
      let all : length fits ≡ length items = sym (ap length found) ∙ each in
      claim_known prefix_rules s answered (flat_map (told_of_block s row) items) (length items) (claimed_prefixes row s.prefixes.next items fits) p e
      (claimed_length row s.prefixes.next items fits (omega (arith, all)) ∙ all)
      (subst (λ (bs : List Cidr). IfOk p (λ q. IsPlanned (claim prefix_rules s [] (length items) answered (claimed_prefixes row s.prefixes.next items bs)) q)) found
      (subst (λ (u : State). IfOk p (λ q. IsPlanned (claim prefix_rules u [] (length items) answered (claimed_prefixes row u.prefixes.next items blocks)) q)) same h))

  -- the first items alone got one
  pub short_of_blocks : (fits : List Cidr) (p : Result Planned AllocError) → first (too_many Claims most_items (length items) ∷ flat_map (told_of_block s row) items) ≡ None
      → IfOk p (λ q. (q ≡ Refused (NoSpace (length fits))) × (length fits < length items))
      → IfOk p (λ q. IsPlanned (claim prefix_rules s (flat_map (told_of_block s row) items) (length items) answered (claimed_prefixes row s.prefixes.next items fits)) q)
  short_of_blocks fits (Ok q) e h =
      let less = h.1 in
      short_planned prefix_rules s answered (flat_map (told_of_block s row) items) (length items) (length fits) (claimed_prefixes row s.prefixes.next items fits) (Ok q) e
      (claimed_length row s.prefixes.next items fits (omega (arith, less))) h
  short_of_blocks fits (Err f) e h = h

-- ---- what is answered

pub first_served : (views : List View) (view : View) → 0 < length views → view ≡ get_or views 0 view → Made view ≡ served AsOne views
first_served [] view h e = absurd (omega arith)
first_served (x ∷ xs) view h e = ap Made e

pub none_served : (views : List View) → length views ≡ 0 → MadeMany views ≡ served AsOne views
none_served [] e = refl
none_served (x ∷ xs) e = absurd (omega arith)
