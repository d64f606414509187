-- An accepted claim of blocks gets the least that are free, item by item, and each row has what its item says.
use Rattle.std.proofs.Common.{◌&&◌, ◌++◌, ◌+◌, ◌<◌, ◌∷◌, ◌≡◌, ◌≤◌, Contains, IsSome, List, None, Option, Some, [], ap, append-nil, arith, inl, inr, length, map, nat_le, nat_lt, refl, subst, suc, sym, true, zero, ℕ}
use Rattle.std.proofs.lemmas.Bool.Decides.{nat_tests}
use Rattle.std.specs.List.{flat_map}
use Rattle.inet_num.proofs.Insides.{both}
use Rattle.inet_num.specs.Net.{Cidr, IsBlock, width_of}
use Rattle.block_space.specs.Fit.{fits_of}
use Rattle.ipam_data.specs.Checks.{first, breaks, no_such, too_many}
use Rattle.ipam_data.specs.Claims.{child_blocks, claim_blocks_of, claimed_prefixes, lengths_of, most_items, no_space, served, told_of_block, wanted_length}
use Rattle.ipam_data.specs.Lawful.{IsLawful}
use Rattle.ipam_data.specs.Plans.{no_place}
use Rattle.ipam_data.specs.Prefixes.{prefix_rules, view_of}
use Rattle.ipam_data.specs.Replays.{is_accepted}
use Rattle.ipam_data.specs.RowList.{row_at}
use Rattle.ipam_data.specs.Rows.{prefix_id, role_id}
use Rattle.ipam_data.specs.State.{Plan, State}
use Rattle.ipam_data.specs.Steps.{plain_step}
use Rattle.ipam_data.specs.Updates.{answered, figured, outcome, updated}
use Rattle.ipam_data.specs.declared.calls.Answered.{Answered}
use Rattle.ipam_data.specs.declared.calls.Answered.TheVariants.{AsList, AsOne}
use Rattle.ipam_data.specs.declared.calls.BlockItem.{BlockItem}
use Rattle.ipam_data.specs.declared.calls.Call.TheVariants.{ClaimBlocks}
use Rattle.ipam_data.specs.declared.kinds.Kind.TheVariants.{Roles}
use Rattle.ipam_data.specs.declared.prefix.Prefix.{Prefix}
use Rattle.ipam_data.specs.declared.replies.Refusal.{Refusal}
use Rattle.ipam_data.specs.declared.replies.Reply.{Reply}
use Rattle.ipam_data.specs.declared.replies.Reply.TheVariants.{MadeMany}
use Rattle.ipam_data.specs.declared.replies.Rule.TheVariants.{WantedLength}
use Rattle.ipam_data.specs.declared.replies.View.{View}
use Rattle.ipam_data.specs.declared.replies.Which.TheVariants.{Claims}
use Rattle.ipam_data.proofs.ClaimLaws.{enough, there_none}
use Rattle.ipam_data.proofs.Kept.{found_there}
use Rattle.ipam_data.proofs.RowLists.{contains_cases, contains_head, contains_rest}
use Rattle.ipam_data.proofs.Ties.{prefixes_tied}
use Rattle.ipam_data.proofs.Verdicts.{none_broken, none_head, none_left, none_rest, none_right, test_holds, there_from}
use Rattle.claim_laws.specs.Claims.{AreBlocksFor, AreLeastBlocks, GotBlocks, IsBlockFor}
use Rattle.claim_laws.proofs.Came.{accepted_done, came, claimed_rows, found_plan}
use Rattle.claim_laws.proofs.FreeBlocks.{found, AreAlike, AreBlocks, AreLonger, found_least}
use Rattle.claim_laws.proofs.Lemmas.{claimed_length, fits_length, lengths_length, prefixes_follow, row_of}
use Rattle.claim_laws.proofs.Lists.{none_both}

-- ---- the checks of items

-- no check refuses the item
pub record IsAllowed (s : State) (p : Prefix) (item : BlockItem) : Type 0 where
  pub longer : p.block.len < item.len
  pub short : item.len ≤ width_of p.block.family
  pub role : (n : ℕ) → item.role ≡ Some n → IsSome (row_at role_id s.roles.rows n)

allowed_from : (s : State) (p : Prefix) (item : BlockItem) → first (told_of_block s p item) ≡ None → IsAllowed s p item
allowed_from s p item e =
    let wanted = none_broken (wanted_length p item.len) (none_head (breaks (wanted_length p item.len)) (breaks (no_such Roles (row_at role_id s.roles.rows) item.role) ∷ []) e) in
    let role = none_broken (no_such Roles (row_at role_id s.roles.rows) item.role) (none_head (breaks (no_such Roles (row_at role_id s.roles.rows) item.role)) [] (none_rest (breaks (wanted_length p item.len)) (breaks (no_such Roles (row_at role_id s.roles.rows) item.role) ∷ []) e)) in
    let fits = both (nat_lt p.block.len item.len) (nat_le item.len (width_of p.block.family)) (test_holds (nat_lt p.block.len item.len && nat_le item.len (width_of p.block.family)) WantedLength wanted) in
    let above = fits.0 in
    let below = fits.1 in
    record { longer = grind (arith, nat_tests); short = grind (arith, nat_tests); role = there_from Roles (row_at role_id s.roles.rows) item.role role }

allowed_told : (s : State) (p : Prefix) (item : BlockItem) → IsAllowed s p item → first (told_of_block s p item) ≡ None
allowed_told s p item h =
    let longer = h.longer in
    let short = h.short in
    let one : nat_lt p.block.len item.len ≡ true = grind (arith, nat_tests) in
    let two : nat_le item.len (width_of p.block.family) ≡ true = grind (arith, nat_tests) in
    let none = there_none Roles (row_at role_id s.roles.rows) item.role h.role in
    rw (one, two, none) refl

pub all_allowed : (s : State) (p : Prefix) (items : List BlockItem) → first (flat_map (told_of_block s p) items) ≡ None → (item : BlockItem) → Contains items item → IsAllowed s p item
all_allowed s p [] e item c = let l = c.1 in absurd (omega arith)
all_allowed s p (one ∷ items) e item c = elim (contains_cases one item items c) [
  | inl q ↦ subst (IsAllowed s p) q (allowed_from s p one (none_left (told_of_block s p one) (flat_map (told_of_block s p) items) e))
  | inr d ↦ all_allowed s p items (none_right (told_of_block s p one) (flat_map (told_of_block s p) items) e) item d
]

pub all_told : (s : State) (p : Prefix) (items : List BlockItem) → ((item : BlockItem) → Contains items item → IsAllowed s p item) → first (flat_map (told_of_block s p) items) ≡ None
all_told s p [] h = refl
all_told s p (one ∷ items) h =
    none_both (told_of_block s p one) (flat_map (told_of_block s p) items) (allowed_told s p one (h one (contains_head one items))) (all_told s p items (λ item c. h item (contains_rest one item items c)))

pub all_longer : (s : State) (p : Prefix) (hp : IsBlock p.block) (all : AreBlocks s) (items : List BlockItem) → ((item : BlockItem) → Contains items item → IsAllowed s p item) → AreLonger s p hp all items
all_longer s p hp all [] h = tt
all_longer s p hp all (one ∷ items) h = (
  (let a = h one (contains_head one items) in (a.longer, a.short)),
  all_longer s p hp all items (λ item c. h item (contains_rest one item items c)),
)

-- ---- the rows

claimed_blocks : (p : Prefix) (next : ℕ) (items : List BlockItem) (blocks : List Cidr) → length blocks ≤ length items → map (λ x. x.block) (claimed_prefixes p next items blocks) ≡ blocks
claimed_blocks p next [] [] l = refl
claimed_blocks p next [] (b ∷ blocks) l = absurd (omega arith)
claimed_blocks p next (item ∷ items) [] l = refl
claimed_blocks p next (item ∷ items) (b ∷ blocks) l = ap (λ (bs : List Cidr). b ∷ bs) (claimed_blocks p (next + 1) items blocks (omega arith))

each_says : (p : Prefix) (next : ℕ) (items : List BlockItem) (blocks : List Cidr) → AreBlocksFor p.vrf items (claimed_prefixes p next items blocks)
each_says p next [] blocks k item x q r = cc
each_says p next (one ∷ items) [] k item x q r = cc
each_says p next (one ∷ items) (b ∷ blocks) zero item x q r =
    let e : row_of p next one b ≡ x = cc in
    let its : one ≡ item = cc in
    subst (λ (y : Prefix). IsBlockFor p.vrf item y) e
    (subst (λ (i : BlockItem). IsBlockFor p.vrf i (row_of p next one b)) its (record { table = refl; status = refl; role = refl; pool = refl; utilized = refl; description = refl }))
each_says p next (one ∷ items) (b ∷ blocks) (suc k) item x q r = each_says p (next + 1) items blocks k item x q r

-- a prefix is answered with its figures
figured_so : (s : State) (rows : List Prefix) → map (figured s) (map prefix_rules.view rows) ≡ map (view_of s.prefixes.rows) rows
figured_so s [] = refl
figured_so s (row ∷ rows) = ap (λ (views : List View). view_of s.prefixes.rows row ∷ views) (figured_so s rows)

answered_so : (s : State) (form : Answered) (rows : List Prefix) → answered s (served form (map prefix_rules.view rows)) ≡ served form (map (view_of s.prefixes.rows) rows)
answered_so s AsOne [] = refl
answered_so s AsOne (row ∷ rows) = refl
answered_so s AsList rows = ap MadeMany (figured_so s rows)

-- ---- the claim

module _ (s : State) (items : List BlockItem) (p : Prefix) (hp : IsBlock p.block) (all : AreBlocks s) where
  abbrev pub fitting : List Cidr
  fitting = fits_of p.block (child_blocks s.prefixes.rows p) (lengths_of items)

  pub none_alike : AreAlike s p hp all []
  none_alike c k = let l = k.1 in absurd (omega arith)

  pub found_is : found s p hp all [] items ≡ fitting
  found_is = ap (λ (bs : List Cidr). fits_of p.block bs (lengths_of items)) (append-nil (child_blocks s.prefixes.rows p))

  pub fitting_least : AreLonger s p hp all items → AreLeastBlocks s p items fitting
  fitting_least longer = subst (AreLeastBlocks s p items) found_is (λ k item b q r. found_least s p hp all items [] k item b longer none_alike q r)

module _ (s : State) (form : Answered) (items : List BlockItem) (p : Prefix) (hp : IsBlock p.block) (all : AreBlocks s) where
  abbrev plan : Plan
  plan = claim_blocks_of s form items p

  abbrev rows : List Prefix
  rows = claimed_prefixes p s.prefixes.next items (fitting s items p hp all)

  claimed : (done : State × Reply) → IsLawful s → outcome s plan ≡ done → is_accepted done.1 ≡ true → GotBlocks s p form items done
  claimed done h q a =
      let d = accepted_done s plan done q a in
      let told : List (Option Refusal) = flat_map (told_of_block s p) items in
      let few : Option Refusal = too_many Claims most_items (length items) in
      let space : Option Refusal = no_space (length items) (length rows) in
      let place : List (Option Refusal) = no_place prefix_rules s (length items) in
      let front = none_rest few told (none_left (few ∷ told) (space ∷ place) d.verdict) in
      let enough = enough (length items) (length rows) (none_head space place (none_right (few ∷ told) (space ∷ place) d.verdict)) in
      let at_most = fits_length p.block (lengths_of items) (child_blocks s.prefixes.rows p) in
      let lens = lengths_length items in
      let is = claimed_length p s.prefixes.next items (fitting s items p hp all) (omega arith) in
      let many : length rows ≡ length items = omega arith in
      let follow = prefixes_follow p s.prefixes.next items (fitting s items p hp all) in
      let below = h.prefixes.row_list.below in
      let after : State = updated s plan.update in
      let behind : after.prefixes.rows ≡ s.prefixes.rows ++ rows = claimed_rows prefix_rules prefixes_tied (λ t n. refl) s told (length items) form rows below follow in
      let longer = all_longer s p hp all items (all_allowed s p items front) in
      let blocks : map (λ (x : Prefix). x.block) rows ≡ fitting s items p hp all = claimed_blocks p s.prefixes.next items (fitting s items p hp all) (omega arith) in
      subst (λ (d : State × Reply). GotBlocks s p form items d) (sym d.is) (record {
        rows = rows;
        came = came prefix_rules prefixes_tied (λ t n. refl) s (after, answered after plan.reply) form (length items) (view_of after.prefixes.rows) rows below follow many behind (answered_so after form rows);
        least = subst (AreLeastBlocks s p items) (sym blocks) (fitting_least s items p hp all longer);
        each = each_says p s.prefixes.next items (fitting s items p hp all);
      })

pub lawful_blocks : (s : State) → IsLawful s → AreBlocks s
lawful_blocks s h q c = (h.prefixes.each q c).bounds.block

pub of_blocks : (s : State) (n : ℕ) (form : Answered) (items : List BlockItem) (done : State × Reply) → IsLawful s → plain_step s (ClaimBlocks n form items) ≡ done → is_accepted done.1 ≡ true
    → (p : Prefix) × (row_at prefix_id s.prefixes.rows n ≡ Some p) × GotBlocks s p form items done
of_blocks s n form items done h q a =
    let f = found_plan prefix_rules s n (claim_blocks_of s form items) (row_at prefix_id s.prefixes.rows n) done q a in
    (f.0, f.1, claimed s form items f.0 (lawful_blocks s h f.0 (found_there prefix_id s.prefixes.rows n f.0 f.1).0) (lawful_blocks s h) done h f.2 a)
