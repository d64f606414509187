-- A claim leaves a lawful state: each item gets a place that is free beside the rows of its table, so no row stands there.
use Rattle.std.proofs.Common.{◌≡◌, ℕ, suc, Contains, ◌+◌, ◌-◌, ◌<◌, ◌≤◌, ◌==◌, ◌&&◌, ◌||◌, Bool, true, false, cond, not, nat_lt, nat_le, List, [], ◌∷◌, ◌++◌, length, map, fold, filter, find, Option, Some, None, IsSome, is_some, refl, ap, sym, ◌∙◌, subst, arith, if◌then◌else◌}
use Rattle.std.specs.List.{flat_map, AllByRecursion}
use Rattle.std.proofs.lemmas.Bool.Decides.{nat_tests}
use Rattle.std.proofs.lemmas.Nat.{pow_pos}
use Rattle.std.proofs.lemmas.List.{map-append, length-append}
use Rattle.std.proofs.lemmas.List.Elements.{filter-append}
use Rattle.inet_num.specs.Net.{width_of, Cidr, IsBlock, size_of, last_of}
use Rattle.inet_num.specs.Free.{has_address as holds, is_taken}
use Rattle.inet_num.proofs.Numbers.{ends_of_inside, same_block as one_block}
use Rattle.block_space.specs.Fit.{Fits, IsFirstFit, first_fit_of, fits_of, onto_next}
use Rattle.block_space.proofs.FirstFits.{found, fits_none, fits_some}
use Rattle.ipam_data.specs.declared.calls.Answered.{Answered}
use Rattle.ipam_data.specs.declared.calls.BlockItem.{BlockItem}
use Rattle.ipam_data.specs.declared.prefix.Prefix.{Prefix}
use Rattle.ipam_data.specs.declared.kinds.Kind.{Kind}
use Rattle.ipam_data.specs.declared.kinds.Kind.TheVariants.{Vrfs, Roles}
use Rattle.ipam_data.specs.declared.replies.Rule.TheVariants.{NoSuch, WantedLength}
use Rattle.ipam_data.specs.declared.replies.Refusal.{Refusal}
use Rattle.ipam_data.specs.declared.replies.Refusal.TheVariants.{NoSpace}
use Rattle.ipam_data.specs.declared.replies.Which.TheVariants.{Claims}
use Rattle.ipam_data.specs.Texts.{IsDescription}
use Rattle.ipam_data.specs.Rows.{vrf_id, role_id, prefix_id, most_prefixes}
use Rattle.ipam_data.specs.Tables.{table_of, same_table, is_enforcing}
use Rattle.inet_num.specs.Blocks.{same_family, same_block, is_strictly_inside}
use Rattle.ipam_data.specs.RowList.{row_at, with_row, appended, last_next}
use Rattle.ipam_data.specs.Checks.{first, most_spent, no_such, too_many, breaks}
use Rattle.ipam_data.specs.State.{State, verdict_of}
use Rattle.ipam_data.specs.Updates.{updated, with_view, with_next, with_spent, outcome}
use Rattle.ipam_data.specs.Plans.{KindRules, no_place, with_found}
use Rattle.ipam_data.specs.Prefixes.{zero_mask, duplicate, coincides, in_one_table, prefix_fault, prefix_rules}
use Rattle.ipam_data.specs.Claims.{sees_all, is_child_prefix, child_blocks, claimed_prefixes, lengths_of, wanted_length, told_of_block, no_space, most_items, HasBlockItemBounds, claim, claim_blocks_of, claim_blocks_plan}
use Rattle.ipam_data.specs.Lawful.{IsLawful}
use Rattle.ipam_data.proofs.RowLists.{row_list-appended, with_row_above}
use Rattle.ipam_data.proofs.Kept.{none_above, found_there}
use Rattle.ipam_data.proofs.Verdicts.{none_head, none_rest, none_left, none_right, none_broken, there_from, test_holds}
use Rattle.ipam_data.proofs.Ties.{IsTied, prefixes_tied, add_all, all_created, added_spent}
use Rattle.ipam_data.proofs.Sound.{outcome_keeps, spent_keeps, place_from}
use Rattle.ipam_data.proofs.PrefixLaws.{prefixes_sound}
use Rattle.inet_num.proofs.Insides.{both, one_family, same_family-refl}
use Rattle.ipam_data.proofs.Decided.{same_table-refl}

-- ---- a reference to a row that is there

pub there_none : {T : Type 0} (kind : Kind) (at : ℕ → Option T) (named : Option ℕ) → ((n : ℕ) → named ≡ Some n → IsSome (at n)) → no_such kind at named ≡ None
there_none {T} kind at None h = refl
there_none {T} kind at (Some n) h = go (at n) (h n refl) where
  go : (o : Option T) → IsSome o → (if is_some o then None else Some (NoSuch kind n)) ≡ None
  go None k = cc
  go (Some x) k = refl

-- ---- the row of a claimed block

-- a block that fits in a prefix's block and is longer lies strictly inside
fit_inside : (w : Cidr) (blocks : List Cidr) (len : ℕ) (b : Cidr) → w.len < len → Fits w blocks len w.first b → is_strictly_inside b w ≡ true
fit_inside w blocks len b longer h =
    let ends = ends_of_inside b w h.inside in
    let len_is = h.len_is in
    let low = ends.0 in
    let high = ends.1 in
    let some = pow_pos (width_of b.family - b.len) in
    let family : same_family b.family w.family ≡ true = rw h.inside.family (same_family-refl w.family) in
    let one : nat_lt w.len b.len ≡ true = grind (arith, nat_tests) in
    let two : nat_le w.first b.first ≡ true = grind (arith, nat_tests) in
    let three : nat_le (last_of b).value (last_of w).value ≡ true = (let le : b.first + size_of b - 1 ≤ w.first + size_of w - 1 = omega arith in grind (arith, nat_tests)) in
    rw (family, one, two, three) refl

one_of : (x y : Cidr) → same_block x y ≡ true → x ≡ y
one_of x y e =
    let h = both (same_family x.family y.family && x.first == y.first) (x.len == y.len) e in
    let k = both (same_family x.family y.family) (x.first == y.first) h.0 in
    let first = k.1 in
    let len = h.1 in
    one_block x y (one_family x.family y.family k.0) (grind (arith, nat_tests)) (grind (arith, nat_tests))

first_held : (b : Cidr) → holds b b.first ≡ true
first_held b = (let some = pow_pos (width_of b.family - b.len) in grind (arith, nat_tests))

-- where the first address of a block is free beside the child prefixes, no row of the prefix's table has the block
none_there : (p row : Prefix) (rows : List Prefix) → row.vrf ≡ p.vrf → is_strictly_inside row.block p.block ≡ true → is_taken (child_blocks rows p) row.block.first ≡ false → find (coincides row) rows ≡ None
none_there p row [] same inside free = refl
none_there p row (y ∷ ys) same inside free = go (coincides row y) refl (is_child_prefix p y) refl free (none_there p row ys same inside) where
  go : (t : Bool) → coincides row y ≡ t → (u : Bool) → is_child_prefix p y ≡ u
      → is_taken (map (λ r. r.block) (cond u (y ∷ filter (is_child_prefix p) ys) (filter (is_child_prefix p) ys))) row.block.first ≡ false
      → (is_taken (child_blocks ys p) row.block.first ≡ false → find (coincides row) ys ≡ None)
      → cond t (Some y) (find (coincides row) ys) ≡ None
  go false e true c f later = later (rest (holds y.block row.block.first) f) where
    rest : (h : Bool) → (h || is_taken (child_blocks ys p) row.block.first) ≡ false → is_taken (child_blocks ys p) row.block.first ≡ false
    rest true k = cc
    rest false k = k
  go false e false c f later = later f
  go true e u c f later =
      let parts = both (not (y.id == row.id) && in_one_table row y) (same_block y.block row.block) e in
      let more = both (not (y.id == row.id)) (in_one_table row y) parts.0 in
      let is = one_of y.block row.block parts.1 in
      let table : in_one_table p y ≡ true = subst (λ (v : Option ℕ). same_table (table_of y.vrf) (table_of v) ≡ true) same more.1 in
      let strict : is_strictly_inside y.block p.block ≡ true = subst (λ (b : Cidr). is_strictly_inside b p.block ≡ true) (sym is) inside in
      let counts : is_child_prefix p y ≡ true = ap (λ (t : Bool). (sees_all p || t) && is_strictly_inside y.block p.block) table ∙ ap (λ (t : Bool). (sees_all p || true) && t) strict ∙ or_true (sees_all p) in
      let taken : is_taken (y.block ∷ child_blocks ys p) row.block.first ≡ true = (let here : holds y.block row.block.first ≡ true = subst (λ (b : Cidr). holds b row.block.first ≡ true) (sym is) (first_held row.block) in ap (λ (t : Bool). t || is_taken (child_blocks ys p) row.block.first) here) in
      let shown : is_taken (y.block ∷ child_blocks ys p) row.block.first ≡ false = subst (λ (v : Bool). is_taken (map (λ r. r.block) (cond v (y ∷ filter (is_child_prefix p) ys) (filter (is_child_prefix p) ys))) row.block.first ≡ false) (sym c ∙ counts) f in
      (let wrong : true ≡ false = sym taken ∙ shown in cc)
    where
      or_true : (t : Bool) → ((t || true) && true) ≡ true
      or_true true = refl
      or_true false = refl

-- so it breaks no rule
no_fault : (rows : List Prefix) (row : Prefix) (enforcing : Bool) → 1 ≤ row.block.len → find (coincides row) rows ≡ None → prefix_fault rows row enforcing ≡ None
unfolding prefix_fault
no_fault rows row enforcing long none =
    let zero : zero_mask row ≡ None = (let e : (row.block.len == 0) ≡ false = grind (arith, nat_tests) in rw e refl) in
    let alone : duplicate rows row enforcing ≡ None = go enforcing in
    rw (zero, alone) refl
  where
    go : (t : Bool) → duplicate rows row t ≡ None
    go true = rw none refl
    go false = refl

-- ---- and it counts as a child prefix from then on

child_more : (rows : List Prefix) (p row : Prefix) → row.vrf ≡ p.vrf → is_strictly_inside row.block p.block ≡ true → child_blocks (rows ++ row ∷ []) p ≡ child_blocks rows p ++ row.block ∷ []
child_more rows p row same inside =
    let table : in_one_table p row ≡ true = rw same (same_table-refl p.vrf) in
    let counts : is_child_prefix p row ≡ true = ap (λ (t : Bool). (sees_all p || t) && is_strictly_inside row.block p.block) table ∙ ap (λ (t : Bool). (sees_all p || true) && t) inside ∙ or_true (sees_all p) in
    ap (map (λ r. r.block)) (filter-append (is_child_prefix p) rows (row ∷ []) ∙ ap (λ (t : Bool). filter (is_child_prefix p) rows ++ cond t (row ∷ []) []) counts)
    ∙ map-append (λ r. r.block) (filter (is_child_prefix p) rows) (row ∷ [])
  where
    or_true : (t : Bool) → ((t || true) && true) ≡ true
    or_true true = refl
    or_true false = refl

-- ---- item by item

-- an item that nothing is told of, beside the prefix
pub record IsFine (s : State) (p : Prefix) (item : BlockItem) : Type 0 where
  pub longer : p.block.len < item.len
  pub short : item.len ≤ width_of p.block.family
  pub role : (n : ℕ) → item.role ≡ Some n → IsSome (row_at role_id s.roles.rows n)
  pub description : IsDescription item.description

abbrev pub AreFine : State → Prefix → List BlockItem → Type 0
AreFine s p [] = Unit {0}
AreFine s p (item ∷ items) = IsFine s p item × AreFine s p items

-- the prefix that an item gets
abbrev row_of : Prefix → ℕ → BlockItem → Cidr → Prefix
row_of p next item b = record { id = next; block = b; vrf = p.vrf; status = item.status; role = item.role; is_pool = item.is_pool; mark_utilized = item.mark_utilized; description = item.description }

abbrev added : State → Prefix → State
added s row = record s { prefixes = appended prefix_id s.prefixes row }

-- one item that got a block
one_keeps : (s : State) (p : Prefix) (item : BlockItem) (b : Cidr) → IsLawful s → IsFine s p item → ((n : ℕ) → p.vrf ≡ Some n → IsSome (row_at vrf_id s.vrfs.rows n))
    → Fits p.block (child_blocks s.prefixes.rows p) item.len p.block.first b → length s.prefixes.rows + 1 ≤ most_prefixes → s.prefixes.next + 1 ≤ last_next → IsLawful (added s (row_of p s.prefixes.next item b))
one_keeps s p item b h fine vrf fit few ids =
    let row : Prefix = row_of p s.prefixes.next item b in
    let inside = fit_inside p.block (child_blocks s.prefixes.rows p) item.len b fine.longer fit in
    let len_is = fit.len_is in
    let longer = fine.longer in
    let some = pow_pos (width_of b.family - b.len) in
    let alone = none_there p (row_of p s.prefixes.next item b) s.prefixes.rows refl inside (fit.free b.first (omega arith, omega arith)) in
    let fault = no_fault s.prefixes.rows (row_of p s.prefixes.next item b) (is_enforcing s.global_unique s.vrfs.rows (table_of p.vrf)) (omega arith) alone in
    let kept = h.prefixes.row_list in
    let references : first (no_such Vrfs (row_at vrf_id s.vrfs.rows) p.vrf ∷ no_such Roles (row_at role_id s.roles.rows) item.role ∷ []) ≡ None =
    rw (there_none Vrfs (row_at vrf_id s.vrfs.rows) p.vrf vrf, there_none Roles (row_at role_id s.roles.rows) item.role fine.role) refl in
    let faults : first (prefix_fault s.prefixes.rows (row_of p s.prefixes.next item b) (is_enforcing s.global_unique s.vrfs.rows (table_of p.vrf)) ∷ []) ≡ None = rw fault refl in
    prefixes_sound.put s None (row_of p s.prefixes.next item b) (appended prefix_id s.prefixes (row_of p s.prefixes.next item b)) h (record { block = fit.lawful; description = fine.description })
    (none_above prefix_id s.prefixes.next s.prefixes.next s.prefixes.rows kept.below (omega arith)) refl (row_list-appended prefix_id most_prefixes s.prefixes (row_of p s.prefixes.next item b) kept refl few ids) references faults

still_fine : (s : State) (p row : Prefix) (items : List BlockItem) → AreFine s p items → AreFine (added s row) p items
still_fine s p row [] h = tt
still_fine s p row (item ∷ items) h = (record { longer = h.0.longer; short = h.0.short; role = h.0.role; description = h.0.description }, still_fine s p row items h.1)

-- what is owed of some items at a state
abbrev Keeps : Prefix → List BlockItem → State → Type 0
Keeps p items s = IsLawful s → AreFine s p items → ((n : ℕ) → p.vrf ≡ Some n → IsSome (row_at vrf_id s.vrfs.rows n))
    → (blocks : List Cidr) → blocks ≡ fits_of p.block (child_blocks s.prefixes.rows p) (lengths_of items) → length blocks ≡ length items → length s.prefixes.rows + length items ≤ most_prefixes → s.prefixes.next + length items ≤ last_next
    → IsLawful (add_all prefix_rules s (claimed_prefixes p s.prefixes.next items blocks))

next_keeps : (p : Prefix) (item : BlockItem) (items : List BlockItem) (s : State) → IsBlock p.block → ((t : State) → Keeps p items t) → Keeps p (item ∷ items) s
next_keeps p item items s hp ih h fine vrf blocks is all few ids = go (first_fit_of p.block (child_blocks s.prefixes.rows p) item.len p.block.first) refl (found p.block (child_blocks s.prefixes.rows p) item.len p.block.first hp fine.0.short) where
  go : (r : Option Cidr) → first_fit_of p.block (child_blocks s.prefixes.rows p) item.len p.block.first ≡ r → IsFirstFit p.block (child_blocks s.prefixes.rows p) item.len p.block.first r
      → IsLawful (add_all prefix_rules s (claimed_prefixes p s.prefixes.next (item ∷ items) blocks))
  go None e k = (let none = is ∙ fits_none p.block (child_blocks s.prefixes.rows p) item.len (lengths_of items) e in let n = ap length none in absurd (omega arith))
  go (Some b) e k =
      let some = is ∙ fits_some p.block (child_blocks s.prefixes.rows p) item.len (lengths_of items) b e in
      let n = ap length some in
      let kept = one_keeps s p item b h fine.0 vrf k.0 (omega arith) (omega arith) in
      let pushed : with_row prefix_id s.prefixes.rows (row_of p s.prefixes.next item b) ≡ s.prefixes.rows ++ row_of p s.prefixes.next item b ∷ [] = with_row_above prefix_id s.prefixes.rows (row_of p s.prefixes.next item b) h.prefixes.row_list.below in
      let more = ap (λ (rows : List Prefix). child_blocks rows p) pushed ∙ child_more s.prefixes.rows p (row_of p s.prefixes.next item b) refl (fit_inside p.block (child_blocks s.prefixes.rows p) item.len b fine.0.longer k.0) in
      let longer = ap length pushed ∙ length-append s.prefixes.rows (row_of p s.prefixes.next item b ∷ []) in
      let later = ih (added s (row_of p s.prefixes.next item b)) kept (still_fine s p (row_of p s.prefixes.next item b) items fine.1) vrf
      (fits_of p.block (child_blocks s.prefixes.rows p ++ b ∷ []) (lengths_of items)) (ap (λ (bs : List Cidr). fits_of p.block bs (lengths_of items)) (sym more)) (omega arith) (omega arith) (omega arith) in
      subst (λ (bs : List Cidr). IsLawful (add_all prefix_rules s (claimed_prefixes p s.prefixes.next (item ∷ items) bs))) (sym some) later

-- a claim that serves each item leaves a lawful state
pub claim_keeps : (p : Prefix) (items : List BlockItem) (s : State) → IsBlock p.block → Keeps p items s
claim_keeps p [] s hp = λ h fine vrf blocks is all few ids. h
claim_keeps p (item ∷ items) s hp = next_keeps p item items s hp (λ t. claim_keeps p items t hp)

-- ---- from the verdict of the call

fits_length : (w : Cidr) (lens : List ℕ) (blocks : List Cidr) → length (fits_of w blocks lens) ≤ length lens
unfolding fits_of
fits_length w [] blocks = omega arith
fits_length w (len ∷ lens) blocks = go (first_fit_of w blocks len w.first) (λ b. fits_length w lens (blocks ++ b ∷ [])) where
  go : (r : Option Cidr) → ((b : Cidr) → length (fits_of w (blocks ++ b ∷ []) lens) ≤ length lens) → length (onto_next r (λ b. fits_of w (blocks ++ b ∷ []) lens)) ≤ length (len ∷ lens)
  go None h = omega arith
  go (Some b) h = (let n = h b in omega arith)

lengths_length : (items : List BlockItem) → length (lengths_of items) ≡ length items
lengths_length [] = refl
lengths_length (item ∷ items) = ap (λ (n : ℕ). suc n) (lengths_length items)

claimed_length : (p : Prefix) (next : ℕ) (items : List BlockItem) (blocks : List Cidr) → length blocks ≤ length items → length (claimed_prefixes p next items blocks) ≡ length blocks
claimed_length p next [] [] le = refl
claimed_length p next [] (b ∷ blocks) le = absurd (omega arith)
claimed_length p next (item ∷ items) [] le = refl
claimed_length p next (item ∷ items) (b ∷ blocks) le = ap (λ (n : ℕ). suc n) (claimed_length p (next + 1) items blocks (omega arith))

-- nothing is told of an item: it is fine
fine_from : (s : State) (p : Prefix) (item : BlockItem) → IsDescription item.description → first (told_of_block s p item) ≡ None → IsFine s p item
fine_from s p item d e =
    let wanted = none_broken (wanted_length p item.len) (none_head (breaks (wanted_length p item.len)) (breaks (no_such Roles (row_at role_id s.roles.rows) item.role) ∷ []) e) in
    let role = none_broken (no_such Roles (row_at role_id s.roles.rows) item.role) (none_head (breaks (no_such Roles (row_at role_id s.roles.rows) item.role)) [] (none_rest (breaks (wanted_length p item.len)) (breaks (no_such Roles (row_at role_id s.roles.rows) item.role) ∷ []) e)) in
    let fits = both (nat_lt p.block.len item.len) (nat_le item.len (width_of p.block.family)) (test_holds (nat_lt p.block.len item.len && nat_le item.len (width_of p.block.family)) WantedLength wanted) in
    let above = fits.0 in
    let below = fits.1 in
    record { longer = grind (arith, nat_tests); short = grind (arith, nat_tests); role = there_from Roles (row_at role_id s.roles.rows) item.role role; description = d }

all_fine : (s : State) (p : Prefix) (items : List BlockItem) → AllByRecursion HasBlockItemBounds items → first (flat_map (told_of_block s p) items) ≡ None → AreFine s p items
all_fine s p [] d e = tt
all_fine s p (item ∷ items) d e = (fine_from s p item d.0 (none_left (told_of_block s p item) (flat_map (told_of_block s p) items) e), all_fine s p items d.1 (none_right (told_of_block s p item) (flat_map (told_of_block s p) items) e))

-- each item got something
pub enough : (wanted got : ℕ) → no_space wanted got ≡ None → wanted ≤ got
enough wanted got e = go (nat_lt got wanted) refl e where
  go : (t : Bool) → nat_lt got wanted ≡ t → (if t then Some (NoSpace got) else None) ≡ None → wanted ≤ got
  go true t e = cc
  go false t e = grind (arith, nat_tests, t)

-- the state that a claim leads to is lawful where adding its rows leaves a lawful one, and the log has room
pub claim_comes : {T : Type 0} (rules : KindRules T) → IsTied rules → (s : State) (told : List (Option Refusal)) (wanted : ℕ) (form : Answered) (rows : List T) → wanted ≡ length rows
    → IsLawful (add_all rules s rows) → s.spent + wanted ≤ most_spent → IsLawful (updated s (claim rules s told wanted form rows).update)
claim_comes {T} rules tied s told wanted form rows many k log =
    let after : IsLawful (with_spent (add_all rules s rows) wanted) = spent_keeps (add_all rules s rows) wanted k (rw (added_spent rules tied s rows) log) in
    let came : with_next (fold with_view s (map rules.view rows)) (rules.kind, (rules.row_list s).next + wanted) ≡ add_all rules s rows =
    ap (λ (n : ℕ). with_next (fold with_view s (map rules.view rows)) (rules.kind, (rules.row_list s).next + n)) many ∙ all_created rules tied s rows in
    subst (λ (t : State). IsLawful (with_spent t wanted)) (sym came) after

claim_of_keeps : (s : State) (form : Answered) (items : List BlockItem) (p : Prefix) → IsLawful s → AllByRecursion HasBlockItemBounds items → Contains s.prefixes.rows p → verdict_of (claim_blocks_of s form items p) ≡ None → IsLawful (updated s (claim_blocks_of s form items p).update)
claim_of_keeps s form items p h d there v =
    let blocks : List Cidr = fits_of p.block (child_blocks s.prefixes.rows p) (lengths_of items) in
    let rows : List Prefix = claimed_prefixes p s.prefixes.next items (fits_of p.block (child_blocks s.prefixes.rows p) (lengths_of items)) in
    let room : List (Option Refusal) = no_place prefix_rules s (length items) in
    let told : List (Option Refusal) = flat_map (told_of_block s p) items in
    let few : Option Refusal = too_many Claims most_items (length items) in
    let space : Option Refusal = no_space (length items) (length rows) in
    let front = none_rest few told (none_left (few ∷ told) (space ∷ room) v) in
    let back = none_right (few ∷ told) (space ∷ room) v in
    let got = enough (length items) (length rows) (none_head space room back) in
    let place = place_from prefix_rules s (length items) (none_rest space room back) in
    let r = place.room in
    let at_most = fits_length p.block (lengths_of items) (child_blocks s.prefixes.rows p) in
    let lens = lengths_length items in
    let is = claimed_length p s.prefixes.next items blocks (omega arith) in
    let row = h.prefixes.each p there in
    let k : IsLawful (add_all prefix_rules s rows) = claim_keeps p items s row.bounds.block h (all_fine s p items d front) (λ n e. h.prefixes.tables p n there e) blocks refl (omega arith) r.number r.ids in
    let many : length items ≡ length rows = omega arith in
    claim_comes prefix_rules prefixes_tied s told (length items) form rows many k place.log

-- a claim of blocks leaves a lawful state, whatever it is answered
pub claim_blocks_keeps : (s : State) (n : ℕ) (form : Answered) (items : List BlockItem) → IsLawful s → AllByRecursion HasBlockItemBounds items → IsLawful (outcome s (claim_blocks_plan s n form items)).0
claim_blocks_keeps s n form items h d = go (row_at prefix_id s.prefixes.rows n) refl where
  go : (o : Option Prefix) → row_at prefix_id s.prefixes.rows n ≡ o → IsLawful (outcome s (with_found prefix_rules n (claim_blocks_of s form items) o)).0
  go None e = h
  go (Some p) e = outcome_keeps s (claim_blocks_of s form items p) h (claim_of_keeps s form items p h d (found_there prefix_id s.prefixes.rows n p e).0)
