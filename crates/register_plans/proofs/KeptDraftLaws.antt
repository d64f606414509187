-- The records of a lawful state, and the rows of an import over it, as drafts that records keep.
use Rattle.std.proofs.Common.{◌≡◌, ◌∙◌, ℕ, ◌+◌, ◌≤◌, Bool, true, false, cond, not, nat_lt, List, [], ◌∷◌, map, Option, Some, None, find, option_map, refl, ap, ap₂, sym, subst, arith, count_by, IsSome, Contains}
use Rattle.std.specs.Prelude.{bytes_eq}
use Rattle.std.specs.List.{AllByRecursion}
use Rattle.std.proofs.lemmas.Bool.Decides.{nat_tests}
use Rattle.std.proofs.lemmas.List.Sums.{sum_by-cons}
use Rattle.std.proofs.lemmas.Slice.Eq.{bytes_eq-Decides}
use Rattle.ipam_data.specs.declared.address.IpAddress.{IpAddress}
use Rattle.ipam_data.specs.declared.calls.Draft.{Draft}
use Rattle.ipam_data.specs.declared.imports.ImportRow.{ImportRow}
use Rattle.ipam_data.specs.declared.imports.ImportRow.TheVariants.{Vrf as VrfRow, Rir as RirRow, Role as RoleRow, Aggregate as AggregateRow, Prefix as PrefixRow, IpRange as RangeRow, IpAddress as AddressRow}
use Rattle.ipam_data.specs.declared.kinds.Kind.{Kind}
use Rattle.ipam_data.specs.declared.kinds.Kind.TheVariants.{Vrfs, Rirs, Roles, Aggregates, Prefixes, Ranges, Addresses}
use Rattle.ipam_data.specs.declared.prefix.Prefix.{Prefix}
use Rattle.ipam_data.specs.declared.range.IpRange.{IpRange}
use Rattle.ipam_data.specs.declared.replies.View.TheVariants.{Vrf as VrfView, Rir as RirView, Role as RoleView, Aggregate as AggregateView, Prefix as PrefixView, IpRange as RangeView, IpAddress as AddressView}
use Rattle.ipam_data.specs.Addresses.{address_rules}
use Rattle.ipam_data.specs.Aggregates.{aggregate_rules}
use Rattle.ipam_data.specs.Checks.{first}
use Rattle.ipam_data.specs.Fields.{drafted, kind_of_draft, told_of_draft, recorded, stored_draft}
use Rattle.ipam_data.specs.Imports.{records_of, times, vrf_named, role_named_too, rir_named, id_or_none, kind_of_row, draft_of, makes_one, HasRowBounds}
use Rattle.ipam_data.specs.Lawful.{IsLawful}
use Rattle.ipam_data.specs.Plans.{KindRules}
use Rattle.ipam_data.specs.Prefixes.{prefix_rules}
use Rattle.ipam_data.specs.Ranges.{range_rules}
use Rattle.ipam_data.specs.Rirs.{rir_rules}
use Rattle.ipam_data.specs.Roles.{role_rules}
use Rattle.ipam_data.specs.RowList.{AllAreThere, AllBelow, IsRowList, RowList, row_at, least}
use Rattle.ipam_data.specs.Rows.{vrf_id, rir_id, role_id, most_vrfs, most_rirs, most_roles}
use Rattle.ipam_data.specs.State.{State}
use Rattle.ipam_data.specs.Vrfs.{vrf_rules, ids_named}
use Rattle.ipam_data.proofs.DraftLaws.{drafted_bounds, HasRowBounds as HasViewBounds}
use Rattle.ipam_data.proofs.ImportLaws.{draft_bounds}
use Rattle.ipam_data.proofs.RowLists.{contains_head, contains_rest, id_below}
use Rattle.stored_tables.specs.Reading.{IsWord, IsAbsentOr}
use Rattle.register_plans.specs.ImportHalts.{fault_of}
use Rattle.register_plans.specs.TextKeys.{key_of}
use Rattle.register_plans.specs.ReadyRows.{texts_of, key_of_draft, key_of_row, record_keys}
use Rattle.register_plans.proofs.ImportRecords.{faultless, nothing_told}
use Rattle.register_plans.specs.KeptDrafts.{IsKept}
use Rattle.register_plans.proofs.SameKeys.{NamesWords, kept_view, recorded_texts, times_keys}

-- ---- the ids that rows name

word_of : (named : Option ℕ) → ((n : ℕ) → named ≡ Some n → IsWord n) → IsAbsentOr IsWord named
word_of None h = tt
word_of (Some n) h = h n refl

module _ {T : Type 0} (id : T → ℕ) where
  name_word : (most : ℕ) (kept : RowList T) (n : ℕ) → IsRowList id most kept → IsSome (row_at id kept.rows n) → IsWord n
  name_word most kept n h s = let low = id_below id kept.next n kept.rows h.below s in let fits = h.next_fits in omega arith

  -- the id of a row that a test finds
  least_word : (test : T → Bool) (high : ℕ) (rows : List T) → AllBelow id high rows → high ≤ 4294967295 → IsAbsentOr IsWord (least id test rows)
  least_word test high [] b h = tt
  least_word test high (x ∷ xs) b h = go (test x) (least_word test high xs b.1 h)
    where
      go : (t : Bool) → IsAbsentOr IsWord (least id test xs) → IsAbsentOr IsWord (option_map id (cond t (Some x) (find test xs)))
      go true ih = let low = b.0 in omega arith
      go false ih = ih

-- the draft of a row is of the row's kind
pub kind_same : (s : State) (row : ImportRow) → kind_of_draft (draft_of s row) ≡ kind_of_row row
kind_same s (VrfRow name rd enforce_unique description) = refl
kind_same s (RirRow name slug is_private description) = refl
kind_same s (RoleRow name slug weight description) = refl
kind_same s (AggregateRow block rir description) = refl
kind_same s (PrefixRow block vrf status role is_pool mark_utilized description) = refl
kind_same s (RangeRow start end vrf status role mark_utilized mark_populated description) = refl
kind_same s (AddressRow host vrf status role dns_name description) = refl

-- where nothing is told of it, the record that it makes is in its bounds
row_bounds : (s : State) (row : ImportRow) → HasRowBounds row → first (told_of_draft (draft_of s row)) ≡ None → HasViewBounds (drafted 0 (draft_of s row))
row_bounds s row b t = drafted_bounds 0 (draft_of s row) (draft_bounds s row b) t

-- it is stored under the texts under which the record is
pub row_key : (s : State) (row : ImportRow) → HasRowBounds row → first (told_of_draft (draft_of s row)) ≡ None → key_of_draft (draft_of s row) ≡ key_of_draft (stored_draft (draft_of s row))
unfolding stored_draft texts_of
row_key s row b t = ap key_of (sym (recorded_texts (drafted 0 (draft_of s row)) (row_bounds s row b t)))

module _ {T : Type 0} where
  each_kept : (kind : Kind) (f : T → Draft) (rows : List T) → ((x : T) → Contains rows x → IsKept kind (f x)) → AllByRecursion (IsKept kind) (map f rows)
  each_kept kind f [] h = tt
  each_kept kind f (x ∷ xs) h = (h x (contains_head x xs), each_kept kind f xs (λ y c. h y (contains_rest x y xs c)))

  keys_mapped : (rules : KindRules T) (rows : List T) → ((x : T) → Contains rows x → HasViewBounds (rules.view x)) → map (key_of_row rules) rows ≡ map key_of_draft (map (λ (row : T). recorded (rules.view row)) rows)
  keys_mapped rules [] h = refl
  keys_mapped rules (x ∷ xs) h =
      ap₂ (λ (k : List ℕ) (ks : List (List ℕ)). k ∷ ks) (ap key_of (sym (recorded_texts (rules.view x) (h x (contains_head x xs))))) (keys_mapped rules xs (λ y c. h y (contains_rest x y xs c)))

own_first : (q : List ℕ) (ys : List (List ℕ)) → count_by (bytes_eq q) (q ∷ ys) ≡ count_by (bytes_eq q) ys + 1
own_first q ys =
    let own : bytes_eq q q ≡ true = (bytes_eq-Decides q q).1 refl in
    let b = sum_by-cons (λ (x : List ℕ). cond (bytes_eq q x) 1 0) q ys in
    let one : cond {A = ℕ} (bytes_eq q q) 1 0 ≡ 1 = ap (λ t. cond {A = ℕ} t 1 0) own in omega arith

module _ (s : State) (l : IsLawful s) where
  vrf_word : (name : Option (List ℕ)) → IsAbsentOr IsWord (vrf_named s.vrfs.rows name)
  unfolding ids_named
  vrf_word None = tt
  vrf_word (Some name) = least_word vrf_id _ s.vrfs.next s.vrfs.rows l.vrfs.row_list.below l.vrfs.row_list.next_fits

  role_word : (name : Option (List ℕ)) → IsAbsentOr IsWord (role_named_too s.roles.rows name)
  role_word None = tt
  role_word (Some name) = least_word role_id (λ row. bytes_eq row.name name) s.roles.next s.roles.rows l.roles.row_list.below l.roles.row_list.next_fits

  rir_word : (name : List ℕ) → IsWord (id_or_none (rir_named s.rirs.rows name))
  rir_word name = go (rir_named s.rirs.rows name) (least_word rir_id (λ row. bytes_eq row.name name) s.rirs.next s.rirs.rows l.rirs.row_list.below l.rirs.row_list.next_fits)
    where
      go : (found : Option ℕ) → IsAbsentOr IsWord found → IsWord (id_or_none found)
      go None h = omega arith
      go (Some n) h = h

  -- ---- the rows of an import

  row_words : (row : ImportRow) → NamesWords (drafted 0 (draft_of s row))
  row_words (VrfRow name rd enforce_unique description) = tt
  row_words (RirRow name slug is_private description) = tt
  row_words (RoleRow name slug weight description) = tt
  row_words (AggregateRow block rir description) = rir_word rir
  row_words (PrefixRow block vrf status role is_pool mark_utilized description) = (vrf_word vrf, role_word role)
  row_words (RangeRow start end vrf status role mark_utilized mark_populated description) = (vrf_word vrf, role_word role)
  row_words (AddressRow host vrf status role dns_name description) = vrf_word vrf

  -- a row that is not refused by itself is stored as a draft that a record keeps
  pub row_kept : (kind : Kind) (row : ImportRow) → HasRowBounds row → fault_of s kind row ≡ None → IsKept kind (stored_draft (draft_of s row))
  unfolding stored_draft
  row_kept kind row b f =
      let h = faultless s kind row f in
      subst (λ (k : Kind). IsKept k (recorded (drafted 0 (draft_of s row)))) (kind_same s row ∙ h.is_of)
      (kept_view (drafted 0 (draft_of s row)) (row_bounds s row b (nothing_told s row h.rule)) (row_words row))

  -- ---- the records of the state

  named_word : {T U : Type 0} (names : T → Option ℕ) (rows : List T) (id : U → ℕ) (most : ℕ) (kept : RowList U) → IsRowList id most kept → AllAreThere names rows (row_at id kept.rows)
      → (x : T) → Contains rows x → IsAbsentOr IsWord (names x)
  named_word names rows id most kept h there x c = word_of (names x) (λ n e. name_word id most kept n h (there x n c e))

  pub record_kept : (kind : Kind) → AllByRecursion (IsKept kind) (records_of s kind)
  record_kept Vrfs = each_kept Vrfs (λ row. recorded (VrfView row)) s.vrfs.rows (λ row c. kept_view (VrfView row) (l.vrfs.each row c) tt)
  record_kept Rirs = each_kept Rirs (λ row. recorded (RirView row)) s.rirs.rows (λ row c. kept_view (RirView row) (l.rirs.each row c) tt)
  record_kept Roles = each_kept Roles (λ row. recorded (RoleView row)) s.roles.rows (λ row c. kept_view (RoleView row) (l.roles.each row c) tt)
  record_kept Aggregates =
      each_kept Aggregates (λ row. recorded (AggregateView row)) s.aggregates.rows
      (λ row c. kept_view (AggregateView row) (l.aggregates.each row c).bounds (name_word rir_id most_rirs s.rirs row.rir l.rirs.row_list (l.aggregates.registries row row.rir c refl)))
  record_kept Prefixes =
      each_kept Prefixes (λ row. recorded (PrefixView row 0 0)) s.prefixes.rows
      (λ row c. kept_view (PrefixView row 0 0) (l.prefixes.each row c).bounds
      (named_word (λ (x : Prefix). x.vrf) s.prefixes.rows vrf_id most_vrfs s.vrfs l.vrfs.row_list l.prefixes.tables row c, named_word (λ (x : Prefix). x.role) s.prefixes.rows role_id most_roles s.roles l.roles.row_list l.prefixes.with_roles row c))
  record_kept Ranges =
      each_kept Ranges (λ row. recorded (RangeView row)) s.ranges.rows
      (λ row c. kept_view (RangeView row) (l.ranges.each row c).bounds
      (named_word (λ (x : IpRange). x.vrf) s.ranges.rows vrf_id most_vrfs s.vrfs l.vrfs.row_list l.ranges.tables row c, named_word (λ (x : IpRange). x.role) s.ranges.rows role_id most_roles s.roles l.roles.row_list l.ranges.with_roles row c))
  record_kept Addresses =
      each_kept Addresses (λ row. recorded (AddressView row)) s.addresses.rows
      (λ row c. kept_view (AddressView row) (l.addresses.each row c).bounds (named_word (λ (x : IpAddress). x.vrf) s.addresses.rows vrf_id most_vrfs s.vrfs l.vrfs.row_list l.addresses.tables row c))

  -- they have the keys of their drafts
  record_keys_are : (kind : Kind) → record_keys s kind ≡ map key_of_draft (records_of s kind)
  record_keys_are Vrfs = keys_mapped vrf_rules s.vrfs.rows (λ row c. l.vrfs.each row c)
  record_keys_are Rirs = keys_mapped rir_rules s.rirs.rows (λ row c. l.rirs.each row c)
  record_keys_are Roles = keys_mapped role_rules s.roles.rows (λ row c. l.roles.each row c)
  record_keys_are Aggregates = keys_mapped aggregate_rules s.aggregates.rows (λ row c. (l.aggregates.each row c).bounds)
  record_keys_are Prefixes = keys_mapped prefix_rules s.prefixes.rows (λ row c. (l.prefixes.each row c).bounds)
  record_keys_are Ranges = keys_mapped range_rules s.ranges.rows (λ row c. (l.ranges.each row c).bounds)
  record_keys_are Addresses = keys_mapped address_rules s.addresses.rows (λ row c. (l.addresses.each row c).bounds)

  -- ---- whether a row makes a record

  -- it does where none is left for it
  pub makes_keys : (kind : Kind) (seen : List Draft) (draft : Draft) (key : List ℕ) (spent : List (List ℕ)) → IsKept kind (stored_draft draft) → AllByRecursion (IsKept kind) seen
      → key ≡ key_of_draft (stored_draft draft) → count_by (bytes_eq key) spent ≡ count_by (bytes_eq key) (map key_of_draft seen)
      → makes_one s kind seen draft ≡ not (nat_lt (count_by (bytes_eq key) spent) (count_by (bytes_eq key) (record_keys s kind)))
  unfolding makes_one
  makes_keys kind seen draft key spent kept all k c =
      let stored : Draft = stored_draft draft in
      let records : times stored (records_of s kind) ≡ count_by (bytes_eq key) (record_keys s kind) =
      times_keys kind stored (records_of s kind) kept (record_kept kind) ∙ ap₂ (λ (q : List ℕ) (ks : List (List ℕ)). count_by (bytes_eq q) ks) (sym k) (sym (record_keys_are kind)) in
      let more : times stored (stored ∷ seen) ≡ count_by (bytes_eq key) spent + 1 =
      times_keys kind stored (stored ∷ seen) kept (kept, all) ∙ own_first (key_of_draft stored) (map key_of_draft seen) ∙ ap (λ (q : List ℕ). count_by (bytes_eq q) (map key_of_draft seen) + 1) (sym k) ∙ ap (λ (n : ℕ). n + 1) (sym c) in
      tests (times stored (records_of s kind)) (times stored (stored ∷ seen)) (count_by (bytes_eq key) (record_keys s kind)) (count_by (bytes_eq key) spent) records more
    where
      tests : (r q b a : ℕ) → r ≡ b → q ≡ a + 1 → nat_lt r q ≡ not (nat_lt a b)
      tests r q b a e f = grind (arith, nat_tests)
