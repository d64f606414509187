-- Records with the key of a row, found by their ids; and rows that were made ready.
use Rattle.std.proofs.Common.{◌≡◌, ◌∙◌, ℕ, zero, suc, ◌+◌, ◌-◌, ◌<◌, get_or, Bool, true, false, cond, ◌&&◌, List, [], ◌∷◌, ◌++◌, length, map, take, Option, Some, None, refl, ap, sym, subst, arith, count_by, slice_get, inl, inr, Contains}
use Rattle.std.specs.Prelude.{bytes_eq, nat_le}
use Rattle.std.specs.List.{AllByRecursion, cons_option}
use Rattle.std.proofs.lemmas.Bool.Decides.{nat_tests}
use Rattle.std.proofs.lemmas.List.Sums.{sum_by-cons, sum_by_push}
use Rattle.std.proofs.lemmas.Slice.Eq.{bytes_eq-Decides}
use Rattle.inet_num.specs.declared.Family.{Family}
use Rattle.inet_num.specs.declared.Family.TheVariants.{V4, V6}
use Rattle.inet_num.specs.Net.{Address, Cidr, block_at, width_of}
use Rattle.inet_num.specs.Blocks.{same_block, block_holds}
use Rattle.inet_num.proofs.Insides.{same_block-refl}
use Rattle.ipam_data.specs.declared.address.IpAddress.{IpAddress}
use Rattle.ipam_data.specs.declared.calls.Draft.{Draft}
use Rattle.ipam_data.specs.declared.calls.Draft.TheVariants.{Vrf as VrfDraft, Rir as RirDraft, Role as RoleDraft, Aggregate as AggregateDraft, Prefix as PrefixDraft, IpRange as RangeDraft, IpAddress as AddressDraft}
use Rattle.ipam_data.specs.declared.imports.ImportRow.{ImportRow}
use Rattle.ipam_data.specs.declared.kinds.Kind.{Kind}
use Rattle.ipam_data.specs.declared.kinds.Kind.TheVariants.{Prefixes, Addresses}
use Rattle.ipam_data.specs.declared.prefix.Prefix.{Prefix}
use Rattle.ipam_data.specs.declared.replies.Refusal.{Refusal}
use Rattle.ipam_data.specs.declared.replies.View.{View}
use Rattle.ipam_data.specs.declared.replies.View.TheVariants.{Prefix as PrefixView, IpAddress as AddressView}
use Rattle.ipam_data.specs.Addresses.{address_rules}
use Rattle.ipam_data.specs.Fields.{recorded, stored_draft}
use Rattle.ipam_data.specs.Imports.{draft_of, HasRowBounds}
use Rattle.ipam_data.specs.Lawful.{IsLawful}
use Rattle.ipam_data.specs.Plans.{KindRules}
use Rattle.ipam_data.specs.Prefixes.{prefix_rules}
use Rattle.ipam_data.specs.RowList.{row_at, Rises}
use Rattle.ipam_data.specs.State.{State}
use Rattle.ipam_data.specs.Tables.{same_name}
use Rattle.ipam_data.proofs.DraftLaws.{HasRowBounds as HasViewBounds}
use Rattle.ipam_data.proofs.RowLists.{contains_cases, eq_true}
use Rattle.stored_tables.specs.Stored.{stored_row, prefix_texts, address_texts}
use Rattle.register_plans.specs.Candidates.{AreCandidates, rows_of}
use Rattle.register_plans.specs.Meets.{prefix_meets, address_meets}
use Rattle.register_plans.proofs.Found.{all_counted}
use Rattle.register_plans.specs.TextKeys.{key_of}
use Rattle.register_plans.specs.declared.imports.ready.Ready.{Ready}
use Rattle.register_plans.specs.ReadyRows.{texts_of, key_of_draft, key_of_row, key_where, ready_of, ready_rows, keys_of}
use Rattle.register_plans.specs.KeptDrafts.{IsKept, IsReadied, prefix_filter, address_filter, has_key, has_key_if}
use Rattle.register_plans.proofs.CountedKeys.{take_next, map_next}
use Rattle.std.proofs.lemmas.List.{map-append}
use Rattle.std.proofs.Math.Seq.{take-suc}
use Rattle.register_plans.proofs.KeptDraftLaws.{row_key, row_kept, record_kept}
use Rattle.register_plans.proofs.ImportRecords.{faultless, nothing_told}
use Rattle.register_plans.proofs.SameKeys.{one_draft, recorded_texts}
use Rattle.register_plans.proofs.SpelledKeys.{exact}

-- one more that is counted
pub counted_next : {A : Type 0} (test : A → Bool) (xs : List A) (k : ℕ) (x : A) → slice_get xs k ≡ Some x → count_by test (take (k + 1) xs) ≡ count_by test (take k xs) + cond (test x) 1 0
counted_next test xs k x e = ap (count_by test) (take_next xs k x e) ∙ sum_by_push (λ y. cond (test y) 1 0) (take k xs) x

pub keys_counted_next : {T : Type 0} (rules : KindRules T) (key : List ℕ) (rows : List T) (k : ℕ) (row : T) (own : List ℕ) → slice_get rows k ≡ Some row → own ≡ key_of_row rules row
    → count_by (bytes_eq key) (map (key_of_row rules) (take (k + 1) rows)) ≡ count_by (bytes_eq key) (map (key_of_row rules) (take k rows)) + cond (bytes_eq key own) 1 0
keys_counted_next rules key rows k row own e o =
    ap (count_by (bytes_eq key)) (map_next (key_of_row rules) rows k row e)
    ∙ sum_by_push (λ (q : List ℕ). cond (bytes_eq key q) 1 0) (map (key_of_row rules) (take k rows)) (key_of_row rules row)
    ∙ ap (λ (q : List ℕ). count_by (bytes_eq key) (map (key_of_row rules) (take k rows)) + cond (bytes_eq key q) 1 0) (sym o)

-- one more row that was made ready
pub readied_next : (rows : List Ready) (i : ℕ) (row : Ready) → i < length rows → row ≡ get_or rows i row → keys_of (take (i + 1) rows) ≡ keys_of (take i rows) ++ row.key ∷ []
readied_next rows i row low g =
    let next : i + 1 ≡ suc i = omega arith in
    rw next (
    ap keys_of (take-suc rows i row low) ∙ map-append (λ (r : Ready). r.key) (take i rows) (get_or rows i row ∷ [])
    ∙ ap (λ (r : Ready). keys_of (take i rows) ++ r.key ∷ []) (sym g)
    )

pub readied_at : (kind : Kind) (rows : List Ready) (i : ℕ) (row : Ready) → AllByRecursion (IsReadied kind) rows → i < length rows → IsReadied kind (get_or rows i row)
readied_at kind [] i row all low = absurd (omega arith)
readied_at kind (x ∷ xs) zero row all low = all.0
readied_at kind (x ∷ xs) (suc i) row all low = readied_at kind xs i row all.1 (omega arith)

module _ {T : Type 0} (rules : KindRules T) (rows : List T) (key : List ℕ) where
  abbrev keyed : T → Bool
  keyed row = bytes_eq key (key_of_row rules row)

  -- the records of ids
  ids_counted : (ids : List ℕ) → count_by (has_key rules rows key) ids ≡ count_by keyed (rows_of rules.id rows ids)
  ids_counted [] = refl
  ids_counted (n ∷ ns) = sum_by-cons (λ (m : ℕ). cond (has_key rules rows key m) 1 0) n ns ∙ go (row_at rules.id rows n) (ids_counted ns)
    where
      go : (found : Option T) → count_by (has_key rules rows key) ns ≡ count_by keyed (rows_of rules.id rows ns)
          → cond (has_key_if rules key found) 1 0 + count_by (has_key rules rows key) ns ≡ count_by keyed (cons_option found (rows_of rules.id rows ns))
      go None ih = omega (arith, ih)
      go (Some row) ih = ap (λ (m : ℕ). cond (keyed row) 1 0 + m) ih ∙ sym (sum_by-cons (λ (r : T). cond (keyed r) 1 0) row (rows_of rules.id rows ns))

  -- keys are counted as the records that have them
  pub keys_counted : (rs : List T) → count_by (bytes_eq key) (map (key_of_row rules) rs) ≡ count_by keyed rs
  keys_counted [] = refl
  keys_counted (r ∷ rs) =
      sum_by-cons (λ (k : List ℕ). cond (bytes_eq key k) 1 0) (key_of_row rules r) (map (key_of_row rules) rs)
      ∙ ap (λ (m : ℕ). cond (keyed r) 1 0 + m) (keys_counted rs)
      ∙ sym (sum_by-cons (λ (x : T). cond (keyed x) 1 0) r rs)

  -- where each that has the key is among the candidates, those that are found are all
  pub found_all : (meets : T → Bool) (ids : List ℕ) → Rises rules.id 0 rows → AreCandidates rules.id meets rows ids
      → ((row : T) → Contains rows row → keyed row ≡ true → meets row ≡ true)
      → count_by (has_key rules rows key) ids ≡ count_by (bytes_eq key) (map (key_of_row rules) rows)
  found_all meets ids r h w =
      ids_counted ids ∙ all_counted rules.id keyed rows ids r (record { rises = h.rises; few = h.few; all = λ row c t. h.all row c (w row c t) }) ∙ sym (keys_counted rows)

-- ---- which records have a key

all_in : {A B : Type 0} (P : B → Type 0) (f : A → B) (xs : List A) (x : A) → AllByRecursion P (map f xs) → Contains xs x → P (f x)
all_in P f [] x all c = let h = c.1 in absurd (omega arith)
all_in P f (y ∷ ys) x all c = elim (contains_cases y x ys c) [
  | inl e ↦ subst (λ z. P (f z)) e all.0
  | inr d ↦ all_in P f ys x all.1 d
]

-- a draft and a record with one key are the same
same_stored : (kind : Kind) (d : Draft) (view : View) → IsKept kind d → IsKept kind (recorded view) → HasViewBounds view
    → bytes_eq (key_of_draft d) (key_of (stored_row view).fields) ≡ true → d ≡ recorded view
same_stored kind d view h k b t =
    one_draft kind d (recorded view) h k (exact (texts_of d) (stored_row view).fields ((bytes_eq-Decides _ _).0 t) ∙ sym (recorded_texts view b))

own_name : (a : Option ℕ) → same_name a a ≡ true
own_name None = refl
own_name (Some n) = eq_true n n refl

holds_itself : (a : Address) → block_holds (block_at a (width_of a.family)) a ≡ true
holds_itself a = go a.family refl
  where
    go : (f : Family) → a.family ≡ f → block_holds (block_at a (width_of a.family)) a ≡ true
    go V4 e = rw e (tests a.value)
      where
        tests : (n : ℕ) → ((true && nat_le n n) && nat_le n (n + 1 - 1)) ≡ true
        tests n = grind (arith, nat_tests)
    go V6 e = rw e (tests a.value)
      where
        tests : (n : ℕ) → ((true && nat_le n n) && nat_le n (n + 1 - 1)) ≡ true
        tests n = grind (arith, nat_tests)

prefix_like : (d : Draft) (row : Prefix) → stored_draft d ≡ recorded (PrefixView row 0 0) → prefix_meets (prefix_filter d) row ≡ true
unfolding stored_draft
prefix_like (PrefixDraft block vrf status role is_pool mark_utilized description) row e =
    let b : row.block ≡ block = cc in
    let v : row.vrf ≡ vrf = cc in
    let one : same_block row.block block ≡ true = subst (λ (c : Cidr). same_block row.block c ≡ true) b (same_block-refl row.block) in
    let two : same_name row.vrf vrf ≡ true = subst (λ (n : Option ℕ). same_name row.vrf n ≡ true) v (own_name row.vrf) in
    rw (one, two) refl
prefix_like (VrfDraft name rd enforce_unique description) row e = cc
prefix_like (RirDraft name slug is_private description) row e = cc
prefix_like (RoleDraft name slug weight description) row e = cc
prefix_like (AggregateDraft block rir description) row e = cc
prefix_like (RangeDraft start end vrf status role mark_utilized mark_populated description) row e = cc
prefix_like (AddressDraft host vrf status role dns_name description) row e = cc

address_like : (d : Draft) (row : IpAddress) → stored_draft d ≡ recorded (AddressView row) → address_meets (address_filter d) row ≡ true
unfolding stored_draft
address_like (AddressDraft host vrf status role dns_name description) row e =
    let b : row.host ≡ host = cc in
    let v : row.vrf ≡ vrf = cc in
    let one : block_holds (block_at host.addr (width_of host.addr.family)) row.host.addr ≡ true =
    subst (λ h. block_holds (block_at h.addr (width_of h.addr.family)) row.host.addr ≡ true) b (holds_itself row.host.addr) in
    let two : same_name row.vrf vrf ≡ true = subst (λ (n : Option ℕ). same_name row.vrf n ≡ true) v (own_name row.vrf) in
    rw (one, two) refl
address_like (VrfDraft name rd enforce_unique description) row e = cc
address_like (RirDraft name slug is_private description) row e = cc
address_like (RoleDraft name slug weight description) row e = cc
address_like (AggregateDraft block rir description) row e = cc
address_like (PrefixDraft block vrf status role is_pool mark_utilized description) row e = cc
address_like (RangeDraft start end vrf status role mark_utilized mark_populated description) row e = cc

module _ (s : State) (l : IsLawful s) (d : Draft) (key : List ℕ) where
  pub prefix_found : IsKept Prefixes (stored_draft d) → key ≡ key_of_draft (stored_draft d) → (row : Prefix) → Contains s.prefixes.rows row
      → bytes_eq key (key_of_row prefix_rules row) ≡ true → prefix_meets (prefix_filter d) row ≡ true
  prefix_found h k row c t =
      prefix_like d row (same_stored Prefixes (stored_draft d) (PrefixView row 0 0) h
      (all_in (IsKept Prefixes) (λ (r : Prefix). recorded (PrefixView r 0 0)) s.prefixes.rows row (record_kept s l Prefixes) c) (l.prefixes.each row c).bounds
      (subst (λ (q : List ℕ). bytes_eq q (key_of_row prefix_rules row) ≡ true) k t))

  pub address_found : IsKept Addresses (stored_draft d) → key ≡ key_of_draft (stored_draft d) → (row : IpAddress) → Contains s.addresses.rows row
      → bytes_eq key (key_of_row address_rules row) ≡ true → address_meets (address_filter d) row ≡ true
  address_found h k row c t =
      address_like d row (same_stored Addresses (stored_draft d) (AddressView row) h
      (all_in (IsKept Addresses) (λ (r : IpAddress). recorded (AddressView r)) s.addresses.rows row (record_kept s l Addresses) c) (l.addresses.each row c).bounds
      (subst (λ (q : List ℕ). bytes_eq q (key_of_row address_rules row) ≡ true) k t))

-- ---- rows that have no key

some_key : (fields : List (List ℕ)) (text : List ℕ) (texts : List (List ℕ)) → fields ≡ text ∷ texts → bytes_eq [] (key_of fields) ≡ false
some_key fields [] texts e = rw e refl
some_key fields (b ∷ bs) texts e = rw e refl

pub prefix_spelled : (row : Prefix) → bytes_eq [] (key_of_row prefix_rules row) ≡ false
unfolding prefix_texts
prefix_spelled row = some_key (stored_row (PrefixView row 0 0)).fields _ _ refl

pub address_spelled : (row : IpAddress) → bytes_eq [] (key_of_row address_rules row) ≡ false
unfolding address_texts
address_spelled row = some_key (stored_row (AddressView row)).fields _ _ refl

pub none_spelled : {T : Type 0} (rules : KindRules T) (rows : List T) → ((row : T) → bytes_eq [] (key_of_row rules row) ≡ false) → count_by (bytes_eq []) (map (key_of_row rules) rows) ≡ 0
none_spelled rules [] h = refl
none_spelled rules (row ∷ rows) h =
    let rest = none_spelled rules rows h in
    let more = sum_by-cons (λ (k : List ℕ). cond (bytes_eq [] k) 1 0) (key_of_row rules row) (map (key_of_row rules) rows) in
    let one : cond {A = ℕ} (bytes_eq [] (key_of_row rules row)) 1 0 ≡ 0 = ap (λ (b : Bool). cond {A = ℕ} b 1 0) (h row) in
    omega (arith, rest, more, one)

-- ---- rows that were made ready

readied : (s : State) (l : IsLawful s) (kind : Kind) (line : ImportRow) → HasRowBounds line → IsReadied kind (ready_of s kind line)
readied s l kind line b = record {
  kept = λ f. row_kept s l kind line b f;
  key = λ f. ap (λ (o : Option Refusal). key_where o (draft_of s line)) f ∙ row_key s line b (nothing_told s line (faultless s kind line f).rule);
  none = λ refusal f. ap (λ (o : Option Refusal). key_where o (draft_of s line)) f;
}

pub all_readied : (s : State) (l : IsLawful s) (kind : Kind) (lines : List ImportRow) → AllByRecursion HasRowBounds lines → AllByRecursion (IsReadied kind) (ready_rows s kind lines)
all_readied s l kind [] b = tt
all_readied s l kind (line ∷ lines) b = (readied s l kind line b.0, all_readied s l kind lines b.1)
