-- Records that are taken back leave the state that was there before them.
use Rattle.std.proofs.Common.{◌≡◌, ◌∙◌, ℕ, zero, suc, ◌+◌, ◌-◌, ◌≤◌, ◌<◌, List, [], ◌∷◌, ◌++◌, fold, refl, ap, sym, subst, arith, Result, OnOk, OnErr, Ok, Err}
use Rattle.ipam_data.specs.declared.calls.Draft.{Draft}
use Rattle.ipam_data.specs.declared.calls.Draft.TheVariants.{Vrf as VrfDraft, Rir as RirDraft, Role as RoleDraft, Aggregate as AggregateDraft, Prefix as PrefixDraft, IpRange as RangeDraft, IpAddress as AddressDraft}
use Rattle.ipam_data.specs.declared.kinds.Kind.{Kind}
use Rattle.ipam_data.specs.declared.kinds.Kind.TheVariants.{Vrfs, Rirs, Roles, Aggregates, Prefixes, Ranges, Addresses}
use Rattle.ipam_data.specs.RowList.{RowList, IsRowList, AllBelow, without, appended, cleared_of}
use Rattle.ipam_data.specs.State.{State}
use Rattle.ipam_data.specs.Plans.{KindRules, add_row}
use Rattle.ipam_data.specs.Vrfs.{vrf_rules}
use Rattle.ipam_data.specs.Rirs.{rir_rules}
use Rattle.ipam_data.specs.Roles.{role_rules}
use Rattle.ipam_data.specs.Aggregates.{aggregate_rules}
use Rattle.ipam_data.specs.Prefixes.{prefix_rules}
use Rattle.ipam_data.specs.Ranges.{range_rules}
use Rattle.ipam_data.specs.Addresses.{address_rules}
use Rattle.ipam_data.specs.Fields.{kind_of_draft}
use Rattle.ipam_data.specs.Updates.{without_row, with_next}
use Rattle.ipam_data.specs.Lawful.{IsLawful}
use Rattle.ipam_data.proofs.RowLists.{eq_true, eq_false, with_row_above}
use Rattle.ipam_data.proofs.Ties.{IsTied, vrfs_tied, rirs_tied, roles_tied, aggregates_tied, prefixes_tied, ranges_tied, addresses_tied}
use Rattle.ipam_data.specs.Imports.{next_of}
use Rattle.ipam_data.specs.Imports.{with_record}
use Rattle.register_plans.specs.UndoneRecords.{ids_down, taken_back, IsAhead}

-- ---- one after another

-- one id less
pub cut_next : (s new : State) (kind : Kind) (first next made k : ℕ) → made ≡ next - first → k < made → new ≡ without_row s (kind, next - 1 - k)
    → fold without_row new (ids_down kind first (made - (k + 1))) ≡ fold without_row s (ids_down kind first (made - k))
cut_next s new kind first next made k m h e =
    let m_ = made - (k + 1) in
    let more : made - k ≡ suc m_ = omega arith in
    let id : next - 1 - k ≡ first + m_ = omega arith in
    ap (λ (t : State). fold without_row t (ids_down kind first m_)) (e ∙ ap (λ (n : ℕ). without_row s (kind, n)) id)
    ∙ sym (ap (λ (n : ℕ). fold without_row s (ids_down kind first n)) more)

-- none is left
pub cut_end : (s now last : State) (kind : Kind) (first next made k : ℕ) → made ≤ k → next ≡ next_of s kind → made ≡ next - first → last ≡ with_next now (kind, first)
    → fold without_row now (ids_down kind first (made - k)) ≡ fold without_row s (ids_down kind first made) → last ≡ taken_back s kind first
cut_end s now last kind first next made k low n m e h =
    let none : made - k ≡ 0 = omega arith in
    let all : made ≡ next_of s kind - first = m ∙ ap (λ (j : ℕ). j - first) n in
    e
    ∙ ap (λ (t : State). with_next t (kind, first))
    (sym (ap (λ (j : ℕ). fold without_row now (ids_down kind first j)) none) ∙ h ∙ ap (λ (j : ℕ). fold without_row s (ids_down kind first j)) all)

-- ---- a next id that was set is set again

next_over : (kind : Kind) (s : State) (m n : ℕ) → with_next (with_next s (kind, m)) (kind, n) ≡ with_next s (kind, n)
next_over Vrfs s m n = refl
next_over Rirs s m n = refl
next_over Roles s m n = refl
next_over Aggregates s m n = refl
next_over Prefixes s m n = refl
next_over Ranges s m n = refl
next_over Addresses s m n = refl

next_cut : (kind : Kind) (s : State) (m n : ℕ) → without_row (with_next s (kind, m)) (kind, n) ≡ with_next (without_row s (kind, n)) (kind, m)
next_cut Vrfs s m n = refl
next_cut Rirs s m n = refl
next_cut Roles s m n = refl
next_cut Aggregates s m n = refl
next_cut Prefixes s m n = refl
next_cut Ranges s m n = refl
next_cut Addresses s m n = refl

next_own : (kind : Kind) (s : State) → with_next s (kind, next_of s kind) ≡ s
next_own Vrfs s = refl
next_own Rirs s = refl
next_own Roles s = refl
next_own Aggregates s = refl
next_own Prefixes s = refl
next_own Ranges s = refl
next_own Addresses s = refl

back_next : (kind : Kind) (s : State) (m first n : ℕ) → with_next (fold without_row (with_next s (kind, m)) (ids_down kind first n)) (kind, first) ≡ with_next (fold without_row s (ids_down kind first n)) (kind, first)
back_next kind s m first zero = next_over kind s m first
back_next kind s m first (suc n) =
    ap (λ (t : State). with_next (fold without_row t (ids_down kind first n)) (kind, first)) (next_cut kind s m (first + n))
    ∙ back_next kind (without_row s (kind, first + n)) m first n

-- ---- nothing was made

pub ahead_none : (s : State) (kind : Kind) → IsAhead s kind s
ahead_none s kind =
    let none : next_of s kind - next_of s kind ≡ 0 = omega arith in
    record {
      later = omega arith;
      back =
          ap (λ (n : ℕ). with_next (fold without_row s (ids_down kind (next_of s kind) n)) (kind, next_of s kind)) none
          ∙ next_own kind s;
    }

-- ---- one record more

-- the last row goes
without_last : {T : Type 0} (id : T → ℕ) (xs : List T) (row : T) (n : ℕ) → id row ≡ n → AllBelow id (id row) xs → without id (xs ++ row ∷ []) n ≡ xs
without_last id [] row n e a = rw (eq_true (id row) n e) refl
without_last {T} id (x ∷ xs) row n e a = let b = a.0 in rw (eq_false (id x) n (omega arith)) (ap (λ (zs : List T). x ∷ zs) (without_last id xs row n e a.1))

module _ {T : Type 0} (rules : KindRules T) (tied : IsTied rules) where
  -- a row that is put under the next id and cut again leaves nothing but its next id
  cut_added : (s : State) (row : T) (n : ℕ) → rules.id row ≡ n → AllBelow rules.id (rules.id row) (rules.row_list s).rows
      → without_row (add_row rules s row) (rules.kind, n) ≡ with_next s (rules.kind, (rules.row_list s).next + 1)
  cut_added s row n e below =
      let more : RowList T = appended rules.id (rules.row_list s) row in
      let gone : without rules.id more.rows n ≡ (rules.row_list s).rows =
      ap (λ (xs : List T). without rules.id xs n) (with_row_above rules.id (rules.row_list s).rows row below) ∙ without_last rules.id (rules.row_list s).rows row n e below in
      tied.cut (add_row rules s row) n
      ∙ ap (λ (kept : RowList T). rules.with_row_list (rules.with_row_list s more) (cleared_of rules.id kept n)) (tied.given s more)
      ∙ tied.again s more (cleared_of rules.id more n)
      ∙ ap (λ (xs : List T). rules.with_row_list s (record { rows = xs; next = more.next })) gone
      ∙ sym (tied.next s more.next)

  ahead_row : (old s : State) (row : T) → ((t : State) → next_of t rules.kind ≡ (rules.row_list t).next) → rules.id row ≡ (rules.row_list s).next
      → IsRowList rules.id rules.most (rules.row_list s) → IsAhead old rules.kind s → IsAhead old rules.kind (add_row rules s row)
  ahead_row old s row next e kept h =
      let first : ℕ = next_of old rules.kind in
      let k : ℕ = next_of s rules.kind - first in
      let here = next s in
      let then : next_of (add_row rules s row) rules.kind ≡ (rules.row_list s).next + 1 =
      next (add_row rules s row) ∙ ap (λ (kept : RowList T). kept.next) (tied.given s (appended rules.id (rules.row_list s) row)) in
      let later = h.later in
      let more : next_of (add_row rules s row) rules.kind - first ≡ suc k = omega arith in
      let below : AllBelow rules.id (rules.id row) (rules.row_list s).rows = subst (λ (n : ℕ). AllBelow rules.id n (rules.row_list s).rows) (sym e) kept.below in
      let last : rules.id row ≡ first + k = omega arith in
      record {
        later = omega arith;
        back =
            ap (λ (n : ℕ). with_next (fold without_row (add_row rules s row) (ids_down rules.kind first n)) (rules.kind, first)) more
            ∙ ap (λ (t : State). with_next (fold without_row t (ids_down rules.kind first k)) (rules.kind, first)) (cut_added s row (first + k) last below)
            ∙ back_next rules.kind s ((rules.row_list s).next + 1) first k
            ∙ h.back;
      }

pub ahead_record : (old s : State) (kind : Kind) (d : Draft) → kind_of_draft d ≡ kind → IsLawful s → IsAhead old kind s → IsAhead old kind (with_record s d)
ahead_record old s kind d e l h = subst (λ (k : Kind). IsAhead old k s → IsAhead old k (with_record s d)) e (go d) h
  where
    go : (d : Draft) → IsAhead old (kind_of_draft d) s → IsAhead old (kind_of_draft d) (with_record s d)
    go (VrfDraft name rd enforce_unique description) = ahead_row vrf_rules vrfs_tied old s _ (λ t. refl) refl l.vrfs.row_list
    go (RirDraft name slug is_private description) = ahead_row rir_rules rirs_tied old s _ (λ t. refl) refl l.rirs.row_list
    go (RoleDraft name slug weight description) = ahead_row role_rules roles_tied old s _ (λ t. refl) refl l.roles.row_list
    go (AggregateDraft block rir description) = ahead_row aggregate_rules aggregates_tied old s _ (λ t. refl) refl l.aggregates.row_list
    go (PrefixDraft block vrf status role is_pool mark_utilized description) = ahead_row prefix_rules prefixes_tied old s _ (λ t. refl) refl l.prefixes.row_list
    go (RangeDraft start end vrf status role mark_utilized mark_populated description) = ahead_row range_rules ranges_tied old s _ (λ t. refl) refl l.ranges.row_list
    go (AddressDraft host vrf status role dns_name description) = ahead_row address_rules addresses_tied old s _ (λ t. refl) refl l.addresses.row_list

-- a record that was made, or was not
pub ahead_made : {A B : Type 0} (old s new : State) (kind : Kind) (d : Draft) (result : Result A B) → kind_of_draft d ≡ kind → IsLawful s → OnOk result (new ≡ with_record s d) → OnErr result (new ≡ s)
    → IsAhead old kind s → IsAhead old kind new
ahead_made old s new kind d (Ok a) e l made stays h = subst (λ (t : State). IsAhead old kind t) (sym made) (ahead_record old s kind d e l h)
ahead_made old s new kind d (Err b) e l made stays h = subst (λ (t : State). IsAhead old kind t) (sym stays) h

-- what was made is taken back
pub back_again : (old now last : State) (kind : Kind) (first : ℕ) → first ≡ next_of old kind → IsAhead old kind now → last ≡ taken_back now kind first → last ≡ old
back_again old now last kind first f h e = e ∙ ap (λ (n : ℕ). taken_back now kind n) f ∙ h.back
