-- What puts, cuts and next ids do to a row of another kind or id: it stays.
use Rattle.std.proofs.Common.{◌≡◌, ℕ, ◌<◌, ◌==◌, ◌&&◌, Contains, Bool, true, false, cond, not, List, [], ◌∷◌, map, fold, Option, Some, None, refl, ap, sym, ◌∙◌, subst, arith, inl, inr, ◌⊎◌, if◌then◌else◌}
use Rattle.std.specs.List.{AllByRecursion}
use Rattle.std.proofs.lemmas.Bool.Decides.{nat_tests}
use Rattle.ipam_data.specs.declared.kinds.Kind.{Kind}
use Rattle.ipam_data.specs.declared.kinds.Kind.TheVariants.{Vrfs, Rirs, Roles, Aggregates, Prefixes, Ranges, Addresses}
use Rattle.ipam_data.specs.declared.replies.Refusal.{Refusal}
use Rattle.ipam_data.specs.declared.replies.View.{View}
use Rattle.ipam_data.specs.declared.replies.View.TheVariants.{Vrf as VrfView, Rir as RirView, Role as RoleView, Aggregate as AggregateView, Prefix as PrefixView, IpRange as RangeView, IpAddress as AddressView}
use Rattle.ipam_data.specs.declared.update.Update.{Update}
use Rattle.ipam_data.specs.Rows.{same_kind}
use Rattle.ipam_data.specs.RowList.{with_row, without, AllBelow}
use Rattle.ipam_data.specs.State.{State, Plan, verdict_of}
use Rattle.ipam_data.specs.Plans.{KindRules}
use Rattle.ipam_data.specs.ByKind.{by_view}
use Rattle.ipam_data.specs.Updates.{with_view, without_row, with_next, with_spent, updated, outcome}
use Rattle.ipam_data.specs.Vrfs.{vrf_rules}
use Rattle.ipam_data.specs.Rirs.{rir_rules}
use Rattle.ipam_data.specs.Roles.{role_rules}
use Rattle.ipam_data.specs.Aggregates.{aggregate_rules}
use Rattle.ipam_data.specs.Prefixes.{prefix_rules}
use Rattle.ipam_data.specs.Ranges.{range_rules}
use Rattle.ipam_data.specs.Addresses.{address_rules}
use Rattle.ipam_data.proofs.RowLists.{contains_cases, contains_rest}

-- ---- rows that stay in a list

module _ {T : Type 0} (id : T → ℕ) where
  pub with_stays : (xs : List T) (r x : T) → Contains xs x → (id r == id x) ≡ false → Contains (with_row id xs r) x
  with_stays [] r x c e = let l = c.1 in absurd (omega arith)
  with_stays (y ∷ ys) r x c e = go (id y == id r) refl (contains_cases y x ys c) (λ d. with_stays ys r x d e)
    where
      go : (t : Bool) → (id y == id r) ≡ t → (y ≡ x) ⊎ Contains ys x → (Contains ys x → Contains (with_row id ys r) x) → Contains (if t then r ∷ ys else y ∷ with_row id ys r) x
      go true t (inl a) ih = (let b = ap id a in let same : (id r == id x) ≡ true = grind (arith, nat_tests, t, b) in let w : true ≡ false = sym same ∙ e in cc)
      go true t (inr a) ih = contains_rest r x ys a
      go false t (inl a) ih = (0, omega arith, a)
      go false t (inr a) ih = contains_rest y x (with_row id ys r) (ih a)

  pub without_stays : (xs : List T) (n : ℕ) (x : T) → Contains xs x → (n == id x) ≡ false → Contains (without id xs n) x
  without_stays [] n x c e = let l = c.1 in absurd (omega arith)
  without_stays (y ∷ ys) n x c e = go (id y == n) refl (contains_cases y x ys c) (λ d. without_stays ys n x d e)
    where
      go : (t : Bool) → (id y == n) ≡ t → (y ≡ x) ⊎ Contains ys x → (Contains ys x → Contains (without id ys n) x) → Contains (cond (not t) (y ∷ without id ys n) (without id ys n)) x
      go true t (inl a) ih = (let b = ap id a in let same : (n == id x) ≡ true = grind (arith, nat_tests, t, b) in let w : true ≡ false = sym same ∙ e in cc)
      go true t (inr a) ih = ih a
      go false t (inl a) ih = (0, omega arith, a)
      go false t (inr a) ih = contains_rest y x (without id ys n) (ih a)

  -- the id of a row is below the next one
  pub id_under : (high : ℕ) (xs : List T) (x : T) → AllBelow id high xs → Contains xs x → id x < high
  id_under high [] x b c = let l = c.1 in absurd (omega arith)
  id_under high (y ∷ ys) x b c = elim (contains_cases y x ys c) [
    | inl e ↦ subst (λ (z : T). id z < high) e b.0
    | inr d ↦ id_under high ys x b.1 d
  ]

  pub contained_map : (f : T → T) (xs : List T) (x : T) → Contains xs x → Contains (map f xs) (f x)
  contained_map f [] x c = let l = c.1 in absurd (omega arith)
  contained_map f (y ∷ ys) x c = elim (contains_cases y x ys c) [
    | inl e ↦ (0, omega arith, ap f e)
    | inr d ↦ contains_rest (f y) (f x) (map f ys) (contained_map f ys x d)
  ]

-- ---- updates that miss a row

-- the kind and the id of a row that is put
abbrev pub view_kind : View → Kind
view_kind view = by_view view (λ T rules row. rules.kind)

abbrev pub view_id : View → ℕ
view_id view = by_view view (λ T rules row. rules.id row)

-- the update leaves the row of a kind and id alone
pub record Misses (kind : Kind) (n : ℕ) (u : Update) : Type 0 where
  pub puts : AllByRecursion (λ v. (same_kind (view_kind v) kind && view_id v == n) ≡ false) u.puts
  pub cuts : AllByRecursion (λ (c : Kind × ℕ). (same_kind c.0 kind && c.1 == n) ≡ false) u.cuts

-- what puts, cuts and next ids do to the rows of a kind
pub record Withstands {T : Type 0} (rules : KindRules T) : Type 0 where
  pub put : (s : State) (v : View) (x : T) → Contains (rules.row_list s).rows x → (same_kind (view_kind v) rules.kind && view_id v == rules.id x) ≡ false → Contains (rules.row_list (with_view s v)).rows x
  pub cut : (s : State) (other : Kind) (n : ℕ) (x : T) → Contains (rules.row_list s).rows x → (same_kind other rules.kind && n == rules.id x) ≡ false → Contains (rules.row_list (without_row s (other, n))).rows x
  pub next : (s : State) (other : Kind) (n : ℕ) (x : T) → Contains (rules.row_list s).rows x → Contains (rules.row_list (with_next s (other, n))).rows x
  pub spent : (s : State) (n : ℕ) (x : T) → Contains (rules.row_list s).rows x → Contains (rules.row_list (with_spent s n)).rows x

module _ {T : Type 0} (rules : KindRules T) (w : Withstands rules) where
  puts_stay : (s : State) (vs : List View) (x : T) → Contains (rules.row_list s).rows x → AllByRecursion (λ v. (same_kind (view_kind v) rules.kind && view_id v == rules.id x) ≡ false) vs
      → Contains (rules.row_list (fold with_view s vs)).rows x
  puts_stay s [] x c h = c
  puts_stay s (v ∷ vs) x c h = puts_stay (with_view s v) vs x (w.put s v x c h.0) h.1

  cuts_stay : (s : State) (cs : List (Kind × ℕ)) (x : T) → Contains (rules.row_list s).rows x → AllByRecursion (λ (c : Kind × ℕ). (same_kind c.0 rules.kind && c.1 == rules.id x) ≡ false) cs
      → Contains (rules.row_list (fold without_row s cs)).rows x
  cuts_stay s [] x c h = c
  cuts_stay s (k ∷ cs) x c h = cuts_stay (without_row s k) cs x (w.cut s k.0 k.1 x c h.0) h.1

  nexts_stay : (s : State) (ns : List (Kind × ℕ)) (x : T) → Contains (rules.row_list s).rows x → Contains (rules.row_list (fold with_next s ns)).rows x
  nexts_stay s [] x c = c
  nexts_stay s (k ∷ ns) x c = nexts_stay (with_next s k) ns x (w.next s k.0 k.1 x c)

  update_stays : (s : State) (u : Update) (x : T) → Contains (rules.row_list s).rows x → Misses rules.kind (rules.id x) u → Contains (rules.row_list (updated s u)).rows x
  update_stays s u x c m =
      w.spent (fold with_next (fold without_row (fold with_view s u.puts) u.cuts) u.next) u.spent x
      (nexts_stay (fold without_row (fold with_view s u.puts) u.cuts) u.next x (cuts_stay (fold with_view s u.puts) u.cuts x (puts_stay s u.puts x c m.puts) m.cuts))

  pub outcome_stays : (s : State) (plan : Plan) (x : T) → Contains (rules.row_list s).rows x → (verdict_of plan ≡ None → Misses rules.kind (rules.id x) plan.update) → Contains (rules.row_list (outcome s plan).0).rows x
  outcome_stays s plan x c m = go (verdict_of plan) refl
    where
      go : (v : Option Refusal) → verdict_of plan ≡ v → Contains (rules.row_list (outcome s plan).0).rows x
      go (Some refusal) e = rw (e, outcome) c
      go None e = rw (e, outcome) (update_stays s plan.update x c (m e))

pub vrfs_withstand : Withstands vrf_rules
vrfs_withstand = record { put = put; cut = cut; next = next; spent = λ s n x c. c }
  where
    put : (s : State) (v : View) (x : _) → Contains s.vrfs.rows x → (same_kind (view_kind v) Vrfs && view_id v == vrf_rules.id x) ≡ false → Contains (with_view s v).vrfs.rows x
    put s (VrfView row) x c e = with_stays vrf_rules.id s.vrfs.rows row x c e
    put s v x c e = c

    cut : (s : State) (other : Kind) (n : ℕ) (x : _) → Contains s.vrfs.rows x → (same_kind other Vrfs && n == vrf_rules.id x) ≡ false → Contains (without_row s (other, n)).vrfs.rows x
    cut s Vrfs n x c e = without_stays vrf_rules.id s.vrfs.rows n x c e
    cut s other n x c e = c

    next : (s : State) (other : Kind) (n : ℕ) (x : _) → Contains s.vrfs.rows x → Contains (with_next s (other, n)).vrfs.rows x
    next s Vrfs n x c = c
    next s other n x c = c

pub rirs_withstand : Withstands rir_rules
rirs_withstand = record { put = put; cut = cut; next = next; spent = λ s n x c. c }
  where
    put : (s : State) (v : View) (x : _) → Contains s.rirs.rows x → (same_kind (view_kind v) Rirs && view_id v == rir_rules.id x) ≡ false → Contains (with_view s v).rirs.rows x
    put s (RirView row) x c e = with_stays rir_rules.id s.rirs.rows row x c e
    put s v x c e = c

    cut : (s : State) (other : Kind) (n : ℕ) (x : _) → Contains s.rirs.rows x → (same_kind other Rirs && n == rir_rules.id x) ≡ false → Contains (without_row s (other, n)).rirs.rows x
    cut s Rirs n x c e = without_stays rir_rules.id s.rirs.rows n x c e
    cut s other n x c e = c

    next : (s : State) (other : Kind) (n : ℕ) (x : _) → Contains s.rirs.rows x → Contains (with_next s (other, n)).rirs.rows x
    next s Rirs n x c = c
    next s other n x c = c

pub roles_withstand : Withstands role_rules
roles_withstand = record { put = put; cut = cut; next = next; spent = λ s n x c. c }
  where
    put : (s : State) (v : View) (x : _) → Contains s.roles.rows x → (same_kind (view_kind v) Roles && view_id v == role_rules.id x) ≡ false → Contains (with_view s v).roles.rows x
    put s (RoleView row) x c e = with_stays role_rules.id s.roles.rows row x c e
    put s v x c e = c

    cut : (s : State) (other : Kind) (n : ℕ) (x : _) → Contains s.roles.rows x → (same_kind other Roles && n == role_rules.id x) ≡ false → Contains (without_row s (other, n)).roles.rows x
    cut s Roles n x c e = without_stays role_rules.id s.roles.rows n x c e
    cut s other n x c e = c

    next : (s : State) (other : Kind) (n : ℕ) (x : _) → Contains s.roles.rows x → Contains (with_next s (other, n)).roles.rows x
    next s Roles n x c = c
    next s other n x c = c

pub aggregates_withstand : Withstands aggregate_rules
aggregates_withstand = record { put = put; cut = cut; next = next; spent = λ s n x c. c }
  where
    put : (s : State) (v : View) (x : _) → Contains s.aggregates.rows x → (same_kind (view_kind v) Aggregates && view_id v == aggregate_rules.id x) ≡ false → Contains (with_view s v).aggregates.rows x
    put s (AggregateView row) x c e = with_stays aggregate_rules.id s.aggregates.rows row x c e
    put s v x c e = c

    cut : (s : State) (other : Kind) (n : ℕ) (x : _) → Contains s.aggregates.rows x → (same_kind other Aggregates && n == aggregate_rules.id x) ≡ false → Contains (without_row s (other, n)).aggregates.rows x
    cut s Aggregates n x c e = without_stays aggregate_rules.id s.aggregates.rows n x c e
    cut s other n x c e = c

    next : (s : State) (other : Kind) (n : ℕ) (x : _) → Contains s.aggregates.rows x → Contains (with_next s (other, n)).aggregates.rows x
    next s Aggregates n x c = c
    next s other n x c = c

pub prefixes_withstand : Withstands prefix_rules
prefixes_withstand = record { put = put; cut = cut; next = next; spent = λ s n x c. c }
  where
    put : (s : State) (v : View) (x : _) → Contains s.prefixes.rows x → (same_kind (view_kind v) Prefixes && view_id v == prefix_rules.id x) ≡ false → Contains (with_view s v).prefixes.rows x
    put s (PrefixView row depth children) x c e = with_stays prefix_rules.id s.prefixes.rows row x c e
    put s v x c e = c

    cut : (s : State) (other : Kind) (n : ℕ) (x : _) → Contains s.prefixes.rows x → (same_kind other Prefixes && n == prefix_rules.id x) ≡ false → Contains (without_row s (other, n)).prefixes.rows x
    cut s Prefixes n x c e = without_stays prefix_rules.id s.prefixes.rows n x c e
    cut s other n x c e = c

    next : (s : State) (other : Kind) (n : ℕ) (x : _) → Contains s.prefixes.rows x → Contains (with_next s (other, n)).prefixes.rows x
    next s Prefixes n x c = c
    next s other n x c = c

pub ranges_withstand : Withstands range_rules
ranges_withstand = record { put = put; cut = cut; next = next; spent = λ s n x c. c }
  where
    put : (s : State) (v : View) (x : _) → Contains s.ranges.rows x → (same_kind (view_kind v) Ranges && view_id v == range_rules.id x) ≡ false → Contains (with_view s v).ranges.rows x
    put s (RangeView row) x c e = with_stays range_rules.id s.ranges.rows row x c e
    put s v x c e = c

    cut : (s : State) (other : Kind) (n : ℕ) (x : _) → Contains s.ranges.rows x → (same_kind other Ranges && n == range_rules.id x) ≡ false → Contains (without_row s (other, n)).ranges.rows x
    cut s Ranges n x c e = without_stays range_rules.id s.ranges.rows n x c e
    cut s other n x c e = c

    next : (s : State) (other : Kind) (n : ℕ) (x : _) → Contains s.ranges.rows x → Contains (with_next s (other, n)).ranges.rows x
    next s Ranges n x c = c
    next s other n x c = c

pub addresses_withstand : Withstands address_rules
addresses_withstand = record { put = put; cut = cut; next = next; spent = λ s n x c. c }
  where
    put : (s : State) (v : View) (x : _) → Contains s.addresses.rows x → (same_kind (view_kind v) Addresses && view_id v == address_rules.id x) ≡ false → Contains (with_view s v).addresses.rows x
    put s (AddressView row) x c e = with_stays address_rules.id s.addresses.rows row x c e
    put s v x c e = c

    cut : (s : State) (other : Kind) (n : ℕ) (x : _) → Contains s.addresses.rows x → (same_kind other Addresses && n == address_rules.id x) ≡ false → Contains (without_row s (other, n)).addresses.rows x
    cut s Addresses n x c e = without_stays address_rules.id s.addresses.rows n x c e
    cut s other n x c e = c

    next : (s : State) (other : Kind) (n : ℕ) (x : _) → Contains s.addresses.rows x → Contains (with_next s (other, n)).addresses.rows x
    next s Addresses n x c = c
    next s other n x c = c
