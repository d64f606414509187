-- Drafts are the same where the texts under which they are stored have one key: what is written of a record is read as that record.
use Rattle.std.proofs.Common.{◌≡◌, ◌∙◌, ℕ, ◌+◌, Bool, true, false, cond, List, [], ◌∷◌, map, refl, ap, ap₂, sym, subst, arith, count_by}
use Rattle.std.specs.Prelude.{bytes_eq}
use Rattle.std.specs.List.{AllByRecursion}
use Rattle.std.proofs.lemmas.List.Sums.{sum_by-cons}
use Rattle.std.proofs.lemmas.Slice.Eq.{bytes_eq-Decides}
use Rattle.ipam_data.specs.declared.kinds.Kind.{Kind}
use Rattle.ipam_data.specs.declared.calls.Draft.{Draft}
use Rattle.ipam_data.specs.declared.calls.Draft.TheVariants.{Vrf as VrfDraft, Rir as RirDraft, Role as RoleDraft, Aggregate as AggregateDraft, Prefix as PrefixDraft, IpRange as RangeDraft, IpAddress as AddressDraft}
use Rattle.ipam_data.specs.declared.replies.View.{View}
use Rattle.ipam_data.specs.declared.replies.View.TheVariants.{Vrf as VrfView, Rir as RirView, Role as RoleView, Aggregate as AggregateView, Prefix as PrefixView, IpRange as RangeView, IpAddress as AddressView}
use Rattle.ipam_data.specs.Texts.{IsLowered}
use Rattle.ipam_data.specs.ByKind.{by_view}
use Rattle.ipam_data.specs.Fields.{drafted, kind_of_draft, recorded, same_draft}
use Rattle.ipam_data.specs.Imports.{times}
use Rattle.ipam_data.proofs.DraftLaws.{HasRowBounds}
use Rattle.ipam_data.proofs.SameDrafts.{same_decides}
use Rattle.stored_tables.specs.Stored.{stored_row, vrf_texts, rir_texts, role_texts, aggregate_texts, prefix_texts, range_texts, address_texts}
use Rattle.stored_tables.specs.Reading.{IsWord, IsAbsentOr, row_of}
use Rattle.stored_tables.proofs.ReadBack.{one_row}
use Rattle.register_plans.specs.ReadyRows.{texts_of, key_of_draft}
use Rattle.register_plans.specs.KeptDrafts.{IsKept}
use Rattle.register_plans.proofs.SpelledKeys.{exact}

-- ---- drafts as records keep them

-- the ids of other kinds that a row names are numbers of a u32
abbrev pub NamesWords : View → Type 0
NamesWords (VrfView row) = Unit {0}
NamesWords (RirView row) = Unit {0}
NamesWords (RoleView row) = Unit {0}
NamesWords (AggregateView row) = IsWord row.rir
NamesWords (PrefixView row depth children) = IsAbsentOr IsWord row.vrf × IsAbsentOr IsWord row.role
NamesWords (RangeView row) = IsAbsentOr IsWord row.vrf × IsAbsentOr IsWord row.role
NamesWords (AddressView row) = IsAbsentOr IsWord row.vrf

-- the kind of a row
abbrev pub kind_of_view : View → Kind
kind_of_view view = by_view view (λ T rules row. rules.kind)

-- so the draft of a row is one
pub kept_view : (view : View) → HasRowBounds view → NamesWords view → IsKept (kind_of_view view) (recorded view)
kept_view (VrfView row) b w = record { is_of = refl; bare = record { low = omega arith; high = omega arith; bounds = record { name = b.name; rd = b.rd; description = b.description } }; same = refl }
kept_view (RirView row) b w = record { is_of = refl; bare = record { low = omega arith; high = omega arith; bounds = record { name = b.name; slug = b.slug; description = b.description } }; same = refl }
kept_view (RoleView row) b w =
    record { is_of = refl; bare = record { low = omega arith; high = omega arith; bounds = record { name = b.name; slug = b.slug; weight = b.weight; description = b.description } }; same = refl }
kept_view (AggregateView row) b w =
    record { is_of = refl; bare = record { low = omega arith; high = omega arith; rir = w; bounds = record { block = b.block; description = b.description } }; same = refl }
kept_view (PrefixView row depth children) b w = record {
  is_of = refl;
  bare = (record { low = omega arith; high = omega arith; vrf = w.0; role = w.1; bounds = record { block = b.block; description = b.description } }, refl, refl);
  same = refl;
}
kept_view (RangeView row) b w = record {
  is_of = refl;
  bare = record {
    low = omega arith;
    high = omega arith;
    vrf = w.0;
    role = w.1;
    bounds = record { ends = record { start = b.ends.start; end = b.ends.end; start_short = b.ends.start_short; end_short = b.ends.end_short }; description = b.description };
  };
  same = refl;
}
kept_view (AddressView row) b w = record {
  is_of = refl;
  bare = record {
    low = omega arith;
    high = omega arith;
    vrf = w;
    bounds = record { host = b.host; dns_name = subst IsLowered (sym b.dns_name.lower) b.dns_name; description = b.description };
  };
  same = ap (λ (t : List ℕ). AddressDraft row.host row.vrf row.status row.role t row.description) b.dns_name.lower;
}

-- ---- the texts of a draft

-- they are those of the row whose draft it is
pub recorded_texts : (view : View) → HasRowBounds view → texts_of (recorded view) ≡ (stored_row view).fields
unfolding texts_of vrf_texts rir_texts role_texts aggregate_texts prefix_texts range_texts address_texts
recorded_texts (VrfView row) b = refl
recorded_texts (RirView row) b = refl
recorded_texts (RoleView row) b = refl
recorded_texts (AggregateView row) b = refl
recorded_texts (PrefixView row depth children) b = refl
recorded_texts (RangeView row) b = refl
recorded_texts (AddressView row) b =
    ap (λ (t : List ℕ). address_texts (record { id = 0; host = row.host; vrf = row.vrf; status = row.status; role = row.role; dns_name = t; description = row.description })) b.dns_name.lower

-- a row is stored under its kind, its id and these
stored_is : (d : Draft) → stored_row (drafted 1 d) ≡ row_of (kind_of_draft d) 1 (texts_of d)
unfolding texts_of vrf_texts rir_texts role_texts aggregate_texts prefix_texts range_texts address_texts
stored_is (VrfDraft name rd enforce_unique description) = refl
stored_is (RirDraft name slug is_private description) = refl
stored_is (RoleDraft name slug weight description) = refl
stored_is (AggregateDraft block rir description) = refl
stored_is (PrefixDraft block vrf status role is_pool mark_utilized description) = refl
stored_is (RangeDraft start end vrf status role mark_utilized mark_populated description) = refl
stored_is (AddressDraft host vrf status role dns_name description) = refl

-- two drafts of a kind with the same texts are one
pub one_draft : (kind : Kind) (a b : Draft) → IsKept kind a → IsKept kind b → texts_of a ≡ texts_of b → a ≡ b
one_draft kind a b h k e =
    let alike : stored_row (drafted 1 a) ≡ stored_row (drafted 1 b) =
    stored_is a ∙ ap₂ (λ (of : Kind) (texts : List (List ℕ)). row_of of 1 texts) (h.is_of ∙ sym k.is_of) e ∙ sym (stored_is b) in
    sym h.same ∙ ap recorded (one_row (drafted 1 a) (drafted 1 b) h.bare k.bare alike) ∙ k.same

-- ---- keys

-- drafts are the same where they have one key
pub same_keys : (kind : Kind) (a b : Draft) → IsKept kind a → IsKept kind b → same_draft a b ≡ bytes_eq (key_of_draft a) (key_of_draft b)
same_keys kind a b h k = go (same_draft a b) refl (bytes_eq (key_of_draft a) (key_of_draft b)) refl
  where
    go : (t : Bool) → same_draft a b ≡ t → (u : Bool) → bytes_eq (key_of_draft a) (key_of_draft b) ≡ u → t ≡ u
    go true t true u = refl
    go false t false u = refl
    go true t false u =
        let e : bytes_eq (key_of_draft a) (key_of_draft b) ≡ true = (bytes_eq-Decides (key_of_draft a) (key_of_draft b)).1 (ap key_of_draft ((same_decides a b).0 t)) in
        sym e ∙ u
    go false t true u =
        let texts = exact (texts_of a) (texts_of b) ((bytes_eq-Decides (key_of_draft a) (key_of_draft b)).0 u) in
        sym t ∙ (same_decides a b).1 (one_draft kind a b h k texts)

-- so drafts are there as often as their keys are
pub times_keys : (kind : Kind) (d : Draft) (ds : List Draft) → IsKept kind d → AllByRecursion (IsKept kind) ds → times d ds ≡ count_by (bytes_eq (key_of_draft d)) (map key_of_draft ds)
unfolding times
times_keys kind d [] h all = refl
times_keys kind d (x ∷ xs) h all =
    sum_by-cons (λ (y : Draft). cond (same_draft d y) 1 0) x xs
    ∙ ap₂ (λ a b. a + b) (ap (λ t. cond {A = ℕ} t 1 0) (same_keys kind d x h all.0)) (times_keys kind d xs h all.1)
    ∙ sym (sum_by-cons (λ (k : List ℕ). cond (bytes_eq (key_of_draft d) k) 1 0) (key_of_draft x) (map key_of_draft xs))
