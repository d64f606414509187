-- The lists follow the state.
use Rattle.std.proofs.Common.{◌≡◌, ℕ, List, [], ◌∷◌, fold, filter, refl, ap, ◌∙◌}
use Rattle.ipam_data.specs.declared.kinds.Kind.{Kind}
use Rattle.ipam_data.specs.declared.kinds.Kind.TheVariants.{Vrfs, Rirs, Roles, Aggregates, Prefixes, Ranges, Addresses}
use Rattle.ipam_data.specs.declared.replies.View.{View}
use Rattle.ipam_data.specs.declared.replies.View.TheVariants.{Vrf as VrfView, Rir as RirView, Role as RoleView, Aggregate as AggregateView, Prefix as PrefixView, IpRange as RangeView, IpAddress as AddressView}
use Rattle.ipam_data.specs.declared.update.Update.{Update}
use Rattle.ipam_data.specs.State.{State}
use Rattle.ipam_data.specs.Updates.{with_view, without_row, with_next, updated}
use Rattle.snapshot_rows.specs.Lists.{Lists, lists_of, is_listed, with_listed, without_listed, after_update}

one_put : (s : State) (view : View) → lists_of (with_view s view) ≡ with_listed (lists_of s) view
one_put s (VrfView row) = refl
one_put s (RirView row) = refl
one_put s (RoleView row) = refl
one_put s (AggregateView row) = refl
one_put s (PrefixView row depth children) = refl
one_put s (RangeView row) = refl
one_put s (AddressView row) = refl

all_put : (s : State) (views : List View) → lists_of (fold with_view s views) ≡ fold with_listed (lists_of s) views
all_put s [] = refl
all_put s (view ∷ views) = all_put (with_view s view) views ∙ ap (λ (r : Lists). fold with_listed r views) (one_put s view)

one_cut : (s : State) (kind : Kind) (n : ℕ) → lists_of (without_row s (kind, n)) ≡ without_listed (lists_of s) (kind, n)
one_cut s Vrfs n = refl
one_cut s Rirs n = refl
one_cut s Roles n = refl
one_cut s Aggregates n = refl
one_cut s Prefixes n = refl
one_cut s Ranges n = refl
one_cut s Addresses n = refl

all_cut : (s : State) (cuts : List (Kind × ℕ)) → lists_of (fold without_row s cuts) ≡ fold without_listed (lists_of s) cuts
all_cut s [] = refl
all_cut s (cut ∷ cuts) = all_cut (without_row s cut) cuts ∙ ap (λ (r : Lists). fold without_listed r cuts) (one_cut s cut.0 cut.1)

one_next : (s : State) (kind : Kind) (n : ℕ) → lists_of (with_next s (kind, n)) ≡ lists_of s
one_next s Vrfs n = refl
one_next s Rirs n = refl
one_next s Roles n = refl
one_next s Aggregates n = refl
one_next s Prefixes n = refl
one_next s Ranges n = refl
one_next s Addresses n = refl

all_next : (s : State) (nexts : List (Kind × ℕ)) → lists_of (fold with_next s nexts) ≡ lists_of s
all_next s [] = refl
all_next s (next ∷ nexts) = all_next (with_next s next) nexts ∙ one_next s next.0 next.1

-- after an update the lists are what it makes of them
pub lists_follow : (s : State) (u : Update) → lists_of (updated s u) ≡ after_update (lists_of s) u
lists_follow s u =
    all_next (fold without_row (fold with_view s u.puts) u.cuts) u.next
    ∙ (all_cut (fold with_view s u.puts) u.cuts ∙ ap (λ (r : Lists). fold without_listed r u.cuts) (all_put s u.puts))

-- the same of a whole history
pub history_follows : (s : State) (history : List Update) → lists_of (fold updated s history) ≡ fold after_update (lists_of s) history
history_follows s [] = refl
history_follows s (u ∷ us) = history_follows (updated s u) us ∙ ap (λ (r : Lists). fold after_update r us) (lists_follow s u)

-- rows of other kinds change nothing
pub only_listed : (rows : Lists) (views : List View) → fold with_listed rows (filter is_listed views) ≡ fold with_listed rows views
only_listed rows [] = refl
only_listed rows (VrfView row ∷ views) = only_listed (with_listed rows (VrfView row)) views
only_listed rows (RirView row ∷ views) = only_listed rows views
only_listed rows (RoleView row ∷ views) = only_listed rows views
only_listed rows (AggregateView row ∷ views) = only_listed rows views
only_listed rows (PrefixView row depth children ∷ views) = only_listed (with_listed rows (PrefixView row depth children)) views
only_listed rows (RangeView row ∷ views) = only_listed rows views
only_listed rows (AddressView row ∷ views) = only_listed rows views

view_spends : (s : State) (view : View) → (with_view s view).spent ≡ s.spent
view_spends s (VrfView row) = refl
view_spends s (RirView row) = refl
view_spends s (RoleView row) = refl
view_spends s (AggregateView row) = refl
view_spends s (PrefixView row depth children) = refl
view_spends s (RangeView row) = refl
view_spends s (AddressView row) = refl

views_spend : (s : State) (views : List View) → (fold with_view s views).spent ≡ s.spent
views_spend s [] = refl
views_spend s (view ∷ views) = views_spend (with_view s view) views ∙ view_spends s view

cut_spends : (s : State) (kind : Kind) (n : ℕ) → (without_row s (kind, n)).spent ≡ s.spent
cut_spends s Vrfs n = refl
cut_spends s Rirs n = refl
cut_spends s Roles n = refl
cut_spends s Aggregates n = refl
cut_spends s Prefixes n = refl
cut_spends s Ranges n = refl
cut_spends s Addresses n = refl

cuts_spend : (s : State) (cuts : List (Kind × ℕ)) → (fold without_row s cuts).spent ≡ s.spent
cuts_spend s [] = refl
cuts_spend s (cut ∷ cuts) = cuts_spend (without_row s cut) cuts ∙ cut_spends s cut.0 cut.1

-- rows that come and go spend no log items
pub none_spent : (s : State) (views : List View) (cuts : List (Kind × ℕ)) (nexts : List (Kind × ℕ)) → nexts ≡ [] → (fold with_next (fold without_row (fold with_view s views) cuts) nexts).spent ≡ s.spent
none_spent s views cuts nexts e = ap (λ (ns : List (Kind × ℕ)). (fold with_next (fold without_row (fold with_view s views) cuts) ns).spent) e ∙ (cuts_spend (fold with_view s views) cuts ∙ views_spend s views)
