-- The empty tables stand for the empty state alone.
use Rattle.std.proofs.Common.{◌≡◌, ℕ, Bool, List, [], ◌∷◌, ◌++◌, refl, ap, sym, ◌∙◌, map, get_or}
use Rattle.std.specs.List.{flat_map}
use Rattle.ipam_data.specs.declared.kinds.Kind.{Kind}
use Rattle.ipam_data.specs.declared.kinds.Kind.TheVariants.{Vrfs, Rirs, Roles, Aggregates, Prefixes, Ranges, Addresses}
use Rattle.ipam_data.specs.declared.vrf.Vrf.{Vrf}
use Rattle.ipam_data.specs.declared.rir.Rir.{Rir}
use Rattle.ipam_data.specs.declared.role.Role.{Role}
use Rattle.ipam_data.specs.declared.aggregate.Aggregate.{Aggregate}
use Rattle.ipam_data.specs.declared.prefix.Prefix.{Prefix}
use Rattle.ipam_data.specs.declared.range.IpRange.{IpRange}
use Rattle.ipam_data.specs.declared.address.IpAddress.{IpAddress}
use Rattle.ipam_data.specs.RowList.{RowList}
use Rattle.ipam_data.specs.State.{State, empty_row_list, empty_state}
use Rattle.stored_tables.specs.declared.tables.Row.{Row}
use Rattle.stored_tables.specs.declared.tables.Tables.{Tables}
use Rattle.stored_tables.specs.Stored.{stored_rows, stored_vrf, stored_rir, stored_role, stored_aggregate, stored_prefix, stored_range, stored_address}
use Rattle.stored_tables.specs.Order.{empty_tables}
use Rattle.stored_tables.specs.Opening.{IsOpening}

front_empty : {T : Type 0} (a b : List T) → a ++ b ≡ [] → a ≡ []
front_empty [] b e = refl
front_empty (x ∷ xs) b e = absurd (cc)

rest_empty : {T : Type 0} (a b : List T) → a ++ b ≡ [] → b ≡ []
rest_empty [] b e = e
rest_empty (x ∷ xs) b e = absurd (cc)

none_mapped : {T U : Type 0} (f : T → U) (xs : List T) → map f xs ≡ [] → xs ≡ []
none_mapped f [] e = refl
none_mapped f (x ∷ xs) e = absurd (cc)

-- a kind without rows whose next id is 1
is_empty : {T : Type 0} (row_list : RowList T) (f : T → Row) → map f row_list.rows ≡ [] → row_list.next ≡ 1 → row_list ≡ empty_row_list
is_empty {T} row_list f none one =
    ap (λ (rows : List T). record { rows = rows; next = row_list.next }) (none_mapped f row_list.rows none) ∙ ap (λ (n : ℕ). record { rows = []; next = n }) one

-- the next id that stands at an index
abbrev next_at : List (Kind × ℕ) → ℕ → ℕ
next_at nexts k = (get_or nexts k (Vrfs, 0)).1

abbrev state : RowList Vrf → RowList Rir → RowList Role → RowList Aggregate → RowList Prefix → RowList IpRange → RowList IpAddress → Bool → ℕ → State
state a b c d e f g unique spent =
    record { vrfs = a; rirs = b; roles = c; aggregates = d; prefixes = e; ranges = f; addresses = g; global_unique = unique; spent = spent }

same_state : (s : State) (unique : Bool) → s.vrfs ≡ empty_row_list → s.rirs ≡ empty_row_list → s.roles ≡ empty_row_list → s.aggregates ≡ empty_row_list
    → s.prefixes ≡ empty_row_list → s.ranges ≡ empty_row_list → s.addresses ≡ empty_row_list → s.global_unique ≡ unique → s.spent ≡ 0 → s ≡ empty_state unique
same_state s unique a b c d e f g u n =
    ap (λ x. state x s.rirs s.roles s.aggregates s.prefixes s.ranges s.addresses s.global_unique s.spent) a
    ∙ ap (λ x. state empty_row_list x s.roles s.aggregates s.prefixes s.ranges s.addresses s.global_unique s.spent) b
    ∙ ap (λ x. state empty_row_list empty_row_list x s.aggregates s.prefixes s.ranges s.addresses s.global_unique s.spent) c
    ∙ ap (λ x. state empty_row_list empty_row_list empty_row_list x s.prefixes s.ranges s.addresses s.global_unique s.spent) d
    ∙ ap (λ x. state empty_row_list empty_row_list empty_row_list empty_row_list x s.ranges s.addresses s.global_unique s.spent) e
    ∙ ap (λ x. state empty_row_list empty_row_list empty_row_list empty_row_list empty_row_list x s.addresses s.global_unique s.spent) f
    ∙ ap (λ x. state empty_row_list empty_row_list empty_row_list empty_row_list empty_row_list empty_row_list x s.global_unique s.spent) g
    ∙ ap (λ x. state empty_row_list empty_row_list empty_row_list empty_row_list empty_row_list empty_row_list empty_row_list x s.spent) u
    ∙ ap (λ x. state empty_row_list empty_row_list empty_row_list empty_row_list empty_row_list empty_row_list empty_row_list unique x) n

-- of rows kind after kind there are none of the first kind, and none of the others
first_kind : (s : State) (kind : Kind) (rest : List Kind) → flat_map (stored_rows s) (kind ∷ rest) ≡ [] → stored_rows s kind ≡ []
first_kind s kind rest e = front_empty (stored_rows s kind) (flat_map (stored_rows s) rest) e

other_kinds : (s : State) (kind : Kind) (rest : List Kind) → flat_map (stored_rows s) (kind ∷ rest) ≡ [] → flat_map (stored_rows s) rest ≡ []
other_kinds s kind rest e = rest_empty (stored_rows s kind) (flat_map (stored_rows s) rest) e

pub empty_opened : (tables : Tables) (unique : Bool) (s : State) → empty_tables ≡ tables → IsOpening tables unique s → s ≡ empty_state unique
empty_opened tables unique s is opening =
    let told = opening.tables_are ∙ sym is in
    let nexts = ap (λ (t : Tables). t.next) told in
    let r1 = ap (λ (t : Tables). t.rows) told in
    let r2 = other_kinds s Vrfs (Rirs ∷ Roles ∷ Aggregates ∷ Prefixes ∷ Ranges ∷ Addresses ∷ []) r1 in
    let r3 = other_kinds s Rirs (Roles ∷ Aggregates ∷ Prefixes ∷ Ranges ∷ Addresses ∷ []) r2 in
    let r4 = other_kinds s Roles (Aggregates ∷ Prefixes ∷ Ranges ∷ Addresses ∷ []) r3 in
    let r5 = other_kinds s Aggregates (Prefixes ∷ Ranges ∷ Addresses ∷ []) r4 in
    let r6 = other_kinds s Prefixes (Ranges ∷ Addresses ∷ []) r5 in
    let r7 = other_kinds s Ranges (Addresses ∷ []) r6 in
    same_state s unique
    (is_empty s.vrfs stored_vrf (first_kind s Vrfs (Rirs ∷ Roles ∷ Aggregates ∷ Prefixes ∷ Ranges ∷ Addresses ∷ []) r1) (ap (λ (l : List (Kind × ℕ)). next_at l 0) nexts))
    (is_empty s.rirs stored_rir (first_kind s Rirs (Roles ∷ Aggregates ∷ Prefixes ∷ Ranges ∷ Addresses ∷ []) r2) (ap (λ (l : List (Kind × ℕ)). next_at l 1) nexts))
    (is_empty s.roles stored_role (first_kind s Roles (Aggregates ∷ Prefixes ∷ Ranges ∷ Addresses ∷ []) r3) (ap (λ (l : List (Kind × ℕ)). next_at l 2) nexts))
    (is_empty s.aggregates stored_aggregate (first_kind s Aggregates (Prefixes ∷ Ranges ∷ Addresses ∷ []) r4) (ap (λ (l : List (Kind × ℕ)). next_at l 3) nexts))
    (is_empty s.prefixes stored_prefix (first_kind s Prefixes (Ranges ∷ Addresses ∷ []) r5) (ap (λ (l : List (Kind × ℕ)). next_at l 4) nexts))
    (is_empty s.ranges stored_range (first_kind s Ranges (Addresses ∷ []) r6) (ap (λ (l : List (Kind × ℕ)). next_at l 5) nexts))
    (is_empty s.addresses stored_address (first_kind s Addresses [] r7) (ap (λ (l : List (Kind × ℕ)). next_at l 6) nexts))
    opening.unique opening.spent
