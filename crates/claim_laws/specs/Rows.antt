-- The rows of the register over a call: they stay until a call changes or deletes them, and no id is given twice.
use Rattle.std.specs.Prelude.{◌≡◌, ◌≢◌, ℕ, ◌≤◌, ◌==◌, ◌&&◌, ◌⊎◌, Bool, true, false, Contains, List, ◌++◌, Option, None, IsSome, map}
use Rattle.inet_num.specs.Count.{numbers_from}
use Rattle.ipam_data.specs.declared.calls.Answered.{Answered}
use Rattle.ipam_data.specs.declared.calls.Call.{Call}
use Rattle.ipam_data.specs.declared.calls.Call.TheVariants.{Change, Delete}
use Rattle.ipam_data.specs.declared.kinds.Kind.{Kind}
use Rattle.ipam_data.specs.declared.kinds.Kind.TheVariants.{Roles}
use Rattle.ipam_data.specs.declared.replies.Reply.{Reply}
use Rattle.ipam_data.specs.declared.replies.View.{View}
use Rattle.ipam_data.specs.Rows.{vrf_id, rir_id, role_id, aggregate_id, prefix_id, range_id, address_id, most_vrfs, most_rirs, most_roles, most_aggregates, most_prefixes, most_ranges, most_addresses, same_kind}
use Rattle.ipam_data.specs.Tables.{is_named}
use Rattle.ipam_data.specs.RowList.{IsRowList, row_at}
use Rattle.ipam_data.specs.State.{State}
use Rattle.ipam_data.specs.Plans.{KindRules}
use Rattle.ipam_data.specs.Vrfs.{vrf_rules}
use Rattle.ipam_data.specs.Rirs.{rir_rules}
use Rattle.ipam_data.specs.Roles.{role_rules}
use Rattle.ipam_data.specs.Aggregates.{aggregate_rules}
use Rattle.ipam_data.specs.Prefixes.{prefix_rules}
use Rattle.ipam_data.specs.Ranges.{range_rules}
use Rattle.ipam_data.specs.Addresses.{address_rules}
use Rattle.ipam_data.specs.Fields.{kind_of_edit}
use Rattle.ipam_data.specs.Claims.{served}
use Rattle.ipam_data.specs.Steps.{plain_step}
use Rattle.ipam_data.specs.Lawful.{IsLawful}

-- ---- rows in order

-- the rows of each kind are in the order of their ids, below the next one, and are within their limit; a lawful state is so
pub record IsListed (s : State) : Type 0 where
  pub vrfs : IsRowList vrf_id most_vrfs s.vrfs
  pub rirs : IsRowList rir_id most_rirs s.rirs
  pub roles : IsRowList role_id most_roles s.roles
  pub aggregates : IsRowList aggregate_id most_aggregates s.aggregates
  pub prefixes : IsRowList prefix_id most_prefixes s.prefixes
  pub ranges : IsRowList range_id most_ranges s.ranges
  pub addresses : IsRowList address_id most_addresses s.addresses

-- a lawful state is listed, and each call leaves a listed one, also a call that is not within its bounds
pub record StepsKeepListed : Type 0 where
  pub lawful : (s : State) → IsLawful s → IsListed s
  pub steps : (s : State) (call : Call) → IsListed s → IsListed (plain_step s call).0

-- ---- what a call made

-- the row exists after the call, and none with its id existed before
abbrev pub IsMade : {T : Type 0} → KindRules T → State → Call → T → Type 0
IsMade {T} rules s call x = Contains (rules.row_list (plain_step s call).0).rows x
    × ((y : T) → Contains (rules.row_list s).rows y → rules.id y ≢ rules.id x)

-- these rows were put after those that existed, one for each of so many items, under the next ids, and they are the answer
pub record Came {T : Type 0} (rules : KindRules T) (s : State) (done : State × Reply) (form : Answered) (items : ℕ) (view : T → View)
    (rows : List T) : Type 0 where
  pub behind : (rules.row_list done.0).rows ≡ (rules.row_list s).rows ++ rows
  pub ids : map rules.id rows ≡ numbers_from (rules.row_list s).next items
  pub reply : done.1 ≡ served form (map view rows)

-- ---- rows stay

-- the call changes or takes out the row of this kind and id
abbrev pub touches : Kind → ℕ → Call → Bool
touches kind n (Change m edit) = same_kind (kind_of_edit edit) kind && m == n
touches kind n (Delete other m) = same_kind other kind && m == n
touches kind n call = false

-- the call takes out the role that a row names, if any
abbrev pub takes_role : Option ℕ → Call → Bool
takes_role role (Delete kind n) = same_kind kind Roles && is_named n role
takes_role role call = false

-- a row that a call does not touch stays as it is
abbrev pub RowsOfKindStay : {T : Type 0} → KindRules T → Type 0
RowsOfKindStay {T} rules = (s : State) (call : Call) (x : T) → IsListed s → Contains (rules.row_list s).rows x
    → touches rules.kind (rules.id x) call ≡ false
    → Contains (rules.row_list (plain_step s call).0).rows x

-- it does, or its role goes, and it stays without it
abbrev pub RowsWithRolesStay : {T : Type 0} → KindRules T → (T → Option ℕ) → (T → T) → Type 0
RowsWithRolesStay {T} rules role_of forget = (s : State) (call : Call) (x : T) → IsListed s → Contains (rules.row_list s).rows x
    → touches rules.kind (rules.id x) call ≡ false
    → Contains (rules.row_list (plain_step s call).0).rows x ⊎ ((takes_role (role_of x) call ≡ true) × Contains (rules.row_list (plain_step s call).0).rows (forget x))

-- so the rows of each kind stay
pub record RowsStay : Type 0 where
  pub vrfs : RowsOfKindStay vrf_rules
  pub rirs : RowsOfKindStay rir_rules
  pub roles : RowsOfKindStay role_rules
  pub aggregates : RowsOfKindStay aggregate_rules
  pub prefixes : RowsWithRolesStay prefix_rules (λ row. row.role) (λ row. record row { role = None })
  pub ranges : RowsWithRolesStay range_rules (λ row. row.role) (λ row. record row { role = None })
  pub addresses : RowsOfKindStay address_rules

-- ---- ids are new

-- the next id of a kind never falls, and a row that exists after a call has the id of one that existed, or one from the next id on,
-- which in a listed state is above all that existed
abbrev pub IdsOfKindAreNew : {T : Type 0} → KindRules T → Type 0
IdsOfKindAreNew {T} rules = (s : State) (call : Call)
    → ((rules.row_list s).next ≤ (rules.row_list (plain_step s call).0).next)
    × ((x : T) → Contains (rules.row_list (plain_step s call).0).rows x → IsSome (row_at rules.id (rules.row_list s).rows (rules.id x)) ⊎ ((rules.row_list s).next ≤ rules.id x))

pub record IdsAreNew : Type 0 where
  pub vrfs : IdsOfKindAreNew vrf_rules
  pub rirs : IdsOfKindAreNew rir_rules
  pub roles : IdsOfKindAreNew role_rules
  pub aggregates : IdsOfKindAreNew aggregate_rules
  pub prefixes : IdsOfKindAreNew prefix_rules
  pub ranges : IdsOfKindAreNew range_rules
  pub addresses : IdsOfKindAreNew address_rules
