-- The calls and rows of the examples, in short.
use Rattle.std.proofs.Common.{ℕ, Bool, List, [], ◌∷◌, None, false, codes, Option}
use Rattle.inet_num.specs.declared.Family.TheVariants.{V4, V6}
use Rattle.inet_num.specs.Net.{Cidr}
use Rattle.ipam_data.specs.declared.address.AddressRole.{AddressRole}
use Rattle.ipam_data.specs.declared.calls.Call.{Call}
use Rattle.ipam_data.specs.declared.calls.Call.TheVariants.{Create}
use Rattle.ipam_data.specs.declared.calls.Draft.TheVariants.{Vrf as VrfDraft, Rir as RirDraft, Role as RoleDraft, Aggregate as AggregateDraft}
use Rattle.ipam_data.specs.declared.replies.View.{View}
use Rattle.ipam_data.specs.declared.replies.View.TheVariants.{Prefix as PrefixView}
use Rattle.ipam_data.specs.Hosts.{Masked, RangeEnds}
use Rattle.ipam_data.specs.State.{State}
use Rattle.ipam_data.specs.Fields.{drafted, plain_prefix, plain_range, plain_address}
use Rattle.ipam_data.specs.Steps.{plain_step}

-- the state after these calls
abbrev pub after : State → List Call → State
after s [] = s
after s (call ∷ calls) = after (plain_step s call).0 calls

-- ---- calls in short

abbrev pub vrf : Bool → Call
vrf enforce_unique = Create (VrfDraft (codes "red") None enforce_unique [])

abbrev pub rir : Call
rir = Create (RirDraft (codes "ARIN") (codes "arin") false [])

abbrev pub role : Call
role = Create (RoleDraft (codes "lan") (codes "lan") 1000 [])

abbrev pub v4 : ℕ → ℕ → Cidr
v4 first len = record { family = V4; first = first; len = len }

abbrev pub host : ℕ → ℕ → Masked
host value len = record { addr = record { family = V4; value = value }; len = len }

abbrev pub host6 : ℕ → ℕ → Masked
host6 value len = record { addr = record { family = V6; value = value }; len = len }

abbrev pub aggregate : ℕ → ℕ → Call
aggregate first len = Create (AggregateDraft (v4 first len) 1 [])

abbrev pub prefix : ℕ → ℕ → Option ℕ → Option ℕ → Call
prefix first len vrf role = Create (plain_prefix (v4 first len) vrf role)

abbrev pub range : Masked → Masked → Option ℕ → Call
range start end vrf = Create (plain_range start end vrf)

abbrev pub address : Masked → Option ℕ → Option AddressRole → Call
address host vrf role = Create (plain_address host vrf role)

-- 10.0.0.0
abbrev pub ten : ℕ
ten = 167772160

-- ---- rows in short

-- a row with these figures
abbrev pub figured : View → ℕ → ℕ → View
figured (PrefixView row d c) depth children = PrefixView row depth children
figured view depth children = view

abbrev pub seen : ℕ → ℕ → ℕ → Option ℕ → Option ℕ → ℕ → ℕ → View
seen id first len vrf role depth children = figured (drafted id (plain_prefix (v4 first len) vrf role)) depth children

abbrev pub seen_address : ℕ → Masked → Option AddressRole → View
seen_address id host role = drafted id (plain_address host None role)

abbrev pub seen_range : ℕ → RangeEnds → View
seen_range id ends = drafted id (plain_range (record { addr = ends.start; len = ends.len }) (record { addr = ends.end; len = ends.len }) None)
