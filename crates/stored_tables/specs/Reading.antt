-- What stored texts are read as.
use Rattle.std.specs.Prelude.{◌≡◌, ◌≢◌, ℕ, ◌<◌, ◌≤◌, List, [], ◌∷◌, Option, Some, None}
use Rattle.ipam_data.specs.declared.vrf.Vrf.{Vrf}
use Rattle.ipam_data.specs.declared.rir.Rir.{Rir}
use Rattle.ipam_data.specs.declared.role.Role.{Role}
use Rattle.ipam_data.specs.declared.aggregate.Aggregate.{Aggregate}
use Rattle.ipam_data.specs.declared.prefix.Prefix.{Prefix}
use Rattle.ipam_data.specs.declared.range.IpRange.{IpRange}
use Rattle.ipam_data.specs.declared.address.IpAddress.{IpAddress}
use Rattle.ipam_data.specs.declared.kinds.Kind.{Kind}
use Rattle.ipam_data.specs.declared.replies.View.{View}
use Rattle.ipam_data.specs.declared.replies.View.TheVariants.{Vrf as VrfView, Rir as RirView, Role as RoleView, Aggregate as AggregateView, Prefix as PrefixView, IpRange as RangeView, IpAddress as AddressView}
use Rattle.stored_tables.specs.declared.tables.Row.{Row}
use Rattle.ipam_data.specs.Hosts.{Masked, RangeEnds}
use Rattle.ipam_data.specs.Rows.{HasVrfBounds, HasRirBounds, HasRoleBounds, HasAggregateBounds, HasPrefixBounds, HasRangeBounds, HasAddressBounds}
use Rattle.stored_tables.specs.Stored.{host_text, stored_row}

-- what a text was read as: a value within its bounds whose text it is, or nothing if it is the text of none
abbrev pub IsRead : {A B : Type 0} → (A → Type 0) → (A → B) → B → Option A → Type 0
IsRead within text_of text (Some x) = within x × (text_of x ≡ text)
IsRead {A} within text_of text None = (x : A) → within x → text_of x ≢ text

-- ---- columns

-- any value
abbrev pub IsAny : {A : Type 0} → A → Type 0
IsAny x = Unit {0}

-- a number of a u32
abbrev pub IsWord : ℕ → Type 0
IsWord n = n < 4294967296

-- what is given is within its bounds
abbrev pub IsAbsentOr : {A : Type 0} → (A → Type 0) → Option A → Type 0
IsAbsentOr within None = Unit {0}
IsAbsentOr within (Some x) = within x

-- the text of an address with its mask
abbrev pub masked_text : Masked → List ℕ
masked_text host = host_text host.addr host.len

-- the texts of the two ends of a range
abbrev pub ends_texts : RangeEnds → List (List ℕ)
ends_texts ends = host_text ends.start ends.len ∷ host_text ends.end ends.len ∷ []

-- ---- rows as their types keep them: an id from 1, ids and references of a u32, and texts, blocks and masks in their bounds

pub record IsTypedVrf (row : Vrf) : Type 0 where
  pub low : 1 ≤ row.id
  pub high : IsWord row.id
  pub bounds : HasVrfBounds row

pub record IsTypedRir (row : Rir) : Type 0 where
  pub low : 1 ≤ row.id
  pub high : IsWord row.id
  pub bounds : HasRirBounds row

pub record IsTypedRole (row : Role) : Type 0 where
  pub low : 1 ≤ row.id
  pub high : IsWord row.id
  pub bounds : HasRoleBounds row

pub record IsTypedAggregate (row : Aggregate) : Type 0 where
  pub low : 1 ≤ row.id
  pub high : IsWord row.id
  pub rir : IsWord row.rir
  pub bounds : HasAggregateBounds row

pub record IsTypedPrefix (row : Prefix) : Type 0 where
  pub low : 1 ≤ row.id
  pub high : IsWord row.id
  pub vrf : IsAbsentOr IsWord row.vrf
  pub role : IsAbsentOr IsWord row.role
  pub bounds : HasPrefixBounds row

pub record IsTypedRange (row : IpRange) : Type 0 where
  pub low : 1 ≤ row.id
  pub high : IsWord row.id
  pub vrf : IsAbsentOr IsWord row.vrf
  pub role : IsAbsentOr IsWord row.role
  pub bounds : HasRangeBounds row

pub record IsTypedAddress (row : IpAddress) : Type 0 where
  pub low : 1 ≤ row.id
  pub high : IsWord row.id
  pub vrf : IsAbsentOr IsWord row.vrf
  pub bounds : HasAddressBounds row

-- a row without figures, as its type keeps it
abbrev pub IsBare : View → Type 0
IsBare (VrfView row) = IsTypedVrf row
IsBare (RirView row) = IsTypedRir row
IsBare (RoleView row) = IsTypedRole row
IsBare (AggregateView row) = IsTypedAggregate row
IsBare (PrefixView row depth children) = IsTypedPrefix row × (depth ≡ 0) × (children ≡ 0)
IsBare (RangeView row) = IsTypedRange row
IsBare (AddressView row) = IsTypedAddress row

-- a row as it is answered, without its figures
abbrev pub bare : View → View
bare (PrefixView row depth children) = PrefixView row 0 0
bare view = view

-- the stored row of a kind, an id and texts
abbrev pub row_of : Kind → ℕ → List (List ℕ) → Row
row_of kind id fields = record { kind = kind; id = id; fields = fields }

-- what is read of the stored row of a view is that view without its figures
abbrev pub WrittenIsRead : Type 0
WrittenIsRead = (view : View) (read : Option View) → IsBare (bare view) → IsRead IsBare stored_row (stored_row view) read → read ≡ Some (bare view)
