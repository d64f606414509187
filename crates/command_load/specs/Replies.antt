-- What is read of the replies.
use Rattle.std.specs.Prelude.{ℕ, Bool, true, false, Option, Some, None}
use Rattle.ipam_data.specs.declared.replies.Reply.{Reply}
use Rattle.ipam_data.specs.declared.replies.Reply.TheVariants.{Made, MadeMany, Changed, Gone, Imported, One, Page, Blocks, Addrs, Percent, Rows, Lines, Refused}
use Rattle.ipam_data.specs.declared.replies.View.{View}
use Rattle.ipam_data.specs.declared.replies.View.TheVariants.{Vrf as VrfView, Rir as RirView, Role as RoleView, Aggregate as AggregateView, Prefix as PrefixView, IpRange as RangeView, IpAddress as AddressView}

-- the number of the address of a row
abbrev pub host_in : View → Option ℕ
host_in (AddressView row) = Some row.host.addr.value
host_in (VrfView row) = None
host_in (RirView row) = None
host_in (RoleView row) = None
host_in (AggregateView row) = None
host_in (PrefixView row depth children) = None
host_in (RangeView row) = None

-- the number of the address that a claim got
abbrev pub address_in : Reply → Option ℕ
address_in (Made view) = host_in view
address_in (MadeMany views) = None
address_in (Changed view) = None
address_in Gone = None
address_in (Imported created present) = None
address_in (One view) = None
address_in (Page count views) = None
address_in (Blocks vrf list) = None
address_in (Addrs vrf len list) = None
address_in (Percent figure) = None
address_in (Rows rows) = None
address_in (Lines lines) = None
address_in (Refused refusal) = None

-- whether a row was made
abbrev pub is_made_in : Reply → Bool
is_made_in (Made view) = true
is_made_in (MadeMany views) = false
is_made_in (Changed view) = false
is_made_in Gone = false
is_made_in (Imported created present) = false
is_made_in (One view) = false
is_made_in (Page count views) = false
is_made_in (Blocks vrf list) = false
is_made_in (Addrs vrf len list) = false
is_made_in (Percent figure) = false
is_made_in (Rows rows) = false
is_made_in (Lines lines) = false
is_made_in (Refused refusal) = false

-- the percentage that was answered
abbrev pub percent_in : Reply → Option ℕ
percent_in (Percent figure) = Some figure
percent_in (Made view) = None
percent_in (MadeMany views) = None
percent_in (Changed view) = None
percent_in Gone = None
percent_in (Imported created present) = None
percent_in (One view) = None
percent_in (Page count views) = None
percent_in (Blocks vrf list) = None
percent_in (Addrs vrf len list) = None
percent_in (Rows rows) = None
percent_in (Lines lines) = None
percent_in (Refused refusal) = None
