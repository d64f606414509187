-- The VRFs and the prefixes of a state, what an update makes of them, and which replies depend on them alone.
use Rattle.std.specs.Prelude.{◌≡◌, ℕ, Bool, true, false, List, fold}
use Rattle.ipam_data.specs.declared.vrf.Vrf.{Vrf}
use Rattle.ipam_data.specs.declared.prefix.Prefix.{Prefix}
use Rattle.ipam_data.specs.declared.kinds.Kind.{Kind}
use Rattle.ipam_data.specs.declared.kinds.Kind.TheVariants.{Vrfs, Prefixes}
use Rattle.ipam_data.specs.declared.calls.Call.{Call}
use Rattle.ipam_data.specs.declared.replies.Reply.{Reply}
use Rattle.ipam_data.specs.declared.replies.View.{View}
use Rattle.ipam_data.specs.declared.replies.View.TheVariants.{Vrf as VrfView, Prefix as PrefixView}
use Rattle.ipam_data.specs.declared.update.Update.{Update}
use Rattle.ipam_data.specs.Rows.{vrf_id, prefix_id}
use Rattle.ipam_data.specs.RowList.{with_row, without}
use Rattle.ipam_data.specs.State.{State}
use Rattle.ipam_data.specs.Steps.{plain_step}

-- the rows of the two kinds
pub record Lists : Type 0 where
  pub vrfs : List Vrf
  pub prefixes : List Prefix

-- those of a state
abbrev pub lists_of : State → Lists
lists_of s = record { vrfs = s.vrfs.rows; prefixes = s.prefixes.rows }

-- the row is of one of the two kinds
abbrev pub is_listed : View → Bool
is_listed (VrfView row) = true
is_listed (PrefixView row depth children) = true
is_listed other = false

-- with a row put, if it is of one of the two kinds
abbrev pub with_listed : Lists → View → Lists
with_listed lists (VrfView row) = record lists { vrfs = with_row vrf_id lists.vrfs row }
with_listed lists (PrefixView row depth children) = record lists { prefixes = with_row prefix_id lists.prefixes row }
with_listed lists other = lists

-- without the row of a kind and id
abbrev pub without_of : Lists → Kind → ℕ → Lists
without_of lists Vrfs n = record lists { vrfs = without vrf_id lists.vrfs n }
without_of lists Prefixes n = record lists { prefixes = without prefix_id lists.prefixes n }
without_of lists other n = lists

abbrev pub without_listed : Lists → Kind × ℕ → Lists
without_listed lists cut = without_of lists cut.0 cut.1

-- the lists after an update
abbrev pub after_update : Lists → Update → Lists
after_update lists u = fold without_listed (fold with_listed lists u.puts) u.cuts

-- the second update does to each lists what the first one does
abbrev pub AreAlike : Update → Update → Type 0
AreAlike u v = (lists : Lists) → after_update lists v ≡ after_update lists u

-- the reply is that of each state with these lists
abbrev pub IsReplyTo : Lists → Call → Reply → Type 0
IsReplyTo lists call reply = (s : State) → lists_of s ≡ lists → plain_step s call ≡ (s, reply)
