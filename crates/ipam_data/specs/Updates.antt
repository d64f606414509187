-- What a plan leads to: the rows that are put, those that are removed and the next ids, and the figures of the rows that are answered.
use Rattle.std.specs.Prelude.{ℕ, ◌+◌, ◌<◌, ◌≤◌, List, [], ◌∷◌, Some, None, fold, map}
use Rattle.ipam_data.specs.declared.kinds.Kind.{Kind}
use Rattle.ipam_data.specs.declared.update.Update.{Update}
use Rattle.ipam_data.specs.declared.replies.Reply.{Reply}
use Rattle.ipam_data.specs.declared.replies.Reply.TheVariants.{Made, MadeMany, Changed, Gone, Imported, One, Page, Blocks, Addrs, Percent, Rows, Lines, Refused}
use Rattle.ipam_data.specs.declared.replies.View.{View}
use Rattle.ipam_data.specs.declared.replies.View.TheVariants.{Vrf as VrfView, Rir as RirView, Role as RoleView, Aggregate as AggregateView, Prefix as PrefixView, IpRange as RangeView, IpAddress as AddressView}
use Rattle.ipam_data.specs.RowList.{IsFitting}
use Rattle.ipam_data.specs.State.{State, Plan, verdict_of}
use Rattle.ipam_data.specs.Plans.{KindRules, put_row, cut_row, set_next}
use Rattle.ipam_data.specs.Vrfs.{vrf_rules}
use Rattle.ipam_data.specs.Rirs.{rir_rules}
use Rattle.ipam_data.specs.Roles.{role_rules}
use Rattle.ipam_data.specs.Aggregates.{aggregate_rules}
use Rattle.ipam_data.specs.Prefixes.{prefix_rules, view_of}
use Rattle.ipam_data.specs.Ranges.{range_rules}
use Rattle.ipam_data.specs.Addresses.{address_rules}
use Rattle.ipam_data.specs.ByKind.{by_kind, by_view}

-- ---- the rows

-- a row more, or another in the place of the one of its kind and id
abbrev pub with_view : State → View → State
with_view s view = by_view view (λ T rules row. put_row rules s row)

-- without the row of a kind and id
abbrev pub without_row : State → Kind × ℕ → State
without_row s cut = by_kind cut.0 (λ T rules. cut_row rules s cut.1)

-- with this next id of a kind
abbrev pub with_next : State → Kind × ℕ → State
with_next s next = by_kind next.0 (λ T rules. set_next rules s next.1)

-- with so many log items spent besides
abbrev pub with_spent : State → ℕ → State
with_spent s n = record s { spent = s.spent + n }

-- the state after an update
abbrev pub updated : State → Update → State
updated s u = with_spent (fold with_next (fold without_row (fold with_view s u.puts) u.cuts) u.next) u.spent

-- ---- the figures

-- a row as it is answered: a prefix with its depth and children figure in this state
abbrev pub figured : State → View → View
figured s (PrefixView row depth children) = view_of s.prefixes.rows row
figured s view = view

-- a reply with the figures of this state
abbrev pub answered : State → Reply → Reply
answered s (Made view) = Made (figured s view)
answered s (MadeMany views) = MadeMany (map (figured s) views)
answered s (Changed view) = Changed (figured s view)
answered s Gone = Gone
answered s (Imported created present) = Imported created present
answered s (One view) = One (figured s view)
answered s (Page count views) = Page count (map (figured s) views)
answered s (Blocks vrf list) = Blocks vrf list
answered s (Addrs vrf len list) = Addrs vrf len list
answered s (Percent figure) = Percent figure
answered s (Rows rows) = Rows rows
answered s (Lines lines) = Lines lines
answered s (Refused refusal) = Refused refusal

-- the state and the reply that a plan leads to: a refused one leaves the state, and views are those of the new state
abbrev pub outcome : State → Plan → State × Reply
outcome old plan = elim (verdict_of plan) [
  | Some refusal ↦ (old, Refused refusal)
  | None ↦ (updated old plan.update, answered (updated old plan.update) plan.reply)
]

-- ---- what an update may be

-- a row fits: its id is a u32 from 1 on, and that of a row of its kind, or above all of them
pub record FitsOn {T : Type 0} (rules : KindRules T) (s : State) (row : T) : Type 0 where
  pub low : 1 ≤ rules.id row
  pub high : rules.id row < 4294967296
  pub place : IsFitting rules.id (rules.row_list s).rows row

abbrev pub IsFit : State → View → Type 0
IsFit s (VrfView row) = FitsOn vrf_rules s row
IsFit s (RirView row) = FitsOn rir_rules s row
IsFit s (RoleView row) = FitsOn role_rules s row
IsFit s (AggregateView row) = FitsOn aggregate_rules s row
IsFit s (PrefixView row depth children) = FitsOn prefix_rules s row
IsFit s (RangeView row) = FitsOn range_rules s row
IsFit s (AddressView row) = FitsOn address_rules s row

-- each row fits when those before it are put
abbrev pub AreFit : State → List View → Type 0
AreFit s [] = Unit {0}
AreFit s (view ∷ views) = IsFit s view × AreFit (with_view s view) views

-- the numbers are those of a u32
abbrev pub AreKept : List (Kind × ℕ) → Type 0
AreKept [] = Unit {0}
AreKept (id ∷ ids) = (id.1 < 4294967296) × AreKept ids

-- an update may be made: its rows fit, one after another, and its ids are those of a u32
pub record CanUpdate (s : State) (u : Update) : Type 0 where
  pub puts : AreFit s u.puts
  pub cuts : AreKept u.cuts
  pub next : AreKept u.next
