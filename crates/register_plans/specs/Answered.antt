-- The replies to a Get and a List by the rows of their kind alone.
use Rattle.std.specs.Prelude.{◌≡◌, ℕ, Bool, List, Option, Some, None, count_by}
use Rattle.ipam_data.specs.declared.vrf.Vrf.{Vrf}
use Rattle.ipam_data.specs.declared.prefix.Prefix.{Prefix}
use Rattle.ipam_data.specs.declared.kinds.Kind.{Kind}
use Rattle.ipam_data.specs.declared.calls.Call.{Call}
use Rattle.ipam_data.specs.declared.replies.Refusal.TheVariants.{NotFound}
use Rattle.ipam_data.specs.declared.replies.View.{View}
use Rattle.ipam_data.specs.declared.replies.View.TheVariants.{Prefix as PrefixView}
use Rattle.ipam_data.specs.declared.replies.Reply.{Reply}
use Rattle.ipam_data.specs.declared.replies.Reply.TheVariants.{One, Page, Refused}
use Rattle.ipam_data.specs.Prefixes.{view_of}
use Rattle.ipam_data.specs.State.{State}
use Rattle.ipam_data.specs.Steps.{plain_step}
use Rattle.ipam_data.specs.Pages.{page_of}

-- the reply to a Get of a kind, by the row that was found under the id and how a row is answered
abbrev pub found_reply : {T : Type 0} → Kind → (T → View) → ℕ → Option T → Reply
found_reply kind view n None = Refused (NotFound kind n)
found_reply kind view n (Some row) = One (view row)

-- the reply to a List: how many rows meet the test, and those of the page, as they are answered
abbrev pub page_reply : {T : Type 0} → (T → View) → (T → Bool) → ℕ → ℕ → List T → Reply
page_reply view meets limit offset rows = Page (count_by meets rows) (page_of view meets limit offset rows)

-- a row with the figures that it has among these prefixes
abbrev pub figured_among : List Prefix → View → View
figured_among prefixes (PrefixView row depth children) = view_of prefixes row
figured_among prefixes view = view

-- the reply to a call is that of the plain step on each state with these VRFs
abbrev pub IsVrfReply : List Vrf → Call → Reply → Type 0
IsVrfReply vrfs call reply = (s : State) → s.vrfs.rows ≡ vrfs → plain_step s call ≡ (s, reply)

-- the reply to a call is that of the plain step on each state with these prefixes
abbrev pub IsPrefixReply : List Prefix → Call → Reply → Type 0
IsPrefixReply prefixes call reply = (s : State) → s.prefixes.rows ≡ prefixes → plain_step s call ≡ (s, reply)
