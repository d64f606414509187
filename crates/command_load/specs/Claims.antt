-- A register in which one prefix was made and addresses of it were claimed, one by one: what it holds, and what the next claim returns.
use Rattle.std.specs.Prelude.{◌≡◌, ℕ, zero, suc, ◌+◌, ◌-◌, ◌^◌, ◌<◌, ◌≤◌, Bool, false, List, [], ◌∷◌, ◌++◌, None, map, length}
use Rattle.inet_num.specs.declared.Family.TheVariants.{V4}
use Rattle.inet_num.specs.Net.{Cidr}
use Rattle.inet_num.specs.Count.{percent_of}
use Rattle.block_space.specs.Usable.{host_room}
use Rattle.ipam_data.specs.declared.address.AddressStatus.TheVariants.{Active as ActiveAddress}
use Rattle.ipam_data.specs.declared.address.IpAddress.{IpAddress}
use Rattle.ipam_data.specs.declared.prefix.Prefix.{Prefix}
use Rattle.ipam_data.specs.declared.prefix.PrefixStatus.TheVariants.{Active}
use Rattle.ipam_data.specs.declared.calls.AddrItem.{AddrItem}
use Rattle.ipam_data.specs.declared.calls.Answered.TheVariants.{AsOne}
use Rattle.ipam_data.specs.declared.calls.Call.{Call}
use Rattle.ipam_data.specs.declared.calls.Call.TheVariants.{Create, ClaimPrefixAddrs, Utilization}
use Rattle.ipam_data.specs.declared.calls.Draft.TheVariants.{Prefix as PrefixDraft}
use Rattle.ipam_data.specs.declared.kinds.Kind.TheVariants.{Prefixes}
use Rattle.ipam_data.specs.declared.replies.Reply.TheVariants.{Made, Percent}
use Rattle.ipam_data.specs.declared.replies.View.TheVariants.{Prefix as PrefixView, IpAddress as AddressView}
use Rattle.ipam_data.specs.Rows.{most_addresses}
use Rattle.ipam_data.specs.State.{State, empty_state, empty_row_list}
use Rattle.ipam_data.specs.Steps.{plain_step}
use Rattle.ipam_data.specs.Replays.{Entry, replay}
use Rattle.command_load.specs.LoadText.{load_first, load_address}

-- ---- the calls

-- the block of this length at 10.0.0.0
abbrev pub block_of : ℕ → Cidr
block_of len = record { family = V4; first = load_first; len = len }

-- the prefix is made
abbrev pub creation_of : ℕ → Call
creation_of len = Create (PrefixDraft (block_of len) None Active None false false [])

-- an address of it is claimed
abbrev pub one_address : AddrItem
one_address = record { status = ActiveAddress; role = None; dns_name = []; description = [] }

abbrev pub claim_of_one : Call
claim_of_one = ClaimPrefixAddrs 1 AsOne (one_address ∷ [])

-- its figure is asked for
abbrev pub figure_call : Call
figure_call = Utilization Prefixes 1

-- ---- the state

-- the prefix as a row
abbrev pub prefix_row : ℕ → Prefix
prefix_row len = record { id = 1; block = block_of len; vrf = None; status = Active; role = None; is_pool = false; mark_utilized = false; description = [] }

-- what claim n gets, counted from 1
abbrev pub address_row : ℕ → ℕ → IpAddress
address_row len n = record { id = n; host = record { addr = load_address n; len = len }; vrf = None; status = ActiveAddress; role = None; dns_name = []; description = [] }

-- what the first claims got
abbrev pub address_rows : ℕ → ℕ → List IpAddress
address_rows len zero = []
address_rows len (suc k) = address_rows len k ++ address_row len (suc k) ∷ []

-- the register after the prefix and so many claims
abbrev pub claimed_state : Bool → ℕ → ℕ → State
claimed_state unique len k = record {
  vrfs = empty_row_list;
  rirs = empty_row_list;
  roles = empty_row_list;
  aggregates = empty_row_list;
  prefixes = record { rows = prefix_row len ∷ []; next = 2 };
  ranges = empty_row_list;
  addresses = record { rows = address_rows len k; next = suc k };
  global_unique = unique;
  spent = suc k;
}

-- ---- the laws

-- the prefix of a lawful length is made, with the first id
abbrev pub PrefixIsMade : Type 0
PrefixIsMade = (unique : Bool) (len : ℕ) → 1 ≤ len → plain_step (empty_state unique) (creation_of len) ≡ (claimed_state unique len 0, Made (PrefixView (prefix_row len) 0 0))

-- if one of the addresses that hosts can have is left, the next claim returns the one after the last
abbrev pub NextClaimGetsNextAddress : Type 0
NextClaimGetsNextAddress = (unique : Bool) (len k : ℕ) → len ≤ 30 → suc k + 1 < 2 ^ (32 - len) → k < most_addresses
    → plain_step (claimed_state unique len k) claim_of_one ≡ (claimed_state unique len (suc k), Made (AddressView (address_row len (suc k))))

-- the entry of a claim of this caller
abbrev pub claim_entry : ℕ → Entry
claim_entry who = record { who = who; call = claim_of_one }

-- the creation, and claims of these callers
abbrev pub load_history : ℕ → ℕ → List ℕ → List Entry
load_history len maker callers = record { who = maker; call = creation_of len } ∷ map claim_entry callers

-- whoever called, and in whatever order, the register after them is the one of their number
abbrev pub ClaimsLeadToState : Type 0
ClaimsLeadToState = (unique : Bool) (len maker : ℕ) (callers : List ℕ) → 1 ≤ len → len ≤ 30 → length callers + 1 < 2 ^ (32 - len) → length callers ≤ most_addresses
    → replay (empty_state unique) (load_history len maker callers) ≡ claimed_state unique len (length callers)

-- the figure of the prefix is the percentage of the claims among the addresses that hosts can have
abbrev pub FigureIsOfClaims : Type 0
FigureIsOfClaims = (unique : Bool) (len k : ℕ) → k < 2 ^ (32 - len)
    → plain_step (claimed_state unique len k) figure_call ≡ (claimed_state unique len k, Percent (percent_of k (host_room (block_of len) false)))

-- a prefix and the claims of addresses of it, one by one
pub record ClaimsInOrder : Type 0 where
  pub made : PrefixIsMade
  pub next : NextClaimGetsNextAddress
  pub behind : ClaimsLeadToState
  pub figure : FigureIsOfClaims
