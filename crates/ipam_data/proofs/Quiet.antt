-- A plan that answers no accepted change does nothing; so a call whose reply is none leaves the state.
use Rattle.std.proofs.Common.{◌≡◌, ℕ, Bool, true, false, List, [], ◌∷◌, map, take, Option, Some, None, refl, ap, sym, ◌∙◌}
use Rattle.ipam_data.specs.declared.kinds.Kind.{Kind}
use Rattle.ipam_data.specs.declared.kinds.Kind.TheVariants.{Vrfs, Rirs, Roles, Aggregates, Prefixes, Ranges, Addresses}
use Rattle.ipam_data.specs.declared.calls.Call.{Call}
use Rattle.ipam_data.specs.declared.calls.Call.TheVariants.{List as ListOf, Get, Create, Change, Delete, Blocks as BlocksOf, PrefixAddrs, RangeAddrs, ClaimBlocks, ClaimPrefixAddrs, ClaimRangeAddrs, Utilization, Import, Export, Survey}
use Rattle.ipam_data.specs.declared.calls.Answered.{Answered}
use Rattle.ipam_data.specs.declared.calls.Answered.TheVariants.{AsOne, AsList}
use Rattle.ipam_data.specs.declared.calls.Filter.{Filter}
use Rattle.ipam_data.specs.declared.calls.Filter.TheVariants.{Vrfs as SomeVrfs, Rirs as SomeRirs, Roles as SomeRoles, Aggregates as SomeAggregates, Prefixes as SomePrefixes, Ranges as SomeRanges, Addresses as SomeAddresses}
use Rattle.ipam_data.specs.declared.calls.Draft.{Draft}
use Rattle.ipam_data.specs.declared.calls.Edit.{Edit}
use Rattle.ipam_data.specs.declared.replies.Rule.{Rule}
use Rattle.ipam_data.specs.declared.replies.View.{View}
use Rattle.ipam_data.specs.declared.replies.View.TheVariants.{Vrf as VrfView, Rir as RirView, Role as RoleView, Aggregate as AggregateView, Prefix as PrefixView, IpRange as RangeView, IpAddress as AddressView}
use Rattle.ipam_data.specs.declared.replies.Refusal.{Refusal}
use Rattle.ipam_data.specs.declared.replies.Reply.{Reply}
use Rattle.ipam_data.specs.declared.replies.Reply.TheVariants.{Made, MadeMany, Changed, Gone, Imported, One, Page, Blocks, Addrs, Percent, Rows, Lines, Refused}
use Rattle.ipam_data.specs.RowList.{row_at}
use Rattle.ipam_data.specs.State.{State, Plan, verdict_of, no_update, reading}
use Rattle.ipam_data.specs.Plans.{KindRules, with_found, with_row_at, create, replace, change, take_out, delete, get, list, nothing_told}
use Rattle.ipam_data.specs.Updates.{updated, answered, outcome}
use Rattle.ipam_data.specs.Vrfs.{vrf_rules, meets_vrf}
use Rattle.ipam_data.specs.Rirs.{rir_rules, meets_rir}
use Rattle.ipam_data.specs.Roles.{role_rules, meets_role}
use Rattle.ipam_data.specs.Aggregates.{aggregate_rules, meets_aggregate}
use Rattle.ipam_data.specs.Prefixes.{prefix_rules, meets_prefix}
use Rattle.ipam_data.specs.Ranges.{range_rules, meets_range}
use Rattle.ipam_data.specs.Addresses.{address_rules, meets_address}
use Rattle.ipam_data.specs.ByKind.{by_view}
use Rattle.ipam_data.specs.Fields.{drafted, told_of_draft, kind_of_edit, edited_vrf, edited_rir, edited_role, edited_aggregate, edited_prefix, edited_range, edited_address, told_of_change}
use Rattle.inet_num.specs.Free.{available_blocks_of}
use Rattle.block_space.specs.Usable.{addressed}
use Rattle.ipam_data.specs.Claims.{child_blocks, usable_in, usable_of_range, aggregate_figure, prefix_figure, range_figure, utilization_plan, served, claim, claim_blocks_of, claim_addresses_of}
use Rattle.ipam_data.specs.Imports.{import_plan}
use Rattle.ipam_data.specs.Steps.{plan_of, next_for, create_plan, change_of_kind, change_plan, delete_plan, get_plan, list_plan}
use Rattle.ipam_data.specs.Replays.{is_accepted}
use Rattle.ipam_data.specs.Lawful.{StepsStay}
use Rattle.ipam_data.proofs.Sound.{nothing_done}

-- the plan does nothing where it answers no accepted change
pub record IsQuiet (plan : Plan) : Type 0 where
  pub nothing : is_accepted plan.reply ≡ false → plan.update ≡ no_update

-- figures make no accepted change of a reply, and take none away
accepted_same : (s : State) (reply : Reply) → is_accepted (answered s reply) ≡ is_accepted reply
accepted_same s (Made view) = refl
accepted_same s (MadeMany views) = refl
accepted_same s (Changed view) = refl
accepted_same s Gone = refl
accepted_same s (Imported created present) = refl
accepted_same s (One view) = refl
accepted_same s (Page count views) = refl
accepted_same s (Blocks vrf list) = refl
accepted_same s (Addrs vrf len list) = refl
accepted_same s (Percent figure) = refl
accepted_same s (Rows rows) = refl
accepted_same s (Lines lines) = refl
accepted_same s (Refused refusal) = refl

pub quiet_stays : (s : State) (plan : Plan) → IsQuiet plan → is_accepted (outcome s plan).1 ≡ false → (outcome s plan).0 ≡ s
quiet_stays s plan q a = go (verdict_of plan) refl
  where
    go : (v : Option Refusal) → verdict_of plan ≡ v → (outcome s plan).0 ≡ s
    go (Some refusal) e = rw (e, outcome) refl
    go None e =
        let a : is_accepted (answered (updated s plan.update) plan.reply) ≡ false = rw (e, outcome) at a in
        let n = q.nothing (sym (accepted_same (updated s plan.update) plan.reply) ∙ a) in
        rw (e, outcome) (ap (updated s) n ∙ nothing_done s)

-- ---- the plans

pub accepting_quiet : (plan : Plan) → is_accepted plan.reply ≡ true → IsQuiet plan
accepting_quiet plan t = record { nothing = λ a. (let f : true ≡ false = sym t ∙ a in cc) }

pub idle_quiet : (plan : Plan) → plan.update ≡ no_update → IsQuiet plan
idle_quiet plan e = record { nothing = λ a. e }

module _ {T : Type 0} (rules : KindRules T) where
  pub found_quiet : (n : ℕ) (plan : T → Plan) (found : Option T) → ((row : T) → IsQuiet (plan row)) → IsQuiet (with_found rules n plan found)
  found_quiet n plan None q = record { nothing = λ a. refl }
  found_quiet n plan (Some row) q = q row

  create_quiet : (s : State) (told : List (Option Rule)) (row : T) → IsQuiet (create rules s told row)
  create_quiet s told row = accepting_quiet (create rules s told row) refl

  change_quiet : (s : State) (n : ℕ) (told : T → List (Option Rule)) (edit : T → T) → IsQuiet (change rules s n told edit)
  change_quiet s n told edit = found_quiet n (λ old. replace rules s old (told old) (edit old)) (row_at rules.id (rules.row_list s).rows n)
      (λ old. accepting_quiet (replace rules s old (told old) (edit old)) refl)

  delete_quiet : (s : State) (n : ℕ) → IsQuiet (delete rules s n)
  delete_quiet s n = found_quiet n (λ old. take_out rules s n) (row_at rules.id (rules.row_list s).rows n) (λ old. accepting_quiet (take_out rules s n) refl)

  get_quiet : (s : State) (n : ℕ) → IsQuiet (get rules s n)
  get_quiet s n = found_quiet n _ (row_at rules.id (rules.row_list s).rows n) (λ row. record { nothing = λ a. refl })

  list_quiet : (s : State) (meets : T → Bool) (limit offset : ℕ) → IsQuiet (list rules s meets limit offset)
  list_quiet s meets limit offset = record { nothing = λ a. refl }

-- ---- the calls

view_quiet : (s : State) (told : List (Option Rule)) (view : View) → IsQuiet (by_view view (λ T rules row. create rules s told row))
view_quiet s told (VrfView row) = create_quiet vrf_rules s told row
view_quiet s told (RirView row) = create_quiet rir_rules s told row
view_quiet s told (RoleView row) = create_quiet role_rules s told row
view_quiet s told (AggregateView row) = create_quiet aggregate_rules s told row
view_quiet s told (PrefixView row depth children) = create_quiet prefix_rules s told row
view_quiet s told (RangeView row) = create_quiet range_rules s told row
view_quiet s told (AddressView row) = create_quiet address_rules s told row

create_all : (s : State) (draft : Draft) → IsQuiet (create_plan s draft)
create_all s draft = view_quiet s (told_of_draft draft) (drafted (next_for s draft) draft)

kind_quiet : (s : State) (n : ℕ) (edit : Edit) (kind : Kind) → IsQuiet (change_of_kind s n edit kind)
kind_quiet s n edit Vrfs = change_quiet vrf_rules s n nothing_told (edited_vrf edit)
kind_quiet s n edit Rirs = change_quiet rir_rules s n nothing_told (edited_rir edit)
kind_quiet s n edit Roles = change_quiet role_rules s n nothing_told (edited_role edit)
kind_quiet s n edit Aggregates = change_quiet aggregate_rules s n nothing_told (edited_aggregate edit)
kind_quiet s n edit Prefixes = change_quiet prefix_rules s n nothing_told (edited_prefix edit)
kind_quiet s n edit Ranges = change_quiet range_rules s n (told_of_change edit) (edited_range edit)
kind_quiet s n edit Addresses = change_quiet address_rules s n nothing_told (edited_address edit)

change_all : (s : State) (n : ℕ) (edit : Edit) → IsQuiet (change_plan s n edit)
change_all s n edit = kind_quiet s n edit (kind_of_edit edit)

delete_all : (s : State) (kind : Kind) (n : ℕ) → IsQuiet (delete_plan s kind n)
delete_all s Vrfs n = delete_quiet vrf_rules s n
delete_all s Rirs n = delete_quiet rir_rules s n
delete_all s Roles n = delete_quiet role_rules s n
delete_all s Aggregates n = delete_quiet aggregate_rules s n
delete_all s Prefixes n = delete_quiet prefix_rules s n
delete_all s Ranges n = delete_quiet range_rules s n
delete_all s Addresses n = delete_quiet address_rules s n

get_all : (s : State) (kind : Kind) (n : ℕ) → IsQuiet (get_plan s kind n)
get_all s Vrfs n = get_quiet vrf_rules s n
get_all s Rirs n = get_quiet rir_rules s n
get_all s Roles n = get_quiet role_rules s n
get_all s Aggregates n = get_quiet aggregate_rules s n
get_all s Prefixes n = get_quiet prefix_rules s n
get_all s Ranges n = get_quiet range_rules s n
get_all s Addresses n = get_quiet address_rules s n

list_all : (s : State) (filter : Filter) (limit offset : ℕ) → IsQuiet (list_plan s filter limit offset)
list_all s (SomeVrfs name rd) limit offset = list_quiet vrf_rules s (meets_vrf name rd) limit offset
list_all s (SomeRirs name slug) limit offset = list_quiet rir_rules s (meets_rir name slug) limit offset
list_all s (SomeRoles name slug) limit offset = list_quiet role_rules s (meets_role name slug) limit offset
list_all s (SomeAggregates family rir_id) limit offset = list_quiet aggregate_rules s (meets_aggregate family rir_id) limit offset
list_all s (SomePrefixes family vrf_id status role_id prefix within within_include contains) limit offset =
    list_quiet prefix_rules s (meets_prefix family vrf_id status role_id prefix within within_include contains) limit offset
list_all s (SomeRanges family vrf_id status role_id contains) limit offset = list_quiet range_rules s (meets_range family vrf_id status role_id contains) limit offset
list_all s (SomeAddresses family vrf_id status role parent dns_name) limit offset =
    list_quiet address_rules s (meets_address family vrf_id status role parent dns_name) limit offset

-- ---- claims, and what is read of a row

module _ {T : Type 0} (rules : KindRules T) where
  -- a row of which something is read
  pub read_quiet : (s : State) (n : ℕ) (reply : T → Reply) → IsQuiet (with_row_at rules s n (λ row. reading (reply row)))
  read_quiet s n reply = found_quiet rules n (λ row. reading (reply row)) (row_at rules.id (rules.row_list s).rows n) (λ row. record { nothing = λ a. refl })

  pub claim_quiet : (s : State) (told : List (Option Refusal)) (wanted : ℕ) (form : Answered) (rows : List T) → IsQuiet (claim rules s told wanted form rows)
  claim_quiet s told wanted form rows = accepting_quiet (claim rules s told wanted form rows) (accepts form (map rules.view rows))
    where
      accepts : (form : Answered) (views : List View) → is_accepted (served form views) ≡ true
      accepts AsOne (view ∷ views) = refl
      accepts AsOne [] = refl
      accepts AsList views = refl

utilization_quiet : (s : State) (kind : Kind) (n : ℕ) → IsQuiet (utilization_plan s kind n)
utilization_quiet s Vrfs n = record { nothing = λ a. refl }
utilization_quiet s Rirs n = record { nothing = λ a. refl }
utilization_quiet s Roles n = record { nothing = λ a. refl }
utilization_quiet s Aggregates n = read_quiet aggregate_rules s n (λ row. Percent (aggregate_figure s row))
utilization_quiet s Prefixes n = read_quiet prefix_rules s n (λ row. Percent (prefix_figure s row))
utilization_quiet s Ranges n = read_quiet range_rules s n (λ row. Percent (range_figure s row))
utilization_quiet s Addresses n = record { nothing = λ a. refl }

all_quiet : (s : State) (call : Call) → IsQuiet (plan_of s call)
all_quiet s (ListOf kind filter limit offset) = list_all s filter limit offset
all_quiet s (Get kind n) = get_all s kind n
all_quiet s (Create draft) = create_all s draft
all_quiet s (Change n edit) = change_all s n edit
all_quiet s (Delete kind n) = delete_all s kind n
all_quiet s (BlocksOf n limit) = read_quiet prefix_rules s n (λ row. Blocks row.vrf (take limit (available_blocks_of row.block (child_blocks s.prefixes.rows row))))
all_quiet s (PrefixAddrs n limit) = read_quiet prefix_rules s n (λ row. Addrs row.vrf row.block.len (take limit (addressed row.block.family (usable_in s row))))
all_quiet s (RangeAddrs n limit) = read_quiet range_rules s n (λ row. Addrs row.vrf row.ends.len (take limit (addressed row.ends.start.family (usable_of_range s row))))
all_quiet s (ClaimBlocks n form items) = found_quiet prefix_rules n (claim_blocks_of s form items) (row_at prefix_rules.id s.prefixes.rows n) (λ row. claim_quiet prefix_rules s _ _ form _)
all_quiet s (ClaimPrefixAddrs n form items) =
    found_quiet prefix_rules n (λ row. claim_addresses_of s form items row.vrf row.block.len row.block.family (usable_in s row)) (row_at prefix_rules.id s.prefixes.rows n) (λ row. claim_quiet address_rules s _ _ form _)
all_quiet s (ClaimRangeAddrs n form items) =
    found_quiet range_rules n (λ row. claim_addresses_of s form items row.vrf row.ends.len row.ends.start.family (usable_of_range s row)) (row_at range_rules.id s.ranges.rows n) (λ row. claim_quiet address_rules s _ _ form _)
all_quiet s (Utilization kind n) = utilization_quiet s kind n
all_quiet s (Import kind rows) = accepting_quiet (import_plan s kind rows) refl
all_quiet s (Export kind) = record { nothing = λ a. refl }
all_quiet s Survey = record { nothing = λ a. refl }

pub steps_stay : StepsStay
steps_stay s call a = quiet_stays s (plan_of s call) (all_quiet s call) a
