-- A refusal that no check of the rules gives is the answer of no call but of a claim: no check refuses so, and where none refuses the answer
-- is no refusal. Said once for every such refusal.
use Rattle.std.proofs.Common.{◌≡◌, ◌≢◌, ℕ, ◌+◌, Bool, true, false, nat_le, List, [], ◌∷◌, ◌++◌, map, take, length, Option, Some, None, option_map, refl, ◌∙◌, if◌then◌else◌}
use Rattle.ipam_data.specs.declared.kinds.Kind.{Kind}
use Rattle.ipam_data.specs.declared.kinds.Kind.TheVariants.{Vrfs, Rirs, Roles, Aggregates, Prefixes, Ranges, Addresses}
use Rattle.ipam_data.specs.declared.calls.Call.{Call}
use Rattle.ipam_data.specs.declared.calls.Call.TheVariants.{List as ListOf, Get, Create, Change, Delete, Blocks as BlocksOf, PrefixAddrs, RangeAddrs, ClaimBlocks, ClaimPrefixAddrs, ClaimRangeAddrs, Utilization, Import, Export, Survey}
use Rattle.ipam_data.specs.declared.calls.Answered.{Answered}
use Rattle.ipam_data.specs.declared.calls.Answered.TheVariants.{AsOne, AsList}
use Rattle.ipam_data.specs.declared.calls.BlockItem.{BlockItem}
use Rattle.ipam_data.specs.declared.calls.AddrItem.{AddrItem}
use Rattle.ipam_data.specs.declared.calls.Filter.{Filter}
use Rattle.ipam_data.specs.declared.calls.Filter.TheVariants.{Vrfs as SomeVrfs, Rirs as SomeRirs, Roles as SomeRoles, Aggregates as SomeAggregates, Prefixes as SomePrefixes, Ranges as SomeRanges, Addresses as SomeAddresses}
use Rattle.ipam_data.specs.declared.calls.Draft.{Draft}
use Rattle.ipam_data.specs.declared.calls.Edit.{Edit}
use Rattle.ipam_data.specs.declared.replies.Rule.{Rule}
use Rattle.ipam_data.specs.declared.replies.View.{View}
use Rattle.ipam_data.specs.declared.replies.View.TheVariants.{Vrf as VrfView, Rir as RirView, Role as RoleView, Aggregate as AggregateView, Prefix as PrefixView, IpRange as RangeView, IpAddress as AddressView}
use Rattle.ipam_data.specs.declared.replies.Which.{Which}
use Rattle.ipam_data.specs.declared.replies.Refusal.{Refusal}
use Rattle.ipam_data.specs.declared.replies.FieldName.{FieldName}
use Rattle.ipam_data.specs.declared.replies.FieldName.TheVariants.{Row as RowField}
use Rattle.ipam_data.specs.declared.replies.RowFault.{RowFault}
use Rattle.ipam_data.specs.declared.replies.RowFault.TheVariants as fault
use Rattle.ipam_data.specs.declared.replies.Refusal.TheVariants.{BadHead, TooLarge, Coding, NoRoute, Method, BadJson, Field, NotFound, Rule as Breaks, InUse, NoSpace, Limit, Keeper, Memory, Row}
use Rattle.ipam_data.specs.declared.replies.Which.TheVariants.{Claims, Rows as ImportedRows}
use Rattle.ipam_data.specs.declared.imports.ImportRow.{ImportRow}
use Rattle.ipam_data.specs.declared.prefix.Prefix.{Prefix}
use Rattle.inet_num.specs.declared.Family.{Family}
use Rattle.std.specs.List.{flat_map}
use Rattle.std.specs.Str.{str_to_ascii_lowercase}
use Rattle.inet_num.specs.Free.{available_blocks_of}
use Rattle.block_space.specs.Usable.{addressed}
use Rattle.ipam_data.specs.declared.replies.Rule.TheVariants.{SlaacFamily, DnsName}
use Rattle.ipam_data.specs.Rows.{role_id, prefix_id, range_id}
use Rattle.ipam_data.specs.HostNames.{is_dns_name}
use Rattle.ipam_data.specs.Addresses.{is_slaac_of_v4}
use Rattle.ipam_data.specs.Claims.{child_blocks, wanted_length, claim, served, most_items, no_space, told_of_block, told_of_address, usable_in, usable_of_range, prefix_figure, range_figure, aggregate_figure, figure_plan, utilization_plan}
use Rattle.ipam_data.specs.declared.replies.Reply.{Reply}
use Rattle.ipam_data.specs.declared.replies.Reply.TheVariants.{Made, MadeMany, Changed, Gone, Imported, One, Page, Blocks, Addrs, Percent, Rows, Lines, Refused}
use Rattle.ipam_data.specs.RowList.{row_at}
use Rattle.ipam_data.specs.Checks.{first, too_many, no_ids, no_log, no_such, breaks}
use Rattle.ipam_data.specs.State.{State, Plan, verdict_of, reading}
use Rattle.ipam_data.specs.Plans.{KindRules, call_faults, broken, no_seats, no_place, creation, create, replace, change, take_out, delete, get, list, with_found, nothing_told}
use Rattle.ipam_data.specs.Vrfs.{vrf_rules}
use Rattle.ipam_data.specs.Rirs.{rir_rules}
use Rattle.ipam_data.specs.Roles.{role_rules}
use Rattle.ipam_data.specs.Aggregates.{aggregate_rules}
use Rattle.ipam_data.specs.Prefixes.{prefix_rules}
use Rattle.ipam_data.specs.Ranges.{range_rules}
use Rattle.ipam_data.specs.Addresses.{address_rules}
use Rattle.ipam_data.specs.Updates.{updated, answered, outcome}
use Rattle.ipam_data.specs.ByKind.{by_view}
use Rattle.ipam_data.specs.Fields.{drafted, told_of_draft, kind_of_edit, edited_vrf, edited_rir, edited_role, edited_aggregate, edited_prefix, edited_range, edited_address, told_of_change}
use Rattle.ipam_data.specs.Imports.{name_rules, value_rules, kind_rule, draft_of, Progress, begun, makes_one, record_of, after_row, at_row, create_checks, row_checks, row_verdict, row_verdicts, items_of, import_plan, most_rows}
use Rattle.ipam_data.specs.Steps.{next_for, create_plan, change_of_kind, change_plan, delete_plan, get_plan, list_plan, plan_of, plain_step}
use Rattle.register_core.specs.Spaces.{is_claim}

-- a refusal that none of the checks gives which all calls have
pub record IsApart (bad : Refusal) : Type 0 where
  pub rule : (broken : Rule) → Some (Breaks broken) ≢ Some bad
  pub limit : (which : Which) (most : ℕ) → Some (Limit which most) ≢ Some bad
  pub used : (kind : Kind) (n : ℕ) → Some (InUse kind n) ≢ Some bad
  pub absent : (kind : Kind) (n : ℕ) → Some (NotFound kind n) ≢ Some bad
  pub field : (member : FieldName) → Some (Field member) ≢ Some bad
  pub row : (n : ℕ) (fault : RowFault) → Some (Row n fault) ≢ Some bad

module _ (bad : Refusal) (apart : IsApart bad) where
  -- of two lists of checks neither of which refuses so, none does together
  pub never_append : (xs ys : List (Option Refusal)) → first xs ≢ Some bad → first ys ≢ Some bad → first (xs ++ ys) ≢ Some bad
  never_append [] ys a b = b
  never_append (None ∷ xs) ys a b = never_append xs ys a b
  never_append (Some x ∷ xs) ys a b = a

  pub never_one : (x : Option Refusal) → x ≢ Some bad → first (x ∷ []) ≢ Some bad
  never_one None a = λ e. cc
  never_one (Some x) a = a

  never_breaks : (rules : List (Option Rule)) → first (map breaks rules) ≢ Some bad
  never_breaks [] = λ e. cc
  never_breaks (None ∷ rules) = never_breaks rules
  never_breaks (Some rule ∷ rules) = apart.rule rule

  limited : (t : Bool) (which : Which) (most : ℕ) → (if t then None else Some (Limit which most)) ≢ Some bad
  limited true which most = λ e. cc
  limited false which most = apart.limit which most

  never_many : (which : Which) (most count : ℕ) → too_many which most count ≢ Some bad
  never_many which most count = limited (nat_le count most) which most

  never_used : (kind : Kind) (found : Option ℕ) → option_map (InUse kind) found ≢ Some bad
  never_used kind None = λ e. cc
  never_used kind (Some n) = apart.used kind n

  -- no check of the plan refuses so, and where none refuses the answer is no refusal
  pub record IsOfRules (plan : Plan) : Type 0 where
    pub checks : first plan.checks ≢ Some bad
    pub reply : verdict_of plan ≡ None → (refusal : Refusal) → plan.reply ≢ Refused refusal

  pub answered_alike : (s : State) (reply : Reply) → ((refusal : Refusal) → reply ≢ Refused refusal) → answered s reply ≢ Refused bad
  answered_alike s (Made view) h = λ e. cc
  answered_alike s (MadeMany views) h = λ e. cc
  answered_alike s (Changed view) h = λ e. cc
  answered_alike s Gone h = λ e. cc
  answered_alike s (Imported created present) h = λ e. cc
  answered_alike s (One view) h = λ e. cc
  answered_alike s (Page count views) h = λ e. cc
  answered_alike s (Blocks vrf list) h = λ e. cc
  answered_alike s (Addrs vrf len list) h = λ e. cc
  answered_alike s (Percent figure) h = λ e. cc
  answered_alike s (Rows rows) h = λ e. cc
  answered_alike s (Lines lines) h = λ e. cc
  answered_alike s (Refused refusal) h = λ e. h refusal refl

  pub never_outcome : (s : State) (plan : Plan) → IsOfRules plan → (outcome s plan).1 ≢ Refused bad
  never_outcome s plan p = go (verdict_of plan) refl
    where
      go : (v : Option Refusal) → verdict_of plan ≡ v → (outcome s plan).1 ≢ Refused bad
      go (Some refusal) e = λ h. p.checks (e ∙ (let h : Refused refusal ≡ Refused bad = rw (e, outcome) at h in cc))
      go None e = λ h. answered_alike (updated s plan.update) plan.reply (p.reply e) (rw (e, outcome) at h)

  read_rules : (reply : Reply) → ((refusal : Refusal) → reply ≢ Refused refusal) → IsOfRules (reading reply)
  read_rules reply h = record { checks = λ e. cc; reply = λ v. h }

  pub never_served : (form : Answered) (views : List View) (refusal : Refusal) → served form views ≢ Refused refusal
  never_served AsOne (view ∷ views) refusal = λ e. cc
  never_served AsOne [] refusal = λ e. cc
  never_served AsList views refusal = λ e. cc

  never_told : {A : Type 0} (told : A → List (Option Refusal)) (items : List A) → ((item : A) → first (told item) ≢ Some bad) → first (flat_map told items) ≢ Some bad
  never_told told [] h = λ e. cc
  never_told told (item ∷ items) h = never_append (told item) (flat_map told items) (h item) (never_told told items h)

  module _ {T : Type 0} (rules : KindRules T) (s : State) where
    never_log : (more : ℕ) → first (no_log s.spent more ∷ []) ≢ Some bad
    never_log more = never_one (no_log s.spent more) (never_many _ _ _)

    never_seats : (more : ℕ) → first (no_seats rules s more) ≢ Some bad
    never_seats more =
        never_append (too_many _ rules.most (length (rules.row_list s).rows + more) ∷ []) (no_ids (rules.row_list s).next more ∷ []) (never_one (too_many _ rules.most (length (rules.row_list s).rows + more)) (never_many _ _ _))
        (never_one (no_ids (rules.row_list s).next more) (limited (nat_le _ _) _ _))

    never_created : (told : List (Option Rule)) (row : T) → first (creation rules s told row) ≢ Some bad
    never_created told row = never_append (broken rules s None told row) (no_seats rules s 1) (never_breaks (rules.references s row ++ told ++ call_faults rules s None row)) (never_seats 1)

    create_rules : (told : List (Option Rule)) (row : T) → IsOfRules (create rules s told row)
    create_rules told row = record {
      checks = never_append (creation rules s told row) (no_log s.spent 1 ∷ []) (never_created told row) (never_log 1);
      reply = λ v refusal e. cc;
    }

    replace_rules : (old : T) (told : List (Option Rule)) (row : T) → IsOfRules (replace rules s old told row)
    replace_rules old told row = record {
      checks = never_append (broken rules s (Some old) told row) (no_log s.spent 1 ∷ []) (never_breaks (rules.references s row ++ told ++ call_faults rules s (Some old) row)) (never_log 1);
      reply = λ v refusal e. cc;
    }

    pub found_rules : (n : ℕ) (plan : T → Plan) (found : Option T) → ((row : T) → IsOfRules (plan row)) → IsOfRules (with_found rules n plan found)
    found_rules n plan None h = record { checks = apart.absent rules.kind n; reply = λ v refusal e. cc }
    found_rules n plan (Some row) h = h row

    change_rules : (n : ℕ) (told : T → List (Option Rule)) (edit : T → T) → IsOfRules (change rules s n told edit)
    change_rules n told edit = found_rules n (λ old. replace rules s old (told old) (edit old)) (row_at rules.id (rules.row_list s).rows n) (λ old. replace_rules old (told old) (edit old))

    delete_rules : (n : ℕ) → first (rules.users s n) ≢ Some bad → IsOfRules (delete rules s n)
    delete_rules n u = found_rules n (λ old. take_out rules s n) (row_at rules.id (rules.row_list s).rows n) (λ old. record {
      checks = never_append (rules.users s n) (no_log s.spent 1 ∷ []) u (never_log 1);
      reply = λ v refusal e. cc;
    })

    get_rules : (n : ℕ) → IsOfRules (get rules s n)
    get_rules n = found_rules n _ (row_at rules.id (rules.row_list s).rows n) (λ row. record { checks = λ e. cc; reply = λ v refusal e. cc })

    list_rules : (meets : T → Bool) (limit offset : ℕ) → IsOfRules (list rules s meets limit offset)
    list_rules meets limit offset = record { checks = λ e. cc; reply = λ v refusal e. cc }

    -- the checks of a claim before it is looked for space, and those after it
    pub never_begun : (told : List (Option Refusal)) (wanted : ℕ) → first told ≢ Some bad → first (too_many Claims most_items wanted ∷ told) ≢ Some bad
    never_begun told wanted t = never_append (too_many Claims most_items wanted ∷ []) told (never_one _ (never_many _ _ _)) t

    pub never_placed : (wanted : ℕ) → first (no_place rules s wanted) ≢ Some bad
    never_placed wanted = never_append (no_seats rules s wanted) (no_log s.spent wanted ∷ []) (never_seats wanted) (never_log wanted)

    pub claim_rules : (told : List (Option Refusal)) (wanted : ℕ) (form : Answered) (rows : List T) → first told ≢ Some bad → no_space wanted (length rows) ≢ Some bad → IsOfRules (claim rules s told wanted form rows)
    claim_rules told wanted form rows t short = record {
      checks = never_append (too_many Claims most_items wanted ∷ told) (no_space wanted (length rows) ∷ no_place rules s wanted) (never_begun told wanted t)
          (never_append (no_space wanted (length rows) ∷ []) (no_place rules s wanted) (never_one _ short) (never_placed wanted));
      reply = λ v refusal. never_served form (map rules.view rows) refusal;
    }

    figure_rules : (figure : State → T → ℕ) (n : ℕ) → IsOfRules (figure_plan rules figure s n)
    figure_rules figure n = found_rules n (λ row. reading (Percent (figure s row))) (row_at rules.id (rules.row_list s).rows n) (λ row. read_rules (Percent (figure s row)) (λ refusal e. cc))

  view_of_rules : (s : State) (told : List (Option Rule)) (view : View) → IsOfRules (by_view view (λ T rules row. create rules s told row))
  view_of_rules s told (VrfView row) = create_rules vrf_rules s told row
  view_of_rules s told (RirView row) = create_rules rir_rules s told row
  view_of_rules s told (RoleView row) = create_rules role_rules s told row
  view_of_rules s told (AggregateView row) = create_rules aggregate_rules s told row
  view_of_rules s told (PrefixView row depth children) = create_rules prefix_rules s told row
  view_of_rules s told (RangeView row) = create_rules range_rules s told row
  view_of_rules s told (AddressView row) = create_rules address_rules s told row

  create_all : (s : State) (draft : Draft) → IsOfRules (create_plan s draft)
  create_all s draft = view_of_rules s (told_of_draft draft) (drafted (next_for s draft) draft)

  kind_of_rules : (s : State) (n : ℕ) (edit : Edit) (kind : Kind) → IsOfRules (change_of_kind s n edit kind)
  kind_of_rules s n edit Vrfs = change_rules vrf_rules s n nothing_told (edited_vrf edit)
  kind_of_rules s n edit Rirs = change_rules rir_rules s n nothing_told (edited_rir edit)
  kind_of_rules s n edit Roles = change_rules role_rules s n nothing_told (edited_role edit)
  kind_of_rules s n edit Aggregates = change_rules aggregate_rules s n nothing_told (edited_aggregate edit)
  kind_of_rules s n edit Prefixes = change_rules prefix_rules s n nothing_told (edited_prefix edit)
  kind_of_rules s n edit Ranges = change_rules range_rules s n (told_of_change edit) (edited_range edit)
  kind_of_rules s n edit Addresses = change_rules address_rules s n nothing_told (edited_address edit)

  change_all : (s : State) (n : ℕ) (edit : Edit) → IsOfRules (change_plan s n edit)
  change_all s n edit = kind_of_rules s n edit (kind_of_edit edit)

  vrf_users : (s : State) (n : ℕ) → first (vrf_rules.users s n) ≢ Some bad
  vrf_users s n = never_append (used Prefixes _ ∷ []) (used Ranges _ ∷ used Addresses _ ∷ []) (never_one _ (never_used Prefixes _))
      (never_append (used Ranges _ ∷ []) (used Addresses _ ∷ []) (never_one _ (never_used Ranges _)) (never_one _ (never_used Addresses _)))
    where
      used : Kind → Option ℕ → Option Refusal
      used kind found = option_map (InUse kind) found

  delete_all : (s : State) (kind : Kind) (n : ℕ) → IsOfRules (delete_plan s kind n)
  delete_all s Vrfs n = delete_rules vrf_rules s n (vrf_users s n)
  delete_all s Rirs n = delete_rules rir_rules s n (never_one _ (never_used Aggregates _))
  delete_all s Roles n = delete_rules role_rules s n (λ e. cc)
  delete_all s Aggregates n = delete_rules aggregate_rules s n (λ e. cc)
  delete_all s Prefixes n = delete_rules prefix_rules s n (λ e. cc)
  delete_all s Ranges n = delete_rules range_rules s n (λ e. cc)
  delete_all s Addresses n = delete_rules address_rules s n (λ e. cc)

  get_all : (s : State) (kind : Kind) (n : ℕ) → IsOfRules (get_plan s kind n)
  get_all s Vrfs n = get_rules vrf_rules s n
  get_all s Rirs n = get_rules rir_rules s n
  get_all s Roles n = get_rules role_rules s n
  get_all s Aggregates n = get_rules aggregate_rules s n
  get_all s Prefixes n = get_rules prefix_rules s n
  get_all s Ranges n = get_rules range_rules s n
  get_all s Addresses n = get_rules address_rules s n

  list_all : (s : State) (filter : Filter) (limit offset : ℕ) → IsOfRules (list_plan s filter limit offset)
  list_all s (SomeVrfs name rd) limit offset = list_rules vrf_rules s _ limit offset
  list_all s (SomeRirs name slug) limit offset = list_rules rir_rules s _ limit offset
  list_all s (SomeRoles name slug) limit offset = list_rules role_rules s _ limit offset
  list_all s (SomeAggregates family rir_id) limit offset = list_rules aggregate_rules s _ limit offset
  list_all s (SomePrefixes family vrf_id status role_id prefix within within_include contains) limit offset = list_rules prefix_rules s _ limit offset
  list_all s (SomeRanges family vrf_id status role_id contains) limit offset = list_rules range_rules s _ limit offset
  list_all s (SomeAddresses family vrf_id status role parent dns_name) limit offset = list_rules address_rules s _ limit offset

  pub told_blocks : (s : State) (items : List BlockItem) (row : Prefix) → first (flat_map (told_of_block s row) items) ≢ Some bad
  told_blocks s items row = never_told (told_of_block s row) items (λ item. never_breaks (wanted_length row item.len ∷ no_such Roles (row_at role_id s.roles.rows) item.role ∷ []))

  pub told_addresses : (family : Family) (items : List AddrItem) → first (flat_map (told_of_address family) items) ≢ Some bad
  told_addresses family items =
      never_told (told_of_address family) items (λ item. told_alone (if is_slaac_of_v4 item.status family then Some SlaacFamily else None) (if is_dns_name (str_to_ascii_lowercase item.dns_name) then None else Some DnsName))
    where
      told_alone : (a b : Option Rule) → first (breaks a ∷ breaks b ∷ []) ≢ Some bad
      told_alone a b = never_breaks (a ∷ b ∷ [])

  utilization_all : (s : State) (kind : Kind) (n : ℕ) → IsOfRules (utilization_plan s kind n)
  utilization_all s Vrfs n = record { checks = apart.absent Vrfs n; reply = λ v refusal e. cc }
  utilization_all s Rirs n = record { checks = apart.absent Rirs n; reply = λ v refusal e. cc }
  utilization_all s Roles n = record { checks = apart.absent Roles n; reply = λ v refusal e. cc }
  utilization_all s Aggregates n = figure_rules aggregate_rules s aggregate_figure n
  utilization_all s Prefixes n = figure_rules prefix_rules s prefix_figure n
  utilization_all s Ranges n = figure_rules range_rules s range_figure n
  utilization_all s Addresses n = record { checks = apart.absent Addresses n; reply = λ v refusal e. cc }

  -- ---- imports

  view_created : (s : State) (told : List (Option Rule)) (view : View) → first (by_view view (λ T rules row. creation rules s told row)) ≢ Some bad
  view_created s told (VrfView row) = never_created vrf_rules s told row
  view_created s told (RirView row) = never_created rir_rules s told row
  view_created s told (RoleView row) = never_created role_rules s told row
  view_created s told (AggregateView row) = never_created aggregate_rules s told row
  view_created s told (PrefixView row depth children) = never_created prefix_rules s told row
  view_created s told (RangeView row) = never_created range_rules s told row
  view_created s told (AddressView row) = never_created address_rules s told row

  made_checked : (makes : Bool) (s : State) (draft : Draft) → first (create_checks makes s draft) ≢ Some bad
  made_checked true s draft = view_created s (told_of_draft draft) (record_of s draft)
  made_checked false s draft = λ e. cc

  -- the refusal of a row tells its number
  numbered : (n : ℕ) (r : Option Refusal) → r ≢ Some bad → option_map (at_row n) r ≢ Some bad
  numbered n None h = λ e. cc
  numbered n (Some (Breaks rule)) h = apart.row n (fault.Rule rule)
  numbered n (Some (Limit which most)) h = apart.row n (fault.Limit which most)
  numbered n (Some (Field member)) h = apart.row n (fault.Field member)
  numbered n (Some BadHead) h = h
  numbered n (Some (TooLarge part)) h = h
  numbered n (Some Coding) h = h
  numbered n (Some NoRoute) h = h
  numbered n (Some Method) h = h
  numbered n (Some BadJson) h = h
  numbered n (Some (NotFound kind id)) h = h
  numbered n (Some (InUse kind id)) h = h
  numbered n (Some (NoSpace item)) h = h
  numbered n (Some Keeper) h = h
  numbered n (Some Memory) h = h
  numbered n (Some (Row other why)) h = h

  kind_checked : (kind : Kind) (row : ImportRow) → first (kind_rule kind row ∷ []) ≢ Some bad
  kind_checked kind row = never_one _ (go _)
    where
      go : (same : Bool) → (if same then None else Some (Field RowField)) ≢ Some bad
      go true = λ e. cc
      go false = apart.field RowField

  row_checked : (old : State) (kind : Kind) (so : Progress) (row : ImportRow) → first (row_checks old kind so row) ≢ Some bad
  row_checked old kind so row =
      let creates = create_checks (makes_one old kind so.seen (draft_of old row)) so.state (draft_of old row) in
      let values = map breaks (value_rules row) in
      let names = map breaks (name_rules old row) in
      never_append (kind_rule kind row ∷ []) (names ++ (values ++ creates)) (kind_checked kind row)
      (never_append names (values ++ creates) (never_breaks (name_rules old row))
      (never_append values creates (never_breaks (value_rules row)) (made_checked (makes_one old kind so.seen (draft_of old row)) so.state (draft_of old row))))

  rows_checked : (old : State) (kind : Kind) (so : Progress) (n : ℕ) (rows : List ImportRow) → first (row_verdicts old kind so n rows) ≢ Some bad
  rows_checked old kind so n [] = λ e. cc
  rows_checked old kind so n (row ∷ rows) =
      never_append (row_verdict old kind so n row ∷ []) (row_verdicts old kind (after_row old kind so row) (n + 1) rows)
      (never_one (row_verdict old kind so n row) (numbered n (first (row_checks old kind so row)) (row_checked old kind so row)))
      (rows_checked old kind (after_row old kind so row) (n + 1) rows)

  import_all : (s : State) (kind : Kind) (rows : List ImportRow) → IsOfRules (import_plan s kind rows)
  import_all s kind rows =
      let few = too_many ImportedRows most_rows (length rows) in
      let verdicts = row_verdicts s kind (begun s) 1 rows in
      let log = no_log s.spent (items_of rows) in
      record {
        checks = never_append (few ∷ verdicts) (log ∷ [])
            (never_append (few ∷ []) verdicts (never_one few (never_many ImportedRows most_rows (length rows))) (rows_checked s kind (begun s) 1 rows))
            (never_one log (never_many _ _ _));
        reply = λ v refusal e. cc;
      }

  -- of a claim it is shown apart: it alone is looked for space
  all_rules : (s : State) (call : Call) → is_claim call ≡ false → IsOfRules (plan_of s call)
  all_rules s (ListOf kind filter limit offset) n = list_all s filter limit offset
  all_rules s (Get kind id) n = get_all s kind id
  all_rules s (Create draft) n = create_all s draft
  all_rules s (Change id edit) n = change_all s id edit
  all_rules s (Delete kind id) n = delete_all s kind id
  all_rules s (BlocksOf id limit) n = found_rules prefix_rules s id (λ row. reading (Blocks row.vrf (take limit (available_blocks_of row.block (child_blocks s.prefixes.rows row))))) (row_at prefix_id s.prefixes.rows id) (λ row. read_rules _ (λ refusal e. cc))
  all_rules s (PrefixAddrs id limit) n = found_rules prefix_rules s id (λ row. reading (Addrs row.vrf row.block.len (take limit (addressed row.block.family (usable_in s row))))) (row_at prefix_id s.prefixes.rows id) (λ row. read_rules _ (λ refusal e. cc))
  all_rules s (RangeAddrs id limit) n = found_rules range_rules s id (λ row. reading (Addrs row.vrf row.ends.len (take limit (addressed row.ends.start.family (usable_of_range s row))))) (row_at range_id s.ranges.rows id) (λ row. read_rules _ (λ refusal e. cc))
  all_rules s (ClaimBlocks id form items) n = cc
  all_rules s (ClaimPrefixAddrs id form items) n = cc
  all_rules s (ClaimRangeAddrs id form items) n = cc
  all_rules s (Utilization kind id) n = utilization_all s kind id
  all_rules s (Import kind rows) n = import_all s kind rows
  all_rules s (Export kind) n = read_rules _ (λ refusal e. cc)
  all_rules s Survey n = read_rules _ (λ refusal e. cc)

  -- a call that is no claim is not answered so
  pub never_answered : (s : State) (call : Call) → is_claim call ≡ false → (plain_step s call).1 ≢ Refused bad
  never_answered s call n = never_outcome s (plan_of s call) (all_rules s call n)
