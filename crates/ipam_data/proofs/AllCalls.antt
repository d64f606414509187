-- The laws of all calls: each leaves a lawful state, and its update may be made.
use Rattle.std.proofs.Common.{ℕ, Option, Some, None, take}
use Rattle.inet_num.specs.Free.{available_blocks_of}
use Rattle.block_space.specs.Usable.{addressed}
use Rattle.ipam_data.specs.declared.kinds.Kind.{Kind}
use Rattle.ipam_data.specs.declared.kinds.Kind.TheVariants.{Vrfs, Rirs, Roles, Aggregates, Prefixes, Ranges, Addresses}
use Rattle.ipam_data.specs.declared.calls.Call.TheVariants.{List as ListOf, Get, Create, Change, Delete, Blocks as BlocksOf, PrefixAddrs, RangeAddrs, ClaimBlocks, ClaimPrefixAddrs, ClaimRangeAddrs, Utilization, Import, Export, Survey}
use Rattle.ipam_data.specs.declared.replies.Reply.{Reply}
use Rattle.ipam_data.specs.declared.replies.Reply.TheVariants.{Blocks, Addrs, Percent, Rows, Lines}
use Rattle.ipam_data.specs.RowList.{row_at}
use Rattle.ipam_data.specs.State.{State, reading}
use Rattle.ipam_data.specs.Plans.{KindRules, with_found, with_row_at}
use Rattle.ipam_data.specs.Updates.{outcome, CanUpdate}
use Rattle.ipam_data.specs.Aggregates.{aggregate_rules}
use Rattle.ipam_data.specs.Prefixes.{prefix_rules}
use Rattle.ipam_data.specs.Ranges.{range_rules}
use Rattle.ipam_data.specs.Claims.{child_blocks, usable_in, usable_of_range, aggregate_figure, prefix_figure, range_figure, utilization_plan}
use Rattle.ipam_data.specs.Exported.{exported}
use Rattle.ipam_data.specs.Survey.{survey_of}
use Rattle.ipam_data.specs.Lawful.{IsLawful, StepsKeepLawful, CallsCanUpdate}
use Rattle.ipam_data.proofs.Sound.{reading_keeps}
use Rattle.ipam_data.proofs.StepLaws.{create_keeps_all, change_keeps_all, delete_keeps_all, get_keeps_all, list_keeps_all}
use Rattle.ipam_data.proofs.ClaimLaws.{claim_blocks_keeps}
use Rattle.ipam_data.proofs.AddressClaims.{claim_prefix_addrs_keeps, claim_range_addrs_keeps}
use Rattle.ipam_data.proofs.ManyCan.{claim_blocks_can, claim_prefix_addrs_can, claim_range_addrs_can}
use Rattle.ipam_data.proofs.ImportLaws.{import_keeps}
use Rattle.ipam_data.proofs.ImportCan.{import_can}
use Rattle.ipam_data.proofs.Can.{nothing_can, create_all, change_all, delete_all, get_all, list_all}

module _ {T : Type 0} (rules : KindRules T) (s : State) (n : ℕ) (reply : T → Reply) where
  -- a row of which something is read
  read_keeps : IsLawful s → IsLawful (outcome s (with_row_at rules s n (λ row. reading (reply row)))).0
  read_keeps h = go (row_at rules.id (rules.row_list s).rows n)
    where
      go : (found : Option T) → IsLawful (outcome s (with_found rules n (λ row. reading (reply row)) found)).0
      go None = h
      go (Some row) = reading_keeps s (reply row) h

  read_can : CanUpdate s (with_row_at rules s n (λ row. reading (reply row))).update
  read_can = go (row_at rules.id (rules.row_list s).rows n)
    where
      go : (found : Option T) → CanUpdate s (with_found rules n (λ row. reading (reply row)) found).update
      go None = nothing_can s
      go (Some row) = nothing_can s

utilization_keeps : (s : State) (kind : Kind) (n : ℕ) → IsLawful s → IsLawful (outcome s (utilization_plan s kind n)).0
utilization_keeps s Vrfs n h = h
utilization_keeps s Rirs n h = h
utilization_keeps s Roles n h = h
utilization_keeps s Aggregates n h = read_keeps aggregate_rules s n (λ row. Percent (aggregate_figure s row)) h
utilization_keeps s Prefixes n h = read_keeps prefix_rules s n (λ row. Percent (prefix_figure s row)) h
utilization_keeps s Ranges n h = read_keeps range_rules s n (λ row. Percent (range_figure s row)) h
utilization_keeps s Addresses n h = h

utilization_can : (s : State) (kind : Kind) (n : ℕ) → CanUpdate s (utilization_plan s kind n).update
utilization_can s Vrfs n = nothing_can s
utilization_can s Rirs n = nothing_can s
utilization_can s Roles n = nothing_can s
utilization_can s Aggregates n = read_can aggregate_rules s n (λ row. Percent (aggregate_figure s row))
utilization_can s Prefixes n = read_can prefix_rules s n (λ row. Percent (prefix_figure s row))
utilization_can s Ranges n = read_can range_rules s n (λ row. Percent (range_figure s row))
utilization_can s Addresses n = nothing_can s

pub steps_keep : StepsKeepLawful
steps_keep s (ListOf kind filter limit offset) h b = list_keeps_all s filter limit offset h
steps_keep s (Get kind n) h b = get_keeps_all s kind n h
steps_keep s (Create draft) h b = create_keeps_all s draft h b
steps_keep s (Change n edit) h b = change_keeps_all s n edit h b
steps_keep s (Delete kind n) h b = delete_keeps_all s kind n h
steps_keep s (BlocksOf n limit) h b = read_keeps prefix_rules s n (λ row. Blocks row.vrf (take limit (available_blocks_of row.block (child_blocks s.prefixes.rows row)))) h
steps_keep s (PrefixAddrs n limit) h b = read_keeps prefix_rules s n (λ row. Addrs row.vrf row.block.len (take limit (addressed row.block.family (usable_in s row)))) h
steps_keep s (RangeAddrs n limit) h b = read_keeps range_rules s n (λ row. Addrs row.vrf row.ends.len (take limit (addressed row.ends.start.family (usable_of_range s row)))) h
steps_keep s (ClaimBlocks n form items) h b = claim_blocks_keeps s n form items h b
steps_keep s (ClaimPrefixAddrs n form items) h b = claim_prefix_addrs_keeps s n form items h b
steps_keep s (ClaimRangeAddrs n form items) h b = claim_range_addrs_keeps s n form items h b
steps_keep s (Utilization kind n) h b = utilization_keeps s kind n h
steps_keep s (Import kind rows) h b = import_keeps s kind rows h b
steps_keep s (Export kind) h b = reading_keeps s (Rows (exported s kind)) h
steps_keep s Survey h b = reading_keeps s (Lines (survey_of s)) h

pub calls_can : CallsCanUpdate
calls_can s (ListOf kind filter limit offset) h b v = list_all s filter limit offset
calls_can s (Get kind n) h b v = get_all s kind n
calls_can s (Create draft) h b v = create_all s draft h v
calls_can s (Change n edit) h b v = change_all s n edit h
calls_can s (Delete kind n) h b v = delete_all s kind n h
calls_can s (BlocksOf n limit) h b v = read_can prefix_rules s n (λ row. Blocks row.vrf (take limit (available_blocks_of row.block (child_blocks s.prefixes.rows row))))
calls_can s (PrefixAddrs n limit) h b v = read_can prefix_rules s n (λ row. Addrs row.vrf row.block.len (take limit (addressed row.block.family (usable_in s row))))
calls_can s (RangeAddrs n limit) h b v = read_can range_rules s n (λ row. Addrs row.vrf row.ends.len (take limit (addressed row.ends.start.family (usable_of_range s row))))
calls_can s (ClaimBlocks n form items) h b v = claim_blocks_can s n form items h v
calls_can s (ClaimPrefixAddrs n form items) h b v = claim_prefix_addrs_can s n form items h v
calls_can s (ClaimRangeAddrs n form items) h b v = claim_range_addrs_can s n form items h v
calls_can s (Utilization kind n) h b v = utilization_can s kind n
calls_can s (Import kind rows) h b v = import_can s kind rows h b v
calls_can s (Export kind) h b v = nothing_can s
calls_can s Survey h b v = nothing_can s
