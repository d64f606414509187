-- No plan answers that the keeper failed: that answer is the keeper's alone.
use Rattle.std.proofs.Common.{◌≢◌, ℕ, Bool, true, false, nat_lt, length, Some, None, refl, if◌then◌else◌}
use Rattle.ipam_data.specs.declared.calls.Call.{Call}
use Rattle.ipam_data.specs.declared.calls.Call.TheVariants.{List as ListOf, Get, Create, Change, Delete, Blocks, PrefixAddrs, RangeAddrs, ClaimBlocks, ClaimPrefixAddrs, ClaimRangeAddrs, Utilization, Import, Export, Survey}
use Rattle.ipam_data.specs.declared.replies.Refusal.TheVariants.{Keeper, NoSpace}
use Rattle.ipam_data.specs.declared.replies.Reply.TheVariants.{Refused}
use Rattle.ipam_data.specs.Rows.{prefix_id, range_id}
use Rattle.ipam_data.specs.RowList.{row_at}
use Rattle.ipam_data.specs.State.{State}
use Rattle.ipam_data.specs.Prefixes.{prefix_rules}
use Rattle.ipam_data.specs.Ranges.{range_rules}
use Rattle.ipam_data.specs.Addresses.{address_rules}
use Rattle.ipam_data.specs.Claims.{no_space, usable_in, usable_of_range, claim_blocks_of, claim_addresses_of}
use Rattle.ipam_data.specs.Steps.{plan_of, plain_step}
use Rattle.register_core.proofs.Never.{IsApart, found_rules, claim_rules, told_blocks, told_addresses, never_outcome, never_answered}

keeper_apart : IsApart Keeper
keeper_apart = record { rule = λ broken e. cc; limit = λ which most e. cc; used = λ kind n e. cc; absent = λ kind n e. cc; field = λ member e. cc; row = λ n fault e. cc }

never_short : (wanted got : ℕ) → no_space wanted got ≢ Some Keeper
never_short wanted got = go (nat_lt got wanted) where
  go : (t : Bool) → (if t then Some (NoSpace got) else None) ≢ Some Keeper
  go true = λ e. cc
  go false = λ e. cc

-- the plain step never answers that the keeper failed
pub no_keeper : (s : State) (call : Call) → (plain_step s call).1 ≢ Refused Keeper
no_keeper s (ListOf kind filter limit offset) = never_answered Keeper keeper_apart s (ListOf kind filter limit offset) refl
no_keeper s (Get kind n) = never_answered Keeper keeper_apart s (Get kind n) refl
no_keeper s (Create draft) = never_answered Keeper keeper_apart s (Create draft) refl
no_keeper s (Change n edit) = never_answered Keeper keeper_apart s (Change n edit) refl
no_keeper s (Delete kind n) = never_answered Keeper keeper_apart s (Delete kind n) refl
no_keeper s (Blocks n limit) = never_answered Keeper keeper_apart s (Blocks n limit) refl
no_keeper s (PrefixAddrs n limit) = never_answered Keeper keeper_apart s (PrefixAddrs n limit) refl
no_keeper s (RangeAddrs n limit) = never_answered Keeper keeper_apart s (RangeAddrs n limit) refl
no_keeper s (Utilization kind n) = never_answered Keeper keeper_apart s (Utilization kind n) refl
no_keeper s (Import kind rows) = never_answered Keeper keeper_apart s (Import kind rows) refl
no_keeper s (Export kind) = never_answered Keeper keeper_apart s (Export kind) refl
no_keeper s Survey = never_answered Keeper keeper_apart s Survey refl
no_keeper s (ClaimBlocks n form items) =
    never_outcome Keeper keeper_apart s (plan_of s (ClaimBlocks n form items)) (found_rules Keeper keeper_apart prefix_rules s n (claim_blocks_of s form items) (row_at prefix_id s.prefixes.rows n)
    (λ row. claim_rules Keeper keeper_apart prefix_rules s _ (length items) form _ (told_blocks Keeper keeper_apart s items row) (never_short (length items) _)))
no_keeper s (ClaimPrefixAddrs n form items) =
    never_outcome Keeper keeper_apart s (plan_of s (ClaimPrefixAddrs n form items)) (found_rules Keeper keeper_apart prefix_rules s n
    (λ row. claim_addresses_of s form items row.vrf row.block.len row.block.family (usable_in s row)) (row_at prefix_id s.prefixes.rows n)
    (λ row. claim_rules Keeper keeper_apart address_rules s _ (length items) form _ (told_addresses Keeper keeper_apart row.block.family items) (never_short (length items) _)))
no_keeper s (ClaimRangeAddrs n form items) =
    never_outcome Keeper keeper_apart s (plan_of s (ClaimRangeAddrs n form items)) (found_rules Keeper keeper_apart range_rules s n
    (λ row. claim_addresses_of s form items row.vrf row.ends.len row.ends.start.family (usable_of_range s row)) (row_at range_id s.ranges.rows n)
    (λ row. claim_rules Keeper keeper_apart address_rules s _ (length items) form _ (told_addresses Keeper keeper_apart row.ends.start.family items) (never_short (length items) _)))
