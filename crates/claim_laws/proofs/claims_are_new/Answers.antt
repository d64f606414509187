use Rattle.std.proofs.Common.{refl}
use Rattle.ipam_data.specs.declared.calls.Call.TheVariants.{ClaimBlocks, ClaimPrefixAddrs, ClaimRangeAddrs}
use Rattle.ipam_data.specs.Steps.{plain_step}
use Rattle.claim_laws.proofs.LeastAddresses.{in_prefix, in_range}
use Rattle.claim_laws.proofs.LeastBlocks.{of_blocks}
use Rattle.claim_laws.proofs.claims_are_new.Goals as goal

pub returns : goal.returns
returns c = record {
  in_prefixes = λ s n form items h a. in_prefix s n form items (plain_step s (ClaimPrefixAddrs n form items)) h refl a;
  in_ranges = λ s n form items h a. in_range s n form items (plain_step s (ClaimRangeAddrs n form items)) h refl a;
  of_blocks = λ s n form items h a. of_blocks s n form items (plain_step s (ClaimBlocks n form items)) h refl a;
}
