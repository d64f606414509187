use Rattle.claim_laws.proofs.FewAddresses.{in_prefixes, in_ranges}
use Rattle.claim_laws.proofs.FewBlocks.{of_blocks}
use Rattle.claim_laws.proofs.refused_only_if_none_fits.Goals as goal

pub returns : goal.returns
returns c = record { in_prefixes = in_prefixes; in_ranges = in_ranges; of_blocks = of_blocks }
