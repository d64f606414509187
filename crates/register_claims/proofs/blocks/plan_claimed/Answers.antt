use Rattle.std.proofs.Common.{◌≡◌, ℕ, ◌+◌, ◌≤◌, ◌<◌, ◌++◌, None, Some, List, length, IfOk, ap, sym, subst, ◌∙◌}
use Rattle.std.specs.List.{flat_map}
use Rattle.std.proofs.lemmas.List.{length-map}
use Rattle.inet_num.specs.Net.{Cidr}
use Rattle.block_claim.specs.Claims.{FitInside, IsShort}
use Rattle.ipam_data.specs.declared.calls.BlockItem.{BlockItem}
use Rattle.block_space.specs.Fit.{fits_of}
use Rattle.ipam_data.specs.declared.replies.Which.TheVariants.{Claims}
use Rattle.ipam_data.specs.Checks.{first, too_many}
use Rattle.ipam_data.specs.Prefixes.{prefix_rules}
use Rattle.ipam_data.specs.Claims.{most_items, told_of_block, lengths_of, claimed_prefixes, child_blocks}
use Rattle.ipam_data.proofs.Verdicts.{none_rest}
use Rattle.register_tables.specs.Held.{state_of}
use Rattle.register_claims.proofs.Claiming.{claim_told, fit_inside, blocks_planned, short_of_blocks}
use Rattle.register_claims.proofs.blocks.plan_claimed.Goals as goal

pub returns-in-Some-clause-plan : goal.returns-in-Some-clause-plan
returns-in-Some-clause-plan c =
    let s = state_of c.args.row_tables.now in
    let row = c.args.row.now in
    let items = c.args.items.now in
    claim_told prefix_rules s c.args.answered (flat_map (told_of_block s row) items) (length items)
    (claimed_prefixes row s.prefixes.next items (fits_of row.block (child_blocks s.prefixes.rows row) (lengths_of items))) c.in-Some.refusal (sym c.claim_fault.ensures ∙ c.in-Some.is)

pub fits-requires-clause-lengths : goal.fits-requires-clause-lengths
fits-requires-clause-lengths c =
    let s = state_of c.args.row_tables.now in
    let row = c.args.row.now in
    let items = c.args.items.now in
    let lens : c.as_slice.result.now ≡ lengths_of items = c.as_slice.ensures.value ∙ c.in_ok-wanted.ensures in
    let asked = sym c.claim_fault.ensures ∙ c.in-None.is in
    subst (λ (ls : List ℕ). FitInside row.block ls) (sym lens) (fit_inside s row items (none_rest (too_many Claims most_items (length items)) (flat_map (told_of_block s row) items) asked))

pub returns-in-Ok-clause-plan : goal.returns-in-Ok-clause-plan
returns-in-Ok-clause-plan c =
    let s = state_of c.args.row_tables.now in
    let row = c.args.row.now in
    let items = c.args.items.now in
    let kids = child_blocks s.prefixes.rows row in
    let lens : c.as_slice.result.now ≡ lengths_of items = c.as_slice.ensures.value ∙ c.in_ok-wanted.ensures in
    let asked = sym c.claim_fault.ensures ∙ c.in-None.is in
    let found : c.as_slice-in-Ok.result.now ≡ fits_of row.block kids (lengths_of items) =
    c.as_slice-in-Ok.ensures.value ∙ c.in-Ok.ensures.ok.0 ∙ ap (λ (ls : List ℕ). fits_of row.block kids ls) lens in
    let each : length c.as_slice-in-Ok.result.now ≡ length items =
    ap (λ (bs : List Cidr). length bs) c.as_slice-in-Ok.ensures.value ∙ c.in-Ok.ensures.ok.1 ∙ ap (λ (ls : List ℕ). length ls) lens ∙ length-map items (λ (item : BlockItem). item.len) in
    blocks_planned s row c.args.answered items (state_of c.fits.new.row_tables) (fits_of row.block kids (lengths_of items)) c.as_slice-in-Ok.result.now c.plan_rows.result
    c.fits.ensures.state found each asked c.plan_rows.ensures

pub returns-clause-plan : goal.returns-clause-plan
returns-clause-plan c =
    let s = state_of c.args.row_tables.now in
    let row = c.args.row.now in
    let items = c.args.items.now in
    let kids = child_blocks s.prefixes.rows row in
    let lens : c.as_slice.result.now ≡ lengths_of items = c.as_slice.ensures.value ∙ c.in_ok-wanted.ensures in
    let asked = sym c.claim_fault.ensures ∙ c.in-None.is in
    let short = subst (λ (n : ℕ). IsShort n (length (fits_of row.block kids (lengths_of items))) c.in-Err.fault) (length-map items (λ (item : BlockItem). item.len))
    (subst (λ (ls : List ℕ). IsShort (length ls) (length (fits_of row.block kids ls)) c.in-Err.fault) lens c.in-Err.ensures.err) in
    short_of_blocks s row c.args.answered items (fits_of row.block kids (lengths_of items)) c.stopped.result asked
    (c.stopped.ensures (length items) (length (fits_of row.block kids (lengths_of items))) short)
