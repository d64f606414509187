use Rattle.std.proofs.Common.{List, ap, sym, ◌∙◌, subst, length}
use Rattle.inet_num.specs.Net.{Address}
use Rattle.block_space.specs.Usable.{addressed}
use Rattle.block_claim.specs.Claims.{IsServed}
use Rattle.ipam_data.specs.Claims.{usable_in}
use Rattle.register_tables.specs.Held.{state_of}
use Rattle.register_claims.proofs.HostClaims.{mask_of, told_planned, short_planned, served_planned}
use Rattle.register_claims.proofs.host_claims.claim_in_prefix.Goals as goal

pub returns-in-Some : goal.returns-in-Some
returns-in-Some c = told_planned (state_of c.args.row_tables.now) c.args.answered c.args.items.now c.args.row.now.vrf c.len-len.result c.family-family.result c.args.row.now.block.len c.args.row.now.block.family (usable_in (state_of c.args.row_tables.now) c.args.row.now) c.in-Some.refusal c.family-family.ensures.family (sym c.in_ok-fault.ensures ∙ c.in-Some.is)

pub plan_served-requires-clause-mask : goal.plan_served-requires-clause-mask
plan_served-requires-clause-mask c = mask_of c.args.row.now.block.len c.len-len.result c.in-Ok.found.items c.as_slice.result.now c.len-len.ensures.len c.as_slice.ensures.value c.in-Ok.ensures.mask

pub returns-in-Ok : goal.returns-in-Ok
returns-in-Ok c =
    served_planned (state_of c.args.row_tables.now) c.args.answered c.args.items.now c.args.row.now.vrf c.len-len.result c.family-family.result c.args.row.now.block.len c.args.row.now.block.family (usable_in (state_of c.args.row_tables.now) c.args.row.now) c.as_slice.result.now c.plan_served.result c.len-len.ensures.len c.family-family.ensures.family
    (subst (λ (xs : List Address). IsServed (length c.args.items.now) (addressed c.args.row.now.block.family (usable_in (state_of c.args.row_tables.now) c.args.row.now)) xs) (sym c.as_slice.ensures.value) c.in-Ok.ensures.ok) c.plan_served.ensures

pub returns-in-Err : goal.returns-in-Err
returns-in-Err c =
    short_planned (state_of c.args.row_tables.now) c.args.answered c.args.items.now c.args.row.now.vrf c.len-len.result c.family-family.result c.args.row.now.block.len c.args.row.now.block.family (usable_in (state_of c.args.row_tables.now) c.args.row.now) c.stopped.result c.len-len.ensures.len c.family-family.ensures.family (sym c.in_ok-fault.ensures ∙ c.in-None.is)
    (c.stopped.ensures (length c.args.items.now) (length (usable_in (state_of c.args.row_tables.now) c.args.row.now)) c.in-Err.ensures.err)
