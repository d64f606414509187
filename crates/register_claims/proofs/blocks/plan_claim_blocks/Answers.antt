use Rattle.std.proofs.Common.{sym, ◌∙◌}
use Rattle.ipam_data.specs.Rows.{prefix_id}
use Rattle.register_claims.proofs.Counted.{there_at}
use Rattle.register_claims.proofs.blocks.plan_claim_blocks.Goals as goal

pub plan_claimed-requires-clause-there : goal.plan_claimed-requires-clause-there
plan_claimed-requires-clause-there c = there_at prefix_id c.args.row_tables.now.prefixes.rows c.args.id c.in-Some.row (sym c.in_ok-row.ensures ∙ c.in-Some.is)
