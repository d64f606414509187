use Rattle.ipam_data.specs.Rows.{prefix_id}
use Rattle.ipam_data.proofs.Kept.{found_there}
use Rattle.register_claims.proofs.hosts.hosts_figure.Goals as goal

pub used_of_prefix-requires-clause-mask : goal.used_of_prefix-requires-clause-mask
used_of_prefix-requires-clause-mask c =
    (c.requires.lawful.prefixes.each c.args.row.now (found_there prefix_id c.args.row_tables.now.prefixes.rows c.args.row.now.id c.args.row.now c.requires.there).0).mask
