use Rattle.register_claims.proofs.HostTests.{in_one, singles_in_table}
use Rattle.register_claims.proofs.host_spaces.hosts_in_own.Goals as goal

pub returns-clause-singles : goal.returns-clause-singles
returns-clause-singles g c = singles_in_table c.args.book.now.rows (g.S.Space.held c.in_table.result.now) c.of.result c.family.result c.in_table.ensures.hosts

pub returns-clause-hosts : goal.returns-clause-hosts
returns-clause-hosts g c =
    in_one c.args.book.now.rows c.args.row.now (g.S.Space.held c.in_table.result.now) c.of.result c.family.result c.of.ensures c.family.ensures.family c.requires.own c.in_table.ensures.hosts
