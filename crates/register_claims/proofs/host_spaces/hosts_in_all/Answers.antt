use Rattle.register_claims.proofs.HostTests.{in_all, singles_in_all}
use Rattle.register_claims.proofs.host_spaces.hosts_in_all.Goals as goal

pub returns-clause-singles : goal.returns-clause-singles
returns-clause-singles g c = singles_in_all c.args.book.now.rows (g.S.Space.held c.all.result.now) c.family.result c.all.ensures.blocks

pub returns-clause-hosts : goal.returns-clause-hosts
returns-clause-hosts g c = in_all c.args.book.now.rows c.args.row.now (g.S.Space.held c.all.result.now) c.family.result c.family.ensures.family c.requires.every c.all.ensures.blocks
