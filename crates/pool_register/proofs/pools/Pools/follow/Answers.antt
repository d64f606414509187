use Rattle.std.proofs.Common.{sym}
use Rattle.pool_register.proofs.Keeping.{change_logged, read_stays, read_steps, refused_stays}
use Rattle.pool_register.proofs.pools.Pools.follow.Goals as goal

pub returns-in-Refused-clause-log : goal.returns-in-Refused-clause-log
returns-in-Refused-clause-log g c = sym (refused_stays c.in-Refused.why (c.args.who, c.args.call) c.args.self.now.log)

pub returns-in-Read-clause-log : goal.returns-in-Read-clause-log
returns-in-Read-clause-log g c =
    let read = read_steps c.args.self.now.state c.args.call c.args.planned c.in-Read.reply c.in-Read.is c.requires in
    read_stays c.in-Read.reply (c.args.who, c.args.call) c.args.self.now.log read.1

pub returns-in-Change-clause-log : goal.returns-in-Change-clause-log
returns-in-Change-clause-log g c =
    change_logged c.perform.result (c.args.who, c.args.call) c.args.self.now.log c.perform.new.self.log c.perform.ensures.accepted c.perform.ensures.log
