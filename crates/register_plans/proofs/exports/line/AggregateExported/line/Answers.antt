use Rattle.std.proofs.Common.{refl}
use Rattle.register_plans.proofs.exports.line.AggregateExported.line.Goals as goal

pub rir_name_of-requires : goal.rir_name_of-requires
rir_name_of-requires c = c.requires.lawful.aggregates.registries c.args.self.now c.args.self.now.rir c.requires.there refl
