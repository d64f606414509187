use Rattle.std.proofs.Common.{refl}
use Rattle.ipam_command.proofs.AboutLaws.{about_answers}
use Rattle.ipam_command.proofs.Parts.{few_claims, few_readers}
use Rattle.ipam_command.proofs.run_command.Goals as goal

pub run_mirror-requires-clause-few : goal.run_mirror-requires-clause-few
run_mirror-requires-clause-few g c κs within = few_readers c.requires.asked.0 c.args.command.now _ c.requires.asked.1 c.in-Mirror.is

pub run_load-requires-clause-few : goal.run_load-requires-clause-few
run_load-requires-clause-few g c κs within = few_claims c.requires.asked.0 c.args.command.now _ _ c.requires.asked.1 c.in-Load.is

pub returns-in-About : goal.returns-in-About
returns-in-About g c = about_answers _ _ _ _ _ _ _ c.in-About.is (c.run_about.ensures _ _) refl refl
