use Rattle.std.proofs.Common.{refl}
use Rattle.pool_command.proofs.AboutLaws.{about_answers}
use Rattle.pool_command.proofs.PrintLaws.{print_answers}
use Rattle.pool_command.proofs.Parts.{few_workers}
use Rattle.pool_command.proofs.run.run_command.Goals as goal

pub serve_words-requires-clause-few : goal.serve_words-requires-clause-few
serve_words-requires-clause-few g c κs within = few_workers c.requires.asked.0 c.args.command.now _ c.requires.asked.1 c.in-Serve.is

pub returns-in-About : goal.returns-in-About
returns-in-About g c = about_answers _ _ _ _ _ _ _ c.in-About.is (c.run_about.ensures _ _) refl refl

pub returns-in-Print : goal.returns-in-Print
returns-in-Print g c = print_answers _ _ _ _ _ _ _ _ c.in-Print.is (c.print_words.ensures _) refl
