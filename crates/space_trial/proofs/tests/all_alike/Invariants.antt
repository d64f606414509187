use Rattle.space_trial.proofs.tests.all_alike.Given as goal

abbrev pub ghosts-alike : goal.ghosts-alike
ghosts-alike a = record { name = a.blank.name; parts = a.blank.parts }
