use Rattle.space_trial.proofs.tests.said.Given as goal

abbrev pub ghosts-fit_of : goal.ghosts-fit_of
ghosts-fit_of g a = record { name = a.blank.name; parts = a.blank.parts }
