use Rattle.claim_trial.proofs.tests.said_of_claim.Given as goal

abbrev pub ghosts-claimed : goal.ghosts-claimed
ghosts-claimed g a = record { name = a.blank.name; parts = a.blank.parts }
