use Rattle.node_pool.proofs.tests.nodes_are_kept.Given as goal

abbrev pub ghosts-shown : goal.ghosts-shown
ghosts-shown g a = record { name = a.blank.name; parts = a.blank.parts }
