use Rattle.radix_tree.proofs.TreeSpace.covered.Given as goal

abbrev pub ghosts-covered_counted : goal.ghosts-covered_counted
ghosts-covered_counted a = record { name = a.blank.name; parts = a.blank.parts }
