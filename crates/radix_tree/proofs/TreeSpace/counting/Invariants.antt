use Rattle.radix_tree.proofs.TreeSpace.counting.Given as goal

abbrev pub ghosts-count_counted : goal.ghosts-count_counted
ghosts-count_counted a = record { name = a.blank.name; parts = a.blank.parts }
