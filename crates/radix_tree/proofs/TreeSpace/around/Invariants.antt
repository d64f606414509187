use Rattle.radix_tree.proofs.TreeSpace.around.Given as goal

abbrev pub ghosts-around_counted : goal.ghosts-around_counted
ghosts-around_counted a = record { name = a.blank.name; parts = a.blank.parts }
