use Rattle.radix_tree.proofs.Tree.inside.Given as goal

abbrev pub ghosts-inside_counted : goal.ghosts-inside_counted
ghosts-inside_counted a = record { name = a.blank.name; parts = a.blank.parts }
