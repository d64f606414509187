use Rattle.block_list.proofs.tests.lists_answer_as_the_definitions.Given as goal

abbrev pub ghosts-agrees : goal.ghosts-agrees
ghosts-agrees g a = record { name = a.blank.name; parts = a.blank.parts }
