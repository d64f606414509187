use Rattle.register_tables.proofs.claims.plan_in_table.Given as goal

abbrev pub ghosts-plan_counted : goal.ghosts-plan_counted
ghosts-plan_counted g a = record { name = a.blank.name; parts = a.blank.parts }
