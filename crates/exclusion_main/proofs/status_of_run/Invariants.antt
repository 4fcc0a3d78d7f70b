use Rattle.exclusion_main.proofs.status_of_run.Given as goal

abbrev pub ghosts-watch : goal.ghosts-watch
ghosts-watch a = record { name = a.blank.name; parts = a.blank.parts }
