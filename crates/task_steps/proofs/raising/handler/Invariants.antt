use Rattle.task_steps.proofs.raising.handler.Given as goal

abbrev pub ghosts-target : goal.ghosts-target
ghosts-target a = record { name = a.blank.name; parts = a.blank.parts }
