use Rattle.crate_tests.proofs.changed_images.runs_alike.Given as goal

abbrev pub ghosts-go_on_alike : goal.ghosts-go_on_alike
ghosts-go_on_alike a = record { name = a.blank.name; parts = a.blank.parts }
