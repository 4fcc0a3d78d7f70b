use Rattle.crate_tests.proofs.both_keepers.run_both.Given as goal

abbrev pub ghosts-run_both_over-L-Ledger : goal.ghosts-run_both_over-L-Ledger
ghosts-run_both_over-L-Ledger a = record { name = a.first.name; parts = a.first.parts }

abbrev pub ghosts-run_both_over-M-Ledger : goal.ghosts-run_both_over-M-Ledger
ghosts-run_both_over-M-Ledger a = record { name = a.second.name; parts = a.second.parts }

abbrev pub ghosts-run_both_over-N-Ledger : goal.ghosts-run_both_over-N-Ledger
ghosts-run_both_over-N-Ledger a = record { name = a.third.name; parts = a.third.parts }
