use Rattle.adarun_main.proofs.status.Given as goal

abbrev pub ghosts-status_over-L-Ledger : goal.ghosts-status_over-L-Ledger
ghosts-status_over-L-Ledger a = record { name = a.first.name; parts = a.first.parts }

abbrev pub ghosts-status_over-M-Ledger : goal.ghosts-status_over-M-Ledger
ghosts-status_over-M-Ledger a = record { name = a.second.name; parts = a.second.parts }

abbrev pub ghosts-status_over-N-Ledger : goal.ghosts-status_over-N-Ledger
ghosts-status_over-N-Ledger a = record { name = a.third.name; parts = a.third.parts }
