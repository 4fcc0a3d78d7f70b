use Rattle.acceptance.proofs.memory.call.Given as goal

abbrev pub ghosts-call_over-L-Ledger : goal.ghosts-call_over-L-Ledger
ghosts-call_over-L-Ledger a = record { name = a.first.name; parts = a.first.parts }

abbrev pub ghosts-call_over-M-Ledger : goal.ghosts-call_over-M-Ledger
ghosts-call_over-M-Ledger a = record { name = a.second.name; parts = a.second.parts }

abbrev pub ghosts-call_over-N-Ledger : goal.ghosts-call_over-N-Ledger
ghosts-call_over-N-Ledger a = record { name = a.third.name; parts = a.third.parts }
