use Rattle.handlers.proofs.Crossing.{first_of_broken, none_broken}
use Rattle.handlers.proofs.rows.first_broken.Goals as goal

pub returns-clause-first : goal.returns-clause-first
returns-clause-first c = rw c.lesser.ensures (first_of_broken c.args.holders.now c.args.rows.now _ _ c.first_outside.ensures c.in_ok-first_crossing.ensures.first)

pub returns-clause-sound : goal.returns-clause-sound
returns-clause-sound c = rw c.lesser.ensures (none_broken c.args.holders.now c.args.rows.now _ _ c.first_outside.ensures c.in_ok-first_crossing.ensures.nested)
