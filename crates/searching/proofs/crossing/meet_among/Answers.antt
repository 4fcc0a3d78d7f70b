use Rattle.std.proofs.Common.{rules}
use Rattle.searching.proofs.crossing.meet_among.Goals as goal

pub loop-at-preserved : goal.loop-at-preserved
loop-at-preserved g c = λ h n from rows. c.in_ok-met.ensures.rows h n from (c.loop-at.invariant h n from rows)

pub returns-then-met-clause-met : goal.returns-then-met-clause-met
returns-then-met-clause-met g c = λ h n from rows. c.in_ok-met.ensures.met h n from (c.loop-at.invariant h n from rows) (search (rules, c.if-met.true))

pub returns-then-met-clause-rows : goal.returns-then-met-clause-rows
returns-then-met-clause-rows g c = λ h n from rows. c.in_ok-met.ensures.rows h n from (c.loop-at.invariant h n from rows)

pub returns-clause-rows : goal.returns-clause-rows
returns-clause-rows g c = λ h n from rows. c.loop-at.invariant h n from rows
