use Rattle.std.proofs.Common.{◌≡◌, drop}
use Rattle.expr_rules.specs.Findings.{noted}
use Rattle.size_rules.specs.Limits.{words_faults}
use Rattle.size_rules.proofs.passing.words_faults.Given as goal

abbrev pub invariant-loop-thing : goal.invariant-loop-thing
invariant-loop-thing l = noted l.found (words_faults l.room (drop l.thing-index l.things)) ≡ noted l.fn.found (words_faults l.words l.things)
