use Rattle.std.proofs.Common.{◌≡◌, ◌++◌}
use Rattle.pictures.specs.Front.{below}
use Rattle.pictures.specs.Front.{tick_text, times}
use Rattle.pictures.proofs.front.add_ticks.Given as goal

abbrev pub invariant-loop-tick : goal.invariant-loop-tick
invariant-loop-tick l = l.text.items ≡ l.fn.text.items ++ below l.tick (λ k. tick_text l.fn.frame l.fn.axis (times k l.fn.spacing))
