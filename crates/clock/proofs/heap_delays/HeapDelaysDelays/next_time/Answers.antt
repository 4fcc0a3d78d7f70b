use Rattle.std.proofs.Common.{rules, ap, ◌∙◌}
use Rattle.clock.specs.Sleepers.{least_wake}
use Rattle.clock.proofs.Waking.{least_taken}
use Rattle.clock.proofs.heap_delays.HeapDelaysDelays.next_time.Goals as goal

pub returns : goal.returns
returns c =
    search rules
    ∙ least_taken c.in_ok-first.first c.self.inside.heap c.in_ok-first.ensures.least.0 c.in_ok-first.ensures.least.1
    ∙ ap (λ d. least_wake d.sleepers) c.self.view_is
