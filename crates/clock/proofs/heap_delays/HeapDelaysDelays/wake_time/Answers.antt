use Rattle.std.proofs.Common.{rules, ◌≡◌, ◌∙◌, Some, ap, to_z, of_z, w64}
use Rattle.clock.proofs.Asleep.{entry_wakes}
use Rattle.clock.proofs.heap_delays.HeapDelaysDelays.wake_time.Goals as goal

pub returns-in_err-entry : goal.returns-in_err-entry
returns-in_err-entry c =
    c.from_residual.ensures
    ∙ entry_wakes c.args.task _ c.self.inside.heap _ _ c.self.invariant.1.0 c.entries.ensures (ap (λ d. d.sleepers) c.self.view_is) c.in_err-entry.ensures

pub returns : goal.returns
returns c =
    let wake : to_z w64 (of_z w64 c.in_ok-entry.entry.wake) ≡ c.in_ok-entry.entry.wake = search rules in
    ap Some wake
    ∙ entry_wakes c.args.task _ c.self.inside.heap _ _ c.self.invariant.1.0 c.entries.ensures (ap (λ d. d.sleepers) c.self.view_is) c.in_ok-entry.ensures
