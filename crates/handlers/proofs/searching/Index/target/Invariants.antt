use Rattle.std.proofs.Common.{◌≡◌}
use Rattle.handlers.proofs.Searched.{Stands, left}
use Rattle.handlers.proofs.searching.Index.target.Given as goal

abbrev pub invariant-loop-next : goal.invariant-loop-next
invariant-loop-next g l =
    Stands l.fn.self l.fn.place l.fn.exception l.fn.probes.exceptions l.next l.probes.exceptions × (l.probes.places ≡ l.initial.probes.places)

abbrev pub decreases-loop-next : goal.decreases-loop-next
decreases-loop-next g l = left l.fn.self l.next
