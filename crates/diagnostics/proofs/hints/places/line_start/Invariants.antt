use Rattle.std.proofs.Common.{◌≡◌, ◌≤◌, length, take}
use Rattle.diagnostics.specs.hints.Places.{line_start}
use Rattle.diagnostics.proofs.hints.places.line_start.Given as goal

-- what is in front decides
abbrev pub invariant-loop-start : goal.invariant-loop-start
invariant-loop-start l = (line_start 0 0 (take l.start l.text) ≡ line_start 0 0 l.text) × (l.start ≤ length l.text)

abbrev pub decreases-loop-start : goal.decreases-loop-start
decreases-loop-start l = l.start
