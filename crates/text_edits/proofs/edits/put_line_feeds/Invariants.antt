use Rattle.std.proofs.Common.{◌≡◌, ◌-◌, ◌≤◌, ◌++◌, replicate}
use Rattle.text_edits.specs.Edits.{line_feed}
use Rattle.text_edits.proofs.edits.put_line_feeds.Given as goal

abbrev pub invariant-loop-added : goal.invariant-loop-added
invariant-loop-added l = (l.out.items ≡ l.fn.out.items ++ replicate l.added line_feed) × (l.added ≤ l.fn.count)

abbrev pub decreases-loop-added : goal.decreases-loop-added
decreases-loop-added l = l.fn.count - l.added
