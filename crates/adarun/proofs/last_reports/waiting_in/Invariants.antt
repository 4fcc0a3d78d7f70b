use Rattle.std.proofs.Common.{◌≡◌, ◌++◌, drop}
use Rattle.adarun.specs.LastReports.{waiting_report}
use Rattle.adarun.proofs.last_reports.waiting_in.Given as goal

-- what is left is still to be added
abbrev pub invariant-loop-waiting : goal.invariant-loop-waiting
invariant-loop-waiting l =
    l.report.items
    ++ waiting_report l.fn.file l.fn.text l.fn.named.image l.fn.named.objects.items l.fn.named.places (drop l.waiting-index l.fn.last.waiting.items)
    ≡ waiting_report l.fn.file l.fn.text l.fn.named.image l.fn.named.objects.items l.fn.named.places l.fn.last.waiting.items
