use Rattle.std.proofs.Common.{◌≡◌, ◌++◌, drop}
use Rattle.choices.specs.Writing.{schedule_text}
use Rattle.choices.proofs.writing.schedule_text.Given as goal

abbrev pub invariant-loop-line : goal.invariant-loop-line
invariant-loop-line l = l.text.items ++ schedule_text (drop l.line-index l.lines) ≡ schedule_text l.lines
