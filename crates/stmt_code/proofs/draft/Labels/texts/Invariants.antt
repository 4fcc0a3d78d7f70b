use Rattle.std.proofs.Common.{◌≡◌, take}
use Rattle.stmt_code.proofs.draft.Labels.texts.Given as goal

abbrev pub invariant-loop-label : goal.invariant-loop-label
invariant-loop-label l = l.texts.items ≡ take l.label-index l.label-items
