use Rattle.std.proofs.Common.{◌≡◌, ◌++◌, drop}
use Rattle.base.specs.declared.limits.TheConstants.{WORDS}
use Rattle.legality.specs.ProgramLayouts.{variables_words}
use Rattle.legality.proofs.layouts.variables_layout.Given as goal

abbrev pub invariant-loop-number : goal.invariant-loop-number
invariant-loop-number l =
    (l.layout.limit ≡ WORDS) × (l.layout.words ++ variables_words l.fn.scope (drop l.number l.fn.scope) ≡ variables_words l.fn.scope l.fn.scope)
