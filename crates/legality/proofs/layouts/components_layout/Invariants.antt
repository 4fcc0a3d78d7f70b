use Rattle.std.proofs.Common.{◌≡◌, ◌++◌, drop}
use Rattle.base.specs.declared.limits.TheConstants.{WORDS}
use Rattle.legality.specs.ProgramLayouts.{components_words}
use Rattle.legality.proofs.layouts.components_layout.Given as goal

abbrev pub invariant-loop-component : goal.invariant-loop-component
invariant-loop-component l =
    (l.layout.limit ≡ WORDS) × (l.layout.words ++ components_words l.fn.scope (drop l.component-index l.fn.components) ≡ components_words l.fn.scope l.fn.components)
