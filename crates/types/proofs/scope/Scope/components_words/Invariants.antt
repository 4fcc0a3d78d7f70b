use Rattle.std.proofs.Common.{◌≡◌, ◌+◌, ◌≤◌, suc, drop}
use Rattle.base.specs.declared.limits.TheConstants.{WORDS}
use Rattle.types.specs.Layouts.{capped}
use Rattle.types.specs.Kept.{components_words}
use Rattle.types.proofs.scope.Scope.components_words.Given as goal

abbrev pub invariant-loop-component : goal.invariant-loop-component
invariant-loop-component l = (capped (l.words + components_words l.self (drop l.component-index l.components)) ≡ capped (components_words l.self l.components)) × (l.words ≤ suc WORDS)
