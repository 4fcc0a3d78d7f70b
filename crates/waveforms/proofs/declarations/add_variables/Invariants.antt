use Rattle.std.proofs.Common.{◌≡◌, ◌+◌, ◌++◌, drop}
use Rattle.waveforms.specs.Waves.{variables_text}
use Rattle.waveforms.proofs.declarations.add_variables.Given as goal

-- the declarations of the variables that are left are still to come
abbrev pub invariant-loop-variable : goal.invariant-loop-variable
invariant-loop-variable l =
    (l.text.items ++ variables_text l.signal (drop l.variable-index l.variables) ≡ l.fn.text.items ++ variables_text l.fn.first l.variables)
    × (l.signal ≡ l.fn.first + l.variable-index)
