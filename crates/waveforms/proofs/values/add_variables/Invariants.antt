use Rattle.std.proofs.Common.{◌≡◌, ◌+◌, ◌++◌, drop, vec_capacity, vec_len}
use Rattle.waveforms.specs.Signals.{variable_values}
use Rattle.waveforms.proofs.values.add_variables.Given as goal

-- the values of the variables that are left are still to come
abbrev pub invariant-loop-variable : goal.invariant-loop-variable
invariant-loop-variable l =
    (l.values.items ++ variable_values l.words (drop l.variable-index l.variables) ≡ l.fn.values.items ++ variable_values l.words l.variables)
    × (vec_len l.values ≡ vec_len l.fn.values + l.variable-index)
    × (vec_capacity l.values ≡ vec_capacity l.fn.values)
