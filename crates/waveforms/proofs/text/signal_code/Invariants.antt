use Rattle.std.proofs.Common.{◌≡◌, ◌-◌, ◌≤◌}
use Rattle.arrayvec.specs.ArrayVec.{array_vec_len}
use Rattle.waveforms.specs.Waves.{code_onto, signal_code}
use Rattle.waveforms.specs.declared.text.TheConstants.{CODE_BYTES}
use Rattle.waveforms.proofs.text.signal_code.Given as goal

-- the digits of what is left are still to come in front
abbrev pub invariant-loop-code : goal.invariant-loop-code
invariant-loop-code l = (code_onto (CODE_BYTES - array_vec_len l.code) l.left l.code.items ≡ signal_code l.fn.signal) × (array_vec_len l.code ≤ CODE_BYTES)

abbrev pub decreases-loop-code : goal.decreases-loop-code
decreases-loop-code l = CODE_BYTES - array_vec_len l.code
