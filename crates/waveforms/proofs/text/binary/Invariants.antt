use Rattle.std.proofs.Common.{◌≡◌, ◌-◌, ◌≤◌, false}
use Rattle.std.specs.Fmt.{digits, digits_onto}
use Rattle.arrayvec.specs.ArrayVec.{array_vec_len}
use Rattle.waveforms.proofs.text.binary.Given as goal

-- the digits of what is left are still to come in front
abbrev pub invariant-loop-digits : goal.invariant-loop-digits
invariant-loop-digits l =
    (digits_onto (64 - array_vec_len l.digits) 2 false l.left l.digits.items ≡ digits 2 false l.fn.number)
    × (array_vec_len l.digits ≤ 64)

abbrev pub decreases-loop-digits : goal.decreases-loop-digits
decreases-loop-digits l = 64 - array_vec_len l.digits
