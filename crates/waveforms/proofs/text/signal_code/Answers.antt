use Rattle.std.proofs.Common.{◌-◌, ◌/◌, ◌<◌, ◌≤◌, ◌∙◌, arith, sym}
use Rattle.arrayvec.specs.ArrayVec.{array_vec_len}
use Rattle.waveforms.specs.Waves.{code_onto}
use Rattle.waveforms.specs.declared.text.TheConstants.{CODE_BYTES, CODES}
use Rattle.waveforms.proofs.Codes.{more_digits}
use Rattle.waveforms.proofs.text.signal_code.Goals as goal

pub loop-code-preserved : goal.loop-code-preserved
loop-code-preserved c =
    let test = c.loop-code-test.true in
    let value = c.len.ensures.value in
    let len = c.insert-in-loop-code.ensures.len in
    let less : array_vec_len c.loop-code.code < CODE_BYTES = omega (arith, test, value) in
    let high = c.if-left-lt-CODES.false in
    let large : CODES ≤ c.loop-code.left = omega (arith, high) in (
      (λ j. code_onto (CODE_BYTES - len j) (c.loop-code.left / 94) (c.insert-in-loop-code.ensures.items j))
          ∙ sym (more_digits (array_vec_len c.loop-code.code) c.loop-code.left c.loop-code.code.items less large)
          ∙ c.loop-code.invariant.0,
      omega (arith, less, len),
    )
