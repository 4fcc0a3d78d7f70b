use Rattle.std.proofs.Common.{◌-◌, ◌/◌, ◌<◌, ◌≤◌, ◌∙◌, List, ℕ, ap, arith, false, length, sym}
use Rattle.std.specs.Fmt.{digits_onto}
use Rattle.arrayvec.specs.ArrayVec.{array_vec_len}
use Rattle.waveforms.proofs.Binary.{first_digit, last_digit, more_digits, no_room}
use Rattle.waveforms.proofs.text.binary.Goals as goal

pub loop-digits-init : goal.loop-digits-init
loop-digits-init c = (
  ap (λ (d : List ℕ). digits_onto (64 - length d) 2 false c.args.number d) c.new-digits.ensures ∙ first_digit c.args.number,
  let none = ap (λ (d : List ℕ). length d) c.new-digits.ensures in omega (arith, none),
)

pub returns-then-left-eq0 : goal.returns-then-left-eq0
returns-then-left-eq0 c =
    let test = c.loop-digits-test.true in
    let value = c.len.ensures.value in
    let less : array_vec_len c.loop-digits.digits < 64 = omega (arith, test, value) in
    c.insert.ensures.items ∙ sym (last_digit _ c.loop-digits.left c.loop-digits.digits.items less c.if-left-eq0.true) ∙ c.loop-digits.invariant.0

pub loop-digits-preserved : goal.loop-digits-preserved
loop-digits-preserved c =
    let test = c.loop-digits-test.true in
    let value = c.len.ensures.value in
    let len = c.insert.ensures.len in
    let less : array_vec_len c.loop-digits.digits < 64 = omega (arith, test, value) in (
      (λ j. digits_onto (64 - c.insert.ensures.len j) 2 false (c.loop-digits.left / 2) (c.insert.ensures.items j))
          ∙ sym (more_digits _ c.loop-digits.left c.loop-digits.digits.items less c.if-left-eq0.false)
          ∙ c.loop-digits.invariant.0,
      omega (arith, less, len),
    )

pub returns : goal.returns
returns c =
    let test = c.loop-digits-test.false in
    let value = c.len.ensures.value in
    let full : 64 ≤ array_vec_len c.loop-digits.digits = omega (arith, test, value) in
    sym (no_room _ c.loop-digits.left c.loop-digits.digits.items full) ∙ c.loop-digits.invariant.0
