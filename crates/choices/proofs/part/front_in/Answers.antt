use Rattle.std.proofs.Common.{rules, arith, ◌≡◌, ◌<◌, ◌≤◌, length, ap, sym, take, drop, ◌+◌, ◌*◌, ◌∙◌, get_or, suc}
use Rattle.choices.specs.Parts.{front_from}
use Rattle.choices.specs.Slots.{number_of}
use Rattle.choices.proofs.Parting.{small, combinations_next, front_full, front_next}
use Rattle.choices.proofs.part.front_in.Goals as goal

pub returns-then-enough-combinations-clause-slots : goal.returns-then-enough-combinations-clause-slots
returns-then-enough-combinations-clause-slots c =
    let le : c.args.parts ≤ c.loop-at.combinations = omega arith in
    let none = front_full c.args.parts c.loop-at.combinations (drop c.loop-at.at c.args.slots.now) le in
    let whole = c.loop-at.invariant.3 in
    omega (arith, none, whole)

pub loop-at-preserved : goal.loop-at-preserved
loop-at-preserved c =
    let slots = c.args.slots.now in
    let at = c.loop-at.at in
    let less : at < length slots = omega arith in
    let few : c.loop-at.combinations < c.args.parts = omega arith in
    let count : c.len.result ≡ length c.index-slots-at.result.alternatives = search (rules, c.len.ensures, c.slot.view_is) in
    let is : c.index-slots-at.result ≡ get_or slots at c.index-slots-at.result = search rules in
    let next = front_next c.args.parts c.loop-at.combinations at slots c.index-slots-at.result less is few in
    let made = combinations_next at slots c.index-slots-at.result less is in
    let further : at + 1 ≡ suc at = omega arith in
    let left = ap (λ n. front_from c.args.parts (c.loop-at.combinations * n) (drop (at + 1) slots)) count in
    let whole = c.loop-at.invariant.3 in (
      omega (arith, less),
      (λ i. c.loop-at.invariant.1 i * count i) ∙ (sym made ∙ ap (λ k. number_of (take k slots)) (sym further)),
      small c.loop-at.combinations c.len.result (omega arith) (omega arith),
      omega (arith, next, left, whole),
    )
