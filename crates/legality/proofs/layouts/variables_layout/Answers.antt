use Rattle.std.proofs.Common.{◌+◌, ◌++◌, drop, sym, ap, ◌∙◌}
use Rattle.std.proofs.lemmas.List.{append_assoc}
use Rattle.legality.specs.Placing.{variable_at}
use Rattle.legality.specs.ProgramLayouts.{variables_words}
use Rattle.legality.proofs.Placing.{room_next, variables_left}
use Rattle.legality.proofs.layouts.variables_layout.Goals as goal

pub place_variable-requires-clause-room : goal.place_variable-requires-clause-room
place_variable-requires-clause-room c =
    let l = c.loop-number in
    let s = c.args.scope.now in
    room_next l.layout.words (variable_at s l.number) (variables_words s (drop (l.number + 1) s)) (variables_words s s)
    (ap (λ r. l.layout.words ++ r) (sym (variables_left s l.number)) ∙ l.invariant.1) c.requires.room

pub loop-number-preserved : goal.loop-number-preserved
loop-number-preserved c =
    let l = c.loop-number in
    let s = c.args.scope.now in
    let here = variable_at s l.number in
    let left = variables_words s (drop (l.number + 1) s) in
    let is = c.in_ok-place_variable.ensures in (
      ap (λ o. o.limit) is ∙ l.invariant.0,
      ap (λ o. o.words ++ left) is
          ∙ append_assoc l.layout.words here left
          ∙ ap (λ r. l.layout.words ++ r) (sym (variables_left s l.number))
          ∙ l.invariant.1,
    )
