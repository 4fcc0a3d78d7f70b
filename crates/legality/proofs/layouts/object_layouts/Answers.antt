use Rattle.std.proofs.Common.{◌+◌, ◌++◌, drop, map, sym, ap, ◌∙◌}
use Rattle.std.proofs.lemmas.List.{append_assoc, map-append}
use Rattle.legality.specs.Placing.{object_at}
use Rattle.legality.specs.ProgramLayouts.{objects_words, placed}
use Rattle.legality.proofs.Placing.{objects_left, room_for_object}
use Rattle.legality.proofs.layouts.object_layouts.Goals as goal

pub push_object-requires : goal.push_object-requires
push_object-requires c = record { room = room_for_object c.args.scope.now c.loop-number.number c.requires.room }

pub loop-number-preserved : goal.loop-number-preserved
loop-number-preserved c =
    let l = c.loop-number in
    let s = c.args.scope.now in
    let here = object_at s l.number in
    let left = objects_words s (drop (l.number + 1) s) in
    ap (λ items. items ++ map placed left) c.in_ok-push_object.ensures
    ∙ append_assoc l.layouts.items (map placed here) (map placed left)
    ∙ ap (λ r. l.layouts.items ++ r) (sym (map-append placed here left) ∙ ap (map placed) (sym (objects_left s l.number)))
    ∙ l.invariant
