use Rattle.std.proofs.Common.{◌∙◌, ◌+◌, ◌++◌, ap}
use Rattle.pictures.specs.Front.{named_row}
use Rattle.pictures.specs.Text.{object_name}
use Rattle.pictures.proofs.Pieces.{one_added}
use Rattle.pictures.proofs.front.add_objects.Goals as goal

pub loop-object-preserved : goal.loop-object-preserved
loop-object-preserved c =
    let object = c.loop-object.object in
    let name = c.deref.ensures.value ∙ c.in_ok-add_object_name.ensures ∙ ap (λ v. v ++ object_name c.args.names.now object) c.new-name.ensures.items in
    one_added _ _ _ (λ o. named_row c.args.frame c.args.axis (c.args.frame.tasks + o) (object_name c.args.names.now o)) object _ c.loop-object.invariant c.in_ok-add_row.ensures
    (λ j. named_row c.args.frame c.args.axis (c.from.ensures j + c.from-in-loop-object.ensures j) (name j))
