use Rattle.std.proofs.Common.{◌∙◌, ◌+◌, ◌++◌, codes}
use Rattle.image.specs.Texts.{names_of}
use Rattle.pictures.specs.Front.{below, named_row}
use Rattle.pictures.specs.Text.{object_name}
use Rattle.pictures.proofs.Pieces.{two}
use Rattle.pictures.proofs.front.add_rows.Goals as goal

pub returns : goal.returns
returns c =
    let text = c.args.text.now.items in
    let f = c.args.frame in
    let axis = c.args.axis in
    two text _ _ _ _ (two text _ _ _ _ c.in_ok-add_tasks.ensures c.in_ok-add_objects.ensures) c.in_ok-add_row.ensures
    ∙ (λ j. text
    ++ (below f.tasks (λ t. named_row f axis t ((names_of c.args.image.now).task t))
    ++ below f.objects (λ o. named_row f axis (f.tasks + o) (object_name c.args.names.now o))
    ++ named_row f axis (c.from.ensures j + c.from-2.ensures j) (codes "inputs, interrupts")))
