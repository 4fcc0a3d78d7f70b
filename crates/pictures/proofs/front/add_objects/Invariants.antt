use Rattle.std.proofs.Common.{◌≡◌, ◌+◌, ◌++◌}
use Rattle.pictures.specs.Front.{below}
use Rattle.pictures.specs.Front.{named_row}
use Rattle.pictures.specs.Text.{object_name}
use Rattle.pictures.proofs.front.add_objects.Given as goal

abbrev pub invariant-loop-object : goal.invariant-loop-object
invariant-loop-object l =
    l.text.items ≡ l.fn.text.items ++ below l.object (λ o. named_row l.fn.frame l.fn.axis (l.fn.frame.tasks + o) (object_name l.fn.names o))
