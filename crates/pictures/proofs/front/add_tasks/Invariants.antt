use Rattle.std.proofs.Common.{◌≡◌, ◌++◌}
use Rattle.image.specs.Texts.{names_of}
use Rattle.pictures.specs.Front.{below}
use Rattle.pictures.specs.Front.{named_row}
use Rattle.pictures.proofs.front.add_tasks.Given as goal

abbrev pub invariant-loop-task : goal.invariant-loop-task
invariant-loop-task l = l.text.items ≡ l.fn.text.items ++ below l.task (λ t. named_row l.fn.frame l.fn.axis t ((names_of l.fn.image).task t))
