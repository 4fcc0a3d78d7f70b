use Rattle.std.proofs.Common.{◌≡◌, ◌++◌, ℕ}
use Rattle.measuring.specs.Tables.{IsTable}
use Rattle.measuring.specs.Text.{below, shown_object}
use Rattle.measuring.specs.declared.object.ObjectMeasures.{ObjectMeasures}
use Rattle.measuring.proofs.text.add_objects.Given as goal

abbrev pub invariant-loop-object : goal.invariant-loop-object
invariant-loop-object l =
    (m : ℕ → ObjectMeasures) → IsTable l.fn.objects m → l.text.items ≡ l.fn.text.items ++ below l.object (shown_object l.fn.form l.fn.image l.fn.names m)
