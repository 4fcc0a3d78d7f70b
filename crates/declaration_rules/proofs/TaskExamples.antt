-- What tasks and exceptions declare, and tasks that only the profile leaves out, worked by computation. Places are those in the text above each.
use Rattle.std.proofs.Common.{◌≡◌, [], ◌∷◌, Option, Some, None, refl}
use Rattle.std.specs.Prelude.{codes}
use Rattle.ada_tree.specs.declared.expression.UnaryOperator.TheVariants as unary
use Rattle.ada_tree.specs.declared.expression.BinaryOperator.TheVariants as binary
use Rattle.ada_tree.specs.StatementTree.{TaskTree}
use Rattle.types.specs.Entities.{Task, Exception, Entity}
use Rattle.types.specs.Scopes.{entity_at}
use Rattle.expr_rules.specs.Faults.{least}
use Rattle.declaration_rules.specs.TaskRules.{exception_scope, task_faults, task_scope}
use Rattle.type_rules.proofs.Sample.{identifier, num, one, two, name, package_scope, next}

abbrev declared_task : TaskTree → Option Entity
declared_task d = entity_at (task_scope package_scope d) next

-- `task Z with Size => Seven;`
another_aspect_of_any_type : least (task_faults package_scope (record {
  place = 0;
  name = (identifier 5 (codes "Z"));
  aspect = Some (record {
    place =
        7;
    name = (identifier 12 (codes "SIZE"));
    value = name 20 (codes "SEVEN") [];
  });
  definition = None;
})) ≡ None
another_aspect_of_any_type = refl

-- `task Z is entry Go; end Z;`
task_ended_by_its_name : least (task_faults package_scope (record {
  place = 0;
  name = (identifier 5 (codes "Z"));
  aspect = None;
  definition = Some
      (record { entries = record { place = 10; name = (identifier 16 (codes "GO")) } ∷ []; end_name = (identifier 24 (codes "Z")) });
})) ≡ None
task_ended_by_its_name = refl

-- `task Z with Priority => 3 * 2 + 1;`
declares_a_task : declared_task (record {
  place = 0;
  name = (identifier 5 (codes "Z"));
  aspect = Some (record {
    place = 7;
    name = (identifier 12
        (codes "PRIORITY"));
    value = two binary.Add (two binary.Multiply (num 24 3) (num 28 2)) (num 32 1);
  });
  definition = None;
}) ≡ Some (Task 7)
declares_a_task = refl

-- `task Z;`
without_an_aspect : declared_task (record { place = 0; name = (identifier 5 (codes "Z")); aspect = None; definition = None }) ≡ Some (Task 15)
without_an_aspect = refl

-- `task Z with Priority => 31;`
above_the_highest : declared_task (record {
  place = 0;
  name = (identifier 5 (codes "Z"));
  aspect = Some (record {
    place = 7;
    name = (identifier 12
        (codes "PRIORITY"));
    value = num 24 31;
  });
  definition = None;
}) ≡ Some (Task 15)
above_the_highest = refl

-- `task Z with Priority => -1;`
below_the_least : declared_task (record {
  place = 0;
  name = (identifier 5 (codes "Z"));
  aspect = Some (record {
    place = 7;
    name = (identifier 12
        (codes "PRIORITY"));
    value = one unary.Minus 24 (num 25 1);
  });
  definition = None;
}) ≡ Some (Task 15)
below_the_least = refl

-- `Z : exception;`
declares_an_exception : entity_at (exception_scope package_scope (identifier 0 (codes "Z"))) next ≡ Some Exception
declares_an_exception = refl
