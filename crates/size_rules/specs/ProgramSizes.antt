-- The limits of whole programs (docs/LANGUAGE.md, "Limits"): 23, at the thing over the limit. Main declares nothing and has no labels.
use Rattle.std.specs.Prelude.{[], ◌++◌, Option, Some, None}
use Rattle.base.specs.declared.limits.TheConstants.{LABELS, OBJECTS, PROCEDURES, WORDS}
use Rattle.ada_tree.specs.ProgramTree.{PackageTree, ProgramTree}
use Rattle.expr_rules.specs.Faults.{Faults}
use Rattle.size_rules.specs.declared.thing.Kind.TheVariants.{Subprogram, Task, ProtectedObject, Exception}
use Rattle.size_rules.specs.declared.thing.TheConstants.{DECLARED_EXCEPTIONS, DECLARED_TASKS}
use Rattle.size_rules.specs.Limits.{Things, first_uses, over, places_of, words_faults}
use Rattle.size_rules.specs.PackageSizes.{frame_faults, package_inside, package_things}

-- ---- of what a package declares: subprograms, operations and entries together; tasks; protected objects; exceptions; words of variables and components

abbrev pub subprogram_faults : Things → Faults
subprogram_faults ts = over PROCEDURES (places_of Subprogram ts)

abbrev pub task_faults : Things → Faults
task_faults ts = over DECLARED_TASKS (places_of Task ts)

abbrev pub protected_object_faults : Things → Faults
protected_object_faults ts = over OBJECTS (places_of ProtectedObject ts)

abbrev pub exception_faults : Things → Faults
exception_faults ts = over DECLARED_EXCEPTIONS (places_of Exception ts)

abbrev pub declared_faults : Things → Faults
declared_faults ts = subprogram_faults ts ++ task_faults ts ++ protected_object_faults ts ++ exception_faults ts ++ words_faults WORDS ts

-- ---- of what stands in all bodies together: labels that differ

abbrev pub label_faults : Things → Faults
label_faults ts = over LABELS (first_uses [] ts)

-- ---- the package, its frames among it

abbrev pub package_size_faults : PackageTree → Faults
package_size_faults p = frame_faults p ++ declared_faults (package_things p) ++ label_faults (package_inside p)

abbrev pub optional_size_faults : Option PackageTree → Faults
optional_size_faults (Some p) = package_size_faults p
optional_size_faults None = []

abbrev pub size_faults : ProgramTree → Faults
size_faults t = optional_size_faults t.package_
