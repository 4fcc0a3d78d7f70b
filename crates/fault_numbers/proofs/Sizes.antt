-- What passes the limits of programs has the number 23.
use Rattle.std.proofs.Common.{◌≡◌, ℕ, arith, refl, true, List, [], ◌∷◌, Option, Some, None}
use Rattle.std.specs.List.{list_all}
use Rattle.std.specs.Prelude.{map}
use Rattle.base.specs.declared.faults.TheConstants.{LIMIT_PASSED, NAME_NOT_VISIBLE}
use Rattle.base.specs.declared.limits.TheConstants.{FRAME_WORDS, WORDS}
use Rattle.ada_tree.specs.declared.declaration.Formal.{Formal}
use Rattle.ada_tree.specs.ProgramTree.{BodyItemTree, OfItem, SubprogramBody, TaskBody, ProtectedBody, BodyTree, PackageTree, ProgramTree, ProtectedItemTree, OperationBody, EntryBody}
use Rattle.types.specs.Scopes.{Scope, standard}
use Rattle.declaration_rules.specs.PackageNames.{body_item_scope, specified_scope}
use Rattle.size_rules.specs.Limits.{Things, limit_passed, object_rule, room_behind, words_faults}
use Rattle.size_rules.specs.BodySizes.{body_faults, body_things}
use Rattle.size_rules.specs.PackageSizes.{body_item_faults, body_items_faults, operation_faults, operations_faults, package_things}
use Rattle.size_rules.specs.ProgramSizes.{declared_faults, optional_size_faults, package_size_faults, size_faults}
use Rattle.fault_numbers.proofs.Ranges.{Legality, ◌⊕◌, is_between, more, none, tested}

-- ---- things beyond a limit

of_places : (places : List ℕ) → Legality (map limit_passed places)
of_places [] = none
of_places (place ∷ places) = more (limit_passed place) (map limit_passed places) refl (of_places places)

-- by cases over the kinds of things, which have no names outside the crate that counts them
of_object : (room : ℕ) (t : _) → list_all (λ f. is_between NAME_NOT_VISIBLE LIMIT_PASSED f.number) (object_rule room t) ≡ true
of_object room t = grind (arith)

of_words : (room : ℕ) (ts : Things) → Legality (words_faults room ts)
of_words room [] = none
of_words room (t ∷ ts) = tested (of_object room t) ⊕ of_words (room_behind room t) ts

-- ---- frames

of_frame : (s : Scope) (formals : List Formal) (b : BodyTree) → Legality (body_faults s formals b)
of_frame s formals b = of_words FRAME_WORDS (body_things s formals b)

of_operation : (s : Scope) (i : ProtectedItemTree) → Legality (operation_faults s i)
of_operation s (OperationBody d b) = of_frame s d.formals b
of_operation s (EntryBody d barrier b) = of_frame s d.formals b

of_operations : (s : Scope) (is : List ProtectedItemTree) → Legality (operations_faults s is)
of_operations s [] = none
of_operations s (i ∷ is) = of_operation s i ⊕ of_operations s is

of_body_item : (s : Scope) (i : BodyItemTree) → Legality (body_item_faults s i)
of_body_item s (OfItem d) = none
of_body_item s (SubprogramBody d b) = of_frame s d.formals b
of_body_item s (TaskBody name b) = of_frame s [] b
of_body_item s (ProtectedBody name items end_name) = of_operations s items

of_body_items : (s : Scope) (is : List BodyItemTree) → Legality (body_items_faults s is)
of_body_items s [] = none
of_body_items s (i ∷ is) = of_body_item s i ⊕ of_body_items (body_item_scope s i) is

-- ---- the program

of_declared : (ts : Things) → Legality (declared_faults ts)
of_declared ts = of_places _ ⊕ of_places _ ⊕ of_places _ ⊕ of_places _ ⊕ of_words WORDS ts

of_package_size : (p : PackageTree) → Legality (package_size_faults p)
of_package_size p =
    of_body_items (specified_scope standard p) p.body.items
    ⊕ of_declared (package_things p)
    ⊕ of_places _

of_optional_size : (p : Option PackageTree) → Legality (optional_size_faults p)
of_optional_size (Some p) = of_package_size p
of_optional_size None = none

pub of_size : (t : ProgramTree) → Legality (size_faults t)
of_size t = of_optional_size t.package_
