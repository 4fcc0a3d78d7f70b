-- Handlers of interrupts with all that they break, worked by computation.
use Rattle.std.proofs.Common.{◌≡◌, ℕ, ◌+◌, List, [], ◌∷◌, Option, Some, None, refl}
use Rattle.std.specs.Prelude.{codes, map}
use Rattle.ada_tree.specs.declared.declaration.Mode.TheVariants as mode
use Rattle.ada_tree.specs.ExpressionTree.{ExprTree}
use Rattle.ada_tree.specs.StatementTree.{AspectTree, OfEntry, OfSubprogram, OperationTree, SubprogramTree}
use Rattle.ada_tree.specs.ProgramTree.{ItemTree, OfProtected}
use Rattle.types.specs.Scopes.{standard}
use Rattle.ravenscar.specs.HandlerRules.{none_taken}
use Rattle.ravenscar.specs.TaskingRules.{protected_faults}
use Rattle.ravenscar.specs.ProgramRules.{items_faults}
use Rattle.body_restrictions.proofs.Sample.{aspect, entry, fault, identifier, named, number, object, priority, procedure}

-- `with Attach_Handler => ..`
abbrev attached : ℕ → ExprTree → Option AspectTree
attached place value = Some (aspect place (codes "ATTACH_HANDLER") value)

-- `procedure H with Attach_Handler => ..`
abbrev handler : ℕ → ExprTree → OperationTree
handler place value = OfSubprogram (procedure place (codes "H")) (attached (place + 12) value)

right_handlers : map (protected_faults standard none_taken) (
    object 1 (codes "P") None (handler 20 (number 50 1) ∷ handler 60 (number 90 8) ∷ OfEntry (entry 100 (codes "TAKE")) ∷ [])
    ∷ object 1 (codes "P") (priority 12 (number 16 31)) (handler 20 (number 50 1) ∷ [])
    ∷ object 1 (codes "P") (priority 12 (number 16 31)) []
    ∷ []
    ) ≡ [] ∷ [] ∷ [] ∷ []
right_handlers = refl

-- a function, and a procedure with a formal: 70 at the aspect
abbrev with_formal : SubprogramTree
with_formal = record {
  place = 20;
  name = identifier 30 (codes "H");
  formals = record { name = identifier 33 (codes "X"); mode = mode.In; subtype = identifier 37 (codes "INTEGER") } ∷ [];
  result = None;
}

other_profiles : map (λ d. protected_faults standard none_taken (object 1 (codes "P") None (OfSubprogram d (attached 60 (number 80 1)) ∷ []))) (
    record { place = 20; name = identifier 30 (codes "F"); formals = []; result = Some (identifier 40 (codes "INTEGER")) } ∷ with_formal ∷ []
    ) ≡ (fault 70 60 ∷ []) ∷ (fault 70 60 ∷ []) ∷ []
other_profiles = refl

-- 0, 9, a truth value: 71 at the expression
no_channels : map (λ e. protected_faults standard none_taken (object 1 (codes "P") None (handler 20 e ∷ []))) (
    number 50 0 ∷ number 50 9 ∷ named 50 (codes "TRUE") ∷ []
    ) ≡ (fault 71 50 ∷ []) ∷ (fault 71 50 ∷ []) ∷ (fault 71 50 ∷ []) ∷ []
no_channels = refl

-- a channel twice: 72 at the second aspect, in one object and in two
second_handler : protected_faults standard none_taken (object 1 (codes "P") None (handler 20 (number 50 2) ∷ handler 60 (number 90 2) ∷ [])) ≡ fault 72 72 ∷ []
second_handler = refl

second_in_another : items_faults standard none_taken (
    OfProtected (object 1 (codes "P") None (handler 20 (number 50 2) ∷ [])) ∷ OfProtected (object 101 (codes "Q") None (handler 120 (number 150 2) ∷ [])) ∷ []
    ) ≡ fault 72 132 ∷ []
second_in_another = refl

-- a ceiling below the highest: 73 at the object's aspect; one that is none: 38 and 73
low_ceilings : map (λ e. protected_faults standard none_taken (object 1 (codes "P") (priority 12 e) (handler 20 (number 50 2) ∷ []))) (number 16 30 ∷ number 16 32 ∷ [])
    ≡ (fault 73 12 ∷ []) ∷ (fault 38 12 ∷ fault 73 12 ∷ []) ∷ []
low_ceilings = refl

-- another aspect of an operation: 38
other_aspect : protected_faults standard none_taken (object 1 (codes "P") None (OfSubprogram (procedure 20 (codes "H")) (priority 32 (number 50 2)) ∷ [])) ≡ fault 38 32 ∷ []
other_aspect = refl
