-- When an accepted program is refused, by its text alone: memory was refused, or it may pass a limit of images.
use Rattle.std.specs.Prelude.{ℕ, zero, suc, ◌+◌, ◌<◌, List, [], ◌∷◌, length, map, Option, Some, None, option_map, ◌⊎◌}
use Rattle.base.specs.declared.limits.TheConstants.{EXCEPTIONS, OBJECTS, ROWS, SUBPROGRAMS, TASKS, WORDS}
use Rattle.ada_tree.specs.declared.declaration.Formal.{Formal}
use Rattle.ada_tree.specs.ExpressionTree.{ExprTree}
use Rattle.ada_tree.specs.StatementTree.{SubprogramTree}
use Rattle.ada_tree.specs.ProgramTree.{BodyItemTree, BodyTree, EntryBody, OfItem, OperationBody, ProgramTree, ProtectedBody, ProtectedItemTree, SubprogramBody, TaskBody}
use Rattle.types.specs.Layouts.{total}
use Rattle.types.specs.Scopes.{Scope}
use Rattle.expr_soundness.specs.meaning.specs.Programs.{components_among, package_items, program_of, returned}
use Rattle.program_soundness.specs.Fronts.{declared_in, front, start_in}
use Rattle.expr_code.specs.declared.refusal.ImageLimit.TheVariants as limits
use Rattle.expr_code.specs.declared.refusal.Refusal.{Refusal}
use Rattle.expr_code.specs.declared.refusal.Refusal.TheVariants as refusal
use Rattle.expr_code.specs.declared.visible.Slot.{Slot}
use Rattle.expr_code.specs.declared.visible.Visible.{Visible}
use Rattle.step_simulation.specs.part_code.specs.Bounds.{main_bound}
use Rattle.step_simulation.specs.part_code.specs.Needs.{HasManyLabels, IsNeeding, Needs, both, nothing}
use Rattle.step_simulation.specs.part_code.specs.Rows.{body_rows}
use Rattle.stmt_code.specs.WholeRefusals.{body_labels, function_needs, procedure_needs}
use Rattle.package_code.specs.Bodies.{Coded, bodies_among, coded_at, number_in, of_subprogram, of_task}
use Rattle.package_code.specs.Counts.{bounds_from}
use Rattle.package_code.specs.Owners.{in_object, protected_objects, told_behind_objects, told_inside, told_slot}
use Rattle.package_code.specs.Package.{first_words_of, place_among}

-- ---- what is told of names

-- where the variable of this name stands, or the component of this protected object: one behind the other, in the order of the text
abbrev pub slot_in : ProgramTree → (owner : Option ℕ) → (name : List ℕ) → Option Slot
slot_in t None name = place_among 0 (program_of t).variables name
slot_in t (Some o) name = option_map in_object (place_among 0 ((program_of t).components o) name)

-- what is told of each name, of the first ones nothing
abbrev pub told_behind : {X : Type 0} → (first : ℕ) → (List ℕ → Option X) → Scope → List (Option X)
told_behind first tell [] = []
told_behind zero tell (n ∷ rest) = tell n.name ∷ told_behind zero tell rest
told_behind (suc first) tell (n ∷ rest) = None ∷ told_behind first tell rest

-- the numbers of the bodies of operations, of each protected object of the package
abbrev pub operation_numbers : ProgramTree → List (List (Option ℕ))
operation_numbers t = told_behind_objects (number_in t) (protected_objects (program_of t).scope)

-- What is visible to code where these names are, outside of protected objects or in the body of an operation of this one. The names in front of the package
-- have neither words nor a subprogram. Operations have theirs wherever their object is visible.
abbrev pub seen_with : ProgramTree → (owner : Option ℕ) → Scope → Visible
seen_with t owner s =
    record {
      scope = s;
      slots = told_behind (length (start_in t.package_)) (told_slot (slot_in t) (number_in t) owner) s;
      subprograms = told_behind (length (start_in t.package_)) (told_inside (number_in t) owner) s;
      operations = operation_numbers t;
    }

-- in front of the declaration or body at this place of the package
abbrev pub seen_at : ProgramTree → (place : ℕ) → Visible
seen_at t place = seen_with t None (front t place)

-- in front of the parameters of a body
abbrev pub seen_by : ProgramTree → Coded → Visible
seen_by t c = seen_with t c.owner c.front

-- ---- what code needs

-- what the code of a function needs, which returns the value of one expression
abbrev pub function_if_any : Visible → List Formal → Option ExprTree → Needs
function_if_any v fs (Some e) = function_needs v fs e
function_if_any v fs None = nothing

-- the names in front of its parameters are visible
abbrev pub subprogram_needs : Visible → SubprogramTree → BodyTree → Needs
subprogram_needs v d b = elim d.result [ None ↦ procedure_needs v d.formals b | Some r ↦ function_if_any v d.formals (returned b.statements) ]

-- what the code of a body needs; that of an entry's body needs what a procedure's does
abbrev pub body_needs : ProgramTree → Coded → Needs
body_needs t c = subprogram_needs (seen_by t c) c.head c.body

abbrev pub bodies_needs : ProgramTree → List Coded → Needs
bodies_needs t [] = nothing
bodies_needs t (c ∷ cs) = both (body_needs t c) (bodies_needs t cs)

abbrev pub item_needs : ProgramTree → (place : ℕ) → BodyItemTree → Needs
item_needs t place (OfItem d) = nothing
item_needs t place (SubprogramBody d b) = body_needs t (of_subprogram (front t (suc place)) d b)
item_needs t place (TaskBody name b) = body_needs t (of_task (front t (suc place)) name b)
item_needs t place (ProtectedBody name items end_name) = bodies_needs t (coded_at t place (ProtectedBody name items end_name))

-- of items that stand from this place on
abbrev pub items_needs : ProgramTree → (place : ℕ) → List BodyItemTree → Needs
items_needs t place [] = nothing
items_needs t place (x ∷ rest) = both (item_needs t place x) (items_needs t (suc place) rest)

abbrev pub program_needs : ProgramTree → Needs
program_needs t = items_needs t 0 (declared_in t.package_)

-- the most instructions of all bodies and main
abbrev pub program_bound : ProgramTree → ℕ
program_bound t = total (bounds_from t 0 (declared_in t.package_)) + main_bound t.main.statements

-- ---- labels

abbrev pub subprogram_labels : (before : List (List ℕ)) → SubprogramTree → BodyTree → List (List ℕ)
subprogram_labels before d b = elim d.result [ None ↦ body_labels before b | Some r ↦ before ]

abbrev pub operation_labels : (before : List (List ℕ)) → ProtectedItemTree → List (List ℕ)
operation_labels before (OperationBody d b) = subprogram_labels before d b
operation_labels before (EntryBody d barrier b) = body_labels before b

abbrev pub operations_labels : (before : List (List ℕ)) → List ProtectedItemTree → List (List ℕ)
operations_labels before [] = before
operations_labels before (i ∷ is) = operations_labels (operation_labels before i) is

-- the labels after these bodies
abbrev pub coded_labels : (before : List (List ℕ)) → List Coded → List (List ℕ)
coded_labels before [] = before
coded_labels before (c ∷ cs) = coded_labels (subprogram_labels before c.head c.body) cs

abbrev pub item_labels : (before : List (List ℕ)) → BodyItemTree → List (List ℕ)
item_labels before (OfItem d) = before
item_labels before (SubprogramBody d b) = subprogram_labels before d b
item_labels before (TaskBody name b) = body_labels before b
item_labels before (ProtectedBody name items end_name) = operations_labels before items

abbrev pub items_labels : (before : List (List ℕ)) → List BodyItemTree → List (List ℕ)
items_labels before [] = before
items_labels before (x ∷ rest) = items_labels (item_labels before x) rest

abbrev pub program_labels : ProgramTree → List (List ℕ)
program_labels t = items_labels [] (declared_in t.package_)

-- ---- rows of handlers, one for each choice

abbrev pub subprogram_rows : (before : ℕ) → SubprogramTree → BodyTree → ℕ
subprogram_rows before d b = elim d.result [ None ↦ body_rows before b | Some r ↦ before ]

abbrev pub operation_rows : (before : ℕ) → ProtectedItemTree → ℕ
operation_rows before (OperationBody d b) = subprogram_rows before d b
operation_rows before (EntryBody d barrier b) = body_rows before b

abbrev pub operations_rows : (before : ℕ) → List ProtectedItemTree → ℕ
operations_rows before [] = before
operations_rows before (i ∷ is) = operations_rows (operation_rows before i) is

-- the rows of handlers after these bodies, one for each choice
abbrev pub coded_rows : (before : ℕ) → List Coded → ℕ
coded_rows before [] = before
coded_rows before (c ∷ cs) = coded_rows (subprogram_rows before c.head c.body) cs

abbrev pub item_rows : (before : ℕ) → BodyItemTree → ℕ
item_rows before (OfItem d) = before
item_rows before (SubprogramBody d b) = subprogram_rows before d b
item_rows before (TaskBody name b) = body_rows before b
item_rows before (ProtectedBody name items end_name) = operations_rows before items

abbrev pub items_rows : (before : ℕ) → List BodyItemTree → ℕ
items_rows before [] = before
items_rows before (x ∷ rest) = items_rows (item_rows before x) rest

abbrev pub program_rows : ProgramTree → ℕ
program_rows t = items_rows 0 (declared_in t.package_)

-- ---- refusals

-- why code of its bodies and main isn't made
abbrev pub RefusesCode : ProgramTree → Refusal → Type 0
RefusesCode t why = IsNeeding (program_bound t) (program_needs t) why ⊎ HasManyLabels (program_labels t) why

-- it has more subprograms or tasks, main's among them, or more exceptions or protected objects than an image
abbrev pub HasMany : ProgramTree → Refusal → Type 0
HasMany t (refusal.Limit limits.Subprograms) = SUBPROGRAMS < suc (bodies_among (declared_in t.package_))
HasMany t (refusal.Limit limits.Exceptions) = EXCEPTIONS < length (program_of t).exceptions
HasMany t (refusal.Limit limits.Tasks) = TASKS < length (program_of t).tasks
HasMany t (refusal.Limit limits.Objects) = OBJECTS < (program_of t).objects
HasMany t why = ⊥

-- it has more rows of handlers than an image
abbrev pub HasManyRows : ProgramTree → Refusal → Type 0
HasManyRows t (refusal.Limit limits.Rows) = ROWS < program_rows t
HasManyRows t why = ⊥

-- how many words its variables and the components of its protected objects have
abbrev pub program_words : ProgramTree → ℕ
program_words t =
    length (first_words_of (program_of t).variables)
    + total (map (λ cs. length (first_words_of cs)) (components_among (program_of t).scope (package_items t.package_)))

-- its variables and the components of its protected objects have more words than an image
abbrev pub HasManyWords : ProgramTree → Refusal → Type 0
HasManyWords t (refusal.Limit limits.Words) = WORDS < program_words t
HasManyWords t why = ⊥

-- Why no sections are put together: for want of memory, because of its code, or because an image has fewer of something.
abbrev pub RefusesSections : ProgramTree → Refusal → Type 0
RefusesSections t why = RefusesCode t why ⊎ (HasManyWords t why ⊎ (HasMany t why ⊎ HasManyRows t why))

-- Why an accepted program is refused. Memory may always be refused. It may pass the limit that is told: all its code may have more instructions than an image,
-- a frame and its operand stack may need more words together than a frame has, an object takes no words, or more than an image has, or it has more rows of
-- handlers than an image. No legal program has too many labels, words of variables and components, subprograms, exceptions or protected objects.
abbrev pub RefusesLinking : ProgramTree → Refusal → Type 0
RefusesLinking t why = IsNeeding (program_bound t) (program_needs t) why ⊎ HasManyRows t why
