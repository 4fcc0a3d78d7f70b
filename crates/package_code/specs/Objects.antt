-- The rows of a program's protected objects in the image's table (RM 9.4, 9.5.2, D.3): in the order of their declarations, and so each at its number.
use Rattle.std.specs.Prelude.{◌≡◌, ◌<◌, ◌+◌, ◌&&◌, if◌then◌else◌, nat_le, ℕ, suc, Bool, true, false, List, [], ◌∷◌, ◌++◌, length, map, Option, Some, None, ⊤}
use Rattle.base.specs.declared.limits.TheConstants.{WORDS}
use Rattle.ada_tree.specs.declared.expression.Identifier.{Identifier}
use Rattle.ada_tree.specs.ExpressionTree.{ExprTree, bare_name}
use Rattle.ada_tree.specs.StatementTree.{ProtectedComponentTree, ProtectedTree}
use Rattle.ada_tree.specs.ProgramTree.{ItemTree, OfProtected, ProgramTree}
use Rattle.image.specs.ObjectTable.{ObjectRow}
use Rattle.image.specs.declared.instruction.Region.TheVariants as regions
use Rattle.image.specs.declared.objects.Barrier.{Barrier}
use Rattle.image.specs.declared.objects.Barrier.TheVariants as barriers
use Rattle.types.specs.declared.statics.StaticForm.{StaticForm}
use Rattle.types.specs.declared.statics.StaticForm.TheVariants.{Static}
use Rattle.types.specs.Evaluations.{Val}
use Rattle.types.specs.Layouts.{total}
use Rattle.types.specs.Places.{Object}
use Rattle.types.specs.Scopes.{Scope, protected_of}
use Rattle.types.specs.Shapes.{value_words}
use Rattle.types.specs.Statics.{static_form, static_value}
use Rattle.types.specs.Values.{Value}
use Rattle.type_rules.specs.SubtypeNames.{named_entity}
use Rattle.expr_soundness.specs.meaning.specs.Calls.{is_true}
use Rattle.expr_soundness.specs.meaning.specs.Programs.{Procedure, component, components_among, package_items, program_of}
use Rattle.program_soundness.specs.step_soundness.specs.Fitting.{entry_of}
use Rattle.expr_code.specs.declared.refusal.ImageLimit.TheVariants as limits
use Rattle.expr_code.specs.declared.refusal.Refusal.{Refusal}
use Rattle.expr_code.specs.declared.refusal.Refusal.TheVariants as refusal
use Rattle.expr_code.specs.declared.visible.Slot.{Slot}
use Rattle.package_code.specs.BareObjects.{BareObject}
use Rattle.package_code.specs.Bodies.{number_in}
use Rattle.package_code.specs.Package.{first_words_of}
use Rattle.package_code.specs.Refusing.{slot_in}
use Rattle.package_code.specs.declared.components.ComponentSlot.{ComponentSlot}
use Rattle.package_code.specs.declared.services.Service.{Service}
use Rattle.package_code.specs.declared.objects.ProtectedObjects.{ProtectedObjects}

-- the ceiling of the protected object of this name
abbrev pub ceiling_named : Scope → Identifier → ℕ
ceiling_named s name = elim (protected_of (named_entity s name)) [ Some p ↦ p.ceiling | None ↦ 0 ]

-- its words are those of the initial values of its components, one behind the other
abbrev pub bare_object : Scope → ProtectedTree → BareObject
bare_object s d = record { ceiling = ceiling_named s d.name; words = first_words_of (map (component s) d.components) }

-- of each that is declared among these, where all names of the package are visible
abbrev pub bare_objects : Scope → List ItemTree → List BareObject
bare_objects s [] = []
bare_objects s (OfProtected d ∷ rest) = bare_object s d ∷ bare_objects s rest
bare_objects s (d ∷ rest) = bare_objects s rest

-- ---- entries

-- where the component of this object stands that a barrier names, if it names one
abbrev pub barrier_slot : ProgramTree → (object : ℕ) → Option Identifier → Option Slot
barrier_slot t o (Some name) = slot_in t (Some o) name.name
barrier_slot t o None = None

-- a barrier is static, and True
abbrev pub is_static_truth : StaticForm → Val Value → Bool
is_static_truth Static v = is_true v
is_static_truth form v = false

-- what opens an entry with this barrier (RM 9.5.2): the word of the component that it names, or else what it always is
abbrev pub barrier_by : Scope → Option Slot → ExprTree → Barrier
barrier_by s (Some slot) e = barriers.Word slot.offset
barrier_by s None e = if is_static_truth (static_form s e) (static_value s e) then barriers.Open else barriers.Closed

abbrev pub barrier_row : ProgramTree → (object : ℕ) → Option ExprTree → Barrier
barrier_row t o (Some e) = barrier_by (program_of t).scope (barrier_slot t o (bare_name e)) e
barrier_row t o None = barriers.Closed

-- what is run for a call of the object's entry, and what opens it: the number of the entry's body, and its barrier
abbrev pub service_of : ProgramTree → (object : ℕ) → (entry : Option Procedure) → Service
service_of t o (Some q) = record { entry = number_in t (Some o) q.name; barrier = barrier_row t o q.barrier }
service_of t o None = record { entry = None; barrier = barriers.Closed }

-- ---- rows

-- of the object with this number
abbrev pub object_row : ProgramTree → (object : ℕ) → BareObject → ObjectRow
object_row t o x =
    let service = service_of t o (entry_of (program_of t).procedures o) in
    record { ceiling = x.ceiling; entry = service.entry; barrier = service.barrier; words = x.words }

-- of objects, the first of which has this number
abbrev pub object_rows : ProgramTree → (object : ℕ) → List BareObject → List ObjectRow
object_rows t o [] = []
object_rows t o (x ∷ xs) = object_row t o x ∷ object_rows t (suc o) xs

abbrev pub HaveObjects : ProgramTree → List ObjectRow → Type 0
HaveObjects t rows = rows ≡ object_rows t 0 (bare_objects (program_of t).scope (package_items t.package_))

-- ---- components

-- where components of this object stand, one behind another: the first of them behind so many words
abbrev pub slots_of : (object offset : ℕ) → List Object → List ComponentSlot
slots_of o offset [] = []
slots_of o offset (x ∷ xs) =
    record { object = o; name = x.name; slot = record { region = regions.Object; offset = offset } } ∷ slots_of o (offset + length (value_words x.value)) xs

-- the components of the objects that are declared among these items, the first of which has this number
abbrev pub component_slots : Scope → (object : ℕ) → List ItemTree → List ComponentSlot
component_slots s o [] = []
component_slots s o (OfProtected d ∷ rest) = slots_of o 0 (map (component s) d.components) ++ component_slots s (suc o) rest
component_slots s o (d ∷ rest) = component_slots s o rest

-- each component has a word at least
abbrev pub have_words : List Object → Bool
have_words [] = true
have_words (x ∷ xs) = nat_le 1 (length (value_words x.value)) && have_words xs

-- each component of the objects that are declared among these items has a word at least
abbrev pub objects_have_words : Scope → List ItemTree → Bool
objects_have_words s [] = true
objects_have_words s (OfProtected d ∷ rest) = have_words (map (component s) d.components) && objects_have_words s rest
objects_have_words s (d ∷ rest) = objects_have_words s rest

-- what these declarations tell of protected objects was added
pub record AddsObjects (s : Scope) (old : ProtectedObjects) (items : List ItemTree) (new : ProtectedObjects) : Type 0 where
  pub declared : new.declared.items ≡ old.declared.items ++ bare_objects s items
  pub components : new.components.items ≡ old.components.items ++ component_slots s (length old.declared.items) items
  pub made : objects_have_words s items ≡ true

-- ---- refusals

-- how many words the components of objects have that are declared among these
abbrev pub object_words : Scope → List ItemTree → ℕ
object_words s items = total (map (λ cs. length (first_words_of cs)) (components_among s items))

-- why their rows aren't made: for want of memory, or because components have too many words
abbrev pub RefusesObjects : Scope → List ItemTree → Refusal → Type 0
RefusesObjects s items refusal.Memory = ⊤
RefusesObjects s items (refusal.Limit limits.Words) = WORDS < object_words s items
RefusesObjects s items why = ⊥

-- why the rows of the components of one object aren't made
abbrev pub RefusesComponents : Scope → List ProtectedComponentTree → Refusal → Type 0
RefusesComponents s cs refusal.Memory = ⊤
RefusesComponents s cs (refusal.Limit limits.Words) = WORDS < length (first_words_of (map (component s) cs))
RefusesComponents s cs why = ⊥

-- why the row of one component isn't made, after `words` words of others
abbrev pub RefusesComponent : (words : ℕ) → Refusal → Type 0
RefusesComponent words refusal.Memory = ⊤
RefusesComponent words (refusal.Limit limits.Words) = WORDS < words
RefusesComponent words why = ⊥
