-- What a package declares and what stands in its bodies (docs/LANGUAGE.md, "Limits"), in the order of the text.
use Rattle.std.specs.Prelude.{ℕ, Bool, true, false, List, [], ◌∷◌, ◌++◌, Option, Some, None, bytes_eq, is_some, position}
use Rattle.ada_tree.specs.declared.expression.Identifier.{Identifier}
use Rattle.ada_tree.specs.StatementTree.{ObjectTree, SubprogramTree, OperationTree, ProtectedComponentTree}
use Rattle.ada_tree.specs.StatementTree as operation
use Rattle.ada_tree.specs.ProgramTree.{ItemTree, OfType, OfObject, OfException, OfSubprogram, OfTask, OfProtected, ProtectedItemTree, OperationBody}
use Rattle.ada_tree.specs.ProgramTree.{EntryBody, BodyItemTree, OfItem, SubprogramBody, TaskBody, ProtectedBody, PackageTree}
use Rattle.types.specs.Entities.{ProtectedObject}
use Rattle.types.specs.Scopes.{Scope, is_visible, protected_of, standard}
use Rattle.expr_rules.specs.Faults.{Faults}
use Rattle.declaration_rules.specs.ItemRules.{item_scope}
use Rattle.type_rules.specs.SubtypeNames.{named_entity}
use Rattle.declaration_rules.specs.PackageNames.{body_item_scope, inside_scope, specified_scope}
use Rattle.size_rules.specs.declared.thing.Kind.TheVariants as kind
use Rattle.size_rules.specs.declared.thing.Thing.TheVariants.{Counted}
use Rattle.size_rules.specs.Limits.{Things}
use Rattle.size_rules.specs.BodySizes.{body_faults, body_things, sized_object}

-- ---- declarations: a subprogram, task or protected object stands at its first byte, an exception, object or component at its name

-- constants of the package take no words
abbrev pub object_things : Scope → ObjectTree → Things
object_things s d = elim d.constant [ true ↦ [] | false ↦ sized_object s d.name d.subtype ∷ [] ]

abbrev pub operation_place : OperationTree → ℕ
operation_place (operation.OfSubprogram d a) = d.place
operation_place (operation.OfEntry d) = d.place

-- the operations of a protected object count as subprograms
abbrev pub operations_things : List OperationTree → Things
operations_things [] = []
operations_things (o ∷ os) = Counted kind.Subprogram (operation_place o) ∷ operations_things os

abbrev pub components_things : Scope → List ProtectedComponentTree → Things
components_things s [] = []
components_things s (c ∷ cs) = sized_object s c.name c.subtype ∷ components_things s cs

abbrev pub item_things : Scope → ItemTree → Things
item_things s (OfType d) = []
item_things s (OfObject d) = object_things s d
item_things s (OfException name) = Counted kind.Exception name.place ∷ []
item_things s (OfSubprogram d) = Counted kind.Subprogram d.place ∷ []
item_things s (OfTask d) = Counted kind.Task d.place ∷ []
item_things s (OfProtected d) = (Counted kind.ProtectedObject d.place ∷ operations_things d.operations) ++ components_things s d.components

abbrev pub items_things : Scope → List ItemTree → Things
items_things s [] = []
items_things s (d ∷ ds) = item_things s d ++ items_things (item_scope s d) ds

-- ---- bodies: with its declaration one is one subprogram; it counts where no declaration made its name visible

abbrev pub subprogram_things : Scope → SubprogramTree → Things
subprogram_things s d = elim (is_visible s d.name.name) [ true ↦ [] | false ↦ Counted kind.Subprogram d.place ∷ [] ]

abbrev pub is_operation_of : ProtectedObject → Identifier → Bool
is_operation_of p name = is_some (position (λ o. bytes_eq o.name name.name) p.operations)

-- in the body of an object, where the object doesn't declare the operation
abbrev pub operation_things : ProtectedObject → ProtectedItemTree → Things
operation_things p (OperationBody d b) = elim (is_operation_of p d.name) [ true ↦ [] | false ↦ Counted kind.Subprogram d.place ∷ [] ]
operation_things p (EntryBody d barrier b) = []

abbrev pub protected_items_things : ProtectedObject → List ProtectedItemTree → Things
protected_items_things p [] = []
protected_items_things p (i ∷ is) = operation_things p i ++ protected_items_things p is

-- nothing is said of the body of an object that is not known
abbrev pub object_body_things : Option ProtectedObject → List ProtectedItemTree → Things
object_body_things (Some p) items = protected_items_things p items
object_body_things None items = []

abbrev pub named_body_things : Scope → Identifier → List ProtectedItemTree → Things
named_body_things s name items = object_body_things (protected_of (named_entity s name)) items

abbrev pub body_item_things : Scope → BodyItemTree → Things
body_item_things s (OfItem d) = item_things s d
body_item_things s (SubprogramBody d b) = subprogram_things s d
body_item_things s (TaskBody name b) = []
body_item_things s (ProtectedBody name items end_name) = named_body_things s name items

abbrev pub body_items_things : Scope → List BodyItemTree → Things
body_items_things s [] = []
body_items_things s (i ∷ is) = body_item_things s i ++ body_items_things (body_item_scope s i) is

-- ---- inside bodies: what stands in each, and what passes the words of its frame

abbrev pub operation_inside : Scope → ProtectedItemTree → Things
operation_inside s (OperationBody d b) = body_things s d.formals b
operation_inside s (EntryBody d barrier b) = body_things s d.formals b

abbrev pub operations_inside : Scope → List ProtectedItemTree → Things
operations_inside s [] = []
operations_inside s (i ∷ is) = operation_inside s i ++ operations_inside s is

abbrev pub body_item_inside : Scope → BodyItemTree → Things
body_item_inside s (OfItem d) = []
body_item_inside s (SubprogramBody d b) = body_things s d.formals b
body_item_inside s (TaskBody name b) = body_things s [] b
body_item_inside s (ProtectedBody name items end_name) = operations_inside s items

abbrev pub body_items_inside : Scope → List BodyItemTree → Things
body_items_inside s [] = []
body_items_inside s (i ∷ is) = body_item_inside s i ++ body_items_inside (body_item_scope s i) is

abbrev pub operation_faults : Scope → ProtectedItemTree → Faults
operation_faults s (OperationBody d b) = body_faults s d.formals b
operation_faults s (EntryBody d barrier b) = body_faults s d.formals b

abbrev pub operations_faults : Scope → List ProtectedItemTree → Faults
operations_faults s [] = []
operations_faults s (i ∷ is) = operation_faults s i ++ operations_faults s is

abbrev pub body_item_faults : Scope → BodyItemTree → Faults
body_item_faults s (OfItem d) = []
body_item_faults s (SubprogramBody d b) = body_faults s d.formals b
body_item_faults s (TaskBody name b) = body_faults s [] b
body_item_faults s (ProtectedBody name items end_name) = operations_faults s items

abbrev pub body_items_faults : Scope → List BodyItemTree → Faults
body_items_faults s [] = []
body_items_faults s (i ∷ is) = body_item_faults s i ++ body_items_faults (body_item_scope s i) is

-- ---- the package

abbrev pub package_things : PackageTree → Things
package_things p = items_things (inside_scope standard p) p.declaration.items ++ body_items_things (specified_scope standard p) p.body.items

abbrev pub package_inside : PackageTree → Things
package_inside p = body_items_inside (specified_scope standard p) p.body.items

abbrev pub frame_faults : PackageTree → Faults
frame_faults p = body_items_faults (specified_scope standard p) p.body.items
