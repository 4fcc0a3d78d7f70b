-- Declarations and their bodies (RM 3.11.1, 6.3.1, 7.2, 9.1, 9.4; docs/LANGUAGE.md, "Rules of bodies"): 18,
-- where a body is missing, a second one, or not like its declaration.
use Rattle.std.specs.Prelude.{Bool, true, false, not, ◌&&◌, ◌||◌, List, [], ◌∷◌, ◌++◌, Option, Some, None, bytes_eq}
use Rattle.std.specs.List.{list_any}
use Rattle.base.specs.declared.faults.TheConstants.{UNMATCHED_BODY}
use Rattle.ada_tree.specs.declared.expression.Identifier.{Identifier}
use Rattle.ada_tree.specs.declared.declaration.Formal.{Formal}
use Rattle.ada_tree.specs.declared.declaration.Mode.{Mode}
use Rattle.ada_tree.specs.declared.declaration.Mode.TheVariants as mode
use Rattle.ada_tree.specs.StatementTree.{SubprogramTree, OperationTree, OfSubprogram, OfEntry}
use Rattle.ada_tree.specs.ProgramTree.{ItemTree, OfTask, OfProtected, ProtectedItemTree, OperationBody, EntryBody, BodyItemTree, OfItem, SubprogramBody, TaskBody, ProtectedBody}
use Rattle.ada_tree.specs.ProgramTree.{OfSubprogram as OfDeclared}
use Rattle.expr_rules.specs.Faults.{Faults, rule}
use Rattle.conformance.specs.declared.bodies.BodyOf.{BodyOf}
use Rattle.conformance.specs.declared.bodies.BodyOf.TheVariants as body_of

-- ---- conformance (RM 6.3.1): the same names, modes and subtypes of formals in order, the same subtype of the result

abbrev pub same_name : Identifier → Identifier → Bool
same_name a b = bytes_eq a.name b.name

abbrev pub same_mode : Mode → Mode → Bool
same_mode mode.In mode.In = true
same_mode mode.Out mode.Out = true
same_mode mode.InOut mode.InOut = true
same_mode a b = false

abbrev pub same_formal : Formal → Formal → Bool
same_formal a b = same_name a.name b.name && (same_mode a.mode b.mode && same_name a.subtype b.subtype)

abbrev pub same_formals : List Formal → List Formal → Bool
same_formals [] [] = true
same_formals (a ∷ as_) (b ∷ bs) = same_formal a b && same_formals as_ bs
same_formals as_ bs = false

abbrev pub same_result : Option Identifier → Option Identifier → Bool
same_result None None = true
same_result (Some a) (Some b) = same_name a b
same_result a b = false

abbrev pub conforms : SubprogramTree → SubprogramTree → Bool
conforms d body = same_formals d.formals body.formals && same_result d.result body.result

-- ---- what is the body of what

-- a body of this kind and name in the body of the package
abbrev pub is_body_of : BodyOf → Identifier → BodyItemTree → Bool
is_body_of body_of.Subprogram name (SubprogramBody d b) = same_name name d.name
is_body_of body_of.Task name (TaskBody own b) = same_name name own
is_body_of body_of.Object name (ProtectedBody own items end_name) = same_name name own
is_body_of kind name i = false

abbrev pub operation_name : ProtectedItemTree → Identifier
operation_name (OperationBody d b) = d.name
operation_name (EntryBody d barrier b) = d.name

-- the body of an operation of this name in the body of an object, of whatever kind: that of another kind is not like its declaration
abbrev pub is_operation_body : Identifier → ProtectedItemTree → Bool
is_operation_body name i = same_name name (operation_name i)

-- it stands in a body of this object
abbrev pub has_operation : (object : Identifier) → Identifier → BodyItemTree → Bool
has_operation object name (ProtectedBody own items end_name) = same_name object own && list_any (is_operation_body name) items
has_operation object name i = false

-- ---- 18, at a declaration: no body stands behind it

abbrev pub missing_body_rule : (behind : List BodyItemTree) → BodyOf → Identifier → Faults
missing_body_rule behind kind name = rule UNMATCHED_BODY name.place (not (list_any (is_body_of kind name) behind))

abbrev pub missing_operation_rule : (behind : List BodyItemTree) → (object : Identifier) → OperationTree → Faults
missing_operation_rule behind object (OfSubprogram d a) = rule UNMATCHED_BODY d.name.place (not (list_any (has_operation object d.name) behind))
missing_operation_rule behind object (OfEntry d) = rule UNMATCHED_BODY d.name.place (not (list_any (has_operation object d.name) behind))

abbrev pub missing_operations_faults : (behind : List BodyItemTree) → (object : Identifier) → List OperationTree → Faults
missing_operations_faults behind object [] = []
missing_operations_faults behind object (o ∷ os) = missing_operation_rule behind object o ++ missing_operations_faults behind object os

abbrev pub missing_faults : (behind : List BodyItemTree) → ItemTree → Faults
missing_faults behind (OfDeclared d) = missing_body_rule behind body_of.Subprogram d.name
missing_faults behind (OfTask d) = missing_body_rule behind body_of.Task d.name
missing_faults behind (OfProtected d) = missing_body_rule behind body_of.Object d.name ++ missing_operations_faults behind d.name d.operations
missing_faults behind d = []

-- the declarations of the specification, which the body stands behind
abbrev pub all_missing_faults : (behind : List BodyItemTree) → List ItemTree → Faults
all_missing_faults behind [] = []
all_missing_faults behind (d ∷ ds) = missing_faults behind d ++ all_missing_faults behind ds

-- ---- 18, at a body: it is a second one, or a declaration in front of it is another one

-- among the declarations of the specification, and those in front in the body
abbrev pub passes_declared : (ItemTree → Bool) → BodyItemTree → Bool
passes_declared test (OfItem d) = test d
passes_declared test i = false

abbrev pub any_declared : (ItemTree → Bool) → (specified : List ItemTree) → (before : List BodyItemTree) → Bool
any_declared test specified before = list_any test specified || list_any (passes_declared test) before

abbrev pub is_unlike_subprogram : (body : SubprogramTree) → ItemTree → Bool
is_unlike_subprogram body (OfDeclared d) = same_name d.name body.name && not (conforms d body)
is_unlike_subprogram body d = false

abbrev pub body_rule : (specified : List ItemTree) → (before : List BodyItemTree) → SubprogramTree → Faults
body_rule specified before d =
    rule UNMATCHED_BODY d.name.place (list_any (is_body_of body_of.Subprogram d.name) before || any_declared (is_unlike_subprogram d) specified before)

abbrev pub second_rule : (before : List BodyItemTree) → BodyOf → Identifier → Faults
second_rule before kind name = rule UNMATCHED_BODY name.place (list_any (is_body_of kind name) before)

-- an operation of an object: its body is of another kind (a procedure or function, or an entry), or doesn't conform to it
abbrev pub is_unlike_operation : (body : ProtectedItemTree) → OperationTree → Bool
is_unlike_operation (OperationBody d b) (OfSubprogram o a) = same_name o.name d.name && not (conforms o d)
is_unlike_operation (EntryBody d barrier b) (OfEntry o) = same_name o.name d.name && not (same_formals o.formals d.formals)
is_unlike_operation (OperationBody d b) (OfEntry o) = same_name o.name d.name
is_unlike_operation (EntryBody d barrier b) (OfSubprogram o a) = same_name o.name d.name

abbrev pub has_unlike_operation : (object : Identifier) → (body : ProtectedItemTree) → ItemTree → Bool
has_unlike_operation object body (OfProtected d) = same_name d.name object && list_any (is_unlike_operation body) d.operations
has_unlike_operation object body d = false

abbrev pub operation_is_entry : ProtectedItemTree → Bool
operation_is_entry (OperationBody d b) = false
operation_is_entry (EntryBody d barrier b) = true

abbrev pub is_second_operation : (before : List ProtectedItemTree) → ProtectedItemTree → Bool
is_second_operation before i = list_any (is_operation_body (operation_name i)) before

abbrev pub operation_body_rule : (specified : List ItemTree) → (before : List BodyItemTree) → (object : Identifier) → (earlier : List ProtectedItemTree)
    → ProtectedItemTree → Faults
operation_body_rule specified before object earlier i =
    rule UNMATCHED_BODY (operation_name i).place (is_second_operation earlier i || any_declared (has_unlike_operation object i) specified before)

abbrev pub operation_bodies_faults : (specified : List ItemTree) → (before : List BodyItemTree) → (object : Identifier) → (earlier : List ProtectedItemTree)
    → List ProtectedItemTree → Faults
operation_bodies_faults specified before object earlier [] = []
operation_bodies_faults specified before object earlier (i ∷ is) =
    operation_body_rule specified before object earlier i ++ operation_bodies_faults specified before object (earlier ++ i ∷ []) is

-- ---- the whole package

-- an item of the body between those in front of it and those behind it
abbrev pub item_matching : (specified : List ItemTree) → (before behind : List BodyItemTree) → BodyItemTree → Faults
item_matching specified before behind (OfItem d) = missing_faults behind d
item_matching specified before behind (SubprogramBody d b) = body_rule specified before d
item_matching specified before behind (TaskBody name b) = second_rule before body_of.Task name
item_matching specified before behind (ProtectedBody name items end_name) =
    second_rule before body_of.Object name ++ operation_bodies_faults specified before name [] items

abbrev pub items_matching : (specified : List ItemTree) → (before : List BodyItemTree) → List BodyItemTree → Faults
items_matching specified before [] = []
items_matching specified before (i ∷ is) = item_matching specified before is i ++ items_matching specified (before ++ i ∷ []) is

abbrev pub matching_faults : (specified : List ItemTree) → List BodyItemTree → Faults
matching_faults specified items = all_missing_faults items specified ++ items_matching specified [] items
