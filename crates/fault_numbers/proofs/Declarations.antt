-- What declarations break has numbers from 10 to 23.
use Rattle.std.proofs.Common.{ℕ, refl, ℤ, Bool, true, false, List, [], ◌∷◌, ◌++◌, Option, Some, None}
use Rattle.base.specs.declared.faults.TheConstants.{DECLARED_TWICE, LIMIT_PASSED, NAME_NOT_VISIBLE, NOT_STATIC, NO_MEANING, WRONG_END_NAME, WRONG_FUNCTION, WRONG_STATIC_VALUE}
use Rattle.ada_tree.specs.declared.expression.Identifier.{Identifier}
use Rattle.ada_tree.specs.declared.declaration.Component.{Component}
use Rattle.ada_tree.specs.declared.declaration.Formal.{Formal}
use Rattle.ada_tree.specs.ExpressionTree.{ExprTree}
use Rattle.ada_tree.specs.StatementTree.{AspectTree, DeclarationTree, LocalObject, LocalTask, LocalProtected, ObjectTree, OperationTree, OfEntry, ProtectedComponentTree, ProtectedTree, RangeTree, SubprogramTree, TaskDefinitionTree, TaskTree}
use Rattle.ada_tree.specs.StatementTree.{OfSubprogram as OfOperation}
use Rattle.ada_tree.specs.ProgramTree.{DefinitionTree, Integer, Array, Record, Subtype as SubtypeOf, IndexTree, OfRange, OfSubtype as OfName, ItemTree, OfType as OfTypeItem, OfObject, OfException, OfSubprogram, OfTask, OfProtected, TypeTree}
use Rattle.types.specs.declared.entity.PredefinedOperation.{PredefinedOperation}
use Rattle.types.specs.declared.entity.Subtype.{Subtype}
use Rattle.types.specs.Entities.{Entity, OfType, OfSubtype, Doubtful}
use Rattle.types.specs.Evaluations.{Val, Raises}
use Rattle.types.specs.Scopes.{Scope, integer, integer_type}
use Rattle.types.specs.Statics.{start_of, static_form, static_value}
use Rattle.types.specs.Values.{Value}
use Rattle.expr_rules.specs.declared.own.Own.{Own}
use Rattle.expr_rules.specs.declared.own.Wanted.{Wanted}
use Rattle.expr_rules.specs.declared.own.Wanted.TheVariants as wanted
use Rattle.expr_rules.specs.Faults.{rule}
use Rattle.expr_rules.specs.Typing.{own_of}
use Rattle.expr_rules.specs.ExpressionRules.{faults_of}
use Rattle.declaration_rules.specs.BodyNames.{last_rule, loop_faults, loop_type}
use Rattle.declaration_rules.specs.ItemRules.{item_faults, item_scope, items_faults}
use Rattle.declaration_rules.specs.LocalRules.{fixed_local_faults, fixed_locals_faults, local_faults, local_scope, locals_faults}
use Rattle.type_rules.specs.ObjectRules.{called_faults, fixed_faults, fixed_object_faults, is_clock, local_object_faults, span_call, span_faults, span_rule, span_value}
use Rattle.type_rules.specs.ProfileRules.{formal_faults, formals_faults, function_faults, profile_faults, result_faults, subprogram_faults}
use Rattle.declaration_rules.specs.ProtectedRules.{operation_faults, operation_name, operation_profile_faults, operations_faults, part_faults, parts_faults, protected_faults}
use Rattle.type_rules.specs.SubtypeNames.{declared_twice, end_rule, if_integer, named_entity, subtype_faults, subtype_of, subtype_rule, wanted_by}
use Rattle.declaration_rules.specs.TaskRules.{aspect_faults, aspect_wanted, is_attachment, is_priority, operation_aspect_faults, task_end_faults, task_faults}
use Rattle.type_rules.specs.TypeRules.{array_faults, component_faults, components_faults, definition_faults, index_faults, index_place, narrowed_faults, null_rule, range_faults, static_whole, subtype_range_faults, type_faults}
use Rattle.fault_numbers.proofs.Ranges.{Legality, ◌⊕◌, asked, none}
use Rattle.fault_numbers.proofs.Expressions.{of_expression, of_form, of_mismatch, of_static, of_static_value, unless_broken}

-- ---- names

pub of_new_name : (s : Scope) (name : Identifier) → Legality (declared_twice s name)
of_new_name s name = asked DECLARED_TWICE name.place _ refl

pub of_end_name : (name end_name : Identifier) → Legality (end_rule name end_name)
of_end_name name end_name = asked WRONG_END_NAME end_name.place _ refl

of_subtype_entity : (place : ℕ) (e : Option Entity) → Legality (subtype_rule place e)
of_subtype_entity place None = asked NAME_NOT_VISIBLE place true refl
of_subtype_entity place (Some (OfType form t)) = none
of_subtype_entity place (Some (OfSubtype t)) = none
of_subtype_entity place (Some Doubtful) = none
of_subtype_entity place (Some e) = asked NO_MEANING place true refl

of_subtype : (s : Scope) (name : Identifier) → Legality (subtype_faults s name)
of_subtype s name = of_subtype_entity name.place (named_entity s name)

-- ---- types

of_null : (place : ℕ) (first last : Option ℤ) → Legality (null_rule place first last)
of_null place (Some first) (Some last) = asked WRONG_STATIC_VALUE place _ refl
of_null place first last = none

of_range : (s : Scope) (w : Wanted) (within : Option Subtype) (r : RangeTree) → Legality (range_faults s w within r)
of_range s w within r =
    of_static s w within r.first
    ⊕ of_static s w within r.last
    ⊕ of_null (start_of r.first) (static_whole s w within r.first) (static_whole s w within r.last)

of_index : (s : Scope) (index : IndexTree) → Legality (index_faults s index)
of_index s (OfRange r) = of_range s (wanted.OfType integer_type) (Some integer) r
of_index s (OfName name) = of_subtype s name ⊕ asked NO_MEANING name.place _ refl

of_record_component : (s : Scope) (before : List Component) (c : Component) → Legality (component_faults s before c)
of_record_component s before c = asked DECLARED_TWICE c.name.place _ refl ⊕ of_subtype s c.subtype

of_record_components : (s : Scope) (before cs : List Component) → Legality (components_faults s before cs)
of_record_components s before [] = none
of_record_components s before (c ∷ cs) = of_record_component s before c ⊕ of_record_components s (before ++ c ∷ []) cs

of_array : (s : Scope) (index : IndexTree) (component : Identifier) → Legality (array_faults s index component)
of_array s index component = of_index s index ⊕ asked LIMIT_PASSED (index_place index) _ refl ⊕ of_subtype s component

of_narrowed : (s : Scope) (r : RangeTree) (t : Option Subtype) → Legality (narrowed_faults s r t)
of_narrowed s r (Some t) = of_range s (wanted.OfType t.type_number) (Some t) r
of_narrowed s r None = of_range s wanted.AnyInteger None r

of_subtype_range : (s : Scope) (name : Identifier) (r : RangeTree) → Legality (subtype_range_faults s name r)
of_subtype_range s name r = of_subtype s name ⊕ asked NO_MEANING name.place _ refl ⊕ of_narrowed s r (if_integer s (subtype_of s name))

of_definition : (s : Scope) (d : DefinitionTree) → Legality (definition_faults s d)
of_definition s (Integer r) = of_range s wanted.AnyInteger None r
of_definition s (Array index component) = of_array s index component
of_definition s (Record components) = of_record_components s [] components
of_definition s (SubtypeOf name None) = of_subtype s name
of_definition s (SubtypeOf name (Some r)) = of_subtype_range s name r

of_type : (s : Scope) (d : TypeTree) → Legality (type_faults s d)
of_type s d = of_definition s d.definition ⊕ of_new_name s d.name

-- ---- objects

of_span : (place : ℕ) (v : Val Value) → Legality (span_rule place v)
of_span place (Raises x) = asked WRONG_STATIC_VALUE place true refl
of_span place v = none

of_span_call : (s : Scope) (t : Option Subtype) (e : ExprTree) (operation : PredefinedOperation) (argument : ExprTree) → Legality (span_faults s t e operation argument)
of_span_call s t e operation argument =
    of_expression s (wanted_by t) e
    ⊕ of_form (start_of e) (static_form s argument)
    ⊕ unless_broken (faults_of s (wanted_by t) e)
    (of_static_value (start_of e) None (static_form s argument) (static_value s argument) ⊕ of_span (start_of e) (span_value s operation argument))

of_called : (s : Scope) (t : Option Subtype) (e : ExprTree) (call : Option (PredefinedOperation × ExprTree)) → Legality (called_faults s t e call)
of_called s t e (Some x) = of_span_call s t e x.0 x.1
of_called s t e None = of_static s (wanted_by t) t e

of_fixed_if : (s : Scope) (t : Option Subtype) (e : ExprTree) (is_now : Bool)
    → Legality (elim is_now [ true ↦ faults_of s (wanted_by t) e | false ↦ called_faults s t e (span_call s e) ])
of_fixed_if s t e true = of_expression s (wanted_by t) e
of_fixed_if s t e false = of_called s t e (span_call s e)

of_fixed : (s : Scope) (t : Option Subtype) (e : ExprTree) → Legality (fixed_faults s t e)
of_fixed s t e = of_fixed_if s t e (is_clock s e)

of_local_initial : (s : Scope) (d : ObjectTree) (value : Option ExprTree)
    → Legality (elim value [ Some e ↦ faults_of s (wanted_by (subtype_of s d.subtype)) e | None ↦ rule NOT_STATIC d.name.place d.constant ])
of_local_initial s d (Some e) = of_expression s (wanted_by (subtype_of s d.subtype)) e
of_local_initial s d None = asked NOT_STATIC d.name.place d.constant refl

of_fixed_initial : (s : Scope) (d : ObjectTree) (value : Option ExprTree)
    → Legality (elim value [ Some e ↦ fixed_faults s (subtype_of s d.subtype) e | None ↦ rule NOT_STATIC d.name.place d.constant ])
of_fixed_initial s d (Some e) = of_fixed s (subtype_of s d.subtype) e
of_fixed_initial s d None = asked NOT_STATIC d.name.place d.constant refl

of_local_object : (s : Scope) (d : ObjectTree) → Legality (local_object_faults s d)
of_local_object s d = of_subtype s d.subtype ⊕ of_local_initial s d d.value ⊕ of_new_name s d.name

of_fixed_object : (s : Scope) (d : ObjectTree) → Legality (fixed_object_faults s d)
of_fixed_object s d = of_subtype s d.subtype ⊕ of_fixed_initial s d d.value ⊕ of_new_name s d.name

-- ---- profiles

of_formal : (s : Scope) (before : List Formal) (f : Formal) → Legality (formal_faults s before f)
of_formal s before f = asked DECLARED_TWICE f.name.place _ refl ⊕ asked LIMIT_PASSED f.name.place _ refl ⊕ of_subtype s f.subtype

pub of_formals : (s : Scope) (before fs : List Formal) → Legality (formals_faults s before fs)
of_formals s before [] = none
of_formals s before (f ∷ fs) = of_formal s before f ⊕ of_formals s (before ++ f ∷ []) fs

of_result : (s : Scope) (result : Option Identifier) → Legality (result_faults s result)
of_result s (Some name) = of_subtype s name
of_result s None = none

of_function : (s : Scope) (name : Identifier) (formals : List Formal) (result : Option Identifier) → Legality (function_faults s name formals result)
of_function s name formals (Some given) = asked WRONG_FUNCTION name.place _ refl
of_function s name formals None = none

pub of_profile : (s : Scope) (d : SubprogramTree) → Legality (profile_faults s d)
of_profile s d = of_formals s [] d.formals ⊕ of_result s d.result ⊕ of_function s d.name d.formals d.result

of_subprogram : (s : Scope) (d : SubprogramTree) → Legality (subprogram_faults s d)
of_subprogram s d = of_profile s d ⊕ of_new_name s d.name

-- ---- tasks and priorities

pub of_aspect : (s : Scope) (a : Option AspectTree) → Legality (aspect_faults s a)
of_aspect s (Some a) = of_expression s (aspect_wanted (is_priority a)) a.value
of_aspect s None = none

of_operation_aspect : (s : Scope) (a : Option AspectTree) → Legality (operation_aspect_faults s a)
of_operation_aspect s (Some a) = of_expression s (aspect_wanted (is_attachment a)) a.value
of_operation_aspect s None = none

of_task_end : (name : Identifier) (definition : Option TaskDefinitionTree) → Legality (task_end_faults name definition)
of_task_end name (Some d) = of_end_name name d.end_name
of_task_end name None = none

of_task : (s : Scope) (d : TaskTree) → Legality (task_faults s d)
of_task s d = of_aspect s d.aspect ⊕ of_task_end d.name d.definition ⊕ of_new_name s d.name

-- ---- protected objects

of_operation_profile : (s : Scope) (o : OperationTree) → Legality (operation_profile_faults s o)
of_operation_profile s (OfOperation d a) = of_profile s d ⊕ of_operation_aspect s a
of_operation_profile s (OfEntry d) = of_formals s [] d.formals

of_operation : (s : Scope) (own : Identifier) (before : List OperationTree) (o : OperationTree) → Legality (operation_faults s own before o)
of_operation s own before o = asked DECLARED_TWICE (operation_name o).place _ refl ⊕ of_operation_profile s o

of_operations : (s : Scope) (own : Identifier) (before os : List OperationTree) → Legality (operations_faults s own before os)
of_operations s own before [] = none
of_operations s own before (o ∷ os) = of_operation s own before o ⊕ of_operations s own (before ++ o ∷ []) os

of_component_initial : (s : Scope) (c : ProtectedComponentTree) (value : Option ExprTree)
    → Legality (elim value [ Some e ↦ fixed_faults s (subtype_of s c.subtype) e | None ↦ [] ])
of_component_initial s c (Some e) = of_fixed s (subtype_of s c.subtype) e
of_component_initial s c None = none

of_part : (s : Scope) (own : Identifier) (operations : List OperationTree) (before : List ProtectedComponentTree) (c : ProtectedComponentTree)
    → Legality (part_faults s own operations before c)
of_part s own operations before c = asked DECLARED_TWICE c.name.place _ refl ⊕ of_subtype s c.subtype ⊕ of_component_initial s c c.value

of_parts : (s : Scope) (own : Identifier) (operations : List OperationTree) (before cs : List ProtectedComponentTree)
    → Legality (parts_faults s own operations before cs)
of_parts s own operations before [] = none
of_parts s own operations before (c ∷ cs) = of_part s own operations before c ⊕ of_parts s own operations (before ++ c ∷ []) cs

of_protected : (s : Scope) (d : ProtectedTree) → Legality (protected_faults s d)
of_protected s d =
    of_aspect s d.aspect
    ⊕ of_operations s d.name [] d.operations
    ⊕ of_parts s d.name d.operations [] d.components
    ⊕ of_end_name d.name d.end_name
    ⊕ of_new_name s d.name

-- ---- declarations of a package

pub of_item : (s : Scope) (d : ItemTree) → Legality (item_faults s d)
of_item s (OfTypeItem d) = of_type s d
of_item s (OfObject d) = of_fixed_object s d
of_item s (OfException name) = of_new_name s name
of_item s (OfSubprogram d) = of_subprogram s d
of_item s (OfTask d) = of_task s d
of_item s (OfProtected d) = of_protected s d

pub of_items : (s : Scope) (ds : List ItemTree) → Legality (items_faults s ds)
of_items s [] = none
of_items s (d ∷ ds) = of_item s d ⊕ of_items (item_scope s d) ds

-- ---- declarations of bodies and blocks, and loop parameters

of_local : (s : Scope) (d : DeclarationTree) → Legality (local_faults s d)
of_local s (LocalObject d) = of_local_object s d
of_local s (LocalTask d) = of_task s d
of_local s (LocalProtected d) = of_protected s d

pub of_locals : (s : Scope) (ds : List DeclarationTree) → Legality (locals_faults s ds)
of_locals s [] = none
of_locals s (d ∷ ds) = of_local s d ⊕ of_locals (local_scope s d) ds

of_fixed_local : (s : Scope) (d : DeclarationTree) → Legality (fixed_local_faults s d)
of_fixed_local s (LocalObject d) = of_fixed_object s d
of_fixed_local s (LocalTask d) = of_task s d
of_fixed_local s (LocalProtected d) = of_protected s d

pub of_fixed_locals : (s : Scope) (ds : List DeclarationTree) → Legality (fixed_locals_faults s ds)
of_fixed_locals s [] = none
of_fixed_locals s (d ∷ ds) = of_fixed_local s d ⊕ of_fixed_locals (local_scope s d) ds

of_last_bound : (s : Scope) (n : Option ℕ) (own : Own) (place : ℕ) → Legality (last_rule s n own place)
of_last_bound s (Some n) own place = of_mismatch s (wanted.OfType n) own place
of_last_bound s None own place = none

pub of_loop : (s : Scope) (parameter : Identifier) (r : RangeTree) → Legality (loop_faults s parameter r)
of_loop s parameter r =
    of_expression s wanted.AnyInteger r.first
    ⊕ of_expression s wanted.AnyInteger r.last
    ⊕ of_last_bound s (loop_type s r) (own_of s r.last) (start_of r.last)
    ⊕ of_new_name s parameter
