-- What a program breaks of the profile has numbers from 30 to 39, or from 70 to 73.
use Rattle.std.proofs.Common.{ℕ, refl, Bool, true, false, List, [], ◌∷◌, Option, Some, None}
use Rattle.base.specs.declared.faults.TheConstants.{ABORT_STATEMENT, HANDLER_CEILING, HANDLER_PROFILE, LOCAL_TASKING, RELATIVE_DELAY, REQUEUE_STATEMENT, SECOND_ENTRY, SECOND_HANDLER, SELECT_STATEMENT, TASK_ENTRY, WRONG_ASPECT, WRONG_BARRIER, WRONG_INTERRUPT, WRONG_PRAGMAS}
use Rattle.base.specs.declared.limits.TheConstants.{CEILING, TASK_PRIORITY}
use Rattle.ada_tree.specs.declared.declaration.TaskEntry.{TaskEntry}
use Rattle.ada_tree.specs.ExpressionTree.{ExprTree}
use Rattle.ada_tree.specs.StatementTree.{AspectTree, DeclarationTree, LocalObject, LocalTask, LocalProtected, OperationTree, OfSubprogram, OfEntry, ProtectedTree, SubprogramTree, TaskDefinitionTree, TaskTree, StmtTree, Delay, If, Case, Loop, Block, Abort, Requeue, Accept, Select, StmtTrees, NoStmts, MoreStmts, ElsifTrees, NoElsifs, MoreElsifs, AlternativeTrees, NoAlternatives, MoreAlternatives, HandlerTrees, NoHandlers, MoreHandlers}
use Rattle.ada_tree.specs.ProgramTree.{BodyItemTree, OfItem, SubprogramBody, TaskBody, ProtectedBody, BodyTree, ItemTree, OfTask, OfProtected, PackageTree, ProgramTree, ProtectedItemTree, OperationBody, EntryBody}
use Rattle.types.specs.declared.entity.RecordComponent.{RecordComponent}
use Rattle.types.specs.Scopes.{Scope, standard}
use Rattle.types.specs.Statics.{start_of}
use Rattle.declaration_rules.specs.ItemRules.{item_scope}
use Rattle.unit_rules.specs.MainRules.{main_scope}
use Rattle.declaration_rules.specs.PackageNames.{body_item_scope, inside_scope, specified_scope}
use Rattle.body_restrictions.specs.BodyRules.{alternatives_faults, barrier_rule, body_faults, elsifs_faults, handlers_faults, local_faults, locals_faults, operation_faults, operations_faults, simple_faults, stmt_faults, stmts_faults}
use Rattle.ravenscar.specs.PragmaRules.{first_difference, pragma_faults, pragma_rule, start_behind}
use Rattle.declaration_rules.specs.TaskRules.{is_attachment}
use Rattle.ravenscar.specs.HandlerRules.{attachment_faults, ceiling_faults, none_taken, operation_aspect_faults, operations_aspects_faults, taken_behind}
use Rattle.ravenscar.specs.ProgramRules.{body_item_faults, body_items_faults, components_named, item_faults, items_faults, package_faults, package_part_faults, taken_by_body_item, taken_by_item, taken_by_items}
use Rattle.ravenscar.specs.TaskingRules.{aspect_faults, definition_faults, entries_faults, protected_faults, task_entries_faults, task_faults}
use Rattle.fault_numbers.specs.Numbers.{RestrictionNumbers}
use Rattle.fault_numbers.proofs.RestrictionRanges.{Restrictions, ◌⊕◌, asked, chosen, none}

-- ---- pragmas

of_difference : (place : Option ℕ) → Restrictions (pragma_rule place)
of_difference (Some place) = asked WRONG_PRAGMAS place true refl
of_difference None = none

of_pragmas : (t : ProgramTree) → Restrictions (pragma_faults t)
of_pragmas t = of_difference (first_difference (start_behind t.package_ t.main.place) t.pragmas)

-- ---- tasks and protected objects

of_aspect : (s : Scope) (highest : ℕ) (a : Option AspectTree) → Restrictions (aspect_faults s highest a)
of_aspect s highest (Some a) = asked WRONG_ASPECT a.place _ refl
of_aspect s highest None = none

of_task_entries : (es : List TaskEntry) → Restrictions (task_entries_faults es)
of_task_entries [] = none
of_task_entries (e ∷ es) = asked TASK_ENTRY e.place true refl ⊕ of_task_entries es

of_definition : (d : Option TaskDefinitionTree) → Restrictions (definition_faults d)
of_definition (Some d) = of_task_entries d.entries
of_definition None = none

of_task : (s : Scope) (d : TaskTree) → Restrictions (task_faults s d)
of_task s d = of_aspect s TASK_PRIORITY d.aspect ⊕ of_definition d.definition

of_entries : (has_entry : Bool) (os : List OperationTree) → Restrictions (entries_faults has_entry os)
of_entries has_entry [] = none
of_entries has_entry (OfSubprogram d aspect ∷ os) = of_entries has_entry os
of_entries has_entry (OfEntry d ∷ os) = asked SECOND_ENTRY d.place has_entry refl ⊕ of_entries true os

-- handlers of interrupts

of_attachment : (s : Scope) (taken : List Bool) (d : SubprogramTree) (a : AspectTree) → Restrictions (attachment_faults s taken d a)
of_attachment s taken d a = asked HANDLER_PROFILE a.place _ refl ⊕ asked SECOND_HANDLER a.place _ refl ⊕ asked WRONG_INTERRUPT (start_of a.value) _ refl

of_operation_aspect : (s : Scope) (taken : List Bool) (o : OperationTree) → Restrictions (operation_aspect_faults s taken o)
of_operation_aspect s taken (OfSubprogram d (Some a)) = chosen (is_attachment a) (of_attachment s taken d a) (asked WRONG_ASPECT a.place true refl)
of_operation_aspect s taken (OfSubprogram d None) = none
of_operation_aspect s taken (OfEntry d) = none

of_operations_aspects : (s : Scope) (taken : List Bool) (os : List OperationTree) → Restrictions (operations_aspects_faults s taken os)
of_operations_aspects s taken [] = none
of_operations_aspects s taken (o ∷ os) = of_operation_aspect s taken o ⊕ of_operations_aspects s (taken_behind s taken o) os

of_ceiling : (s : Scope) (os : List OperationTree) (a : Option AspectTree) → Restrictions (ceiling_faults s os a)
of_ceiling s os (Some a) = asked HANDLER_CEILING a.place _ refl
of_ceiling s os None = none

of_protected : (s : Scope) (taken : List Bool) (d : ProtectedTree) → Restrictions (protected_faults s taken d)
of_protected s taken d =
    of_aspect s CEILING d.aspect ⊕ of_ceiling s d.operations d.aspect ⊕ of_entries false d.operations ⊕ of_operations_aspects s taken d.operations

-- ---- bodies

of_local : (d : DeclarationTree) → Restrictions (local_faults d)
of_local (LocalObject d) = none
of_local (LocalTask d) = asked LOCAL_TASKING d.place true refl
of_local (LocalProtected d) = asked LOCAL_TASKING d.place true refl

of_locals : (ds : List DeclarationTree) → Restrictions (locals_faults ds)
of_locals [] = none
of_locals (d ∷ ds) = of_local d ⊕ of_locals ds

of_simple : (x : StmtTree) → Restrictions (simple_faults x)
of_simple (Accept place name) = asked TASK_ENTRY place true refl
of_simple (Delay place e) = asked RELATIVE_DELAY place true refl
of_simple (Select place) = asked SELECT_STATEMENT place true refl
of_simple (Abort place name) = asked ABORT_STATEMENT place true refl
of_simple (Requeue place first second) = asked REQUEUE_STATEMENT place true refl
of_simple x = none

mutual
  of_statement : (x : StmtTree) → Restrictions (stmt_faults x)
  of_statement (If place condition body elsifs others) = of_statements body ⊕ of_elsifs elsifs ⊕ of_statements others
  of_statement (Case place value all) = of_alternatives all
  of_statement (Loop place iteration body) = of_statements body
  of_statement (Block place locals body all) = of_locals locals ⊕ of_statements body ⊕ of_handlers all
  of_statement simple = of_simple simple

  of_statements : (body : StmtTrees) → Restrictions (stmts_faults body)
  of_statements NoStmts = none
  of_statements (MoreStmts x rest) = of_statement x ⊕ of_statements rest

  of_elsifs : (elsifs : ElsifTrees) → Restrictions (elsifs_faults elsifs)
  of_elsifs NoElsifs = none
  of_elsifs (MoreElsifs condition body rest) = of_statements body ⊕ of_elsifs rest

  of_alternatives : (all : AlternativeTrees) → Restrictions (alternatives_faults all)
  of_alternatives NoAlternatives = none
  of_alternatives (MoreAlternatives place choices body rest) = of_statements body ⊕ of_alternatives rest

  of_handlers : (all : HandlerTrees) → Restrictions (handlers_faults all)
  of_handlers NoHandlers = none
  of_handlers (MoreHandlers choices body rest) = of_statements body ⊕ of_handlers rest

of_body : (b : BodyTree) → Restrictions (body_faults b)
of_body b = of_locals b.declarations ⊕ of_statements b.statements ⊕ of_handlers b.handlers

of_barrier : (components : List RecordComponent) (barrier : ExprTree) → Restrictions (barrier_rule components barrier)
of_barrier components barrier = asked WRONG_BARRIER (start_of barrier) _ refl

of_operation : (components : List RecordComponent) (i : ProtectedItemTree) → Restrictions (operation_faults components i)
of_operation components (OperationBody d b) = of_body b
of_operation components (EntryBody d barrier b) = of_barrier components barrier ⊕ of_body b

of_operations : (components : List RecordComponent) (is : List ProtectedItemTree) → Restrictions (operations_faults components is)
of_operations components [] = none
of_operations components (i ∷ is) = of_operation components i ⊕ of_operations components is

-- ---- the package

of_item : (s : Scope) (taken : List Bool) (d : ItemTree) → Restrictions (item_faults s taken d)
of_item s taken (OfTask d) = of_task s d
of_item s taken (OfProtected d) = of_protected s taken d
of_item s taken d = none

of_items : (s : Scope) (taken : List Bool) (ds : List ItemTree) → Restrictions (items_faults s taken ds)
of_items s taken [] = none
of_items s taken (d ∷ ds) = of_item s taken d ⊕ of_items (item_scope s d) (taken_by_item s taken d) ds

of_body_item : (s : Scope) (taken : List Bool) (i : BodyItemTree) → Restrictions (body_item_faults s taken i)
of_body_item s taken (OfItem d) = of_item s taken d
of_body_item s taken (SubprogramBody d b) = of_body b
of_body_item s taken (TaskBody name b) = of_body b
of_body_item s taken (ProtectedBody name items end_name) = of_operations (components_named s name) items

of_body_items : (s : Scope) (taken : List Bool) (is : List BodyItemTree) → Restrictions (body_items_faults s taken is)
of_body_items s taken [] = none
of_body_items s taken (i ∷ is) = of_body_item s taken i ⊕ of_body_items (body_item_scope s i) (taken_by_body_item s taken i) is

of_package : (p : PackageTree) → Restrictions (package_faults p)
of_package p =
    let inside = inside_scope standard p in
    of_items inside none_taken p.declaration.items
    ⊕ of_body_items (specified_scope standard p) (taken_by_items inside none_taken p.declaration.items) p.body.items

of_package_part : (p : Option PackageTree) → Restrictions (package_part_faults p)
of_package_part (Some p) = of_package p
of_package_part None = none

-- ---- the program

pub restriction_numbers : RestrictionNumbers
restriction_numbers tree = (of_pragmas tree ⊕ of_package_part tree.package_ ⊕ of_aspect (main_scope tree.package_) TASK_PRIORITY tree.main.aspect).each
