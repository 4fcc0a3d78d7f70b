-- What packages and main break has numbers from 10 to 23.
use Rattle.std.proofs.Common.{refl, Bool, true, false, List, [], ◌∷◌, ◌++◌, Option, Some, None}
use Rattle.std.specs.Prelude.{◌||◌, is_some}
use Rattle.base.specs.declared.faults.TheConstants.{DECLARED_TWICE, NAME_NOT_VISIBLE, NO_MEANING, UNMATCHED_BODY, WRONG_ARGUMENT_COUNT}
use Rattle.ada_tree.specs.declared.expression.Identifier.{Identifier}
use Rattle.ada_tree.specs.declared.program.MainStatement.{MainStatement}
use Rattle.ada_tree.specs.declared.program.MainStatement.TheVariants as main_statement
use Rattle.ada_tree.specs.declared.program.UnitClause.{UnitClause}
use Rattle.ada_tree.specs.declared.program.UnitName.{UnitName}
use Rattle.ada_tree.specs.StatementTree.{OperationTree, OfSubprogram, OfEntry, SubprogramTree}
use Rattle.ada_tree.specs.ProgramTree.{BodyItemTree, OfItem, SubprogramBody, TaskBody, ProtectedBody, ItemTree, OfTask, OfProtected, MainTree, PackageTree, ProtectedItemTree}
use Rattle.ada_tree.specs.ProgramTree.{OfSubprogram as OfDeclared}
use Rattle.types.specs.Entities.{LibraryUnit}
use Rattle.types.specs.Scopes.{Scope, is_visible, with_name}
use Rattle.unit_rules.specs.MainRules.{called_rule, declared_meaning, has_no_formals, item_meaning, item_name, main_call_faults, main_faults, main_name_faults, main_scope, main_statement_faults, main_statements_faults, meaning_of, no_package_rule, package_call_faults}
use Rattle.conformance.specs.MatchingRules.{all_missing_faults, body_rule, item_matching, items_matching, matching_faults, missing_faults, missing_operation_rule, missing_operations_faults, operation_bodies_faults, operation_body_rule, operation_name, same_name}
use Rattle.declaration_rules.specs.PackageNames.{inside_scope, is_control_io, is_real_time, specified_scope, units_scope}
use Rattle.unit_rules.specs.PackageRules.{behind_faults, bodiless_rule, package_faults, specification_faults}
use Rattle.unit_rules.specs.UnitRules.{again_rule, clause_faults, clauses_behind}
use Rattle.fault_numbers.proofs.Ranges.{Legality, ◌⊕◌, asked, none}
use Rattle.fault_numbers.proofs.Declarations.{of_aspect, of_end_name, of_items, of_new_name}
use Rattle.fault_numbers.proofs.Bodies.{of_body_items}

-- ---- declarations without a body

of_missing_operation : (behind : List BodyItemTree) (object : Identifier) (o : OperationTree) → Legality (missing_operation_rule behind object o)
of_missing_operation behind object (OfSubprogram d aspect) = asked UNMATCHED_BODY d.name.place _ refl
of_missing_operation behind object (OfEntry d) = asked UNMATCHED_BODY d.name.place _ refl

of_missing_operations : (behind : List BodyItemTree) (object : Identifier) (os : List OperationTree) → Legality (missing_operations_faults behind object os)
of_missing_operations behind object [] = none
of_missing_operations behind object (o ∷ os) = of_missing_operation behind object o ⊕ of_missing_operations behind object os

of_missing : (behind : List BodyItemTree) (d : ItemTree) → Legality (missing_faults behind d)
of_missing behind (OfDeclared d) = asked UNMATCHED_BODY d.name.place _ refl
of_missing behind (OfTask d) = asked UNMATCHED_BODY d.name.place _ refl
of_missing behind (OfProtected d) = asked UNMATCHED_BODY d.name.place _ refl ⊕ of_missing_operations behind d.name d.operations
of_missing behind d = none

of_all_missing : (behind : List BodyItemTree) (ds : List ItemTree) → Legality (all_missing_faults behind ds)
of_all_missing behind [] = none
of_all_missing behind (d ∷ ds) = of_missing behind d ⊕ of_all_missing behind ds

-- ---- bodies that are second ones, or unlike their declarations

of_subprogram_match : (specified : List ItemTree) (before : List BodyItemTree) (d : SubprogramTree) → Legality (body_rule specified before d)
of_subprogram_match specified before d = asked UNMATCHED_BODY d.name.place _ refl

of_operation_match : (specified : List ItemTree) (before : List BodyItemTree) (object : Identifier) (earlier : List ProtectedItemTree) (i : ProtectedItemTree)
    → Legality (operation_body_rule specified before object earlier i)
of_operation_match specified before object earlier i = asked UNMATCHED_BODY (operation_name i).place _ refl

of_operation_matches : (specified : List ItemTree) (before : List BodyItemTree) (object : Identifier) (earlier is : List ProtectedItemTree)
    → Legality (operation_bodies_faults specified before object earlier is)
of_operation_matches specified before object earlier [] = none
of_operation_matches specified before object earlier (i ∷ is) =
    of_operation_match specified before object earlier i ⊕ of_operation_matches specified before object (earlier ++ i ∷ []) is

of_match : (specified : List ItemTree) (before behind : List BodyItemTree) (i : BodyItemTree) → Legality (item_matching specified before behind i)
of_match specified before behind (OfItem d) = of_missing behind d
of_match specified before behind (SubprogramBody d b) = of_subprogram_match specified before d
of_match specified before behind (TaskBody name b) = asked UNMATCHED_BODY name.place _ refl
of_match specified before behind (ProtectedBody name items end_name) =
    asked UNMATCHED_BODY name.place _ refl ⊕ of_operation_matches specified before name [] items

of_matches : (specified : List ItemTree) (before is : List BodyItemTree) → Legality (items_matching specified before is)
of_matches specified before [] = none
of_matches specified before (i ∷ is) = of_match specified before is i ⊕ of_matches specified (before ++ i ∷ []) is

of_matching : (specified : List ItemTree) (items : List BodyItemTree) → Legality (matching_faults specified items)
of_matching specified items = of_all_missing items specified ⊕ of_matches specified [] items

-- ---- library units that a package names

of_again : (times_named io_named : Bool) (u : UnitName) → Legality (again_rule times_named io_named u)
of_again times_named io_named u = asked DECLARED_TWICE u.first.place _ refl

of_clause : (times_named io_named : Bool) (c : UnitClause) → Legality (clause_faults times_named io_named c)
of_clause times_named io_named c =
    asked NAME_NOT_VISIBLE c.unit.first.place _ refl ⊕ of_again times_named io_named c.unit ⊕ asked NAME_NOT_VISIBLE c.used.first.place _ refl

of_clauses : (times_named io_named : Bool) (cs : List UnitClause) → Legality (clauses_behind times_named io_named cs)
of_clauses times_named io_named [] = none
of_clauses times_named io_named (c ∷ cs) =
    of_clause times_named io_named c ⊕ of_clauses (times_named || is_real_time c.unit) (io_named || is_control_io c.unit) cs

-- ---- the package

of_bodiless : (p : PackageTree) → Legality (bodiless_rule p)
of_bodiless p = asked UNMATCHED_BODY p.declaration.name.place _ refl

of_specification : (s : Scope) (p : PackageTree) → Legality (specification_faults s p)
of_specification s p =
    of_clauses false false p.clauses
    ⊕ of_new_name (units_scope s p) p.declaration.name
    ⊕ of_items (inside_scope s p) p.declaration.items
    ⊕ of_bodiless p
    ⊕ of_end_name p.declaration.name p.declaration.end_name

of_behind : (s : Scope) (p : PackageTree) → Legality (behind_faults s p)
of_behind s p =
    asked UNMATCHED_BODY p.body.name.place _ refl
    ⊕ of_matching p.declaration.items p.body.items
    ⊕ of_body_items s p.body.items
    ⊕ of_end_name p.body.name p.body.end_name
    ⊕ asked NAME_NOT_VISIBLE p.with_name.place _ refl

pub of_package : (s : Scope) (p : PackageTree) → Legality (package_faults s p)
of_package s p = of_specification s p ⊕ of_behind (specified_scope s p) p

-- ---- main

of_main_name : (s : Scope) (p : Option PackageTree) (name : Identifier) → Legality (main_name_faults s p name)
of_main_name s p name = asked DECLARED_TWICE name.place _ refl

of_meaning : (first second : Identifier) (is_function has_no_formals : Bool) → Legality (called_rule first second (meaning_of is_function has_no_formals))
of_meaning first second true has_no_formals = asked NO_MEANING first.place true refl
of_meaning first second false true = none
of_meaning first second false false = asked WRONG_ARGUMENT_COUNT first.place true refl

of_item_meaning : (first second : Identifier) (d : ItemTree) → Legality (called_rule first second (item_meaning d))
of_item_meaning first second (OfDeclared d) = of_meaning first second (is_some d.result) (has_no_formals d.formals)
of_item_meaning first second d = asked NO_MEANING first.place true refl

of_called_if : (first second : Identifier) (d : ItemTree) (ds : List ItemTree) (is_it : Bool)
    → Legality (called_rule first second (declared_meaning ds second))
    → Legality (called_rule first second (elim is_it [ true ↦ item_meaning d | false ↦ declared_meaning ds second ]))
of_called_if first second d ds true rest = of_item_meaning first second d
of_called_if first second d ds false rest = rest

of_called : (first second : Identifier) (ds : List ItemTree) → Legality (called_rule first second (declared_meaning ds second))
of_called first second [] = asked NAME_NOT_VISIBLE second.place true refl
of_called first second (d ∷ ds) = of_called_if first second d ds (same_name (item_name d) second) (of_called first second ds)

of_no_package : (is_visible : Bool) (first : Identifier) → Legality (no_package_rule is_visible first)
of_no_package true first = asked NO_MEANING first.place true refl
of_no_package false first = asked NAME_NOT_VISIBLE first.place true refl

of_package_call_if : (s : Scope) (p : PackageTree) (first second : Identifier) (is_its : Bool)
    → Legality (elim is_its [
      | true ↦ called_rule first second (declared_meaning p.declaration.items second)
      | false ↦ no_package_rule (is_visible s first.name) first
    ])
of_package_call_if s p first second true = of_called first second p.declaration.items
of_package_call_if s p first second false = of_no_package (is_visible s first.name) first

of_package_call : (s : Scope) (p : PackageTree) (first second : Identifier) → Legality (package_call_faults s p first second)
of_package_call s p first second = of_package_call_if s p first second (same_name p.declaration.name first)

of_main_call : (s : Scope) (p : Option PackageTree) (first second : Identifier) → Legality (main_call_faults s p first second)
of_main_call s (Some p) first second = of_package_call s p first second
of_main_call s None first second = of_no_package (is_visible s first.name) first

of_main_statement : (s : Scope) (p : Option PackageTree) (x : MainStatement) → Legality (main_statement_faults s p x)
of_main_statement s p (main_statement.Null place) = none
of_main_statement s p (main_statement.Call first second) = of_main_call s p first second

of_main_statements : (s : Scope) (p : Option PackageTree) (xs : List MainStatement) → Legality (main_statements_faults s p xs)
of_main_statements s p [] = none
of_main_statements s p (x ∷ xs) = of_main_statement s p x ⊕ of_main_statements s p xs

pub of_main : (p : Option PackageTree) (m : MainTree) → Legality (main_faults p m)
of_main p m =
    of_main_name (main_scope p) p m.name
    ⊕ of_aspect (main_scope p) m.aspect
    ⊕ of_main_statements (with_name (main_scope p) m.name.name LibraryUnit) p m.statements
    ⊕ of_end_name m.name m.end_name
