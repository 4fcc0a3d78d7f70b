-- Bodies of subprograms and tasks (RM 6.3, 9.1; docs/LANGUAGE.md, "Rules of bodies"): what stands in each, and what it sees.
use Rattle.std.specs.Prelude.{ℕ, Bool, true, false, not, ◌&&◌, List, [], ◌∷◌, ◌++◌, Option, Some, None, is_some, bytes_eq}
use Rattle.base.specs.declared.faults.TheConstants.{DECLARED_TWICE, UNMATCHED_BODY, WRONG_FUNCTION}
use Rattle.ada_tree.specs.declared.expression.Identifier.{Identifier}
use Rattle.ada_tree.specs.declared.declaration.Formal.{Formal}
use Rattle.ada_tree.specs.StatementTree.{DeclarationTree, SubprogramTree, StmtTree, StmtTrees, NoStmts, MoreStmts, Return, HandlerTrees, NoHandlers}
use Rattle.ada_tree.specs.ProgramTree.{BodyTree}
use Rattle.types.specs.declared.entity.Subtype.{Subtype}
use Rattle.types.specs.Entities.{Entity, Entry, Subprogram, Task, Doubtful}
use Rattle.types.specs.Scopes.{Scope, is_visible}
use Rattle.expr_rules.specs.Faults.{Faults, rule}
use Rattle.type_rules.specs.SubtypeNames.{end_rule, named_entity, subtype_of}
use Rattle.type_rules.specs.ProfileRules.{profile_faults, subprogram_scope}
use Rattle.declaration_rules.specs.LocalRules.{fixed_locals_faults, locals_faults, locals_scope}
use Rattle.declaration_rules.specs.BodyNames.{formals_scope}
use Rattle.stmt_rules.specs.declared.around.BodyKind.{BodyKind}
use Rattle.stmt_rules.specs.declared.around.BodyKind.TheVariants as kind
use Rattle.stmt_rules.specs.StatementRules.{in_body, sequence_faults}

-- ---- a body: its declarations, its statements and handlers

abbrev pub body_faults : Scope → BodyKind → BodyTree → Faults
body_faults s k b = locals_faults s b.declarations ++ sequence_faults (locals_scope s b.declarations) (in_body k) b.statements b.handlers

abbrev pub is_task : Option Entity → Bool
is_task (Some (Task priority)) = true
is_task (Some Doubtful) = true
is_task e = false

-- 18: no task of this name is declared
abbrev pub task_rule : Scope → Identifier → Faults
task_rule s name = rule UNMATCHED_BODY name.place (not (is_task (named_entity s name)))

-- the declarations of a task body have static initial values
abbrev pub task_body_faults : Scope → Identifier → BodyTree → Faults
task_body_faults s name b =
    task_rule s name
    ++ fixed_locals_faults s b.declarations
    ++ sequence_faults (locals_scope s b.declarations) (in_body kind.Task) b.statements b.handlers
    ++ end_rule name b.end_name

-- ---- functions: the body is one `return` with a value, without declarations and handlers

abbrev pub is_return_of_value : StmtTree → Bool
is_return_of_value (Return place (Some e)) = true
is_return_of_value statement = false

abbrev pub is_single_return : StmtTrees → Bool
is_single_return (MoreStmts statement NoStmts) = is_return_of_value statement
is_single_return statements = false

abbrev pub has_no_declarations : List DeclarationTree → Bool
has_no_declarations [] = true
has_no_declarations ds = false

abbrev pub has_no_handlers : HandlerTrees → Bool
has_no_handlers NoHandlers = true
has_no_handlers all = false

abbrev pub is_function_body : BodyTree → Bool
is_function_body b = has_no_declarations b.declarations && (has_no_handlers b.handlers && is_single_return b.statements)

-- 21, at the function's name: another body
abbrev pub function_body_faults : SubprogramTree → BodyTree → Faults
function_body_faults d b = rule WRONG_FUNCTION d.name.place (is_some d.result && not (is_function_body b))

-- ---- subprograms

abbrev pub type_number : Option Subtype → Option ℕ
type_number (Some t) = Some t.type_number
type_number None = None

abbrev pub kind_of : Scope → (result : Option Identifier) → BodyKind
kind_of s (Some name) = kind.Function (type_number (subtype_of s name))
kind_of s None = kind.Procedure

-- whether the body belongs to a declaration before it, by its name
abbrev pub is_subprogram : Option Entity → Bool
is_subprogram (Some (Subprogram p)) = true
is_subprogram (Some Doubtful) = true
is_subprogram e = false

-- in the body of a protected object a body may have the name of one of its entries: it is not like its declaration, and else it declares the name
abbrev pub body_name_number : Option Entity → ℕ
body_name_number (Some (Entry p)) = UNMATCHED_BODY
body_name_number e = DECLARED_TWICE

-- 18 or 11: the name of a body that belongs to no declaration of a subprogram is visible
abbrev pub body_name_rule : Scope → Identifier → Faults
body_name_rule s name = rule (body_name_number (named_entity s name)) name.place (is_visible s name.name)

abbrev pub body_name_faults : Scope → Identifier → Faults
body_name_faults s name = elim (is_subprogram (named_entity s name)) [ true ↦ [] | false ↦ body_name_rule s name ]

-- 11, at a formal: it is like the subprogram, which is visible in its body
abbrev pub own_name_faults : (name : Identifier) → List Formal → Faults
own_name_faults name [] = []
own_name_faults name (f ∷ fs) = rule DECLARED_TWICE f.name.place (bytes_eq f.name.name name.name) ++ own_name_faults name fs

-- the profile, the name, and the form of a function's body
abbrev pub head_faults : Scope → SubprogramTree → BodyTree → Faults
head_faults s d b = profile_faults s d ++ own_name_faults d.name d.formals ++ body_name_faults s d.name ++ function_body_faults d b

-- the subprogram and its formals are visible in the body
abbrev pub subprogram_body_faults : Scope → SubprogramTree → BodyTree → Faults
subprogram_body_faults s d b =
    head_faults s d b ++ body_faults (formals_scope (subprogram_scope s d) d.formals) (kind_of s d.result) b ++ end_rule d.name b.end_name
