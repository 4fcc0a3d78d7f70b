-- How many instructions the code of statements and declarations has at most: 20 for each part of the tree, and two for each word of an object that is declared
-- in
-- it. The words of an object are those of its subtype by the names that are visible in front of it (RM 3.3.1, 5.6).
use Rattle.std.specs.Prelude.{ℕ, suc, ◌+◌, ◌*◌, List, [], ◌∷◌, length, Option, Some, None}
use Rattle.ada_tree.specs.declared.declaration.Formal.{Formal}
use Rattle.ada_tree.specs.declared.expression.Identifier.{Identifier}
use Rattle.ada_tree.specs.declared.program.MainStatement.{MainStatement}
use Rattle.ada_tree.specs.ExpressionTree.{ExprTree}
use Rattle.ada_tree.specs.ProgramTree.{BodyTree}
use Rattle.ada_tree.specs.StatementTree.{AlternativeTrees, Block, Case, DeclarationTree, ElsifTrees, HandlerTrees, If, LocalObject, Loop, MoreAlternatives, MoreElsifs, MoreHandlers, MoreStmts, NoAlternatives, NoElsifs, NoHandlers, NoStmts, StmtTree, StmtTrees}
use Rattle.ada_tree.specs.Size.{alternatives_size, body_size, declaration_size, elsifs_size, expr_size, handlers_size, stmt_size, stmts_size, total}
use Rattle.types.specs.declared.entity.Subtype.{Subtype}
use Rattle.types.specs.Layouts.{words_of}
use Rattle.types.specs.Scopes.{Scope}
use Rattle.type_rules.specs.SubtypeNames.{subtype_of}
use Rattle.expr_soundness.specs.declaration_rules.specs.BodyNames.{formals_scope}
use Rattle.expr_soundness.specs.declaration_rules.specs.LocalRules.{local_scope, locals_scope}
use Rattle.step_soundness.specs.stmt_rules.specs.StatementRules.{iteration_scope}

-- ---- words

abbrev pub words_if_any : Scope → Option Subtype → ℕ
words_if_any s None = 0
words_if_any s (Some t) = words_of s t

-- the words of an object of the subtype with this name, where it is one
abbrev pub words_named : Scope → Identifier → ℕ
words_named s name = words_if_any s (subtype_of s name)

abbrev pub local_words : Scope → DeclarationTree → ℕ
local_words s (LocalObject d) = words_named s d.subtype
local_words s d = 0

abbrev pub locals_words : Scope → List DeclarationTree → ℕ
locals_words s [] = 0
locals_words s (d ∷ ds) = local_words s d + locals_words (local_scope s d) ds

abbrev mutual
  pub stmt_words : Scope → StmtTree → ℕ
  stmt_words s (If place condition body elsifs others) = stmts_words s body + elsifs_words s elsifs + stmts_words s others
  stmt_words s (Case place value all) = alternatives_words s all
  stmt_words s (Loop place iteration body) = stmts_words (iteration_scope s iteration) body
  stmt_words s (Block place locals body all) =
      locals_words s locals + stmts_words (locals_scope s locals) body + handlers_words (locals_scope s locals) all
  stmt_words s simple = 0

  pub stmts_words : Scope → StmtTrees → ℕ
  stmts_words s NoStmts = 0
  stmts_words s (MoreStmts x rest) = stmt_words s x + stmts_words s rest

  pub elsifs_words : Scope → ElsifTrees → ℕ
  elsifs_words s NoElsifs = 0
  elsifs_words s (MoreElsifs condition body rest) = stmts_words s body + elsifs_words s rest

  pub alternatives_words : Scope → AlternativeTrees → ℕ
  alternatives_words s NoAlternatives = 0
  alternatives_words s (MoreAlternatives place choices body rest) = stmts_words s body + alternatives_words s rest

  pub handlers_words : Scope → HandlerTrees → ℕ
  handlers_words s NoHandlers = 0
  handlers_words s (MoreHandlers choices body rest) = stmts_words s body + handlers_words s rest

-- those of a body
abbrev pub body_words : Scope → BodyTree → ℕ
body_words s b =
    locals_words s b.declarations + stmts_words (locals_scope s b.declarations) b.statements + handlers_words (locals_scope s b.declarations) b.handlers

-- those of formal parameters, whose subtypes are named in front of them, and behind which these names are visible
abbrev pub formals_words : (s behind : Scope) → List Formal → ℕ
formals_words s behind [] = 0
formals_words s behind (f ∷ fs) = words_if_any behind (subtype_of s f.subtype) + formals_words s behind fs

-- ---- instructions

abbrev pub stmt_bound : Scope → StmtTree → ℕ
stmt_bound s x = 20 * stmt_size x + 2 * stmt_words s x

abbrev pub stmts_bound : Scope → StmtTrees → ℕ
stmts_bound s body = 20 * stmts_size body + 2 * stmts_words s body

abbrev pub elsifs_bound : Scope → ElsifTrees → ℕ
elsifs_bound s all = 20 * elsifs_size all + 2 * elsifs_words s all

abbrev pub alternatives_bound : Scope → AlternativeTrees → ℕ
alternatives_bound s all = 20 * alternatives_size all + 2 * alternatives_words s all

abbrev pub handlers_bound : Scope → HandlerTrees → ℕ
handlers_bound s all = 20 * handlers_size all + 2 * handlers_words s all

abbrev pub declarations_bound : Scope → List DeclarationTree → ℕ
declarations_bound s ds = 20 * total declaration_size ds + 2 * locals_words s ds

-- those of the declarations, the statements and the handlers of a body
abbrev pub run_bound : Scope → List DeclarationTree → StmtTrees → HandlerTrees → ℕ
run_bound s ds body all =
    20 * suc (total declaration_size ds + stmts_size body + handlers_size all)
    + 2 * (locals_words s ds + stmts_words (locals_scope s ds) body + handlers_words (locals_scope s ds) all)

-- those of whole subprograms: of a procedure, of a function that returns the value of an expression, and of main, by the names in front of their parameters
abbrev pub procedure_bound : Scope → List Formal → BodyTree → ℕ
procedure_bound s fs b = 20 * (suc (length fs) + body_size b) + 2 * (formals_words s (formals_scope s fs) fs + body_words (formals_scope s fs) b)

abbrev pub function_bound : List Formal → ExprTree → ℕ
function_bound fs e = 20 * (suc (length fs) + expr_size e)

abbrev pub main_bound : List MainStatement → ℕ
main_bound all = 20 * suc (length all)
