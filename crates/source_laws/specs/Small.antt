-- When a source text is small, and what is promised of one: its code passes no limit on the numbers of an image.
use Rattle.std.specs.Prelude.{ℕ, ◌+◌, ◌≤◌, List, length}
use Rattle.std.specs.List.{AllByRecursion}
use Rattle.base.specs.declared.limits.TheConstants.{INSTRUCTIONS, ROWS}
use Rattle.lexer.specs.declared.token.Token.{Token}
use Rattle.ada_tree.specs.StatementTree.{AlternativeTrees, Block, Case, ElsifTrees, For, HandlerTrees, If, IterationTree, Loop, MoreAlternatives, MoreElsifs, MoreHandlers, MoreStmts, NoAlternatives, NoElsifs, NoHandlers, NoStmts, StmtTree, StmtTrees}
use Rattle.ada_tree.specs.ProgramTree.{BodyTree, ProgramTree}
use Rattle.ada_tree.specs.Depth.{depth}
use Rattle.ada_tree.specs.Language.{Limit}
use Rattle.ada_tree.specs.ProgramGrammar.{program}
use Rattle.program_soundness.specs.declaration_rules.specs.BodyNames.{formals_scope}
use Rattle.legality.specs.ProgramRules.{IsLegal}
use Rattle.program_soundness.specs.ravenscar.specs.ProgramRules.{IsRestricted}
use Rattle.part_code.specs.Bounds.{body_words, formals_words}
use Rattle.package_code.specs.Bodies.{Coded, bodies_of}
use Rattle.package_code.specs.Refusing.{program_bound, program_rows}

-- ---- counted loops, whose parameters take a word each (RM 5.5)

abbrev pub iteration_loops : IterationTree → ℕ
iteration_loops (For parameter is_reversed range) = 1
iteration_loops other = 0

abbrev mutual
  pub stmt_loops : StmtTree → ℕ
  stmt_loops (If place condition body elsifs others) = stmts_loops body + elsifs_loops elsifs + stmts_loops others
  stmt_loops (Case place value all) = alternatives_loops all
  stmt_loops (Loop place iteration body) = iteration_loops iteration + stmts_loops body
  stmt_loops (Block place locals body all) = stmts_loops body + handlers_loops all
  stmt_loops simple = 0

  pub stmts_loops : StmtTrees → ℕ
  stmts_loops NoStmts = 0
  stmts_loops (MoreStmts x rest) = stmt_loops x + stmts_loops rest

  pub elsifs_loops : ElsifTrees → ℕ
  elsifs_loops NoElsifs = 0
  elsifs_loops (MoreElsifs condition body rest) = stmts_loops body + elsifs_loops rest

  pub alternatives_loops : AlternativeTrees → ℕ
  alternatives_loops NoAlternatives = 0
  alternatives_loops (MoreAlternatives place choices body rest) = stmts_loops body + alternatives_loops rest

  pub handlers_loops : HandlerTrees → ℕ
  handlers_loops NoHandlers = 0
  handlers_loops (MoreHandlers choices body rest) = stmts_loops body + handlers_loops rest

abbrev pub body_loops : BodyTree → ℕ
body_loops b = stmts_loops b.statements + handlers_loops b.handlers

-- ---- small texts

abbrev pub small_tokens : ℕ
small_tokens = 2000

abbrev pub small_depth : ℕ
small_depth = 16

abbrev pub small_words : ℕ
small_words = 64

-- the words of the formals, of all objects that are declared in the body, and of its loop parameters
abbrev pub body_room : Coded → ℕ
body_room x =
    formals_words x.front (formals_scope x.front x.head.formals) x.head.formals + body_words (formals_scope x.front x.head.formals) x.body + body_loops x.body

-- each of these has few words
abbrev pub TakeFewWords : List Coded → Type 0
TakeFewWords xs = AllByRecursion (λ x. body_room x ≤ small_words) xs

-- few levels are open at once, and each of its bodies has few words
pub record HasSmallBodies (t : ProgramTree) : Type 0 where
  pub flat : depth t ≤ small_depth
  pub words : TakeFewWords (bodies_of t)

-- it has few tokens besides
pub record IsSmall (t : ProgramTree) (tokens : List Token) : Type 0 where
  pub few : length tokens ≤ small_tokens
  pub bodies : HasSmallBodies t

-- ---- the code of one

-- all its code together has no more instructions, and no more rows of handlers, than an image
pub record FitsImage (t : ProgramTree) : Type 0 where
  pub instructions : program_bound t ≤ INSTRUCTIONS
  pub rows : program_rows t ≤ ROWS

abbrev pub SmallCodeFits : Type 0
SmallCodeFits = (limit : Limit) (t : ProgramTree) (tokens : List Token) → program limit t tokens → IsLegal t → IsRestricted t → IsSmall t tokens → FitsImage t
