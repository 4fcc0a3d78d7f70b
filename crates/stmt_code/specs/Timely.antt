-- The times to which statements delay a task lie between bounds that are numbers of 64 bits, by the names that are visible there (RM 9.6; types/specs/Bounds).
use Rattle.std.specs.Prelude.{◌≡◌, List, [], ◌∷◌, true, ⊤}
use Rattle.ada_tree.specs.StatementTree.{AlternativeTrees, Block, Case, DeclarationTree, DelayUntil, ElsifTrees, For, HandlerTrees, If, IterationTree, LocalObject, Loop, MoreAlternatives, MoreElsifs, MoreHandlers, MoreStmts, NoAlternatives, NoElsifs, NoHandlers, NoStmts, StmtTree, StmtTrees}
use Rattle.types.specs.Bounds.{bounds_of}
use Rattle.types.specs.Scopes.{Scope, integer}
use Rattle.declaration_rules.specs.BodyNames.{loop_scope}
use Rattle.declaration_rules.specs.LocalRules.{local_scope}
use Rattle.expr_soundness.specs.BoundsLaw.{is_inside}

-- the names after declarations of objects
abbrev pub locals_seen : Scope → List DeclarationTree → Scope
locals_seen s [] = s
locals_seen s (LocalObject d ∷ ds) = locals_seen (local_scope s (LocalObject d)) ds
locals_seen s (d ∷ ds) = locals_seen s ds

-- those in a loop
abbrev pub turn_scope : Scope → IterationTree → Scope
turn_scope s (For parameter reversed range) = loop_scope s parameter range
turn_scope s iteration = s

abbrev mutual
  pub stmt_timely : Scope → StmtTree → Type 0
  stmt_timely s (DelayUntil place e) = is_inside (bounds_of s e) integer ≡ true
  stmt_timely s (If place e body parts others) = stmts_timely s body × elsifs_timely s parts × stmts_timely s others
  stmt_timely s (Case place e all) = alternatives_timely s all
  stmt_timely s (Loop place iteration body) = stmts_timely (turn_scope s iteration) body
  stmt_timely s (Block place ds body all) = stmts_timely (locals_seen s ds) body × handlers_timely (locals_seen s ds) all
  stmt_timely s other = ⊤

  pub stmts_timely : Scope → StmtTrees → Type 0
  stmts_timely s NoStmts = ⊤
  stmts_timely s (MoreStmts x rest) = stmt_timely s x × stmts_timely s rest

  pub elsifs_timely : Scope → ElsifTrees → Type 0
  elsifs_timely s NoElsifs = ⊤
  elsifs_timely s (MoreElsifs e body rest) = stmts_timely s body × elsifs_timely s rest

  pub alternatives_timely : Scope → AlternativeTrees → Type 0
  alternatives_timely s NoAlternatives = ⊤
  alternatives_timely s (MoreAlternatives place choices body rest) = stmts_timely s body × alternatives_timely s rest

  pub handlers_timely : Scope → HandlerTrees → Type 0
  handlers_timely s NoHandlers = ⊤
  handlers_timely s (MoreHandlers choices body rest) = stmts_timely s body × handlers_timely s rest
