-- Rows of handlers that are added with code (docs/FORMATS.md, "Handlers"): where they lie, and how many there are behind statements, one for each choice.
use Rattle.std.specs.Prelude.{◌≤◌, ◌<◌, ℕ, ◌+◌, length}
use Rattle.ada_tree.specs.StatementTree.{AlternativeTrees, Block, Case, ElsifTrees, HandlerTrees, If, Loop, MoreAlternatives, MoreElsifs, MoreHandlers, MoreStmts, NoAlternatives, NoElsifs, NoHandlers, NoStmts, StmtTree, StmtTrees}
use Rattle.ada_tree.specs.ProgramTree.{BodyTree}
use Rattle.handlers.specs.declared.rows.Row.{Row}

-- it covers places of code between these, and leads to one of it
pub record LiesWithin (from to : ℕ) (q : Row) : Type 0 where
  pub start : from ≤ q.start
  pub places : q.start < q.end_
  pub end : q.end_ ≤ to
  pub down : from ≤ q.target
  pub up : q.target < to

-- ---- how many there are behind statements, of those in front of them

abbrev mutual
  pub stmt_rows : (before : ℕ) → StmtTree → ℕ
  stmt_rows before (If place condition body elsifs others) = stmts_rows (elsifs_rows (stmts_rows before body) elsifs) others
  stmt_rows before (Case place value all) = alternatives_rows before all
  stmt_rows before (Loop place iteration body) = stmts_rows before body
  stmt_rows before (Block place locals body all) = handlers_rows (stmts_rows before body) all
  stmt_rows before simple = before

  pub stmts_rows : (before : ℕ) → StmtTrees → ℕ
  stmts_rows before NoStmts = before
  stmts_rows before (MoreStmts x rest) = stmts_rows (stmt_rows before x) rest

  pub elsifs_rows : (before : ℕ) → ElsifTrees → ℕ
  elsifs_rows before NoElsifs = before
  elsifs_rows before (MoreElsifs condition body rest) = elsifs_rows (stmts_rows before body) rest

  pub alternatives_rows : (before : ℕ) → AlternativeTrees → ℕ
  alternatives_rows before NoAlternatives = before
  alternatives_rows before (MoreAlternatives place choices body rest) = alternatives_rows (stmts_rows before body) rest

  pub handlers_rows : (before : ℕ) → HandlerTrees → ℕ
  handlers_rows before NoHandlers = before
  handlers_rows before (MoreHandlers choices body rest) = handlers_rows (stmts_rows (before + length choices) body) rest

-- how many rows there are after those of a body
abbrev pub body_rows : (before : ℕ) → BodyTree → ℕ
body_rows before b = handlers_rows (stmts_rows before b.statements) b.handlers
