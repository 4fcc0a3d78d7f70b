-- Which labels code has behind statements: those in front of them, and each label of their lines that is not among these yet, in the order of the lines.
use Rattle.std.specs.Prelude.{ℕ, Bool, true, false, List, [], ◌∷◌, ◌++◌, bytes_eq, is_some, position, Option, Some, None}
use Rattle.ada_tree.specs.StatementTree.{AlternativeTrees, Block, Call, Case, ElsifTrees, HandlerTrees, If, Loop, MoreAlternatives, MoreElsifs, MoreHandlers, MoreStmts, NoAlternatives, NoElsifs, NoHandlers, NoStmts, StmtTree, StmtTrees}
use Rattle.part_code.specs.Lines.{LabelledValue, line_of}

abbrev pub is_label : (labels : List (List ℕ)) → List ℕ → Bool
is_label labels text = is_some (position (bytes_eq text) labels)

abbrev pub with_label : (labels : List (List ℕ)) → List ℕ → List (List ℕ)
with_label labels text = elim (is_label labels text) [ true ↦ labels | false ↦ labels ++ text ∷ [] ]

abbrev pub with_line : (labels : List (List ℕ)) → Option LabelledValue → List (List ℕ)
with_line labels None = labels
with_line labels (Some line) = with_label labels line.label

abbrev mutual
  pub stmt_labels : (before : List (List ℕ)) → StmtTree → List (List ℕ)
  stmt_labels before (Call name) = with_line before (line_of name)
  stmt_labels before (If place condition body elsifs others) = stmts_labels (elsifs_labels (stmts_labels before body) elsifs) others
  stmt_labels before (Case place value all) = alternatives_labels before all
  stmt_labels before (Loop place iteration body) = stmts_labels before body
  stmt_labels before (Block place locals body all) = handlers_labels (stmts_labels before body) all
  stmt_labels before simple = before

  pub stmts_labels : (before : List (List ℕ)) → StmtTrees → List (List ℕ)
  stmts_labels before NoStmts = before
  stmts_labels before (MoreStmts x rest) = stmts_labels (stmt_labels before x) rest

  pub elsifs_labels : (before : List (List ℕ)) → ElsifTrees → List (List ℕ)
  elsifs_labels before NoElsifs = before
  elsifs_labels before (MoreElsifs condition body rest) = elsifs_labels (stmts_labels before body) rest

  pub alternatives_labels : (before : List (List ℕ)) → AlternativeTrees → List (List ℕ)
  alternatives_labels before NoAlternatives = before
  alternatives_labels before (MoreAlternatives place choices body rest) = alternatives_labels (stmts_labels before body) rest

  pub handlers_labels : (before : List (List ℕ)) → HandlerTrees → List (List ℕ)
  handlers_labels before NoHandlers = before
  handlers_labels before (MoreHandlers choices body rest) = handlers_labels (stmts_labels before body) rest
