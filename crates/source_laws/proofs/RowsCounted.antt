-- A program has no more rows of handlers than its tree has nodes.
use Rattle.std.proofs.Common.{◌≡◌, ℕ, ◌+◌, ◌≤◌, List, [], ◌∷◌, ◌++◌, length, map, Option, Some, None, arith}
use Rattle.ada_tree.specs.declared.expression.Identifier.{Identifier}
use Rattle.ada_tree.specs.StatementTree.{AlternativeTrees, Block, Case, ElsifTrees, HandlerTrees, If, Loop, MoreAlternatives, MoreElsifs, MoreHandlers, MoreStmts, NoAlternatives, NoElsifs, NoHandlers, NoStmts, StmtTree, StmtTrees, SubprogramTree}
use Rattle.ada_tree.specs.ProgramTree.{BodyItemTree, BodyTree, EntryBody, ItemTree, OfItem, OperationBody, PackageTree, ProgramTree, ProtectedBody, ProtectedItemTree, SubprogramBody, TaskBody}
use Rattle.ada_tree.specs.Size.{alternatives_size, body_item_size, body_size, elsifs_size, handlers_size, item_size, package_size, protected_item_size, size, size_if_any, stmt_size, stmts_size, subprogram_size, total}
use Rattle.program_soundness.specs.Fronts.{declared_in}
use Rattle.part_code.specs.Rows.{alternatives_rows, body_rows, elsifs_rows, handlers_rows, stmt_rows, stmts_rows}
use Rattle.package_code.specs.Refusing.{item_rows, items_rows, operation_rows, operations_rows, program_rows, subprogram_rows}

unmoved : (before n : ℕ) → before ≤ before + n
unmoved before n = omega arith

-- one behind the other, among others
two : (a b c m n k : ℕ) → b ≤ a + m → c ≤ b + n → m + n ≤ k → c ≤ a + k
two a b c m n k h i j = omega (arith, h, i, j)

three : (a b c d m n o k : ℕ) → b ≤ a + m → c ≤ b + n → d ≤ c + o → m + n + o ≤ k → d ≤ a + k
three a b c d m n o k h i j up = omega (arith, h, i, j, up)

mutual
  stmt_counted : (s : StmtTree) (before : ℕ) → stmt_rows before s ≤ before + stmt_size s
  stmt_counted (If place condition body elsifs others) before =
      let b = stmts_rows before body in
      let c = elsifs_rows b elsifs in
      three before b c (stmts_rows c others) (stmts_size body) (elsifs_size elsifs) (stmts_size others) _ (stmts_counted body before) (elsifs_counted elsifs b)
      (stmts_counted others c) (omega arith)
  stmt_counted (Case place value all) before =
      two before (alternatives_rows before all) (alternatives_rows before all) (alternatives_size all) 0 _ (alternatives_counted all before) (omega arith)
      (omega arith)
  stmt_counted (Loop place iteration body) before =
      two before (stmts_rows before body) (stmts_rows before body) (stmts_size body) 0 _ (stmts_counted body before) (omega arith) (omega arith)
  stmt_counted (Block place locals body all) before =
      let b = stmts_rows before body in
      two before b (handlers_rows b all) (stmts_size body) (handlers_size all) _ (stmts_counted body before) (handlers_counted all b) (omega arith)
  stmt_counted s before = unmoved before (stmt_size s)

  stmts_counted : (s : StmtTrees) (before : ℕ) → stmts_rows before s ≤ before + stmts_size s
  stmts_counted NoStmts before = unmoved before 0
  stmts_counted (MoreStmts x rest) before =
      let b = stmt_rows before x in
      two before b (stmts_rows b rest) (stmt_size x) (stmts_size rest) _ (stmt_counted x before) (stmts_counted rest b) (omega arith)

  elsifs_counted : (e : ElsifTrees) (before : ℕ) → elsifs_rows before e ≤ before + elsifs_size e
  elsifs_counted NoElsifs before = unmoved before 0
  elsifs_counted (MoreElsifs condition body rest) before =
      let b = stmts_rows before body in
      two before b (elsifs_rows b rest) (stmts_size body) (elsifs_size rest) _ (stmts_counted body before) (elsifs_counted rest b) (omega arith)

  alternatives_counted : (a : AlternativeTrees) (before : ℕ) → alternatives_rows before a ≤ before + alternatives_size a
  alternatives_counted NoAlternatives before = unmoved before 0
  alternatives_counted (MoreAlternatives place choices body rest) before =
      let b = stmts_rows before body in
      two before b (alternatives_rows b rest) (stmts_size body) (alternatives_size rest) _ (stmts_counted body before) (alternatives_counted rest b)
      (omega arith)

  handlers_counted : (h : HandlerTrees) (before : ℕ) → handlers_rows before h ≤ before + handlers_size h
  handlers_counted NoHandlers before = unmoved before 0
  handlers_counted (MoreHandlers choices body rest) before =
      let a = before + length choices in
      let b = stmts_rows a body in
      three before a b (handlers_rows b rest) (length choices) (stmts_size body) (handlers_size rest) _ (omega arith) (stmts_counted body a)
      (handlers_counted rest b)
      (omega arith)

-- ---- bodies

body_counted : (b : BodyTree) (before : ℕ) → body_rows before b ≤ before + body_size b
body_counted b before =
    let c = stmts_rows before b.statements in
    two before c (handlers_rows c b.handlers) (stmts_size b.statements) (handlers_size b.handlers) (body_size b) (stmts_counted b.statements before)
    (handlers_counted b.handlers c) (omega arith)

pub subprogram_counted : (d : SubprogramTree) (b : BodyTree) (before : ℕ) → subprogram_rows before d b ≤ before + (subprogram_size d + body_size b)
subprogram_counted d b before = by_result d.result
  where
    by_result : (r : Option Identifier) → elim r [ None ↦ body_rows before b | Some x ↦ before ] ≤ before + (subprogram_size d + body_size b)
    by_result None = let up = body_counted b before in omega (arith, up)
    by_result (Some x) = omega arith

operation_counted : (i : ProtectedItemTree) (before : ℕ) → operation_rows before i ≤ before + protected_item_size i
operation_counted (OperationBody d b) before = subprogram_counted d b before
operation_counted (EntryBody d barrier b) before = let up = body_counted b before in omega (arith, up)

operations_counted : (items : List ProtectedItemTree) (before : ℕ) → operations_rows before items ≤ before + total protected_item_size items
operations_counted [] before = unmoved before 0
operations_counted (i ∷ rest) before =
    let b = operation_rows before i in
    two before b (operations_rows b rest) (protected_item_size i) (total protected_item_size rest) _ (operation_counted i before) (operations_counted rest b)
    (omega arith)

item_counted : (x : BodyItemTree) (before : ℕ) → item_rows before x ≤ before + body_item_size x
item_counted (OfItem d) before = unmoved before (body_item_size (OfItem d))
item_counted (SubprogramBody d b) before = subprogram_counted d b before
item_counted (TaskBody name b) before = let up = body_counted b before in omega (arith, up)
item_counted (ProtectedBody name items end_name) before = let up = operations_counted items before in omega (arith, up)

items_counted : (xs : List BodyItemTree) (before : ℕ) → items_rows before xs ≤ before + total body_item_size xs
items_counted [] before = unmoved before 0
items_counted (x ∷ rest) before =
    let b = item_rows before x in
    two before b (items_rows b rest) (body_item_size x) (total body_item_size rest) _ (item_counted x before) (items_counted rest b) (omega arith)

-- ---- the package as one list is no larger than the package

joined_size : (ds : List ItemTree) (xs : List BodyItemTree) → total body_item_size (map OfItem ds ++ xs) ≡ total item_size ds + total body_item_size xs
joined_size [] xs = omega arith
joined_size (d ∷ ds) xs = let rest = joined_size ds xs in omega (arith, rest)

pub declared_size : (o : Option PackageTree) → total body_item_size (declared_in o) ≤ size_if_any package_size o
declared_size None = omega arith
declared_size (Some p) = let same = joined_size p.declaration.items p.body.items in omega (arith, same)

pub rows_counted : (t : ProgramTree) → program_rows t ≤ size t
rows_counted t =
    let up = items_counted (declared_in t.package_) 0 in
    let whole = declared_size t.package_ in
    omega (arith, up, whole)
