-- There are no fewer rows of handlers after statements and bodies than before them; so those of the first items are no more than those of all.
use Rattle.std.proofs.Common.{ℕ, zero, suc, ◌+◌, ◌≤◌, List, [], ◌∷◌, length, take, Option, None, Some, arith}
use Rattle.ada_tree.specs.declared.expression.Identifier.{Identifier}
use Rattle.ada_tree.specs.StatementTree.{AlternativeTrees, Block, Case, ElsifTrees, HandlerTrees, If, Loop, MoreAlternatives, MoreElsifs, MoreHandlers, MoreStmts, NoAlternatives, NoElsifs, NoHandlers, NoStmts, StmtTree, StmtTrees, SubprogramTree}
use Rattle.ada_tree.specs.ProgramTree.{BodyItemTree, BodyTree, EntryBody, OfItem, OperationBody, ProtectedBody, ProtectedItemTree, SubprogramBody, TaskBody}
use Rattle.step_simulation.specs.part_code.specs.Rows.{alternatives_rows, body_rows, elsifs_rows, handlers_rows, stmt_rows, stmts_rows}
use Rattle.package_code.specs.Refusing.{item_rows, items_rows, operation_rows, operations_rows, subprogram_rows}

upto : (a b c : ℕ) → a ≤ b → b ≤ c → a ≤ c
upto a b c h k = omega (arith, h, k)

mutual
  stmt_grows : (before : ℕ) (x : StmtTree) → before ≤ stmt_rows before x
  stmt_grows before (If place condition body elsifs others) =
      let inside = stmts_rows before body in
      let between = elsifs_rows inside elsifs in
      upto before inside (stmts_rows between others) (stmts_grow before body)
      (upto inside between (stmts_rows between others) (elsifs_grow inside elsifs) (stmts_grow between others))
  stmt_grows before (Case place value all) = alternatives_grow before all
  stmt_grows before (Loop place iteration body) = stmts_grow before body
  stmt_grows before (Block place locals body all) =
      let inside = stmts_rows before body in
      upto before inside (handlers_rows inside all) (stmts_grow before body) (handlers_grow inside all)
  stmt_grows before simple = omega arith

  stmts_grow : (before : ℕ) (body : StmtTrees) → before ≤ stmts_rows before body
  stmts_grow before NoStmts = omega arith
  stmts_grow before (MoreStmts x rest) =
      let next = stmt_rows before x in
      upto before next (stmts_rows next rest) (stmt_grows before x) (stmts_grow next rest)

  elsifs_grow : (before : ℕ) (all : ElsifTrees) → before ≤ elsifs_rows before all
  elsifs_grow before NoElsifs = omega arith
  elsifs_grow before (MoreElsifs condition body rest) =
      let next = stmts_rows before body in
      upto before next (elsifs_rows next rest) (stmts_grow before body) (elsifs_grow next rest)

  alternatives_grow : (before : ℕ) (all : AlternativeTrees) → before ≤ alternatives_rows before all
  alternatives_grow before NoAlternatives = omega arith
  alternatives_grow before (MoreAlternatives place choices body rest) =
      let next = stmts_rows before body in
      upto before next (alternatives_rows next rest) (stmts_grow before body) (alternatives_grow next rest)

  handlers_grow : (before : ℕ) (all : HandlerTrees) → before ≤ handlers_rows before all
  handlers_grow before NoHandlers = omega arith
  handlers_grow before (MoreHandlers choices body rest) =
      let first = before + length choices in
      let next = stmts_rows first body in
      upto before first (handlers_rows next rest) (omega arith) (upto first next (handlers_rows next rest) (stmts_grow first body) (handlers_grow next rest))

body_grows : (before : ℕ) (b : BodyTree) → before ≤ body_rows before b
body_grows before b =
    let next = stmts_rows before b.statements in
    upto before next (handlers_rows next b.handlers) (stmts_grow before b.statements) (handlers_grow next b.handlers)

subprogram_grows : (before : ℕ) (d : SubprogramTree) (b : BodyTree) → before ≤ subprogram_rows before d b
subprogram_grows before d b = by_result d.result
  where
    by_result : (r : Option Identifier) → before ≤ elim r [ None ↦ body_rows before b | Some x ↦ before ]
    by_result None = body_grows before b
    by_result (Some x) = omega arith

operation_grows : (before : ℕ) (i : ProtectedItemTree) → before ≤ operation_rows before i
operation_grows before (OperationBody d b) = subprogram_grows before d b
operation_grows before (EntryBody d barrier b) = body_grows before b

operations_grow : (before : ℕ) (items : List ProtectedItemTree) → before ≤ operations_rows before items
operations_grow before [] = omega arith
operations_grow before (i ∷ rest) =
    let next = operation_rows before i in
    upto before next (operations_rows next rest) (operation_grows before i) (operations_grow next rest)

item_grows : (before : ℕ) (x : BodyItemTree) → before ≤ item_rows before x
item_grows before (OfItem d) = omega arith
item_grows before (SubprogramBody d b) = subprogram_grows before d b
item_grows before (TaskBody name b) = body_grows before b
item_grows before (ProtectedBody name items end_name) = operations_grow before items

items_grow : (before : ℕ) (items : List BodyItemTree) → before ≤ items_rows before items
items_grow before [] = omega arith
items_grow before (x ∷ rest) =
    let next = item_rows before x in
    upto before next (items_rows next rest) (item_grows before x) (items_grow next rest)

pub rows_within : (before : ℕ) (items : List BodyItemTree) (n : ℕ) → items_rows before (take n items) ≤ items_rows before items
rows_within before [] zero = omega arith
rows_within before [] (suc n) = omega arith
rows_within before (x ∷ rest) zero = items_grow before (x ∷ rest)
rows_within before (x ∷ rest) (suc n) = rows_within (item_rows before x) rest n
