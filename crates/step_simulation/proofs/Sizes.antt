-- What is left to do grows less where no code is run.
use Rattle.std.proofs.Common.{◌≡◌, ◌+◌, ◌<◌, ◌≤◌, List, [], ◌∷◌, map, arith}
use Rattle.std.specs.Prelude.{◌++◌, ◌*◌}
use Rattle.part_code.specs.ada_tree.specs.Size.{declaration_size, stmt_size, stmts_size, total}
use Rattle.part_code.specs.ada_tree.specs.StatementTree.{DeclarationTree, LocalObject, LocalTask, LocalProtected, StmtTree, Null, Assignment, Exit, Return, Raise, Delay, DelayUntil, If, Case, Loop, Block, Abort, Requeue, Accept, Select, StmtTrees, NoStmts, MoreStmts}
use Rattle.part_code.specs.ada_tree.specs.StatementTree as tree
use Rattle.step_soundness.specs.meaning.specs.SourceSteps as source
use Rattle.step_soundness.specs.meaning.specs.Works.{Item, Declares, DeclaresParameter, Sequence, Does, DoesMain, Repeats, RepeatsWhile, RepeatsFor, Handles, EndsHandler, EndsCall, EndsAction, EndsServed, Queued}
use Rattle.step_simulation.specs.Standing.{items_size}

positive : (s : StmtTree) → 1 ≤ stmt_size s
positive (Null place) = omega arith
positive (Assignment name e) = omega arith
positive (tree.Call name) = omega arith
positive (Exit place e) = omega arith
positive (Return place e) = omega arith
positive (Raise place name) = omega arith
positive (Delay place e) = omega arith
positive (DelayUntil place e) = omega arith
positive (If place e body others last) = omega arith
positive (Case place e all) = omega arith
positive (Loop place turns body) = omega arith
positive (Block place ds body hs) = omega arith
positive (Abort place name) = omega arith
positive (Requeue place one other) = omega arith
positive (Accept place name) = omega arith
positive (Select place) = omega arith

pub item_counts : (i' : Item) (items : List Item) → items_size items < items_size (i' ∷ items)
item_counts (Declares (LocalObject d)) items = omega arith
item_counts (Declares (LocalTask d)) items = omega arith
item_counts (Declares (LocalProtected d)) items = omega arith
item_counts (DeclaresParameter f) items = omega arith
item_counts (Sequence body hs) items = omega arith
item_counts (Does s) items = let h = positive s in omega (arith, h)
item_counts (DoesMain s) items = omega arith
item_counts (Repeats body) items = omega arith
item_counts (RepeatsWhile e body) items = omega arith
item_counts (RepeatsFor parameter reversed now last body) items = omega arith
item_counts (Handles hs) items = omega arith
item_counts (EndsHandler x) items = omega arith
item_counts (EndsCall names opened xs) items = omega arith
item_counts (EndsAction o completion) items = omega arith
item_counts (EndsServed o names completion) items = omega arith
item_counts (Queued q vs xs) items = omega arith

pub before_size : (stmts : StmtTrees) (items : List Item) → items_size (source.before stmts items) ≡ 4 * stmts_size stmts + items_size items
before_size NoStmts items = omega arith
before_size (MoreStmts st rest) items = let e = before_size rest items in omega (arith, e)

pub declares_size : (ds : List DeclarationTree) (items : List Item) → items_size (map Declares ds ++ items) ≡ 4 * total declaration_size ds + items_size items
declares_size [] items = omega arith
declares_size (d ∷ ds) items = let e = declares_size ds items in omega (arith, e)
