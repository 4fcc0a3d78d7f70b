-- Which statements leave the loop around them (RM 5.7), or return from the body in which they stand (RM 6.5).
use Rattle.std.specs.Prelude.{Bool, true, false, not, ◌||◌, ◌&&◌}
use Rattle.ada_tree.specs.StatementTree.{AlternativeTrees, Block, Case, ElsifTrees, Exit, HandlerTrees, If, Loop, MoreAlternatives, MoreElsifs, MoreHandlers, MoreStmts, NoAlternatives, NoElsifs, NoHandlers, NoStmts, Return, StmtTree, StmtTrees}
use Rattle.stmt_code.specs.declared.leaves.WayOut.{WayOut}
use Rattle.stmt_code.specs.declared.leaves.WayOut.TheVariants as way

abbrev pub is_return : WayOut → Bool
is_return way.Exit = false
is_return way.Return = true

abbrev mutual
  -- it takes this way out, or a statement within it does; a loop within has an exit of its own
  pub leaves : StmtTree → WayOut → Bool
  leaves (Exit place condition) q = not (is_return q)
  leaves (Return place value) q = is_return q
  leaves (If place condition body elsifs others) q = any_leave body q || (elsifs_leave elsifs q || any_leave others q)
  leaves (Case place value all) q = alternatives_leave all q
  leaves (Loop place iteration body) q = is_return q && any_leave body q
  leaves (Block place locals body all) q = any_leave body q || handlers_leave all q
  leaves simple q = false

  pub any_leave : StmtTrees → WayOut → Bool
  any_leave NoStmts q = false
  any_leave (MoreStmts x rest) q = leaves x q || any_leave rest q

  pub elsifs_leave : ElsifTrees → WayOut → Bool
  elsifs_leave NoElsifs q = false
  elsifs_leave (MoreElsifs condition body rest) q = any_leave body q || elsifs_leave rest q

  pub alternatives_leave : AlternativeTrees → WayOut → Bool
  alternatives_leave NoAlternatives q = false
  alternatives_leave (MoreAlternatives place choices body rest) q = any_leave body q || alternatives_leave rest q

  pub handlers_leave : HandlerTrees → WayOut → Bool
  handlers_leave NoHandlers q = false
  handlers_leave (MoreHandlers choices body rest) q = any_leave body q || handlers_leave rest q
