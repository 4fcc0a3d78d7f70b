-- The laws of trees and their spellings, as statements; each is the contract of a public function.
use Rattle.std.specs.Prelude.{◌≡◌, ◌↔◌, ℕ, ◌≤◌, Some, None, length, map, Box, Vec}
use Rattle.std.specs.declared.alloc.Global.{Global}
use Rattle.ada_tree.specs.declared.expression.Expr.{Expr}
use Rattle.ada_tree.specs.declared.expression.Expr as expressions
use Rattle.ada_tree.specs.declared.expression.NameExpr.{NameExpr}
use Rattle.ada_tree.specs.declared.expression.Operand.{Operand}
use Rattle.ada_tree.specs.declared.expression.Selector as selectors
use Rattle.ada_tree.specs.declared.expression.Argument.{Argument}
use Rattle.ada_tree.specs.declared.expression.ElsifValue.{ElsifValue}
use Rattle.ada_tree.specs.declared.statement.Stmt.{Stmt}
use Rattle.ada_tree.specs.declared.statement.Stmt as statements
use Rattle.ada_tree.specs.declared.statement.ElsifPart.{ElsifPart}
use Rattle.ada_tree.specs.declared.statement.Alternative.{Alternative}
use Rattle.ada_tree.specs.declared.statement.Handler.{Handler}
use Rattle.ada_tree.specs.declared.statement.Iteration.{Iteration}
use Rattle.ada_tree.specs.declared.declaration.Declaration.{Declaration}
use Rattle.ada_tree.specs.ExpressionTree.{Named, Conditional, Binary, Arguments, chain_tree, expr_tree, selector_tree, selector_trees, argument_trees, elsif_value_trees}
use Rattle.ada_tree.specs.StatementTree.{If, Case, Loop, Block, stmt_tree, stmt_trees, elsif_trees, alternative_trees, handler_trees, iteration_tree, declaration_tree}
use Rattle.ada_tree.specs.ProgramTree.{ProgramTree}
use Rattle.ada_tree.specs.Language.{Tokens, Limit}
use Rattle.ada_tree.specs.ProgramGrammar.{program}
use Rattle.ada_tree.specs.Depth.{depth}
use Rattle.ada_tree.specs.Size.{size}

-- ---- depth and size

-- Tokens spell a tree with at most k levels open just where they spell it without a limit, and it is at most k deep.
abbrev pub LimitIsDepth : Type 0
LimitIsDepth = (k : ℕ) (t : ProgramTree) (ts : Tokens) → program (Some k) t ts ↔ (program None t ts × (depth t ≤ k))

-- A tree has at most as many nodes as each list that spells it has tokens, whatever the limit.
abbrev pub SizeWithinTokens : Type 0
SizeWithinTokens = (limit : Limit) (t : ProgramTree) (ts : Tokens) → program limit t ts → size t ≤ length ts

-- ---- the trees of what holds its parts in vectors

abbrev pub NamesByParts : Type 0
NamesByParts = (n : NameExpr) → expr_tree (expressions.Name n) ≡ Named n.first (selector_trees n.selectors.items)

abbrev pub ArgumentsByParts : Type 0
ArgumentsByParts = (arguments : Vec Argument Global) → selector_tree (selectors.Arguments arguments) ≡ Arguments (argument_trees arguments.items)

abbrev pub ConditionalByParts : Type 0
ConditionalByParts =
    (place : ℕ) (condition value : Box Expr Global) (elsif_values : Vec ElsifValue Global) (else_value : Box Expr Global)
    → expr_tree (expressions.Conditional place condition value elsif_values else_value)
    ≡ Conditional place (expr_tree condition.value) (expr_tree value.value) (elsif_value_trees elsif_values.items) (expr_tree else_value.value)

abbrev pub ChainsByParts : Type 0
ChainsByParts =
    (first : Box Expr Global) (second : Box Operand Global) (more : Vec Operand Global)
    → expr_tree (expressions.Chain first second more) ≡ chain_tree
    (Binary second.value.operator (expr_tree first.value) (expr_tree second.value.value)) more.items

pub record StatementsByParts : Type 0 where
  pub ifs : (place : ℕ) (condition : Expr) (then_part : Vec Stmt Global) (elsif_parts : Vec ElsifPart Global) (else_part : Vec Stmt Global)
      → stmt_tree (statements.If place condition then_part elsif_parts else_part) ≡ If place (expr_tree condition) (stmt_trees then_part.items)
      (elsif_trees elsif_parts.items) (stmt_trees else_part.items)
  pub cases : (place : ℕ) (value : Expr) (alternatives : Vec Alternative Global)
      → stmt_tree (statements.Case place value alternatives) ≡ Case place (expr_tree value) (alternative_trees alternatives.items)
  pub loops : (place : ℕ) (iteration : Iteration) (body : Vec Stmt Global)
      → stmt_tree (statements.Loop place iteration body) ≡ Loop place (iteration_tree iteration) (stmt_trees body.items)
  pub blocks : (place : ℕ) (declarations : Vec Declaration Global) (body : Vec Stmt Global) (handlers : Vec Handler Global)
      → stmt_tree (statements.Block place declarations body handlers) ≡ Block place (map declaration_tree declarations.items) (stmt_trees body.items)
      (handler_trees handlers.items)
