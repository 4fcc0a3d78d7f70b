-- The parts of trees that stand in vectors.
use Rattle.ada_tree.specs.declared.expression.Identifier.{Identifier}
use Rattle.ada_tree.specs.declared.expression.Operand.{Operand}
use Rattle.ada_tree.specs.declared.expression.Selector.{Selector}
use Rattle.std.proofs.Common.{rules, length, ◌<◌, arith, Option, None, ◌≡◌, ℕ, List, [], ◌∷◌, ◌++◌, refl, sym, ap, ◌∙◌, map}
use Rattle.ada_tree.specs.declared.expression.Expr.{Expr, Row_of-Selector, end_of-Selector, more_of-Selector, items-the_row-Selector, Row_of-ElsifValue, end_of-ElsifValue, more_of-ElsifValue, items-the_row-ElsifValue, Row_of-Operand, end_of-Operand, more_of-Operand, items-the_row-Operand}
use Rattle.ada_tree.specs.declared.expression.Expr as expressions
use Rattle.ada_tree.specs.declared.expression.Argument.TheOpen as layers
use Rattle.ada_tree.specs.declared.expression.Expr.TheVariants as variants
use Rattle.ada_tree.specs.declared.expression.NameExpr.{NameExpr}
use Rattle.ada_tree.specs.declared.expression.Selector.{Row_of-Argument, end_of-Argument, more_of-Argument, items-the_row-Argument}
use Rattle.ada_tree.specs.declared.expression.Selector as selectors
use Rattle.ada_tree.specs.declared.statement.Stmt.{Stmt, Row_of-Stmt, end_of-Stmt, more_of-Stmt, items-the_row-Stmt, Row_of-ElsifPart, end_of-ElsifPart, more_of-ElsifPart, items-the_row-ElsifPart, Row_of-Alternative, end_of-Alternative, more_of-Alternative, items-the_row-Alternative, Row_of-Handler, end_of-Handler, more_of-Handler, items-the_row-Handler}
use Rattle.ada_tree.specs.declared.statement.Stmt as statements
use Rattle.ada_tree.specs.Laws.{StatementsByParts}
use Rattle.ada_tree.specs.StatementTree.{MoreStmts, If, Case, Loop, Block, stmt_tree, stmt_trees, stmts_of_row, elsif_trees, elsifs_of_row, alternative_trees, alternatives_of_row, handler_trees, handlers_of_row, iteration_tree, declaration_tree}
use Rattle.ada_tree.specs.ExpressionTree.{ExprTree, Named, Conditional, Binary, MoreSelectors, Arguments, MoreArguments, MoreElsifValues, chain_of_row, chain_tree, expr_tree, bare_name, selectors_of, selector_tree, selector_trees, selectors_of_row, argument_tree, argument_trees, arguments_of_row, elsif_value_trees, elsif_values_of_row}

row_selectors : (n : _) (k : Row_of-Selector n) → selectors_of_row k ≡ selector_trees (items-the_row-Selector n k)
row_selectors n end_of-Selector = refl
row_selectors n (more_of-Selector {n = m} one rest) = ap (MoreSelectors (selector_tree one)) (row_selectors m rest)

row_arguments : (n : _) (k : Row_of-Argument n) → arguments_of_row k ≡ argument_trees (items-the_row-Argument n k)
row_arguments n end_of-Argument = refl
row_arguments n (more_of-Argument {n = m} one rest) = ap (MoreArguments (argument_tree one)) (row_arguments m rest)

row_elsif_values : (n : _) (k : Row_of-ElsifValue n) → elsif_values_of_row k ≡ elsif_value_trees (items-the_row-ElsifValue n k)
row_elsif_values n end_of-ElsifValue = refl
row_elsif_values n (more_of-ElsifValue {n = m} condition value rest) = ap (MoreElsifValues (expr_tree condition) (expr_tree value)) (row_elsif_values m rest)

pub named_tree : (n : _) → expr_tree (expressions.Name n) ≡ Named n.first (selector_trees n.selectors.items)
named_tree n = search (rules, row_selectors, expressions.the_lemmas)

pub arguments_tree : (v : _) → selector_tree (selectors.Arguments v) ≡ Arguments (argument_trees v.items)
arguments_tree v = search (rules, row_arguments, selectors.the_lemmas)

pub conditional_tree : (place : ℕ) (condition value : _) (v : _) (else_value : _)
    → expr_tree (expressions.Conditional place condition value v else_value) ≡ Conditional place (expr_tree condition.value) (expr_tree value.value) (elsif_value_trees v.items) (expr_tree else_value.value)
conditional_tree place condition value v else_value = search (rules, row_elsif_values, expressions.the_lemmas)

-- ---- chains

row_chain : (n : _) (left : ExprTree) (k : Row_of-Operand n) → chain_of_row left k ≡ chain_tree left (items-the_row-Operand n k)
row_chain n left end_of-Operand = refl
row_chain n left (more_of-Operand {n = m} operator right rest) = row_chain m (Binary operator left (expr_tree right)) rest

pub chained_tree : (first second v : _) → expr_tree (expressions.Chain first second v) ≡ chain_tree (Binary second.value.operator (expr_tree first.value) (expr_tree second.value.value)) v.items
chained_tree first second v = search (rules, row_chain, expressions.the_lemmas)

-- a chain is no name
bare_chain : (operator : _) (left right : ExprTree) (all : List Operand) → None ≡ bare_name (chain_tree (Binary operator left right) all)
bare_chain operator left right [] = refl
bare_chain operator left right (o ∷ rest) = bare_chain o.operator (Binary operator left right) (expr_tree o.value) rest

abbrev bare : Expr → Option Identifier
bare e = bare_name (expr_tree e)

no_name : (f : _) → ((n : NameExpr) → expressions.roll-Expr f ≡ expressions.Name n → ⊥) → None ≡ bare (expressions.roll-Expr f)
no_name (layers.Name n) h = absurd (h n (variants.rolls-Name n))
no_name (layers.Chain first second v) h =
    bare_chain second.value.operator (expr_tree first.value) (expr_tree second.value.value) v.items
    ∙ ap bare_name (sym (chained_tree first second v)) ∙ ap bare (sym (variants.rolls-Chain first second v))
no_name (layers.Number value place) h = ap bare (sym (variants.rolls-Number value place))
no_name (layers.Parenthesized place inner) h = ap bare (sym (variants.rolls-Parenthesized place inner))
no_name (layers.Conditional place condition value v else_value) h = ap bare (sym (variants.rolls-Conditional place condition value v else_value))
no_name (layers.Unary operator place operand) h = ap bare (sym (variants.rolls-Unary operator place operand))

pub bare_other : (e : Expr) → ((n : NameExpr) → e ≡ expressions.Name n → ⊥) → None ≡ bare e
bare_other e h =
    let same = expressions.roll-out-Expr e in
    no_name (expressions.out-Expr e) (λ n is. h n (sym same ∙ is)) ∙ ap bare same

-- one more operand is one more operation
pub chain_more : (left : ExprTree) (all : List Operand) (last : Operand) → chain_tree left (all ++ last ∷ []) ≡ Binary last.operator (chain_tree left all) (expr_tree last.value)
chain_more left [] last = refl
chain_more left (o ∷ rest) last = chain_more (Binary o.operator left (expr_tree o.value)) rest last

-- ---- statements

row_stmts : (n : _) (k : Row_of-Stmt n) → stmts_of_row k ≡ stmt_trees (items-the_row-Stmt n k)
row_stmts n end_of-Stmt = refl
row_stmts n (more_of-Stmt {n = m} one rest) = ap (MoreStmts (stmt_tree one)) (row_stmts m rest)

row_elsifs : (n : _) (k : Row_of-ElsifPart n) → elsifs_of_row k ≡ elsif_trees (items-the_row-ElsifPart n k)
row_elsifs n end_of-ElsifPart = refl
row_elsifs n (more_of-ElsifPart {n = m} condition s body rest) = search (rules, row_stmts, row_elsifs m rest, statements.the_lemmas)

row_alternatives : (n : _) (k : Row_of-Alternative n) → alternatives_of_row k ≡ alternative_trees (items-the_row-Alternative n k)
row_alternatives n end_of-Alternative = refl
row_alternatives n (more_of-Alternative {n = m} place choices s body rest) = search (rules, row_stmts, row_alternatives m rest, statements.the_lemmas)

row_handlers : (n : _) (k : Row_of-Handler n) → handlers_of_row k ≡ handler_trees (items-the_row-Handler n k)
row_handlers n end_of-Handler = refl
row_handlers n (more_of-Handler {n = m} choices s body rest) = search (rules, row_stmts, row_handlers m rest, statements.the_lemmas)

pub if_tree : (place : ℕ) (condition v w x : _) → stmt_tree (statements.If place condition v w x) ≡ If place (expr_tree condition) (stmt_trees v.items) (elsif_trees w.items) (stmt_trees x.items)
if_tree place condition v w x = search (rules, row_stmts, row_elsifs, statements.the_lemmas)

pub case_tree : (place : ℕ) (value v : _) → stmt_tree (statements.Case place value v) ≡ Case place (expr_tree value) (alternative_trees v.items)
case_tree place value v = search (rules, row_alternatives, statements.the_lemmas)

pub loop_tree : (place : ℕ) (iteration v : _) → stmt_tree (statements.Loop place iteration v) ≡ Loop place (iteration_tree iteration) (stmt_trees v.items)
loop_tree place iteration v = search (rules, row_stmts, statements.the_lemmas)

pub block_tree : (place : ℕ) (declarations v w : _) → stmt_tree (statements.Block place declarations v w) ≡ Block place (map declaration_tree declarations.items) (stmt_trees v.items) (handler_trees w.items)
block_tree place declarations v w = search (rules, row_stmts, row_handlers, statements.the_lemmas)

-- ---- a name of one identifier

pub bare_more : (first : Identifier) (items : List Selector) → 0 < length items → None ≡ bare_name (Named first (selectors_of (map selector_tree items)))
bare_more first [] h = absurd (omega arith)
bare_more first (x ∷ xs) h = refl

pub statements_by_parts : StatementsByParts
statements_by_parts = record { ifs = if_tree; cases = case_tree; loops = loop_tree; blocks = block_tree }
