-- What no call with one expression is: several arguments, several parts of a name, a chain of operators.
use Rattle.std.proofs.Common.{◌≡◌, ◌≤◌, List, [], ◌∷◌, length, None, refl, arith}
use Rattle.std.proofs.lemmas.Grind.{common_steps}
use Rattle.ada_tree.specs.declared.expression.Argument.{Argument}
use Rattle.ada_tree.specs.declared.expression.BinaryOperator.{BinaryOperator}
use Rattle.ada_tree.specs.declared.expression.Operand.{Operand}
use Rattle.ada_tree.specs.declared.expression.Selector.{Selector}
use Rattle.ada_tree.specs.ExpressionTree.{Arguments, ArgumentTree, ArgumentTrees, Attribute, Binary, Component, ExprTree, MoreArguments, MoreSelectors, SelectorTree, SelectorTrees, Text, Value, argument_tree, argument_trees, chain_tree, expr_tree, selector_tree, selector_trees}
use Rattle.types.specs.Scopes.{Scope}
use Rattle.type_rules.specs.ObjectRules.{single_argument, single_expression, span_call}

two_arguments : (a b : ArgumentTree) (rest : ArgumentTrees) → None ≡ single_expression (MoreArguments a (MoreArguments b rest))
two_arguments (Value e) b rest = refl
two_arguments (Text label place) b rest = refl

pub several_arguments : (xs : List Argument) → 2 ≤ length xs → None ≡ single_expression (argument_trees xs)
several_arguments [] h = absurd (grind (arith, h))
several_arguments (x ∷ []) h = absurd (grind (arith, common_steps, h))
several_arguments (x ∷ y ∷ rest) h = two_arguments (argument_tree x) (argument_tree y) (argument_trees rest)

two_selectors : (a b : SelectorTree) (rest : SelectorTrees) → None ≡ single_argument (MoreSelectors a (MoreSelectors b rest))
two_selectors (Component name) b rest = refl
two_selectors (Arguments a) b rest = refl
two_selectors (Attribute name) b rest = refl

pub several_selectors : (xs : List Selector) → 2 ≤ length xs → None ≡ single_argument (selector_trees xs)
several_selectors [] h = absurd (grind (arith, h))
several_selectors (x ∷ []) h = absurd (grind (arith, common_steps, h))
several_selectors (x ∷ y ∷ rest) h = two_selectors (selector_tree x) (selector_tree y) (selector_trees rest)

pub chain_is_no_call : (s : Scope) (operator : BinaryOperator) (a b : ExprTree) (operands : List Operand) → span_call s (chain_tree (Binary operator a b) operands) ≡ None
chain_is_no_call s operator a b [] = refl
chain_is_no_call s operator a b (o ∷ rest) = chain_is_no_call s o.operator (Binary operator a b) (expr_tree o.value) rest
