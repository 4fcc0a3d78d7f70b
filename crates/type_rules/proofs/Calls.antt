-- Calls of one argument.
use Rattle.std.proofs.Common.{◌≡◌, ◌≤◌, List, [], ◌∷◌, length, Option, Some, None, refl, arith}
use Rattle.std.proofs.lemmas.Grind.{common_steps}
use Rattle.ada_tree.specs.declared.expression.BinaryOperator.{BinaryOperator}
use Rattle.ada_tree.specs.declared.expression.Argument.{Argument}
use Rattle.ada_tree.specs.declared.expression.Selector.{Selector}
use Rattle.ada_tree.specs.declared.expression.Operand.{Operand}
use Rattle.ada_tree.specs.ExpressionTree.{ExprTree, Binary, ArgumentTree, ArgumentTrees, MoreArguments, Value, Text, SelectorTree, SelectorTrees, MoreSelectors, Component, Arguments, Attribute, argument_tree, argument_trees, selector_tree, selector_trees, chain_tree, expr_tree}
use Rattle.std.specs.Prelude.{option_map}
use Rattle.lexer.specs.declared.fault.Fault.{Fault}
use Rattle.types.specs.declared.entity.Value.{Value as Scalar}
use Rattle.types.specs.declared.entity.Value.TheVariants as scalar
use Rattle.types.specs.Scopes.{Scope}
use Rattle.types.specs.Values.{value_of}
use Rattle.expr_rules.specs.Faults.{Faults, LeastIsLeast, least}
use Rattle.type_rules.specs.ObjectRules.{known_scalar, scalar_if_unbroken, single_argument, single_expression, span_call}

two_arguments : (a b : ArgumentTree) (rest : ArgumentTrees) → None ≡ single_expression (MoreArguments a (MoreArguments b rest))
two_arguments (Value e) b rest = refl
two_arguments (Text label place) b rest = refl

pub several_arguments : (xs : List Argument) → 2 ≤ length xs → None ≡ single_expression (argument_trees xs)
several_arguments [] h = absurd (grind (arith, h))
several_arguments (x ∷ []) h = absurd (grind (arith, common_steps, h))
several_arguments (x ∷ y ∷ rest) h = two_arguments (argument_tree x) (argument_tree y) (argument_trees rest)

two_selectors : (a b : SelectorTree) (rest : SelectorTrees) → None ≡ single_argument (MoreSelectors a (MoreSelectors b rest))
two_selectors (Component name) b rest = refl
two_selectors (Arguments a) b rest = refl
two_selectors (Attribute name) b rest = refl

pub several_selectors : (xs : List Selector) → 2 ≤ length xs → None ≡ single_argument (selector_trees xs)
several_selectors [] h = absurd (grind (arith, h))
several_selectors (x ∷ []) h = absurd (grind (arith, common_steps, h))
several_selectors (x ∷ y ∷ rest) h = two_selectors (selector_tree x) (selector_tree y) (selector_trees rest)

pub chain_is_no_call : (s : Scope) (operator : BinaryOperator) (a b : ExprTree) (operands : List Operand) → span_call s (chain_tree (Binary operator a b) operands) ≡ None
chain_is_no_call s operator a b [] = refl
chain_is_no_call s operator a b (o ∷ rest) = chain_is_no_call s o.operator (Binary operator a b) (expr_tree o.value) rest

pub known_back : (r : Option Scalar) → known_scalar (option_map value_of r) ≡ r
known_back None = refl
known_back (Some (scalar.Number z)) = refl
known_back (Some (scalar.Truth b)) = refl

pub value_unbroken : LeastIsLeast → (fs : Faults) (v w : Option Scalar) → None ≡ least fs → v ≡ w → v ≡ scalar_if_unbroken fs w
value_unbroken is_least [] v w none h = h
value_unbroken is_least (f ∷ fs) v w none h = absurd (cons_is_some f fs none)
  where
    cons_is_some : (f : Fault) (fs : Faults) → None ≡ least (f ∷ fs) → ⊥
    cons_is_some f fs e = let empty : (f ∷ fs) ≡ [] = is_least.none (f ∷ fs) e in cc

pub value_broken : (fs : Faults) (f : Fault) (w : Option Scalar) → Some f ≡ least fs → None ≡ scalar_if_unbroken fs w
value_broken [] f w h = cc
value_broken (g ∷ fs) f w h = refl
