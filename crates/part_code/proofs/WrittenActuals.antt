-- The actual parameters behind a name.
use Rattle.std.proofs.Common.{◌≡◌, ◌≤◌, List, [], ◌∷◌, length, Some, None, refl, arith}
use Rattle.ada_tree.specs.declared.expression.Selector.{Selector}
use Rattle.ada_tree.specs.declared.expression.Selector as selectors
use Rattle.ada_tree.specs.ExpressionTree.{ArgumentTrees, Arguments, Attribute, Component, MoreSelectors, SelectorTrees, selector_trees, SelectorTree, selector_tree}
use Rattle.part_code.specs.Passing.{actuals_behind, operation_behind}

-- ---- the form

pub many_selectors : (all : List Selector) → 2 ≤ length all → None ≡ actuals_behind (selector_trees all)
many_selectors [] le = absurd (omega (arith, le))
many_selectors (a ∷ []) le = absurd (omega (arith, le))
many_selectors (selectors.Component i ∷ b ∷ rest) le = refl
many_selectors (selectors.Attribute i ∷ b ∷ rest) le = refl
many_selectors (selectors.Arguments' shape row ∷ b ∷ rest) le = refl

pub same_some : (a x : ArgumentTrees) → Some a ≡ Some x → a ≡ x
same_some a x h = cc

-- ---- operations of protected objects

pub many_operations : (all : List Selector) → 3 ≤ length all → None ≡ operation_behind (selector_trees all)
many_operations [] more = absurd (omega (arith, more))
many_operations (x ∷ []) more = absurd (omega (arith, more))
many_operations (x ∷ y ∷ []) more = absurd (omega (arith, more))
many_operations (x ∷ y ∷ z ∷ all) more = three (selector_tree x) (selector_tree y) (selector_tree z) (selector_trees all)
  where
    three : (a b c : SelectorTree) (rest : SelectorTrees) → None ≡ operation_behind (MoreSelectors a (MoreSelectors b (MoreSelectors c rest)))
    three (Component x) (Component y) c rest = refl
    three (Component x) (Arguments y) c rest = refl
    three (Component x) (Attribute y) c rest = refl
    three (Arguments x) b c rest = refl
    three (Attribute x) b c rest = refl
