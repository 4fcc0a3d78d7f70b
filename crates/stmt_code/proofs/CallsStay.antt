-- Calls of procedures stay within bounds, and add no labels.
use Rattle.std.proofs.Common.{◌≡◌, Some, None, refl}
use Rattle.ada_tree.specs.ExpressionTree.{Arguments, Component, MoreSelectors, NoSelectors, SelectorTrees}
use Rattle.part_code.specs.Lines.{line_behind}
use Rattle.part_code.specs.Passing.{ExternalName, operation_behind}

-- no line is written where an operation is named
pub no_line_behind : (path : SelectorTrees) (x : ExternalName) → operation_behind path ≡ Some x → line_behind path ≡ None
no_line_behind (MoreSelectors (Component y) NoSelectors) x h = refl
no_line_behind (MoreSelectors (Component y) (MoreSelectors (Arguments a) NoSelectors)) x h = refl
no_line_behind path x h = cc
