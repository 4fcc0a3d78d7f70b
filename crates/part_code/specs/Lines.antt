-- The form of a line's statement: `Put ("label", value)`.
use Rattle.std.specs.Prelude.{ℕ, Bool, true, false, List, Option, Some, None}
use Rattle.ada_tree.specs.ExpressionTree.{ArgumentTrees, Arguments, ExprTree, MoreArguments, MoreSelectors, NameTree, NoArguments, NoSelectors, SelectorTrees, Text, Value}
use Rattle.types.specs.Entities.{Entity, Put}

abbrev pub is_put : Option Entity → Bool
is_put (Some Put) = true
is_put e = false

-- a label and the value behind it
pub record LabelledValue : Type 0 where
  pub label : List ℕ
  pub value : ExprTree

abbrev pub line_in : ArgumentTrees → Option LabelledValue
line_in (MoreArguments (Text label at) (MoreArguments (Value e) NoArguments)) = Some (record { label = label; value = e })
line_in a = None

abbrev pub line_behind : SelectorTrees → Option LabelledValue
line_behind (MoreSelectors (Arguments a) NoSelectors) = line_in a
line_behind s = None

abbrev pub line_of : NameTree → Option LabelledValue
line_of name = line_behind name.selectors
