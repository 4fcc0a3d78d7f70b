-- Expressions for worked examples, without places.
use Rattle.std.proofs.Common.{ℕ, List, [], ◌∷◌}
use Rattle.std.specs.Prelude.{pos}
use Rattle.ada_tree.specs.declared.expression.Identifier.{Identifier}
use Rattle.ada_tree.specs.declared.expression.UnaryOperator.{UnaryOperator}
use Rattle.ada_tree.specs.declared.expression.UnaryOperator.TheVariants as unary
use Rattle.ada_tree.specs.declared.expression.BinaryOperator.{BinaryOperator}
use Rattle.ada_tree.specs.ExpressionTree.{ExprTree, Number, Named, Parenthesized, Conditional, Unary, Binary, NoElsifValues, MoreElsifValues, SelectorTree, selectors_of, Component, Arguments, Attribute, Value, arguments_of}

abbrev pub identifier : List ℕ → Identifier
identifier text = record { name = text; place = 0 }

abbrev pub num : ℕ → ExprTree
num n = Number (pos n) 0

abbrev pub one : UnaryOperator → ExprTree → ExprTree
one operator e = Unary operator 0 e

abbrev pub minus : ExprTree → ExprTree
minus e = one unary.Minus e

abbrev pub two : BinaryOperator → ExprTree → ExprTree → ExprTree
two operator a b = Binary operator a b

abbrev pub grouped : ExprTree → ExprTree
grouped e = Parenthesized 0 e

-- `(if c then a else b)`, and with an elsif part
abbrev pub if_then : ExprTree → ExprTree → ExprTree → ExprTree
if_then c a b = Conditional 0 c a NoElsifValues b

abbrev pub if_elsif : ExprTree → ExprTree → ExprTree → ExprTree → ExprTree → ExprTree
if_elsif c a d b other = Conditional 0 c a (MoreElsifValues d b NoElsifValues) other

abbrev pub name : List ℕ → ExprTree
name text = Named (identifier text) (selectors_of [])

abbrev pub name_of : List ℕ → List SelectorTree → ExprTree
name_of text selectors = Named (identifier text) (selectors_of selectors)

abbrev pub at : ExprTree → SelectorTree
at e = Arguments (arguments_of (Value e ∷ []))

abbrev pub at_both : ExprTree → ExprTree → SelectorTree
at_both e f = Arguments (arguments_of (Value e ∷ Value f ∷ []))

abbrev pub dot : List ℕ → SelectorTree
dot text = Component (identifier text)

abbrev pub tick : List ℕ → SelectorTree
tick text = Attribute (identifier text)
