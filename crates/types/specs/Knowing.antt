-- What is found of a static expression in one walk: its form, and its value where it is static. Serves the proof of `static_value`.
use Rattle.std.specs.Prelude.{true, false, List, [], ◌∷◌, Some}
use Rattle.base.specs.Exceptions.{number_of}
use Rattle.ada_tree.specs.declared.expression.BinaryOperator.{BinaryOperator}
use Rattle.ada_tree.specs.declared.expression.Operand.{Operand}
use Rattle.ada_tree.specs.ExpressionTree.{ExprTree, expr_tree}
use Rattle.types.specs.declared.evaluation.Evaluation.{Evaluation}
use Rattle.types.specs.declared.evaluation.Evaluation.TheVariants as evaluation
use Rattle.types.specs.declared.statics.StaticForm.{StaticForm}
use Rattle.types.specs.declared.statics.StaticForm.TheVariants as form
use Rattle.types.specs.declared.statics.Known.{Known}
use Rattle.types.specs.declared.statics.Known.TheVariants as known
use Rattle.types.specs.declared.standing.Standing.{Standing}
use Rattle.types.specs.declared.standing.Standing.TheVariants as standing
use Rattle.types.specs.Scopes.{Scope}
use Rattle.types.specs.Values.{Value, Number, value_of}
use Rattle.types.specs.Evaluations.{Val, Gives, Raises, Meaningless, and_then}
use Rattle.types.specs.Operators.{binary_value, is_decided}
use Rattle.types.specs.Statics.{static_form, static_value}

-- what a scalar evaluation comes to
abbrev pub evaluation_value : Evaluation → Val Value
evaluation_value (evaluation.Gives v) = Gives (value_of v)
evaluation_value (evaluation.Raises x) = Raises (number_of x)
evaluation_value evaluation.Meaningless = Meaningless

pub data Finding : Type 0 where
  IsStatic : Val Value → Finding
  IsNotStatic : Finding
  IsDoubtful : Finding

abbrev pub finding : Known → Finding
finding (known.Static e) = IsStatic (evaluation_value e)
finding known.NotStatic = IsNotStatic
finding known.Doubtful = IsDoubtful

abbrev pub found_by : StaticForm → Val Value → Finding
found_by form.Static v = IsStatic v
found_by form.NotStatic v = IsNotStatic
found_by form.Doubtful v = IsDoubtful

abbrev pub found : Scope → ExprTree → Finding
found s e = found_by (static_form s e) (static_value s e)

-- ---- by parts

abbrev pub name_found : Standing → Finding
name_found (standing.Fixed t (Some v)) = IsStatic (Gives (value_of v))
name_found (standing.Given t (Some v)) = IsStatic (Gives (value_of v))
name_found (standing.Plain z) = IsStatic (Gives (Number z))
name_found standing.Doubtful = IsDoubtful
name_found w = IsNotStatic

abbrev pub mapped : (Val Value → Val Value) → Finding → Finding
mapped f (IsStatic v) = IsStatic (f v)
mapped f x = x

abbrev pub operation_value : BinaryOperator → Val Value → Val Value → Val Value
operation_value operator a b = and_then a (λ v. elim (is_decided operator v) [ true ↦ Gives v | false ↦ and_then b (binary_value operator v) ])

abbrev pub combined : BinaryOperator → Finding → Finding → Finding
combined operator (IsStatic a) (IsStatic b) = IsStatic (operation_value operator a b)
combined operator (IsStatic a) y = y
combined operator IsNotStatic y = IsNotStatic
combined operator IsDoubtful IsNotStatic = IsNotStatic
combined operator IsDoubtful y = IsDoubtful

-- what operators and the operands behind them make of what is found of all before them
abbrev pub found_after : Scope → Finding → List Operand → Finding
found_after s x [] = x
found_after s x (o ∷ rest) = found_after s (combined o.operator x (found s (expr_tree o.value))) rest
