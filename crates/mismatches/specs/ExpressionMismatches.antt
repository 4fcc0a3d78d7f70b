-- Types that don't match in an expression (RM 4.1 to 4.7, 6.4.1; docs/LANGUAGE.md, "Rules of expressions"), in the order of the text: where rule 12 is
-- broken in it by a type that is known. Nothing is said of names that have no type.
use Rattle.std.specs.Prelude.{ℕ, suc, true, ◌&&◌, not, [], ◌++◌}
use Rattle.ada_tree.specs.declared.expression.Identifier.{Identifier}
use Rattle.ada_tree.specs.declared.expression.UnaryOperator.{UnaryOperator}
use Rattle.ada_tree.specs.declared.expression.UnaryOperator.TheVariants as unary
use Rattle.ada_tree.specs.declared.expression.BinaryOperator.{BinaryOperator}
use Rattle.ada_tree.specs.ExpressionTree.{ExprTree, Number, Named, Parenthesized, Conditional, Unary, Binary, ElsifValueTrees, NoElsifValues, MoreElsifValues, SelectorTrees, NoSelectors, MoreSelectors, SelectorTree, Arguments, ArgumentTrees, NoArguments, MoreArguments, ArgumentTree, Value, Text}
use Rattle.types.specs.declared.standing.Standing.{Standing}
use Rattle.types.specs.declared.standing.Standing.TheVariants as standing
use Rattle.types.specs.Scopes.{Scope, number_of}
use Rattle.types.specs.Standings.{select, standing_of, stands_first}
use Rattle.types.specs.Statics.{start_of}
use Rattle.expr_rules.specs.declared.names.Slot.{Slot}
use Rattle.expr_rules.specs.declared.names.Slot.TheVariants.{Expects, Takes, TakesLabel}
use Rattle.expr_rules.specs.declared.own.Own.{Own}
use Rattle.expr_rules.specs.declared.own.Own.TheVariants.{Typed}
use Rattle.expr_rules.specs.declared.own.Wanted.{Wanted}
use Rattle.expr_rules.specs.declared.own.Wanted.TheVariants.{AnyInteger, OfType}
use Rattle.expr_rules.specs.ExpressionRules.{below, beside, conditional_wanted}
use Rattle.expr_rules.specs.NameRules.{slot_at, slot_wanted}
use Rattle.expr_rules.specs.Typing.{boolean_wanted, has_binary, has_unary, is_known, own_of}
use Rattle.mismatches.specs.declared.conflict.Conflict.TheVariants.{NoVariable, Operands, Unexpected}
use Rattle.mismatches.specs.Conflicts.{Mismatches, conflict_if, unexpected}

-- ---- operators

abbrev pub operand_wanted : UnaryOperator → Wanted
operand_wanted unary.Not = boolean_wanted
operand_wanted operator = AnyInteger

abbrev pub unary_mismatch : Scope → UnaryOperator → (place : ℕ) → Own → Mismatches
unary_mismatch s operator place own = conflict_if place (Unexpected (operand_wanted operator) own) (is_known own && not (has_unary s operator own))

abbrev pub binary_mismatch : Scope → BinaryOperator → (place : ℕ) → Own → Own → Mismatches
binary_mismatch s operator place a b = conflict_if place (Operands a b) (is_known a && (is_known b && not (has_binary s operator a b)))

-- ---- arguments

-- an actual for `out` or `in out`: an object of the type that is expected
abbrev pub variable_mismatch : Scope → (place : ℕ) → Wanted → Standing → Mismatches
variable_mismatch s place wanted (standing.Part r t) = unexpected s wanted (Typed t.type_number) place
variable_mismatch s place wanted (standing.Fixed t v) = unexpected s wanted (Typed t.type_number) place
variable_mismatch s place wanted standing.Doubtful = []
variable_mismatch s place wanted w = conflict_if place NoVariable true

abbrev pub actual_mismatch : Scope → Wanted → ExprTree → Mismatches
actual_mismatch s wanted (Named first selectors) = variable_mismatch s first.place wanted (standing_of s first selectors)
actual_mismatch s wanted e = conflict_if (start_of e) NoVariable true

abbrev pub slot_mismatch : Scope → Slot → ExprTree → Own → Mismatches
slot_mismatch s (Expects wanted) e own = unexpected s wanted own (start_of e)
slot_mismatch s (Takes n) e own = actual_mismatch s (OfType n) e
slot_mismatch s TakesLabel e own = []

-- ---- expressions

abbrev mutual
  -- what is wanted counts only where the expression has no type by itself
  pub mismatches_in : Scope → Wanted → ExprTree → Mismatches
  mismatches_in s wanted (Number z place) = []
  mismatches_in s wanted (Named first selectors) = selectors_mismatches s (stands_first s (number_of s first.name)) selectors
  mismatches_in s wanted (Parenthesized place e) = mismatches_in s wanted e
  mismatches_in s wanted (Unary operator place e) = mismatches_in s (below operator wanted) e ++ unary_mismatch s operator place (own_of s e)
  mismatches_in s wanted (Binary operator a b) =
      mismatches_in s (beside s operator (own_of s b)) a ++ mismatches_in s (beside s operator (own_of s a)) b
      ++ binary_mismatch s operator (start_of a) (own_of s a) (own_of s b)
  mismatches_in s wanted (Conditional place condition value elsifs else_value) =
      (mismatches_in s boolean_wanted condition ++ unexpected s boolean_wanted (own_of s condition) (start_of condition))
      ++ (mismatches_in s (conditional_wanted s wanted value elsifs else_value) value
      ++ unexpected s (conditional_wanted s wanted value elsifs else_value) (own_of s value) (start_of value))
      ++ elsifs_mismatches s (conditional_wanted s wanted value elsifs else_value) elsifs
      ++ (mismatches_in s (conditional_wanted s wanted value elsifs else_value) else_value
      ++ unexpected s (conditional_wanted s wanted value elsifs else_value) (own_of s else_value) (start_of else_value))

  -- the conditions, and the values, of which this is wanted
  pub elsifs_mismatches : Scope → Wanted → ElsifValueTrees → Mismatches
  elsifs_mismatches s wanted NoElsifValues = []
  elsifs_mismatches s wanted (MoreElsifValues condition value rest) =
      (mismatches_in s boolean_wanted condition ++ unexpected s boolean_wanted (own_of s condition) (start_of condition))
      ++ (mismatches_in s wanted value ++ unexpected s wanted (own_of s value) (start_of value))
      ++ elsifs_mismatches s wanted rest

  -- the arguments among the parts of a name that denotes this before them
  pub selectors_mismatches : Scope → Standing → SelectorTrees → Mismatches
  selectors_mismatches s w NoSelectors = []
  selectors_mismatches s w (MoreSelectors x rest) = selector_mismatches s w x ++ selectors_mismatches s (select s w x) rest

  pub selector_mismatches : Scope → Standing → SelectorTree → Mismatches
  selector_mismatches s w (Arguments a) = arguments_mismatches s w 0 a
  selector_mismatches s w x = []

  pub arguments_mismatches : Scope → Standing → ℕ → ArgumentTrees → Mismatches
  arguments_mismatches s w k NoArguments = []
  arguments_mismatches s w k (MoreArguments a rest) = argument_mismatches s (slot_at s w k) a ++ arguments_mismatches s w (suc k) rest

  pub argument_mismatches : Scope → Slot → ArgumentTree → Mismatches
  argument_mismatches s slot (Value e) = mismatches_in s (slot_wanted slot) e ++ slot_mismatch s slot e (own_of s e)
  argument_mismatches s slot (Text label place) = []

-- an expression of which this is expected
abbrev pub mismatches_of : Scope → Wanted → ExprTree → Mismatches
mismatches_of s wanted e = mismatches_in s wanted e ++ unexpected s wanted (own_of s e) (start_of e)

abbrev pub condition_mismatches : Scope → ExprTree → Mismatches
condition_mismatches s e = mismatches_of s boolean_wanted e

-- a condition of an if expression, and the value for it
abbrev pub part_mismatches : Scope → Wanted → ExprTree → ExprTree → Mismatches
part_mismatches s wanted condition value = mismatches_of s boolean_wanted condition ++ mismatches_of s wanted value

-- a name where a statement stands on it: a call, or the target of an assignment
abbrev pub name_mismatches : Scope → Identifier → SelectorTrees → Mismatches
name_mismatches s first selectors = selectors_mismatches s (stands_first s (number_of s first.name)) selectors
