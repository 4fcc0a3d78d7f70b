-- The rules that are broken in an expression, and where (docs/LANGUAGE.md, "Rules of expressions"): 10, 12, 13 and 16, in the order of the text.
use Rattle.std.specs.Prelude.{ℕ, suc, ◌&&◌, ◌||◌, not, [], ◌++◌, Option, Some, None, if◌then◌else◌}
use Rattle.base.specs.declared.faults.TheConstants.{NAME_NOT_VISIBLE, NO_MEANING}
use Rattle.ada_tree.specs.declared.expression.Identifier.{Identifier}
use Rattle.ada_tree.specs.declared.expression.UnaryOperator.{UnaryOperator}
use Rattle.ada_tree.specs.declared.expression.UnaryOperator.TheVariants as unary
use Rattle.ada_tree.specs.declared.expression.BinaryOperator.{BinaryOperator}
use Rattle.ada_tree.specs.ExpressionTree.{ExprTree, Number, Named, Parenthesized, Conditional, Unary, Binary, ElsifValueTrees, NoElsifValues, MoreElsifValues, SelectorTrees, NoSelectors, MoreSelectors, SelectorTree, Component, Arguments, Attribute, ArgumentTrees, NoArguments, MoreArguments, ArgumentTree, Value, Text}
use Rattle.types.specs.declared.standing.Standing.{Standing}
use Rattle.types.specs.Scopes.{Scope, form_at, number_of, is_visible}
use Rattle.types.specs.Standings.{standing_of, stands_first, select}
use Rattle.types.specs.Statics.{start_of}
use Rattle.expr_rules.specs.declared.own.Own.{Own}
use Rattle.expr_rules.specs.declared.own.Own.TheVariants.{Unknown, Typed}
use Rattle.expr_rules.specs.declared.own.Wanted.{Wanted}
use Rattle.expr_rules.specs.declared.own.Wanted.TheVariants.{Anything, OfType}
use Rattle.expr_rules.specs.declared.names.Slot.{Slot}
use Rattle.expr_rules.specs.Faults.{Faults, rule}
use Rattle.expr_rules.specs.Typing.{own_of, elsif_own_of, join, is_integers, is_known, is_logical, is_relation, has_unary, has_binary, typed_wanted, boolean_wanted}
use Rattle.expr_rules.specs.NameRules.{mismatch, value_rule, call_rule, variable_rule, part_rule, end_rule, slot_at, slot_wanted, slot_rule, label_rule}

-- ---- operators

-- 12, at the start of the operation: an operator without meaning for operands of these types; it is not judged beside a type that is not known
abbrev pub unary_rule : Scope → UnaryOperator → (place : ℕ) → Own → Faults
unary_rule s operator place own = rule NO_MEANING place (is_known own && not (has_unary s operator own))

abbrev pub binary_rule : Scope → BinaryOperator → (place : ℕ) → Own → Own → Faults
binary_rule s operator place a b = rule NO_MEANING place (is_known a && (is_known b && not (has_binary s operator a b)))

-- what is expected of an operand where it has no type by itself: of that of `not`, of one beside another one
abbrev pub below : UnaryOperator → Wanted → Wanted
below unary.Not wanted = boolean_wanted
below operator wanted = wanted

abbrev pub beside_typed : Scope → BinaryOperator → Own → Wanted
beside_typed s operator (Typed n) = if is_relation operator || is_integers (form_at s n) then OfType n else Anything
beside_typed s operator own = Anything

abbrev pub beside : Scope → BinaryOperator → Own → Wanted
beside s operator own = if is_logical operator then boolean_wanted else beside_typed s operator own

-- ---- if expressions (RM 4.5.7)

abbrev pub or_first : Own → Own → Own
or_first (Typed n) b = Typed n
or_first a b = b

-- the first part that has a type by itself
abbrev pub first_typed : Scope → ElsifValueTrees → Own → Own
first_typed s NoElsifValues last = last
first_typed s (MoreElsifValues condition value rest) last = or_first (own_of s value) (first_typed s rest last)

-- What is expected of the parts: nothing where they agree (the whole is judged then), else the type that is expected of the whole, else that of the first part
-- that has one.
abbrev pub parts_wanted : Own → Wanted → Own → Wanted
parts_wanted Unknown (OfType n) first = OfType n
parts_wanted Unknown wanted first = typed_wanted first
parts_wanted own wanted first = Anything

-- the one type of all parts
abbrev pub parts_own : Scope → (value : ExprTree) → ElsifValueTrees → (else_value : ExprTree) → Own
parts_own s value elsifs else_value = join s (elsif_own_of s (own_of s value) elsifs) (own_of s else_value)

abbrev pub conditional_wanted : Scope → Wanted → (value : ExprTree) → ElsifValueTrees → (else_value : ExprTree) → Wanted
conditional_wanted s wanted value elsifs else_value =
    parts_wanted (parts_own s value elsifs else_value) wanted (or_first (own_of s value) (first_typed s elsifs (own_of s else_value)))

-- ---- all rules in an expression

abbrev mutual
  -- what is broken in an expression; what is wanted counts only where it has no type by itself
  pub faults_in : Scope → Wanted → ExprTree → Faults
  faults_in s wanted (Number z place) = []
  faults_in s wanted (Named first selectors) =
      rule NAME_NOT_VISIBLE first.place (not (is_visible s first.name))
      ++ selectors_faults s first.place (stands_first s (number_of s first.name)) selectors
      ++ value_rule first.place (standing_of s first selectors)
  faults_in s wanted (Parenthesized place e) = faults_in s wanted e
  faults_in s wanted (Unary operator place e) = faults_in s (below operator wanted) e ++ unary_rule s operator place (own_of s e)
  faults_in s wanted (Binary operator a b) =
      faults_in s (beside s operator (own_of s b)) a ++ faults_in s (beside s operator (own_of s a)) b
      ++ binary_rule s operator (start_of a) (own_of s a) (own_of s b)
  faults_in s wanted (Conditional place condition value elsifs else_value) =
      (faults_in s boolean_wanted condition ++ mismatch s boolean_wanted (own_of s condition) (start_of condition))
      ++ (faults_in s (conditional_wanted s wanted value elsifs else_value) value
      ++ mismatch s (conditional_wanted s wanted value elsifs else_value) (own_of s value) (start_of value))
      ++ elsif_faults s (conditional_wanted s wanted value elsifs else_value) elsifs
      ++ (faults_in s (conditional_wanted s wanted value elsifs else_value) else_value
      ++ mismatch s (conditional_wanted s wanted value elsifs else_value) (own_of s else_value) (start_of else_value))

  pub elsif_faults : Scope → Wanted → ElsifValueTrees → Faults
  elsif_faults s wanted NoElsifValues = []
  elsif_faults s wanted (MoreElsifValues condition value rest) =
      (faults_in s boolean_wanted condition ++ mismatch s boolean_wanted (own_of s condition) (start_of condition))
      ++ (faults_in s wanted value ++ mismatch s wanted (own_of s value) (start_of value))
      ++ elsif_faults s wanted rest

  -- the parts of a name behind what this stands for; the place is that of the name
  pub selectors_faults : Scope → (place : ℕ) → Standing → SelectorTrees → Faults
  selectors_faults s place w NoSelectors = end_rule s place w
  selectors_faults s place w (MoreSelectors x rest) = selector_faults s place w x ++ selectors_faults s place (select s w x) rest

  pub selector_faults : Scope → (place : ℕ) → Standing → SelectorTree → Faults
  selector_faults s place w (Component name) = part_rule s place w (Component name)
  selector_faults s place w (Arguments a) = part_rule s place w (Arguments a) ++ arguments_faults s w 0 a
  selector_faults s place w (Attribute name) = part_rule s place w (Attribute name)

  pub arguments_faults : Scope → Standing → ℕ → ArgumentTrees → Faults
  arguments_faults s w k NoArguments = []
  arguments_faults s w k (MoreArguments a rest) = argument_faults s (slot_at s w k) a ++ arguments_faults s w (suc k) rest

  pub argument_faults : Scope → Slot → ArgumentTree → Faults
  argument_faults s slot (Value e) = faults_in s (slot_wanted slot) e ++ slot_rule s slot e (own_of s e)
  argument_faults s slot (Text label place) = label_rule slot place

-- what is broken in an expression of which this is expected
abbrev pub faults_of : Scope → Wanted → ExprTree → Faults
faults_of s wanted e = faults_in s wanted e ++ mismatch s wanted (own_of s e) (start_of e)

-- a condition of an if expression, and the value for it
abbrev pub part_faults : Scope → Wanted → ExprTree → ExprTree → Faults
part_faults s wanted condition value = faults_of s boolean_wanted condition ++ faults_of s wanted value

-- ---- names where a statement stands on them

-- what is broken in a name, whatever it is to stand for
abbrev pub name_faults : Scope → Identifier → SelectorTrees → Faults
name_faults s first selectors = rule NAME_NOT_VISIBLE first.place (not (is_visible s first.name))
    ++ selectors_faults s first.place (stands_first s (number_of s first.name)) selectors

-- a call of a procedure or entry, or of Put (RM 6.4, 9.5.3)
abbrev pub call_faults : Scope → Identifier → SelectorTrees → Faults
call_faults s first selectors = name_faults s first selectors ++ call_rule first.place (standing_of s first selectors)

-- the target of an assignment (RM 5.2)
abbrev pub target_faults : Scope → Identifier → SelectorTrees → Faults
target_faults s first selectors = name_faults s first selectors ++ variable_rule s first.place Anything (standing_of s first selectors)

-- the expectation of `check_expr`: a type by its number, or nothing
abbrev pub wanted_of : Option ℕ → Wanted
wanted_of (Some n) = OfType n
wanted_of None = Anything
