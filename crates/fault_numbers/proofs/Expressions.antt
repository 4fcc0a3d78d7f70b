-- What expressions break has numbers from 10 to 23.
use Rattle.std.proofs.Common.{ℕ, suc, refl, true, [], ◌∷◌, Option, Some, None}
use Rattle.base.specs.declared.faults.TheConstants.{NAME_NOT_VISIBLE, NO_MEANING, NOT_A_VARIABLE, NOT_STATIC, WRONG_ARGUMENT_COUNT, WRONG_STATIC_VALUE}
use Rattle.ada_tree.specs.declared.expression.Identifier.{Identifier}
use Rattle.ada_tree.specs.declared.expression.UnaryOperator.{UnaryOperator}
use Rattle.ada_tree.specs.declared.expression.BinaryOperator.{BinaryOperator}
use Rattle.ada_tree.specs.ExpressionTree.{ExprTree, Number, Named, Parenthesized, Conditional, Unary, Binary, ElsifValueTrees, NoElsifValues, MoreElsifValues, SelectorTrees, NoSelectors, MoreSelectors, SelectorTree, Component, Arguments, Attribute, ArgumentTrees, NoArguments, MoreArguments, ArgumentTree, Value, Text}
use Rattle.types.specs.declared.entity.Subtype.{Subtype}
use Rattle.types.specs.declared.standing.Standing.{Standing}
use Rattle.types.specs.declared.standing.Standing.TheVariants as standing
use Rattle.types.specs.declared.statics.StaticForm.{StaticForm}
use Rattle.types.specs.declared.statics.StaticForm.TheVariants.{Static, NotStatic}
use Rattle.types.specs.Entities.{TypeForm, Records, ProtectedObject}
use Rattle.types.specs.Evaluations.{Val, Gives, Raises}
use Rattle.types.specs.Scopes.{Scope, form_at, number_of, protected_at}
use Rattle.types.specs.Standings.{select, standing_of, stands_first}
use Rattle.types.specs.Statics.{start_of, static_form, static_value}
use Rattle.types.specs.Values as values
use Rattle.expr_rules.specs.declared.own.Own.{Own}
use Rattle.expr_rules.specs.declared.own.Own.TheVariants.{Typed}
use Rattle.expr_rules.specs.declared.own.Wanted.{Wanted}
use Rattle.expr_rules.specs.declared.own.Wanted.TheVariants.{Anything, OfType}
use Rattle.expr_rules.specs.declared.names.Slot.{Slot}
use Rattle.expr_rules.specs.declared.names.Slot.TheVariants.{Expects, Takes, TakesLabel}
use Rattle.expr_rules.specs.Faults.{Faults}
use Rattle.expr_rules.specs.Typing.{boolean_wanted, own_of}
use Rattle.expr_rules.specs.NameRules.{actual_rule, call_rule, component_rule, count_rule, end_rule, is_doubtful, label_rule, mismatch, operation_rule, part_rule, slot_at, slot_rule, slot_wanted, value_rule, variable_rule}
use Rattle.expr_rules.specs.StaticRules as static
use Rattle.expr_rules.specs.StaticRules.{form_rule, if_unbroken, static_faults}
use Rattle.expr_rules.specs.ExpressionRules.{argument_faults, arguments_faults, below, beside, binary_rule, call_faults, conditional_wanted, elsif_faults, faults_in, faults_of, name_faults, selector_faults, selectors_faults, target_faults, unary_rule}
use Rattle.fault_numbers.proofs.Ranges.{Legality, ◌⊕◌, asked, none}

-- ---- names and their parts

pub of_mismatch : (s : Scope) (w : Wanted) (own : Own) (place : ℕ) → Legality (mismatch s w own place)
of_mismatch s w own place = asked NO_MEANING place _ refl

of_value : (place : ℕ) (w : Standing) → Legality (value_rule place w)
of_value place standing.Statement = asked NO_MEANING place true refl
of_value place standing.Other = asked NO_MEANING place true refl
of_value place w = none

of_called : (place : ℕ) (w : Standing) → Legality (call_rule place w)
of_called place standing.Statement = none
of_called place standing.Doubtful = none
of_called place w = asked NO_MEANING place true refl

of_variable : (s : Scope) (place : ℕ) (wanted : Wanted) (w : Standing) → Legality (variable_rule s place wanted w)
of_variable s place wanted (standing.Part r t) = of_mismatch s wanted (Typed t.type_number) place ⊕ asked NOT_A_VARIABLE place _ refl
of_variable s place wanted (standing.Fixed t v) = of_mismatch s wanted (Typed t.type_number) place ⊕ asked NOT_A_VARIABLE place true refl
of_variable s place wanted standing.Doubtful = none
of_variable s place wanted w = asked NO_MEANING place true refl

of_actual : (s : Scope) (wanted : Wanted) (e : ExprTree) → Legality (actual_rule s wanted e)
of_actual s wanted (Named first selectors) = of_variable s first.place wanted (standing_of s first selectors)
of_actual s wanted e = asked NO_MEANING (start_of e) true refl

of_component : (place : ℕ) (name : Identifier) (form : Option TypeForm) → Legality (component_rule place name form)
of_component place name (Some (Records components)) = asked NAME_NOT_VISIBLE name.place _ refl
of_component place name form = asked NO_MEANING place true refl

of_operation : (name : Identifier) (object : Option ProtectedObject) → Legality (operation_rule name object)
of_operation name (Some p) = asked NAME_NOT_VISIBLE name.place _ refl
of_operation name None = asked NAME_NOT_VISIBLE name.place true refl

of_count : (place actuals formals : ℕ) → Legality (count_rule place actuals formals)
of_count place actuals formals = asked WRONG_ARGUMENT_COUNT place _ refl

of_part : (s : Scope) (place : ℕ) (w : Standing) (x : SelectorTree) → Legality (part_rule s place w x)
of_part s place standing.Doubtful x = none
of_part s place (standing.Part r t) (Component name) = of_component place name (form_at s t.type_number)
of_part s place (standing.Fixed t v) (Component name) = of_component place name (form_at s t.type_number)
of_part s place (standing.Protected n) (Component name) = of_operation name (protected_at s n)
of_part s place standing.Task (Component name) = asked NAME_NOT_VISIBLE name.place true refl
of_part s place (standing.Callee f) (Arguments a) = of_count place _ _
of_part s place standing.Put (Arguments a) = of_count place _ 2
of_part s place w x = asked NO_MEANING place (is_doubtful (select s w x)) refl

of_end : (s : Scope) (place : ℕ) (w : Standing) → Legality (end_rule s place w)
of_end s place (standing.Callee f) = of_count place 0 _
of_end s place standing.Put = of_count place 0 2
of_end s place w = none

of_slot : (s : Scope) (slot : Slot) (e : ExprTree) (own : Own) → Legality (slot_rule s slot e own)
of_slot s (Expects wanted) e own = of_mismatch s wanted own (start_of e)
of_slot s (Takes n) e own = of_actual s (OfType n) e
of_slot s TakesLabel e own = asked NO_MEANING (start_of e) true refl

of_label : (slot : Slot) (place : ℕ) → Legality (label_rule slot place)
of_label TakesLabel place = none
of_label slot place = asked NO_MEANING place true refl

-- ---- operators

of_unary : (s : Scope) (operator : UnaryOperator) (place : ℕ) (own : Own) → Legality (unary_rule s operator place own)
of_unary s operator place own = asked NO_MEANING place _ refl

of_binary : (s : Scope) (operator : BinaryOperator) (place : ℕ) (a b : Own) → Legality (binary_rule s operator place a b)
of_binary s operator place a b = asked NO_MEANING place _ refl

-- ---- all rules in an expression

mutual
  of_inside : (s : Scope) (w : Wanted) (e : ExprTree) → Legality (faults_in s w e)
  of_inside s w (Number z place) = none
  of_inside s w (Named first selectors) =
      asked NAME_NOT_VISIBLE first.place _ refl
      ⊕ of_selectors s first.place (stands_first s (number_of s first.name)) selectors
      ⊕ of_value first.place (standing_of s first selectors)
  of_inside s w (Parenthesized place e) = of_inside s w e
  of_inside s w (Unary operator place e) = of_inside s (below operator w) e ⊕ of_unary s operator place (own_of s e)
  of_inside s w (Binary operator a b) =
      of_inside s (beside s operator (own_of s b)) a
      ⊕ of_inside s (beside s operator (own_of s a)) b
      ⊕ of_binary s operator (start_of a) (own_of s a) (own_of s b)
  of_inside s w (Conditional place condition value elsifs else_value) =
      let wanted = conditional_wanted s w value elsifs else_value in
      (of_inside s boolean_wanted condition ⊕ of_mismatch s boolean_wanted (own_of s condition) (start_of condition))
      ⊕ (of_inside s wanted value ⊕ of_mismatch s wanted (own_of s value) (start_of value))
      ⊕ of_elsifs s wanted elsifs
      ⊕ (of_inside s wanted else_value ⊕ of_mismatch s wanted (own_of s else_value) (start_of else_value))

  of_elsifs : (s : Scope) (w : Wanted) (elsifs : ElsifValueTrees) → Legality (elsif_faults s w elsifs)
  of_elsifs s w NoElsifValues = none
  of_elsifs s w (MoreElsifValues condition value rest) =
      (of_inside s boolean_wanted condition ⊕ of_mismatch s boolean_wanted (own_of s condition) (start_of condition))
      ⊕ (of_inside s w value ⊕ of_mismatch s w (own_of s value) (start_of value))
      ⊕ of_elsifs s w rest

  of_selectors : (s : Scope) (place : ℕ) (w : Standing) (selectors : SelectorTrees) → Legality (selectors_faults s place w selectors)
  of_selectors s place w NoSelectors = of_end s place w
  of_selectors s place w (MoreSelectors x rest) = of_selector s place w x ⊕ of_selectors s place (select s w x) rest

  of_selector : (s : Scope) (place : ℕ) (w : Standing) (x : SelectorTree) → Legality (selector_faults s place w x)
  of_selector s place w (Component name) = of_part s place w (Component name)
  of_selector s place w (Arguments a) = of_part s place w (Arguments a) ⊕ of_arguments s w 0 a
  of_selector s place w (Attribute name) = of_part s place w (Attribute name)

  of_arguments : (s : Scope) (w : Standing) (k : ℕ) (a : ArgumentTrees) → Legality (arguments_faults s w k a)
  of_arguments s w k NoArguments = none
  of_arguments s w k (MoreArguments a rest) = of_argument s (slot_at s w k) a ⊕ of_arguments s w (suc k) rest

  of_argument : (s : Scope) (slot : Slot) (a : ArgumentTree) → Legality (argument_faults s slot a)
  of_argument s slot (Value e) = of_inside s (slot_wanted slot) e ⊕ of_slot s slot e (own_of s e)
  of_argument s slot (Text label place) = of_label slot place

pub of_expression : (s : Scope) (w : Wanted) (e : ExprTree) → Legality (faults_of s w e)
of_expression s w e = of_inside s w e ⊕ of_mismatch s w (own_of s e) (start_of e)

-- ---- names where a statement stands on them

of_name : (s : Scope) (first : Identifier) (selectors : SelectorTrees) → Legality (name_faults s first selectors)
of_name s first selectors = asked NAME_NOT_VISIBLE first.place _ refl ⊕ of_selectors s first.place (stands_first s (number_of s first.name)) selectors

pub of_call : (s : Scope) (first : Identifier) (selectors : SelectorTrees) → Legality (call_faults s first selectors)
of_call s first selectors = of_name s first selectors ⊕ of_called first.place (standing_of s first selectors)

pub of_target : (s : Scope) (first : Identifier) (selectors : SelectorTrees) → Legality (target_faults s first selectors)
of_target s first selectors = of_name s first selectors ⊕ of_variable s first.place Anything (standing_of s first selectors)

-- ---- static expressions

pub of_form : (place : ℕ) (form : StaticForm) → Legality (form_rule place form)
of_form place NotStatic = asked NOT_STATIC place true refl
of_form place form = none

pub of_static_value : (place : ℕ) (within : Option Subtype) (form : StaticForm) (v : Val values.Value) → Legality (static.value_rule place within form v)
of_static_value place within Static (Gives v) = asked WRONG_STATIC_VALUE place _ refl
of_static_value place within Static (Raises x) = asked WRONG_STATIC_VALUE place true refl
of_static_value place within form v = none

-- what is asked only where nothing is broken
pub unless_broken : (faults : Faults) {later : Faults} → Legality later → Legality (if_unbroken faults later)
unless_broken [] p = p
unless_broken (f ∷ fs) p = none

pub of_static : (s : Scope) (w : Wanted) (within : Option Subtype) (e : ExprTree) → Legality (static_faults s w within e)
of_static s w within e =
    of_expression s w e
    ⊕ of_form (start_of e) (static_form s e)
    ⊕ unless_broken (faults_of s w e) (of_static_value (start_of e) within (static_form s e) (static_value s e))
