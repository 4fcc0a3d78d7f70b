-- Evaluations raise predefined exceptions alone.
use Rattle.std.proofs.Common.{ℕ, zero, suc, ℤ, List, [], ◌∷◌, Bool, true, false, Option, Some, None, Ok, Err, cond, arith}
use Rattle.std.specs.Prelude.{nat_le}
use Rattle.expr_soundness.specs.base.specs.Arithmetic.{Checked, sum_of, difference_of, product_of, quotient_of, modulus_of, remainder_of, negation_of, absolute_of}
use Rattle.expr_soundness.specs.base.specs.Exceptions.{number_of}
use Rattle.expr_soundness.specs.base.specs.declared.exceptions.PredefinedException.{PredefinedException}
use Rattle.expr_soundness.specs.base.specs.declared.exceptions.PredefinedException.TheVariants.{ConstraintError, ProgramError, StorageError, TaskingError}
use Rattle.expr_soundness.specs.ada_tree.specs.declared.expression.UnaryOperator.{UnaryOperator}
use Rattle.expr_soundness.specs.ada_tree.specs.declared.expression.UnaryOperator.TheVariants as unary
use Rattle.expr_soundness.specs.ada_tree.specs.declared.expression.BinaryOperator.{BinaryOperator}
use Rattle.expr_soundness.specs.ada_tree.specs.declared.expression.BinaryOperator.TheVariants as binary
use Rattle.expr_soundness.specs.ada_tree.specs.ExpressionTree as tree
use Rattle.expr_soundness.specs.ada_tree.specs.ExpressionTree.{ExprTree, Named, Parenthesized, Conditional, Unary, Binary, ElsifValueTrees, NoElsifValues, MoreElsifValues, SelectorTrees, NoSelectors, MoreSelectors, SelectorTree, Component, Arguments, Attribute, ArgumentTrees, NoArguments, MoreArguments, ArgumentTree, Text}
use Rattle.expr_soundness.specs.types.specs.declared.entity.Subtype.{Subtype}
use Rattle.expr_soundness.specs.types.specs.declared.entity.Value.{Value as Scalar}
use Rattle.expr_soundness.specs.types.specs.declared.entity.PredefinedOperation.{PredefinedOperation}
use Rattle.expr_soundness.specs.types.specs.declared.entity.PredefinedOperation.TheVariants as predefined
use Rattle.expr_soundness.specs.types.specs.Entities.{TypeForm, Arrays, Records, ProtectedObject}
use Rattle.expr_soundness.specs.types.specs.Scopes.{form_at}
use Rattle.expr_soundness.specs.types.specs.Standings.{component_of}
use Rattle.expr_soundness.specs.types.specs.Values.{Value, Number, Truth, Array, Record, element_at, field_of, fits, value_of}
use Rattle.expr_soundness.specs.types.specs.Evaluations.{Val, Gives, Raises, Meaningless, and_then, computed, raise}
use Rattle.expr_soundness.specs.types.specs.Operators.{binary_value, is_decided, unary_value}
use Rattle.expr_soundness.specs.types.specs.Places.{Function, Place, Meaning, IsObject, IsFunction, IsPredefined, IsSubtype, IsProtected, IsValue, active_priority, function_of, is_among, meaning_of}
use Rattle.expr_soundness.specs.types.specs.Evaluating.{Calls, actual_with, actuals_with, applied, call, called, chosen, element_meaning, elsif_with, ended, entered, field_meaning, fixed_name, function_through, name_with, object_or_nothing, part_with, passed, predefined_value, truth_of, val, value_with, wanted}
use Rattle.expr_soundness.specs.meaning.specs.Works.{Part, Target}
use Rattle.expr_soundness.specs.meaning.specs.Targets.{all_selected, element_of, object_named, part_of, selected, target, target_or_nothing}
use Rattle.step_soundness.specs.Objects.{IsPredefinedException}

abbrev pub RaisesPredefined : {A : Type 0} → Val A → Type 0
RaisesPredefined (Gives a) = Unit {0}
RaisesPredefined (Raises x) = IsPredefinedException x
RaisesPredefined Meaningless = Unit {0}

pub either : {A : Type 0} (P : A → Type 0) (b : Bool) (x y : A) → P x → P y → P (cond b x y)
either P true x y p q = p
either P false x y p q = q

pub exception_predefined : (x : PredefinedException) → IsPredefinedException (number_of x)
exception_predefined ConstraintError = (omega arith, omega arith)
exception_predefined ProgramError = (omega arith, omega arith)
exception_predefined StorageError = (omega arith, omega arith)
exception_predefined TaskingError = (omega arith, omega arith)

pub then_predefined : {A B : Type 0} (v : Val A) (go : A → Val B) → RaisesPredefined v → ((a : A) → RaisesPredefined (go a)) → RaisesPredefined (and_then v go)
then_predefined (Gives a) go h f = f a
then_predefined (Raises x) go h f = h
then_predefined Meaningless go h f = tt

computed_predefined : (r : Checked) → RaisesPredefined (computed r)
computed_predefined (Ok z) = tt
computed_predefined (Err x) = exception_predefined x

pub passed_predefined : (t : Subtype) (v : Value) → RaisesPredefined (passed t v)
passed_predefined t v = either RaisesPredefined (fits t v) (Gives v) (raise ConstraintError) tt (exception_predefined ConstraintError)

unary_predefined : (operator : UnaryOperator) (v : Value) → RaisesPredefined (unary_value operator v)
unary_predefined unary.Plus (Number z) = tt
unary_predefined unary.Minus (Number z) = computed_predefined (negation_of z)
unary_predefined unary.Abs (Number z) = computed_predefined (absolute_of z)
unary_predefined unary.Not (Truth b) = tt
unary_predefined operator v = tt

binary_predefined : (operator : BinaryOperator) (v w : Value) → RaisesPredefined (binary_value operator v w)
binary_predefined binary.Add (Number x) (Number y) = computed_predefined (sum_of x y)
binary_predefined binary.Subtract (Number x) (Number y) = computed_predefined (difference_of x y)
binary_predefined binary.Multiply (Number x) (Number y) = computed_predefined (product_of x y)
binary_predefined binary.Divide (Number x) (Number y) = computed_predefined (quotient_of x y)
binary_predefined binary.Mod (Number x) (Number y) = computed_predefined (modulus_of x y)
binary_predefined binary.Rem (Number x) (Number y) = computed_predefined (remainder_of x y)
binary_predefined binary.Equal (Number x) (Number y) = tt
binary_predefined binary.NotEqual (Number x) (Number y) = tt
binary_predefined binary.Less (Number x) (Number y) = tt
binary_predefined binary.LessOrEqual (Number x) (Number y) = tt
binary_predefined binary.Greater (Number x) (Number y) = tt
binary_predefined binary.GreaterOrEqual (Number x) (Number y) = tt
binary_predefined binary.Equal (Truth x) (Truth y) = tt
binary_predefined binary.NotEqual (Truth x) (Truth y) = tt
binary_predefined binary.Less (Truth x) (Truth y) = tt
binary_predefined binary.LessOrEqual (Truth x) (Truth y) = tt
binary_predefined binary.Greater (Truth x) (Truth y) = tt
binary_predefined binary.GreaterOrEqual (Truth x) (Truth y) = tt
binary_predefined binary.And (Truth x) (Truth y) = tt
binary_predefined binary.Or (Truth x) (Truth y) = tt
binary_predefined binary.Xor (Truth x) (Truth y) = tt
binary_predefined binary.AndThen (Truth x) (Truth y) = tt
binary_predefined binary.OrElse (Truth x) (Truth y) = tt
binary_predefined operator v w = tt

operation_predefined : (p : Place) (o : PredefinedOperation) (vs : List Value) → RaisesPredefined (predefined_value p o vs)
operation_predefined p predefined.Clock [] = tt
operation_predefined p predefined.Milliseconds (Number z ∷ []) = computed_predefined _
operation_predefined p predefined.Microseconds (Number z ∷ []) = tt
operation_predefined p predefined.Read (Number z ∷ []) = tt
operation_predefined p o vs = tt

object_predefined : (t : Option Subtype) (v : Option Value) → RaisesPredefined (object_or_nothing t v)
object_predefined (Some t) (Some v) = tt
object_predefined t v = tt

element_predefined : (form : Option TypeForm) (v : Value) (z : ℤ) → RaisesPredefined (element_meaning form v z)
element_predefined (Some (Arrays index length element)) (Array vs) z = object_predefined (Some element) (element_at vs _)
element_predefined form v z = tt

field_predefined : (form : Option TypeForm) (v : Value) (name : List ℕ) → RaisesPredefined (field_meaning form v name)
field_predefined (Some (Records components)) (Record fields) name = object_predefined (component_of components name) (field_of fields name)
field_predefined form v name = tt

through_predefined : (o : ProtectedObject) (f : Option Function) → RaisesPredefined (function_through o f)
through_predefined o (Some f) = tt
through_predefined o None = tt

abbrev pub CallsRaisePredefined : Calls → Type 0
CallsRaisePredefined calls = (q : Place) (f : Function) (vs : List Value) → RaisesPredefined (calls q f vs)

called_predefined : (calls : Calls) (p : Place) → CallsRaisePredefined calls → (f : Function) (through : Option ProtectedObject) (vs : List Value) → RaisesPredefined (called calls p f through vs)
called_predefined calls p h f None vs = h p f vs
called_predefined calls p h f (Some o) vs =
    let runs = calls (record p { actions = o.number ∷ p.actions }) f vs in
    either RaisesPredefined (is_among p.actions o.number) (raise ProgramError) (cond (nat_le (active_priority p) o.ceiling) runs (raise ProgramError)) (exception_predefined ProgramError)
    (either RaisesPredefined (nat_le (active_priority p) o.ceiling) runs (raise ProgramError) (h _ f vs) (exception_predefined ProgramError))

as_value_predefined : (v : Val Value) → RaisesPredefined v → RaisesPredefined (and_then v (λ x. Gives (IsValue x)))
as_value_predefined v h = then_predefined v (λ x. Gives (IsValue x)) h (λ x. tt)

applied_predefined : (calls : Calls) (p : Place) → CallsRaisePredefined calls → (m : Meaning) (vs : List Value) → RaisesPredefined (applied calls p m vs)
applied_predefined calls p h (IsObject t v) (Number z ∷ []) = element_predefined (form_at p.scope t.type_number) v z
applied_predefined calls p h (IsFunction f through) vs = as_value_predefined (called calls p f through vs) (called_predefined calls p h f through vs)
applied_predefined calls p h (IsPredefined o) vs = as_value_predefined (predefined_value p o vs) (operation_predefined p o vs)
applied_predefined calls p h (IsSubtype t) (Number z ∷ []) = tt
applied_predefined calls p h m vs = tt

chosen_predefined : (p : Place) (m : Meaning) (name : List ℕ) → RaisesPredefined (chosen p m name)
chosen_predefined p (IsObject t v) name = field_predefined (form_at p.scope t.type_number) v name
chosen_predefined p (IsProtected o) name = through_predefined o (function_of p.functions (Some o.number) name)
chosen_predefined p m name = tt

ended_predefined : (calls : Calls) (p : Place) → CallsRaisePredefined calls → (m : Meaning) → RaisesPredefined (ended calls p m)
ended_predefined calls p h (IsObject t v) = tt
ended_predefined calls p h (IsValue v) = tt
ended_predefined calls p h (IsFunction f through) = called_predefined calls p h f through []
ended_predefined calls p h (IsPredefined o) = operation_predefined p o []
ended_predefined calls p h m = tt

truth_predefined : (v : Value) → RaisesPredefined (truth_of v)
truth_predefined (Truth b) = tt
truth_predefined v = tt

fixed_or_predefined : (o : Option Scalar) (v : Val Value) → RaisesPredefined v → RaisesPredefined (elim o [ Some w ↦ Gives (value_of w) | None ↦ v ])
fixed_or_predefined (Some w) v h = tt
fixed_or_predefined None v h = h

decided_predefined : (b : Bool) (v : Value) (w : Val Value) → RaisesPredefined w → RaisesPredefined (elim b [ true ↦ Gives v | false ↦ w ])
decided_predefined true v w h = tt
decided_predefined false v w h = h

found_predefined : (o : Option Value) (w : Val Value) → RaisesPredefined w → RaisesPredefined (elim o [ Some v ↦ Gives v | None ↦ w ])
found_predefined (Some v) w h = tt
found_predefined None w h = h

one_predefined : {A : Type 0} (b : Bool) (v w : Val A) → RaisesPredefined v → RaisesPredefined w → RaisesPredefined (elim b [ true ↦ v | false ↦ w ])
one_predefined true v w h i = h
one_predefined false v w h i = i

wanted_predefined : (o : Option (List Subtype)) (go : List Subtype → Val Meaning) → ((ts : List Subtype) → RaisesPredefined (go ts)) → RaisesPredefined (elim o [ Some ts ↦ go ts | None ↦ Meaningless ])
wanted_predefined (Some ts) go h = h ts
wanted_predefined None go h = tt

mutual
  value_predefined : (calls : Calls) (p : Place) → CallsRaisePredefined calls → (e : ExprTree) → RaisesPredefined (value_with calls p e)
  value_predefined calls p h (tree.Number z place) = tt
  value_predefined calls p h (Named first selectors) =
      fixed_or_predefined (fixed_name p first selectors) (name_with calls p (meaning_of p first.name) selectors) (name_predefined calls p h (meaning_of p first.name) selectors)
  value_predefined calls p h (Parenthesized place e) = value_predefined calls p h e
  value_predefined calls p h (Unary operator place e) = then_predefined (value_with calls p e) (unary_value operator) (value_predefined calls p h e) (unary_predefined operator)
  value_predefined calls p h (Binary operator a b) =
      then_predefined (value_with calls p a) (λ v. elim (is_decided operator v) [ true ↦ Gives v | false ↦ and_then (value_with calls p b) (binary_value operator v) ]) (value_predefined calls p h a)
      (λ v. decided_predefined (is_decided operator v) v (and_then (value_with calls p b) (binary_value operator v))
      (then_predefined (value_with calls p b) (binary_value operator v) (value_predefined calls p h b) (binary_predefined operator v)))
  value_predefined calls p h (Conditional place condition value elsifs else_value) =
      then_predefined (and_then (value_with calls p condition) truth_of)
      (λ holds. elim holds [ true ↦ value_with calls p value | false ↦ and_then (elsif_with calls p elsifs) (λ found. elim found [ Some v ↦ Gives v | None ↦ value_with calls p else_value ]) ])
      (then_predefined (value_with calls p condition) truth_of (value_predefined calls p h condition) truth_predefined)
      (λ holds. one_predefined holds (value_with calls p value) (and_then (elsif_with calls p elsifs) (λ found. elim found [ Some v ↦ Gives v | None ↦ value_with calls p else_value ]))
      (value_predefined calls p h value)
      (then_predefined (elsif_with calls p elsifs) (λ found. elim found [ Some v ↦ Gives v | None ↦ value_with calls p else_value ]) (elsif_predefined calls p h elsifs)
      (λ o. found_predefined o (value_with calls p else_value) (value_predefined calls p h else_value))))

  elsif_predefined : (calls : Calls) (p : Place) → CallsRaisePredefined calls → (e : ElsifValueTrees) → RaisesPredefined (elsif_with calls p e)
  elsif_predefined calls p h NoElsifValues = tt
  elsif_predefined calls p h (MoreElsifValues condition value rest) =
      then_predefined (and_then (value_with calls p condition) truth_of)
      (λ holds. elim holds [ true ↦ and_then (value_with calls p value) (λ v. Gives (Some v)) | false ↦ elsif_with calls p rest ])
      (then_predefined (value_with calls p condition) truth_of (value_predefined calls p h condition) truth_predefined)
      (λ holds. one_predefined holds (and_then (value_with calls p value) (λ v. Gives (Some v))) (elsif_with calls p rest)
      (then_predefined (value_with calls p value) (λ v. Gives (Some v)) (value_predefined calls p h value) (λ v. tt))
      (elsif_predefined calls p h rest))

  name_predefined : (calls : Calls) (p : Place) → CallsRaisePredefined calls → (m : Meaning) (selectors : SelectorTrees) → RaisesPredefined (name_with calls p m selectors)
  name_predefined calls p h m NoSelectors = ended_predefined calls p h m
  name_predefined calls p h m (MoreSelectors x rest) =
      then_predefined (part_with calls p m x) (λ n. name_with calls p n rest) (part_predefined calls p h m x) (λ n. name_predefined calls p h n rest)

  part_predefined : (calls : Calls) (p : Place) → CallsRaisePredefined calls → (m : Meaning) (x : SelectorTree) → RaisesPredefined (part_with calls p m x)
  part_predefined calls p h m (Component name) = chosen_predefined p m name.name
  part_predefined calls p h m (Arguments a) =
      wanted_predefined (wanted p m) (λ ts. and_then (actuals_with calls p a ts) (applied calls p m))
      (λ ts. then_predefined (actuals_with calls p a ts) (applied calls p m) (actuals_predefined calls p h a ts) (applied_predefined calls p h m))
  part_predefined calls p h m (Attribute name) = tt

  pub actuals_predefined : (calls : Calls) (p : Place) → CallsRaisePredefined calls → (a : ArgumentTrees) (ts : List Subtype) → RaisesPredefined (actuals_with calls p a ts)
  actuals_predefined calls p h NoArguments [] = tt
  actuals_predefined calls p h (MoreArguments a rest) (t ∷ ts) =
      then_predefined (actual_with calls p t a) (λ v. and_then (actuals_with calls p rest ts) (λ vs. Gives (v ∷ vs))) (actual_predefined calls p h t a)
      (λ v. then_predefined (actuals_with calls p rest ts) (λ vs. Gives (v ∷ vs)) (actuals_predefined calls p h rest ts) (λ vs. tt))
  actuals_predefined calls p h NoArguments (t ∷ ts) = tt
  actuals_predefined calls p h (MoreArguments a rest) [] = tt

  actual_predefined : (calls : Calls) (p : Place) → CallsRaisePredefined calls → (t : Subtype) (x : ArgumentTree) → RaisesPredefined (actual_with calls p t x)
  actual_predefined calls p h t (tree.Value e) = then_predefined (value_with calls p e) (passed t) (value_predefined calls p h e) (passed_predefined t)
  actual_predefined calls p h t (Text label place) = tt

call_predefined : (left : ℕ) → CallsRaisePredefined (call left)
call_predefined zero p f vs = exception_predefined StorageError
call_predefined (suc left) p f vs =
    then_predefined (value_with (call left) (entered p f vs left) f.value) (passed f.result) (value_predefined (call left) (entered p f vs left) (call_predefined left) f.value) (passed_predefined f.result)

pub val_predefined : (p : Place) (e : ExprTree) → RaisesPredefined (val p e)
val_predefined p e = value_predefined (call p.frames_left) p (call_predefined p.frames_left) e

-- ---- targets

part_of_predefined : (x : Target) (part : Part) (t : Option Subtype) → RaisesPredefined (part_of x part t)
part_of_predefined x part (Some t) = tt
part_of_predefined x part None = tt

element_of_predefined : (x : Target) (index element : Subtype) (vs : List Value) → RaisesPredefined (element_of x index element vs)
element_of_predefined x index element (Number z ∷ []) = tt
element_of_predefined x index element vs = tt

selected_predefined : (calls : Calls) (p : Place) → CallsRaisePredefined calls → (x : Target) (form : Option TypeForm) (s : SelectorTree) → RaisesPredefined (selected calls p x form s)
selected_predefined calls p h x (Some (Records components)) (Component name) = part_of_predefined x _ (component_of components name.name)
selected_predefined calls p h x (Some (Arrays index length element)) (Arguments a) =
    then_predefined (actuals_with calls p a (index ∷ [])) (element_of x index element) (actuals_predefined calls p h a (index ∷ [])) (element_of_predefined x index element)
selected_predefined calls p h x form s = tt

all_selected_predefined : (calls : Calls) (p : Place) → CallsRaisePredefined calls → (s : SelectorTrees) (x : Target) → RaisesPredefined (all_selected calls p s x)
all_selected_predefined calls p h NoSelectors x = tt
all_selected_predefined calls p h (MoreSelectors s rest) x =
    then_predefined (selected calls p x (form_at p.scope x.subtype.type_number) s) (all_selected calls p rest) (selected_predefined calls p h x (form_at p.scope x.subtype.type_number) s)
    (all_selected_predefined calls p h rest)

or_nothing_predefined : (o : Option Target) → RaisesPredefined (target_or_nothing o)
or_nothing_predefined (Some x) = tt
or_nothing_predefined None = tt

pub target_predefined : (p : Place) (name : List ℕ) (selectors : SelectorTrees) → RaisesPredefined (target p name selectors)
target_predefined p name selectors =
    then_predefined (target_or_nothing (object_named p name)) (all_selected (call p.frames_left) p selectors) (or_nothing_predefined (object_named p name))
    (all_selected_predefined (call p.frames_left) p (call_predefined p.frames_left) selectors)
