-- Numbers that names of a package stand for, bounds of subtypes, lengths of arrays and constants, have 64 bits where literals have; so have static values.
use Rattle.std.proofs.Common.{◌≡◌, ◌≤◌, ℕ, zero, suc, ℤ, pos, Bool, true, false, cond, ◌&&◌, List, [], ◌∷◌, length, Option, Some, None, Ok, refl, sym, ap, ◌∙◌, subst, arith}
use Rattle.std.specs.Prelude.{◌*ℤ◌, ◌+ℤ◌, ◌-ℤ◌, ◌^◌, bytes_eq, codes, int_div, int_le, int_rem, nat_lt, neg_ℤ, negsuc, slice_get, unsigned_abs}
use Rattle.std.specs.List.{list_all}
use Rattle.std.proofs.lemmas.Bool.{and_from, and_parts, lt-ltb}
use Rattle.base.specs.Arithmetic.{by, constraint_error, in_range, int_mod, is_in_base_range}
use Rattle.base.specs.declared.limits.TheConstants.{COMPONENTS}
use Rattle.ada_tree.specs.declared.expression.BinaryOperator.{BinaryOperator}
use Rattle.ada_tree.specs.declared.expression.BinaryOperator.TheVariants as binary
use Rattle.ada_tree.specs.declared.expression.UnaryOperator.{UnaryOperator}
use Rattle.ada_tree.specs.declared.expression.UnaryOperator.TheVariants as unary
use Rattle.ada_tree.specs.declared.expression.Identifier.{Identifier}
use Rattle.ada_tree.specs.ExpressionTree as tree
use Rattle.ada_tree.specs.ExpressionTree.{Arguments, Attribute, Binary, Component, Conditional, ExprTree, MoreArguments, MoreSelectors, Named, NoArguments, NoSelectors, Parenthesized, SelectorTree, SelectorTrees, Text, Unary}
use Rattle.ada_tree.specs.ProgramTree.{Array, BodyItemTree, DefinitionTree, Integer, IndexTree, OfRange, OfType, PackageTree, Record, Subtype as SubtypeOf}
use Rattle.ada_tree.specs.ProgramTree as trees
use Rattle.ada_tree.specs.StatementTree.{ObjectTree, RangeTree}
use Rattle.types.specs.declared.entity.PredefinedOperation.{PredefinedOperation}
use Rattle.types.specs.declared.entity.PredefinedOperation.TheVariants as predefined
use Rattle.types.specs.declared.entity.RecordComponent.{RecordComponent}
use Rattle.types.specs.declared.entity.Role.{Role}
use Rattle.types.specs.declared.entity.Role.TheVariants as role
use Rattle.types.specs.declared.entity.Subtype.{Subtype}
use Rattle.types.specs.declared.entity.Value.{Value as Scalar}
use Rattle.types.specs.declared.entity.Value.TheVariants as scalar
use Rattle.types.specs.declared.standing.Standing.{Standing}
use Rattle.types.specs.declared.standing.Standing.TheVariants as standing
use Rattle.types.specs.declared.statics.StaticForm.{StaticForm}
use Rattle.types.specs.declared.statics.StaticForm.TheVariants.{Doubtful as Unsure, NotStatic, Static}
use Rattle.types.specs.Entities.{Arrays, Constant, Doubtful, Entity, Integers, Predefined, Profile, ProtectedObject, Put, Records, Task, TypeForm}
use Rattle.types.specs.Entities as entity
use Rattle.types.specs.Evaluating.{fixed_value, name_with}
use Rattle.types.specs.Evaluations.{Gives, Meaningless, Raises, Val, and_then, computed}
use Rattle.types.specs.Operators.{binary_value, is_decided, unary_value}
use Rattle.types.specs.Places.{meaning_of}
use Rattle.types.specs.Scopes.{Scope, entity_at, form_at, form_of, integer, integer_type, number_of, protected_at}
use Rattle.types.specs.Standings.{array_attribute, bound_stands, bounds_stand, call_stands, called_operation, callee_profile, component_of, component_stands, conversion_stands, element_stands, is_single, object_attribute, object_select, operation_stands, part_of, result_stands, select, select_all, settle, standing_of, stands_first, stands_for, subtype_attribute}
use Rattle.types.specs.Statics.{no_calls, static_form, static_place, static_value}
use Rattle.types.specs.Values.{Number, Truth, Value, value_of}
use Rattle.expr_soundness.specs.expr_rules.specs.declared.own.Wanted.{Wanted}
use Rattle.expr_soundness.specs.expr_rules.specs.declared.own.Wanted.TheVariants.{AnyInteger, OfType as OfTypeNumber}
use Rattle.expr_soundness.specs.expr_rules.specs.Faults.{Faults}
use Rattle.expr_soundness.specs.expr_rules.specs.StaticRules.{static_faults, static_result, static_scalar}
use Rattle.expr_soundness.specs.expr_rules.specs.Typing.{is_integers}
use Rattle.expr_soundness.specs.type_rules.specs.ObjectRules.{called_scalar, constant_entity, fixed_faults, fixed_scalar, initial_scalar, is_clock, known_scalar, object_entity, package_object_entity, scalar_if_unbroken, scalar_of, single_argument, span_by, span_call, span_of_scalar, span_value}
use Rattle.expr_soundness.specs.type_rules.specs.ObjectRules as rules
use Rattle.expr_soundness.specs.type_rules.specs.SubtypeNames.{entity_at_or_none, if_integer, named_entity, subtype_in, subtype_of, wanted_by}
use Rattle.expr_soundness.specs.type_rules.specs.TypeRules.{array_entity, bounded, composite, definition_entity, index_subtype, integer_entity, length_of, narrowed, range_subtype, record_components, record_entity, static_whole, subtype_entity, whole_of}
use Rattle.program_soundness.specs.Fronts.{scope_at, start_in}
use Rattle.program_soundness.proofs.Listing.{same_some}
use Rattle.program_soundness.proofs.Statics.{both_left, static_name}
use Rattle.source_laws.proofs.NamesTested.{AllPass, PassAlways, fronts_pass, passes_at, start_passes}
use Rattle.source_laws.proofs.SpelledNumbers.{argument_fits, body_item_fits, definition_fits, index_fits, literals_fit, range_fits, value_fits}

-- ---- numbers of 64 bits

abbrev is_short : Subtype → Bool
is_short t = is_in_base_range t.first && is_in_base_range t.last

abbrev is_short_if : Option Subtype → Bool
is_short_if (Some t) = is_short t
is_short_if None = true

abbrev has_short_index : TypeForm → Bool
has_short_index (Arrays index n element) = is_short index && is_in_base_range (pos n)
has_short_index form = true

abbrev has_short_index_if : Option TypeForm → Bool
has_short_index_if (Some form) = has_short_index form
has_short_index_if None = true

abbrev pub fits : Value → Bool
fits (Number z) = is_in_base_range z
fits v = true

abbrev pub fits_if : Option Scalar → Bool
fits_if (Some c) = fits (value_of c)
fits_if None = true

abbrev gives_short : Val Value → Bool
gives_short (Gives v) = fits v
gives_short v = true

abbrev is_short_entity : Entity → Bool
is_short_entity (entity.OfType form t) = has_short_index form && is_short t
is_short_entity (entity.OfSubtype t) = is_short t
is_short_entity (Constant t v) = fits_if v
is_short_entity e = true

abbrev is_short_entity_if : Option Entity → Bool
is_short_entity_if (Some e) = is_short_entity e
is_short_entity_if None = true

abbrev pub AreShort : Scope → Type 0
AreShort s = AllPass is_short_entity s

entity_short : (s : Scope) → AreShort s → (n : ℕ) → is_short_entity_if (entity_at s n) ≡ true
entity_short s h n = by_entity (entity_at s n) refl
  where
    by_entity : (o : Option Entity) → entity_at s n ≡ o → is_short_entity_if o ≡ true
    by_entity (Some e) at = passes_at is_short_entity s n e h at
    by_entity None at = refl

form_short : (s : Scope) → AreShort s → (n : ℕ) → has_short_index_if (form_at s n) ≡ true
form_short s h n = by_entity (entity_at s n) (entity_short s h n)
  where
    by_entity : (o : Option Entity) → is_short_entity_if o ≡ true → has_short_index_if (form_of o) ≡ true
    by_entity (Some (entity.OfType form t)) k = (and_parts (has_short_index form) (is_short t) k).0
    by_entity o k = refl

subtype_short : (s : Scope) → AreShort s → (name : Identifier) → is_short_if (subtype_of s name) ≡ true
subtype_short s h name = by_number (number_of s name.name)
  where
    by_entity : (o : Option Entity) → is_short_entity_if o ≡ true → is_short_if (subtype_in o) ≡ true
    by_entity (Some (entity.OfType form t)) k = (and_parts (has_short_index form) (is_short t) k).1
    by_entity (Some (entity.OfSubtype t)) k = k
    by_entity o k = refl

    by_number : (o : Option ℕ) → is_short_if (subtype_in (entity_at_or_none s o)) ≡ true
    by_number (Some n) = by_entity (entity_at s n) (entity_short s h n)
    by_number None = refl

abbrev unless_long : Bool → ℕ → Option ℕ
unless_long b n = elim b [ true ↦ None | false ↦ Some n ]

-- ---- values of operators

ranged : (z : ℤ) → gives_short (computed (in_range z)) ≡ true
ranged z = by_test (is_in_base_range z) refl
  where
    by_test : (b : Bool) → is_in_base_range z ≡ b → gives_short (computed (cond b (Ok z) constraint_error)) ≡ true
    by_test true is = is
    by_test false is = refl

divided : (f : ℤ → ℤ → ℤ) (x y : ℤ) → gives_short (computed (by f x y)) ≡ true
divided f x (pos zero) = refl
divided f x (pos (suc n)) = ranged (f x (pos (suc n)))
divided f x (negsuc n) = ranged (f x (negsuc n))

unary_short : (operator : UnaryOperator) (v : Value) → fits v ≡ true → gives_short (unary_value operator v) ≡ true
unary_short unary.Plus (Number z) h = h
unary_short unary.Minus (Number z) h = ranged (neg_ℤ z)
unary_short unary.Abs (Number z) h = ranged (pos (unsigned_abs z))
unary_short unary.Not (Truth b) h = refl
unary_short operator v h = refl

binary_short : (operator : BinaryOperator) (v w : Value) → gives_short (binary_value operator v w) ≡ true
binary_short binary.Add (Number x) (Number y) = ranged (x +ℤ y)
binary_short binary.Subtract (Number x) (Number y) = ranged (x -ℤ y)
binary_short binary.Multiply (Number x) (Number y) = ranged (x *ℤ y)
binary_short binary.Divide (Number x) (Number y) = divided int_div x y
binary_short binary.Mod (Number x) (Number y) = divided int_mod x y
binary_short binary.Rem (Number x) (Number y) = divided int_rem x y
binary_short binary.Equal (Number x) (Number y) = refl
binary_short binary.NotEqual (Number x) (Number y) = refl
binary_short binary.Less (Number x) (Number y) = refl
binary_short binary.LessOrEqual (Number x) (Number y) = refl
binary_short binary.Greater (Number x) (Number y) = refl
binary_short binary.GreaterOrEqual (Number x) (Number y) = refl
binary_short binary.Equal (Truth x) (Truth y) = refl
binary_short binary.NotEqual (Truth x) (Truth y) = refl
binary_short binary.Less (Truth x) (Truth y) = refl
binary_short binary.LessOrEqual (Truth x) (Truth y) = refl
binary_short binary.Greater (Truth x) (Truth y) = refl
binary_short binary.GreaterOrEqual (Truth x) (Truth y) = refl
binary_short binary.And (Truth x) (Truth y) = refl
binary_short binary.Or (Truth x) (Truth y) = refl
binary_short binary.Xor (Truth x) (Truth y) = refl
binary_short binary.AndThen (Truth x) (Truth y) = refl
binary_short binary.OrElse (Truth x) (Truth y) = refl
binary_short operator v w = refl

one_short : (operator : UnaryOperator) (x : Val Value) → gives_short x ≡ true → gives_short (and_then x (unary_value operator)) ≡ true
one_short operator (Gives v) h = unary_short operator v h
one_short operator (Raises x) h = refl
one_short operator Meaningless h = refl

second_short : (operator : BinaryOperator) (v : Value) (y : Val Value) → gives_short (and_then y (binary_value operator v)) ≡ true
second_short operator v (Gives w) = binary_short operator v w
second_short operator v (Raises x) = refl
second_short operator v Meaningless = refl

two_short : (operator : BinaryOperator) (x y : Val Value) → gives_short x ≡ true
    → gives_short (and_then x (λ v. elim (is_decided operator v) [ true ↦ Gives v | false ↦ and_then y (binary_value operator v) ])) ≡ true
two_short operator (Gives v) y h = by_test (is_decided operator v)
  where
    by_test : (b : Bool) → gives_short (elim b [ true ↦ Gives v | false ↦ and_then y (binary_value operator v) ]) ≡ true
    by_test true = h
    by_test false = second_short operator v y
two_short operator (Raises x) y h = refl
two_short operator Meaningless y h = refl

-- ---- what a name stands for

abbrev is_short_standing : Standing → Bool
is_short_standing (standing.Fixed t v) = fits_if v
is_short_standing (standing.Given t v) = fits_if v
is_short_standing (standing.Plain z) = is_in_base_range z
is_short_standing (standing.Named t) = is_short t
is_short_standing w = true

first_short : (n : ℕ) (o : Option Entity) → is_short_entity_if o ≡ true → is_short_standing (stands_for n o) ≡ true
first_short n (Some (entity.OfType form t)) h = (and_parts (has_short_index form) (is_short t) h).1
first_short n (Some (entity.OfSubtype t)) h = h
first_short n (Some (Constant t v)) h = h
first_short n o h = refl

bounds_short : (t : Subtype) (name : List ℕ) → is_short t ≡ true → is_short_standing (bounds_stand t name) ≡ true
bounds_short t name h = by_first (bytes_eq name (codes "FIRST")) (bytes_eq name (codes "LAST"))
  where
    ends : (is_in_base_range t.first ≡ true) × (is_in_base_range t.last ≡ true)
    ends = and_parts (is_in_base_range t.first) (is_in_base_range t.last) h

    by_first : (b c : Bool) → is_short_standing (cond b (bound_stands t t.first) (cond c (bound_stands t t.last) standing.Doubtful)) ≡ true
    by_first true c = ends.0
    by_first false true = ends.1
    by_first false false = refl

array_short : (index : Subtype) (n : ℕ) (name : List ℕ) → (is_short index && is_in_base_range (pos n)) ≡ true
    → is_short_standing (array_attribute index n name) ≡ true
array_short index n name h = by_test (bytes_eq name (codes "LENGTH"))
  where
    by_test : (b : Bool) → is_short_standing (cond b (standing.Plain (pos n)) (bounds_stand index name)) ≡ true
    by_test true = (and_parts (is_short index) (is_in_base_range (pos n)) h).1
    by_test false = bounds_short index name (and_parts (is_short index) (is_in_base_range (pos n)) h).0

object_attribute_short : (o : Option TypeForm) (name : List ℕ) → has_short_index_if o ≡ true → is_short_standing (object_attribute o name) ≡ true
object_attribute_short (Some (Arrays index n element)) name h = array_short index n name h
object_attribute_short o name h = refl

subtype_attribute_short : (t : Subtype) (o : Option TypeForm) (name : List ℕ) → is_short t ≡ true → has_short_index_if o ≡ true
    → is_short_standing (subtype_attribute t o name) ≡ true
subtype_attribute_short t (Some Integers) name h k = bounds_short t name h
subtype_attribute_short t (Some (Arrays index n element)) name h k = array_short index n name k
subtype_attribute_short t o name h k = refl

part_short : (r : Role) (o : Option Subtype) → is_short_standing (part_of r o) ≡ true
part_short r (Some t) = refl
part_short r None = refl

component_short : (r : Role) (o : Option TypeForm) (name : List ℕ) → is_short_standing (component_stands r o name) ≡ true
component_short r (Some (Records cs)) name = part_short r (component_of cs name)
component_short r o name = refl

element_short : (r : Role) (o : Option TypeForm) (b : Bool) → is_short_standing (element_stands r o b) ≡ true
element_short r (Some (Arrays index n element)) true = refl
element_short r o b = refl

conversion_short : (t : Subtype) (o : Option TypeForm) (b : Bool) → is_short_standing (conversion_stands t o b) ≡ true
conversion_short t (Some Integers) true = refl
conversion_short t o b = refl

result_short : (o : Option Subtype) → is_short_standing (result_stands o) ≡ true
result_short (Some t) = refl
result_short None = refl

call_short : (o : Option Profile) → is_short_standing (call_stands o) ≡ true
call_short (Some p) = result_short p.result
call_short None = refl

called_short : (n : ℕ) (o : Option ℕ) → is_short_standing (called_operation n o) ≡ true
called_short n (Some k) = refl
called_short n None = refl

operation_short : (n : ℕ) (o : Option ProtectedObject) (name : List ℕ) → is_short_standing (operation_stands n o name) ≡ true
operation_short n (Some p) name = called_short n _
operation_short n None name = refl

module _ (s : Scope) (names : AreShort s) where
  object_short : (r : Role) (t : Subtype) (x : SelectorTree) → is_short_standing (object_select s r t x) ≡ true
  object_short r t (Component name) = component_short r (form_at s t.type_number) name.name
  object_short r t (Arguments a) = element_short r (form_at s t.type_number) (is_single a)
  object_short r t (Attribute name) = object_attribute_short (form_at s t.type_number) name.name (form_short s names t.type_number)

  select_short : (w : Standing) (x : SelectorTree) → is_short_standing w ≡ true → is_short_standing (select s w x) ≡ true
  select_short (standing.Part r t) x h = object_short r t x
  select_short (standing.Fixed t v) x h = object_short role.Constant t x
  select_short (standing.Named t) (Arguments a) h = conversion_short t (form_at s t.type_number) (is_single a)
  select_short (standing.Named t) (Attribute name) h = subtype_attribute_short t (form_at s t.type_number) name.name h (form_short s names t.type_number)
  select_short (standing.Callee f) (Arguments a) h = call_short (callee_profile s f)
  select_short standing.Put (Arguments a) h = refl
  select_short (standing.Protected n) (Component name) h = operation_short n (protected_at s n) name.name
  select_short w x h = refl

  settle_short : (w : Standing) → is_short_standing w ≡ true → is_short_standing (settle s w) ≡ true
  settle_short (standing.Callee f) h = call_short (callee_profile s f)
  settle_short standing.Put h = refl
  settle_short (standing.Named t) h = refl
  settle_short (standing.Protected n) h = refl
  settle_short standing.Task h = refl
  settle_short w h = h

  all_short : (selectors : SelectorTrees) (w : Standing) → is_short_standing w ≡ true → is_short_standing (select_all s w selectors) ≡ true
  all_short NoSelectors w h = settle_short w h
  all_short (MoreSelectors x rest) w h = all_short rest (select s w x) (select_short w x h)

  standing_short : (first : Identifier) (selectors : SelectorTrees) → is_short_standing (standing_of s first selectors) ≡ true
  standing_short first selectors = all_short selectors (stands_first s (number_of s first.name)) (by_number (number_of s first.name))
    where
      by_number : (o : Option ℕ) → is_short_standing (stands_first s o) ≡ true
      by_number (Some n) = first_short n (entity_at s n) (entity_short s names n)
      by_number None = refl

  fixed_short : (w : Standing) → is_short_standing w ≡ true → fits_if (fixed_value w) ≡ true
  fixed_short (standing.Fixed t v) h = h
  fixed_short (standing.Given t v) h = h
  fixed_short (standing.Plain z) h = h
  fixed_short w h = refl

  -- ---- static values

  static_short : (e : ExprTree) → literals_fit e ≡ true → static_form s e ≡ Static → gives_short (static_value s e) ≡ true
  static_short (tree.Number z place) h k = h
  static_short (Named first selectors) h k =
      let v = static_name (standing_of s first selectors) k in
      subst (λ o. gives_short (elim o [
        | Some c ↦ Gives (value_of c)
        | None ↦ name_with no_calls (static_place s) (meaning_of (static_place s) first.name) selectors
      ]) ≡ true) (sym v.1)
      (sym (ap fits_if v.1) ∙ fixed_short (standing_of s first selectors) (standing_short first selectors))
  static_short (Parenthesized place e) h k = static_short e h k
  static_short (Unary operator place e) h k = one_short operator (static_value s e) (static_short e h k)
  static_short (Binary operator a b) h k =
      two_short operator (static_value s a) (static_value s b)
      (static_short a (and_parts (literals_fit a) (literals_fit b) h).0 (both_left (static_form s a) (static_form s b) k))
  static_short (Conditional place condition value elsifs last) h k = cc

  result_is : (fs : Faults) (form : StaticForm) (x : Val Value) (v : Value) → static_result fs form x ≡ Some v → (form ≡ Static) × (x ≡ Gives v)
  result_is [] Static (Gives u) v h = (refl, ap Gives (same_some u v h))
  result_is [] Static (Raises y) v h = cc
  result_is [] Static Meaningless v h = cc
  result_is [] NotStatic x v h = cc
  result_is [] Unsure x v h = cc
  result_is (f ∷ fs) form x v h = cc

  scalar_short : (w : Wanted) (within : Option Subtype) (e : ExprTree) (v : Value) → literals_fit e ≡ true → static_scalar s w within e ≡ Some v → fits v ≡ true
  scalar_short w within e v h is =
      let x = result_is (static_faults s w within e) (static_form s e) (static_value s e) v is in sym (ap gives_short x.1) ∙ static_short e h x.0

  -- ---- ranges

  abbrev fits_whole : Option ℤ → Bool
  fits_whole (Some z) = is_in_base_range z
  fits_whole None = true

  whole_short : (w : Wanted) (within : Option Subtype) (e : ExprTree) → literals_fit e ≡ true → fits_whole (static_whole s w within e) ≡ true
  whole_short w within e h = by_scalar (static_scalar s w within e) refl
    where
      by_scalar : (o : Option Value) → static_scalar s w within e ≡ o → fits_whole (whole_of o) ≡ true
      by_scalar (Some (Number z)) is = scalar_short w within e (Number z) h is
      by_scalar o is = refl

  bounded_short : (n : ℕ) (a b : Option ℤ) → fits_whole a ≡ true → fits_whole b ≡ true → is_short_if (bounded n a b) ≡ true
  bounded_short n (Some x) (Some y) h k = by_test (int_le x y)
    where
      by_test : (b : Bool) → is_short_if (elim b [ true ↦ Some (record { type_number = n; first = x; last = y }) | false ↦ None ]) ≡ true
      by_test true = and_from (is_in_base_range x) (is_in_base_range y) h k
      by_test false = refl
  bounded_short n (Some x) None h k = refl
  bounded_short n None b h k = refl

  range_short : (n : ℕ) (w : Wanted) (within : Option Subtype) (r : RangeTree) → range_fits r ≡ true → is_short_if (range_subtype s n w within r) ≡ true
  range_short n w within r h =
      let parts = and_parts (literals_fit r.first) (literals_fit r.last) h in
      bounded_short n (static_whole s w within r.first) (static_whole s w within r.last) (whole_short w within r.first parts.0)
      (whole_short w within r.last parts.1)

  -- ---- types

  integer_short : (o : Option Subtype) → is_short_if o ≡ true → is_short_entity (integer_entity o) ≡ true
  integer_short (Some t) h = h
  integer_short None h = refl

  subtype_entity_short : (o : Option Subtype) → is_short_if o ≡ true → is_short_entity (subtype_entity o) ≡ true
  subtype_entity_short (Some t) h = h
  subtype_entity_short None h = refl

  if_integer_short : (o : Option Subtype) → is_short_if o ≡ true → is_short_if (if_integer s o) ≡ true
  if_integer_short (Some t) h = by_test (is_integers (form_at s t.type_number))
    where
      by_test : (b : Bool) → is_short_if (elim b [ true ↦ Some t | false ↦ None ]) ≡ true
      by_test true = h
      by_test false = refl
  if_integer_short None h = refl

  index_short : (i : IndexTree) → index_fits i ≡ true → is_short_if (index_subtype s i) ≡ true
  index_short (OfRange r) h = range_short integer_type (OfTypeNumber integer_type) (Some integer) r h
  index_short (trees.OfSubtype name) h = if_integer_short (subtype_of s name) (subtype_short s names name)

  few_components : (m : ℕ) → nat_lt COMPONENTS m ≡ false → is_in_base_range (pos m) ≡ true
  few_components m h = let few : m ≤ COMPONENTS = grind (arith, h) in lt-ltb m (2 ^ 63) (omega (arith, few))

  array_entity_short : (index element : Option Subtype) → is_short_if index ≡ true → is_short_entity (array_entity s index element) ≡ true
  array_entity_short (Some index) (Some element) h = by_test (nat_lt COMPONENTS (length_of index)) refl
    where
      by_test : (b : Bool) → nat_lt COMPONENTS (length_of index) ≡ b
          → is_short_entity (elim (unless_long b (length_of index)) [ Some n ↦ composite s (Arrays index n element) | None ↦ Doubtful ]) ≡ true
      by_test true is = refl
      by_test false is =
          and_from (is_short index && is_in_base_range (pos (length_of index))) true
          (and_from (is_short index) (is_in_base_range (pos (length_of index))) h (few_components (length_of index) is)) refl
  array_entity_short (Some index) None h = refl
  array_entity_short None element h = refl

  record_short : (o : Option (List RecordComponent)) → is_short_entity (record_entity s o) ≡ true
  record_short (Some cs) = refl
  record_short None = refl

  narrowed_short : (o : Option Subtype) (r : RangeTree) → range_fits r ≡ true → is_short_if (narrowed s o r) ≡ true
  narrowed_short (Some t) r h = range_short t.type_number (OfTypeNumber t.type_number) (Some t) r h
  narrowed_short None r h = refl

  definition_short : (d : DefinitionTree) → definition_fits d ≡ true → is_short_entity (definition_entity s d) ≡ true
  definition_short (Integer r) h = integer_short (range_subtype s (length s) AnyInteger None r) (range_short (length s) AnyInteger None r h)
  definition_short (Array i element) h = array_entity_short (index_subtype s i) (subtype_of s element) (index_short i h)
  definition_short (Record cs) h = record_short (record_components s cs)
  definition_short (SubtypeOf name None) h = subtype_entity_short (subtype_of s name) (subtype_short s names name)
  definition_short (SubtypeOf name (Some r)) h =
      subtype_entity_short (narrowed s (if_integer s (subtype_of s name)) r) (narrowed_short (if_integer s (subtype_of s name)) r h)

  -- ---- initial values

  argument_is : (selectors : SelectorTrees) (a : ExprTree) → single_argument selectors ≡ Some a → argument_fits selectors ≡ literals_fit a
  argument_is (MoreSelectors (Arguments (MoreArguments (tree.Value e) NoArguments)) NoSelectors) a h = ap literals_fit (same_some e a h)
  argument_is (MoreSelectors (Arguments (MoreArguments (tree.Value e) (MoreArguments b rest))) NoSelectors) a h = cc
  argument_is (MoreSelectors (Arguments (MoreArguments (Text label place) rest)) NoSelectors) a h = cc
  argument_is (MoreSelectors (Arguments NoArguments) NoSelectors) a h = cc
  argument_is (MoreSelectors (Arguments x) (MoreSelectors y rest)) a h = cc
  argument_is (MoreSelectors (Component name) rest) a h = cc
  argument_is (MoreSelectors (Attribute name) rest) a h = cc
  argument_is NoSelectors a h = cc

  span_argument : (o : Option Entity) (arg : Option ExprTree) (x : PredefinedOperation × ExprTree) → span_by o arg ≡ Some x → arg ≡ Some x.1
  span_argument (Some (Predefined predefined.Milliseconds p)) (Some e) x h = ap (λ y. Some y.1) (same_some (predefined.Milliseconds, e) x h)
  span_argument (Some (Predefined predefined.Microseconds p)) (Some e) x h = ap (λ y. Some y.1) (same_some (predefined.Microseconds, e) x h)
  span_argument (Some (Predefined predefined.Milliseconds p)) None x h = cc
  span_argument (Some (Predefined predefined.Microseconds p)) None x h = cc
  span_argument o arg x h = cc

  scalar_of_short : (v : Val Value) → gives_short v ≡ true → fits_if (scalar_of v) ≡ true
  scalar_of_short (Gives (Number z)) h = h
  scalar_of_short (Gives (Truth b)) h = refl
  scalar_of_short v h = refl

  span_short : (o : PredefinedOperation) (z : ℤ) → is_in_base_range z ≡ true → gives_short (rules.span_of o z) ≡ true
  span_short predefined.Milliseconds z h = ranged (pos 1000 *ℤ z)
  span_short predefined.Clock z h = h
  span_short predefined.Microseconds z h = h
  span_short predefined.Read z h = h

  span_value_short : (o : PredefinedOperation) (a : ExprTree) → literals_fit a ≡ true → gives_short (span_value s o a) ≡ true
  span_value_short o a h = by_scalar (static_scalar s (OfTypeNumber integer_type) None a) refl
    where
      by_scalar : (v : Option Value) → static_scalar s (OfTypeNumber integer_type) None a ≡ v → gives_short (span_of_scalar o v) ≡ true
      by_scalar (Some (Number z)) is = span_short o z (scalar_short (OfTypeNumber integer_type) None a (Number z) h is)
      by_scalar v is = refl

  known_short : (w : Wanted) (within : Option Subtype) (e : ExprTree) → literals_fit e ≡ true → fits_if (known_scalar (static_scalar s w within e)) ≡ true
  known_short w within e h = by_scalar (static_scalar s w within e) refl
    where
      by_scalar : (v : Option Value) → static_scalar s w within e ≡ v → fits_if (known_scalar v) ≡ true
      by_scalar (Some (Number z)) is = scalar_short w within e (Number z) h is
      by_scalar (Some (Truth b)) is = refl
      by_scalar v is = refl

  call_argument : (e : ExprTree) (x : PredefinedOperation × ExprTree) → literals_fit e ≡ true → span_call s e ≡ Some x → literals_fit x.1 ≡ true
  call_argument (Named first selectors) x h is =
      sym (argument_is selectors x.1 (span_argument (named_entity s first) (single_argument selectors) x is)) ∙ h
  call_argument e x h is = cc

  -- a value that must be static has 64 bits
  pub initial_short : (t : Option Subtype) (e : ExprTree) → literals_fit e ≡ true → fits_if (fixed_scalar s t e) ≡ true
  initial_short t e h = by_faults (fixed_faults s t e)
    where
      by_call : (o : Option (PredefinedOperation × ExprTree)) → span_call s e ≡ o → fits_if (called_scalar s t e o) ≡ true
      by_call (Some x) is = scalar_of_short (span_value s x.0 x.1) (span_value_short x.0 x.1 (call_argument e x h is))
      by_call None is = known_short (wanted_by t) t e h

      by_clock : (b : Bool) → fits_if (elim b [ true ↦ Some (scalar.Number (pos 0)) | false ↦ called_scalar s t e (span_call s e) ]) ≡ true
      by_clock true = refl
      by_clock false = by_call (span_call s e) refl

      by_faults : (fs : Faults) → fits_if (scalar_if_unbroken fs (rules.fixed_value s t e)) ≡ true
      by_faults [] = by_clock (is_clock s e)
      by_faults (f ∷ fs) = refl

  object_entity_short : (d : ObjectTree) → value_fits d.value ≡ true → is_short_entity (package_object_entity s d) ≡ true
  object_entity_short d h = by_constant d.constant (subtype_of s d.subtype) (initial_scalar s (subtype_of s d.subtype) d.value) (by_value d.value h)
    where
      by_value : (o : Option ExprTree) → value_fits o ≡ true → fits_if (initial_scalar s (subtype_of s d.subtype) o) ≡ true
      by_value (Some e) k = initial_short (subtype_of s d.subtype) e k
      by_value None k = refl

      by_constant : (b : Bool) (o : Option Subtype) (v : Option Scalar) → fits_if v ≡ true
          → is_short_entity (elim b [ true ↦ constant_entity o v | false ↦ object_entity role.Variable o ]) ≡ true
      by_constant true (Some t) (Some v) k = k
      by_constant true (Some t) None k = refl
      by_constant true None v k = refl
      by_constant false (Some t) v k = refl
      by_constant false None v k = refl

-- ---- in front of each declaration and body

short_always : PassAlways is_short_entity
short_always =
    record {
      visible = refl;
      times = λ n. refl;
      spans = λ n. refl;
      predefined_ = λ o p. refl;
      put = refl;
      unit_ = refl;
      exception = refl;
      task = λ n. refl;
      subprogram = λ p. refl;
      protected_ = λ o. refl;
      doubtful = refl;
    }

pub start_short : (o : Option PackageTree) → AreShort (start_in o)
start_short o = start_passes is_short_entity short_always o

pub fronts_short : (s : Scope) (xs : List BodyItemTree) (place : ℕ) → AreShort s → list_all body_item_fits xs ≡ true → AreShort (scope_at s xs place)
fronts_short s xs place h k =
    fronts_pass is_short_entity short_always body_item_fits (λ u names d fit. definition_short u names d.definition fit)
    (λ u names d fit. object_entity_short u names d fit) s xs place h k

-- what is so of each item
pub item_at : (xs : List BodyItemTree) (place : ℕ) (x : BodyItemTree) → list_all body_item_fits xs ≡ true → slice_get xs place ≡ Some x
    → body_item_fits x ≡ true
item_at [] place x h at = cc
item_at (y ∷ xs) zero x h at = ap body_item_fits (sym (same_some y x at)) ∙ (and_parts (body_item_fits y) (list_all body_item_fits xs) h).0
item_at (y ∷ xs) (suc place) x h at = item_at xs place x (and_parts (body_item_fits y) (list_all body_item_fits xs) h).1 at
