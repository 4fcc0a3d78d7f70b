-- What a legal name is worth by types and constants alone is the same at a place as in the scope.
use Rattle.std.proofs.Common.{◌≡◌, ℕ, List, Bool, true, false, ◌⊎◌, inl, inr, Option, Some, None, refl, sym, ap, ◌∙◌, subst}
use Rattle.std.specs.Prelude.{⊤, bytes_eq, codes, cond, is_some, position, pos}
use Rattle.meaning.specs.ada_tree.specs.ExpressionTree.{SelectorTrees, NoSelectors, MoreSelectors, SelectorTree, Component, Arguments, Attribute}
use Rattle.meaning.specs.types.specs.declared.entity.Subtype.{Subtype}
use Rattle.meaning.specs.types.specs.declared.entity.Role.{Role}
use Rattle.meaning.specs.types.specs.declared.entity.Role.TheVariants as role
use Rattle.meaning.specs.types.specs.declared.entity.Value.{Value as Scalar}
use Rattle.meaning.specs.types.specs.declared.standing.Standing.{Standing}
use Rattle.meaning.specs.types.specs.declared.standing.Standing.TheVariants as standing
use Rattle.meaning.specs.types.specs.Entities.{TypeForm, Integers, Arrays, Records, Profile, ProtectedObject, Entity, OfType, OfSubtype, Object, Constant, Literal, Exception, Subprogram, Entry, Predefined, Put, Task, Protected, LibraryUnit, Doubtful}
use Rattle.meaning.specs.types.specs.Scopes.{Scope, entity_at, form_at, number_of, protected_at}
use Rattle.meaning.specs.types.specs.Standings.{array_attribute, bounds_stand, bound_stands, call_stands, called_operation, callee_profile, component_of, component_stands, conversion_stands, element_stands, is_single, object_attribute, object_select, operation_stands, part_of, result_stands, select, select_all, settle, stands_first, stands_for, subtype_attribute}
use Rattle.meaning.specs.types.specs.Places as places
use Rattle.meaning.specs.types.specs.Places.{Function, Place, Meaning, IsObject, IsFunction, IsPredefined, IsSubtype, IsProtected, IsValue, IsNothing, function_meaning, function_of, function_stands, meaning_in_scope, meaning_of, meaning_of_entity, meaning_or, object_meaning, object_stands, or_else, own_function, own_object, package_function, package_object, stands_here}
use Rattle.meaning.specs.types.specs.Evaluating.{fixed_value}
use Rattle.meaning.specs.types.specs.Values.{Value}
use Rattle.meaning.specs.expr_rules.specs.Typing.{is_integers}
use Rattle.expr_soundness.specs.SoundScopes.{IsKnown}
use Rattle.expr_soundness.specs.Agreeing.{Agrees, MeansNumber}
use Rattle.expr_soundness.proofs.Goods.{earlier_component, not_empty, sound_form}

-- ---- what a name stands for at a place, by what it means there

-- no value by types and constants alone comes from these, whatever part of them is named
abbrev pub is_valueless : Standing → Bool
is_valueless (standing.Part r t) = false
is_valueless (standing.Fixed t v) = false
is_valueless (standing.Given t (Some v)) = false
is_valueless (standing.Plain z) = false
is_valueless (standing.Named t) = false
is_valueless w = true

abbrev pub Corresponds : Meaning → Standing → Type 0
Corresponds (IsObject t v) w = w ≡ standing.Part role.Variable t
Corresponds (IsSubtype t) w = w ≡ standing.Named t
Corresponds (IsFunction f x) w = is_valueless w ≡ true
Corresponds (IsPredefined o) w = is_valueless w ≡ true
Corresponds (IsProtected o) w = is_valueless w ≡ true
Corresponds (IsValue v) w = ⊤
Corresponds IsNothing w = ⊤

entity_corresponds : (n : ℕ) (e : Option Entity) → Corresponds (meaning_of_entity e) (stands_for n e)
entity_corresponds n (Some (OfType form t)) = refl
entity_corresponds n (Some (OfSubtype t)) = refl
entity_corresponds n (Some (Object r t)) = tt
entity_corresponds n (Some (Constant t v)) = tt
entity_corresponds n (Some (Literal b)) = tt
entity_corresponds n (Some Exception) = tt
entity_corresponds n (Some (Subprogram p)) = tt
entity_corresponds n (Some (Entry p)) = tt
entity_corresponds n (Some (Predefined o p)) = refl
entity_corresponds n (Some Put) = tt
entity_corresponds n (Some (Task k)) = tt
entity_corresponds n (Some (Protected o)) = refl
entity_corresponds n (Some LibraryUnit) = tt
entity_corresponds n (Some Doubtful) = tt
entity_corresponds n None = tt

scope_corresponds : (s : Scope) (k : Option ℕ) → Corresponds (meaning_in_scope s k) (stands_first s k)
scope_corresponds s (Some n) = entity_corresponds n (entity_at s n)
scope_corresponds s None = tt

found_corresponds : (own : Option places.Object) (f : Option Function) (outer : Option places.Object) (g : Option Function) (m : Meaning) (w : Standing)
    → Corresponds m w
    → Corresponds (meaning_or (or_else (object_meaning own) (function_meaning f)) (meaning_or (or_else (object_meaning outer) (function_meaning g)) m))
    (object_stands own (function_stands f (object_stands outer (function_stands g w))))
found_corresponds (Some x) f outer g m w h = refl
found_corresponds None (Some f) outer g m w h = refl
found_corresponds None None (Some x) g m w h = refl
found_corresponds None None None (Some g) m w h = refl
found_corresponds None None None None m w h = h

pub corresponds : (p : Place) (name : List ℕ) → Corresponds (meaning_of p name) (stands_here p name)
corresponds p name =
    found_corresponds (own_object p name) (own_function p name) (package_object p name) (package_function p name) (meaning_in_scope p.scope (number_of p.scope name)) (stands_first p.scope (number_of p.scope name))
    (scope_corresponds p.scope (number_of p.scope name))

-- a name that means a function is that of one that is declared
same_function : (g f : Function) → IsFunction g None ≡ IsFunction f None → g ≡ f
same_function g f h = let read : Meaning → Function = λ m. elim m [ IsFunction x o ↦ x | n ↦ g ] in ap read h

found_function : (own : Option places.Object) (a : Option Function) (outer : Option places.Object) (b : Option Function) (last : Meaning) (f : Function)
    → (last ≡ IsFunction f None → ⊥)
    → meaning_or (or_else (object_meaning own) (function_meaning a)) (meaning_or (or_else (object_meaning outer) (function_meaning b)) last) ≡ IsFunction f None
    → (a ≡ Some f) ⊎ (b ≡ Some f)
found_function (Some x) a outer b last f never h = cc
found_function None (Some g) outer b last f never h = inl (ap Some (same_function g f h))
found_function None None (Some x) b last f never h = cc
found_function None None None (Some g) last f never h = inr (ap Some (same_function g f h))
found_function None None None None last f never h = absurd (never h)

entity_no_function : (e : Option Entity) (f : Function) → meaning_of_entity e ≡ IsFunction f None → ⊥
entity_no_function (Some (OfType form t)) f h = cc
entity_no_function (Some (OfSubtype t)) f h = cc
entity_no_function (Some (Predefined o p)) f h = cc
entity_no_function (Some (Protected o)) f h = cc
entity_no_function e f h = cc

scope_no_function : (s : Scope) (k : Option ℕ) (f : Function) → meaning_in_scope s k ≡ IsFunction f None → ⊥
scope_no_function s (Some n) f h = entity_no_function (entity_at s n) f h
scope_no_function s None f h = cc

pub function_found : (p : Place) (name : List ℕ) (f : Function) → meaning_of p name ≡ IsFunction f None
    → (owner : Option ℕ) × (function_of p.functions owner name ≡ Some f)
function_found p name f h =
    elim (found_function (own_object p name) (own_function p name) (package_object p name) (package_function p name) (meaning_in_scope p.scope (number_of p.scope name)) f (scope_no_function p.scope (number_of p.scope name) f) h) [
      | inl e ↦ (p.within, e)
      | inr e ↦ (None, e)
    ]

-- ---- what has no value

call_valueless : (o : Option Profile) → is_valueless (call_stands o) ≡ true
call_valueless (Some p) = by_result p.result
  where
    by_result : (r : Option Subtype) → is_valueless (result_stands r) ≡ true
    by_result (Some t) = refl
    by_result None = refl
call_valueless None = refl

operation_valueless : (n : ℕ) (o : Option ProtectedObject) (name : List ℕ) → is_valueless (operation_stands n o name) ≡ true
operation_valueless n (Some p) name = by_place (position (λ o. bytes_eq o.name name) p.operations)
  where
    by_place : (k : Option ℕ) → is_valueless (called_operation n k) ≡ true
    by_place (Some k) = refl
    by_place None = refl
operation_valueless n None name = refl

select_valueless : (s : Scope) (w : Standing) (x : SelectorTree) → is_valueless w ≡ true → is_valueless (select s w x) ≡ true
select_valueless s (standing.Callee f) (Arguments a) h = call_valueless (callee_profile s f)
select_valueless s (standing.Callee f) (Component name) h = refl
select_valueless s (standing.Callee f) (Attribute name) h = refl
select_valueless s (standing.Protected n) (Component name) h = operation_valueless n (protected_at s n) name.name
select_valueless s (standing.Protected n) (Arguments a) h = refl
select_valueless s (standing.Protected n) (Attribute name) h = refl
select_valueless s standing.Put (Component name) h = refl
select_valueless s standing.Put (Arguments a) h = refl
select_valueless s standing.Put (Attribute name) h = refl
select_valueless s (standing.Given t None) x h = refl
select_valueless s standing.Statement x h = refl
select_valueless s standing.Task x h = refl
select_valueless s standing.Other x h = refl
select_valueless s standing.Doubtful x h = refl
select_valueless s (standing.Part r t) x h = cc
select_valueless s (standing.Fixed t v) x h = cc
select_valueless s (standing.Given t (Some v)) x h = cc
select_valueless s (standing.Plain z) x h = cc
select_valueless s (standing.Named t) x h = cc

no_value : (w : Standing) → is_valueless w ≡ true → fixed_value w ≡ None
no_value (standing.Callee f) h = refl
no_value (standing.Protected n) h = refl
no_value standing.Put h = refl
no_value (standing.Given t None) h = refl
no_value standing.Statement h = refl
no_value standing.Task h = refl
no_value standing.Other h = refl
no_value standing.Doubtful h = refl
no_value (standing.Part r t) h = cc
no_value (standing.Fixed t v) h = cc
no_value (standing.Given t (Some v)) h = cc
no_value (standing.Plain z) h = cc
no_value (standing.Named t) h = cc

settle_valueless : (s : Scope) (w : Standing) → is_valueless w ≡ true → is_valueless (settle s w) ≡ true
settle_valueless s (standing.Callee f) h = call_valueless (callee_profile s f)
settle_valueless s (standing.Protected n) h = refl
settle_valueless s standing.Put h = refl
settle_valueless s (standing.Given t None) h = refl
settle_valueless s standing.Statement h = refl
settle_valueless s standing.Task h = refl
settle_valueless s standing.Other h = refl
settle_valueless s standing.Doubtful h = refl
settle_valueless s (standing.Part r t) h = cc
settle_valueless s (standing.Fixed t v) h = cc
settle_valueless s (standing.Given t (Some v)) h = cc
settle_valueless s (standing.Plain z) h = cc
settle_valueless s (standing.Named t) h = cc

pub all_valueless : (s : Scope) (selectors : SelectorTrees) (w : Standing) → is_valueless w ≡ true → fixed_value (select_all s w selectors) ≡ None
all_valueless s NoSelectors w h = no_value (settle s w) (settle_valueless s w h)
all_valueless s (MoreSelectors x rest) w h = all_valueless s rest (select s w x) (select_valueless s w x h)

by_integers : (r : Role) (o : Option TypeForm) → is_integers o ≡ true → (x : SelectorTree)
    → is_valueless (elim x [ Component name ↦ component_stands r o name.name | Arguments a ↦ element_stands r o (is_single a) | Attribute name ↦ object_attribute o name.name ]) ≡ true
by_integers r (Some Integers) h (Component name) = refl
by_integers r (Some Integers) h (Arguments a) = refl
by_integers r (Some Integers) h (Attribute name) = refl
by_integers r o h x = cc

-- nor from an object of an integer type
pub integer_valueless : (s : Scope) (r : Role) (t : Subtype) (selectors : SelectorTrees) → is_integers (form_at s t.type_number) ≡ true
    → fixed_value (select_all s (standing.Part r t) selectors) ≡ None
integer_valueless s r t NoSelectors h = refl
integer_valueless s r t (MoreSelectors (Component name) rest) h = all_valueless s rest (select s (standing.Part r t) (Component name)) (by_integers r (form_at s t.type_number) h (Component name))
integer_valueless s r t (MoreSelectors (Arguments a) rest) h = all_valueless s rest (select s (standing.Part r t) (Arguments a)) (by_integers r (form_at s t.type_number) h (Arguments a))
integer_valueless s r t (MoreSelectors (Attribute name) rest) h = all_valueless s rest (select s (standing.Part r t) (Attribute name)) (by_integers r (form_at s t.type_number) h (Attribute name))

-- ---- what has no parts

abbrev is_final : Standing → Bool
is_final (standing.Given t v) = true
is_final (standing.Plain z) = true
is_final standing.Doubtful = true
is_final w = false

bounds_final : (t : Subtype) (name : List ℕ) → is_final (bounds_stand t name) ≡ true
bounds_final t name = by_first (bytes_eq name (codes "FIRST")) (bytes_eq name (codes "LAST"))
  where
    by_first : (a b : Bool) → is_final (cond a (bound_stands t t.first) (cond b (bound_stands t t.last) standing.Doubtful)) ≡ true
    by_first true b = refl
    by_first false true = refl
    by_first false false = refl

array_final : (index : Subtype) (count : ℕ) (name : List ℕ) → is_final (array_attribute index count name) ≡ true
array_final index count name = by_test (bytes_eq name (codes "LENGTH"))
  where
    by_test : (b : Bool) → is_final (cond b (standing.Plain (pos count)) (bounds_stand index name)) ≡ true
    by_test true = refl
    by_test false = bounds_final index name

attribute_final : (o : Option TypeForm) (name : List ℕ) → is_final (object_attribute o name) ≡ true
attribute_final (Some (Arrays index count element)) name = array_final index count name
attribute_final o name = refl

subtype_final : (t : Subtype) (o : Option TypeForm) (name : List ℕ) → is_final (subtype_attribute t o name) ≡ true
subtype_final t (Some Integers) name = bounds_final t name
subtype_final t (Some (Arrays index count element)) name = array_final index count name
subtype_final t o name = refl

conversion_final : (t : Subtype) (o : Option TypeForm) (single : Bool) → is_final (conversion_stands t o single) ≡ true
conversion_final t (Some Integers) true = refl
conversion_final t o single = refl

-- ---- the same at the place

module _ (s : Scope) (p : Place) (agrees : Agrees s p) where
  pub same_form : (n : ℕ) → is_some (form_at s n) ≡ true → form_at p.scope n ≡ form_at s n
  same_form n known = let f = not_empty (form_at s n) known in agrees.forms n f.0 f.1 ∙ sym f.1

  -- with these parts behind them both have the same value, or none
  abbrev pub IsSame : SelectorTrees → Standing → Standing → Type 0
  IsSame selectors here there = fixed_value (select_all p.scope there selectors) ≡ fixed_value (select_all s here selectors)

  final_same : (selectors : SelectorTrees) (w : Standing) → is_final w ≡ true → IsSame selectors w w
  final_same NoSelectors (standing.Given t v) h = refl
  final_same NoSelectors (standing.Plain z) h = refl
  final_same NoSelectors standing.Doubtful h = refl
  final_same (MoreSelectors x rest) (standing.Given t v) h = final_same rest standing.Doubtful refl
  final_same (MoreSelectors x rest) (standing.Plain z) h = final_same rest standing.Doubtful refl
  final_same (MoreSelectors x rest) standing.Doubtful h = final_same rest standing.Doubtful refl
  final_same _ (standing.Part r t) h = cc
  final_same _ (standing.Fixed t v) h = cc
  final_same _ (standing.Named t) h = cc
  final_same _ (standing.Callee f) h = cc
  final_same _ standing.Put h = cc
  final_same _ (standing.Protected n) h = cc
  final_same _ standing.Statement h = cc
  final_same _ standing.Task h = cc
  final_same _ standing.Other h = cc

  abbrev PartsSame : SelectorTrees → Type 0
  PartsSame rest = (r q : Role) (t : Subtype) → IsKnown s t → IsSame rest (standing.Part r t) (standing.Part q t)

  component_same : (rest : SelectorTrees) → PartsSame rest → (r q : Role) (n : ℕ) (o : Option TypeForm) → form_at s n ≡ o → (name : List ℕ)
      → IsSame rest (component_stands r o name) (component_stands q o name)
  component_same rest later r q n (Some (Records cs)) e name = by_part (component_of cs name) refl
    where
      by_part : (c : Option Subtype) → component_of cs name ≡ c → IsSame rest (part_of r c) (part_of q c)
      by_part (Some t) h = later r q t (earlier_component s agrees.sound n cs name t (sound_form s agrees.sound n (Records cs) e) h).known
      by_part None h = final_same rest standing.Doubtful refl
  component_same rest later r q n o e name = final_same rest standing.Doubtful refl

  element_same : (rest : SelectorTrees) → PartsSame rest → (r q : Role) (n : ℕ) (o : Option TypeForm) → form_at s n ≡ o → (single : Bool)
      → IsSame rest (element_stands r o single) (element_stands q o single)
  element_same rest later r q n (Some (Arrays index count element)) e true = later r q element (sound_form s agrees.sound n (Arrays index count element) e).earlier.known
  element_same rest later r q n o e single = final_same rest standing.Doubtful refl

  select_same : (x : SelectorTree) (rest : SelectorTrees) → PartsSame rest → (r q : Role) (t : Subtype) → IsKnown s t
      → IsSame rest (object_select s r t x) (object_select p.scope q t x)
  select_same (Component name) rest later r q t known =
      subst (λ o. IsSame rest (component_stands r (form_at s t.type_number) name.name) (component_stands q o name.name)) (sym (same_form t.type_number known))
      (component_same rest later r q t.type_number (form_at s t.type_number) refl name.name)
  select_same (Arguments a) rest later r q t known =
      subst (λ o. IsSame rest (element_stands r (form_at s t.type_number) (is_single a)) (element_stands q o (is_single a))) (sym (same_form t.type_number known))
      (element_same rest later r q t.type_number (form_at s t.type_number) refl (is_single a))
  select_same (Attribute name) rest later r q t known =
      subst (λ o. IsSame rest (object_attribute (form_at s t.type_number) name.name) (object_attribute o name.name)) (sym (same_form t.type_number known))
      (final_same rest (object_attribute (form_at s t.type_number) name.name) (attribute_final (form_at s t.type_number) name.name))

  part_same : (selectors : SelectorTrees) → PartsSame selectors
  part_same NoSelectors r q t known = refl
  part_same (MoreSelectors x rest) r q t known = select_same x rest (part_same rest) r q t known

  fixed_same : (selectors : SelectorTrees) (t : Subtype) (v : Option Scalar) → IsKnown s t → IsSame selectors (standing.Fixed t v) (standing.Fixed t v)
  fixed_same NoSelectors t v known = refl
  fixed_same (MoreSelectors x rest) t v known = select_same x rest (part_same rest) role.Constant role.Constant t known

  named_same : (selectors : SelectorTrees) (t : Subtype) → IsKnown s t → IsSame selectors (standing.Named t) (standing.Named t)
  named_same NoSelectors t known = refl
  named_same (MoreSelectors (Component name) rest) t known = final_same rest standing.Doubtful refl
  named_same (MoreSelectors (Arguments a) rest) t known =
      subst (λ o. IsSame rest (conversion_stands t (form_at s t.type_number) (is_single a)) (conversion_stands t o (is_single a))) (sym (same_form t.type_number known))
      (final_same rest (conversion_stands t (form_at s t.type_number) (is_single a)) (conversion_final t (form_at s t.type_number) (is_single a)))
  named_same (MoreSelectors (Attribute name) rest) t known =
      subst (λ o. IsSame rest (subtype_attribute t (form_at s t.type_number) name.name) (subtype_attribute t o name.name)) (sym (same_form t.type_number known))
      (final_same rest (subtype_attribute t (form_at s t.type_number) name.name) (subtype_final t (form_at s t.type_number) name.name))

  pub valueless_same : (selectors : SelectorTrees) (w u : Standing) → is_valueless w ≡ true → is_valueless u ≡ true → IsSame selectors w u
  valueless_same selectors w u h k = all_valueless p.scope selectors u k ∙ sym (all_valueless s selectors w h)

  -- by what the name means at the place
  pub object_same : (name : List ℕ) (selectors : SelectorTrees) (r : Role) (t : Subtype) (v : Value) → IsKnown s t → meaning_of p name ≡ IsObject t v
      → IsSame selectors (standing.Part r t) (stands_here p name)
  object_same name selectors r t v known h =
      let at : stands_here p name ≡ standing.Part role.Variable t = subst (λ m. Corresponds m (stands_here p name)) h (corresponds p name) in
      subst (λ w. IsSame selectors (standing.Part r t) w) (sym at) (part_same selectors r role.Variable t known)

  -- a loop parameter
  pub number_same : (name : List ℕ) (selectors : SelectorTrees) (r : Role) (t : Subtype) → is_integers (form_at s t.type_number) ≡ true
      → MeansNumber p.scope (meaning_of p name) → IsSame selectors (standing.Part r t) (stands_here p name)
  number_same name selectors r t integers h =
      let at : stands_here p name ≡ standing.Part role.Variable h.subtype = subst (λ m. Corresponds m (stands_here p name)) h.is (corresponds p name) in
      subst (λ w. IsSame selectors (standing.Part r t) w) (sym at)
      (integer_valueless p.scope role.Variable h.subtype selectors h.integers ∙ sym (integer_valueless s r t selectors integers))

  pub subtype_same : (name : List ℕ) (selectors : SelectorTrees) (t : Subtype) → IsKnown s t → meaning_of p name ≡ IsSubtype t
      → IsSame selectors (standing.Named t) (stands_here p name)
  subtype_same name selectors t known h =
      let at : stands_here p name ≡ standing.Named t = subst (λ m. Corresponds m (stands_here p name)) h (corresponds p name) in
      subst (λ w. IsSame selectors (standing.Named t) w) (sym at) (named_same selectors t known)

  pub constant_same : (name : List ℕ) (selectors : SelectorTrees) (t : Subtype) (v : Option Scalar) → IsKnown s t → stands_here p name ≡ standing.Fixed t v
      → IsSame selectors (standing.Fixed t v) (stands_here p name)
  constant_same name selectors t v known h = subst (λ w. IsSame selectors (standing.Fixed t v) w) (sym h) (fixed_same selectors t v known)

  pub given_same : (name : List ℕ) (selectors : SelectorTrees) (t : Subtype) (v : Option Scalar) → stands_here p name ≡ standing.Given t v
      → IsSame selectors (standing.Given t v) (stands_here p name)
  given_same name selectors t v h = subst (λ w. IsSame selectors (standing.Given t v) w) (sym h) (final_same selectors (standing.Given t v) refl)
