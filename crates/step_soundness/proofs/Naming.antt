-- Which forms the name of a legal call has: of a procedure or entry with its actuals, of an operation of a protected object, of Put (RM 6.4, 9.5.3).
use Rattle.std.proofs.Common.{◌≡◌, ◌⊎◌, inl, inr, ℕ, List, [], ◌++◌, length, Bool, true, false, not, Option, Some, None, cond, refl, sym, ap, ◌∙◌, subst, arith}
use Rattle.std.specs.Prelude.{bytes_eq, codes, is_none, nat_eq, position, slice_get}
use Rattle.expr_soundness.specs.ada_tree.specs.declared.expression.Identifier.{Identifier}
use Rattle.expr_soundness.specs.ada_tree.specs.ExpressionTree as tree
use Rattle.expr_soundness.specs.ada_tree.specs.ExpressionTree.{ExprTree, SelectorTrees, NoSelectors, MoreSelectors, SelectorTree, Component, Arguments, Attribute, ArgumentTrees, NoArguments, MoreArguments, ArgumentTree, Text}
use Rattle.expr_soundness.specs.types.specs.declared.entity.Subtype.{Subtype}
use Rattle.expr_soundness.specs.types.specs.declared.entity.Role.{Role}
use Rattle.expr_soundness.specs.types.specs.declared.entity.Role.TheVariants as role
use Rattle.expr_soundness.specs.types.specs.declared.standing.Callee.{Callee}
use Rattle.expr_soundness.specs.types.specs.declared.standing.Callee.TheVariants as callee
use Rattle.expr_soundness.specs.types.specs.declared.standing.Standing.{Standing}
use Rattle.expr_soundness.specs.types.specs.declared.standing.Standing.TheVariants as standing
use Rattle.expr_soundness.specs.types.specs.Entities.{TypeForm, Integers, Booleans, Times, Spans, Arrays, Records, Operation, Profile, ProtectedObject}
use Rattle.expr_soundness.specs.types.specs.Scopes.{Scope, form_at, integer_type, protected_at}
use Rattle.expr_soundness.specs.types.specs.Standings.{array_attribute, bound_stands, bounds_stand, call_stands, called_operation, callee_profile, component_of, component_stands, conversion_stands, count, element_stands, is_single, object_attribute, object_select, operation_profile, operation_stands, part_of, profile_among, result_stands, select, select_all, settle, subtype_attribute}
use Rattle.expr_soundness.specs.expr_rules.specs.declared.own.Wanted.TheVariants.{OfType}
use Rattle.expr_soundness.specs.expr_rules.specs.NameRules.{call_rule, component_rule, count_rule, is_doubtful, operation_rule, part_rule, profile_formals, slot_at, slot_rule, slot_wanted}
use Rattle.expr_soundness.specs.expr_rules.specs.Typing.{own_of}
use Rattle.expr_soundness.specs.expr_rules.specs.ExpressionRules.{argument_faults, arguments_faults, faults_in, faults_of, selector_faults, selectors_faults}
use Rattle.expr_soundness.specs.expr_rules.proofs.TypedLaw.{back_empty, front_empty, same_number, unbroken}
use Rattle.step_soundness.proofs.Raising.{either}
use Rattle.step_soundness.proofs.Lookups.{found_at}
use Rattle.step_soundness.proofs.Turning.{not_false}

-- ---- names of objects, values and types are no calls

abbrev is_valued : Standing → Bool
is_valued (standing.Part r t) = true
is_valued (standing.Fixed t v) = true
is_valued (standing.Given t v) = true
is_valued (standing.Plain z) = true
is_valued (standing.Named t) = true
is_valued standing.Task = true
is_valued standing.Other = true
is_valued w = false

abbrev is_calm : Standing → Bool
is_calm standing.Doubtful = true
is_calm w = is_valued w

valued_of_calm : (w : Standing) → is_calm w ≡ true → is_doubtful w ≡ false → is_valued w ≡ true
valued_of_calm standing.Doubtful c d = cc
valued_of_calm (standing.Part r t) c d = refl
valued_of_calm (standing.Fixed t v) c d = refl
valued_of_calm (standing.Given t v) c d = refl
valued_of_calm (standing.Plain z) c d = refl
valued_of_calm (standing.Named t) c d = refl
valued_of_calm standing.Task c d = refl
valued_of_calm standing.Other c d = refl
valued_of_calm (standing.Callee f) c d = cc
valued_of_calm standing.Put c d = cc
valued_of_calm (standing.Protected n) c d = cc
valued_of_calm standing.Statement c d = cc

abbrev Calm : Standing → Type 0
Calm w = is_calm w ≡ true

part_calm : (r : Role) (t : Option Subtype) → Calm (part_of r t)
part_calm r (Some t) = refl
part_calm r None = refl

component_calm : (r : Role) (form : Option TypeForm) (name : List ℕ) → Calm (component_stands r form name)
component_calm r (Some (Records cs)) name = part_calm r (component_of cs name)
component_calm r form name = refl

element_calm : (r : Role) (form : Option TypeForm) (single : Bool) → Calm (element_stands r form single)
element_calm r (Some (Arrays index length element)) true = refl
element_calm r form single = refl

bounds_calm : (t : Subtype) (name : List ℕ) → Calm (bounds_stand t name)
bounds_calm t name =
    let last = cond (bytes_eq name (codes "LAST")) (bound_stands t t.last) standing.Doubtful in
    either Calm (bytes_eq name (codes "FIRST")) (bound_stands t t.first) last refl (either Calm (bytes_eq name (codes "LAST")) (bound_stands t t.last) standing.Doubtful refl refl)

array_calm : (index : Subtype) (length : ℕ) (name : List ℕ) → Calm (array_attribute index length name)
array_calm index length name = either Calm (bytes_eq name (codes "LENGTH")) _ (bounds_stand index name) refl (bounds_calm index name)

attribute_calm : (form : Option TypeForm) (name : List ℕ) → Calm (object_attribute form name)
attribute_calm (Some (Arrays index length element)) name = array_calm index length name
attribute_calm form name = refl

subtype_calm : (t : Subtype) (form : Option TypeForm) (name : List ℕ) → Calm (subtype_attribute t form name)
subtype_calm t (Some Integers) name = bounds_calm t name
subtype_calm t (Some (Arrays index length element)) name = array_calm index length name
subtype_calm t form name = refl

conversion_calm : (t : Subtype) (form : Option TypeForm) (single : Bool) → Calm (conversion_stands t form single)
conversion_calm t (Some Integers) true = refl
conversion_calm t form single = refl

object_calm : (s : Scope) (r : Role) (t : Subtype) (x : SelectorTree) → Calm (object_select s r t x)
object_calm s r t (Component name) = component_calm r (form_at s t.type_number) name.name
object_calm s r t (Arguments a) = element_calm r (form_at s t.type_number) (is_single a)
object_calm s r t (Attribute name) = attribute_calm (form_at s t.type_number) name.name

-- a component that is found
component_certain : (place : ℕ) (r : Role) (name : Identifier) (form : Option TypeForm) → component_rule place name form ≡ [] → is_doubtful (component_stands r form name.name) ≡ false
component_certain place r name (Some (Records cs)) h = found (component_of cs name.name) (unbroken _ name.place (is_none (component_of cs name.name)) h)
  where
    found : (o : Option Subtype) → is_none o ≡ false → is_doubtful (part_of r o) ≡ false
    found (Some t) i = refl
    found None i = cc
component_certain place r name None h = cc
component_certain place r name (Some Integers) h = cc
component_certain place r name (Some Booleans) h = cc
component_certain place r name (Some Times) h = cc
component_certain place r name (Some Spans) h = cc
component_certain place r name (Some (Arrays index length element)) h = cc

-- one part more
valued_part : (s : Scope) (place : ℕ) (w : Standing) (x : SelectorTree) → is_valued w ≡ true → part_rule s place w x ≡ [] → is_valued (select s w x) ≡ true
valued_part s place (standing.Part r t) (Component name) v h =
    valued_of_calm (select s (standing.Part r t) (Component name)) (object_calm s r t (Component name)) (component_certain place r name (form_at s t.type_number) h)
valued_part s place (standing.Part r t) (Arguments a) v h =
    valued_of_calm (select s (standing.Part r t) (Arguments a)) (object_calm s r t (Arguments a)) (unbroken _ place (is_doubtful (select s (standing.Part r t) (Arguments a))) h)
valued_part s place (standing.Part r t) (Attribute name) v h =
    valued_of_calm (select s (standing.Part r t) (Attribute name)) (object_calm s r t (Attribute name)) (unbroken _ place (is_doubtful (select s (standing.Part r t) (Attribute name))) h)
valued_part s place (standing.Fixed t u) (Component name) v h =
    valued_of_calm (select s (standing.Fixed t u) (Component name)) (object_calm s role.Constant t (Component name)) (component_certain place role.Constant name (form_at s t.type_number) h)
valued_part s place (standing.Fixed t u) (Arguments a) v h =
    valued_of_calm (select s (standing.Fixed t u) (Arguments a)) (object_calm s role.Constant t (Arguments a)) (unbroken _ place (is_doubtful (select s (standing.Fixed t u) (Arguments a))) h)
valued_part s place (standing.Fixed t u) (Attribute name) v h =
    valued_of_calm (select s (standing.Fixed t u) (Attribute name)) (object_calm s role.Constant t (Attribute name)) (unbroken _ place (is_doubtful (select s (standing.Fixed t u) (Attribute name))) h)
valued_part s place (standing.Named t) (Component name) v h = cc
valued_part s place (standing.Named t) (Arguments a) v h =
    valued_of_calm (select s (standing.Named t) (Arguments a)) (conversion_calm t (form_at s t.type_number) (is_single a)) (unbroken _ place (is_doubtful (select s (standing.Named t) (Arguments a))) h)
valued_part s place (standing.Named t) (Attribute name) v h =
    valued_of_calm (select s (standing.Named t) (Attribute name)) (subtype_calm t (form_at s t.type_number) name.name) (unbroken _ place (is_doubtful (select s (standing.Named t) (Attribute name))) h)
valued_part s place (standing.Given t u) x v h = cc
valued_part s place (standing.Plain z) x v h = cc
valued_part s place standing.Other x v h = cc
valued_part s place standing.Task (Component name) v h = cc
valued_part s place standing.Task (Arguments a) v h = cc
valued_part s place standing.Task (Attribute name) v h = cc
valued_part s place (standing.Callee f) x v h = cc
valued_part s place standing.Put x v h = cc
valued_part s place (standing.Protected n) x v h = cc
valued_part s place standing.Statement x v h = cc
valued_part s place standing.Doubtful x v h = cc

part_of_selector : (s : Scope) (place : ℕ) (w : Standing) (x : SelectorTree) → selector_faults s place w x ≡ [] → part_rule s place w x ≡ []
part_of_selector s place w (Component name) h = h
part_of_selector s place w (Arguments a) h = front_empty (part_rule s place w (Arguments a)) (arguments_faults s w 0 a) h
part_of_selector s place w (Attribute name) h = h

settled_valued : (s : Scope) (place : ℕ) (w : Standing) → is_valued w ≡ true → call_rule place (settle s w) ≡ [] → ⊥
settled_valued s place (standing.Part r t) v h = cc
settled_valued s place (standing.Fixed t u) v h = cc
settled_valued s place (standing.Given t u) v h = cc
settled_valued s place (standing.Plain z) v h = cc
settled_valued s place (standing.Named t) v h = cc
settled_valued s place standing.Task v h = cc
settled_valued s place standing.Other v h = cc
settled_valued s place (standing.Callee f) v h = cc
settled_valued s place standing.Put v h = cc
settled_valued s place (standing.Protected n) v h = cc
settled_valued s place standing.Statement v h = cc
settled_valued s place standing.Doubtful v h = cc

pub no_call : (s : Scope) (place : ℕ) (w : Standing) (selectors : SelectorTrees) → is_valued w ≡ true → selectors_faults s place w selectors ≡ [] → call_rule place (select_all s w selectors) ≡ [] → ⊥
no_call s place w NoSelectors v legal called = settled_valued s place w v called
no_call s place w (MoreSelectors x rest) v legal called =
    no_call s place (select s w x) rest (valued_part s place w x v (part_of_selector s place w x (front_empty (selector_faults s place w x) (selectors_faults s place (select s w x) rest) legal)))
    (back_empty (selector_faults s place w x) (selectors_faults s place (select s w x) rest) legal) called

-- ---- what is called, with its actuals

-- nothing stands behind a call
ends_there : (s : Scope) (place : ℕ) (rest : SelectorTrees) → selectors_faults s place standing.Statement rest ≡ [] → rest ≡ NoSelectors
ends_there s place NoSelectors h = refl
ends_there s place (MoreSelectors (Component name) rest) h = cc
ends_there s place (MoreSelectors (Arguments a) rest) h = cc
ends_there s place (MoreSelectors (Attribute name) rest) h = cc

abbrev pub HasArguments : SelectorTrees → ArgumentTrees → Type 0
HasArguments selectors a = ((selectors ≡ NoSelectors) × (a ≡ NoArguments)) ⊎ (selectors ≡ MoreSelectors (Arguments a) NoSelectors)

pub record IsCall (s : Scope) (f : Callee) (profile : Profile) (selectors : SelectorTrees) : Type 0 where
  pub none : profile.result ≡ None
  pub arguments : ArgumentTrees
  pub written : HasArguments selectors arguments
  pub counted : count arguments ≡ length profile.formals
  pub legal : arguments_faults s (standing.Callee f) 0 arguments ≡ []

counted_is : (place n m : ℕ) → count_rule place n m ≡ [] → n ≡ m
counted_is place n m h = same_number n m (not_false (nat_eq n m) (unbroken _ place (not (nat_eq n m)) h))

no_result : (s : Scope) (place : ℕ) (o : Option Profile) (profile : Profile) → o ≡ Some profile → call_rule place (call_stands o) ≡ [] → profile.result ≡ None
no_result s place o profile is h = by_result profile.result (subst (λ x. call_rule place (call_stands x) ≡ []) is h)
  where
    by_result : (r : Option Subtype) → call_rule place (result_stands r) ≡ [] → r ≡ None
    by_result None k = refl
    by_result (Some t) k = cc

pub called_with : (s : Scope) (place : ℕ) (f : Callee) (profile : Profile) (selectors : SelectorTrees) → callee_profile s f ≡ Some profile
    → selectors_faults s place (standing.Callee f) selectors ≡ [] → call_rule place (select_all s (standing.Callee f) selectors) ≡ [] → IsCall s f profile selectors
called_with s place f profile NoSelectors is legal called =
    record {
      none = no_result s place (callee_profile s f) profile is called;
      arguments = NoArguments;
      written = inl (refl, refl);
      counted = counted_is place 0 (length profile.formals) (subst (λ o. count_rule place 0 (length (profile_formals o)) ≡ []) is legal);
      legal = refl;
    }
called_with s place f profile (MoreSelectors (Component name) rest) is legal called = cc
called_with s place f profile (MoreSelectors (Attribute name) rest) is legal called = cc
called_with s place f profile (MoreSelectors (Arguments a) rest) is legal called = by_result profile.result refl
  where
    after : Standing
    after = call_stands (callee_profile s f)

    front : part_rule s place (standing.Callee f) (Arguments a) ++ arguments_faults s (standing.Callee f) 0 a ≡ []
    front = front_empty (part_rule s place (standing.Callee f) (Arguments a) ++ arguments_faults s (standing.Callee f) 0 a) (selectors_faults s place after rest) legal

    behind : selectors_faults s place after rest ≡ []
    behind = back_empty (part_rule s place (standing.Callee f) (Arguments a) ++ arguments_faults s (standing.Callee f) 0 a) (selectors_faults s place after rest) legal

    stands : (r : Option Subtype) → profile.result ≡ r → after ≡ result_stands r
    stands r e = ap call_stands is ∙ ap result_stands e

    by_result : (r : Option Subtype) → profile.result ≡ r → IsCall s f profile (MoreSelectors (Arguments a) rest)
    by_result None e =
        let end = ends_there s place rest (subst (λ w. selectors_faults s place w rest ≡ []) (stands None e) behind) in
        record {
          none = e;
          arguments = a;
          written = inr (ap (MoreSelectors (Arguments a)) end);
          counted = counted_is place (count a) (length profile.formals)
              (subst (λ o. count_rule place (count a) (length (profile_formals o)) ≡ []) is (front_empty (part_rule s place (standing.Callee f) (Arguments a)) (arguments_faults s (standing.Callee f) 0 a) front));
          legal = back_empty (part_rule s place (standing.Callee f) (Arguments a)) (arguments_faults s (standing.Callee f) 0 a) front;
        }
    by_result (Some t) e =
        absurd
        (no_call s place (standing.Given t None) rest refl (subst (λ w. selectors_faults s place w rest ≡ []) (stands (Some t) e) behind)
        (subst (λ w. call_rule place (select_all s w rest) ≡ []) (stands (Some t) e) called))

-- ---- operations of protected objects

pub record IsOperationCall (s : Scope) (n : ℕ) (o : ProtectedObject) (selectors : SelectorTrees) : Type 0 where
  pub name : Identifier
  pub rest : SelectorTrees
  pub written : selectors ≡ MoreSelectors (Component name) rest
  pub place : ℕ
  pub found : position (λ x. bytes_eq x.name name.name) o.operations ≡ Some place
  pub operation : Operation
  pub there : slice_get o.operations place ≡ Some operation
  pub call : IsCall s (callee.Operation n place) operation.profile rest

pub operation_called : (s : Scope) (place n : ℕ) (o : ProtectedObject) (selectors : SelectorTrees) → protected_at s n ≡ Some o → selectors_faults s place (standing.Protected n) selectors ≡ []
    → call_rule place (select_all s (standing.Protected n) selectors) ≡ [] → IsOperationCall s n o selectors
operation_called s place n o NoSelectors is legal called = cc
operation_called s place n o (MoreSelectors (Arguments a) rest) is legal called = cc
operation_called s place n o (MoreSelectors (Attribute name) rest) is legal called = cc
operation_called s place n o (MoreSelectors (Component name) rest) is legal called = by_place (position test o.operations) refl
  where
    test : Operation → Bool
    test x = bytes_eq x.name name.name

    certain : is_none (position test o.operations) ≡ false
    certain =
        unbroken _ name.place (is_none (position test o.operations))
        (subst (λ p. operation_rule name p ≡ []) is (front_empty (operation_rule name (protected_at s n)) (selectors_faults s place (operation_stands n (protected_at s n) name.name) rest) legal))

    by_place : (k : Option ℕ) → position test o.operations ≡ k → IsOperationCall s n o (MoreSelectors (Component name) rest)
    by_place None e = let bad = sym (ap is_none e) ∙ certain in cc
    by_place (Some k) e =
        let x = found_at test o.operations k e in
        let stands : operation_stands n (protected_at s n) name.name ≡ standing.Callee (callee.Operation n k) = ap (λ p. operation_stands n p name.name) is ∙ ap (called_operation n) e in
        let profile : callee_profile s (callee.Operation n k) ≡ Some x.0.profile = ap (λ p. profile_among p k) is ∙ ap operation_profile x.1 in
        record {
          name = name;
          rest = rest;
          written = refl;
          place = k;
          found = e;
          operation = x.0;
          there = x.1;
          call = called_with s place (callee.Operation n k) x.0.profile rest profile
              (subst (λ w. selectors_faults s place w rest ≡ []) stands (back_empty (operation_rule name (protected_at s n)) (selectors_faults s place (operation_stands n (protected_at s n) name.name) rest) legal))
              (subst (λ w. call_rule place (select_all s w rest) ≡ []) stands called);
        }

-- ---- Put

pub record IsPutCall (s : Scope) (selectors : SelectorTrees) : Type 0 where
  pub label : List ℕ
  pub at : ℕ
  pub value : ExprTree
  pub written : selectors ≡ MoreSelectors (Arguments (MoreArguments (Text label at) (MoreArguments (tree.Value value) NoArguments))) NoSelectors
  pub legal : faults_of s (OfType integer_type) value ≡ []

-- the label stands as a text
no_label : (s : Scope) (d : ExprTree) → argument_faults s (slot_at s standing.Put 0) (tree.Value d) ≡ [] → ⊥
no_label s d h = let bad = back_empty (faults_in s (slot_wanted (slot_at s standing.Put 0)) d) (slot_rule s (slot_at s standing.Put 0) d (own_of s d)) h in cc

pub put_called : (s : Scope) (place : ℕ) (selectors : SelectorTrees) → selectors_faults s place standing.Put selectors ≡ [] → IsPutCall s selectors
put_called s place NoSelectors legal = cc
put_called s place (MoreSelectors (Component name) rest) legal = cc
put_called s place (MoreSelectors (Attribute name) rest) legal = cc
put_called s place (MoreSelectors (Arguments NoArguments) rest) legal = cc
put_called s place (MoreSelectors (Arguments (MoreArguments x NoArguments)) rest) legal = cc
put_called s place (MoreSelectors (Arguments (MoreArguments x (MoreArguments y (MoreArguments z more)))) rest) legal =
    let all = MoreArguments x (MoreArguments y (MoreArguments z more)) in
    let own = part_rule s place standing.Put (Arguments all) in
    let front = front_empty (own ++ arguments_faults s standing.Put 0 all) (selectors_faults s place standing.Statement rest) legal in
    let counted : count all ≡ 2 = counted_is place (count all) 2 (front_empty own (arguments_faults s standing.Put 0 all) front) in
    absurd (omega (arith, counted))
put_called s place (MoreSelectors (Arguments (MoreArguments (tree.Value d) (MoreArguments y NoArguments))) rest) legal =
    let first = argument_faults s (slot_at s standing.Put 0) (tree.Value d) in
    let others = arguments_faults s standing.Put 1 (MoreArguments y NoArguments) in
    absurd (no_label s d (front_empty first others (front_empty (first ++ others) (selectors_faults s place standing.Statement rest) legal)))
put_called s place (MoreSelectors (Arguments (MoreArguments (Text label at) (MoreArguments (Text other there) NoArguments))) rest) legal = cc
put_called s place (MoreSelectors (Arguments (MoreArguments (Text label at) (MoreArguments (tree.Value e) NoArguments))) rest) legal =
    let own = argument_faults s (slot_at s standing.Put 1) (tree.Value e) in
    let front = front_empty (own ++ []) (selectors_faults s place standing.Statement rest) legal in
    record {
      label = label;
      at = at;
      value = e;
      written = ap (MoreSelectors (Arguments (MoreArguments (Text label at) (MoreArguments (tree.Value e) NoArguments))))
          (ends_there s place rest (back_empty (own ++ []) (selectors_faults s place standing.Statement rest) legal));
      legal = front_empty own [] front;
    }
