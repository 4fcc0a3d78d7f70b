-- A legal name of a variable names a target: by recursion on its parts.
use Rattle.std.proofs.Common.{◌≡◌, ◌++◌, ℕ, zero, ◌<◌, List, [], ◌∷◌, Bool, true, false, not, ◌⊎◌, inl, inr, Option, Some, None, refl, sym, ap, ◌∙◌, subst, arith}
use Rattle.std.specs.Prelude.{bytes_eq, codes, cond, is_none, nat_lt, pos, position, unsigned_abs, ◌-ℤ◌}
use Rattle.std.proofs.lemmas.Slice.Eq.{bytes_eq-Decides}
use Rattle.meaning.specs.ada_tree.specs.declared.expression.Identifier.{Identifier}
use Rattle.meaning.specs.ada_tree.specs.ExpressionTree.{SelectorTrees, NoSelectors, MoreSelectors, SelectorTree, Component, Arguments, Attribute, ArgumentTrees}
use Rattle.meaning.specs.types.specs.declared.entity.Subtype.{Subtype}
use Rattle.meaning.specs.types.specs.declared.entity.Role.{Role}
use Rattle.meaning.specs.types.specs.declared.entity.Role.TheVariants as role
use Rattle.meaning.specs.types.specs.declared.entity.Value.{Value as Scalar}
use Rattle.meaning.specs.types.specs.declared.standing.Standing.{Standing}
use Rattle.meaning.specs.types.specs.declared.standing.Standing.TheVariants as standing
use Rattle.meaning.specs.types.specs.Entities.{TypeForm, Integers, Booleans, Times, Spans, Arrays, Records, Profile, ProtectedObject, Entity, OfType, OfSubtype, Constant, Literal, Exception, Subprogram, Entry, Predefined, Put, Task, Protected, LibraryUnit, Doubtful}
use Rattle.meaning.specs.types.specs.Entities as entity
use Rattle.meaning.specs.types.specs.Scopes.{Scope, entity_at, form_at, is_visible, number_of, protected_at}
use Rattle.meaning.specs.types.specs.Standings as standings
use Rattle.meaning.specs.types.specs.Standings.{count, array_attribute, bound_stands, bounds_stand, call_stands, called_operation, callee_profile, component_of, component_stands, conversion_stands, element_stands, is_single, object_attribute, operation_stands, result_stands, select, select_all, settle, standing_of, stands_first, stands_for, subtype_attribute}
use Rattle.meaning.specs.types.specs.Values.{Value, Number, fits}
use Rattle.meaning.specs.types.specs.Shapes.{has_shape, shape_of}
use Rattle.meaning.specs.types.specs.Evaluations.{Val, Gives, Raises, Meaningless, and_then}
use Rattle.meaning.specs.types.specs.Places.{Object, Function, Place, Meaning, IsObject, function_meaning, meaning_in_scope, meaning_of, meaning_of_entity, meaning_or, object_meaning, object_of, or_else, own_components, own_function, package_function}
use Rattle.meaning.specs.types.specs.Evaluating.{Calls, actuals_with, call}
use Rattle.meaning.specs.expr_rules.specs.declared.own.Own.TheVariants.{Typed}
use Rattle.meaning.specs.expr_rules.specs.declared.own.Wanted.TheVariants.{Anything}
use Rattle.meaning.specs.expr_rules.specs.Faults.{rule}
use Rattle.meaning.specs.expr_rules.specs.Typing.{is_integers}
use Rattle.meaning.specs.expr_rules.specs.NameRules.{component_rule, index_slot, is_doubtful, mismatch, part_rule, variable_rule}
use Rattle.meaning.specs.expr_rules.specs.ExpressionRules.{arguments_faults, selector_faults, selectors_faults, target_faults}
use Rattle.meaning.specs.expr_rules.proofs.TypedLaw.{as_number, back_empty, front_empty, integral_numeric, unbroken}
use Rattle.meaning.specs.Works.{Part, Element, Field, Home, InActivation, InPackage, InObject, Target, Store, Activation}
use Rattle.meaning.specs.Targets.{all_selected, element_of, first_of, object_named, own_component, part_of, selected, target, target_or_nothing, whole}
use Rattle.expr_soundness.specs.SoundScopes.{IsKnown, IsSoundObject, SoundScope}
use Rattle.expr_soundness.specs.Agreeing.{Agrees, Means, MeansObject, MeansOne}
use Rattle.expr_soundness.specs.Answers.{CallsAnswer, FunctionsAreSound}
use Rattle.expr_soundness.specs.Variables.{IsTargetThere, NamesTarget, part_in, seen_by}
use Rattle.expr_soundness.proofs.Positions.{named, same_some}
use Rattle.expr_soundness.proofs.FixedNames.{same_form}
use Rattle.expr_soundness.proofs.Goods.{Good, GoodCallee, good_first, good_select, no_constant_parts, no_integer_parts, not_none, part_unbroken, sound_form}
use Rattle.expr_soundness.proofs.Elements.{index_within}
use Rattle.expr_soundness.proofs.Applying.{ActualsSuit}
use Rattle.expr_soundness.proofs.Arguments.{SlotFits, single_one}
use Rattle.expr_soundness.proofs.Expressions.{actuals_suit, not_false}
use Rattle.expr_soundness.proofs.Calls.{calls_answer}
use Rattle.expr_soundness.proofs.Storing.{part_more, parts_known}

below_test : (k n : ℕ) → k < n → nat_lt k n ≡ true
below_test k n h = grind (arith, h)

-- ---- what is no object

abbrev is_part : Standing → Bool
is_part (standing.Part r t) = true
is_part w = false

-- an object or a constant
abbrev has_parts : Standing → Bool
has_parts (standing.Part r t) = true
has_parts (standing.Fixed t v) = true
has_parts w = false

bounds_apart : (t : Subtype) (name : List ℕ) → is_part (bounds_stand t name) ≡ false
bounds_apart t name = by_first (bytes_eq name (codes "FIRST")) (bytes_eq name (codes "LAST"))
  where
    by_first : (a b : Bool) → is_part (cond a (bound_stands t t.first) (cond b (bound_stands t t.last) standing.Doubtful)) ≡ false
    by_first true b = refl
    by_first false true = refl
    by_first false false = refl

array_apart : (index : Subtype) (size : ℕ) (name : List ℕ) → is_part (array_attribute index size name) ≡ false
array_apart index size name = by_test (bytes_eq name (codes "LENGTH"))
  where
    by_test : (b : Bool) → is_part (cond b (standing.Plain (pos size)) (bounds_stand index name)) ≡ false
    by_test true = refl
    by_test false = bounds_apart index name

object_apart : (o : Option TypeForm) (name : List ℕ) → is_part (object_attribute o name) ≡ false
object_apart (Some (Arrays index size element)) name = array_apart index size name
object_apart o name = refl

subtype_apart : (t : Subtype) (o : Option TypeForm) (name : List ℕ) → is_part (subtype_attribute t o name) ≡ false
subtype_apart t (Some Integers) name = bounds_apart t name
subtype_apart t (Some (Arrays index size element)) name = array_apart index size name
subtype_apart t o name = refl

conversion_apart : (t : Subtype) (o : Option TypeForm) (single : Bool) → is_part (conversion_stands t o single) ≡ false
conversion_apart t (Some Integers) true = refl
conversion_apart t o single = refl

call_apart : (o : Option Profile) → is_part (call_stands o) ≡ false
call_apart (Some p) = by_result p.result
  where
    by_result : (r : Option Subtype) → is_part (result_stands r) ≡ false
    by_result (Some t) = refl
    by_result None = refl
call_apart None = refl

operation_apart : (n : ℕ) (o : Option ProtectedObject) (name : List ℕ) → is_part (operation_stands n o name) ≡ false
operation_apart n (Some p) name = by_place (position (λ o. bytes_eq o.name name) p.operations)
  where
    by_place : (k : Option ℕ) → is_part (called_operation n k) ≡ false
    by_place (Some k) = refl
    by_place None = refl
operation_apart n None name = refl

select_apart : (s : Scope) (w : Standing) (x : SelectorTree) → has_parts w ≡ false → is_part (select s w x) ≡ false
select_apart s (standing.Named t) (Arguments a) h = conversion_apart t (form_at s t.type_number) (is_single a)
select_apart s (standing.Named t) (Attribute name) h = subtype_apart t (form_at s t.type_number) name.name
select_apart s (standing.Named t) (Component name) h = refl
select_apart s (standing.Callee f) (Arguments a) h = call_apart (callee_profile s f)
select_apart s (standing.Callee f) (Component name) h = refl
select_apart s (standing.Callee f) (Attribute name) h = refl
select_apart s (standing.Protected n) (Component name) h = operation_apart n (protected_at s n) name.name
select_apart s (standing.Protected n) (Arguments a) h = refl
select_apart s (standing.Protected n) (Attribute name) h = refl
select_apart s standing.Put (Arguments a) h = refl
select_apart s standing.Put (Component name) h = refl
select_apart s standing.Put (Attribute name) h = refl
select_apart s (standing.Given t v) x h = refl
select_apart s (standing.Plain z) x h = refl
select_apart s standing.Statement x h = refl
select_apart s standing.Task x h = refl
select_apart s standing.Other x h = refl
select_apart s standing.Doubtful x h = refl
select_apart s (standing.Part r t) x h = cc
select_apart s (standing.Fixed t v) x h = cc

module _ (s : Scope) (sound : SoundScope s) where
  call_changes : (place : ℕ) (o : Option Profile) → GoodCallee s o → variable_rule s place Anything (call_stands o) ≡ [] → ⊥
  call_changes place (Some p) g v = by_result p.result v
    where
      by_result : (r : Option Subtype) → variable_rule s place Anything (result_stands r) ≡ [] → ⊥
      by_result (Some t) v = cc
      by_result None v = cc
  call_changes place None g v = g

  settled_apart : (place : ℕ) (w : Standing) → is_part w ≡ false → Good s w → variable_rule s place Anything (settle s w) ≡ [] → ⊥
  settled_apart place (standing.Part r t) h g v = cc
  settled_apart place (standing.Fixed t c) h g v = let k = back_empty (mismatch s Anything (Typed t.type_number) place) (rule 13 place true) v in cc
  settled_apart place (standing.Callee f) h g v = call_changes place (callee_profile s f) g v
  settled_apart place standing.Doubtful h g v = g
  settled_apart place (standing.Given t c) h g v = cc
  settled_apart place (standing.Plain z) h g v = cc
  settled_apart place (standing.Named t) h g v = cc
  settled_apart place (standing.Protected n) h g v = cc
  settled_apart place standing.Put h g v = cc
  settled_apart place standing.Statement h g v = cc
  settled_apart place standing.Task h g v = cc
  settled_apart place standing.Other h g v = cc

  part_or_none : (w : Standing) → is_part w ≡ false → (has_parts w ≡ false) ⊎ ((t : Subtype) × (v : Option Scalar) × (w ≡ standing.Fixed t v))
  part_or_none (standing.Part r t) h = cc
  part_or_none (standing.Fixed t v) h = inr (t, v, refl)
  part_or_none (standing.Given t v) h = inl refl
  part_or_none (standing.Plain z) h = inl refl
  part_or_none (standing.Named t) h = inl refl
  part_or_none (standing.Callee f) h = inl refl
  part_or_none standing.Put h = inl refl
  part_or_none (standing.Protected n) h = inl refl
  part_or_none standing.Statement h = inl refl
  part_or_none standing.Task h = inl refl
  part_or_none standing.Other h = inl refl
  part_or_none standing.Doubtful h = inl refl

  -- no name that begins with it is one of a variable
  apart_ends : (place : ℕ) (selectors : SelectorTrees) (w : Standing) → is_part w ≡ false → Good s w → selectors_faults s place w selectors ≡ []
      → variable_rule s place Anything (select_all s w selectors) ≡ [] → ⊥
  apart_ends place NoSelectors w e g h v = settled_apart place w e g v
  apart_ends place (MoreSelectors x rest) w e g h v =
      let here = part_unbroken s sound place w x (front_empty (selector_faults s place w x) (selectors_faults s place (select s w x) rest) h) in
      let later = back_empty (selector_faults s place w x) (selectors_faults s place (select s w x) rest) h in
      elim (part_or_none w e) [
        | inl k ↦ apart_ends place rest (select s w x) (select_apart s w x k) (good_select s sound place w x g here) later v
        | inr k ↦ no_constant_parts s sound place k.0 k.1 x (subst (Good s) k.2 g) (subst (λ u. part_rule s place u x ≡ []) k.2 here)
      ]

-- ---- the object

abbrev IsThis : Object → Subtype → Value → Type 0
IsThis x t v = (x.subtype ≡ t) × (x.value ≡ v)

same_object : (x : Object) (t : Subtype) (v : Value) → IsObject x.subtype x.value ≡ IsObject t v → IsThis x t v
same_object x t v h =
    let type : Meaning → Subtype = λ m. elim m [ IsObject u w ↦ u | n ↦ t ] in
    let value : Meaning → Value = λ m. elim m [ IsObject u w ↦ w | n ↦ v ] in
    (ap type h, ap value h)

-- where an object is found: among the local ones, the components, the package's
abbrev Found : Option Object → Option Object → Option Object → Subtype → Value → Type 0
Found o c q t v =
    ((x : Object) × (o ≡ Some x) × IsThis x t v) ⊎ (((o ≡ None) × ((x : Object) × (c ≡ Some x) × IsThis x t v)) ⊎ ((o ≡ None) × (c ≡ None) × ((x : Object) × (q ≡ Some x) × IsThis x t v)))

found_object : (o c : Option Object) (f : Option Function) (q : Option Object) (g : Option Function) (last : Meaning) (t : Subtype) (v : Value)
    → (last ≡ IsObject t v → ⊥)
    → meaning_or (or_else (object_meaning (or_else o c)) (function_meaning f)) (meaning_or (or_else (object_meaning q) (function_meaning g)) last) ≡ IsObject t v
    → Found o c q t v
found_object (Some x) c f q g last t v never h = inl (x, refl, same_object x t v h)
found_object None (Some x) f q g last t v never h = inr (inl (refl, (x, refl, same_object x t v h)))
found_object None None (Some y) q g last t v never h = cc
found_object None None None (Some x) g last t v never h = inr (inr (refl, refl, (x, refl, same_object x t v h)))
found_object None None None None (Some y) last t v never h = cc
found_object None None None None None last t v never h = absurd (never h)

entity_no_object : (e : Option Entity) (t : Subtype) (v : Value) → meaning_of_entity e ≡ IsObject t v → ⊥
entity_no_object (Some (OfType form u)) t v h = cc
entity_no_object (Some (OfSubtype u)) t v h = cc
entity_no_object (Some (Predefined o p)) t v h = cc
entity_no_object (Some (Protected o)) t v h = cc
entity_no_object e t v h = cc

scope_no_object : (s : Scope) (k : Option ℕ) (t : Subtype) (v : Value) → meaning_in_scope s k ≡ IsObject t v → ⊥
scope_no_object s (Some n) t v h = entity_no_object (entity_at s n) t v h
scope_no_object s None t v h = cc

pub object_name : (objects : List Object) (name : List ℕ) (x : Object) → object_of objects name ≡ Some x → x.name ≡ name
object_name [] name x h = cc
object_name (y ∷ rest) name x h = by_test (bytes_eq y.name name) refl h (object_name rest name x)
  where
    by_test : (b : Bool) → bytes_eq y.name name ≡ b → cond b (Some y) (object_of rest name) ≡ Some x → (object_of rest name ≡ Some x → x.name ≡ name)
        → x.name ≡ name
    by_test true e k later = ap (λ z. z.name) (sym (same_some y x k)) ∙ (bytes_eq-Decides y.name name).0 e
    by_test false e k later = later k

module _ (s : Scope) (p : Place) (m : Store) (a : Activation) (agrees : Agrees s (seen_by p m a)) where
  -- the object that a name means is the one that it names
  record IsNamedBy (name : List ℕ) (t : Subtype) : Type 0 where
    target : Target
    is : object_named (seen_by p m a) name ≡ Some target
    there : IsTargetThere s target m a
    same : target.subtype ≡ t

  abbrev objects_at : Home → List Object
  objects_at home = elim home [ InActivation ↦ a.locals | InPackage ↦ m.variables | InObject o ↦ m.components o ]

  named_at : (home : Home) (name : List ℕ) (x : Object) (t : Subtype) (v : Value) → object_of (objects_at home) name ≡ Some x → IsThis x t v → IsKnown s t
      → has_shape (shape_of s t) v ≡ true
      → object_named (seen_by p m a) name ≡ whole home (Some x) → IsNamedBy name t
  named_at home name x t v found this known suited is =
      record {
        target = record { home = home; name = x.name; parts = []; subtype = x.subtype };
        is = is;
        there =
            record {
              object = x;
              there = ap (object_of (objects_at home)) (object_name (objects_at home) name x found) ∙ found;
              known = subst (IsKnown s) (sym this.0) known;
              suited = subst (λ u. has_shape (shape_of s u) x.value ≡ true) (sym this.0) (ap (has_shape (shape_of s t)) this.1 ∙ suited);
              part = refl;
            };
        same = this.0;
      }

  component_named : (within : Option ℕ) (name : List ℕ) (x : Object) → object_of (own_components (seen_by p m a) within) name ≡ Some x
      → (o : ℕ) × (object_of (m.components o) name ≡ Some x) × (own_component (seen_by p m a) within name ≡ whole (InObject o) (Some x))
  component_named (Some o) name x h = (o, h, ap (whole (InObject o)) h)
  component_named None name x h = cc

  component_missing : (within : Option ℕ) (name : List ℕ) → object_of (own_components (seen_by p m a) within) name ≡ None
      → own_component (seen_by p m a) within name ≡ None
  component_missing (Some o) name h = ap (whole (InObject o)) h
  component_missing None name h = refl

  object_is_named : (name : List ℕ) (t : Subtype) → IsKnown s t → MeansObject s (meaning_of (seen_by p m a) name) t → IsNamedBy name t
  object_is_named name t known d =
      by_place
      (found_object (object_of a.locals name) (object_of (own_components (seen_by p m a) a.within) name) (own_function (seen_by p m a) name) (object_of m.variables name) (package_function (seen_by p m a) name)
      (meaning_in_scope p.scope (number_of p.scope name)) t d.value (scope_no_object p.scope (number_of p.scope name) t d.value) d.is)
    where
      by_place : Found (object_of a.locals name) (object_of (own_components (seen_by p m a) a.within) name) (object_of m.variables name) t d.value
          → IsNamedBy name t
      by_place (inl x) =
          named_at InActivation name x.0 t d.value x.1 x.2 known d.suited
          (ap (λ o. first_of (whole InActivation o) (first_of (own_component (seen_by p m a) a.within name) (whole InPackage (object_of m.variables name)))) x.1)
      by_place (inr (inl x)) =
          let c = component_named a.within name x.1.0 x.1.1 in
          named_at (InObject c.0) name x.1.0 t d.value c.1 x.1.2 known d.suited
          (ap (λ o. first_of (whole InActivation o) (first_of (own_component (seen_by p m a) a.within name) (whole InPackage (object_of m.variables name)))) x.0
          ∙ ap (λ o. first_of o (whole InPackage (object_of m.variables name))) c.2)
      by_place (inr (inr x)) =
          named_at InPackage name x.2.0 t d.value x.2.1 x.2.2 known d.suited
          (ap (λ o. first_of (whole InActivation o) (first_of (own_component (seen_by p m a) a.within name) (whole InPackage (object_of m.variables name)))) x.0
          ∙ ap (λ o. first_of o (whole InPackage (object_of m.variables name))) (component_missing a.within name x.1)
          ∙ ap (whole InPackage) x.2.1)

  -- ---- its parts

  module _ (calls : Calls) (answers : CallsAnswer calls (seen_by p m a)) where
    abbrev place : Place
    place = seen_by p m a

    abbrev Names : Role → SelectorTrees → Target → Type 0
    Names r selectors x =
        (at : ℕ) → IsTargetThere s x m a → selectors_faults s at (standing.Part r x.subtype) selectors ≡ [] → variable_rule s at Anything (select_all s (standing.Part r x.subtype) selectors) ≡ []
        → NamesTarget s (select_all s (standing.Part r x.subtype) selectors) m a (all_selected calls place selectors x)

    abbrev with_more : Target → Part → Subtype → Target
    with_more x part u = record x { parts = x.parts ++ part ∷ []; subtype = u }

    known_part : (x : Target) → IsTargetThere s x m a → IsKnown s x.subtype
    known_part x there = parts_known s agrees.sound x.parts there.object.subtype x.subtype there.known there.part

    more_there : (x : Target) (part : Part) (u : Subtype) → IsTargetThere s x m a → part_in (form_at s x.subtype.type_number) part ≡ Some u
        → IsTargetThere s (with_more x part u) m a
    more_there x part u there h =
        record {
          object = there.object;
          there = there.there;
          known = there.known;
          suited = there.suited;
          part = part_more s agrees.sound x.parts there.object.subtype x.subtype u part there.part h;
        }

    same_place_form : (x : Target) (form : TypeForm) → form_at s x.subtype.type_number ≡ Some form → form_at p.scope x.subtype.type_number ≡ Some form
    same_place_form x form h = agrees.forms x.subtype.type_number form h

    -- what follows a part
    part_follows : (r : Role) (rest : SelectorTrees) (x : Target) (part : Part) (u : Subtype) → IsTargetThere s x m a
        → part_in (form_at s x.subtype.type_number) part ≡ Some u → (at : ℕ)
        → selectors_faults s at (standing.Part r u) rest ≡ [] → variable_rule s at Anything (select_all s (standing.Part r u) rest) ≡ []
        → Names r rest (with_more x part u)
        → NamesTarget s (select_all s (standing.Part r u) rest) m a (and_then (part_of x part (Some u)) (all_selected calls place rest))
    part_follows r rest x part u there h at faults v goes = goes at (more_there x part u there h) faults v

    abbrev Goes : Role → SelectorTrees → Type 0
    Goes r rest = (x : Target) → Names r rest x

    component_selected : (r : Role) (rest : SelectorTrees) (name : Identifier) (x : Target) (o : Option TypeForm) → form_at s x.subtype.type_number ≡ o
        → (at : ℕ) → IsTargetThere s x m a → component_rule at name o ≡ []
        → selectors_faults s at (component_stands r o name.name) rest ≡ []
        → variable_rule s at Anything (select_all s (component_stands r o name.name) rest) ≡ [] → Goes r rest
        → NamesTarget s (select_all s (component_stands r o name.name) rest) m a (and_then (selected calls place x o (Component name)) (all_selected calls place rest))
    component_selected r rest name x (Some (Records cs)) e at there broken faults v goes =
        let found = not_none (component_of cs name.name) (unbroken 10 name.place (is_none (component_of cs name.name)) broken) in
        let part : part_in (form_at s x.subtype.type_number) (Field name.name) ≡ Some found.0 = ap (λ o. part_in o (Field name.name)) e ∙ found.1 in
        subst (λ c. NamesTarget s (select_all s (standings.part_of r c) rest) m a (and_then (part_of x (Field name.name) c) (all_selected calls place rest))) (sym found.1)
        (part_follows r rest x (Field name.name) found.0 there part at (subst (λ c. selectors_faults s at (standings.part_of r c) rest ≡ []) found.1 faults)
        (subst (λ c. variable_rule s at Anything (select_all s (standings.part_of r c) rest) ≡ []) found.1 v) (goes (with_more x (Field name.name) found.0)))
    component_selected r rest name x o e at there broken faults v goes = cc

    -- an index is evaluated and checked
    element_follows : (r : Role) (rest : SelectorTrees) (x : Target) (index : Subtype) (size : ℕ) (element : Subtype) (vs : Val (List Value))
        → form_at s x.subtype.type_number ≡ Some (Arrays index size element) → (at : ℕ) → IsTargetThere s x m a
        → ActualsSuit s (index ∷ []) vs → selectors_faults s at (standing.Part r element) rest ≡ []
        → variable_rule s at Anything (select_all s (standing.Part r element) rest) ≡ [] → Goes r rest
        → NamesTarget s (select_all s (standing.Part r element) rest) m a (and_then (and_then vs (element_of x index element)) (all_selected calls place rest))
    element_follows r rest x index size element (Raises n) e at there suits faults v goes = tt
    element_follows r rest x index size element Meaningless e at there suits faults v goes = absurd suits
    element_follows r rest x index size element (Gives []) e at there suits faults v goes = absurd suits
    element_follows r rest x index size element (Gives (y ∷ z ∷ vs)) e at there suits faults v goes = absurd suits.2
    element_follows r rest x index size element (Gives (y ∷ [])) e at there suits faults v goes =
        let part = sound_form s agrees.sound x.subtype.type_number (Arrays index size element) e in
        let number = as_number s (Typed index.type_number) y (integral_numeric s (Typed index.type_number) part.integers) suits.0 in
        let inside : fits index (Number number.0) ≡ true = ap (fits index) (sym number.1) ∙ suits.1 in
        let position = unsigned_abs (number.0 -ℤ index.first) in
        let less : position < size = subst (λ k. position < k) (sym part.counted) (index_within index number.0 inside) in
        let test = below_test position size less in
        let has : part_in (form_at s x.subtype.type_number) (Element position) ≡ Some element = ap (λ o. part_in o (Element position)) e ∙ ap (λ b. cond b (Some element) None) test in
        subst (λ w. NamesTarget s (select_all s (standing.Part r element) rest) m a (and_then (element_of x index element (w ∷ [])) (all_selected calls place rest))) (sym number.1)
        (part_follows r rest x (Element position) element there has at faults v (goes (with_more x (Element position) element)))

    element_selected : (r : Role) (rest : SelectorTrees) (xs : ArgumentTrees) (x : Target) (o : Option TypeForm) (single : Bool)
        → form_at s x.subtype.type_number ≡ o → is_single xs ≡ single → (at : ℕ) → IsTargetThere s x m a
        → is_doubtful (element_stands r o single) ≡ false → arguments_faults s (standing.Part r x.subtype) zero xs ≡ []
        → selectors_faults s at (element_stands r o single) rest ≡ []
        → variable_rule s at Anything (select_all s (element_stands r o single) rest) ≡ [] → Goes r rest
        → NamesTarget s (select_all s (element_stands r o single) rest) m a (and_then (selected calls place x o (Arguments xs)) (all_selected calls place rest))
    element_selected r rest xs x (Some (Arrays index size element)) true e one at there doubt inside faults v goes =
        let slot : SlotFits s (index_slot (form_at s x.subtype.type_number)) index = subst (λ o. SlotFits s (index_slot o) index) (sym e) refl in
        element_follows r rest x index size element (actuals_with calls place xs (index ∷ [])) e at there
        (actuals_suit s place agrees calls answers xs (standing.Part r x.subtype) zero (index ∷ []) (slot, tt) (single_one (count xs) one) inside) faults v goes
    element_selected r rest xs x o single e one at there doubt inside faults v goes = cc

    target_selected : (r : Role) (y : SelectorTree) (rest : SelectorTrees) → Goes r rest → Goes r (MoreSelectors y rest)
    target_selected r (Component name) rest goes x at there faults v =
        let here = selector_faults s at (standing.Part r x.subtype) (Component name) in
        let later = selectors_faults s at (select s (standing.Part r x.subtype) (Component name)) rest in
        subst (λ o. NamesTarget s (select_all s (component_stands r (form_at s x.subtype.type_number) name.name) rest) m a (and_then (selected calls place x o (Component name)) (all_selected calls place rest)))
        (sym (same_form s place agrees x.subtype.type_number (known_part x there)))
        (component_selected r rest name x (form_at s x.subtype.type_number) refl at there (front_empty here later faults) (back_empty here later faults) v goes)
    target_selected r (Arguments xs) rest goes x at there faults v =
        let here = selector_faults s at (standing.Part r x.subtype) (Arguments xs) in
        let later = selectors_faults s at (select s (standing.Part r x.subtype) (Arguments xs)) rest in
        let own = part_rule s at (standing.Part r x.subtype) (Arguments xs) in
        let inside = arguments_faults s (standing.Part r x.subtype) zero xs in
        subst (λ o. NamesTarget s (select_all s (element_stands r (form_at s x.subtype.type_number) (is_single xs)) rest) m a (and_then (selected calls place x o (Arguments xs)) (all_selected calls place rest)))
        (sym (same_form s place agrees x.subtype.type_number (known_part x there)))
        (element_selected r rest xs x (form_at s x.subtype.type_number) (is_single xs) refl refl at there (unbroken 12 at _ (front_empty own inside (front_empty here later faults)))
        (back_empty own inside (front_empty here later faults)) (back_empty here later faults) v goes)
    target_selected r (Attribute name) rest goes x at there faults v =
        let here = selector_faults s at (standing.Part r x.subtype) (Attribute name) in
        let later = selectors_faults s at (select s (standing.Part r x.subtype) (Attribute name)) rest in
        absurd (apart_ends s agrees.sound at rest (object_attribute (form_at s x.subtype.type_number) name.name) (object_apart (form_at s x.subtype.type_number) name.name)
        (good_select s agrees.sound at (standing.Part r x.subtype) (Attribute name) (known_part x there) (front_empty here later faults)) (back_empty here later faults) v)

    all_parts : (r : Role) (selectors : SelectorTrees) → Goes r selectors
    all_parts r NoSelectors x at there faults v = record { target = there; known = known_part x there; role = r; stands = refl }
    all_parts r (MoreSelectors y rest) x at there faults v = target_selected r y rest (all_parts r rest) x at there faults v

  -- ---- whole names

  abbrev Legal : Identifier → SelectorTrees → Standing → Type 0
  Legal first selectors w = (selectors_faults s first.place w selectors ≡ []) × (variable_rule s first.place Anything (select_all s w selectors) ≡ [])

  abbrev Aims : Identifier → SelectorTrees → Standing → Type 0
  Aims first selectors w = NamesTarget s (select_all s w selectors) m a (target (seen_by p m a) first.name selectors)

  apart_target : (first : Identifier) (selectors : SelectorTrees) (w : Standing) → is_part w ≡ false → Good s w → Legal first selectors w
      → Aims first selectors w
  apart_target first selectors w e g legal = absurd (apart_ends s agrees.sound first.place selectors w e g legal.0 legal.1)

  object_target : (first : Identifier) (selectors : SelectorTrees) (r : Role) (t : Subtype) → CallsAnswer (call p.frames_left) (seen_by p m a) → IsKnown s t
      → MeansObject s (meaning_of (seen_by p m a) first.name) t
      → Legal first selectors (standing.Part r t) → Aims first selectors (standing.Part r t)
  object_target first selectors r t answers known d legal =
      let x = object_is_named first.name t known d in
      subst (λ o. NamesTarget s (select_all s (standing.Part r t) selectors) m a (and_then (target_or_nothing o) (all_selected (call p.frames_left) (seen_by p m a) selectors))) (sym x.is)
      (subst (λ u. Legal first selectors (standing.Part r u) → NamesTarget s (select_all s (standing.Part r u) selectors) m a (all_selected (call p.frames_left) (seen_by p m a) selectors x.target)) x.same
      (λ k. all_parts (call p.frames_left) answers r selectors x.target first.place x.there k.0 k.1) legal)

  -- a loop parameter is no variable
  no_parameter : (place : ℕ) (selectors : SelectorTrees) (t : Subtype) → is_integers (form_at s t.type_number) ≡ true
      → selectors_faults s place (standing.Part role.LoopParameter t) selectors ≡ []
      → variable_rule s place Anything (select_all s (standing.Part role.LoopParameter t) selectors) ≡ [] → ⊥
  no_parameter place NoSelectors t integers h v = let k = back_empty (mismatch s Anything (Typed t.type_number) place) (rule 13 place true) v in cc
  no_parameter place (MoreSelectors x rest) t integers h v =
      let w = standing.Part role.LoopParameter t in
      no_integer_parts s agrees.sound place role.LoopParameter t x integers
      (part_unbroken s agrees.sound place w x (front_empty (selector_faults s place w x) (selectors_faults s place (select s w x) rest) h))

  one_target : (first : Identifier) (selectors : SelectorTrees) (r : Role) (t : Subtype) → CallsAnswer (call p.frames_left) (seen_by p m a) → IsSoundObject s r t
      → MeansOne s p.scope (meaning_of (seen_by p m a) first.name) r t
      → Legal first selectors (standing.Part r t) → Aims first selectors (standing.Part r t)
  one_target first selectors role.LoopParameter t answers sound d legal = absurd (no_parameter first.place selectors t sound legal.0 legal.1)
  one_target first selectors r t answers sound d legal = object_target first selectors r t answers sound d legal

  entity_target : (first : Identifier) (selectors : SelectorTrees) (n : ℕ) (e : Entity) → CallsAnswer (call p.frames_left) (seen_by p m a)
      → entity_at s n ≡ Some e → Good s (stands_for n (Some e)) → Means s (seen_by p m a) first.name e
      → Legal first selectors (stands_for n (Some e)) → Aims first selectors (stands_for n (Some e))
  entity_target first parts n (entity.Object r t) answers at g d legal = one_target first parts r t answers (agrees.sound.each n (entity.Object r t) at) d legal
  entity_target first parts n (OfType form t) answers at g d legal = apart_target first parts (standing.Named t) refl g legal
  entity_target first parts n (OfSubtype t) answers at g d legal = apart_target first parts (standing.Named t) refl g legal
  entity_target first parts n (Constant t v) answers at g d legal = apart_target first parts (stands_for n (Some (Constant t v))) refl g legal
  entity_target first parts n (Literal b) answers at g d legal = apart_target first parts (stands_for n (Some (Literal b))) refl g legal
  entity_target first parts n Exception answers at g d legal = apart_target first parts (stands_for n (Some Exception)) refl g legal
  entity_target first parts n (Subprogram profile) answers at g d legal = apart_target first parts (stands_for n (Some (Subprogram profile))) refl g legal
  entity_target first parts n (Entry profile) answers at g d legal = apart_target first parts (stands_for n (Some (Entry profile))) refl g legal
  entity_target first parts n (Predefined o profile) answers at g d legal = apart_target first parts (stands_for n (Some (Predefined o profile))) refl g legal
  entity_target first parts n Put answers at g d legal = apart_target first parts (stands_for n (Some Put)) refl g legal
  entity_target first parts n (Task k) answers at g d legal = apart_target first parts (stands_for n (Some (Task k))) refl g legal
  entity_target first parts n (Protected o) answers at g d legal = apart_target first parts (stands_for n (Some (Protected o))) refl g legal
  entity_target first parts n LibraryUnit answers at g d legal = apart_target first parts (stands_for n (Some LibraryUnit)) refl g legal
  entity_target first parts n Doubtful answers at g d legal = absurd g

pub target_named : (s : Scope) (p : Place) (m : Store) (a : Activation) → Agrees s (seen_by p m a) → FunctionsAreSound (seen_by p m a)
    → (first : Identifier) (selectors : SelectorTrees)
    → target_faults s first selectors ≡ [] → NamesTarget s (standing_of s first selectors) m a (target (seen_by p m a) first.name selectors)
target_named s p m a agrees sound first selectors h =
    let hidden = rule 10 first.place (not (is_visible s first.name)) in
    let parts = selectors_faults s first.place (stands_first s (number_of s first.name)) selectors in
    let whole = variable_rule s first.place Anything (standing_of s first selectors) in
    let two = front_empty (hidden ++ parts) whole h in
    let visible = not_false (is_visible s first.name) (unbroken 10 first.place (not (is_visible s first.name)) (front_empty hidden parts two)) in
    let x = named s first.name visible in
    let is : stands_first s (number_of s first.name) ≡ stands_for x.number (Some x.entity) = ap (stands_first s) x.numbered ∙ ap (stands_for x.number) x.stands in
    subst (λ u. NamesTarget s (select_all s u selectors) m a (target (seen_by p m a) first.name selectors)) (sym is)
    (entity_target s p m a agrees first selectors x.number x.entity (calls_answer (seen_by p m a) sound p.frames_left) x.stands (good_first s agrees.sound x.number x.entity x.stands)
    (agrees.names first.name x.number x.entity x.numbered x.stands)
    (subst (λ u. selectors_faults s first.place u selectors ≡ []) is (back_empty hidden parts two), subst (λ u. variable_rule s first.place Anything (select_all s u selectors) ≡ []) is (back_empty (hidden ++ parts) whole h)))
