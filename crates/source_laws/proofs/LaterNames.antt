-- What a legal name stands for, part by part, is the same where more names are visible behind those in front of it.
use Rattle.std.proofs.Common.{◌≡◌, ℕ, Bool, true, false, cond, List, Option, Some, None, refl, sym, ap, ◌∙◌}
use Rattle.std.specs.Prelude.{⊤, bytes_eq, codes, is_some, length, pos, position}
use Rattle.base.specs.declared.faults.TheConstants.{NO_MEANING}
use Rattle.ada_tree.specs.ExpressionTree.{Arguments, Attribute, Component, SelectorTree}
use Rattle.types.specs.declared.entity.Role.{Role}
use Rattle.types.specs.declared.entity.Role.TheVariants as role
use Rattle.types.specs.declared.entity.Subtype.{Subtype}
use Rattle.types.specs.declared.standing.Callee.{Callee}
use Rattle.types.specs.declared.standing.Callee.TheVariants as callee
use Rattle.types.specs.declared.standing.Standing.{Standing}
use Rattle.types.specs.declared.standing.Standing.TheVariants as standing
use Rattle.types.specs.Entities.{Arrays, Constant, Doubtful, Entity, Entry, Exception, Integers, LibraryUnit, Literal, Object, OfSubtype, OfType, Predefined, Profile, Protected, ProtectedObject, Put, Records, Subprogram, Task, TypeForm}
use Rattle.types.specs.Scopes.{Scope, entity_at, form_at, profile_of, protected_at, protected_of}
use Rattle.types.specs.Standings.{array_attribute, bound_stands, bounds_stand, call_stands, called_operation, callee_profile, component_of, component_stands, conversion_stands, count, element_stands, is_single, object_attribute, object_select, operation_stands, part_of, profile_among, result_stands, select, settle, stands_for, subtype_attribute}
use Rattle.expr_soundness.specs.expr_rules.specs.declared.own.Own.{Own}
use Rattle.expr_soundness.specs.expr_rules.specs.declared.own.Own.TheVariants.{Typed}
use Rattle.expr_soundness.specs.expr_rules.specs.Faults.{rule}
use Rattle.expr_soundness.specs.expr_rules.specs.Typing.{is_integers, own_of_standing}
use Rattle.expr_soundness.specs.expr_rules.specs.NameRules.{call_slot, component_rule, conversion_slot, count_rule, end_rule, index_slot, is_doubtful, operation_rule, part_rule, profile_formals, slot_at}
use Rattle.expr_soundness.specs.SoundScopes.{IsKnown, IsSoundResult, SoundScope}
use Rattle.expr_soundness.proofs.Goods.{Good, GoodCallee, GoodObject, sound_form}
use Rattle.program_soundness.proofs.Extending.{Extends, entity_stays, has_types}

-- a test that some form passes, and none doesn't
pub some_by : (test : Option TypeForm → Bool) → test None ≡ false → (o : Option TypeForm) → test o ≡ true → is_some o ≡ true
some_by test none (Some form) h = refl
some_by test none None h = let never = sym none ∙ h in cc

-- where it is of a type, that is declared
abbrev pub IsDeclaredOwn : Scope → Own → Type 0
IsDeclaredOwn s (Typed n) = is_some (form_at s n) ≡ true
IsDeclaredOwn s own = ⊤

-- a value that is given is of a declared type
abbrev pub IsDeclaredGiven : Scope → Standing → Type 0
IsDeclaredGiven s (standing.Given t v) = IsKnown s t
IsDeclaredGiven s w = ⊤

pub own_declared : (s : Scope) (w : Standing) → Good s w → IsDeclaredGiven s w → IsDeclaredOwn s (own_of_standing w)
own_declared s (standing.Part r t) g h = g
own_declared s (standing.Fixed t v) g h = g.known
own_declared s (standing.Given t v) g h = h
own_declared s (standing.Plain z) g h = tt
own_declared s (standing.Named t) g h = tt
own_declared s (standing.Callee f) g h = tt
own_declared s standing.Put g h = tt
own_declared s (standing.Protected n) g h = tt
own_declared s standing.Statement g h = tt
own_declared s standing.Task g h = tt
own_declared s standing.Other g h = tt
own_declared s standing.Doubtful g h = absurd g

-- ---- what is given by a name or a part of one

part_declared : (s : Scope) (r : Role) (o : Option Subtype) → IsDeclaredGiven s (part_of r o)
part_declared s r (Some t) = tt
part_declared s r None = tt

component_declared : (s : Scope) (r : Role) (o : Option TypeForm) (name : List ℕ) → IsDeclaredGiven s (component_stands r o name)
component_declared s r (Some (Records cs)) name = part_declared s r (component_of cs name)
component_declared s r o name = tt

element_declared : (s : Scope) (r : Role) (o : Option TypeForm) (single : Bool) → IsDeclaredGiven s (element_stands r o single)
element_declared s r (Some (Arrays index many element)) true = tt
element_declared s r o single = tt

bounds_declared : (s : Scope) (t : Subtype) (name : List ℕ) → IsKnown s t → IsDeclaredGiven s (bounds_stand t name)
bounds_declared s t name h = by_name (bytes_eq name (codes "FIRST")) (bytes_eq name (codes "LAST"))
  where
    by_name : (a b : Bool) → IsDeclaredGiven s (cond a (bound_stands t t.first) (cond b (bound_stands t t.last) standing.Doubtful))
    by_name true b = h
    by_name false true = h
    by_name false false = tt

array_declared : (s : Scope) (index : Subtype) (many : ℕ) (name : List ℕ) → IsKnown s index → IsDeclaredGiven s (array_attribute index many name)
array_declared s index many name h = by_name (bytes_eq name (codes "LENGTH"))
  where
    by_name : (a : Bool) → IsDeclaredGiven s (cond a (standing.Plain (pos many)) (bounds_stand index name))
    by_name true = tt
    by_name false = bounds_declared s index name h

conversion_declared : (s : Scope) (t : Subtype) (o : Option TypeForm) (single : Bool) → IsKnown s t → IsDeclaredGiven s (conversion_stands t o single)
conversion_declared s t (Some Integers) true h = h
conversion_declared s t o single h = tt

result_declared : (s : Scope) (p : Profile) (r : Option Subtype) → IsSoundResult s p.formals r → IsDeclaredGiven s (result_stands r)
result_declared s p (Some t) h = h.0
result_declared s p None h = tt

call_declared : (s : Scope) (o : Option Profile) → GoodCallee s o → IsDeclaredGiven s (call_stands o)
call_declared s (Some p) h = result_declared s p p.result h.result
call_declared s None h = absurd h

operation_declared : (s : Scope) (n : ℕ) (o : Option ProtectedObject) (name : List ℕ) → IsDeclaredGiven s (operation_stands n o name)
operation_declared s n (Some p) name = by_place (position (λ o. bytes_eq o.name name) p.operations)
  where
    by_place : (k : Option ℕ) → IsDeclaredGiven s (called_operation n k)
    by_place (Some k) = tt
    by_place None = tt
operation_declared s n None name = tt

module _ (s : Scope) (sound : SoundScope s) where
  index_declared : (n : ℕ) (index : Subtype) (many : ℕ) (element : Subtype) → form_at s n ≡ Some (Arrays index many element) → IsKnown s index
  index_declared n index many element e =
      some_by is_integers refl (form_at s index.type_number) (sound_form s sound n (Arrays index many element) e).integers

  attribute_declared : (n : ℕ) (o : Option TypeForm) (name : List ℕ) → form_at s n ≡ o → IsDeclaredGiven s (object_attribute o name)
  attribute_declared n (Some (Arrays index many element)) name e = array_declared s index many name (index_declared n index many element e)
  attribute_declared n o name e = tt

  subtype_declared : (t : Subtype) (o : Option TypeForm) (name : List ℕ) → form_at s t.type_number ≡ o → IsKnown s t
      → IsDeclaredGiven s (subtype_attribute t o name)
  subtype_declared t (Some Integers) name e h = bounds_declared s t name h
  subtype_declared t (Some (Arrays index many element)) name e h = array_declared s index many name (index_declared t.type_number index many element e)
  subtype_declared t o name e h = tt

  object_declared : (r : Role) (t : Subtype) (x : SelectorTree) → IsDeclaredGiven s (object_select s r t x)
  object_declared r t (Component name) = component_declared s r (form_at s t.type_number) name.name
  object_declared r t (Arguments a) = element_declared s r (form_at s t.type_number) (is_single a)
  object_declared r t (Attribute name) = attribute_declared t.type_number (form_at s t.type_number) name.name refl

  pub select_declared : (w : Standing) (x : SelectorTree) → Good s w → IsDeclaredGiven s (select s w x)
  select_declared (standing.Part r t) x g = object_declared r t x
  select_declared (standing.Fixed t v) x g = object_declared role.Constant t x
  select_declared (standing.Named t) (Component name) g = tt
  select_declared (standing.Named t) (Arguments a) g = conversion_declared s t (form_at s t.type_number) (is_single a) g
  select_declared (standing.Named t) (Attribute name) g = subtype_declared t (form_at s t.type_number) name.name refl g
  select_declared (standing.Callee f) (Component name) g = tt
  select_declared (standing.Callee f) (Arguments a) g = call_declared s (callee_profile s f) g
  select_declared (standing.Callee f) (Attribute name) g = tt
  select_declared standing.Put (Component name) g = tt
  select_declared standing.Put (Arguments a) g = tt
  select_declared standing.Put (Attribute name) g = tt
  select_declared (standing.Protected n) (Component name) g = operation_declared s n (protected_at s n) name.name
  select_declared (standing.Protected n) (Arguments a) g = tt
  select_declared (standing.Protected n) (Attribute name) g = tt
  select_declared w x g = tt

  pub settle_declared : (w : Standing) → Good s w → IsDeclaredGiven s w → IsDeclaredGiven s (settle s w)
  settle_declared (standing.Callee f) g h = call_declared s (callee_profile s f) g
  settle_declared (standing.Given t v) g h = h
  settle_declared w g h = tt

  pub first_declared : (n : ℕ) (e : Entity) → IsDeclaredGiven s (stands_for n (Some e))
  first_declared n (OfType form t) = tt
  first_declared n (OfSubtype t) = tt
  first_declared n (Object r t) = tt
  first_declared n (Constant t v) = tt
  first_declared n (Literal b) = ap is_some sound.boolean
  first_declared n Exception = tt
  first_declared n (Subprogram p) = tt
  first_declared n (Entry p) = tt
  first_declared n (Predefined o p) = tt
  first_declared n Put = tt
  first_declared n (Task priority) = tt
  first_declared n (Protected o) = tt
  first_declared n LibraryUnit = tt
  first_declared n Doubtful = tt

-- ---- with more names

module _ (s g : Scope) (x : Extends s g) where
  pub same_form : (n : ℕ) → is_some (form_at s n) ≡ true → form_at g n ≡ form_at s n
  same_form n known = by_form (form_at s n) refl known
    where
      by_form : (o : Option TypeForm) → form_at s n ≡ o → is_some o ≡ true → form_at g n ≡ form_at s n
      by_form (Some form) e k = (has_types s g x).forms n form e ∙ sym e
      by_form None e k = cc

  same_callee : (f : Callee) → GoodCallee s (callee_profile s f) → callee_profile g f ≡ callee_profile s f
  same_callee (callee.Direct n) good = by_entity (entity_at s n) refl good
    where
      by_entity : (o : Option Entity) → entity_at s n ≡ o → GoodCallee s (profile_of o) → profile_of (entity_at g n) ≡ profile_of (entity_at s n)
      by_entity (Some e) at k = ap profile_of (entity_stays s g n e x at ∙ sym at)
      by_entity None at k = absurd k
  same_callee (callee.Operation object n) good = by_entity (entity_at s object) refl good
    where
      by_entity : (o : Option Entity) → entity_at s object ≡ o → GoodCallee s (profile_among (protected_of o) n)
          → profile_among (protected_of (entity_at g object)) n ≡ profile_among (protected_of (entity_at s object)) n
      by_entity (Some e) at k = ap (λ y. profile_among (protected_of y) n) (entity_stays s g object e x at ∙ sym at)
      by_entity None at k = absurd k

  same_protected : (n : ℕ) → GoodObject s (protected_at s n) → protected_at g n ≡ protected_at s n
  same_protected n good = by_entity (entity_at s n) refl good
    where
      by_entity : (o : Option Entity) → entity_at s n ≡ o → GoodObject s (protected_of o) → protected_of (entity_at g n) ≡ protected_of (entity_at s n)
      by_entity (Some e) at k = ap protected_of (entity_stays s g n e x at ∙ sym at)
      by_entity None at k = absurd k

  same_object : (r : Role) (t : Subtype) (sel : SelectorTree) → IsKnown s t → object_select g r t sel ≡ object_select s r t sel
  same_object r t (Component name) known = ap (λ o. component_stands r o name.name) (same_form t.type_number known)
  same_object r t (Arguments a) known = ap (λ o. element_stands r o (is_single a)) (same_form t.type_number known)
  same_object r t (Attribute name) known = ap (λ o. object_attribute o name.name) (same_form t.type_number known)

  pub same_select : (w : Standing) (sel : SelectorTree) → Good s w → select g w sel ≡ select s w sel
  same_select (standing.Part r t) sel good = same_object r t sel good
  same_select (standing.Fixed t v) sel good = same_object role.Constant t sel good.known
  same_select (standing.Named t) (Component name) good = refl
  same_select (standing.Named t) (Arguments a) good = ap (λ o. conversion_stands t o (is_single a)) (same_form t.type_number good)
  same_select (standing.Named t) (Attribute name) good = ap (λ o. subtype_attribute t o name.name) (same_form t.type_number good)
  same_select (standing.Callee f) (Component name) good = refl
  same_select (standing.Callee f) (Arguments a) good = ap call_stands (same_callee f good)
  same_select (standing.Callee f) (Attribute name) good = refl
  same_select standing.Put (Component name) good = refl
  same_select standing.Put (Arguments a) good = refl
  same_select standing.Put (Attribute name) good = refl
  same_select (standing.Protected n) (Component name) good = ap (λ o. operation_stands n o name.name) (same_protected n good)
  same_select (standing.Protected n) (Arguments a) good = refl
  same_select (standing.Protected n) (Attribute name) good = refl
  same_select w sel good = refl

  pub same_settle : (w : Standing) → Good s w → settle g w ≡ settle s w
  same_settle (standing.Callee f) good = ap call_stands (same_callee f good)
  same_settle w good = refl

  -- ---- rules of parts

  other_part : (place : ℕ) (w : Standing) (sel : SelectorTree) → Good s w
      → rule NO_MEANING place (is_doubtful (select g w sel)) ≡ rule NO_MEANING place (is_doubtful (select s w sel))
  other_part place w sel good = ap (λ u. rule NO_MEANING place (is_doubtful u)) (same_select w sel good)

  pub same_part : (place : ℕ) (w : Standing) (sel : SelectorTree) → Good s w → part_rule g place w sel ≡ part_rule s place w sel
  same_part place standing.Doubtful sel good = refl
  same_part place (standing.Part r t) (Component name) good = ap (component_rule place name) (same_form t.type_number good)
  same_part place (standing.Part r t) (Arguments a) good = other_part place (standing.Part r t) (Arguments a) good
  same_part place (standing.Part r t) (Attribute name) good = other_part place (standing.Part r t) (Attribute name) good
  same_part place (standing.Fixed t v) (Component name) good = ap (component_rule place name) (same_form t.type_number good.known)
  same_part place (standing.Fixed t v) (Arguments a) good = other_part place (standing.Fixed t v) (Arguments a) good
  same_part place (standing.Fixed t v) (Attribute name) good = other_part place (standing.Fixed t v) (Attribute name) good
  same_part place (standing.Protected n) (Component name) good = ap (operation_rule name) (same_protected n good)
  same_part place (standing.Protected n) (Arguments a) good = refl
  same_part place (standing.Protected n) (Attribute name) good = refl
  same_part place standing.Task (Component name) good = refl
  same_part place standing.Task (Arguments a) good = refl
  same_part place standing.Task (Attribute name) good = refl
  same_part place (standing.Callee f) (Component name) good = refl
  same_part place (standing.Callee f) (Arguments a) good = ap (λ p. count_rule place (count a) (length (profile_formals p))) (same_callee f good)
  same_part place (standing.Callee f) (Attribute name) good = refl
  same_part place standing.Put (Component name) good = refl
  same_part place standing.Put (Arguments a) good = refl
  same_part place standing.Put (Attribute name) good = refl
  same_part place (standing.Named t) (Component name) good = refl
  same_part place (standing.Named t) (Arguments a) good = other_part place (standing.Named t) (Arguments a) good
  same_part place (standing.Named t) (Attribute name) good = other_part place (standing.Named t) (Attribute name) good
  same_part place w sel good = refl

  pub same_end : (place : ℕ) (w : Standing) → Good s w → end_rule g place w ≡ end_rule s place w
  same_end place (standing.Callee f) good = ap (λ p. count_rule place 0 (length (profile_formals p))) (same_callee f good)
  same_end place w good = refl

  pub same_slot : (w : Standing) (k : ℕ) → Good s w → slot_at g w k ≡ slot_at s w k
  same_slot (standing.Callee f) k good = ap (λ p. call_slot p k) (same_callee f good)
  same_slot (standing.Part r t) k good = ap index_slot (same_form t.type_number good)
  same_slot (standing.Fixed t v) k good = ap index_slot (same_form t.type_number good.known)
  same_slot (standing.Named t) k good = ap conversion_slot (same_form t.type_number good)
  same_slot w k good = refl
