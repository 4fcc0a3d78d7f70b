-- Names of objects that code may store in: an object that is named, or a part of one, begins with an object, whose words have a place, and has a known subtype.
use Rattle.std.proofs.Common.{◌≡◌, ℕ, [], List, Bool, true, false, ◌||◌, Option, Some, None, refl, sym, ap, ◌∙◌, subst}
use Rattle.std.specs.Prelude.{is_some}
use Rattle.base.specs.declared.faults.TheConstants.{NOT_A_VARIABLE}
use Rattle.ada_tree.specs.declared.expression.Identifier.{Identifier}
use Rattle.ada_tree.specs.ExpressionTree.{Arguments, Attribute, Component, MoreSelectors, Named, NoSelectors, SelectorTree, SelectorTrees}
use Rattle.types.specs.declared.entity.Role.{Role}
use Rattle.types.specs.declared.entity.Subtype.{Subtype}
use Rattle.types.specs.declared.standing.Standing.{Standing}
use Rattle.types.specs.declared.standing.Standing.TheVariants as standing
use Rattle.types.specs.Entities.{Arrays, Booleans, Integers, Profile, ProtectedObject, Records, Spans, Times, TypeForm}
use Rattle.types.specs.Evaluating.{fixed_value}
use Rattle.types.specs.Scopes.{Scope, form_at, protected_at}
use Rattle.types.specs.Standings.{call_stands, called_operation, callee_profile, conversion_stands, is_single, operation_stands, result_stands, select, select_all, settle, standing_of}
use Rattle.expr_soundness.specs.expr_rules.specs.declared.own.Own.TheVariants.{Typed}
use Rattle.expr_soundness.specs.expr_rules.specs.declared.own.Wanted.{Wanted}
use Rattle.expr_soundness.specs.expr_rules.specs.ExpressionRules.{name_faults, selector_faults, selectors_faults}
use Rattle.expr_soundness.specs.expr_rules.specs.Faults.{rule}
use Rattle.expr_soundness.specs.expr_rules.specs.NameRules.{is_doubtful, mismatch, part_rule, value_rule, variable_rule}
use Rattle.expr_soundness.specs.expr_rules.specs.Typing.{is_booleans}
use Rattle.expr_soundness.specs.expr_rules.proofs.TypedLaw.{back_empty, front_empty}
use Rattle.expr_soundness.specs.SoundScopes.{IsKnown, SoundScope}
use Rattle.expr_soundness.proofs.Goods.{Good, good_all, good_select, no_constant_parts, part_unbroken}
use Rattle.expr_code.specs.Emitting.{IsLegalExpression, has_numbers, is_composite}
use Rattle.expr_code.specs.Providing.{HasWhatExpressionsNeed}
use Rattle.expr_code.specs.Seeing.{slot_of}
use Rattle.expr_code.specs.declared.visible.Visible.{Visible}
use Rattle.part_code.specs.Needs.{is_object, is_taken}
use Rattle.expr_code.proofs.PeakSlots.{begins, name_begins}
use Rattle.expr_code.proofs.Attributes.{attribute_given, is_given}

-- ---- types that code takes

-- a type is scalar or composite
taken_form : (o : Option TypeForm) → is_some o ≡ true → ((has_numbers o || is_booleans o) || is_composite o) ≡ true
taken_form (Some Integers) h = refl
taken_form (Some Booleans) h = refl
taken_form (Some Times) h = refl
taken_form (Some Spans) h = refl
taken_form (Some (Arrays index many element)) h = refl
taken_form (Some (Records components)) h = refl
taken_form None h = absurd cc

pub known_taken : (s : Scope) (t : Subtype) → IsKnown s t → is_taken s t ≡ true
known_taken s t h = taken_form (form_at s t.type_number) h

-- ---- what is no object

abbrev not_object : Standing → Type 0
not_object w = is_object w ≡ false

conversion_other : (t : Subtype) (o : Option TypeForm) (b : Bool) → not_object (conversion_stands t o b)
conversion_other t (Some Integers) true = refl
conversion_other t o b = refl

-- nor is a known value, nor what is doubtful
value_other : (w : Standing) → (is_doubtful w ≡ false → is_given w ≡ true) → not_object w
value_other (standing.Part r t) h = absurd (let never = h refl in cc)
value_other w h = refl

result_other : (r : Option Subtype) → not_object (result_stands r)
result_other (Some t) = refl
result_other None = refl

call_other : (o : Option Profile) → not_object (call_stands o)
call_other (Some p) = result_other p.result
call_other None = refl

called_other : (n : ℕ) (o : Option ℕ) → not_object (called_operation n o)
called_other n (Some k) = refl
called_other n None = refl

operation_other : (n : ℕ) (o : Option ProtectedObject) (name : List ℕ) → not_object (operation_stands n o name)
operation_other n (Some p) name = called_other n _
operation_other n None name = refl

-- what an object is
pub record IsObjectAt (w : Standing) : Type 0 where
  pub role : Role
  pub subtype : Subtype
  pub is : w ≡ standing.Part role subtype

object_at : (w : Standing) → is_object w ≡ true → IsObjectAt w
object_at (standing.Part r t) h = record { role = r; subtype = t; is = refl }
object_at w h = absurd cc

pub object_valueless : (w : Standing) → is_object w ≡ true → fixed_value w ≡ None
object_valueless (standing.Part r t) h = refl
object_valueless w h = absurd cc

module _ (s : Scope) (sound : SoundScope s) where
  contrary : (w : Standing) → not_object w → is_object w ≡ true → ⊥
  contrary w h k = let never = sym h ∙ k in cc

  -- a part that is an object is one of an object
  part_selected : (place : ℕ) (w : Standing) (x : SelectorTree) → Good s w → part_rule s place w x ≡ [] → is_object (select s w x) ≡ true
      → is_object w ≡ true
  part_selected place (standing.Part r t) x g h is = refl
  part_selected place (standing.Fixed t v) x g h is = absurd (no_constant_parts s sound place t v x g h)
  part_selected place (standing.Named t) (Component name) g h is = absurd cc
  part_selected place (standing.Named t) (Arguments a) g h is = absurd (contrary _ (conversion_other t (form_at s t.type_number) (is_single a)) is)
  part_selected place (standing.Named t) (Attribute name) g h is = absurd (contrary _ (value_other _ (attribute_given s (standing.Named t) name)) is)
  part_selected place (standing.Callee f) (Component name) g h is = absurd cc
  part_selected place (standing.Callee f) (Arguments a) g h is = absurd (contrary _ (call_other (callee_profile s f)) is)
  part_selected place (standing.Callee f) (Attribute name) g h is = absurd cc
  part_selected place standing.Put (Component name) g h is = absurd cc
  part_selected place standing.Put (Arguments a) g h is = absurd cc
  part_selected place standing.Put (Attribute name) g h is = absurd cc
  part_selected place (standing.Protected n) (Component name) g h is = absurd (contrary _ (operation_other n (protected_at s n) name.name) is)
  part_selected place (standing.Protected n) (Arguments a) g h is = absurd cc
  part_selected place (standing.Protected n) (Attribute name) g h is = absurd cc
  part_selected place (standing.Given t v) x g h is = absurd cc
  part_selected place (standing.Plain z) x g h is = absurd cc
  part_selected place standing.Statement x g h is = absurd cc
  part_selected place standing.Task x g h is = absurd cc
  part_selected place standing.Other x g h is = absurd cc
  part_selected place standing.Doubtful x g h is = absurd g

  part_settled : (w : Standing) → is_object (settle s w) ≡ true → is_object w ≡ true
  part_settled (standing.Part r t) is = refl
  part_settled (standing.Callee f) is = absurd (contrary _ (call_other (callee_profile s f)) is)
  part_settled w is = absurd cc

  -- ... so a name that is one begins with an object
  object_begins : (place : ℕ) (all : SelectorTrees) (w : Standing) → Good s w → selectors_faults s place w all ≡ [] → is_object (select_all s w all) ≡ true
      → is_object w ≡ true
  object_begins place NoSelectors w g h is = part_settled w is
  object_begins place (MoreSelectors x rest) w g h is =
      let here = part_unbroken s sound place w x (front_empty (selector_faults s place w x) (selectors_faults s place (select s w x) rest) h) in
      let later = back_empty (selector_faults s place w x) (selectors_faults s place (select s w x) rest) h in
      part_selected place w x g here (object_begins place rest (select s w x) (good_select s sound place w x g here) later is)

-- no rule is broken in the name of a value
pub value_name : (s : Scope) (first : Identifier) (selectors : SelectorTrees) → IsLegalExpression s (Named first selectors) → name_faults s first selectors ≡ []
value_name s first selectors legal = front_empty (name_faults s first selectors) (value_rule first.place (standing_of s first selectors)) legal.unbroken

module _ (v : Visible) (sound : SoundScope v.scope) (cover : HasWhatExpressionsNeed v) where
  abbrev s : Scope
  s = v.scope

  module _ (first : Identifier) (path : SelectorTrees) (h : name_faults s first path ≡ []) where
    abbrev origin : Standing
    origin = begins s sound cover.formals first path

    pub begins_object : is_object (standing_of s first path) ≡ true → is_object origin ≡ true
    begins_object is =
        let begun = name_begins s sound cover.formals first path h in object_begins s sound first.place path origin begun.0 begun.1 is

    pub object_first : is_object (standing_of s first path) ≡ true → IsObjectAt origin
    object_first is = object_at origin (begins_object is)

    -- its words have a place
    pub slot_held : is_object (standing_of s first path) ≡ true → is_some (slot_of v first.name) ≡ true
    slot_held is = by_origin origin refl (begins_object is)
      where
        by_origin : (w : Standing) → origin ≡ w → is_object w ≡ true → is_some (slot_of v first.name) ≡ true
        by_origin (standing.Part r t) here k = cover.stored first.name r t here
        by_origin w here k = absurd cc

    -- it has a known subtype
    pub named_known : (r : Role) (t : Subtype) → standing_of s first path ≡ standing.Part r t → IsKnown s t
    named_known r t is =
        let begun = name_begins s sound cover.formals first path h in subst (Good s) is (good_all s sound first.place path origin begun.0 begun.1)

  -- what is named, of a known subtype
  pub record IsTarget (w : Standing) : Type 0 where
    pub role : Role
    pub subtype : Subtype
    pub is : w ≡ standing.Part role subtype
    pub known : IsKnown s subtype

  pub target_named : (place : ℕ) (wanted : Wanted) (w : Standing) → Good s w → variable_rule s place wanted w ≡ [] → IsTarget w
  target_named place wanted (standing.Part r t) g h = record { role = r; subtype = t; is = refl; known = g }
  target_named place wanted (standing.Fixed t c) g h =
      absurd (let never = back_empty (mismatch s wanted (Typed t.type_number) place) (rule NOT_A_VARIABLE place true) h in cc)
  target_named place wanted standing.Doubtful g h = absurd g
  target_named place wanted w g h = absurd cc

  pub name_target : (first : Identifier) (path : SelectorTrees) (wanted : Wanted) → name_faults s first path ≡ []
      → variable_rule s first.place wanted (standing_of s first path) ≡ [] → IsTarget (standing_of s first path)
  name_target first path wanted h k =
      let begun = name_begins s sound cover.formals first path h in
      target_named first.place wanted (standing_of s first path)
      (good_all s sound first.place path (begins s sound cover.formals first path) begun.0 begun.1) k

  pub target_object : (w : Standing) → IsTarget w → is_object w ≡ true
  target_object w h = ap is_object h.is
