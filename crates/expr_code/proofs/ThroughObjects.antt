-- Legal names that begin with a protected object: behind it stands an operation of it, and behind that its actual parameters at most (RM 9.4, 9.5).
use Rattle.std.proofs.Common.{◌≡◌, ◌++◌, [], List, ℕ, false, Option, Some, None, refl, sym, ap, ◌∙◌, subst}
use Rattle.std.specs.Prelude.{⊤, bytes_eq, is_none, not, position}
use Rattle.base.specs.declared.faults.TheConstants.{NAME_NOT_VISIBLE}
use Rattle.ada_tree.specs.declared.expression.Identifier.{Identifier}
use Rattle.ada_tree.specs.ExpressionTree as tree
use Rattle.ada_tree.specs.ExpressionTree.{Arguments, Attribute, Component, MoreSelectors, NoSelectors, SelectorTree, SelectorTrees}
use Rattle.types.specs.declared.entity.Subtype.{Subtype}
use Rattle.types.specs.declared.standing.Callee.{Callee}
use Rattle.types.specs.declared.standing.Callee.TheVariants as callee
use Rattle.types.specs.declared.standing.Standing.TheVariants as standing
use Rattle.types.specs.Entities.{Constant, Doubtful, Entity, Entry, Exception, LibraryUnit, Literal, Object, OfSubtype, OfType, Operation, Predefined, Profile, Protected, ProtectedObject, Put, Subprogram, Task}
use Rattle.types.specs.Scopes.{Scope, entity_at, is_visible, number_of, protected_at, protected_of}
use Rattle.types.specs.Standings.{call_stands, callee_profile, result_stands, select, select_all, standing_of, stands_first, stands_for}
use Rattle.expr_soundness.specs.expr_rules.specs.ExpressionRules.{selector_faults, selectors_faults}
use Rattle.expr_soundness.specs.expr_rules.specs.NameRules.{operation_rule, value_rule}
use Rattle.expr_soundness.specs.expr_rules.specs.Faults.{Faults, rule}
use Rattle.expr_soundness.specs.expr_rules.proofs.TypedLaw.{back_empty, front_empty, unbroken}
use Rattle.expr_soundness.specs.SoundScopes.{SoundScope}
use Rattle.expr_soundness.proofs.Goods.{Good, good_first, good_select, part_unbroken}
use Rattle.expr_soundness.proofs.Expressions.{not_false}
use Rattle.expr_soundness.proofs.Positions.{IsNamed, found_at, named, place_is}
use Rattle.expr_code.specs.Emitting.{IsLegalExpression}
use Rattle.expr_code.specs.Seeing.{external_profile, object_named, profile_behind}
use Rattle.expr_code.proofs.NamedBehind.{operation_profiled, operation_selected, operation_told}

-- ---- what stands behind something that is called

-- its actual parameters, or nothing
abbrev pub IsCalledWith : SelectorTrees → Type 0
IsCalledWith NoSelectors = ⊤
IsCalledWith (MoreSelectors (Arguments a) NoSelectors) = ⊤
IsCalledWith rest = ⊥

module _ (s : Scope) (sound : SoundScope s) (place : ℕ) where
  -- nothing stands behind a call
  pub nothing_behind : (r : Option Subtype) (x : SelectorTree) (rest : SelectorTrees)
      → selectors_faults s place (result_stands r) (MoreSelectors x rest) ≡ [] → ⊥
  nothing_behind (Some t) x rest h =
      let w = standing.Given t None in
      good_select s sound place w x tt
      (part_unbroken s sound place w x (front_empty (selector_faults s place w x) (selectors_faults s place (select s w x) rest) h))
  nothing_behind None x rest h =
      let w = standing.Statement in
      good_select s sound place w x tt
      (part_unbroken s sound place w x (front_empty (selector_faults s place w x) (selectors_faults s place (select s w x) rest) h))

  pub called_with : (f : Callee) (p : Profile) (rest : SelectorTrees) → callee_profile s f ≡ Some p → Good s (standing.Callee f)
      → selectors_faults s place (standing.Callee f) rest ≡ [] → IsCalledWith rest
  called_with f p NoSelectors is good h = tt
  called_with f p (MoreSelectors (Arguments a) NoSelectors) is good h = tt
  called_with f p (MoreSelectors (Arguments a) (MoreSelectors x rest)) is good h =
      let w = standing.Callee f in
      nothing_behind p.result x rest
      (subst (λ u. selectors_faults s place u (MoreSelectors x rest) ≡ []) (ap call_stands is)
      (back_empty (selector_faults s place w (Arguments a)) (selectors_faults s place (select s w (Arguments a)) (MoreSelectors x rest)) h))
  called_with f p (MoreSelectors (Component name) rest) is good h =
      let w = standing.Callee f in
      good_select s sound place w (Component name) good
      (front_empty (selector_faults s place w (Component name)) (selectors_faults s place (select s w (Component name)) rest) h)
  called_with f p (MoreSelectors (Attribute name) rest) is good h =
      let w = standing.Callee f in
      good_select s sound place w (Attribute name) good
      (front_empty (selector_faults s place w (Attribute name)) (selectors_faults s place (select s w (Attribute name)) rest) h)

  -- ---- behind a protected object

  module _ (object : List ℕ) (n : ℕ) (o : ProtectedObject) (numbered : number_of s object ≡ Some n) (stands : entity_at s n ≡ Some (Protected o)) where
    -- The first part is its operation, which is called with what stands behind that.
    pub record CallsBehind (all : SelectorTrees) : Type 0 where
      pub operation : Identifier
      pub rest : SelectorTrees
      pub is : all ≡ MoreSelectors (Component operation) rest
      pub profile : Profile
      pub told : external_profile s object operation.name ≡ Some profile
      pub callee : Callee
      pub profiled : callee_profile s callee ≡ Some profile
      pub selected : select s (standing.Protected n) (Component operation) ≡ standing.Callee callee
      pub good : Good s (standing.Callee callee)
      pub unbroken : selectors_faults s place (standing.Callee callee) rest ≡ []
      pub ends : IsCalledWith rest

    there : protected_at s n ≡ Some o
    there = ap protected_of stands

    named_there : object_named s object ≡ Some o
    named_there = ap (λ m. elim m [ None ↦ None | Some k ↦ protected_at s k ]) numbered ∙ there

    operation_here : (operation : Identifier) (rest : SelectorTrees) → Good s (standing.Protected n)
        → selectors_faults s place (standing.Protected n) (MoreSelectors (Component operation) rest) ≡ []
        → (k : Option ℕ) → position (λ x. bytes_eq x.name operation.name) o.operations ≡ k → is_none k ≡ false
        → CallsBehind (MoreSelectors (Component operation) rest)
    operation_here operation rest good h (Some k) at some =
        let w = standing.Protected n in
        let x = Component operation in
        let test = λ (y : Operation). bytes_eq y.name operation.name in
        let found = found_at test o.operations k (sym (place_is test o.operations) ∙ at) in
        let p = found.0.profile in
        let f = callee.Operation n k in
        let selected : select s w x ≡ standing.Callee f = operation_selected o operation.name k found.0 at found.1 s n stands operation.place in
        let profiled : callee_profile s f ≡ Some p = operation_profiled o operation.name k found.0 at found.1 s n stands in
        let here = front_empty (selector_faults s place w x) (selectors_faults s place (select s w x) rest) h in
        let behind = subst (λ u. selectors_faults s place u rest ≡ []) selected
        (back_empty (selector_faults s place w x) (selectors_faults s place (select s w x) rest) h) in
        let called = subst (Good s) selected (good_select s sound place w x good here) in
        record {
          operation = operation;
          rest = rest;
          is = refl;
          profile = p;
          told = ap (λ q. profile_behind q operation.name) named_there ∙ operation_told o operation.name k found.0 at found.1;
          callee = f;
          profiled = profiled;
          selected = selected;
          good = called;
          unbroken = behind;
          ends = called_with f p rest profiled called behind;
        }
    operation_here operation rest good h None at some = cc

    pub calls_behind : (all : SelectorTrees) → Good s (standing.Protected n) → selectors_faults s place (standing.Protected n) all ≡ []
        → (select_all s (standing.Protected n) all ≡ standing.Other → ⊥) → CallsBehind all
    calls_behind NoSelectors good h no_object = absurd (no_object refl)
    calls_behind (MoreSelectors (Component operation) rest) good h no_object =
        let w = standing.Protected n in
        let x = Component operation in
        let here = subst (λ q. operation_rule operation q ≡ []) there
        (front_empty (selector_faults s place w x) (selectors_faults s place (select s w x) rest) h) in
        let test = position (λ y. bytes_eq y.name operation.name) o.operations in
        operation_here operation rest good h test refl (unbroken NAME_NOT_VISIBLE operation.place (is_none test) here)
    calls_behind (MoreSelectors (Arguments a) rest) good h no_object =
        let w = standing.Protected n in
        absurd (good_select s sound place w (Arguments a) good
        (part_unbroken s sound place w (Arguments a)
        (front_empty (selector_faults s place w (Arguments a)) (selectors_faults s place (select s w (Arguments a)) rest) h)))
    calls_behind (MoreSelectors (Attribute name) rest) good h no_object =
        let w = standing.Protected n in
        absurd (good_select s sound place w (Attribute name) good
        (front_empty (selector_faults s place w (Attribute name)) (selectors_faults s place (select s w (Attribute name)) rest) h))

-- ---- whole names

module _ (s : Scope) (sound : SoundScope s) (first : Identifier) (selectors : SelectorTrees) (legal : IsLegalExpression s (tree.Named first selectors)) (n : ℕ)
    (begins : stands_first s (number_of s first.name) ≡ standing.Protected n) where
  abbrev hidden : Faults
  hidden = rule NAME_NOT_VISIBLE first.place (not (is_visible s first.name))

  abbrev behind : Faults
  behind = selectors_faults s first.place (stands_first s (number_of s first.name)) selectors

  abbrev ends : Faults
  ends = value_rule first.place (standing_of s first selectors)

  it : IsNamed s first.name
  it =
      named s first.name (not_false (is_visible s first.name) (unbroken NAME_NOT_VISIBLE first.place (not (is_visible s first.name))
      (front_empty hidden behind (front_empty (hidden ++ behind) ends legal.unbroken))))

  module _ (o : ProtectedObject) (is : it.entity ≡ Protected o) where
    at : stands_first s (number_of s first.name) ≡ standing.Protected it.number
    at = ap (stands_first s) it.numbered ∙ ap (stands_for it.number) (it.stands ∙ ap Some is)

    -- an object alone has no value, nor has a call of its procedure or entry
    alone : select_all s (standing.Protected it.number) selectors ≡ standing.Other → ⊥
    alone k =
        let never = subst (λ u. value_rule first.place u ≡ []) (ap (λ u. select_all s u selectors) at ∙ k)
        (back_empty (hidden ++ behind) ends legal.unbroken) in cc

    through : CallsBehind s sound first.place first.name it.number o it.numbered (it.stands ∙ ap Some is) selectors
    through =
        calls_behind s sound first.place first.name it.number o it.numbered (it.stands ∙ ap Some is) selectors
        (good_first s sound it.number (Protected o) (it.stands ∙ ap Some is))
        (subst (λ u. selectors_faults s first.place u selectors ≡ []) at (back_empty hidden behind (front_empty (hidden ++ behind) ends legal.unbroken))) alone

  -- what is called is told by the names
  pub record IsTold : Type 0 where
    pub operation : Identifier
    pub rest : SelectorTrees
    pub is : selectors ≡ MoreSelectors (Component operation) rest
    pub profile : Profile
    pub told : external_profile s first.name operation.name ≡ Some profile
    pub ends : IsCalledWith rest

  other : (e : Entity) → it.entity ≡ e → (stands_for it.number (Some e) ≡ standing.Protected n → ⊥) → IsTold
  other e is wrong = absurd (wrong (sym (ap (stands_first s) it.numbered ∙ ap (stands_for it.number) (it.stands ∙ ap Some is)) ∙ begins))

  by_entity : (e : Entity) → it.entity ≡ e → IsTold
  by_entity (Protected o) is =
      let x = through o is in record { operation = x.operation; rest = x.rest; is = x.is; profile = x.profile; told = x.told; ends = x.ends }
  by_entity (OfType form u) is = other (OfType form u) is (λ h. cc)
  by_entity (OfSubtype u) is = other (OfSubtype u) is (λ h. cc)
  by_entity (Object r u) is = other (Object r u) is (λ h. cc)
  by_entity (Constant u v) is = other (Constant u v) is (λ h. cc)
  by_entity (Literal b) is = other (Literal b) is (λ h. cc)
  by_entity Exception is = other Exception is (λ h. cc)
  by_entity (Subprogram p) is = other (Subprogram p) is (λ h. cc)
  by_entity (Entry p) is = other (Entry p) is (λ h. cc)
  by_entity (Predefined f p) is = other (Predefined f p) is (λ h. cc)
  by_entity Put is = other Put is (λ h. cc)
  by_entity (Task priority) is = other (Task priority) is (λ h. cc)
  by_entity LibraryUnit is = other LibraryUnit is (λ h. cc)
  by_entity Doubtful is = other Doubtful is (λ h. cc)

  pub told_behind : IsTold
  told_behind = by_entity it.entity refl
