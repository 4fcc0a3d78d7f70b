-- Which forms the name of a legal call has where it is not that of a subprogram: a line's, an entry's of the body's own object, or that of an operation of a
-- protected object.
use Rattle.std.proofs.Common.{◌≡◌, ◌⊎◌, inl, inr, ℕ, [], true, false, not, Option, Some, None, refl, sym, ap, ◌∙◌, subst}
use Rattle.base.specs.declared.faults.TheConstants.{NAME_NOT_VISIBLE}
use Rattle.ada_tree.specs.declared.expression.Identifier.{Identifier}
use Rattle.ada_tree.specs.ExpressionTree.{ArgumentTrees, Component, MoreSelectors, NameTree, SelectorTrees}
use Rattle.types.specs.declared.entity.PredefinedOperation.{PredefinedOperation}
use Rattle.types.specs.declared.standing.Callee.TheVariants as callee
use Rattle.types.specs.declared.standing.Standing.{Standing}
use Rattle.types.specs.declared.standing.Standing.TheVariants as standing
use Rattle.types.specs.Entities.{Constant, Doubtful, Entity, Entry, Exception, LibraryUnit, Literal, Object, OfSubtype, OfType, Predefined, Profile, Protected, ProtectedObject, Put, Subprogram, Task}
use Rattle.types.specs.Scopes.{Scope, entity_at, is_visible, number_of, profile_of, protected_at, protected_of}
use Rattle.types.specs.Standings.{select_all, standing_of, stands_first, stands_for}
use Rattle.expr_soundness.specs.expr_rules.specs.Faults.{rule}
use Rattle.expr_soundness.specs.expr_rules.specs.ExpressionRules.{call_faults, name_faults, selectors_faults}
use Rattle.expr_soundness.specs.expr_rules.specs.NameRules.{call_rule}
use Rattle.expr_soundness.specs.expr_rules.proofs.TypedLaw.{back_empty, front_empty, unbroken}
use Rattle.expr_soundness.specs.SoundScopes.{SoundScope}
use Rattle.expr_soundness.proofs.Expressions.{not_false}
use Rattle.expr_soundness.proofs.Positions.{IsNamed, named}
use Rattle.type_rules.specs.SubtypeNames.{entity_at_or_none}
use Rattle.part_code.specs.step_soundness.specs.Fitting.{entity_named}
use Rattle.part_code.specs.step_soundness.proofs.Naming.{HasArguments, IsCall, IsOperationCall, IsPutCall, called_with, no_call, operation_called, put_called}
use Rattle.expr_code.specs.Seeing.{external_profile, profile_behind, profile_named, subprogram_profile}
use Rattle.expr_code.proofs.Language.{gives_number}
use Rattle.expr_code.proofs.NamedBehind.{operation_told}
use Rattle.part_code.specs.EntryNames.{is_own_entry}
use Rattle.part_code.specs.Lines.{is_put, line_behind, line_of}
use Rattle.part_code.specs.Passing.{ExternalName, actuals_behind, operation_behind}
use Rattle.stmt_code.proofs.ObjectMore.{profile_by}

-- what stands in the parentheses behind a name are its actual parameters, and no operation is named there
pub actuals_there : (path : SelectorTrees) (a : ArgumentTrees) → HasArguments path a → actuals_behind path ≡ Some a
actuals_there path a (inl h) = ap actuals_behind h.0 ∙ ap Some (sym h.1)
actuals_there path a (inr h) = ap actuals_behind h

no_operation : (path : SelectorTrees) (a : ArgumentTrees) → HasArguments path a → operation_behind path ≡ None
no_operation path a (inl h) = ap operation_behind h.0
no_operation path a (inr h) = ap operation_behind h

-- an operation is named behind a protected object, with its actual parameters
pub record CallsThrough (s : Scope) (name : NameTree) : Type 0 where
  pub number : ℕ
  pub numbered : number_of s name.first.name ≡ Some number
  pub protected : ProtectedObject
  pub stands : entity_at s number ≡ Some (Protected protected)
  pub called : IsOperationCall s number protected name.selectors
  pub profiled : external_profile s name.first.name called.name.name ≡ Some called.operation.profile

pub named_through : (path rest : SelectorTrees) (operation : Identifier) (a : ArgumentTrees) → path ≡ MoreSelectors (Component operation) rest
    → HasArguments rest a → operation_behind path ≡ Some (record { operation = operation; arguments = a })
named_through path rest operation a written (inl h) =
    ap operation_behind (written ∙ ap (MoreSelectors (Component operation)) h.0) ∙ ap (λ b. Some (record { operation = operation; arguments = b })) (sym h.1)
named_through path rest operation a written (inr h) = ap operation_behind (written ∙ ap (MoreSelectors (Component operation)) h)

module _ (s : Scope) (sound : SoundScope s) (name : NameTree) (h : call_faults s name.first name.selectors ≡ []) where
  abbrev first : Identifier
  first = name.first

  abbrev start : Standing
  start = stands_first s (number_of s first.name)

  in_name : name_faults s first name.selectors ≡ []
  in_name = front_empty (name_faults s first name.selectors) (call_rule first.place (standing_of s first name.selectors)) h

  in_call : call_rule first.place (standing_of s first name.selectors) ≡ []
  in_call = back_empty (name_faults s first name.selectors) (call_rule first.place (standing_of s first name.selectors)) h

  visible : is_visible s first.name ≡ true
  visible =
      not_false (is_visible s first.name) (unbroken NAME_NOT_VISIBLE first.place (not (is_visible s first.name))
      (front_empty (rule NAME_NOT_VISIBLE first.place (not (is_visible s first.name))) (selectors_faults s first.place start name.selectors) in_name))

  in_parts : selectors_faults s first.place start name.selectors ≡ []
  in_parts =
      back_empty (rule NAME_NOT_VISIBLE first.place (not (is_visible s first.name))) (selectors_faults s first.place start name.selectors) in_name

  parts_of : (w : Standing) → start ≡ w → selectors_faults s first.place w name.selectors ≡ []
  parts_of w is = subst (λ u. selectors_faults s first.place u name.selectors ≡ []) is in_parts

  called_as : (w : Standing) → start ≡ w → call_rule first.place (select_all s w name.selectors) ≡ []
  called_as w is = subst (λ u. call_rule first.place (select_all s u name.selectors) ≡ []) is in_call

  -- ---- what is called

  -- a subprogram of the package, or an entry of the body's own object
  abbrev NamesDirectly : Type 0
  NamesDirectly = (is_own_entry (entity_named s first.name) ≡ true) ⊎ ((p : Profile) × (profile_named s first.name ≡ Some p))

  abbrev CallsDirectly : Type 0
  CallsDirectly = NamesDirectly × ((a : ArgumentTrees) × HasArguments name.selectors a)

  abbrev Forms : Type 0
  Forms = (entity_named s first.name ≡ Some Put) ⊎ (CallsDirectly ⊎ CallsThrough s name)

  module _ (x : IsNamed s first.name) where
    begins_is : (e : Entity) → x.entity ≡ e → start ≡ stands_for x.number (Some e)
    begins_is e is = ap (stands_first s) x.numbered ∙ ap (stands_for x.number) (x.stands ∙ ap Some is)

    entity_is : (e : Entity) → x.entity ≡ e → entity_named s first.name ≡ Some e
    entity_is e is = ap (entity_at_or_none s) x.numbered ∙ x.stands ∙ ap Some is

    -- names of objects, values and types are no calls
    silent : (e : Entity) (w : Standing) → x.entity ≡ e → stands_for x.number (Some e) ≡ w
        → (selectors_faults s first.place w name.selectors ≡ [] → call_rule first.place (select_all s w name.selectors) ≡ [] → ⊥) → ⊥
    silent e w is stands never = never (parts_of w (begins_is e is ∙ stands)) (called_as w (begins_is e is ∙ stands))

    called_directly : (e : Entity) (p : Profile) → x.entity ≡ e → stands_for x.number (Some e) ≡ standing.Callee (callee.Direct x.number)
        → profile_of (Some e) ≡ Some p → IsCall s (callee.Direct x.number) p name.selectors
    called_directly e p is stands told =
        let w = standing.Callee (callee.Direct x.number) in
        called_with s first.place (callee.Direct x.number) p name.selectors (ap profile_of (x.stands ∙ ap Some is) ∙ told)
        (parts_of w (begins_is e is ∙ stands)) (called_as w (begins_is e is ∙ stands))

    -- a function of the language gives a value
    function_not : (o : PredefinedOperation) (p : Profile) → x.entity ≡ Predefined o p → ⊥
    function_not o p is =
        let gives = gives_number s o p (sound.each x.number (Predefined o p) (x.stands ∙ ap Some is)) in
        let never = sym gives.result ∙ (called_directly (Predefined o p) p is refl refl).none in
        cc

    through : (o : ProtectedObject) → x.entity ≡ Protected o → CallsThrough s name
    through o is =
        let w = standing.Protected x.number in
        let it = operation_called s first.place x.number o name.selectors (ap protected_of (x.stands ∙ ap Some is)) (parts_of w (begins_is (Protected o) is))
        (called_as w (begins_is (Protected o) is)) in
        record {
          number = x.number;
          numbered = x.numbered;
          protected = o;
          stands = x.stands ∙ ap Some is;
          called = it;
          profiled = ap (λ q. profile_behind q it.name.name)
              (ap (λ m. elim m [ None ↦ None | Some k ↦ protected_at s k ]) x.numbered ∙ ap protected_of (x.stands ∙ ap Some is))
              ∙ operation_told o it.name.name it.place it.operation it.found it.there;
        }

    by_entity : (e : Entity) → x.entity ≡ e → Forms
    by_entity Put is = inl (entity_is Put is)
    by_entity (Entry p) is =
        let call = called_directly (Entry p) p is refl refl in inr (inl (inl (ap is_own_entry (entity_is (Entry p) is)), (call.arguments, call.written)))
    by_entity (Subprogram p) is =
        let call = called_directly (Subprogram p) p is refl refl in
        inr (inl (inr (p, ap (profile_by s) x.numbered ∙ ap subprogram_profile (x.stands ∙ ap Some is)), (call.arguments, call.written)))
    by_entity (Protected o) is = inr (inr (through o is))
    by_entity (Predefined o p) is = absurd (function_not o p is)
    by_entity (Object r t) is = absurd (silent (Object r t) _ is refl (no_call s first.place _ name.selectors refl))
    by_entity (OfType form t) is = absurd (silent (OfType form t) _ is refl (no_call s first.place _ name.selectors refl))
    by_entity (OfSubtype t) is = absurd (silent (OfSubtype t) _ is refl (no_call s first.place _ name.selectors refl))
    by_entity (Constant t c) is = absurd (silent (Constant t c) _ is refl (no_call s first.place _ name.selectors refl))
    by_entity (Literal b) is = absurd (silent (Literal b) _ is refl (no_call s first.place _ name.selectors refl))
    by_entity Exception is = absurd (silent Exception _ is refl (no_call s first.place _ name.selectors refl))
    by_entity (Task priority) is = absurd (silent (Task priority) _ is refl (no_call s first.place _ name.selectors refl))
    by_entity LibraryUnit is = absurd (silent LibraryUnit _ is refl (no_call s first.place _ name.selectors refl))
    by_entity Doubtful is = absurd (sound.each x.number Doubtful (x.stands ∙ ap Some is))

  forms : Forms
  forms = let x = named s first.name visible in by_entity x x.entity refl

  -- ---- lines

  -- what is neither a subprogram's, nor an operation's, nor an own entry's
  pub put_there : profile_named s first.name ≡ None → operation_behind name.selectors ≡ None → is_own_entry (entity_named s first.name) ≡ false
      → is_put (entity_named s first.name) ≡ true
  put_there none alone other = by_form forms
    where
      by_form : Forms → is_put (entity_named s first.name) ≡ true
      by_form (inl put) = ap is_put put
      by_form (inr (inl (inl own, c))) = absurd (let never = sym other ∙ own in cc)
      by_form (inr (inl (inr (p, is), c))) = absurd (let never = sym none ∙ is in cc)
      by_form (inr (inr c)) =
          absurd (let it = c.called in let never = sym alone ∙ named_through name.selectors it.rest it.name it.call.arguments it.written it.call.written in cc)

  put_written : entity_named s first.name ≡ Some Put → IsPutCall s name.selectors
  put_written put = put_called s first.place name.selectors (parts_of standing.Put (put_stands (number_of s first.name) put))
    where
      put_stands : (o : Option ℕ) → entity_at_or_none s o ≡ Some Put → stands_first s o ≡ standing.Put
      put_stands (Some n) k = ap (stands_for n) k
      put_stands None k = absurd cc

  -- a line has a label and a value
  pub line_there : entity_named s first.name ≡ Some Put → line_of name ≡ None → ⊥
  line_there put none = let never = sym none ∙ ap line_behind (put_written put).written in cc

  pub through_there : (x : ExternalName) → operation_behind name.selectors ≡ Some x → CallsThrough s name
  through_there x behind = by_form forms
    where
      by_form : Forms → CallsThrough s name
      by_form (inl put) = absurd (let never = sym behind ∙ ap operation_behind (put_written put).written in cc)
      by_form (inr (inl (direct, c))) = absurd (let never = sym behind ∙ no_operation name.selectors c.0 c.1 in cc)
      by_form (inr (inr c)) = c
