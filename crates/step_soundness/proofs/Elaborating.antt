-- Declarations of bodies and blocks: each that breaks no rule gives its object a value, or raises (RM 3.3.1, 6.4.1).
use Rattle.std.proofs.Common.{◌≡◌, ℕ, List, [], ◌∷◌, ◌++◌, Bool, true, false, ◌⊎◌, inl, inr, Option, Some, None, refl, sym, ap, subst}
use Rattle.std.specs.Prelude.{is_some}
use Rattle.expr_soundness.specs.ada_tree.specs.declared.expression.Identifier.{Identifier}
use Rattle.expr_soundness.specs.ada_tree.specs.ExpressionTree.{ExprTree}
use Rattle.expr_soundness.specs.ada_tree.specs.StatementTree.{DeclarationTree, LocalObject, LocalTask, LocalProtected, ObjectTree}
use Rattle.expr_soundness.specs.types.specs.declared.entity.Subtype.{Subtype}
use Rattle.expr_soundness.specs.types.specs.declared.entity.Role.TheVariants as role
use Rattle.expr_soundness.specs.types.specs.Entities.{Entity, TypeForm}
use Rattle.expr_soundness.specs.types.specs.Entities as entity
use Rattle.expr_soundness.specs.types.specs.Scopes.{Scope, entity_at, form_at, form_of, is_visible, number_of, with_name}
use Rattle.expr_soundness.specs.types.specs.Shapes.{initial}
use Rattle.expr_soundness.specs.types.specs.Values.{Value}
use Rattle.expr_soundness.specs.types.specs.Evaluations.{Val, Gives, Raises, Meaningless}
use Rattle.expr_soundness.specs.types.specs.Places.{Function, Meaning, Object, Place, IsSubtype, function_meaning, meaning_in_scope, meaning_of, meaning_of_entity, meaning_or, object_meaning, or_else, own_function, own_object, package_function, package_object}
use Rattle.expr_soundness.specs.types.specs.Evaluating.{passed}
use Rattle.expr_soundness.specs.expr_rules.specs.ExpressionRules.{faults_of}
use Rattle.expr_soundness.specs.expr_rules.proofs.TypedLaw.{back_empty, front_empty, unbroken}
use Rattle.expr_soundness.specs.type_rules.specs.SubtypeNames.{declared_twice, entity_at_or_none, named_entity, subtype_faults, subtype_in as named_subtype, subtype_of, subtype_rule, wanted_by}
use Rattle.expr_soundness.specs.type_rules.specs.ObjectRules.{local_initial_faults, local_object_faults, local_object_scope, object_entity, role_of}
use Rattle.expr_soundness.specs.declaration_rules.specs.LocalRules.{local_scope}
use Rattle.stmt_rules.specs.declared.around.Around.{Around}
use Rattle.expr_soundness.specs.SoundScopes.{IsKnown, IsSoundObject}
use Rattle.expr_soundness.specs.Agreeing.{Agrees}
use Rattle.expr_soundness.specs.meaning.specs.Programs.{Parameter, subtype_named, subtype_or_integer}
use Rattle.expr_soundness.specs.meaning.specs.Works.{Item}
use Rattle.expr_soundness.specs.meaning.specs.SourceSteps.{Here, declare, declare_parameter, declared_value, evaluate, place_of, with_object, with_value}
use Rattle.step_soundness.specs.Objects.{GivesOrRaises, IsOf}
use Rattle.step_soundness.specs.Fitting.{FitsScope, Narrows}
use Rattle.step_soundness.specs.Opened.{IsHeld, opened_in}
use Rattle.step_soundness.specs.Judged.{Begins, IsLegalLocal, IsNewParameter, Leaves, Waiting, parameter_scope}
use Rattle.step_soundness.specs.Holding.{IsSoundStep, inside}
use Rattle.step_soundness.specs.Laws.{Premises}
use Rattle.step_soundness.proofs.Lookups.{named_number}
use Rattle.step_soundness.proofs.Sights.{fits_declared, initial_suited}
use Rattle.step_soundness.proofs.Going.{Current, agrees_here, comes_then, raised_predefined}
use Rattle.step_soundness.proofs.Valued.{passed_comes, value_comes}
use Rattle.step_soundness.proofs.Turning.{added, begins_ready}

-- ---- names of subtypes

-- a legal name of a subtype stands for one
subtype_entity : (place : ℕ) (o : Option Entity) → subtype_rule place o ≡ [] → (o ≡ Some entity.Doubtful → ⊥)
    → ((form : TypeForm) × (t : Subtype) × (o ≡ Some (entity.OfType form t))) ⊎ ((t : Subtype) × (o ≡ Some (entity.OfSubtype t)))
subtype_entity place (Some (entity.OfType form t)) h doubt = inl (form, t, refl)
subtype_entity place (Some (entity.OfSubtype t)) h doubt = inr (t, refl)
subtype_entity place (Some entity.Doubtful) h doubt = absurd (doubt refl)
subtype_entity place None h doubt = cc
subtype_entity place (Some (entity.Object r t)) h doubt = cc
subtype_entity place (Some (entity.Constant t v)) h doubt = cc
subtype_entity place (Some (entity.Literal b)) h doubt = cc
subtype_entity place (Some entity.Exception) h doubt = cc
subtype_entity place (Some (entity.Subprogram p)) h doubt = cc
subtype_entity place (Some (entity.Entry p)) h doubt = cc
subtype_entity place (Some (entity.Predefined o p)) h doubt = cc
subtype_entity place (Some entity.Put) h doubt = cc
subtype_entity place (Some (entity.Task priority)) h doubt = cc
subtype_entity place (Some (entity.Protected p)) h doubt = cc
subtype_entity place (Some entity.LibraryUnit) h doubt = cc

-- ---- what a name of a subtype means in a run

behind_objects : (x : Option Object) (f : Option Function) (m : Meaning) (t : Subtype) → meaning_or (or_else (object_meaning x) (function_meaning f)) m ≡ IsSubtype t → m ≡ IsSubtype t
behind_objects (Some x) f m t h = cc
behind_objects None (Some f) m t h = cc
behind_objects None None m t h = h

abbrev meant_subtype : Subtype → Meaning → Subtype
meant_subtype t (IsSubtype u) = u
meant_subtype t m = t

entity_subtype : (o : Option Entity) (t : Subtype) → meaning_of_entity o ≡ IsSubtype t → named_subtype o ≡ Some t
entity_subtype (Some (entity.OfType form u)) t h = ap Some (ap (meant_subtype t) h)
entity_subtype (Some (entity.OfSubtype u)) t h = ap Some (ap (meant_subtype t) h)
entity_subtype (Some (entity.Predefined o p)) t h = cc
entity_subtype (Some (entity.Protected p)) t h = cc
entity_subtype (Some (entity.Object r u)) t h = cc
entity_subtype (Some (entity.Constant u v)) t h = cc
entity_subtype (Some (entity.Literal b)) t h = cc
entity_subtype (Some entity.Exception) t h = cc
entity_subtype (Some (entity.Subprogram p)) t h = cc
entity_subtype (Some (entity.Entry p)) t h = cc
entity_subtype (Some entity.Put) t h = cc
entity_subtype (Some (entity.Task priority)) t h = cc
entity_subtype (Some entity.LibraryUnit) t h = cc
entity_subtype (Some entity.Doubtful) t h = cc
entity_subtype None t h = cc

in_scope : (s : Scope) (n : Option ℕ) (t : Subtype) → meaning_in_scope s n ≡ IsSubtype t → named_subtype (entity_at_or_none s n) ≡ Some t
in_scope s (Some n) t h = entity_subtype (entity_at s n) t h
in_scope s None t h = cc

subtype_here : (p : Place) (name : Identifier) (t : Subtype) → meaning_of p name.name ≡ IsSubtype t → subtype_named p.scope name ≡ t
subtype_here p name t h =
    ap subtype_or_integer
    (in_scope p.scope (number_of p.scope name.name) t
    (behind_objects (package_object p name.name) (package_function p name.name) (meaning_in_scope p.scope (number_of p.scope name.name)) t
    (behind_objects (own_object p name.name) (own_function p name.name) _ t h)))

-- the subtype is known, and the same in the run
pub record IsDeclared (s : Scope) (p : Place) (name : Identifier) : Type 0 where
  pub subtype : Subtype
  pub named : subtype_of s name ≡ Some subtype
  pub known : IsKnown s subtype
  pub here : subtype_named p.scope name ≡ subtype

pub declared_subtype : (s : Scope) (p : Place) (name : Identifier) → Agrees s p → subtype_faults s name ≡ [] → IsDeclared s p name
declared_subtype s p name agrees legal = by_kind (subtype_entity name.place (named_entity s name) legal doubtful)
  where
    doubtful : named_entity s name ≡ Some entity.Doubtful → ⊥
    doubtful h = let n = named_number s name.name entity.Doubtful h in agrees.sound.each n.0 entity.Doubtful n.2

    by_kind : ((form : TypeForm) × (t : Subtype) × (named_entity s name ≡ Some (entity.OfType form t))) ⊎ ((t : Subtype) × (named_entity s name ≡ Some (entity.OfSubtype t))) → IsDeclared s p name
    by_kind (inl x) =
        let n = named_number s name.name (entity.OfType x.0 x.1) x.2 in
        let sound = agrees.sound.each n.0 (entity.OfType x.0 x.1) n.2 in
        record {
          subtype = x.1;
          named = ap named_subtype x.2;
          known = subst (λ k. is_some (form_at s k) ≡ true) (sym sound.numbered) (ap (λ e. is_some (form_of e)) n.2);
          here = subtype_here p name x.1 (agrees.names name.name n.0 (entity.OfType x.0 x.1) n.1 n.2);
        }
    by_kind (inr x) =
        let n = named_number s name.name (entity.OfSubtype x.0) x.1 in
        record {
          subtype = x.0;
          named = ap named_subtype x.1;
          known = agrees.sound.each n.0 (entity.OfSubtype x.0) n.2;
          here = subtype_here p name x.0 (agrees.names name.name n.0 (entity.OfSubtype x.0) n.1 n.2);
        }

module _ (h : Here) (s : Scope) (outer : List Waiting) (laws : Premises h.program) (c : Current h s outer) (a : Around) (items : List Item) (held : IsHeld h.own.within (opened_in items)) where
  object_sound_step : (d : ObjectTree) → local_object_faults s d ≡ [] → Begins h.program (local_object_scope s d) outer a items → Leaves h.program s outer a items
      → IsSoundStep h (opened_in items) (declare h (LocalObject d) items)
  object_sound_step d legal begins leaves = by_value (declared_value h items d d.value) (comes d.value initial_legal)
    where
      two : subtype_faults s d.subtype ++ local_initial_faults s d ≡ []
      two = front_empty (subtype_faults s d.subtype ++ local_initial_faults s d) (declared_twice s d.name) legal

      x : IsDeclared s (place_of h items) d.subtype
      x = declared_subtype s (place_of h items) d.subtype (agrees_here h s outer c items) (front_empty (subtype_faults s d.subtype) (local_initial_faults s d) two)

      t : Subtype
      t = x.subtype

      unseen : is_visible s d.name.name ≡ false
      unseen = unbroken _ d.name.place (is_visible s d.name.name) (back_empty (subtype_faults s d.subtype ++ local_initial_faults s d) (declared_twice s d.name) legal)

      initial_legal : local_initial_faults s d ≡ []
      initial_legal = back_empty (subtype_faults s d.subtype) (local_initial_faults s d) two

      -- the value is of the subtype
      comes : (e : Option ExprTree) → local_initial_faults s (record d { value = e }) ≡ []
          → GivesOrRaises (IsOf h.program.scope t.type_number) (declared_value h items d e)
      comes (Some y) l =
          comes_then (IsOf h.program.scope t.type_number) (IsOf h.program.scope t.type_number) (evaluate h items y) (passed (subtype_named h.program.scope d.subtype))
          (value_comes h s outer laws c items y t.type_number x.known (subst (λ o. faults_of s (wanted_by o) y ≡ []) x.named l))
          (λ v i. passed_comes (IsOf h.program.scope t.type_number) (subtype_named h.program.scope d.subtype) v i)
      comes None l = subst (λ u. IsOf h.program.scope t.type_number (initial h.program.scope u)) (sym x.here) (initial_suited h.program laws t)

      object_known : (b : Bool) → IsKnown s t → IsSoundObject s (role_of b) t
      object_known true known = known
      object_known false known = known

      scope_is : with_name s d.name.name (entity.Object (role_of d.constant) t) ≡ local_object_scope s d
      scope_is = ap (λ o. with_name s d.name.name (object_entity (role_of d.constant) o)) (sym x.named)

      by_value : (v : Val Value) → GivesOrRaises (IsOf h.program.scope t.type_number) v
          → IsSoundStep h (opened_in items)
          (with_value h v items (λ w. with_object h (let y : Object = record { name = d.name.name; subtype = subtype_named h.program.scope d.subtype; value = w } in y) items))
      by_value (Gives v) suited =
          subst (λ u. IsSoundStep h (opened_in items) (with_object h (let y : Object = record { name = d.name.name; subtype = u; value = v } in y) items)) (sym x.here)
          (added h s outer laws c a items items (let y : Object = record { name = d.name.name; subtype = t; value = v } in y) (local_object_scope s d) held suited
          (λ p fits.
          subst (λ u. FitsScope h.program u (inside h.program h.memory (record h.own { locals = (let y : Object = record { name = d.name.name; subtype = t; value = v } in y) ∷ h.own.locals }) p)) scope_is
          (fits_declared h.program laws s (inside h.program h.memory h.own p) d.name.name (role_of d.constant) t v fits unseen x.known (object_known d.constant x.known) suited))
          (begins_ready h.program _ (local_object_scope s d) outer a items begins) refl)
      by_value (Raises y) known = raised_predefined h s outer c a items y held known leaves
      by_value Meaningless never = absurd never

  pub declares_sound : (d : DeclarationTree) → IsLegalLocal s d → Begins h.program (local_scope s d) outer a items → Leaves h.program s outer a items
      → IsSoundStep h (opened_in items) (declare h d items)
  declares_sound (LocalObject d) legal begins leaves = object_sound_step d legal.0 begins leaves
  declares_sound (LocalTask d) legal begins leaves = let bad = legal.1 in cc
  declares_sound (LocalProtected d) legal begins leaves = let bad = legal.1 in cc

  pub parameter_sound : (f : Parameter) (later : Scope) → IsNewParameter s f → Narrows h.program (parameter_scope s f) later → Begins h.program later outer a items
      → IsSoundStep h (opened_in items) (declare_parameter h f items)
  parameter_sound f later new narrows begins =
      let v = initial h.program.scope f.subtype in
      let y : Object = record { name = f.name; subtype = f.subtype; value = v } in
      added h s outer laws c a items items y later held (initial_suited h.program laws f.subtype)
      (λ p fits. narrows _ (fits_declared h.program laws s (inside h.program h.memory h.own p) f.name role.Out f.subtype v fits new.unseen new.known new.known (initial_suited h.program laws f.subtype)))
      (begins_ready h.program _ later outer a items begins) refl
