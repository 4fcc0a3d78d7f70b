-- What is visible at a place lies in its subtypes, where all that the place has does.
use Rattle.std.proofs.Common.{◌≡◌, ℕ, List, [], ◌∷◌, Bool, true, false, Option, Some, None, refl, sym, ap, ◌∙◌, subst}
use Rattle.std.specs.Prelude.{bytes_eq, cond}
use Rattle.meaning.specs.types.specs.declared.entity.PredefinedOperation.{PredefinedOperation}
use Rattle.meaning.specs.types.specs.declared.entity.PredefinedOperation.TheVariants as predefined
use Rattle.meaning.specs.types.specs.declared.entity.Role.{Role}
use Rattle.meaning.specs.types.specs.declared.entity.Role.TheVariants as role
use Rattle.meaning.specs.types.specs.declared.entity.Subtype.{Subtype}
use Rattle.meaning.specs.types.specs.Bounds.{base_bounds, subtype_bounds}
use Rattle.meaning.specs.types.specs.Entities as entity
use Rattle.meaning.specs.types.specs.Entities.{Entity, Profile}
use Rattle.meaning.specs.types.specs.Evaluating.{predefined_value, wanted_by_operation}
use Rattle.meaning.specs.types.specs.Places.{Function, IsObject, Meaning, Object, Place, function_meaning, meaning_in_scope, meaning_of, meaning_of_entity, meaning_or, object_meaning, object_of, or_else, own_components, own_function, own_object, package_function, package_object}
use Rattle.meaning.specs.types.specs.Scopes.{Scope, entity_at, number_of}
use Rattle.meaning.specs.types.specs.Values.{Number, Value}
use Rattle.expr_soundness.specs.Agreeing.{Agrees, MeansNumber, MeansObject, MeansOne}
use Rattle.expr_soundness.specs.BoundsLaw.{AllValuesLie, LanguageLies, VisibleValuesLie}
use Rattle.expr_soundness.specs.Lying.{EachObject, LoopsLie, ObjectLies, ObjectsLieHere, PlaceLies, are_between, comes_between, lies}
use Rattle.expr_soundness.specs.SoundScopes.{IsSoundPredefined}
use Rattle.expr_soundness.proofs.Positions.{same_some}

-- ---- what is found

pub found_each : (P : Object → Type 0) (objects : List Object) (name : List ℕ) (x : Object) → EachObject P objects → object_of objects name ≡ Some x → P x
found_each P [] name x all h = cc
found_each P (y ∷ rest) name x all h = by_test (bytes_eq y.name name) h (λ k. found_each P rest name x all.1 k)
  where
    by_test : (b : Bool) → cond b (Some y) (object_of rest name) ≡ Some x → (object_of rest name ≡ Some x → P x) → P x
    by_test true k later = subst P (same_some y x k) all.0
    by_test false k later = later k

-- ---- what a name means is an object of the place

same_subtype : (t u : Subtype) (v w : Value) → IsObject t v ≡ IsObject u w → t ≡ u
same_subtype t u v w e = let f : Meaning → Subtype = λ m. elim m [
  | IsObject x y ↦ x
  | m ↦ t
] in ap f e

pub same_object : (t u : Subtype) (v w : Value) → IsObject t v ≡ IsObject u w → (t ≡ u) × (v ≡ w)
same_object t u v w e = (same_subtype t u v w e, cc)

no_object : (o : Option Entity) (u : Subtype) (v : Value) → meaning_of_entity o ≡ IsObject u v → ⊥
no_object (Some (entity.OfType form t)) u v h = cc
no_object (Some (entity.OfSubtype t)) u v h = cc
no_object (Some (entity.Predefined o p)) u v h = cc
no_object (Some (entity.Protected p)) u v h = cc
no_object (Some (entity.Object r t)) u v h = cc
no_object (Some (entity.Constant t c)) u v h = cc
no_object (Some (entity.Literal b)) u v h = cc
no_object (Some entity.Exception) u v h = cc
no_object (Some (entity.Subprogram p)) u v h = cc
no_object (Some (entity.Entry p)) u v h = cc
no_object (Some entity.Put) u v h = cc
no_object (Some (entity.Task n)) u v h = cc
no_object (Some entity.LibraryUnit) u v h = cc
no_object (Some entity.Doubtful) u v h = cc
no_object None u v h = cc

pub no_object_named : (s : Scope) (n : Option ℕ) (u : Subtype) (v : Value) → meaning_in_scope s n ≡ IsObject u v → ⊥
no_object_named s (Some n) u v h = no_object (entity_at s n) u v h
no_object_named s None u v h = cc

-- the object that the name means, of two lists of which the first goes before the second
pub meant_object : (P : Object → Type 0) (a : Option Object) (f : Option Function) (b : Option Object) (g : Option Function) (m : Meaning) (u : Subtype)
    (v : Value)
    → meaning_or (or_else (object_meaning a) (function_meaning f)) (meaning_or (or_else (object_meaning b) (function_meaning g)) m) ≡ IsObject u v
    → (m ≡ IsObject u v → ⊥) → ((x : Object) → a ≡ Some x → P x) → ((x : Object) → b ≡ Some x → P x)
    → (x : Object) × P x × (x.subtype ≡ u) × (x.value ≡ v)
meant_object P (Some x) f b g m u v h never first second = let same = same_object x.subtype u x.value v h in (x, first x refl, same.0, same.1)
meant_object P None (Some f) b g m u v h never first second = cc
meant_object P None None (Some x) g m u v h never first second = let same = same_object x.subtype u x.value v h in (x, second x refl, same.0, same.1)
meant_object P None None None (Some g) m u v h never first second = cc
meant_object P None None None None m u v h never first second = absurd (never h)

-- ---- at a place

module _ (p : Place) (all : PlaceLies p) where
  component_lies : (within : Option ℕ) (name : List ℕ) (x : Object) → object_of (own_components p within) name ≡ Some x → ObjectLies p.scope x
  component_lies (Some o) name x e = found_each (ObjectLies p.scope) (p.components o) name x (all.components o) e
  component_lies None name x e = cc

  own_lies : (name : List ℕ) (x : Object) → own_object p name ≡ Some x → ObjectLies p.scope x
  own_lies name x e = by_local (object_of p.locals name) refl e
    where
      by_local : (o : Option Object) → object_of p.locals name ≡ o → or_else o (object_of (own_components p p.within) name) ≡ Some x → ObjectLies p.scope x
      by_local (Some y) is k = found_each (ObjectLies p.scope) p.locals name x all.locals (is ∙ k)
      by_local None is k = component_lies p.within name x k

  -- the object that a name means lies in its own subtype
  pub meant_lies : (name : List ℕ) (u : Subtype) (v : Value) → meaning_of p name ≡ IsObject u v → lies p.scope u v ≡ true
  meant_lies name u v means =
      let x =
      meant_object (ObjectLies p.scope) (own_object p name) (own_function p name) (package_object p name) (package_function p name)
      (meaning_in_scope p.scope (number_of p.scope name)) u v means (no_object_named p.scope (number_of p.scope name) u v) (own_lies name)
      (λ y e. found_each (ObjectLies p.scope) p.variables name y all.variables e) in
      subst (λ k. lies p.scope k v ≡ true) x.2 (subst (λ w. lies p.scope x.0.subtype w ≡ true) x.3 x.1)

  module _ (s : Scope) (agrees : Agrees s p) where
    objects_lie : LoopsLie s p → ObjectsLieHere s p
    objects_lie loops name number r t u v numbered at means = by_role r at (agrees.names name number (entity.Object r t) numbered at)
      where
        by_value : MeansObject s (meaning_of p name) t → lies p.scope t v ≡ true
        by_value d =
            let same = same_object t u d.value v (sym d.is ∙ means) in subst (λ k. lies p.scope k v ≡ true) (sym same.0) (meant_lies name u v means)

        by_loop : entity_at s number ≡ Some (entity.Object role.LoopParameter t) → MeansNumber p.scope (meaning_of p name) → lies p.scope t v ≡ true
        by_loop loop d =
            let same = same_object d.subtype u (Number d.value) v (sym d.is ∙ means) in
            subst (λ x. lies p.scope t x ≡ true) same.1 (loops name number t d.subtype d.value numbered loop d.is)

        by_role : (q : Role) → entity_at s number ≡ Some (entity.Object q t) → MeansOne s p.scope (meaning_of p name) q t → lies p.scope t v ≡ true
        by_role role.LoopParameter is d = by_loop is d
        by_role role.Variable is d = by_value d
        by_role role.Constant is d = by_value d
        by_role role.In is d = by_value d
        by_role role.Out is d = by_value d
        by_role role.InOut is d = by_value d
        by_role role.Component is d = by_value d
        by_role role.ReadOnlyComponent is d = by_value d

    -- an operation of the language gives a value of the base range
    given_lies : LanguageLies → (number : ℕ) (o : PredefinedOperation) (profile : Profile) (t : Subtype) (vs : List Value)
        → entity_at s number ≡ Some (entity.Predefined o profile) → profile.result ≡ Some t → are_between (wanted_by_operation o) vs ≡ true
        → comes_between (subtype_bounds t) (predefined_value p o vs) ≡ true
    given_lies language number o profile t vs at result fit =
        subst (λ b. comes_between b (predefined_value p o vs) ≡ true) (sym (base o (agrees.sound.each number (entity.Predefined o profile) at)))
        (language p all.inputs all.time o vs fit)
      where
        base : (k : PredefinedOperation) → IsSoundPredefined s k profile → subtype_bounds t ≡ base_bounds
        base predefined.Clock h = ap subtype_bounds (same_some t h.subtype (sym result ∙ h.result)) ∙ h.base
        base predefined.Milliseconds h = ap subtype_bounds (same_some t h.subtype (sym result ∙ h.result)) ∙ h.base
        base predefined.Microseconds h = ap subtype_bounds (same_some t h.subtype (sym result ∙ h.result)) ∙ h.base
        base predefined.Read h = ap subtype_bounds (same_some t h.subtype (sym result ∙ h.result)) ∙ h.base

pub visible_values_lie : LanguageLies → VisibleValuesLie
visible_values_lie language s p agrees all loops =
    record {
      objects = objects_lie p all s agrees loops;
      given = λ number o profile t vs at result fit. given_lies p all s agrees language number o profile t vs at result fit;
    }

pub all_values_lie : VisibleValuesLie → AllValuesLie
all_values_lie visible s p calls agrees all loops returns =
    record { visible = visible s p agrees all loops; results = λ actions owner name f vs found. returns (record p { actions = actions }) f vs }
