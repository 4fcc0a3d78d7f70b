-- What an expression sees where the values of store and activation lie in their subtypes.
use Rattle.std.proofs.Common.{◌≡◌, inl, inr, ℕ, List, true, Option, Some, None, refl, sym, ◌∙◌, subst}
use Rattle.expr_soundness.specs.types.specs.declared.entity.Role.{Role}
use Rattle.expr_soundness.specs.types.specs.declared.entity.Subtype.{Subtype}
use Rattle.expr_soundness.specs.types.specs.Entities as entity
use Rattle.expr_soundness.specs.types.specs.Scopes.{Scope, entity_at, number_of}
use Rattle.expr_soundness.specs.types.specs.Values as values
use Rattle.expr_soundness.specs.types.specs.Values.{Value}
use Rattle.expr_soundness.specs.types.specs.Places.{Object, Place, IsObject, meaning_in_scope, meaning_of, object_of, or_else, own_components, own_function, own_object, package_function, package_object}
use Rattle.expr_soundness.specs.Agreeing.{Agrees}
use Rattle.expr_soundness.specs.CompositesLaw.{PartsLieHere}
use Rattle.expr_soundness.specs.Lying.{ObjectLies, ObjectsLie, lies_inside}
use Rattle.expr_soundness.proofs.SeenValues.{found_each, meant_object, no_object_named, same_object}
use Rattle.expr_soundness.proofs.Denoting.{MeansPart, means_part}
use Rattle.expr_soundness.specs.meaning.specs.Programs.{Program}
use Rattle.expr_soundness.specs.meaning.specs.Works.{Activation, Store}
use Rattle.step_soundness.specs.Holding.{inside}
use Rattle.step_soundness.specs.InSubtypes.{StoreLies}
use Rattle.step_soundness.proofs.LyingLists.{meant_inside}

module _ (program : Program) (m : Store) (a : Activation) (p : Place) (store : StoreLies program.scope m) (own : ObjectsLie program.scope a.locals) where
  abbrev here : Place
  here = inside program m a p

  component_lies : (within : Option ℕ) (name : List ℕ) (x : Object) → object_of (own_components here within) name ≡ Some x → ObjectLies program.scope x
  component_lies (Some o) name x e = (found_each (ObjectLies program.scope) (m.components o) name x (store.components o) e)
  component_lies None name x e = cc

  own_lies : (name : List ℕ) (x : Object) → own_object here name ≡ Some x → ObjectLies program.scope x
  own_lies name x e = by_local (object_of a.locals name) refl e
    where
      by_local : (o : Option Object) → object_of a.locals name ≡ o → or_else o (object_of (own_components (inside program m a p) a.within) name) ≡ Some x
          → ObjectLies program.scope x
      by_local (Some y) is k = found_each (ObjectLies program.scope) a.locals name x own (is ∙ k)
      by_local None is k = component_lies a.within name x k

  -- the object that a name means
  seen_object : (name : List ℕ) (u : Subtype) (v : Value) → meaning_of here name ≡ IsObject u v
      → (x : Object) × ObjectLies program.scope x × (x.subtype ≡ u) × (x.value ≡ v)
  seen_object name u v means =
      meant_object (ObjectLies program.scope) (own_object here name) (own_function here name) (package_object here name) (package_function here name)
      (meaning_in_scope program.scope (number_of program.scope name)) u v means (no_object_named program.scope (number_of program.scope name) u v)
      (own_lies name)
      (λ x e. (found_each (ObjectLies program.scope) m.variables name x store.variables e))

  module _ (s : Scope) (agrees : Agrees s (inside program m a p)) where
    meant : (name : List ℕ) (number : ℕ) (r : Role) (t : Subtype) → number_of s name ≡ Some number → entity_at s number ≡ Some (entity.Object r t)
        → MeansPart s program.scope (meaning_of here name) t
    meant name number r t numbered at =
        means_part s program.scope (meaning_of here name) r t (agrees.sound.each number (entity.Object r t) at)
        (agrees.names name number (entity.Object r t) numbered at)

    pub parts_seen : PartsLieHere s here
    parts_seen name number r t u v numbered at means = by_part (meant name number r t numbered at)
      where
        inside_u : lies_inside program.scope u.type_number v ≡ true
        inside_u = let x = seen_object name u v means in meant_inside program.scope x.0 u v x.1 x.2 x.3

        by_part : MeansPart s program.scope (meaning_of (inside program m a p) name) t → lies_inside program.scope t.type_number v ≡ true
        by_part (inl d) =
            let same = same_object t u d.value v (sym d.is ∙ means) in subst (λ k. lies_inside program.scope k.type_number v ≡ true) (sym same.0) inside_u
        by_part (inr d) =
            let same = same_object d.number.subtype u (values.Number d.number.value) v (sym d.number.is ∙ means) in
            subst (λ x. lies_inside program.scope t.type_number x ≡ true) same.1 refl
