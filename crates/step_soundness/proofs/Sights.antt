-- What fits the visible names goes on fitting: with one more object, with fewer names, with another store.
use Rattle.std.proofs.Common.{◌≡◌, ℕ, ℤ, List, ◌∷◌, Bool, true, false, inl, inr, Option, Some, None, refl, sym, ap, ◌∙◌, subst}
use Rattle.std.specs.Prelude.{bytes_eq, is_some, option_map, slice_get}
use Rattle.expr_soundness.specs.types.specs.declared.entity.Subtype.{Subtype}
use Rattle.expr_soundness.specs.types.specs.declared.entity.Role.{Role}
use Rattle.expr_soundness.specs.types.specs.declared.entity.Role.TheVariants as role
use Rattle.expr_soundness.specs.types.specs.Entities.{Entity}
use Rattle.expr_soundness.specs.types.specs.Entities as entity
use Rattle.expr_soundness.specs.types.specs.Scopes.{Scope, base_range_of, form_at, is_visible, with_name}
use Rattle.expr_soundness.specs.meaning.specs.Works.{turn_subtype}
use Rattle.expr_soundness.specs.types.specs.Shapes.{Shape, Ranged, Logical, Timed, Repeated, Grouped, Shapeless, has_shape, initial, narrowed, shape_of, shape_or_none, shapes}
use Rattle.expr_soundness.specs.types.specs.Values.{Value, Number, Truth, Array, Record}
use Rattle.expr_soundness.specs.types.specs.Places.{Object, Place, object_of}
use Rattle.expr_soundness.specs.expr_rules.specs.Laws.{type_shape}
use Rattle.expr_soundness.specs.expr_rules.specs.Typing.{is_integers}
use Rattle.expr_soundness.specs.declaration_rules.specs.Laws.{StandsFirst}
use Rattle.expr_soundness.specs.SoundScopes.{IsKnown, IsSoundObject, SoundScope}
use Rattle.expr_soundness.specs.Agreeing.{Agrees}
use Rattle.expr_soundness.specs.meaning.specs.Programs.{Program}
use Rattle.step_soundness.specs.Objects.{IsOf, object_subtype, subtype_in}
use Rattle.step_soundness.specs.Fitting.{FitsScope, IsFound, Narrows, entity_named, is_result}
use Rattle.step_soundness.specs.Judged.{turn_scope}
use Rattle.step_soundness.specs.Laws.{Premises}
use Rattle.step_soundness.proofs.Lookups.{bytes_turned, named_added, named_behind, object_behind, object_in_front, same_bytes, unseen_nothing}

-- ---- values of subtypes are those of types, but for their range

narrowed_alike : (t u : Subtype) (x : Shape) (v : Value) → has_shape (narrowed t x) v ≡ has_shape (narrowed u x) v
narrowed_alike t u (Ranged first) (Number z) = refl
narrowed_alike t u (Ranged first) (Truth b) = refl
narrowed_alike t u (Ranged first) (Array vs) = refl
narrowed_alike t u (Ranged first) (Record fs) = refl
narrowed_alike t u Logical v = refl
narrowed_alike t u Timed v = refl
narrowed_alike t u (Repeated length x) v = refl
narrowed_alike t u (Grouped parts) v = refl
narrowed_alike t u Shapeless v = refl

pub subtype_values : (s : Scope) (t : Subtype) (v : Value) → has_shape (shape_of s t) v ≡ has_shape (type_shape s t.type_number) v
subtype_values s t v = narrowed_alike t (base_range_of t.type_number) (shape_or_none (slice_get (shapes s) t.type_number)) v

pub is_there : {X : Type 0} (o : Option X) → is_some o ≡ true → (x : X) × (o ≡ Some x)
is_there (Some x) h = (x, refl)
is_there None h = cc

same_type : (s : Scope) (p : Place) → Agrees s p → (n : ℕ) → is_some (form_at s n) ≡ true → type_shape p.scope n ≡ type_shape s n
same_type s p agrees n known = let form = is_there (form_at s n) known in agrees.shapes n form.0 form.1

pub value_here : (s : Scope) (p : Place) → Agrees s p → (n : ℕ) → is_some (form_at s n) ≡ true → (v : Value) → IsOf s n v → IsOf p.scope n v
value_here s p agrees n known v h = ap (λ x. has_shape x v) (same_type s p agrees n known) ∙ h

pub value_there : (s : Scope) (p : Place) → Agrees s p → (n : ℕ) → is_some (form_at s n) ≡ true → (v : Value) → IsOf p.scope n v → IsOf s n v
value_there s p agrees n known v h = ap (λ x. has_shape x v) (sym (same_type s p agrees n known)) ∙ h

-- ---- one more object

abbrev role_or : Role → Entity → Role
role_or r (entity.Object q u) = q
role_or r e = r

abbrev subtype_or : Subtype → Entity → Subtype
subtype_or t (entity.Object q u) = u
subtype_or t e = t

subtype_found : (x : Object) (o : Option Object) → o ≡ Some x → option_map object_subtype o ≡ Some x.subtype
subtype_found x o h = ap (option_map object_subtype) h

module _ (program : Program) where
  fits_with : (s : Scope) (p : Place) (x : Object) (r : Role) (t : Subtype) → FitsScope program s p → is_visible s x.name ≡ false
      → Agrees (with_name s x.name (entity.Object r t)) (record p { locals = x ∷ p.locals }) → (is_result r ≡ true → x.subtype ≡ t)
      → FitsScope program (with_name s x.name (entity.Object r t)) (record p { locals = x ∷ p.locals })
  fits_with s p x r t fits unseen agrees same = record { agrees = agrees; finds = finds; results = results }
    where
      finds : (other : List ℕ) (e : Entity) → entity_named (with_name s x.name (entity.Object r t)) other ≡ Some e → IsFound program p.within other e
      finds other e h = elim (named_added s x.name (entity.Object r t) unseen other e h) [ inl k ↦ fits.finds other e k | inr k ↦ subst (λ d. IsFound program p.within other d) k.1 tt ]

      not_here : (other : List ℕ) (e : Entity) (b : Bool) → bytes_eq x.name other ≡ b → entity_named s other ≡ Some e → b ≡ false
      not_here other e true same_names k = let none = unseen_nothing s x.name unseen in let some = ap (entity_named s) (same_bytes x.name other same_names) ∙ k in let bad = sym none ∙ some in cc
      not_here other e false same_names k = refl

      results : (other : List ℕ) (q : Role) (u : Subtype) → entity_named (with_name s x.name (entity.Object r t)) other ≡ Some (entity.Object q u) → is_result q ≡ true
          → subtype_in (x ∷ p.locals) other ≡ Some u
      results other q u h result =
          elim (named_added s x.name (entity.Object r t) unseen other (entity.Object q u) h) [
            | inl k ↦
                ap (option_map object_subtype) (object_behind x p.locals other (not_here other (entity.Object q u) (bytes_eq x.name other) refl k)) ∙ fits.results other q u k result
            | inr k ↦
                subtype_found x (object_of (x ∷ p.locals) other) (object_in_front x p.locals other (bytes_turned other x.name k.0))
                ∙ ap Some (same (ap is_result (ap (role_or r) k.1) ∙ result) ∙ ap (subtype_or t) k.1)
          ]

  pub fits_declared : Premises program → (s : Scope) (p : Place) (name : List ℕ) (r : Role) (t : Subtype) (v : Value) → FitsScope program s p → is_visible s name ≡ false → IsKnown s t
      → IsSoundObject s r t → IsOf p.scope t.type_number v
      → FitsScope program (with_name s name (entity.Object r t)) (record p { locals = (let x : Object = record { name = name; subtype = t; value = v } in x) ∷ p.locals })
  fits_declared laws s p name r t v fits unseen known object suited =
      let x : Object = record { name = name; subtype = t; value = v } in
      fits_with s p x r t fits unseen (laws.kept.declared s p name r t v fits.agrees unseen object (subtype_values s t v ∙ value_there s p fits.agrees t.type_number known v suited)) (λ h. refl)

  pub fits_turn : Premises program → (s : Scope) (p : Place) (name : List ℕ) (t : Subtype) (z : ℤ) → FitsScope program s p → is_visible s name ≡ false → is_integers (form_at s t.type_number) ≡ true
      → FitsScope program (turn_scope s name t) (record p { locals = (let x : Object = record { name = name; subtype = turn_subtype z; value = Number z } in x) ∷ p.locals })
  fits_turn laws s p name t z fits unseen integers =
      let x : Object = record { name = name; subtype = turn_subtype z; value = Number z } in
      fits_with s p x role.LoopParameter t fits unseen (laws.kept.parameter s p name t z fits.agrees unseen integers) (λ h. cc)

  -- ---- fewer names

  pub fits_fewer : Premises program → (s t : Scope) (p : Place) → StandsFirst s t → SoundScope s → FitsScope program t p → FitsScope program s p
  fits_fewer laws s t p first sound fits =
      record {
        agrees = laws.kept.narrowed s t p first sound fits.agrees;
        finds = λ name e h. fits.finds name e (named_behind s t first name e h);
        results = λ name r u h. fits.results name r u (named_behind s t first name (entity.Object r u) h);
      }

  pub narrows_same : (s : Scope) → Narrows program s s
  narrows_same s p fits = fits

  pub narrows_then : (s t u : Scope) → Narrows program s t → Narrows program t u → Narrows program s u
  narrows_then s t u a b p fits = b p (a p fits)

  -- ---- another store or other objects of the activation

  pub fits_changed : (s : Scope) (p q : Place) → FitsScope program s p → p.within ≡ q.within → ((name : List ℕ) → subtype_in q.locals name ≡ subtype_in p.locals name) → Agrees s q → FitsScope program s q
  fits_changed s p q fits same locals agrees =
      record {
        agrees = agrees;
        finds = λ name e h. subst (λ w. IsFound program w name e) same (fits.finds name e h);
        results = λ name r t h i. locals name ∙ fits.results name r t h i;
      }

  -- an object without initial value
  pub initial_suited : Premises program → (t : Subtype) → IsOf program.scope t.type_number (initial program.scope t)
  initial_suited laws t = sym (subtype_values program.scope t (initial program.scope t)) ∙ laws.initial (shape_of program.scope t)
