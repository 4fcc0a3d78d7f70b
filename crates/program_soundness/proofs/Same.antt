-- A place that fits one scope fits another one in which the same names stand for the same, whatever their order; scopes with new objects.
use Rattle.std.proofs.Common.{◌≡◌, ℕ, ◌+◌, List, [], ◌∷◌, ◌++◌, Bool, true, false, cond, Some, refl, sym, ap, ◌∙◌, subst, arith}
use Rattle.std.specs.Prelude.{is_some, slice_get, ⊤}
use Rattle.types.specs.declared.entity.Role.{Role}
use Rattle.types.specs.declared.entity.Role.TheVariants as role
use Rattle.types.specs.declared.entity.Subtype.{Subtype}
use Rattle.types.specs.Entities.{Entity, TypeForm}
use Rattle.types.specs.Entities as entity
use Rattle.types.specs.Scopes.{Named, Scope, base_range_of, entity_at, form_at, is_visible, with_name}
use Rattle.types.specs.Shapes.{Shape, entity_shape, has_shape, narrowed, shape_of, shape_or_none, shapes, shapes_after}
use Rattle.types.specs.Values.{Value}
use Rattle.types.specs.Places.{Meaning, Place}
use Rattle.expr_soundness.specs.expr_rules.specs.Laws.{type_shape}
use Rattle.expr_soundness.specs.expr_rules.proofs.TypeShapes.{entity_named, kept_shape, type_entity}
use Rattle.expr_soundness.specs.SoundScopes.{IsKnown, IsSoundObject, SoundScope}
use Rattle.expr_soundness.specs.Agreeing.{Agrees, Means, MeansOne}
use Rattle.expr_soundness.specs.Laws.{ScopesAreSound}
use Rattle.expr_soundness.proofs.Goods.{not_empty, object_known}
use Rattle.expr_soundness.proofs.Parts.{same_values, shape_found}
use Rattle.expr_soundness.specs.meaning.specs.Programs.{Program}
use Rattle.step_soundness.specs.Fitting.{FitsScope}
use Rattle.program_soundness.proofs.WiderScopes.{NoTypes, form_with, number_stands, stands, stands_number, with_all}

-- ---- shapes of types

split_shapes : (known : List Shape) (s more : Scope) → shapes_after known (s ++ more) ≡ shapes_after (shapes_after known s) more
split_shapes known [] more = refl
split_shapes known (x ∷ s) more = split_shapes (known ++ entity_shape known x.entity ∷ []) s more

shape_kept : (s more : Scope) (n : ℕ) (x : Shape) → slice_get (shapes s) n ≡ Some x → slice_get (shapes (s ++ more)) n ≡ Some x
shape_kept s more n x h = ap (λ l. slice_get l n) (split_shapes [] s more) ∙ kept_shape (shapes s) more n x h

shape_stands : (s : Scope) (n : ℕ) (form : TypeForm) → form_at s n ≡ Some form → (x : Shape) × (slice_get (shapes s) n ≡ Some x)
shape_stands s n form h =
    let one = type_entity (entity_at s n) form h in
    let item = entity_named (slice_get s n) (entity.OfType form one.0) one.1 in
    let here : 0 + n ≡ n = omega arith in
    (_, sym (ap (slice_get (shapes s)) here) ∙ shape_found [] s n item.0 item.1)

shape_added : (s more : Scope) (n : ℕ) (form : TypeForm) → form_at s n ≡ Some form → type_shape (s ++ more) n ≡ type_shape s n
shape_added s more n form h =
    let x = shape_stands s n form h in ap (λ o. narrowed (base_range_of n) (shape_or_none o)) (shape_kept s more n x.0 x.1 ∙ sym x.1)

pub shape_with : (s : Scope) (name : List ℕ) (e : Entity) (n : ℕ) (form : TypeForm) → form_at s n ≡ Some form
    → type_shape (with_name s name e) n ≡ type_shape s n
shape_with s name e n form h = by_test (is_visible s name)
  where
    by_test : (b : Bool) → type_shape (cond b s (s ++ record { name = name; entity = e } ∷ [])) n ≡ type_shape s n
    by_test true = refl
    by_test false = shape_added s (record { name = name; entity = e } ∷ []) n form h

-- the second scope has the types of the first, and no others
pub record SameTypes (s u : Scope) : Type 0 where
  pub forms : (n : ℕ) → form_at u n ≡ form_at s n
  pub shapes : (n : ℕ) (form : TypeForm) → form_at s n ≡ Some form → type_shape u n ≡ type_shape s n

pub types_with_all : (s : Scope) (xs : List Named) → NoTypes xs → SameTypes s (with_all s xs)
types_with_all s [] h = record { forms = λ n. refl; shapes = λ n form i. refl }
types_with_all s (x ∷ xs) h =
    let rest = types_with_all (with_name s x.name x.entity) xs h.1 in
    record {
      forms = λ n. rest.forms n ∙ form_with s x.name x.entity n h.0;
      shapes = λ n form i. rest.shapes n form (form_with s x.name x.entity n h.0 ∙ i) ∙ shape_with s x.name x.entity n form i;
    }

pub types_turned : (s u : Scope) → SameTypes s u → SameTypes u s
types_turned s u h = record { forms = λ n. sym (h.forms n); shapes = λ n form i. sym (h.shapes n form (sym (h.forms n) ∙ i)) }

pub types_then : (s t u : Scope) → SameTypes s t → SameTypes t u → SameTypes s u
types_then s t u h k = record { forms = λ n. k.forms n ∙ h.forms n; shapes = λ n form i. k.shapes n form (h.forms n ∙ i) ∙ h.shapes n form i }

pub known_same : (s u : Scope) → SameTypes s u → (t : Subtype) → IsKnown s t → IsKnown u t
known_same s u h t k = ap is_some (h.forms t.type_number) ∙ k

pub values_same : (s u : Scope) → SameTypes s u → (t : Subtype) (v : Value) → IsKnown s t → has_shape (shape_of u t) v ≡ has_shape (shape_of s t) v
values_same s u h t v known = let f = not_empty (form_at s t.type_number) known in same_values u s t v (h.shapes t.type_number f.0 f.1)

pub one_same : (s u here : Scope) → SameTypes s u → (m : Meaning) (r : Role) (t : Subtype) → IsKnown s t → MeansOne s here m r t → MeansOne u here m r t
one_same s u here same m role.LoopParameter t known h = h
one_same s u here same m r t known h = record { value = h.value; is = h.is; suited = values_same s u same t h.value known ∙ h.suited }

-- ---- the same names

module _ (program : Program) (t u : Scope) (sound : SoundScope u) (types : SameTypes t u) (names : (name : List ℕ) → stands u name ≡ stands t name) where
  means_same : (p : Place) → Agrees t p → (name : List ℕ) (n : ℕ) (e : Entity) → entity_at t n ≡ Some e → Means t p name e → Means u p name e
  means_same p agrees name n (entity.Object r v) at h = one_same t u p.scope types _ r v (object_known t r v (agrees.sound.each n (entity.Object r v) at)) h
  means_same p agrees name n (entity.OfType form v) at h = h
  means_same p agrees name n (entity.OfSubtype v) at h = h
  means_same p agrees name n (entity.Constant v x) at h = h
  means_same p agrees name n (entity.Literal b) at h = h
  means_same p agrees name n entity.Exception at h = tt
  means_same p agrees name n (entity.Subprogram profile) at h = h
  means_same p agrees name n (entity.Entry profile) at h = tt
  means_same p agrees name n (entity.Predefined o profile) at h = h
  means_same p agrees name n entity.Put at h = tt
  means_same p agrees name n (entity.Task m) at h = tt
  means_same p agrees name n (entity.Protected o) at h = h
  means_same p agrees name n entity.LibraryUnit at h = tt
  means_same p agrees name n entity.Doubtful at h = tt

  pub fits_same : (p : Place) → FitsScope program t p → FitsScope program u p
  fits_same p fits =
      record {
        agrees = record {
          sound = sound;
          forms = λ n form h. fits.agrees.forms n form (sym (types.forms n) ∙ h);
          shapes = λ n form h. fits.agrees.shapes n form (sym (types.forms n) ∙ h) ∙ sym (types.shapes n form (sym (types.forms n) ∙ h));
          names =
              λ name n e a b.
              let there = number_stands t name e (sym (names name) ∙ stands_number u name n e a b) in
              means_same p fits.agrees name there.0 e there.2 (fits.agrees.names name there.0 e there.1 there.2);
        };
        finds = λ name e h. fits.finds name e (sym (names name) ∙ h);
        results = λ name r v h. fits.results name r v (sym (names name) ∙ h);
      }

-- ---- objects

abbrev pub IsPlainRole : Role → Type 0
IsPlainRole role.LoopParameter = ⊥
IsPlainRole r = ⊤

object_sound : (s : Scope) (r : Role) (t : Subtype) → IsPlainRole r → IsKnown s t → IsSoundObject s r t
object_sound s role.LoopParameter t plain known = absurd plain
object_sound s r t plain known = known

pub sound_with : ScopesAreSound → (s : Scope) (name : List ℕ) (r : Role) (t : Subtype) → SoundScope s → IsPlainRole r → IsKnown s t
    → SoundScope (with_name s name (entity.Object r t))
sound_with scopes s name r t sound plain known = by_test (is_visible s name) refl
  where
    e : Entity
    e = entity.Object r t

    by_test : (b : Bool) → is_visible s name ≡ b → SoundScope (cond b s (s ++ record { name = name; entity = e } ∷ []))
    by_test true v = sound
    by_test false v =
        let known_there : IsKnown (with_name s name e) t = ap is_some (form_with s name e t.type_number refl) ∙ known in
        subst SoundScope (ap (λ b. cond b s (s ++ record { name = name; entity = e } ∷ [])) v)
        (scopes.widened s name e sound v (object_sound (with_name s name e) r t plain known_there) refl)
