-- A value is stored in a target: places agree as before, and targets stay targets.
use Rattle.std.proofs.Common.{◌≡◌, ◌≢◌, ℕ, List, ◌∷◌, Bool, true, false, ◌⊎◌, inl, inr, Some, refl, sym, ap, ◌∙◌, subst, arith}
use Rattle.std.specs.Prelude.{bytes_eq, cond, nat_eq}
use Rattle.std.proofs.lemmas.Slice.Eq.{bytes_eq-Decides}
use Rattle.meaning.specs.kernel.specs.State.{put}
use Rattle.meaning.specs.types.specs.declared.entity.Subtype.{Subtype}
use Rattle.meaning.specs.types.specs.Scopes.{Scope}
use Rattle.meaning.specs.types.specs.Values.{Value}
use Rattle.meaning.specs.types.specs.Shapes.{has_shape, shape_of}
use Rattle.meaning.specs.types.specs.Places.{Object, Place, object_of}
use Rattle.meaning.specs.Works.{Part, Home, InActivation, InPackage, InObject, Target, Store, Activation}
use Rattle.meaning.specs.Targets.{activation_with, objects_of, store_with, stored_in, stored_to, value_in, with_part}
use Rattle.expr_soundness.specs.SoundScopes.{IsKnown, SoundScope}
use Rattle.expr_soundness.specs.Agreeing.{Agrees}
use Rattle.expr_soundness.specs.Laws.{HasComponent, Replaces}
use Rattle.expr_soundness.specs.Variables.{CanBeStored, HasPart, HasTargetValue, IsTargetThere, TargetsAreVariables, part_subtype, seen_by}
use Rattle.expr_soundness.proofs.Positions.{same_some}
use Rattle.expr_soundness.proofs.Agreement.{component_kept, local_kept, place_values, variable_kept}
use Rattle.expr_soundness.proofs.Storing.{value_there, whole_changed}
use Rattle.expr_soundness.proofs.Targeting.{object_name, target_named}

abbrev objects_at : Home → Store → Activation → List Object
objects_at home m a = elim home [ InActivation ↦ a.locals | InPackage ↦ m.variables | InObject o ↦ m.components o ]

-- the object with the value stored
abbrev renewed : Target → Value → Object → Object
renewed x v object = record object { value = with_part x.parts v object.value }

stored_front : (objects : List Object) (x : Target) (v : Value) (object : Object) → object_of objects x.name ≡ Some object
    → stored_in objects x v ≡ renewed x v object ∷ objects
stored_front objects x v object h = ap (λ o. stored_to o x.parts v objects) h

replaces : (p : Place) (x : Target) (v : Value) (object : Object) (objects : List Object) → object_of objects x.name ≡ Some object
    → has_shape (shape_of p.scope object.subtype) (renewed x v object).value ≡ true
    → Replaces p (renewed x v object) objects
replaces p x v object objects found suited = record { old = object; found = ap (object_of objects) (object_name objects x.name object found) ∙ found; same = refl; suited = suited }

put_here : {T : Type 0} (n : ℕ) (x : T) (f : ℕ → T) → put n x f n ≡ x
put_here n x f = let e : nat_eq n n ≡ true = grind arith in ap (λ b. cond b x (f n)) e

put_there : {T : Type 0} (n k : ℕ) (x : T) (f : ℕ → T) → k ≢ n → put n x f k ≡ f k
put_there n k x f differs = let e : nat_eq k n ≡ false = grind (arith, differs) in ap (λ b. cond b x (f k)) e

has_component : (m : Store) (o : ℕ) (x : Target) (v : Value) (object : Object) → object_of (m.components o) x.name ≡ Some object
    → HasComponent m.components (put o (stored_in (m.components o) x v) m.components) o (renewed x v object)
has_component m o x v object found =
    record {
      added = put_here o (stored_in (m.components o) x v) m.components ∙ stored_front (m.components o) x v object found;
      others = λ n differs. put_there o n (stored_in (m.components o) x v) m.components differs;
    }

abbrev store_at : Home → Target → Value → Store → Store
store_at home x v m = elim home [
  | InActivation ↦ m
  | InPackage ↦ record m { variables = stored_in m.variables x v }
  | InObject o ↦ record m { components = put o (stored_in (m.components o) x v) m.components }
]

abbrev activation_at : Home → Target → Value → Activation → Activation
activation_at home x v a = elim home [ InActivation ↦ record a { locals = stored_in a.locals x v } | InPackage ↦ a | InObject o ↦ a ]

-- ---- agreement

module _ (s : Scope) (p : Place) (x : Target) (v : Value) (object : Object) where
  package_stored : (m : Store) (c : Activation) → Agrees s (seen_by p m c) → object_of m.variables x.name ≡ Some object
      → has_shape (shape_of p.scope object.subtype) (renewed x v object).value ≡ true
      → Agrees s (seen_by p (record m { variables = stored_in m.variables x v }) c)
  package_stored m c agrees found suited =
      subst (λ l. Agrees s (seen_by p (record m { variables = l }) c)) (sym (stored_front m.variables x v object found))
      (variable_kept s (seen_by p m c) (renewed x v object) agrees (replaces (seen_by p m c) x v object m.variables found suited))

  component_stored : (m : Store) (c : Activation) (o : ℕ) → Agrees s (seen_by p m c) → object_of (m.components o) x.name ≡ Some object
      → has_shape (shape_of p.scope object.subtype) (renewed x v object).value ≡ true
      → Agrees s (seen_by p (record m { components = put o (stored_in (m.components o) x v) m.components }) c)
  component_stored m c o agrees found suited =
      component_kept s (seen_by p m c) o (renewed x v object) (put o (stored_in (m.components o) x v) m.components) agrees (replaces (seen_by p m c) x v object (m.components o) found suited)
      (has_component m o x v object found)

  own_stored : (m : Store) (a : Activation) (home : Home) → Agrees s (seen_by p m a) → object_of (objects_at home m a) x.name ≡ Some object
      → has_shape (shape_of p.scope object.subtype) (renewed x v object).value ≡ true
      → Agrees s (seen_by p (store_at home x v m) (activation_at home x v a))
  own_stored m a InActivation agrees found suited =
      subst (λ l. Agrees s (seen_by p m (record a { locals = l }))) (sym (stored_front a.locals x v object found))
      (local_kept s (seen_by p m a) (renewed x v object) agrees (replaces (seen_by p m a) x v object a.locals found suited))
  own_stored m a InPackage agrees found suited = package_stored m a agrees found suited
  own_stored m a (InObject o) agrees found suited = component_stored m a o agrees found suited

  other_stored : (m : Store) (a c : Activation) (home : Home) → Agrees s (seen_by p m c) → object_of (objects_at home m a) x.name ≡ Some object
      → has_shape (shape_of p.scope object.subtype) (renewed x v object).value ≡ true
      → Agrees s (seen_by p (store_at home x v m) c)
  other_stored m a c InActivation agrees found suited = agrees
  other_stored m a c InPackage agrees found suited = package_stored m c agrees found suited
  other_stored m a c (InObject o) agrees found suited = component_stored m c o agrees found suited

-- ---- targets

-- the list of objects is the same, or has the object with the value stored in front
abbrev IsStoredIn : Target → Value → Object → List Object → List Object → Type 0
IsStoredIn x v object before after = (after ≡ before) ⊎ ((after ≡ renewed x v object ∷ before) × (object_of before x.name ≡ Some object))

components_stored : (x : Target) (v : Value) (object : Object) (m : Store) (o n : ℕ) → object_of (m.components o) x.name ≡ Some object
    → IsStoredIn x v object (m.components n) (put o (stored_in (m.components o) x v) m.components n)
components_stored x v object m o n found = by_test (nat_eq n o) refl
  where
    by_test : (b : Bool) → nat_eq n o ≡ b → IsStoredIn x v object (m.components n) (put o (stored_in (m.components o) x v) m.components n)
    by_test true e =
        let same : n ≡ o = grind (arith, e) in
        inr (
          ap (put o (stored_in (m.components o) x v) m.components) same ∙ put_here o (stored_in (m.components o) x v) m.components ∙ stored_front (m.components o) x v object found ∙ ap (λ k. renewed x v object ∷ m.components k) (sym same),
          ap (λ k. object_of (m.components k) x.name) same ∙ found,
        )
    by_test false e = let differs : n ≢ o = λ k. grind (arith, e, k) in inl (put_there o n (stored_in (m.components o) x v) m.components differs)

own_objects : (x : Target) (v : Value) (object : Object) (m : Store) (a : Activation) (home there : Home) → object_of (objects_at home m a) x.name ≡ Some object
    → IsStoredIn x v object (objects_at there m a) (objects_at there (store_at home x v m) (activation_at home x v a))
own_objects x v object m a InActivation InActivation found = inr (stored_front a.locals x v object found, found)
own_objects x v object m a InActivation InPackage found = inl refl
own_objects x v object m a InActivation (InObject n) found = inl refl
own_objects x v object m a InPackage InActivation found = inl refl
own_objects x v object m a InPackage InPackage found = inr (stored_front m.variables x v object found, found)
own_objects x v object m a InPackage (InObject n) found = inl refl
own_objects x v object m a (InObject o) InActivation found = inl refl
own_objects x v object m a (InObject o) InPackage found = inl refl
own_objects x v object m a (InObject o) (InObject n) found = components_stored x v object m o n found

other_objects : (x : Target) (v : Value) (object : Object) (m : Store) (a c : Activation) (home there : Home)
    → object_of (objects_at home m a) x.name ≡ Some object
    → IsStoredIn x v object (objects_at there m c) (objects_at there (store_at home x v m) c)
other_objects x v object m a c InActivation there found = inl refl
other_objects x v object m a c InPackage InActivation found = inl refl
other_objects x v object m a c InPackage InPackage found = inr (stored_front m.variables x v object found, found)
other_objects x v object m a c InPackage (InObject n) found = inl refl
other_objects x v object m a c (InObject o) InActivation found = inl refl
other_objects x v object m a c (InObject o) InPackage found = inl refl
other_objects x v object m a c (InObject o) (InObject n) found = components_stored x v object m o n found

-- the object of a target is the same, or the renewed one of the same subtype
record IsStill (t : Scope) (y : Target) (old : Object) (objects : List Object) : Type 0 where
  object : Object
  there : object_of objects y.name ≡ Some object
  same : object.subtype ≡ old.subtype
  suited : has_shape (shape_of t object.subtype) object.value ≡ true

found_still : (t : Scope) (x y : Target) (v : Value) (object old : Object) (before after : List Object) → IsStoredIn x v object before after
    → object_of before y.name ≡ Some old → has_shape (shape_of t old.subtype) old.value ≡ true
    → (object ≡ old → has_shape (shape_of t object.subtype) (renewed x v object).value ≡ true) → IsStill t y old after
found_still t x y v object old before after (inl e) found suited new = record { object = old; there = ap (λ l. object_of l y.name) e ∙ found; same = refl; suited = suited }
found_still t x y v object old before after (inr e) found suited new = by_test (bytes_eq object.name y.name) refl
  where
    by_test : (b : Bool) → bytes_eq object.name y.name ≡ b → IsStill t y old after
    by_test true k =
        let named : x.name ≡ y.name = sym (object_name before x.name object e.1) ∙ (bytes_eq-Decides object.name y.name).0 k in
        let is : object ≡ old = same_some object old (sym e.1 ∙ ap (object_of before) named ∙ found) in
        record {
          object = renewed x v object;
          there = ap (λ l. object_of l y.name) e.0 ∙ ap (λ b. cond b (Some (renewed x v object)) (object_of before y.name)) k;
          same = ap (λ o. o.subtype) is;
          suited = new is;
        }
    by_test false k = record { object = old; there = ap (λ l. object_of l y.name) e.0 ∙ ap (λ b. cond b (Some (renewed x v object)) (object_of before y.name)) k ∙ found; same = refl; suited = suited }

still_target : (t : Scope) (y : Target) (n : Store) (c : Activation) (old : Object) → IsKnown t old.subtype
    → part_subtype t old.subtype y.parts ≡ Some y.subtype → IsStill t y old (objects_of y n c) → IsTargetThere t y n c
still_target t y n c old known part h =
    record {
      object = h.object;
      there = h.there;
      known = subst (IsKnown t) (sym h.same) known;
      suited = h.suited;
      part = ap (λ u. part_subtype t u y.parts) h.same ∙ part;
    }

-- ---- the laws

part_there : (s : Scope) (t u : Subtype) (parts : List Part) (v : Value) → SoundScope s → part_subtype s t parts ≡ Some u → has_shape (shape_of s t) v ≡ true
    → HasPart s u parts v
part_there s t u parts v sound there suited = let found = value_there s sound parts t u v suited there in record { value = found.0; is = found.1; suited = found.2 }

target_valued : (s : Scope) (x : Target) (m : Store) (a : Activation) → SoundScope s → IsTargetThere s x m a → HasTargetValue s x m a
target_valued s x m a sound there =
    let found = value_there s sound x.parts there.object.subtype x.subtype there.object.value there.suited there.part in
    record { value = found.0; is = ap (λ o. value_in o x.parts) there.there ∙ found.1; suited = found.2 }

module _ (s : Scope) (p : Place) (x : Target) (v : Value) (m : Store) (a : Activation) (can : CanBeStored s p x v m a) where
  abbrev object : Object
  object = can.target.object

  fits_here : has_shape (shape_of s object.subtype) (renewed x v object).value ≡ true
  fits_here = whole_changed s can.agrees.sound x.parts object.subtype x.subtype object.value v can.target.suited can.target.part can.suited

  fits_place : has_shape (shape_of p.scope object.subtype) (renewed x v object).value ≡ true
  fits_place = place_values s (seen_by p m a) can.agrees object.subtype (renewed x v object).value can.target.known ∙ fits_here

  target_stored : Agrees s (seen_by p (store_with x v m) (activation_with x v a))
  target_stored = own_stored s p x v object m a x.home can.agrees can.target.there fits_place

  stored_elsewhere : (t : Scope) (c : Activation) → Agrees t (seen_by p m c) → Agrees t (seen_by p (store_with x v m) c)
  stored_elsewhere t c agrees = other_stored t p x v object m a c x.home agrees can.target.there fits_place

  target_kept : (y : Target) → IsTargetThere s y m a → IsTargetThere s y (store_with x v m) (activation_with x v a)
  target_kept y there = still_target s y (store_with x v m) (activation_with x v a) there.object there.known there.part
      (found_still s x y v object there.object (objects_of y m a) (objects_of y (store_with x v m) (activation_with x v a)) (own_objects x v object m a x.home y.home can.target.there) there.there there.suited (λ is. fits_here))

  kept_elsewhere : (t : Scope) (y : Target) (c : Activation) → Agrees t (seen_by p m c) → IsTargetThere t y m c → IsTargetThere t y (store_with x v m) c
  kept_elsewhere t y c agrees there =
      still_target t y (store_with x v m) c there.object there.known there.part
      (found_still t x y v object there.object (objects_of y m c) (objects_of y (store_with x v m) c) (other_objects x v object m a c x.home y.home can.target.there) there.there there.suited
      (λ is. sym (place_values t (seen_by p m c) agrees object.subtype (renewed x v object).value (subst (λ o. IsKnown t o.subtype) (sym is) there.known)) ∙ fits_place))

pub targets_are_variables : TargetsAreVariables
targets_are_variables =
    record {
      named = target_named;
      value = λ s t u parts v sound there suited. part_there s t u parts v sound there suited;
      changed = λ s t u parts v new sound there suited k. whole_changed s sound parts t u v new suited there k;
      valued = target_valued;
      stored = target_stored;
      elsewhere = λ s t p x v m a c can agrees. stored_elsewhere s p x v m a can t c agrees;
      kept = λ s p x y v m a can there. target_kept s p x v m a can y there;
      kept_elsewhere = λ s t p x y v m a c can agrees there. kept_elsewhere s p x v m a can t y c agrees there;
    }
