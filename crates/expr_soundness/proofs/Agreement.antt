-- A place agrees with fewer names, with one more object on both sides, and with a value of the same type stored.
use Rattle.std.proofs.Common.{◌≡◌, ◌≢◌, ℕ, ℤ, ◌++◌, drop, length, List, [], ◌∷◌, Bool, true, false, ◌⊎◌, inl, inr, Option, Some, None, refl, sym, ap, ◌∙◌, subst, arith}
use Rattle.std.specs.Prelude.{bytes_eq, cond, is_some, nat_eq, slice_get}
use Rattle.std.proofs.lemmas.List.{take-append-drop}
use Rattle.std.proofs.lemmas.Slice.Eq.{bytes_eq-Decides}
use Rattle.meaning.specs.base.specs.declared.schedule.ScheduleLine.{ScheduleLine}
use Rattle.meaning.specs.types.specs.declared.entity.Subtype.{Subtype}
use Rattle.meaning.specs.types.specs.declared.entity.Role.{Role}
use Rattle.meaning.specs.types.specs.declared.entity.Role.TheVariants as role
use Rattle.meaning.specs.types.specs.declared.standing.Standing.{Standing}
use Rattle.meaning.specs.types.specs.declared.standing.Standing.TheVariants as standing
use Rattle.meaning.specs.types.specs.Entities.{TypeForm, Integers, Profile, Entity, OfType, OfSubtype, Constant, Literal, Exception, Subprogram, Entry, Predefined, Put, Task, Protected, LibraryUnit, Doubtful}
use Rattle.meaning.specs.types.specs.Entities as entity
use Rattle.meaning.specs.types.specs.Scopes.{Scope, Named, entity_at, entity_of, form_at, integer_type, is_visible, number_of, with_name}
use Rattle.meaning.specs.Works.{turn_subtype}
use Rattle.meaning.specs.types.specs.Values.{Value, Number}
use Rattle.meaning.specs.types.specs.Shapes.{has_shape, shape_of}
use Rattle.meaning.specs.types.specs.Standings.{stands_first}
use Rattle.meaning.specs.types.specs.Places.{Object, Function, Place, Meaning, IsObject, IsPredefined, IsProtected, IsSubtype, function_meaning, function_stands, meaning_in_scope, meaning_of, meaning_or, object_meaning, object_of, object_stands, or_else, own_components, own_function, own_object, package_function, package_object, stands_here}
use Rattle.meaning.specs.expr_rules.specs.declared.own.Own.TheVariants.{Typed}
use Rattle.meaning.specs.expr_rules.specs.Typing.{is_integers}
use Rattle.meaning.specs.expr_rules.proofs.TypedLaw.{as_number, integral_numeric}
use Rattle.meaning.specs.declaration_rules.specs.Laws.{StandsFirst}
use Rattle.expr_soundness.specs.SoundScopes.{IsKnown, IsSoundObject, SoundScope}
use Rattle.expr_soundness.specs.Agreeing.{Agrees, Means, MeansFunction, MeansNumber, MeansObject, MeansOne}
use Rattle.expr_soundness.specs.Laws.{AgreementIsKept, HasComponent, Replaces}
use Rattle.expr_soundness.proofs.Positions.{entity_kept, entity_number, item_added, number_added, number_kept, same_some}
use Rattle.expr_soundness.proofs.Parts.{same_values, subtype_values}
use Rattle.expr_soundness.proofs.Goods.{not_empty, object_known}
use Rattle.expr_soundness.proofs.Hiding.{hidden}
use Rattle.expr_soundness.proofs.Growing.{form_before, form_kept, grown, object_named, one_kept, sound_with_object, type_shape_kept, values_kept}

-- ---- what a name means, by what is found of it

abbrev meaning_by : Option Object → Option Function → Option Object → Option Function → Meaning → Meaning
meaning_by own f outer g last = meaning_or (or_else (object_meaning own) (function_meaning f)) (meaning_or (or_else (object_meaning outer) (function_meaning g)) last)

abbrev stands_by : Option Object → Option Function → Option Object → Option Function → Standing → Standing
stands_by own f outer g last = object_stands own (function_stands f (object_stands outer (function_stands g last)))

-- what is found is what was found, or an object of the same subtype with a value of its shape
pub record IsNewer (s : Scope) (old new : Option Object) : Type 0 where
  pub before : Object
  pub after : Object
  pub found : old ≡ Some before
  pub stored : new ≡ Some after
  pub same : after.subtype ≡ before.subtype
  pub suited : has_shape (shape_of s after.subtype) after.value ≡ true

abbrev pub IsAlike : Scope → Option Object → Option Object → Type 0
IsAlike s old new = (new ≡ old) ⊎ IsNewer s old new

record IsStored (s : Scope) (old new : Meaning) : Type 0 where
  before : Object
  after : Object
  found : old ≡ IsObject before.subtype before.value
  stored : new ≡ IsObject after.subtype after.value
  same : after.subtype ≡ before.subtype
  suited : has_shape (shape_of s after.subtype) after.value ≡ true

stored_first : (s : Scope) (f g : Option Function) (o p q r : Option Object) (last : Meaning) → IsNewer s o p
    → IsStored s (meaning_by o f q g last) (meaning_by p f r g last)
stored_first s f g o p q r last n =
    record {
      before = n.before;
      after = n.after;
      found = ap (λ x. meaning_by x f q g last) n.found;
      stored = ap (λ x. meaning_by x f r g last) n.stored;
      same = n.same;
      suited = n.suited;
    }

-- where the package's object alone is stored
stored_behind : (s : Scope) (own : Option Object) (f g : Option Function) (q r : Option Object) (last : Meaning) → IsNewer s q r
    → (meaning_by own f r g last ≡ meaning_by own f q g last) ⊎ IsStored s (meaning_by own f q g last) (meaning_by own f r g last)
stored_behind s (Some x) f g q r last n = inl refl
stored_behind s None (Some y) g q r last n = inl refl
stored_behind s None None g q r last n =
    inr (record {
      before = n.before;
      after = n.after;
      found = ap (λ x. meaning_by None None x g last) n.found;
      stored = ap (λ x. meaning_by None None x g last) n.stored;
      same = n.same;
      suited = n.suited;
    })

meaning_alike : (s : Scope) (f g : Option Function) (o p q r : Option Object) (last : Meaning) → IsAlike s o p → IsAlike s q r
    → (meaning_by p f r g last ≡ meaning_by o f q g last) ⊎ IsStored s (meaning_by o f q g last) (meaning_by p f r g last)
meaning_alike s f g o p q r last (inr n) k = inr (stored_first s f g o p q r last n)
meaning_alike s f g o p q r last (inl e) (inl k) = inl (ap (λ x. meaning_by x f r g last) e ∙ ap (λ x. meaning_by o f x g last) k)
meaning_alike s f g o p q r last (inl e) (inr n) =
    subst (λ x. (meaning_by x f r g last ≡ meaning_by o f q g last) ⊎ IsStored s (meaning_by o f q g last) (meaning_by x f r g last)) (sym e) (stored_behind s o f g q r last n)

object_alike : (s : Scope) (o p : Option Object) (w : Standing) → IsAlike s o p → object_stands p w ≡ object_stands o w
object_alike s o p w (inl e) = ap (λ x. object_stands x w) e
object_alike s o p w (inr n) = ap (λ x. object_stands x w) n.stored ∙ ap (λ t. standing.Part role.Variable t) n.same ∙ sym (ap (λ x. object_stands x w) n.found)

stands_alike : (s : Scope) (f g : Option Function) (o p q r : Option Object) (last : Standing) → IsAlike s o p → IsAlike s q r
    → stands_by p f r g last ≡ stands_by o f q g last
stands_alike s f g o p q r last h k =
    object_alike s o p (function_stands f (object_stands r (function_stands g last))) h
    ∙ ap (λ w. object_stands o (function_stands f w)) (object_alike s q r (function_stands g last) k)

-- ---- a place whose objects have changed

-- the place with other objects, at another time
abbrev pub changed : Place → List ScheduleLine → ℤ → List Object → (ℕ → List Object) → List Object → List ℕ → ℕ → ℕ → Place
changed p schedule now variables components locals actions priority frames_left =
    record p {
      schedule = schedule;
      now = now;
      variables = variables;
      components = components;
      locals = locals;
      actions = actions;
      priority = priority;
      frames_left = frames_left;
    }

-- the shape of the values of a known subtype is the same in both scopes
pub place_values : (s : Scope) (p : Place) → Agrees s p → (t : Subtype) (v : Value) → IsKnown s t
    → has_shape (shape_of p.scope t) v ≡ has_shape (shape_of s t) v
place_values s p agrees t v known = let f = not_empty (form_at s t.type_number) known in same_values p.scope s t v (agrees.shapes t.type_number f.0 f.1)

number_of_shape : (s : Scope) (t : Subtype) (v : Value) → is_integers (form_at s t.type_number) ≡ true → has_shape (shape_of s t) v ≡ true
    → (z : ℤ) × (v ≡ Number z)
number_of_shape s t v integers suited = as_number s (Typed t.type_number) v (integral_numeric s (Typed t.type_number) integers) (sym (subtype_values s t v) ∙ suited)

object_subtype : (t : Subtype) (v : Value) (m : Meaning) (x : Object) → m ≡ IsObject t v → m ≡ IsObject x.subtype x.value → t ≡ x.subtype
object_subtype t v m x h k = let f : Meaning → Subtype = λ m. elim m [ IsObject u v ↦ u | n ↦ t ] in ap f (sym h ∙ k)

module _ (s : Scope) (p : Place) (agrees : Agrees s p) (schedule : List ScheduleLine) (now : ℤ) (variables : List Object) (components : ℕ → List Object) (locals : List Object) (actions : List ℕ) (priority frames_left : ℕ) where
  abbrev pub later : Place
  later = changed p schedule now variables components locals actions priority frames_left

  abbrev Kept : List ℕ → Type 0
  Kept name = (meaning_of later name ≡ meaning_of p name) ⊎ IsStored p.scope (meaning_of p name) (meaning_of later name)

  function_kept : (name : List ℕ) (profile : Profile) (r : Option Subtype) → Kept name → MeansFunction p (meaning_of p name) profile r
      → MeansFunction later (meaning_of later name) profile r
  function_kept name profile (Some t) (inl e) h = (h.0, e ∙ h.1, h.2)
  function_kept name profile (Some t) (inr k) h = let e = sym k.found ∙ h.1 in cc
  function_kept name profile None k h = tt

  object_kept : (name : List ℕ) (t : Subtype) → IsKnown s t → Kept name → MeansObject s (meaning_of p name) t → MeansObject s (meaning_of later name) t
  object_kept name t known (inl e) h = record { value = h.value; is = e ∙ h.is; suited = h.suited }
  object_kept name t known (inr k) h =
      let same : k.after.subtype ≡ t = k.same ∙ sym (object_subtype t h.value (meaning_of p name) k.before h.is k.found) in
      record {
        value = k.after.value;
        is = k.stored ∙ ap (λ u. IsObject u k.after.value) same;
        suited = sym (place_values s p agrees t k.after.value known) ∙ subst (λ u. has_shape (shape_of p.scope u) k.after.value ≡ true) same k.suited;
      }

  parameter_after : (name : List ℕ) → Kept name → MeansNumber p.scope (meaning_of p name) → MeansNumber p.scope (meaning_of later name)
  parameter_after name (inl e) h = record { subtype = h.subtype; value = h.value; is = e ∙ h.is; integers = h.integers }
  parameter_after name (inr k) h =
      let t : Subtype = k.after.subtype in
      let same : t ≡ h.subtype = k.same ∙ sym (object_subtype h.subtype (Number h.value) (meaning_of p name) k.before h.is k.found) in
      let integers : is_integers (form_at p.scope t.type_number) ≡ true = ap (λ u. is_integers (form_at p.scope u.type_number)) same ∙ h.integers in
      let number = number_of_shape p.scope t k.after.value integers k.suited in
      record { subtype = t; value = number.0; is = k.stored ∙ ap (IsObject t) number.1; integers = integers }

  one_after : (name : List ℕ) (r : Role) (t : Subtype) → IsKnown s t → Kept name → MeansOne s p.scope (meaning_of p name) r t
      → MeansOne s p.scope (meaning_of later name) r t
  one_after name role.LoopParameter t known k h = parameter_after name k h
  one_after name r t known k h = object_kept name t known k h

  other_kept : (name : List ℕ) (m : Meaning) → ((t : Subtype) (v : Value) → IsObject t v ≢ m) → Kept name → meaning_of p name ≡ m → meaning_of later name ≡ m
  other_kept name m other (inl e) h = e ∙ h
  other_kept name m other (inr k) h = absurd (other k.before.subtype k.before.value (sym k.found ∙ h))

  means_kept : (name : List ℕ) (number : ℕ) (e : Entity) → entity_at s number ≡ Some e → IsAlike p.scope (own_object p name) (own_object later name)
      → IsAlike p.scope (package_object p name) (package_object later name)
      → Means s p name e → Means s later name e
  means_kept name number e at own outer h = by_entity e at h
    where
      kept : Kept name
      kept =
          meaning_alike p.scope (own_function p name) (package_function p name) (own_object p name) (own_object later name) (package_object p name) (package_object later name)
          (meaning_in_scope p.scope (number_of p.scope name))
          own
          outer

      stands : stands_here later name ≡ stands_here p name
      stands =
          stands_alike p.scope (own_function p name) (package_function p name) (own_object p name) (own_object later name) (package_object p name) (package_object later name)
          (stands_first p.scope (number_of p.scope name))
          own
          outer

      by_entity : (e : Entity) → entity_at s number ≡ Some e → Means s p name e → Means s later name e
      by_entity (OfType form t) at h = other_kept name (IsSubtype t) (λ u v k. cc) kept h
      by_entity (OfSubtype t) at h = other_kept name (IsSubtype t) (λ u v k. cc) kept h
      by_entity (entity.Object r t) at h = one_after name r t (object_known s r t (agrees.sound.each number (entity.Object r t) at)) kept h
      by_entity (Constant t v) at h = stands ∙ h
      by_entity (Literal b) at h = stands ∙ h
      by_entity Exception at h = tt
      by_entity (Subprogram profile) at h = function_kept name profile profile.result kept h
      by_entity (Entry profile) at h = tt
      by_entity (Predefined o profile) at h = other_kept name (IsPredefined o) (λ u v k. cc) kept h
      by_entity Put at h = tt
      by_entity (Task n) at h = tt
      by_entity (Protected o) at h = record { object = h.object; is = other_kept name (IsProtected h.object) (λ u v k. cc) kept h.is; offers = h.offers }
      by_entity LibraryUnit at h = tt
      by_entity Doubtful at h = tt

  pub changed_agrees : ((name : List ℕ) → IsAlike p.scope (own_object p name) (own_object later name))
      → ((name : List ℕ) → IsAlike p.scope (package_object p name) (package_object later name)) → Agrees s later
  changed_agrees own outer =
      record {
        sound = agrees.sound;
        forms = agrees.forms;
        shapes = agrees.shapes;
        names = λ name number e numbered at. means_kept name number e at (own name) (outer name) (agrees.names name number e numbered at);
      }

-- ---- one object in front of others

replaced : (s : Scope) (x : Object) (objects : List Object) (old : Object) → object_of objects x.name ≡ Some old → x.subtype ≡ old.subtype
    → has_shape (shape_of s x.subtype) x.value ≡ true
    → (name : List ℕ) → IsAlike s (object_of objects name) (object_of (x ∷ objects) name)
replaced s x objects old found same suited name = by_test (bytes_eq x.name name) refl
  where
    by_test : (b : Bool) → bytes_eq x.name name ≡ b → IsAlike s (object_of objects name) (cond b (Some x) (object_of objects name))
    by_test true e = inr (record { before = old; after = x; found = ap (object_of objects) (sym ((bytes_eq-Decides x.name name).0 e)) ∙ found; stored = refl; same = same; suited = suited })
    by_test false e = inl refl

either_alike : (s : Scope) (o p q : Option Object) → IsAlike s o p → IsAlike s (or_else o q) (or_else p q)
either_alike s o p q (inl e) = inl (ap (λ x. or_else x q) e)
either_alike s o p q (inr n) =
    inr (record { before = n.before; after = n.after; found = ap (λ x. or_else x q) n.found; stored = ap (λ x. or_else x q) n.stored; same = n.same; suited = n.suited })

pub second_alike : (s : Scope) (o p q : Option Object) → IsAlike s p q → IsAlike s (or_else o p) (or_else o q)
second_alike s (Some x) p q h = inl refl
second_alike s None p q h = h

pub local_kept : (s : Scope) (p : Place) (x : Object) → Agrees s p → Replaces p x p.locals → Agrees s (record p { locals = x ∷ p.locals })
local_kept s p x agrees r =
    changed_agrees s p agrees p.schedule p.now p.variables p.components (x ∷ p.locals) p.actions p.priority p.frames_left
    (λ name. either_alike p.scope (object_of p.locals name) (object_of (x ∷ p.locals) name) (object_of (own_components p p.within) name) (replaced p.scope x p.locals r.old r.found r.same r.suited name))
    (λ name. inl refl)

pub variable_kept : (s : Scope) (p : Place) (x : Object) → Agrees s p → Replaces p x p.variables → Agrees s (record p { variables = x ∷ p.variables })
variable_kept s p x agrees r =
    changed_agrees s p agrees p.schedule p.now (x ∷ p.variables) p.components p.locals p.actions p.priority p.frames_left (λ name. inl refl) (replaced p.scope x p.variables r.old r.found r.same r.suited)

components_alike : (p : Place) (object : ℕ) (x : Object) (after : ℕ → List Object) → Replaces p x (p.components object)
    → HasComponent p.components after object x → (n : ℕ) (name : List ℕ)
    → IsAlike p.scope (object_of (p.components n) name) (object_of (after n) name)
components_alike p object x after r has n name = by_test (nat_eq n object) refl
  where
    by_test : (b : Bool) → nat_eq n object ≡ b → IsAlike p.scope (object_of (p.components n) name) (object_of (after n) name)
    by_test true e =
        let same : n ≡ object = grind (arith, e) in
        subst (λ m. IsAlike p.scope (object_of (p.components m) name) (object_of (after m) name)) (sym same)
        (subst (λ l. IsAlike p.scope (object_of (p.components object) name) (object_of l name)) (sym has.added) (replaced p.scope x (p.components object) r.old r.found r.same r.suited name))
    by_test false e = let differs : n ≢ object = λ k. grind (arith, e, k) in inl (ap (λ l. object_of l name) (has.others n differs))

own_alike : (p : Place) (object : ℕ) (x : Object) (after : ℕ → List Object) → Replaces p x (p.components object) → HasComponent p.components after object x
    → (within : Option ℕ) (name : List ℕ)
    → IsAlike p.scope (object_of (own_components p within) name) (object_of (own_components (record p { components = after }) within) name)
own_alike p object x after r has (Some n) name = components_alike p object x after r has n name
own_alike p object x after r has None name = inl refl

pub component_kept : (s : Scope) (p : Place) (object : ℕ) (x : Object) (after : ℕ → List Object) → Agrees s p → Replaces p x (p.components object)
    → HasComponent p.components after object x
    → Agrees s (record p { components = after })
component_kept s p object x after agrees r has =
    changed_agrees s p agrees p.schedule p.now p.variables after p.locals p.actions p.priority p.frames_left
    (λ name. second_alike p.scope (object_of p.locals name) (object_of (own_components p p.within) name) (object_of (own_components (record p { components = after }) p.within) name)
    (own_alike p object x after r has p.within name))
    (λ name. inl refl)

pub circumstances_kept : (s : Scope) (p : Place) (schedule : List ScheduleLine) (now : ℤ) (actions : List ℕ) (priority frames_left : ℕ) → Agrees s p
    → Agrees s (record p { schedule = schedule; now = now; actions = actions; priority = priority; frames_left = frames_left })
circumstances_kept s p schedule now actions priority frames_left agrees =
    changed_agrees s p agrees schedule now p.variables p.components p.locals actions priority frames_left (λ name. inl refl) (λ name. inl refl)

-- ---- fewer names

module _ (s more : Scope) (p : Place) (sound : SoundScope s) (agrees : Agrees (s ++ more) p) where
  one_before : (m : Meaning) (r : Role) (t : Subtype) → IsKnown s t → MeansOne (s ++ more) p.scope m r t → MeansOne s p.scope m r t
  one_before m role.LoopParameter t known h = h
  one_before m r t known h = record { value = h.value; is = h.is; suited = sym (values_kept s (s ++ more) (grown s more) t h.value known) ∙ h.suited }

  means_before : (name : List ℕ) (number : ℕ) (e : Entity) → entity_at s number ≡ Some e → Means (s ++ more) p name e → Means s p name e
  means_before name number (OfType form t) at h = h
  means_before name number (OfSubtype t) at h = h
  means_before name number (entity.Object r t) at h = one_before (meaning_of p name) r t (object_known s r t (sound.each number (entity.Object r t) at)) h
  means_before name number (Constant t v) at h = h
  means_before name number (Literal b) at h = h
  means_before name number Exception at h = tt
  means_before name number (Subprogram profile) at h = h
  means_before name number (Entry profile) at h = tt
  means_before name number (Predefined o profile) at h = h
  means_before name number Put at h = tt
  means_before name number (Task n) at h = tt
  means_before name number (Protected o) at h = h
  means_before name number LibraryUnit at h = tt
  means_before name number Doubtful at h = tt

  fewer : Agrees s p
  fewer =
      record {
        sound = sound;
        forms = λ n form h. agrees.forms n form (form_kept s more n form h);
        shapes = λ n form h. agrees.shapes n form (form_kept s more n form h) ∙ type_shape_kept s more n form h;
        names = λ name n e numbered at. means_before name n e at (agrees.names name n e (number_kept s more name n numbered) (entity_kept s more n e at));
      }

narrowed : (s t : Scope) (p : Place) → StandsFirst s t → SoundScope s → Agrees t p → Agrees s p
narrowed s t p first sound agrees =
    let whole : t ≡ s ++ drop (length s) t = sym (take-append-drop (length s) t) ∙ ap (λ l. l ++ drop (length s) t) first in
    fewer s (drop (length s) t) p sound (subst (λ u. Agrees u p) whole agrees)

-- ---- a new object

-- a name for an object, which is one of subtype `u` at the place
module _ (s : Scope) (p : Place) (name : List ℕ) (r : Role) (t u : Subtype) (v : Value) (agrees : Agrees s p) (hidden : is_visible s name ≡ false) (sound : IsSoundObject s r t) (means : (m : Meaning) → m ≡ IsObject u v → MeansOne (s ++ object_named name r t ∷ []) p.scope m r t) where
  abbrev added : Object
  added = record { name = name; subtype = u; value = v }

  abbrev inside : Place
  inside = record p { locals = added ∷ p.locals }

  abbrev wider : Scope
  wider = s ++ object_named name r t ∷ []

  abbrev found_own : Option Object → List ℕ → Meaning
  found_own o other =
      meaning_by (or_else o (object_of (own_components p p.within) other)) (own_function p other) (package_object p other) (package_function p other) (meaning_in_scope p.scope (number_of p.scope other))

  own_differs : (other : List ℕ) (number : ℕ) → number_of s other ≡ Some number → bytes_eq name other ≡ false
  own_differs other number h = by_test (bytes_eq name other) refl
    where
      by_test : (b : Bool) → bytes_eq name other ≡ b → b ≡ false
      by_test true e =
          let same : name ≡ other = (bytes_eq-Decides name other).0 e in
          let seen : is_visible s name ≡ true = ap (is_visible s) same ∙ ap is_some h in
          sym seen ∙ hidden
      by_test false e = refl

  in_front : (other : List ℕ) (number : ℕ) → number_of s other ≡ Some number → IsAlike p.scope (own_object p other) (own_object inside other)
  in_front other number h = inl (ap (λ b. or_else (cond b (Some added) (object_of p.locals other)) (object_of (own_components p p.within) other)) (own_differs other number h))

  means_wider : (other : List ℕ) (number : ℕ) (e : Entity) → entity_at s number ≡ Some e → Means s inside other e → Means wider inside other e
  means_wider other number (OfType form x) at h = h
  means_wider other number (OfSubtype x) at h = h
  means_wider other number (entity.Object q x) at h =
      one_kept s wider (grown s (object_named name r t ∷ [])) p.scope (meaning_of inside other) q x (object_known s q x (agrees.sound.each number (entity.Object q x) at)) h
  means_wider other number (Constant x w) at h = h
  means_wider other number (Literal b) at h = h
  means_wider other number Exception at h = tt
  means_wider other number (Subprogram profile) at h = h
  means_wider other number (Entry profile) at h = tt
  means_wider other number (Predefined o profile) at h = h
  means_wider other number Put at h = tt
  means_wider other number (Task n) at h = tt
  means_wider other number (Protected o) at h = h
  means_wider other number LibraryUnit at h = tt
  means_wider other number Doubtful at h = tt

  old_name : (other : List ℕ) (number : ℕ) (e : Entity) → number_of s other ≡ Some number → entity_at s number ≡ Some e → Means wider inside other e
  old_name other number e numbered at =
      means_wider other number e at
      (means_kept s p agrees p.schedule p.now p.variables p.components (added ∷ p.locals) p.actions p.priority p.frames_left other number e at (in_front other number numbered) (inl refl)
      (agrees.names other number e numbered at))

  new_name : (other : List ℕ) (e : Entity) → bytes_eq other name ≡ true → entity.Object r t ≡ e → Means wider inside other e
  new_name other e same is =
      let named : name ≡ other = sym ((bytes_eq-Decides other name).0 same) in
      let seen : bytes_eq name other ≡ true = ap (λ n. bytes_eq name n) (sym named) ∙ (bytes_eq-Decides name name).1 refl in
      let meant : meaning_of inside other ≡ IsObject u v = ap (λ b. found_own (cond b (Some added) (object_of p.locals other)) other) seen in
      subst (Means wider inside other) is (means (meaning_of inside other) meant)

  names_wider : (other : List ℕ) (number : ℕ) (e : Entity) → number_of wider other ≡ Some number → entity_at wider number ≡ Some e → Means wider inside other e
  names_wider other number e numbered at =
      elim (number_added s (object_named name r t) other number numbered) [
        | inl k ↦ (let x = entity_is s (object_named name r t ∷ []) other number k e at in old_name other number e k x)
        | inr k ↦ (let last : entity.Object r t ≡ e = last_is s (object_named name r t) number e k.0 at in new_name other e k.1 last)
      ]
    where
      entity_is : (a b : Scope) (other : List ℕ) (number : ℕ) → number_of a other ≡ Some number → (e : Entity) → entity_at (a ++ b) number ≡ Some e
          → entity_at a number ≡ Some e
      entity_is a b other number h e at =
          let x = entity_number a other number h in
          x.1 ∙ sym (entity_kept a b number x.0 x.1) ∙ at

      last_is : (a : Scope) (m : Named) (number : ℕ) (e : Entity) → number ≡ length a → entity_at (a ++ m ∷ []) number ≡ Some e → m.entity ≡ e
      last_is a m number e h at = same_some m.entity e (sym (ap entity_of (ap (slice_get (a ++ m ∷ [])) h ∙ item_added a m)) ∙ at)

  wider_agrees : Agrees wider inside
  wider_agrees =
      record {
        sound = sound_with_object s name r t agrees.sound sound;
        forms = λ n form h. agrees.forms n form (form_before s name r t n form h);
        shapes =
            λ n form h. agrees.shapes n form (form_before s name r t n form h) ∙ sym (type_shape_kept s (object_named name r t ∷ []) n form (form_before s name r t n form h));
        names = names_wider;
      }

  declared_agrees : Agrees (with_name s name (entity.Object r t)) inside
  declared_agrees = subst (λ b. Agrees (cond b s wider) inside) (sym hidden) wider_agrees

integers_here : (s : Scope) (p : Place) → Agrees s p → (n : ℕ) → is_integers (form_at s n) ≡ true → is_integers (form_at p.scope n) ≡ true
integers_here s p agrees n h = by_form (form_at s n) refl h
  where
    by_form : (o : Option TypeForm) → form_at s n ≡ o → is_integers o ≡ true → is_integers (form_at p.scope n) ≡ true
    by_form (Some form) e k = ap is_integers (agrees.forms n form e) ∙ k
    by_form None e k = cc

module _ (s : Scope) (p : Place) (name : List ℕ) (agrees : Agrees s p) (hidden : is_visible s name ≡ false) where
  -- an object of its own subtype
  new_object : (r : Role) (t : Subtype) (v : Value) → IsSoundObject s r t → has_shape (shape_of s t) v ≡ true → (m : Meaning) → m ≡ IsObject t v
      → MeansOne (s ++ object_named name r t ∷ []) p.scope m r t
  new_object role.LoopParameter t v sound suited m h =
      let number = number_of_shape s t v sound suited in
      record { subtype = t; value = number.0; is = h ∙ ap (IsObject t) number.1; integers = integers_here s p agrees t.type_number sound }
  new_object r t v sound suited m h =
      record { value = v; is = h; suited = values_kept s (s ++ object_named name r t ∷ []) (grown s (object_named name r t ∷ [])) t v sound ∙ suited }

  object_declared : (r : Role) (t : Subtype) (v : Value) → IsSoundObject s r t → has_shape (shape_of s t) v ≡ true
      → Agrees (with_name s name (entity.Object r t)) (record p { locals = (let x : Object = record { name = name; subtype = t; value = v } in x) ∷ p.locals })
  object_declared r t v sound suited = declared_agrees s p name r t t v agrees hidden sound (new_object r t v sound suited)

  parameter_declared : (t : Subtype) (z : ℤ) → is_integers (form_at s t.type_number) ≡ true
      → Agrees (with_name s name (entity.Object role.LoopParameter t))
      (record p { locals = (let x : Object = record { name = name; subtype = turn_subtype z; value = Number z } in x) ∷ p.locals })
  parameter_declared t z integers =
      declared_agrees s p name role.LoopParameter t (turn_subtype z) (Number z) agrees hidden integers
      (λ m h. record { subtype = turn_subtype z; value = z; is = h; integers = ap is_integers (agrees.forms integer_type Integers agrees.sound.integer) })

pub agreement_is_kept : AgreementIsKept
agreement_is_kept =
    record {
      narrowed = narrowed;
      hidden = hidden;
      declared = λ s p name r t v agrees unseen sound suited. object_declared s p name agrees unseen r t v sound suited;
      parameter = λ s p name t z agrees unseen integers. parameter_declared s p name agrees unseen t z integers;
      local = local_kept;
      variable = variable_kept;
      component = component_kept;
      circumstances = circumstances_kept;
    }
