-- Lists of objects whose values lie in their subtypes: what is found in them, what is stored, what a body is given.
use Rattle.std.proofs.Common.{◌≡◌, ℕ, List, [], ◌∷◌, drop, Bool, true, false, cond, Option, Some, None, refl, sym, ap, ◌∙◌, subst}
use Rattle.expr_soundness.specs.kernel.specs.PutLaws.{by_put}
use Rattle.expr_soundness.specs.base.specs.declared.exceptions.PredefinedException.TheVariants.{ConstraintError}
use Rattle.expr_soundness.specs.types.specs.declared.entity.Subtype.{Subtype}
use Rattle.expr_soundness.specs.types.specs.Entities.{Arrays}
use Rattle.expr_soundness.specs.types.specs.Scopes.{Scope}
use Rattle.expr_soundness.specs.types.specs.Values.{Value, Number, Truth, Array, Record, element_at, field_of, fits}
use Rattle.expr_soundness.specs.types.specs.Evaluations.{Val, Gives, Raises, Meaningless, and_then, raise}
use Rattle.expr_soundness.specs.types.specs.Evaluating.{passed}
use Rattle.expr_soundness.specs.types.specs.Places.{Object, object_of}
use Rattle.expr_soundness.specs.Lying.{ObjectLies, ObjectsLie, OnGives, components_of, elements_lie, fields_lie, lies, lies_inside}
use Rattle.expr_soundness.specs.StoringLaw.{StoredValuesLie}
use Rattle.expr_soundness.specs.Variables.{part_subtype}
use Rattle.expr_soundness.proofs.SeenValues.{found_each}
use Rattle.expr_soundness.proofs.Lies.{element_lies, field_lies, fitting_lies, lying_inside}
use Rattle.expr_soundness.specs.meaning.specs.Programs.{Parameter}
use Rattle.expr_soundness.specs.meaning.specs.Works.{Element, Field, Home, InActivation, InPackage, InObject, Part, Target}
use Rattle.expr_soundness.specs.meaning.specs.Targets.{activation_with, part_value, store_with, stored_to, value_in}
use Rattle.expr_soundness.specs.meaning.specs.Calls.{bound, is_out, with_first}
use Rattle.expr_soundness.specs.meaning.specs.SourceSteps.{Here}
use Rattle.step_soundness.specs.Objects.{IsTarget, PartOf, subtype_in}
use Rattle.step_soundness.specs.Holding.{IsSoundStore}
use Rattle.step_soundness.specs.InSubtypes.{StoreLies}
use Rattle.step_soundness.proofs.Aiming.{parts_there}
use Rattle.step_soundness.proofs.Lookups.{same_some}
use Rattle.step_soundness.proofs.Passing.{AllWorth, taken_subtypes}
use Rattle.step_soundness.proofs.Storing.{object_there}

-- ---- what lies in its subtype

pub object_inside : (s : Scope) (x : Object) → ObjectLies s x → lies_inside s x.subtype.type_number x.value ≡ true
object_inside s x h = lying_inside s x.subtype x.value h

-- ---- what is checked

pub passed_lies : (s : Scope) (t : Subtype) (v : Value) → lies_inside s t.type_number v ≡ true → OnGives (λ w. lies s t w ≡ true) (passed t v)
passed_lies s t v inside = by_test (fits t v) refl
  where
    by_test : (b : Bool) → fits t v ≡ b → OnGives (λ w. lies s t w ≡ true) (cond b (Gives v) (raise ConstraintError))
    by_test true e = fitting_lies s t v e inside
    by_test false e = tt

pub then_passed : (s : Scope) (t : Subtype) (v : Val Value) → OnGives (λ w. lies_inside s t.type_number w ≡ true) v
    → OnGives (λ w. lies s t w ≡ true) (and_then v (passed t))
then_passed s t (Gives x) h = passed_lies s t x h
then_passed s t (Raises x) h = tt
then_passed s t Meaningless h = tt

pub meant_inside : (s : Scope) (x : Object) (u : Subtype) (v : Value) → ObjectLies s x → x.subtype ≡ u → x.value ≡ v → lies_inside s u.type_number v ≡ true
meant_inside s x u v h same is =
    subst (λ t. lies_inside s t.type_number v ≡ true) same (subst (λ w. lies_inside s x.subtype.type_number w ≡ true) is (object_inside s x h))

-- ---- what is stored

module _ (stored : StoredValuesLie) (s : Scope) where
  -- with a value in front that is stored in a part of an object there
  stored_lies : (objects : List Object) (name : List ℕ) (parts : List Part) (t u : Subtype) (v : Value) → ObjectsLie s objects
      → subtype_in objects name ≡ Some t
      → PartOf s t parts u → lies s u v ≡ true → ObjectsLie s (stored_to (object_of objects name) parts v objects)
  stored_lies objects name parts t u v all there part l =
      let x = object_there objects name t there in
      let at : part_subtype s x.0.subtype parts ≡ Some u = parts_there s parts x.0.subtype u (subst (λ k. PartOf s k parts u) (sym x.2) part) in
      subst (λ o. ObjectsLie s (stored_to o parts v objects)) (sym x.1)
      (stored s x.0.subtype u parts x.0.value v at (found_each (ObjectLies s) objects name x.0 all x.1) l, all)

module _ (stored : StoredValuesLie) (h : Here) (holds : IsSoundStore h.program h.memory)
    (store : StoreLies h.program.scope h.memory) (own : ObjectsLie h.program.scope h.own.locals) where
  pub stored_at : (home : Home) (name : List ℕ) (parts : List Part) (u : Subtype) (v : Value)
      → IsTarget h.program h.own (let x : Target = record { home = home; name = name; parts = parts; subtype = u } in x) → lies h.program.scope u v ≡ true
      → StoreLies h.program.scope (store_with (record { home = home; name = name; parts = parts; subtype = u }) v h.memory)
      × ObjectsLie h.program.scope (activation_with (record { home = home; name = name; parts = parts; subtype = u }) v h.own).locals
  stored_at InActivation name parts u v target l =
      (store, stored_lies stored h.program.scope h.own.locals name parts target.part.whole u v own target.part.found target.part.part l)
  stored_at InPackage name parts u v target l = (
    record {
      variables = stored_lies stored h.program.scope h.memory.variables name parts target.part.whole u v store.variables
          (holds.same.variables name ∙ target.part.found) target.part.part l;
      components = store.components;
    },
    own,
  )
  stored_at (InObject o) name parts u v target l =
      let after = stored_to (object_of (h.memory.components o) name) parts v (h.memory.components o) in
      let lying : ObjectsLie h.program.scope after =
      stored_lies stored h.program.scope (h.memory.components o) name parts target.part.whole u v (store.components o)
      (holds.same.components o name ∙ target.part.found) target.part.part l
      in (
        record {
          variables = store.variables;
          components = λ n. by_put (ObjectsLie h.program.scope) o n after h.memory.components (λ is. lying) (λ other. store.components n);
        },
        own,
      )

-- ---- what a body is given

pub bound_lies : (s : Scope) (fs : List Parameter) (vs : List Value) → AllWorth (λ t v. lies s t v ≡ true) (taken_subtypes fs) vs → ObjectsLie s (bound fs vs)
bound_lies s [] vs given = tt
bound_lies s (f ∷ fs) vs given = by_mode (is_out f.mode) given (λ ws of. bound_lies s fs ws of)
  where
    taken : (ws : List Value) → AllWorth (λ t v. lies s t v ≡ true) (f.subtype ∷ taken_subtypes fs) ws
        → ((us : List Value) → AllWorth (λ t v. lies s t v ≡ true) (taken_subtypes fs) us → ObjectsLie s (bound fs us))
        → ObjectsLie s (with_first f ws (bound fs (drop 1 ws)))
    taken [] of later = absurd of
    taken (w ∷ ws) of later = (of.0, later ws of.1)

    by_mode : (b : Bool) → AllWorth (λ t v. lies s t v ≡ true) (cond b (taken_subtypes fs) (f.subtype ∷ taken_subtypes fs)) vs
        → ((us : List Value) → AllWorth (λ t v. lies s t v ≡ true) (taken_subtypes fs) us → ObjectsLie s (bound fs us))
        → ObjectsLie s (cond b (bound fs vs) (with_first f vs (bound fs (drop 1 vs))))
    by_mode true of later = later vs of
    by_mode false of later = taken vs of later

-- ---- parts

part_inside : (s : Scope) (parts : List Part) (t u : Subtype) (v w : Value) → PartOf s t parts u → lies_inside s t.type_number v ≡ true
    → part_value parts v ≡ Some w → lies_inside s u.type_number w ≡ true
part_inside s [] t u v w part h is = subst (λ k. lies_inside s k.type_number w ≡ true) part
    (subst (λ x. lies_inside s t.type_number x ≡ true) (same_some v w is) h)
part_inside s (Element n ∷ parts) t u (Array vs) w part h is =
    by_element (element_at vs n) refl is (λ x k l. part_inside s parts part.2 u x w part.5 k l)
  where
    whole : elements_lie s (Some (Arrays part.0 part.1 part.2)) vs ≡ true
    whole = subst (λ o. elements_lie s o vs ≡ true) part.3 h

    by_element : (o : Option Value) → element_at vs n ≡ o → elim o [ Some x ↦ part_value parts x | None ↦ None ] ≡ Some w
        → ((x : Value) → lies_inside s part.2.type_number x ≡ true → part_value parts x ≡ Some w → lies_inside s u.type_number w ≡ true)
        → lies_inside s u.type_number w ≡ true
    by_element (Some x) e k later = later x (lying_inside s part.2 x (element_lies s part.0 part.1 part.2 vs n x whole e)) k
    by_element None e k later = cc
part_inside s (Field name ∷ parts) t u (Record fs) w part h is =
    by_field (field_of fs name) refl is (λ x k l. part_inside s parts part.1 u x w part.4 k l)
  where
    whole : fields_lie s part.0 fs ≡ true
    whole = subst (λ o. fields_lie s (components_of o) fs ≡ true) part.2 h

    by_field : (o : Option Value) → field_of fs name ≡ o → elim o [ Some x ↦ part_value parts x | None ↦ None ] ≡ Some w
        → ((x : Value) → lies_inside s part.1.type_number x ≡ true → part_value parts x ≡ Some w → lies_inside s u.type_number w ≡ true)
        → lies_inside s u.type_number w ≡ true
    by_field (Some x) e k later = later x (lying_inside s part.1 x (field_lies s part.0 fs name part.1 x whole part.3 e)) k
    by_field None e k later = cc
part_inside s (Element n ∷ parts) t u (Number z) w part h is = cc
part_inside s (Element n ∷ parts) t u (Truth b) w part h is = cc
part_inside s (Element n ∷ parts) t u (Record fs) w part h is = cc
part_inside s (Field name ∷ parts) t u (Number z) w part h is = cc
part_inside s (Field name ∷ parts) t u (Truth b) w part h is = cc
part_inside s (Field name ∷ parts) t u (Array vs) w part h is = cc

-- the value of a part of what is found there
pub found_inside : (s : Scope) (objects : List Object) (name : List ℕ) (parts : List Part) (t u : Subtype) (w : Value) → ObjectsLie s objects
    → subtype_in objects name ≡ Some t
    → PartOf s t parts u → value_in (object_of objects name) parts ≡ Some w → lies_inside s u.type_number w ≡ true
found_inside s objects name parts t u w all there part is =
    let x = object_there objects name t there in
    part_inside s parts x.0.subtype u x.0.value w (subst (λ k. PartOf s k parts u) (sym x.2) part)
    (object_inside s x.0 (found_each (ObjectLies s) objects name x.0 all x.1))
    (ap (λ o. value_in o parts) (sym x.1) ∙ is)
