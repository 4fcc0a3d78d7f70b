-- A value of its type is stored in a target: all that agreed with store and activations still does.
use Rattle.std.proofs.Common.{◌≡◌, ◌⊎◌, ℕ, List, [], ◌∷◌, Bool, true, false, inl, inr, Option, Some, None, cond, refl, sym, ap, ◌∙◌, subst, ⊎_elim}
use Rattle.std.specs.Prelude.{bytes_eq, option_map}
use Rattle.expr_soundness.specs.kernel.specs.State.{put}
use Rattle.expr_soundness.specs.kernel.specs.PutLaws.{by_put, put_other, put_same, same_or_not}
use Rattle.expr_soundness.specs.types.specs.declared.entity.Subtype.{Subtype}
use Rattle.expr_soundness.specs.types.specs.Scopes.{Scope}
use Rattle.expr_soundness.specs.types.specs.Values.{Value}
use Rattle.expr_soundness.specs.types.specs.Places.{Object, Place, object_of}
use Rattle.expr_soundness.specs.types.specs.Evaluating.{bound}
use Rattle.expr_soundness.specs.Agreeing.{Agrees}
use Rattle.expr_soundness.specs.Answers.{FunctionsAreSound}
use Rattle.expr_soundness.specs.Laws.{Replaces}
use Rattle.expr_soundness.specs.meaning.specs.Programs.{Procedure, Program}
use Rattle.expr_soundness.specs.meaning.specs.Works.{Activation, Home, InActivation, InPackage, InObject, Item, Part, Store, Target, Work}
use Rattle.expr_soundness.specs.meaning.specs.Targets.{activation_with, objects_of, store_with, stored_to, with_part}
use Rattle.expr_soundness.specs.meaning.specs.SourceSteps.{Here, items_of, stores}
use Rattle.stmt_rules.specs.declared.around.Around.{Around}
use Rattle.step_soundness.specs.Objects.{AreSoundObjects, AreTargets, IsOf, IsReached, IsTarget, PartOf, first_store, object_subtype, subtype_in}
use Rattle.step_soundness.specs.Fitting.{Narrows}
use Rattle.step_soundness.specs.Opened.{IsHeld, opened_in}
use Rattle.step_soundness.specs.Judged.{IsWork, Waiting}
use Rattle.step_soundness.specs.Holding.{AllWaitingFit, FitsActivation, FitsIn, IsSoundProcedure, IsSoundStep, IsSoundStore, KeepsStore, SameObjects, inside, seen}
use Rattle.step_soundness.specs.Laws.{Premises}
use Rattle.step_soundness.proofs.Aiming.{part_changed}
use Rattle.step_soundness.proofs.Lookups.{same_bytes, same_some}
use Rattle.step_soundness.proofs.Sights.{fits_changed, subtype_values}
use Rattle.step_soundness.proofs.Going.{Current, same_store}

-- ---- another store with which the same agrees

module _ (program : Program) (before after : Store) (agreement : (s : Scope) (p : Place) → Agrees s (seen program before p) → Agrees s (seen program after p)) where
  pub fits_after : (s : Scope) (a : Activation) → FitsIn program before s a → FitsIn program after s a
  fits_after s a fits p =
      fits_changed program s (inside program before a p) (inside program after a p) (fits p) refl (λ name. refl)
      (agreement s (record p { locals = a.locals; within = a.within }) (fits p).agrees)

  pub activation_after : (s : Scope) (a : Activation) → FitsActivation program before s a → FitsActivation program after s a
  activation_after s a f = record { fits = fits_after s a f.fits; locals = f.locals }

  pub all_after : (outer : List Waiting) → AllWaitingFit program before outer → AllWaitingFit program after outer
  all_after [] all = tt
  all_after (w ∷ outer) all = (activation_after w.scope w.activation all.0, all_after outer all.1)

  functions_after : ((p : Place) → FunctionsAreSound (seen program before p)) → (p : Place) → FunctionsAreSound (seen program after p)
  functions_after sound p owner name f vs left found suited =
      let body = sound p owner name f vs left found suited in
      record {
        scope = body.scope;
        agrees = agreement body.scope (record p { locals = bound f.formals vs []; within = f.object; frames_left = left }) body.agrees;
        known = body.known;
        legal = body.legal;
      }

  procedure_after : (q : Procedure) → IsSoundProcedure program before q → IsSoundProcedure program after q
  procedure_after q sound vs given =
      let body = sound vs given in
      record { scope = body.scope; around = body.around; fits = fits_after body.scope _ body.fits; items = body.items }

  pub store_after : IsSoundStore program before → AreSoundObjects program.scope after.variables → ((o : ℕ) → AreSoundObjects program.scope (after.components o)) → SameObjects before after
      → IsSoundStore program after
  store_after sound variables components same =
      record {
        functions = functions_after sound.functions;
        procedures = λ owner name q found. procedure_after q (sound.procedures owner name q found);
        entries = λ o q found. procedure_after q (sound.entries o q found);
        variables = variables;
        components = components;
        same = record { variables = λ name. same.variables name ∙ sound.same.variables name; components = λ o name. same.components o name ∙ sound.same.components o name };
      }

-- ---- lists of objects

pub object_sound : (s : Scope) (objects : List Object) (name : List ℕ) (x : Object) → AreSoundObjects s objects → object_of objects name ≡ Some x → IsOf s x.subtype.type_number x.value
object_sound s [] name x sound h = cc
object_sound s (y ∷ rest) name x sound h = by_test (bytes_eq y.name name) h (λ k. object_sound s rest name x sound.1 k)
  where
    by_test : (b : Bool) → cond b (Some y) (object_of rest name) ≡ Some x → (object_of rest name ≡ Some x → IsOf s x.subtype.type_number x.value) → IsOf s x.subtype.type_number x.value
    by_test true k later = subst (λ z. IsOf s z.subtype.type_number z.value) (same_some y x k) sound.0
    by_test false k later = later k

object_name : (objects : List Object) (name : List ℕ) (x : Object) → object_of objects name ≡ Some x → x.name ≡ name
object_name [] name x h = cc
object_name (y ∷ rest) name x h = by_test (bytes_eq y.name name) refl h (λ k. object_name rest name x k)
  where
    by_test : (b : Bool) → bytes_eq y.name name ≡ b → cond b (Some y) (object_of rest name) ≡ Some x → (object_of rest name ≡ Some x → x.name ≡ name) → x.name ≡ name
    by_test true same k later = subst (λ z. z.name ≡ name) (same_some y x k) (same_bytes y.name name same)
    by_test false same k later = later k

pub object_there : (objects : List Object) (name : List ℕ) (t : Subtype) → subtype_in objects name ≡ Some t → (x : Object) × (object_of objects name ≡ Some x) × (x.subtype ≡ t)
object_there objects name t h = of_found (object_of objects name) refl h
  where
    of_found : (o : Option Object) → object_of objects name ≡ o → option_map object_subtype o ≡ Some t → (x : Object) × (object_of objects name ≡ Some x) × (x.subtype ≡ t)
    of_found (Some x) is k = (x, is, same_some x.subtype t k)
    of_found None is k = cc

-- an object with a part changed, in front of the objects
record Stored (s : Scope) (objects : List Object) (name : List ℕ) (parts : List Part) (v : Value) : Type 0 where
  object : Object
  is : stored_to (object_of objects name) parts v objects ≡ object ∷ objects
  old : Object
  found : object_of objects object.name ≡ Some old
  same : object.subtype ≡ old.subtype
  suited : IsOf s object.subtype.type_number object.value
  subtypes : (n : List ℕ) → subtype_in (object ∷ objects) n ≡ subtype_in objects n

same_subtypes : (objects : List Object) (y old : Object) → object_of objects y.name ≡ Some old → y.subtype ≡ old.subtype → (n : List ℕ) → subtype_in (y ∷ objects) n ≡ subtype_in objects n
same_subtypes objects y old found same n = by_test (bytes_eq y.name n) refl
  where
    by_test : (b : Bool) → bytes_eq y.name n ≡ b → option_map object_subtype (cond b (Some y) (object_of objects n)) ≡ subtype_in objects n
    by_test true is = ap Some same ∙ sym (ap (option_map object_subtype) (ap (object_of objects) (sym (same_bytes y.name n is)) ∙ found))
    by_test false is = refl

stored_list : (program : Program) → Premises program → (objects : List Object) (name : List ℕ) (parts : List Part) (t u : Subtype) (v : Value) → AreSoundObjects program.scope objects
    → subtype_in objects name ≡ Some t → PartOf program.scope t parts u → IsOf program.scope u.type_number v → Stored program.scope objects name parts v
stored_list program laws objects name parts t u v sound there part suited =
    let x = object_there objects name t there in
    let y : Object = record { name = x.0.name; subtype = x.0.subtype; value = with_part parts v x.0.value } in
    let found : object_of objects y.name ≡ Some x.0 = ap (object_of objects) (object_name objects name x.0 x.1) ∙ x.1 in
    let old : IsOf program.scope t.type_number x.0.value = subst (λ k. IsOf program.scope k.type_number x.0.value) x.2 (object_sound program.scope objects name x.0 sound x.1) in
    record {
      object = y;
      is = ap (λ o. stored_to o parts v objects) x.1;
      old = x.0;
      found = found;
      same = refl;
      suited = subst (λ k. IsOf program.scope k.type_number y.value) (sym x.2) (part_changed laws.targets program.scope t u parts x.0.value v laws.sound part old suited);
      subtypes = same_subtypes objects y x.0 found refl;
    }

replaces : (program : Program) (p : Place) (objects : List Object) (name : List ℕ) (parts : List Part) (v : Value) → (st : Stored p.scope objects name parts v) → Replaces p st.object objects
replaces program p objects name parts v st =
    record { old = st.old; found = st.found; same = st.same; suited = subtype_values p.scope st.object.subtype st.object.value ∙ st.suited }

-- ---- targets, whatever the values are

found_moved : (program : Program) (a b : Activation) → ((n : List ℕ) → subtype_in b.locals n ≡ subtype_in a.locals n) → (home : Home) (name : List ℕ) (parts : List Part) (t u : Subtype)
    → subtype_in (objects_of (record { home = home; name = name; parts = parts; subtype = u }) (first_store program) a) name ≡ Some t
    → subtype_in (objects_of (record { home = home; name = name; parts = parts; subtype = u }) (first_store program) b) name ≡ Some t
found_moved program a b same InActivation name parts t u h = same name ∙ h
found_moved program a b same InPackage name parts t u h = h
found_moved program a b same (InObject o) name parts t u h = h

target_moved : (program : Program) (a b : Activation) → a.within ≡ b.within → ((n : List ℕ) → subtype_in b.locals n ≡ subtype_in a.locals n) → (x : Target) → IsTarget program a x → IsTarget program b x
target_moved program a b within same x target =
    let one = target.part in
    record {
      part = record { whole = one.whole; found = found_moved program a b same x.home x.name x.parts one.whole x.subtype one.found; part = one.part };
      reached = subst (λ w. IsReached w x.home) within target.reached;
    }

pub targets_moved : (program : Program) (a b : Activation) → a.within ≡ b.within → ((n : List ℕ) → subtype_in b.locals n ≡ subtype_in a.locals n) → (types : List ℕ) (xs : List Target)
    → AreTargets program a types xs → AreTargets program b types xs
targets_moved program a b within same [] [] h = tt
targets_moved program a b within same (n ∷ types) (x ∷ xs) h = (h.0, target_moved program a b within same x h.1, targets_moved program a b within same types xs h.2)
targets_moved program a b within same [] (x ∷ xs) h = absurd h
targets_moved program a b within same (n ∷ types) [] h = absurd h

-- ---- after a value is stored

pub record After (h : Here) (s : Scope) (outer : List Waiting) (m : Store) (a : Activation) : Type 0 where
  pub keeps : KeepsStore h.program h.own.within h.memory m
  pub own : FitsActivation h.program m s a
  pub all : AllWaitingFit h.program m outer
  pub within : h.own.within ≡ a.within
  pub locals : (n : List ℕ) → subtype_in a.locals n ≡ subtype_in h.own.locals n

module _ (h : Here) (s : Scope) (outer : List Waiting) (laws : Premises h.program) (c : Current h s outer) where
  scope : Scope
  scope = h.program.scope

  of_local : (name : List ℕ) (parts : List Part) (v : Value) → Stored h.program.scope h.own.locals name parts v
      → After h s outer h.memory (record h.own { locals = stored_to (object_of h.own.locals name) parts v h.own.locals })
  of_local name parts v st =
      subst (λ l. After h s outer h.memory (record h.own { locals = l })) (sym st.is)
      record {
        keeps = same_store h.program h.own.within h.memory c.store;
        own = record {
          fits = λ p.
              fits_changed h.program s (inside h.program h.memory h.own p) (inside h.program h.memory (record h.own { locals = st.object ∷ h.own.locals }) p) (c.own.fits p) refl st.subtypes
              (laws.kept.local s (inside h.program h.memory h.own p) st.object (c.own.fits p).agrees (replaces h.program (inside h.program h.memory h.own p) h.own.locals name parts v st));
          locals = (st.suited, c.own.locals);
        };
        all = c.all;
        within = refl;
        locals = st.subtypes;
      }

  -- of a store, by what agrees with it
  of_store : (m : Store) → KeepsStore h.program h.own.within h.memory m → After h s outer m h.own
  of_store m keeps =
      record {
        keeps = keeps;
        own = activation_after h.program h.memory m keeps.agreement s h.own c.own;
        all = all_after h.program h.memory m keeps.agreement outer c.all;
        within = refl;
        locals = λ n. refl;
      }

  of_variable : (name : List ℕ) (parts : List Part) (v : Value) → Stored h.program.scope h.memory.variables name parts v
      → After h s outer (record h.memory { variables = stored_to (object_of h.memory.variables name) parts v h.memory.variables }) h.own
  of_variable name parts v st =
      let m : Store = record { variables = st.object ∷ h.memory.variables; components = h.memory.components } in
      let agreement : (t : Scope) (p : Place) → Agrees t (seen h.program h.memory p) → Agrees t (seen h.program m p) =
      λ t p agrees. laws.kept.variable t (seen h.program h.memory p) st.object agrees (replaces h.program (seen h.program h.memory p) h.memory.variables name parts v st)
      in
      let same : SameObjects h.memory m = record { variables = st.subtypes; components = λ o n. refl } in
      subst (λ l. After h s outer (record h.memory { variables = l }) h.own) (sym st.is)
      (of_store m
      record {
        agreement = agreement;
        sound = store_after h.program h.memory m agreement c.store (st.suited, c.store.variables) c.store.components same;
        same = same;
        own = λ o. inl refl;
      })

  of_component : (o : ℕ) (name : List ℕ) (parts : List Part) (v : Value) → h.own.within ≡ Some o → Stored h.program.scope (h.memory.components o) name parts v
      → After h s outer (record h.memory { components = put o (stored_to (object_of (h.memory.components o) name) parts v (h.memory.components o)) h.memory.components }) h.own
  of_component o name parts v within st =
      let changed = st.object ∷ h.memory.components o in
      let m : Store = record { variables = h.memory.variables; components = put o changed h.memory.components } in
      let agreement : (t : Scope) (p : Place) → Agrees t (seen h.program h.memory p) → Agrees t (seen h.program m p) =
      λ t p agrees.
      laws.kept.component t (seen h.program h.memory p) o st.object m.components agrees (replaces h.program (seen h.program h.memory p) (h.memory.components o) name parts v st)
      record { added = put_same o o changed h.memory.components refl; others = λ n other. put_other o n changed h.memory.components other }
      in
      let same : SameObjects h.memory m =
      record {
        variables = λ n. refl;
        components = λ n k. by_put (λ l. subtype_in l k ≡ subtype_in (h.memory.components n) k) o n changed h.memory.components
            (λ is. st.subtypes k ∙ ap (λ j. subtype_in (h.memory.components j) k) (sym is)) (λ other. refl);
      }
      in
      let sound : (n : ℕ) → AreSoundObjects h.program.scope (m.components n) =
      λ n. by_put (AreSoundObjects h.program.scope) o n changed h.memory.components (λ is. (st.suited, c.store.components o)) (λ other. c.store.components n)
      in
      let own : (n : ℕ) → (m.components n ≡ h.memory.components n) ⊎ (h.own.within ≡ Some n) =
      λ n. ⊎_elim (λ is. inr (within ∙ ap Some (sym is))) (λ other. inl (put_other o n changed h.memory.components other)) (same_or_not n o)
      in
      subst (λ l. After h s outer (record h.memory { components = put o l h.memory.components }) h.own) (sym st.is)
      (of_store m record { agreement = agreement; sound = store_after h.program h.memory m agreement c.store c.store.variables sound same; same = same; own = own })

  after_at : (home : Home) (name : List ℕ) (parts : List Part) (u : Subtype) (v : Value)
      → IsTarget h.program h.own (let x : Target = record { home = home; name = name; parts = parts; subtype = u } in x) → IsOf h.program.scope u.type_number v
      → After h s outer (store_with (record { home = home; name = name; parts = parts; subtype = u }) v h.memory) (activation_with (record { home = home; name = name; parts = parts; subtype = u }) v h.own)
  after_at InActivation name parts u v target suited =
      of_local name parts v (stored_list h.program laws h.own.locals name parts target.part.whole u v c.own.locals target.part.found target.part.part suited)
  after_at InPackage name parts u v target suited =
      of_variable name parts v (stored_list h.program laws h.memory.variables name parts target.part.whole u v c.store.variables (c.store.same.variables name ∙ target.part.found) target.part.part suited)
  after_at (InObject o) name parts u v target suited =
      of_component o name parts v target.reached
      (stored_list h.program laws (h.memory.components o) name parts target.part.whole u v (c.store.components o) (c.store.same.components o name ∙ target.part.found) target.part.part suited)

  pub after_stored : (x : Target) (v : Value) → IsTarget h.program h.own x → IsOf h.program.scope x.subtype.type_number v → After h s outer (store_with x v h.memory) (activation_with x v h.own)
  after_stored x v target suited = after_at x.home x.name x.parts x.subtype v target suited

  -- the step that stores, and goes on with this work
  pub stores_sound : (a : Around) (items : List Item) (x : Target) (v : Value) (w : Work) (later : Scope) → IsHeld h.own.within (opened_in items) → Narrows h.program s later → IsTarget h.program h.own x
      → IsOf h.program.scope x.subtype.type_number v → IsWork h.program (activation_with x v h.own) later outer a w → opened_in (items_of w) ≡ opened_in items
      → IsSoundStep h (opened_in items) (stores h x v w)
  stores_sound a items x v w later held narrows target suited work same =
      let after = after_stored x v target suited in
      record {
        effect = (same, refl);
        store = after.keeps;
        task = record {
          scope = later;
          outer = outer;
          around = a;
          work = work;
          own = record { fits = λ p. narrows (inside h.program (store_with x v h.memory) (activation_with x v h.own) p) (after.own.fits p); locals = after.own.locals };
          callers = c.callers;
          all = after.all;
          held = subst (λ opened. IsHeld (activation_with x v h.own).within opened) (sym same) (subst (λ b. IsHeld b (opened_in items)) after.within held);
        };
        server = tt;
      }
