-- What stands for the store once a value is stored in a component of a protected object.
use Rattle.std.proofs.Common.{◌≡◌, ◌≢◌, ℕ, ◌≤◌, ℤ, List, ◌∷◌, length, cond, Option, Some, None, Bool, true, false, refl, sym, ap, ◌∙◌, subst, arith, rules}
use Rattle.std.specs.Prelude.{bytes_eq, nat_eq, option_map}
use Rattle.kernel.specs.State.{put as with_entry}
use Rattle.image.specs.Frames.{Words}
use Rattle.image.specs.declared.instruction.Region.TheVariants as regions
use Rattle.types.specs.Evaluating.{entered}
use Rattle.types.specs.Laws.{ValuesHaveWords}
use Rattle.types.specs.Layouts.{words_of}
use Rattle.types.specs.Places.{Object, Place, function_of, object_of}
use Rattle.types.specs.Shapes.{has_shape, shape_of, value_words}
use Rattle.expr_soundness.specs.Agreeing.{Agrees}
use Rattle.expr_soundness.specs.Answers.{FunctionsAreSound, are_actuals}
use Rattle.expr_soundness.specs.Laws.{AgreementIsKept}
use Rattle.expr_soundness.specs.Lying.{ObjectsLie, PlaceLies}
use Rattle.expr_soundness.proofs.Positions.{same_some}
use Rattle.expr_soundness.specs.meaning.specs.Programs.{Program}
use Rattle.expr_soundness.specs.meaning.specs.Works.{Store}
use Rattle.expr_code.specs.Naming.{Lies}
use Rattle.expr_code.specs.Seeing.{AreSuited, Package, SeesPackage, objects_by, outside, subtype_among}
use Rattle.expr_code.specs.Views.{IsSameTask, View}
use Rattle.expr_code.specs.declared.visible.Slot.{Slot}
use Rattle.part_code.specs.Layout.{AreApart, IsLaidPackage}
use Rattle.part_code.specs.Resting.{IsAt, IsAddressable, StandsFor}
use Rattle.part_code.proofs.Names.{name_is, same_name}
use Rattle.part_code.proofs.Renewing.{same_renewed, suited_at, suits_renewed}
use Rattle.part_code.proofs.Words.{IsWritten}

same_number : (n m : ℕ) → nat_eq n m ≡ true → n ≡ m
same_number n m h = search rules

module _ (kept : AgreementIsKept) (sized : ValuesHaveWords) (program : Program) (g : Package) (laid : IsLaidPackage g) (store : Store) (m : Words)
    (stands : StandsFor program g store m) (q : Place) (at : IsAt program store q) (functions_sound : FunctionsAreSound q) (o : ℕ)
    (x old : Object) (found : object_of (store.components o) x.name ≡ Some old) (same : x.subtype ≡ old.subtype)
    (suited : has_shape (shape_of g.scope x.subtype) x.value ≡ true) (slot : Slot) (there : g.slots (Some o) x.name ≡ Some slot) (after : List ℤ)
    (put : IsWritten (m.objects o) after slot.offset x.value) where
  abbrev new_components : ℕ → List Object
  new_components = with_entry o (x ∷ store.components o) store.components

  abbrev pub new_store : Store
  new_store = record store { components = new_components }

  abbrev new_objects : ℕ → List ℤ
  new_objects = with_entry o after m.objects

  abbrev pub new_words : Words
  new_words = record m { objects = new_objects }

  few_objects : (n : ℕ) → length (new_objects n) ≤ 65536
  few_objects n = by_test (nat_eq n o)
    where
      by_test : (b : Bool) → length (cond b after (m.objects n)) ≤ 65536
      by_test true = (let l = put.long in let s = stands.objects o in omega (arith, l, s))
      by_test false = stands.objects n

  module _ (p : Place) (view : View) (is_at : IsAt program new_store p) (now : p.now ≡ view.now) (schedule : p.schedule ≡ view.schedule)
      (task : IsSameTask p view) (memory : view.memory ≡ new_words) (plain : view.words regions.Plain ≡ m.plain) (small : IsAddressable view)
      (sound : FunctionsAreSound p) (all : PlaceLies p) where
    abbrev old_place : Place
    old_place = record p { components = store.components }

    abbrev old_view : View
    old_view = record view { memory = m }

    -- functions were sound before: their bodies saw what those of the other place see
    functions_before : FunctionsAreSound old_place
    functions_before owner name f vs left function actuals =
        let s : q.scope ≡ p.scope = at.scope ∙ sym is_at.scope in
        let l : q.functions ≡ p.functions = at.functions ∙ sym is_at.functions in
        let v : q.variables ≡ p.variables = at.variables ∙ sym is_at.variables in
        let b = functions_sound owner name f vs left (ap (λ z. function_of z owner name) l ∙ function) (ap (λ z. are_actuals z f.formals vs) s ∙ actuals) in
        record {
          scope = b.scope;
          agrees =
              subst (Agrees b.scope)
              (λ j. record (entered old_place f vs left) { scope = s j; functions = l j; variables = v j; components = at.components j })
              (kept.circumstances b.scope (entered q f vs left) p.schedule p.now p.actions p.priority left b.agrees);
          known = b.known;
          legal = b.legal;
        }

    before : SeesPackage g old_place old_view
    before =
        stands.shared old_place old_view
        (record { scope = is_at.scope; functions = is_at.functions; variables = is_at.variables; components = refl }) now schedule task refl plain small
        functions_before all_before
      where
        lying : (n : ℕ) → ObjectsLie p.scope (new_components n)
        lying n = subst (λ c. ObjectsLie p.scope (c n)) is_at.components (all.components n)

        component_before : (n : ℕ) → ObjectsLie p.scope (store.components n)
        component_before n = by_test (nat_eq n o) refl (lying n)
          where
            by_test : (b : Bool) → nat_eq n o ≡ b → ObjectsLie p.scope (cond b (x ∷ store.components o) (store.components n))
                → ObjectsLie p.scope (store.components n)
            by_test true e h = subst (λ k. ObjectsLie p.scope (store.components k)) (sym (same_number n o e)) h.1
            by_test false e h = h

        all_before : PlaceLies old_place
        all_before = record {
          variables = all.variables;
          components = component_before;
          locals = all.locals;
          time = all.time;
          inputs = all.inputs;
        }

    here : record p { components = new_components } ≡ p
    here = λ j. record p { components = (sym is_at.components) j }

    agrees : Agrees g.scope (outside p)
    agrees = subst (λ z. Agrees g.scope (outside z)) here
        (kept.component g.scope (outside old_place) o x new_components before.names.agrees
        (record { old = old; found = found; same = same; suited = subst (λ s. has_shape (shape_of s x.subtype) x.value ≡ true) (sym before.scope) suited })
        (record {
          added = (let e : nat_eq o o ≡ true = grind arith in ap (λ b. cond b (x ∷ store.components o) (store.components o)) e);
          others = λ n differs. let e : nat_eq n o ≡ false = grind (arith, differs) in ap (λ b. cond b (x ∷ store.components o) (store.components n)) e;
        }))

    -- ---- the words of each component

    -- of the one with the new value, and of another one of the same object
    beside_lies : (name : List ℕ) (s : Slot) (y : Object) → g.slots (Some o) name ≡ Some s → object_of (x ∷ store.components o) name ≡ Some y
        → Lies after s.offset y.value
    beside_lies name s y told h = by_test (bytes_eq x.name name) refl h
      where
        by_test : (b : Bool) → bytes_eq x.name name ≡ b → cond b (Some x) (object_of (store.components o) name) ≡ Some y → Lies after s.offset y.value
        by_test true e k =
            let one : slot ≡ s = same_some slot s (sym there ∙ ap (g.slots (Some o)) (same_name x.name name e) ∙ told) in
            subst (λ z. Lies after s.offset z.value) (same_some x y k) (subst (λ z. Lies after z.offset x.value) one put.there)
        by_test false e k =
            let differs : x.name ≢ name = λ n. let z = name_is x.name name n in cc in
            let first = sym (before.objects.same (Some o) x.name) ∙ ap (option_map (λ (z : Object). z.subtype)) found in
            let second = sym (before.objects.same (Some o) name) ∙ ap (option_map (λ (z : Object). z.subtype)) k in
            let wide = (sized (shape_of g.scope x.subtype) x.value suited).sized ∙ ap (words_of g.scope) same in
            let other_suited = suited_at g.scope (store.components o) name y (before.objects.suited (Some o)) k in
            let other_wide = (sized (shape_of g.scope y.subtype) y.value other_suited).sized in
            put.others s.offset y.value
            (subst (λ n. AreApart slot.offset n s.offset (length (value_words y.value))) (sym wide)
            (subst (λ n. AreApart slot.offset (words_of g.scope old.subtype) s.offset n) (sym other_wide)
            (laid.parts o x.name name slot s old.subtype y.subtype differs there told first second)))
            (before.components o name s y told k)

    lies : (object : ℕ) (name : List ℕ) (s : Slot) (y : Object) → g.slots (Some object) name ≡ Some s → object_of (p.components object) name ≡ Some y
        → Lies (new_objects object) s.offset y.value
    lies object name s y told h = by_test (nat_eq object o) refl (ap (λ c. object_of (c object) name) (sym is_at.components) ∙ h)
      where
        by_test : (b : Bool) → nat_eq object o ≡ b → object_of (cond b (x ∷ store.components o) (store.components object)) name ≡ Some y
            → Lies (cond b after (m.objects object)) s.offset y.value
        by_test true e k = beside_lies name s y (ap (λ n. g.slots (Some n) name) (sym (same_number object o e)) ∙ told) k
        by_test false e k = before.components object name s y told k

    -- ---- the objects

    same_there : (owner : Option ℕ) (name : List ℕ) → subtype_among (objects_by p owner) name ≡ subtype_among (g.first owner) name
    same_there None name = before.objects.same None name
    same_there (Some n) name = ap (λ c. subtype_among (c n) name) is_at.components ∙ by_test (nat_eq n o) refl
      where
        by_test : (b : Bool) → nat_eq n o ≡ b
            → subtype_among (cond b (x ∷ store.components o) (store.components n)) name ≡ subtype_among (g.first (Some n)) name
        by_test true e =
            same_renewed (store.components o) x old found same name ∙ before.objects.same (Some o) name
            ∙ ap (λ k. subtype_among (g.first (Some k)) name) (sym (same_number n o e))
        by_test false e = before.objects.same (Some n) name

    suited_there : (owner : Option ℕ) → AreSuited g.scope (objects_by p owner)
    suited_there None = before.objects.suited None
    suited_there (Some n) = subst (λ c. AreSuited g.scope (c n)) (sym is_at.components) (by_test (nat_eq n o))
      where
        by_test : (b : Bool) → AreSuited g.scope (cond b (x ∷ store.components o) (store.components n))
        by_test true = suits_renewed g.scope (store.components o) x suited (before.objects.suited (Some o))
        by_test false = before.objects.suited (Some n)

    shown : SeesPackage g p view
    shown = record {
      scope = before.scope;
      functions = before.functions;
      sound = sound;
      objects = record { same = same_there; suited = suited_there };
      values = all;
      names = record { agrees = agrees; objects = λ name s t u told means. before.names.objects name s t u told means };
      components = λ object name s y told h. subst (λ w. Lies (w.objects object) s.offset y.value) (sym memory) (lies object name s y told h);
      now = now;
      schedule = schedule;
      task = task;
      small = small;
      few = λ n. subst (λ w. length (w.objects n) ≤ 65536) (sym memory) (few_objects n);
    }

  pub component_stands : StandsFor program g new_store new_words
  component_stands = record {
    shared = λ p view is_at now schedule task memory plain small sound all. shown p view is_at now schedule task memory plain small sound all;
    plain = stands.plain;
    objects = few_objects;
  }
