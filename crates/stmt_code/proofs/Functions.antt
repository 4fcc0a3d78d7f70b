-- What a frame sees when the body of a function is entered: the names in front of it, and its formals with their values (RM 6.4).
use Rattle.std.proofs.Common.{◌≡◌, ℕ, ◌+◌, ◌≤◌, ℤ, List, [], ◌∷◌, ◌++◌, length, map, append_assoc, Option, None, Some, true, refl, sym, ap, ◌∙◌, subst, arith}
use Rattle.std.proofs.lemmas.List.{length-append}
use Rattle.ada_tree.specs.declared.declaration.Mode.TheVariants as mode
use Rattle.image.specs.Frames.{object_words}
use Rattle.image.specs.declared.instruction.Region.{Region}
use Rattle.image.specs.declared.instruction.Region.TheVariants as regions
use Rattle.types.specs.Laws.{ValuesHaveWords}
use Rattle.types.specs.Evaluating.{bound, entered, formal_subtype}
use Rattle.types.specs.Layouts.{words_of}
use Rattle.types.specs.Places.{Formal, Function, Object, Place}
use Rattle.types.specs.Shapes.{has_shape, shape_of, value_words}
use Rattle.types.specs.Values.{Value}
use Rattle.types.specs.declared.entity.Subtype.{Subtype}
use Rattle.expr_soundness.specs.expr_rules.specs.Laws.{type_shape, is_value_of}
use Rattle.expr_soundness.specs.Laws.{AgreementIsKept}
use Rattle.expr_soundness.proofs.Parts.{subtype_values}
use Rattle.expr_soundness.specs.meaning.specs.Programs.{Parameter, Program}
use Rattle.part_code.specs.step_soundness.specs.Objects.{IsOf}
use Rattle.expr_code.specs.Coming.{all_words}
use Rattle.expr_code.specs.Computing.{ArePassed}
use Rattle.expr_code.specs.Naming.{Lies}
use Rattle.expr_code.specs.Seeing.{Package, Sees, SeesPackage}
use Rattle.expr_code.specs.Views.{IsSameTask, View}
use Rattle.expr_code.specs.declared.visible.Slot.{Slot}
use Rattle.part_code.specs.Layout.{IsLaidPackage}
use Rattle.part_code.specs.Resting.{Framed, Rests}
use Rattle.stmt_code.proofs.Beginning.{Begins, value_begins, width}
use Rattle.stmt_code.proofs.Entering.{BeginsBody}
use Rattle.std.specs.Prelude.{⊤}
use Rattle.types.specs.Bounds.{subtype_bounds}
use Rattle.types.specs.Entities.{TypeForm, Integers, Times, Spans, Booleans, Arrays, Records}
use Rattle.types.specs.Scopes.{Scope, form_at}
use Rattle.expr_soundness.specs.CompositesLaw.{is_simple}
use Rattle.expr_soundness.specs.Lying.{ObjectsLie, are_between, is_between, lies}
use Rattle.expr_soundness.specs.expr_rules.specs.declared.own.Own.TheVariants.{Typed}
use Rattle.expr_soundness.specs.expr_rules.specs.Typing.{is_booleans}
use Rattle.expr_soundness.specs.expr_rules.proofs.TypedLaw.{as_number, as_truth}
use Rattle.expr_code.specs.Emitting.{has_numbers}
use Rattle.expr_soundness.proofs.Elements.{both_left, both_right}

-- a formal of a function, which is copied in
abbrev pub as_parameter : Formal → Parameter
as_parameter f = record { name = f.name; mode = mode.In; subtype = f.subtype }

-- the formals become visible one after another, the words of each behind those of the one before
abbrev pub EntersFormals : (program : Program) (g : Package) (v : Framed) (from : ℕ) → List Formal → (last : Framed) → Type 0
EntersFormals program g v from [] last = last ≡ v
EntersFormals program g v from (f ∷ fs) last =
    (next : Framed) × Begins program g v (as_parameter f) from next × EntersFormals program g next (from + words_of v.names.scope f.subtype) fs last

-- ---- the values of formals lie in their subtypes: they were checked, and have no parts

-- numbers, truth values, times and spans
abbrev pub AreScalarFormals : Scope → List Formal → Type 0
AreScalarFormals s [] = ⊤
AreScalarFormals s (f ∷ fs) = (is_simple (form_at s f.subtype.type_number) ≡ true) × AreScalarFormals s fs

module _ (s : Scope) where
  simple_lies : (t : Subtype) (v : Value) → is_simple (form_at s t.type_number) ≡ true → has_shape (shape_of s t) v ≡ true
      → is_between (subtype_bounds t) v ≡ true → lies s t v ≡ true
  simple_lies t v simple shaped between = by_form (form_at s t.type_number) refl simple
    where
      worth : is_value_of s (Typed t.type_number) v ≡ true
      worth = sym (subtype_values s t v) ∙ shaped

      number : has_numbers (form_at s t.type_number) ≡ true → lies s t v ≡ true
      number numbers =
          let it = as_number s (Typed t.type_number) v numbers worth in
          subst (λ w. lies s t w ≡ true) (sym it.1) (subst (λ w. is_between (subtype_bounds t) w ≡ true) it.1 between)

      by_form : (o : Option TypeForm) → form_at s t.type_number ≡ o → is_simple o ≡ true → lies s t v ≡ true
      by_form (Some Integers) e k = number (ap has_numbers e)
      by_form (Some Times) e k = number (ap has_numbers e)
      by_form (Some Spans) e k = number (ap has_numbers e)
      by_form (Some Booleans) e k =
          let it = as_truth s (Typed t.type_number) v (ap is_booleans e) worth in subst (λ w. lies s t w ≡ true) (sym it.1) refl
      by_form (Some (Arrays index many element)) e k = cc
      by_form (Some (Records cs)) e k = cc
      by_form None e k = cc

  formals_lie : (fs : List Formal) (vs : List Value) (l : List Object) → AreScalarFormals s fs → ArePassed (map (shape_of s) (map formal_subtype fs)) vs
      → are_between (map formal_subtype fs) vs ≡ true
      → ObjectsLie s l → ObjectsLie s (bound fs vs l)
  formals_lie [] [] l scalar passed between h = h
  formals_lie [] (v ∷ vs) l scalar passed between h = absurd passed
  formals_lie (f ∷ fs) [] l scalar passed between h = absurd passed
  formals_lie (f ∷ fs) (v ∷ vs) l scalar passed between h =
      let here = both_left (is_between (subtype_bounds f.subtype) v) (are_between (map formal_subtype fs) vs) between in
      let rest = both_right (is_between (subtype_bounds f.subtype) v) (are_between (map formal_subtype fs) vs) between in
      formals_lie fs vs (record { name = f.name; subtype = f.subtype; value = v } ∷ l) scalar.1 passed.1 rest
      (simple_lies f.subtype v scalar.0 passed.0 here, h)

module _ (kept : AgreementIsKept) (sized : ValuesHaveWords) (program : Program) (g : Package) (same : g.scope ≡ program.scope) where
  is_of : (t : Subtype) (x : Value) → has_shape (shape_of g.scope t) x ≡ true → IsOf program.scope t.type_number x
  is_of t x h = subst (λ s. has_shape (type_shape s t.type_number) x ≡ true) same (sym (subtype_values g.scope t x) ∙ h)

  formals_begun : (within : Option ℕ) (words : List ℤ) (fs : List Formal) (vs : List Value) (v last : Framed) (front more : List ℤ) (l : List Object)
      → EntersFormals program g v (length front) fs last
      → ArePassed (map (shape_of g.scope) (map formal_subtype fs)) vs
      → words ≡ front ++ (all_words vs ++ more)
      → Rests g v (record { within = within; locals = l }) words
      → Rests g last (record { within = within; locals = bound fs vs l }) words
  formals_begun within words [] [] v last front more l h passed is rests = subst (λ q. Rests g q (record { within = within; locals = l }) words) (sym h) rests
  formals_begun within words [] (x ∷ xs) v last front more l h passed is rests = absurd passed
  formals_begun within words (f ∷ fs) [] v last front more l h passed is rests = absurd passed
  formals_begun within words (f ∷ fs) (x ∷ xs) v last front more l h passed is rests =
      let value = value_words x in
      let of = is_of f.subtype x passed.0 in
      let wide = width kept sized program g within words v h.0 (as_parameter f) x (length front) h.1 of in
      let long = length-append front value in
      let at : length front + words_of v.names.scope f.subtype ≡ length (front ++ value) = omega (arith, wide, long) in
      let placed : words ≡ front ++ (value ++ (all_words xs ++ more)) = is ∙ ap (λ q. front ++ q) (append_assoc value (all_words xs) more) in
      let first = value_begins kept sized program g within words v h.0 (as_parameter f) x front (all_words xs ++ more) l h.1 of placed rests in
      formals_begun within words fs xs h.0 last (front ++ value) more (record { name = f.name; subtype = f.subtype; value = x } ∷ l)
      (subst (λ n. EntersFormals program g h.0 n fs last) at h.2) passed.1 (placed ∙ sym (append_assoc front value (all_words xs ++ more))) first

  module _ (laid : IsLaidPackage g) (function : Function) (front last : Framed) (begins : BeginsBody g front function.object)
      (formals : EntersFormals program g front 0 function.formals last) (scalar : AreScalarFormals g.scope function.formals) where
    -- whatever calls it, with values of the formals' shapes
    pub function_sees : (p : Place) (view inner : View) (args : List Value) (left : ℕ) (locals : List ℤ)
        → SeesPackage g p view
        → ArePassed (map (shape_of g.scope) (map formal_subtype function.formals)) args
        → are_between (map formal_subtype function.formals) args ≡ true
        → inner.schedule ≡ view.schedule
        → inner.now ≡ view.now
        → IsSameTask p inner
        → inner.memory ≡ view.memory
        → inner.words regions.Locals ≡ all_words args ++ locals
        → inner.words regions.Plain ≡ view.words regions.Plain
        → inner.words regions.Object ≡ object_words function.object view.memory
        → length (all_words args ++ locals) ≤ 65536
        → front.room ≤ length (all_words args ++ locals)
        → Sees g last.names (entered p function args left) inner
    function_sees p view inner args left locals sees passed between schedule now task memory words plain object small room =
        let all = all_words args ++ locals in
        let bare = begins all small room in
        let rests = formals_begun function.object all function.formals args front last [] locals [] formals passed refl bare in
        (rests.sees (entered p function args left) inner package_seen refl refl words (object ∙ ap (object_words function.object) (sym memory))).sees
      where
        few_of : (o : Option ℕ) → length (object_words o view.memory) ≤ 65536
        few_of None = omega arith
        few_of (Some o) = sees.few o

        few : (r : Region) → length (inner.words r) ≤ 65536
        few regions.Locals = let e = ap length words in omega (arith, e, small)
        few regions.Plain = let e = ap length plain in let s = sees.small regions.Plain in omega (arith, e, s)
        few regions.Object = let e = ap length object in let s = few_of function.object in omega (arith, e, s)

        lies : (name : List ℕ) (slot : Slot) (t : Subtype) (u : Value) → g.slots None name ≡ Some slot
            → Lies (view.words slot.region) slot.offset u → Lies (inner.words slot.region) slot.offset u
        lies name slot t u told h =
            let region = laid.plain name slot told in
            subst (λ r. Lies (inner.words r) slot.offset u) (sym region)
            (subst (λ l. Lies l slot.offset u) (sym plain) (subst (λ r. Lies (view.words r) slot.offset u) region h))

        package_seen : SeesPackage g (entered p function args left) inner
        package_seen = record {
          scope = sees.scope;
          functions = sees.functions;
          sound = sees.sound;
          objects = record { same = sees.objects.same; suited = sees.objects.suited };
          values = record {
            variables = sees.values.variables;
            components = sees.values.components;
            locals = subst (λ s. ObjectsLie s (bound function.formals args [])) (sym sees.scope) (formals_lie g.scope function.formals args [] scalar passed between tt);
            time = sees.values.time;
            inputs = sees.values.inputs;
          };
          names = record {
            agrees = kept.circumstances g.scope (record p { locals = []; within = None }) p.schedule p.now p.actions p.priority left sees.names.agrees;
            objects = λ name slot t u told means. lies name slot t u told (sees.names.objects name slot t u told means);
          };
          components = λ o name slot x told found.
              subst (λ w. Lies (w.objects o) slot.offset x.value) (sym memory) (sees.components o name slot x told found);
          now = sees.now ∙ sym now;
          schedule = sees.schedule ∙ sym schedule;
          task = task;
          small = few;
          few = λ o. subst (λ w. length (w.objects o) ≤ 65536) (sym memory) (sees.few o);
        }
