-- What stands for the store once a value is stored in a variable of the package.
use Rattle.std.proofs.Common.{◌≡◌, ◌≢◌, ◌≤◌, ℕ, ℤ, List, ◌∷◌, length, cond, Option, Some, None, Bool, true, false, refl, sym, ap, ◌∙◌, subst, arith}
use Rattle.std.specs.Prelude.{bytes_eq}
use Rattle.image.specs.Frames.{Words}
use Rattle.image.specs.declared.instruction.Region.{Region}
use Rattle.image.specs.declared.instruction.Region.TheVariants as regions
use Rattle.types.specs.declared.entity.Role.{Role}
use Rattle.types.specs.declared.entity.Role.TheVariants as role
use Rattle.types.specs.declared.entity.Subtype.{Subtype}
use Rattle.types.specs.Evaluating.{entered}
use Rattle.types.specs.Laws.{ValuesHaveWords}
use Rattle.types.specs.Layouts.{words_of}
use Rattle.types.specs.Places.{Function, IsObject, Meaning, Object, Place, function_meaning, function_of, meaning_in_scope, meaning_of, meaning_or, object_meaning, object_of, or_else}
use Rattle.types.specs.Scopes.{Scope, number_of}
use Rattle.types.specs.Shapes.{has_shape, shape_of, value_words}
use Rattle.types.specs.Values.{Number, Value}
use Rattle.expr_soundness.specs.Agreeing.{Agrees, MeansOne}
use Rattle.expr_soundness.specs.Answers.{FunctionsAreSound, are_actuals}
use Rattle.expr_soundness.specs.Laws.{AgreementIsKept}
use Rattle.expr_soundness.specs.Lying.{ObjectsLie, PlaceLies}
use Rattle.expr_soundness.proofs.Positions.{same_some}
use Rattle.expr_soundness.specs.meaning.specs.Programs.{Program}
use Rattle.expr_soundness.specs.meaning.specs.Works.{Store}
use Rattle.expr_code.specs.Naming.{Lies}
use Rattle.expr_code.specs.Seeing.{AreSuited, Package, SeesPackage, objects_by, outside, subtype_among}
use Rattle.expr_code.specs.Views.{IsSameTask, View}
use Rattle.expr_code.specs.declared.visible.Slot.{Slot}
use Rattle.part_code.specs.Layout.{AreApart, IsLaidPackage, NamesObject}
use Rattle.part_code.specs.Resting.{IsAt, IsAddressable, StandsFor}
use Rattle.part_code.proofs.Names.{meant_width, name_is, object_value, same_name}
use Rattle.part_code.proofs.Renewing.{same_renewed, suits_renewed}
use Rattle.part_code.proofs.Words.{IsWritten}

-- ---- what a name means outside of all activations, by the variable of the package

abbrev meant_as : Option Function → Meaning → Option Object → Meaning
meant_as f last o =
    meaning_or (or_else (object_meaning None) (function_meaning f)) (meaning_or (or_else (object_meaning o) (function_meaning f)) last)

abbrev outer_meant : Place → List ℕ → Option Object → Meaning
outer_meant p name o = meant_as (function_of p.functions None name) (meaning_in_scope p.scope (number_of p.scope name)) o

variable_value : (f : Option Function) (last : Meaning) (x : Object) (t : Subtype) (u : Value) → meant_as f last (Some x) ≡ IsObject t u → x.value ≡ u
variable_value (Some f) last x t u h = cc
variable_value None last x t u h = object_value (IsObject x.subtype x.value) x.subtype t x.value u refl h

means_some : (s here : Scope) (m : Meaning) (r : Role) (t : Subtype) → MeansOne s here m r t → (u : Subtype) × (v : Value) × (m ≡ IsObject u v)
means_some s here m role.LoopParameter t h = (h.subtype, Number h.value, h.is)
means_some s here m r t h = (t, h.value, h.is)

-- ---- other plain words

abbrev pub with_plain : List ℤ → (Region → List ℤ) → Region → List ℤ
with_plain l words regions.Plain = l
with_plain l words regions.Locals = words regions.Locals
with_plain l words regions.Object = words regions.Object

module _ (kept : AgreementIsKept) (sized : ValuesHaveWords) (program : Program) (g : Package) (laid : IsLaidPackage g) (store : Store) (m : Words)
    (stands : StandsFor program g store m) (q : Place) (at : IsAt program store q) (functions_sound : FunctionsAreSound q) (scope_is : program.scope ≡ g.scope)
    (x old : Object) (found : object_of store.variables x.name ≡ Some old) (same : x.subtype ≡ old.subtype)
    (suited : has_shape (shape_of g.scope x.subtype) x.value ≡ true) (wide : length (value_words x.value) ≡ length (value_words old.value))
    (slot : Slot) (there : g.slots None x.name ≡ Some slot) (after : List ℤ) (put : IsWritten m.plain after slot.offset x.value) where
  abbrev pub new_store : Store
  new_store = record store { variables = x ∷ store.variables }

  abbrev pub new_words : Words
  new_words = record m { plain = after }

  module _ (p : Place) (view : View) (is_at : IsAt program new_store p) (now : p.now ≡ view.now) (schedule : p.schedule ≡ view.schedule)
      (task : IsSameTask p view) (memory : view.memory ≡ new_words) (plain : view.words regions.Plain ≡ after) (small : IsAddressable view) (sound : FunctionsAreSound p)
      (all : PlaceLies p) where
    abbrev old_place : Place
    old_place = record p { variables = store.variables }

    abbrev old_view : View
    old_view = record view { memory = m; words = with_plain m.plain view.words }

    -- functions were sound before: their bodies saw what those of the other place see
    functions_before : FunctionsAreSound old_place
    functions_before owner name f vs left function actuals =
        let s : q.scope ≡ p.scope = at.scope ∙ sym is_at.scope in
        let l : q.functions ≡ p.functions = at.functions ∙ sym is_at.functions in
        let c : q.components ≡ p.components = at.components ∙ sym is_at.components in
        let b = functions_sound owner name f vs left (ap (λ z. function_of z owner name) l ∙ function) (ap (λ z. are_actuals z f.formals vs) s ∙ actuals) in
        record {
          scope = b.scope;
          agrees =
              subst (Agrees b.scope)
              (λ j. record (entered old_place f vs left) { scope = s j; functions = l j; variables = at.variables j; components = c j })
              (kept.circumstances b.scope (entered q f vs left) p.schedule p.now p.actions p.priority left b.agrees);
          known = b.known;
          legal = b.legal;
        }

    before : SeesPackage g old_place old_view
    before =
        stands.shared old_place old_view (record { scope = is_at.scope; functions = is_at.functions; variables = refl; components = is_at.components }) now
        schedule task
        refl refl few functions_before all_before
      where
        all_before : PlaceLies old_place
        all_before = record {
          variables = (subst (ObjectsLie p.scope) is_at.variables all.variables).1;
          components = all.components;
          locals = all.locals;
          time = all.time;
          inputs = all.inputs;
        }

        few : IsAddressable old_view
        few regions.Locals = small regions.Locals
        few regions.Plain = stands.plain
        few regions.Object = small regions.Object

    here : record p { variables = x ∷ store.variables } ≡ p
    here = λ j. record p { variables = (sym is_at.variables) j }

    suits : has_shape (shape_of p.scope x.subtype) x.value ≡ true
    suits = subst (λ s. has_shape (shape_of s x.subtype) x.value ≡ true) (sym before.scope) suited

    agrees : Agrees g.scope (outside p)
    agrees = subst (λ z. Agrees g.scope (outside z)) here
        (kept.variable g.scope (outside old_place) x before.names.agrees (record { old = old; found = found; same = same; suited = suits }))

    behind : (name : List ℕ) → bytes_eq x.name name ≡ false → meaning_of (outside p) name ≡ meaning_of (outside old_place) name
    behind name h =
        ap (λ z. meaning_of (outside z) name) (sym here) ∙ ap (λ b. outer_meant p name (cond b (Some x) (object_of store.variables name))) h

    itself : (name : List ℕ) (t : Subtype) (u : Value) → bytes_eq x.name name ≡ true → meaning_of (outside p) name ≡ IsObject t u → x.value ≡ u
    itself name t u h means =
        variable_value (function_of p.functions None name) (meaning_in_scope p.scope (number_of p.scope name)) x t u
        (sym (ap (λ b. outer_meant p name (cond b (Some x) (object_of store.variables name))) h) ∙ ap (λ z. meaning_of (outside z) name) here ∙ means)

    -- the words that the variable has
    wide_here : (r : Role) (t : Subtype) → NamesObject g.scope x.name r t → length (value_words x.value) ≡ words_of g.scope t
    wide_here r t n =
        let seen = means_some g.scope old_place.scope (meaning_of (outside old_place) x.name) r t
        (before.names.agrees.names x.name n.number _ n.numbered n.stands) in
        let is : old.value ≡ seen.1 =
        variable_value (function_of p.functions None x.name) (meaning_in_scope p.scope (number_of p.scope x.name)) old seen.0 seen.1
        (sym (ap (outer_meant p x.name) found) ∙ seen.2) in
        wide ∙ ap (λ v. length (value_words v)) is ∙ meant_width sized g.scope (outside old_place) before.names.agrees x.name r t seen.0 seen.1 n seen.2

    lies : (name : List ℕ) (s : Slot) (t : Subtype) (u : Value) → g.slots None name ≡ Some s → meaning_of (outside p) name ≡ IsObject t u
        → Lies (view.words s.region) s.offset u
    lies name s t u told means =
        subst (λ r. Lies (view.words r) s.offset u) (sym (laid.plain name s told))
        (subst (λ l. Lies l s.offset u) (sym plain) (by_test (bytes_eq x.name name) refl))
      where
        by_test : (b : Bool) → bytes_eq x.name name ≡ b → Lies after s.offset u
        by_test true e =
            let one : slot ≡ s = same_some slot s (sym there ∙ ap (g.slots None) (same_name x.name name e) ∙ told) in
            subst (λ v. Lies after s.offset v) (itself name t u e means) (subst (λ z. Lies after z.offset x.value) one put.there)
        by_test false e =
            let meant = sym (behind name e) ∙ means in
            let own = laid.laid.objects x.name slot there in
            let other = laid.laid.objects name s told in
            let width = meant_width sized g.scope (outside old_place) before.names.agrees name other.0 other.1 t u other.2 meant in
            let differs : x.name ≢ name = λ k. let z = name_is x.name name k in cc in
            let apart = laid.laid.apart x.name name slot s own.0 other.0 own.1 other.1 differs there told
            (laid.plain x.name slot there ∙ sym (laid.plain name s told)) own.2 other.2 in
            put.others s.offset u
            (subst (λ k. AreApart slot.offset (length (value_words x.value)) s.offset k) (sym width)
            (subst (λ k. AreApart slot.offset k s.offset (words_of g.scope other.1)) (sym (wide_here own.0 own.1 own.2)) apart))
            (subst (λ r. Lies (with_plain m.plain view.words r) s.offset u) (laid.plain name s told) (before.names.objects name s t u told meant))

    -- ---- the objects

    same_there : (owner : Option ℕ) (name : List ℕ) → subtype_among (objects_by p owner) name ≡ subtype_among (g.first owner) name
    same_there None name =
        ap (λ l. subtype_among l name) is_at.variables ∙ same_renewed store.variables x old found same name ∙ before.objects.same None name
    same_there (Some n) name = before.objects.same (Some n) name

    suited_there : (owner : Option ℕ) → AreSuited g.scope (objects_by p owner)
    suited_there None =
        subst (AreSuited g.scope) (sym is_at.variables) (suits_renewed g.scope store.variables x suited (before.objects.suited None))
    suited_there (Some n) = before.objects.suited (Some n)

    shown : SeesPackage g p view
    shown = record {
      scope = before.scope;
      functions = before.functions;
      sound = sound;
      objects = record { same = same_there; suited = suited_there };
      values = all;
      names = record { agrees = agrees; objects = lies };
      components = λ object name s y told found.
          subst (λ w. Lies (w.objects object) s.offset y.value) (sym memory) (before.components object name s y told found);
      now = now;
      schedule = schedule;
      task = task;
      small = small;
      few = λ n. subst (λ w. length (w.objects n) ≤ 65536) (sym memory) (stands.objects n);
    }

  pub variable_stands : StandsFor program g new_store new_words
  variable_stands = record {
    shared = λ p view is_at now schedule task memory plain small sound all. shown p view is_at now schedule task memory plain small sound all;
    plain = (let l = put.long in let s = stands.plain in omega (arith, l, s));
    objects = stands.objects;
  }
