-- What a frame knows once an object of the running activation is declared, or a value is stored in one.
use Rattle.std.proofs.Common.{◌≡◌, ◌≢◌, ℕ, ◌≤◌, ◌⊎◌, inl, inr, ℤ, List, [], ◌∷◌, ◌++◌, length, cond, Option, Some, None, Bool, true, false, refl, sym, ap, ◌∙◌, subst, arith}
use Rattle.std.specs.Prelude.{bytes_eq, is_some}
use Rattle.image.specs.Frames.{object_words}
use Rattle.image.specs.declared.instruction.Region.{Region}
use Rattle.image.specs.declared.instruction.Region.TheVariants as regions
use Rattle.types.specs.declared.entity.Role.{Role}
use Rattle.types.specs.declared.entity.Role.TheVariants as role
use Rattle.types.specs.declared.entity.Subtype.{Subtype}
use Rattle.types.specs.Entities as entity
use Rattle.types.specs.Entities.{Entity, ProtectedObject, Profile}
use Rattle.types.specs.Laws.{ValuesHaveWords}
use Rattle.types.specs.Layouts.{words_of}
use Rattle.types.specs.Places.{Function, IsFunction, IsObject, IsProtected, Object, Place, function_of, meaning_of, object_of, own_components}
use Rattle.types.specs.Scopes.{Named, Scope, entity_at, entity_of, is_visible, number_of, with_name}
use Rattle.types.specs.Shapes.{has_shape, shape_of, value_words}
use Rattle.types.specs.Values.{Number, Value, is_within}
use Rattle.expr_soundness.specs.Agreeing.{Agrees}
use Rattle.expr_soundness.specs.Laws.{AgreementIsKept}
use Rattle.expr_soundness.specs.Lying.{LoopsLie, ObjectsLie, lies}
use Rattle.expr_soundness.proofs.Positions.{entity_kept, entity_number, item_added, number_added, same_some}
use Rattle.expr_soundness.specs.meaning.specs.Works.{Activation, turn_subtype}
use Rattle.expr_code.specs.Naming.{Lies}
use Rattle.expr_code.specs.Seeing.{external_of, IsCoded, IsOffered, number_behind, object_named, Package, SeesPackage, slot_of, subprogram_of, told_of, NamesProfile}
use Rattle.expr_code.specs.Views.{View}
use Rattle.expr_code.specs.declared.visible.Slot.{Slot}
use Rattle.part_code.specs.Layout.{AreApart, IsLaidOut, IsLaidPackage, IsVariable, NamesObject, Widens}
use Rattle.part_code.specs.Resting.{Framed, IsAtHome, IsAtHomeIn, Knows, Rests}
use Rattle.part_code.proofs.Names.{WasTold, found_behind, found_first, meant_behind, meant_first, meant_width, name_is, object_value, profile_before, same_name, single_number, told_of_more}
use Rattle.part_code.proofs.OperationNames.{told_without}
use Rattle.part_code.proofs.Words.{IsWritten}

-- ---- other words of the frame

-- the words of the regions, with these of the frame
abbrev pub with_locals : List ℤ → (Region → List ℤ) → Region → List ℤ
with_locals l words regions.Locals = l
with_locals l words regions.Plain = words regions.Plain
with_locals l words regions.Object = words regions.Object

abbrev pub framed_view : List ℤ → View → View
framed_view l view = record view { words = with_locals l view.words }

abbrev pub with_objects : List Object → Place → Place
with_objects l p = record p { locals = l }

-- what the package shows does not depend on the running activation and its words
pub package_alone : (g : Package) → IsLaidPackage g → (p : Place) (view : View) (objects : List Object) (words : List ℤ) → length words ≤ 65536
    → ObjectsLie p.scope objects → SeesPackage g p view → SeesPackage g (with_objects objects p) (framed_view words view)
package_alone g laid p view objects words small lying h = record {
  scope = h.scope;
  functions = h.functions;
  sound = h.sound;
  objects = record { same = h.objects.same; suited = h.objects.suited };
  values = record {
    variables = h.values.variables;
    components = h.values.components;
    locals = lying;
    time = h.values.time;
    inputs = h.values.inputs;
  };
  names = record { agrees = h.names.agrees; objects = λ name slot t v there means. lies name slot t v there (h.names.objects name slot t v there means) };
  components = h.components;
  now = h.now;
  schedule = h.schedule;
  task = h.task;
  small = few;
  few = h.few;
}
  where
    lies : (name : List ℕ) (slot : Slot) (t : Subtype) (v : Value) → g.slots None name ≡ Some slot → Lies (view.words slot.region) slot.offset v
        → Lies (with_locals words view.words slot.region) slot.offset v
    lies name slot t v there l =
        let is = laid.plain name slot there in
        subst (λ r. Lies (with_locals words view.words r) slot.offset v) (sym is) (subst (λ r. Lies (view.words r) slot.offset v) is l)

    few : (r : Region) → length (with_locals words view.words r) ≤ 65536
    few regions.Locals = small
    few regions.Plain = h.small regions.Plain
    few regions.Object = h.small regions.Object

-- ---- an object of the activation with a new value, whose words were put among those of the frame

module _ (kept : AgreementIsKept) (sized : ValuesHaveWords) (g : Package) (v : Framed) (laid : IsLaidOut g v) (a : Activation) (before after : List ℤ)
    (rests : Rests g v a before) (x : Object) (offset : ℕ) (put : IsWritten before after offset x.value) where
  -- an object whose words stand apart from those that were put
  apart_lies : (view : View) → view.words regions.Locals ≡ after → (slot : Slot) (u : Value)
      → ((slot.region ≡ regions.Locals) → AreApart offset (length (value_words x.value)) slot.offset (length (value_words u)))
      → Lies (with_locals before view.words slot.region) slot.offset u → Lies (view.words slot.region) slot.offset u
  apart_lies view is slot u apart h = by_region slot.region apart h
    where
      by_region : (r : Region) → ((r ≡ regions.Locals) → AreApart offset (length (value_words x.value)) slot.offset (length (value_words u)))
          → Lies (with_locals before view.words r) slot.offset u → Lies (view.words r) slot.offset u
      by_region regions.Locals apart h = subst (λ l. Lies l slot.offset u) (sym is) (put.others slot.offset u (apart refl) h)
      by_region regions.Plain apart h = h
      by_region regions.Object apart h = h

  module _ (p : Place) (view : View) (sees : SeesPackage g p view) (objects : p.locals ≡ x ∷ a.locals) (within : p.within ≡ a.within)
      (words : view.words regions.Locals ≡ after) (its : view.words regions.Object ≡ object_words a.within view.memory) where
    abbrev old_place : Place
    old_place = with_objects a.locals p

    abbrev old_view : View
    old_view = framed_view before view

    -- all objects of the activation lie in their subtypes, the new one in front of the others
    lying : ObjectsLie p.scope (x ∷ a.locals)
    lying = subst (ObjectsLie p.scope) objects sees.values.locals

    knew : Knows g v old_place old_view
    knew = rests.sees old_place old_view (package_alone g laid.unit p view a.locals before rests.small lying.1 sees) refl within refl its

    agreed : Agrees v.names.scope old_place
    agreed = knew.sees.names.agrees

    here : with_objects (x ∷ a.locals) p ≡ p
    here = λ j. record p { locals = (sym objects) j }

    behind : (name : List ℕ) → bytes_eq x.name name ≡ false → meaning_of p name ≡ meaning_of old_place name
    behind name h = ap (λ q. meaning_of q name) (sym here) ∙ meant_behind p x a.locals name h

    first : (name : List ℕ) → bytes_eq x.name name ≡ true → meaning_of p name ≡ IsObject x.subtype x.value
    first name h = ap (λ q. meaning_of q name) (sym here) ∙ meant_first p x a.locals name h

    -- the object itself
    itself : (name : List ℕ) (slot : Slot) (t : Subtype) (u : Value) → bytes_eq x.name name ≡ true → slot.region ≡ regions.Locals → slot.offset ≡ offset
        → meaning_of p name ≡ IsObject t u
        → Lies (view.words slot.region) slot.offset u
    itself name slot t u same region at h =
        let is : x.value ≡ u = object_value (meaning_of p name) x.subtype t x.value u (first name same) h in
        subst (λ w. Lies (view.words slot.region) slot.offset w) is
        (subst (λ r. Lies (view.words r) slot.offset x.value) (sym region)
        (subst (λ l. Lies l slot.offset x.value) (sym words) (subst (λ n. Lies after n x.value) (sym at) put.there)))

    -- each other one
    other : (name : List ℕ) (slot : Slot) (t : Subtype) (u : Value) → bytes_eq x.name name ≡ false → slot_of v.names name ≡ Some slot
        → ((r : Role) (s : Subtype) → slot.region ≡ regions.Locals → NamesObject v.names.scope name r s
        → AreApart offset (length (value_words x.value)) slot.offset (words_of v.names.scope s))
        → meaning_of p name ≡ IsObject t u
        → Lies (view.words slot.region) slot.offset u
    other name slot t u differs there apart h =
        let means = sym (behind name differs) ∙ h in
        let named = laid.laid.objects name slot there in
        let wide = meant_width sized v.names.scope old_place agreed name named.0 named.1 t u named.2 means in
        apart_lies view words slot u
        (λ region. subst (λ n. AreApart offset (length (value_words x.value)) slot.offset n) (sym wide) (apart named.0 named.1 region named.2))
        (knew.sees.names.objects name slot t u there means)

    room_kept : v.room ≤ length (view.words regions.Locals)
    room_kept = let r = knew.room in let l = put.long in let e = ap length words in omega (arith, r, l, e)

    -- ---- a value is stored in an object that is there
    module _ (r : Role) (t : Subtype) (slot : Slot) (variable : IsVariable r) (there : slot_of v.names x.name ≡ Some slot)
        (region : slot.region ≡ regions.Locals)
        (at : slot.offset ≡ offset) (named : NamesObject v.names.scope x.name r t) (old : Object) (found : object_of a.locals x.name ≡ Some old)
        (same : x.subtype ≡ old.subtype) (suited : has_shape (shape_of g.scope x.subtype) x.value ≡ true)
        (wide : length (value_words x.value) ≡ words_of v.names.scope t) where
      stored_agrees : Agrees v.names.scope p
      stored_agrees = subst (Agrees v.names.scope) here
          (kept.local v.names.scope old_place x agreed (record {
            old = old;
            found = found;
            same = same;
            suited = subst (λ s. has_shape (shape_of s x.subtype) x.value ≡ true) (sym sees.scope) suited;
          }))

      stored_object : (name : List ℕ) (s : Slot) (u : Subtype) (w : Value) → slot_of v.names name ≡ Some s → meaning_of p name ≡ IsObject u w
          → Lies (view.words s.region) s.offset w
      stored_object name s u w told h = by_test (bytes_eq x.name name) refl
        where
          apart : bytes_eq x.name name ≡ false → (q : Role) (y : Subtype) → s.region ≡ regions.Locals → NamesObject v.names.scope name q y
              → AreApart offset (length (value_words x.value)) s.offset (words_of v.names.scope y)
          apart e q y is n =
              subst (λ k. AreApart offset k s.offset (words_of v.names.scope y)) (sym wide)
              (subst (λ k. AreApart k (words_of v.names.scope t) s.offset (words_of v.names.scope y)) at
              (laid.laid.apart x.name name slot s r q t y (λ k. let z = name_is x.name name k in cc) there told (region ∙ sym is) named n))

          by_test : (b : Bool) → bytes_eq x.name name ≡ b → Lies (view.words s.region) s.offset w
          by_test true e =
              let one : s ≡ slot = same_some s slot (sym told ∙ ap (slot_of v.names) (sym (same_name x.name name e)) ∙ there) in
              itself name s u w e (ap (λ y. y.region) one ∙ region) (ap (λ y. y.offset) one ∙ at) h
          by_test false e = other name s u w e told (apart e) h

      -- a loop parameter is no variable, so its name is another one
      stored_loops : LoopsLie v.names.scope p
      stored_loops name number u w z numbered stands h = by_test (bytes_eq x.name name) refl
        where
          not_variable : (q : Role) → IsVariable q → q ≢ role.LoopParameter
          not_variable role.LoopParameter i e = i
          not_variable role.Variable i e = cc
          not_variable role.Constant i e = cc
          not_variable role.In i e = cc
          not_variable role.Out i e = cc
          not_variable role.InOut i e = cc
          not_variable role.Component i e = cc
          not_variable role.ReadOnlyComponent i e = cc

          role_of : Entity → Role
          role_of (entity.Object q y) = q
          role_of e = r

          by_test : (b : Bool) → bytes_eq x.name name ≡ b → is_within u.first u.last z ≡ true
          by_test true e =
              let same : number ≡ named.number =
              same_some number named.number (sym numbered ∙ ap (number_of v.names.scope) (sym (same_name x.name name e)) ∙ named.numbered) in
              let one : entity.Object role.LoopParameter u ≡ entity.Object r t =
              same_some (entity.Object role.LoopParameter u) (entity.Object r t) (sym stands ∙ ap (entity_at v.names.scope) same ∙ named.stands) in
              absurd (not_variable r variable (ap role_of (sym one)))
          by_test false e = knew.sees.loops name number u w z numbered stands (sym (behind name e) ∙ h)

      stored_home : (name : List ℕ) (s : Slot) → slot_of v.names name ≡ Some s → IsAtHomeIn p name s.region
      stored_home name s told = subst (λ l. IsAtHome s.region (object_of l name) own) (sym objects) (by_test (bytes_eq x.name name) refl)
        where
          own : Option Object
          own = object_of (own_components p p.within) name

          at_home : (z : Region) → z ≡ regions.Locals → IsAtHome z (Some x) own
          at_home regions.Locals e = refl
          at_home regions.Plain e = cc
          at_home regions.Object e = cc

          by_test : (b : Bool) → bytes_eq x.name name ≡ b → IsAtHome s.region (object_of (x ∷ a.locals) name) own
          by_test true e =
              let one : s ≡ slot = same_some s slot (sym told ∙ ap (slot_of v.names) (sym (same_name x.name name e)) ∙ there) in
              subst (λ o. IsAtHome s.region o own) (sym (found_first x a.locals name e)) (at_home s.region (ap (λ y. y.region) one ∙ region))
          by_test false e = subst (λ o. IsAtHome s.region o own) (sym (found_behind x a.locals name e)) (knew.homes name s told)

      stored_function : (name : List ℕ) (number : ℕ) (f : Function) (profile : Profile) (result : Subtype) → subprogram_of v.names name ≡ Some number
          → NamesProfile v.names.scope name profile → profile.result ≡ Some result → meaning_of p name ≡ IsFunction f None
          → IsCoded g f number
      stored_function name number f profile result told named gives h = by_test (bytes_eq x.name name) refl
        where
          by_test : (b : Bool) → bytes_eq x.name name ≡ b → IsCoded g f number
          by_test true e = let k = sym (first name e) ∙ h in cc
          by_test false e = knew.sees.functions name number f profile result told named gives (sym (behind name e) ∙ h)

      stored_external : (name operation : List ℕ) (number : ℕ) (o : ProtectedObject) (f : Function) → external_of v.names name operation ≡ Some number
          → meaning_of p name ≡ IsProtected o → function_of g.functions (Some o.number) operation ≡ Some f → IsOffered g o f number
      stored_external name operation number o f told h found = by_test (bytes_eq x.name name) refl
        where
          by_test : (b : Bool) → bytes_eq x.name name ≡ b → IsOffered g o f number
          by_test true e = let k = sym (first name e) ∙ h in cc
          by_test false e = knew.sees.externals name operation number o f told (sym (behind name e) ∙ h) found

      pub stored_knows : Knows g v p view
      stored_knows = record {
        sees = record { unit = sees; names = record { agrees = stored_agrees; objects = stored_object }; loops = stored_loops; functions = stored_function; externals = stored_external };
        within = knew.within;
        room = room_kept;
        homes = stored_home;
      }

    -- ---- one name more is visible, for the object in front
    module _ (r : Role) (t : Subtype) (slot : Slot) (later : Framed) (widens : Widens v x.name r t slot later) (region : slot.region ≡ regions.Locals)
        (at : slot.offset ≡ offset) (wide : length (value_words x.value) ≡ words_of v.names.scope t)
        (agrees : Agrees (with_name v.names.scope x.name (entity.Object r t)) p)
        (ranged : (z : ℤ) → x.value ≡ Number z → is_within t.first t.last z ≡ true) where
      abbrev named : Named
      named = record { name = x.name; entity = entity.Object r t }

      abbrev wider : Scope
      wider = v.names.scope ++ named ∷ []

      scope_is : later.names.scope ≡ wider
      scope_is = widens.scope ∙ ap (λ b. cond b v.names.scope wider) widens.hidden

      -- a name that was visible is another one
      differs : (name : List ℕ) (n : ℕ) → number_of v.names.scope name ≡ Some n → bytes_eq x.name name ≡ false
      differs name n h = by_test (bytes_eq x.name name) refl
        where
          by_test : (b : Bool) → bytes_eq x.name name ≡ b → b ≡ false
          by_test true e =
              let seen : is_visible v.names.scope x.name ≡ true = ap (is_visible v.names.scope) (same_name x.name name e) ∙ ap is_some h in
              sym seen ∙ widens.hidden
          by_test false e = refl

      slot_was : (name : List ℕ) (s : Slot) → slot_of later.names name ≡ Some s
          → WasTold v.names.scope v.names.slots name s ⊎ ((bytes_eq name x.name ≡ true) × (Some slot ≡ Some s))
      slot_was name s h =
          told_of_more v.names.scope named v.names.slots (Some slot) name s laid.slots
          (sym (ap (λ q. told_of q later.names.slots name) scope_is ∙ ap (λ l. told_of wider l name) widens.slots) ∙ h)

      number_was : (name : List ℕ) (n : ℕ) → subprogram_of later.names name ≡ Some n
          → WasTold v.names.scope v.names.subprograms name n ⊎ ((bytes_eq name x.name ≡ true) × ((let o : Option ℕ = None in o) ≡ Some n))
      number_was name n h =
          told_of_more v.names.scope named v.names.subprograms None name n laid.subprograms
          (sym (ap (λ q. told_of q later.names.subprograms name) scope_is ∙ ap (λ l. told_of wider l name) widens.subprograms) ∙ h)

      is_this : (name : List ℕ) → bytes_eq name x.name ≡ true → bytes_eq x.name name ≡ true
      is_this name e = name_is x.name name (sym (same_name name x.name e))

      wider_agrees : Agrees later.names.scope p
      wider_agrees = subst (λ q. Agrees q p) (sym widens.scope) agrees

      wider_object : (name : List ℕ) (s : Slot) (u : Subtype) (w : Value) → slot_of later.names name ≡ Some s → meaning_of p name ≡ IsObject u w
          → Lies (view.words s.region) s.offset w
      wider_object name s u w told h = elim (slot_was name s told) [
        | inl e ↦ other name s u w (differs name e.number e.numbered) e.told
            (λ q y is n.
            subst (λ k. AreApart offset k s.offset (words_of v.names.scope y)) (sym wide)
            (subst (λ k. AreApart k (words_of v.names.scope t) s.offset (words_of v.names.scope y)) at
            (widens.apart name s q y e.told (is ∙ sym region) n))) h
        | inr e ↦ (let one : slot ≡ s = same_some slot s e.1 in
            itself name s u w (is_this name e.0) (ap (λ y. y.region) (sym one) ∙ region) (ap (λ y. y.offset) (sym one) ∙ at) h)
      ]

      wider_loops : LoopsLie later.names.scope p
      wider_loops name number u w z numbered stands h =
          by_number (number_added v.names.scope named name number (ap (λ q. number_of q name) (sym scope_is) ∙ numbered))
        where
          there : entity_at wider number ≡ Some (entity.Object role.LoopParameter u)
          there = ap (λ q. entity_at q number) (sym scope_is) ∙ stands

          subtype_or : Entity → Subtype
          subtype_or (entity.Object q y) = y
          subtype_or e = t

          by_number : (number_of v.names.scope name ≡ Some number) ⊎ ((number ≡ length v.names.scope) × (bytes_eq name x.name ≡ true))
              → is_within u.first u.last z ≡ true
          by_number (inl e) =
              let old = entity_number v.names.scope name number e in
              let same = old.1 ∙ sym (entity_kept v.names.scope (named ∷ []) number old.0 old.1) ∙ there in
              knew.sees.loops name number u w z e same (sym (behind name (differs name number e)) ∙ h)
          by_number (inr e) =
              let new : entity.Object r t ≡ entity.Object role.LoopParameter u =
              same_some (entity.Object r t) (entity.Object role.LoopParameter u)
              (sym (ap entity_of (item_added v.names.scope named)) ∙ ap (entity_at wider) (sym e.0) ∙ there) in
              let is : x.value ≡ Number z = object_value (meaning_of p name) x.subtype w x.value (Number z) (first name (is_this name e.1)) h in
              subst (λ y. is_within y.first y.last z ≡ true) (ap subtype_or new) (ranged z is)

      wider_home : (name : List ℕ) (s : Slot) → slot_of later.names name ≡ Some s → IsAtHomeIn p name s.region
      wider_home name s told = subst (λ l. IsAtHome s.region (object_of l name) own) (sym objects) (elim (slot_was name s told) [
        | inl e ↦ subst (λ o. IsAtHome s.region o own) (sym (found_behind x a.locals name (differs name e.number e.numbered))) (knew.homes name s e.told)
        | inr e ↦ subst (λ o. IsAtHome s.region o own) (sym (found_first x a.locals name (is_this name e.0)))
            (at_home s.region (ap (λ y. y.region) (sym (same_some slot s e.1)) ∙ region))
      ])
        where
          own : Option Object
          own = object_of (own_components p p.within) name

          at_home : (z : Region) → z ≡ regions.Locals → IsAtHome z (Some x) own
          at_home regions.Locals e = refl
          at_home regions.Plain e = cc
          at_home regions.Object e = cc

      wider_function : (name : List ℕ) (number : ℕ) (f : Function) (profile : Profile) (result : Subtype) → subprogram_of later.names name ≡ Some number
          → NamesProfile later.names.scope name profile → profile.result ≡ Some result → meaning_of p name ≡ IsFunction f None
          → IsCoded g f number
      wider_function name number f profile result told naming gives h = elim (number_was name number told) [
        | inl e ↦ knew.sees.functions name number f profile result e.told
            (profile_before v.names.scope (named ∷ []) name e.number profile e.numbered (subst (λ z. NamesProfile z name profile) scope_is naming)) gives
            (sym (behind name (differs name e.number e.numbered)) ∙ h)
        | inr e ↦ (let k = e.1 in cc)
      ]

      no_object : (o : ProtectedObject) → entity.Object r t ≢ entity.Protected o
      no_object o e = cc

      wider_external : (name operation : List ℕ) (number : ℕ) (o : ProtectedObject) (f : Function) → external_of later.names name operation ≡ Some number
          → meaning_of p name ≡ IsProtected o → function_of g.functions (Some o.number) operation ≡ Some f → IsOffered g o f number
      wider_external name operation number o f told h found =
          let was = told_without (λ o. number_behind v.names.operations o operation) refl number name v.names.scope named no_object
          ((λ j. number_behind (sym widens.operations j) (object_named (sym scope_is j) name) operation) ∙ told) in
          knew.sees.externals name operation number o f was.2 (sym (behind name (differs name was.0 was.1)) ∙ h) found

      pub wider_knows : Knows g later p view
      wider_knows = record {
        sees = record { unit = sees; names = record { agrees = wider_agrees; objects = wider_object }; loops = wider_loops; functions = wider_function; externals = wider_external };
        within = knew.within ∙ sym widens.within;
        room = (let r = room_kept in let e = widens.room in omega (arith, r, e));
        homes = wider_home;
      }

    -- an object is declared
    pub declared_knows : (r : Role) (slot : Slot) (later : Framed) → Widens v x.name r x.subtype slot later → slot.region ≡ regions.Locals
        → slot.offset ≡ offset
        → has_shape (shape_of v.names.scope x.subtype) x.value ≡ true → Knows g later p view
    declared_knows r slot later widens region at suited =
        wider_knows r x.subtype slot later widens region at (sized (shape_of v.names.scope x.subtype) x.value suited).sized
        (subst (Agrees (with_name v.names.scope x.name (entity.Object r x.subtype))) here
        (kept.declared v.names.scope old_place x.name r x.subtype x.value agreed widens.hidden widens.sound suited))
        (λ z is. subst (λ y. lies p.scope x.subtype y ≡ true) is lying.0)

    -- a loop over a range has its parameter, with a number of the range: in a run an object of type Integer, whatever the type of the range is
    pub parameter_knows : (t : Subtype) (z : ℤ) → is_within t.first t.last z ≡ true → x.subtype ≡ turn_subtype z → x.value ≡ Number z
        → (slot : Slot) (later : Framed)
        → Widens v x.name role.LoopParameter t slot later → slot.region ≡ regions.Locals → slot.offset ≡ offset → Knows g later p view
    parameter_knows t z within_range same number slot later widens region at =
        wider_knows role.LoopParameter t slot later widens region at
        (ap (λ y. length (value_words y)) number ∙ sym (single_number sized v.names.scope t widens.sound))
        (subst (Agrees (with_name v.names.scope x.name (entity.Object role.LoopParameter t))) here
        (subst (λ y. Agrees (with_name v.names.scope x.name (entity.Object role.LoopParameter t)) (with_objects (y ∷ a.locals) p)) is_this_object
        (kept.parameter v.names.scope old_place x.name t z agreed widens.hidden widens.sound)))
        (λ y is. subst (λ n. is_within t.first t.last n ≡ true) (same_of z y (sym number ∙ is)) within_range)
      where
        same_of : (a b : ℤ) → Number a ≡ Number b → a ≡ b
        same_of a b e = cc

        is_this_object : (let y : Object = record { name = x.name; subtype = turn_subtype z; value = Number z } in y) ≡ x
        is_this_object = λ j. record { name = x.name; subtype = sym same j; value = sym number j }
