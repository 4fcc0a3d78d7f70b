-- A value is stored where a target is placed: the words stand for the store and the activation then, and what is below on the operand stack stays.
use Rattle.std.proofs.Common.{◌≡◌, ℕ, suc, ◌+◌, ◌≤◌, ℤ, List, ◌∷◌, length, inl, inr, Some, None, true, refl, sym, ap, ◌∙◌, subst, arith}
use Rattle.base.specs.declared.schedule.ScheduleLine.{ScheduleLine}
use Rattle.kernel.specs.State.{Kernel, put as with_entry}
use Rattle.image.specs.Sections.{Sections}
use Rattle.image.specs.Frames.{Words, Frame, object_words, own_object, region_words, with_object_words}
use Rattle.image.specs.Steps.{act}
use Rattle.image.specs.declared.instruction.Region.{Region}
use Rattle.image.specs.declared.instruction.Region.TheVariants as regions
use Rattle.types.specs.declared.entity.Role.{Role}
use Rattle.types.specs.declared.entity.Subtype.{Subtype}
use Rattle.types.specs.Entities as entity
use Rattle.types.specs.Laws.{ValuesHaveWords}
use Rattle.types.specs.Layouts.{words_of}
use Rattle.types.specs.Places.{IsObject, Object, Place, meaning_of, object_of, own_components}
use Rattle.types.specs.Scopes.{Scope, entity_at}
use Rattle.types.specs.Shapes.{Shape, Shapeless, has_shape, shape_of, value_words, words}
use Rattle.types.specs.Values.{Value}
use Rattle.expr_soundness.specs.Agreeing.{MeansObject}
use Rattle.expr_soundness.specs.Laws.{AgreementIsKept}
use Rattle.expr_soundness.specs.SoundScopes.{IsKnown}
use Rattle.expr_soundness.proofs.Agreement.{place_values}
use Rattle.expr_soundness.proofs.Goods.{object_known}
use Rattle.expr_soundness.specs.meaning.specs.Programs.{Program}
use Rattle.expr_soundness.specs.meaning.specs.Targets.{activation_with, store_with, stored_in, stored_to, with_part}
use Rattle.expr_soundness.specs.meaning.specs.Works.{Activation, InActivation, InObject, InPackage, Store, Target}
use Rattle.expr_code.specs.Naming.{Lies}
use Rattle.expr_code.specs.Seeing.{Package, Sees, slot_of}
use Rattle.expr_code.specs.Views.{View, in_frame, placed, view_of}
use Rattle.part_code.specs.Copying.{IsHomeOf, IsPlacedTarget, address_of, entity_shape, offset_or_none, shape_named}
use Rattle.part_code.specs.declared.call.Destination.{Destination}
use Rattle.part_code.specs.Layout.{AreApart, IsFree, IsLaidOut, NamesObject}
use Rattle.part_code.specs.Parts.{part_offset, part_shape}
use Rattle.part_code.specs.Resting.{Framed, IsAt, IsAtHomeIn, Knows, Rests, StandsFor}
use Rattle.part_code.specs.Storing.{Puts}
use Rattle.part_code.proofs.Components.{component_stands}
use Rattle.part_code.proofs.Names.{found_meant, found_some, object_name, object_subtype, object_value, variable_meant}
use Rattle.part_code.proofs.PartWords.{part_fits, part_written, parts_changed}
use Rattle.part_code.proofs.Placing.{stored_knows}
use Rattle.part_code.proofs.StoringCode.{StoresIn, component_meant, named_whole, package_meant, package_named, whole_there, with_stored}
use Rattle.part_code.proofs.Variables.{variable_stands}
use Rattle.part_code.proofs.Words.{IsWritten, lies_within, others_kept, with_words}

-- ---- where the words of a target begin

pub shape_is : (s : Scope) (name : List ℕ) (r : Role) (t : Subtype) → NamesObject s name r t → shape_named s name ≡ shape_of s t
shape_is s name r t n = ap (λ o. elim o [ None ↦ Shapeless | Some k ↦ entity_shape s (entity_at s k) ]) n.numbered ∙ ap (entity_shape s) n.stands

abbrev pub place_of : (v : Framed) (d : Destination) (x : Target) → IsPlacedTarget v d x → ℕ
place_of v d x h = h.slot.offset + part_offset (shape_of v.names.scope h.whole) x.parts

pub address_is : (v : Framed) (d : Destination) (x : Target) (h : IsPlacedTarget v d x) → address_of v.names x ≡ place_of v d x h
address_is v d x h =
    ap (λ o. offset_or_none o + part_offset (shape_named v.names.scope x.name) x.parts) h.there
    ∙ ap (λ q. h.slot.offset + part_offset q x.parts) (shape_is v.names.scope x.name h.role h.whole h.named)

-- words within others are free where these are
part_free : (places : List ℕ) (offset many inner few : ℕ) → offset ≤ inner → inner + few ≤ offset + many → IsFree places offset many → IsFree places inner few
part_free places offset many inner few low high free n among = by_side (free n among)
  where
    by_side : AreApart n 1 offset many → AreApart n 1 inner few
    by_side (inl h) = inl (omega (arith, h, low))
    by_side (inr h) = inr (omega (arith, h, high))

-- ---- what is stored to a home

locally_stored : (x : Target) (y : Value) (m : Store) → x.home ≡ InActivation → store_with x y m ≡ m
locally_stored x y m is = ap (λ h. store_with (record x { home = h }) y m) is

locally_changed : (x : Target) (y : Value) (a : Activation) → x.home ≡ InActivation → activation_with x y a ≡ record a { locals = stored_in a.locals x y }
locally_changed x y a is = ap (λ h. activation_with (record x { home = h }) y a) is

outside_stored : (x : Target) (y : Value) (m : Store) → x.home ≡ InPackage → store_with x y m ≡ record m { variables = stored_in m.variables x y }
outside_stored x y m is = ap (λ h. store_with (record x { home = h }) y m) is

own_stored : (x : Target) (y : Value) (m : Store) (o : ℕ) → x.home ≡ InObject o
    → store_with x y m ≡ record m { components = with_entry o (stored_in (m.components o) x y) m.components }
own_stored x y m o is = ap (λ h. store_with (record x { home = h }) y m) is

own_changed : (x : Target) (y : Value) (a : Activation) (o : ℕ) → x.home ≡ InObject o → activation_with x y a ≡ a
own_changed x y a o is = ap (λ h. activation_with (record x { home = h }) y a) is

outside_changed : (x : Target) (y : Value) (a : Activation) → x.home ≡ InPackage → activation_with x y a ≡ a
outside_changed x y a is = ap (λ h. activation_with (record x { home = h }) y a) is

-- ---- a value of the target's subtype

module _ (kept : AgreementIsKept) (sized : ValuesHaveWords) (i : Sections) (program : Program) (g : Package) (v : Framed) (laid : IsLaidOut g v)
    (d : Destination) (x : Target) (h : IsPlacedTarget v d x) (y : Value) (suited : has_shape (shape_of v.names.scope d.subtype) y ≡ true) where
  abbrev whole_shape : Shape
  whole_shape = shape_of v.names.scope h.whole

  abbrev place_here : ℕ
  place_here = place_of v d x h

  abbrev size_here : ℕ
  size_here = words_of v.names.scope d.subtype

  fit : has_shape (part_shape whole_shape x.parts) y ≡ true
  fit = ap (λ q. has_shape q y) h.shape ∙ suited

  many : length (value_words y) ≡ size_here
  many = (sized (shape_of v.names.scope d.subtype) y suited).sized

  -- its words are among those of the whole object
  fits : part_offset whole_shape x.parts + size_here ≤ words_of v.names.scope h.whole
  fits = let f = part_fits whole_shape x.parts h.has in let w = ap words h.shape in omega (arith, f, w)

  module _ (p : Place) (view : View) (sees : Sees g v.names p view) where
    means : MeansObject v.names.scope (meaning_of p x.name) h.whole
    means = variable_meant v.names.scope p.scope (meaning_of p x.name) h.role h.whole h.variable
        (sees.names.agrees.names x.name h.named.number (entity.Object h.role h.whole) h.named.numbered h.named.stands)

    known : IsKnown v.names.scope h.whole
    known = object_known v.names.scope h.role h.whole
        (sees.names.agrees.sound.each h.named.number (entity.Object h.role h.whole) h.named.stands)

    module _ (old : Object) (meant : meaning_of p x.name ≡ IsObject old.subtype old.value) where
      same_subtype : old.subtype ≡ h.whole
      same_subtype = let n = means in object_subtype (meaning_of p x.name) old.subtype h.whole old.value n.value meant n.is

      old_shaped : has_shape whole_shape old.value ≡ true
      old_shaped =
          let n = means in
          subst (λ w. has_shape whole_shape w ≡ true) (object_value (meaning_of p x.name) h.whole old.subtype n.value old.value n.is meant) n.suited

      abbrev new_value : Value
      new_value = with_part x.parts y old.value

      new_shaped : has_shape whole_shape new_value ≡ true
      new_shaped = (parts_changed sized whole_shape x.parts y h.has fit).shaped old.value old_shaped

      new_outside : has_shape (shape_of g.scope old.subtype) new_value ≡ true
      new_outside =
          ap (λ u. has_shape (shape_of g.scope u) new_value) same_subtype ∙ ap (λ s. has_shape (shape_of s h.whole) new_value) (sym sees.unit.scope)
          ∙ place_values v.names.scope p sees.names.agrees h.whole new_value known
          ∙ new_shaped

      new_wide : length (value_words new_value) ≡ words_of v.names.scope h.whole
      new_wide = (sized whole_shape new_value new_shaped).sized

      old_wide : length (value_words old.value) ≡ words_of v.names.scope h.whole
      old_wide = (sized whole_shape old.value old_shaped).sized

      lies : Lies (view.words h.slot.region) h.slot.offset old.value
      lies = sees.names.objects x.name h.slot old.subtype old.value h.there meant

      room : place_here + size_here ≤ length (view.words h.slot.region)
      room =
          let inside = fits in
          let all = lies_within (view.words h.slot.region) h.slot.offset old.value lies in
          let wide = old_wide in
          omega (arith, inside, all, wide)

  -- ---- the instruction that stores it

  module _ (mid : ℕ) (base : List ℤ) (stack : Value → List ℤ) (schedule : List ScheduleLine) (k : Kernel) (task : ℕ) (m : Words) (f : Frame) (fs : List Frame)
      (store : Store) (a : Activation) (p : Place) (is_at : IsAt program store p) (locals : p.locals ≡ a.locals) (within : p.within ≡ a.within)
      (stands : StandsFor program g store m) (rests : Rests g v a f.locals) (own : own_object i f ≡ a.within)
      (knows : Knows g v p (view_of i schedule k task m f fs)) where
    abbrev here : View
    here = view_of i schedule k task m f fs

    abbrev HasPut : Type 0
    HasPut = Puts i program g schedule k task m f fs mid (stack y) base v (store_with x y store) (activation_with x y a)

    -- the instruction stores the words of the value there, where there is room for them
    abbrev pub PutsIn : Region → Type 0
    PutsIn r =
        place_here + size_here ≤ length (region_words i r m f)
        → act i schedule k task (in_frame m (placed f mid (stack y)) fs)
        ≡ with_stored i r (with_words place_here (value_words y) (region_words i r m f)) m f fs (suc mid) base

    -- in the frame, for an object of the running activation
    puts_locally : d.region ≡ regions.Locals → PutsIn regions.Locals → HasPut
    puts_locally is stores =
        let region = h.region ∙ is in
        let home = subst (λ q. IsHomeOf v.within q x.home) is h.home in
        let there = found_some (object_of p.locals x.name) (subst (λ q. IsAtHomeIn p x.name q) region (knows.homes x.name h.slot h.there)) in
        let old = there.0 in
        let meant = found_meant p x.name old there.1 in
        let part_room : place_here + size_here ≤ length f.locals =
        subst (λ q. place_here + size_here ≤ length (here.words q)) region (room p here knows.sees old meant) in
        let called = sym (object_name p.locals x.name old there.1) in
        let found : object_of a.locals x.name ≡ Some old = ap (λ l. object_of l x.name) (sym locals) ∙ there.1 in
        let new : Object = record old { value = with_part x.parts y old.value } in
        let after = with_words place_here (value_words y) f.locals in
        let put = part_written sized f.locals h.slot.offset whole_shape x.parts old.value y h.has (old_shaped p here knows.sees old meant) fit
        (subst (λ q. Lies (here.words q) h.slot.offset old.value) region (lies p here knows.sees old meant)) in
        let size = many in
        let inside = fits in
        subst (λ q. Puts i program g schedule k task m f fs mid (stack y) base v q (activation_with x y a)) (sym (locally_stored x y store home))
        (subst (λ q. Puts i program g schedule k task m f fs mid (stack y) base v store q)
        (sym (locally_changed x y a home ∙ ap (λ o. record a { locals = stored_to o x.parts y a.locals }) found))
        (record {
          words = m;
          locals = after;
          acts = stores part_room;
          shared = stands;
          rests = record {
            small = (let l = put.long in let s = rests.small in omega (arith, l, s));
            sees = λ p' view' sees' locals' within' words' its'.
                stored_knows kept sized g v laid a f.locals after rests new h.slot.offset put p' view' sees' locals' within' words' its' h.role h.whole h.slot
                h.variable (subst (λ n. slot_of v.names n ≡ Some h.slot) called h.there) region refl
                (subst (λ n. NamesObject v.names.scope n h.role h.whole) called h.named) old (subst (λ n. object_of a.locals n ≡ Some old) called found) refl
                (new_outside p here knows.sees old meant) (new_wide p here knows.sees old meant);
          };
          keeps = others_kept v.reserved place_here (value_words y) f.locals (omega (arith, part_room, size))
              (part_free v.reserved h.slot.offset (words_of v.names.scope h.whole) place_here (length (value_words y)) (omega arith)
              (omega (arith, inside, size)) (laid.free x.name h.slot h.role h.whole h.there region h.named h.variable));
        }))

    -- in the plain words, for a variable of the package
    puts_plainly : d.region ≡ regions.Plain → PutsIn regions.Plain → HasPut
    puts_plainly is stores =
        let region = h.region ∙ is in
        let home = subst (λ q. IsHomeOf v.within q x.home) is h.home in
        let at = subst (λ q. IsAtHomeIn p x.name q) region (knows.homes x.name h.slot h.there) in
        let seen = means p here knows.sees in
        let n = named_whole p x.name h.whole seen.value seen.is in
        let path = package_named p x.name at.0 at.1 in
        let there = whole_there InPackage (object_of p.variables x.name) n.target (sym path ∙ n.is) in
        let old = there.0 in
        let meant = package_meant p x.name old there.1 at.0 at.1 h.whole seen.value seen.is in
        let part_room : place_here + size_here ≤ length m.plain =
        subst (λ q. place_here + size_here ≤ length (here.words q)) region (room p here knows.sees old meant) in
        let called = sym (object_name p.variables x.name old there.1) in
        let found : object_of store.variables x.name ≡ Some old = ap (λ l. object_of l x.name) (sym is_at.variables) ∙ there.1 in
        let new : Object = record old { value = with_part x.parts y old.value } in
        let after = with_words place_here (value_words y) m.plain in
        let put = part_written sized m.plain h.slot.offset whole_shape x.parts old.value y h.has (old_shaped p here knows.sees old meant) fit
        (subst (λ q. Lies (here.words q) h.slot.offset old.value) region (lies p here knows.sees old meant)) in
        subst (λ q. Puts i program g schedule k task m f fs mid (stack y) base v (store_with x y store) q) (sym (outside_changed x y a home))
        (subst (λ q. Puts i program g schedule k task m f fs mid (stack y) base v q a)
        (sym (outside_stored x y store home ∙ ap (λ o. record store { variables = stored_to o x.parts y store.variables }) found))
        (record {
          words = record m { plain = after };
          locals = f.locals;
          acts = stores part_room;
          shared = variable_stands kept sized program g laid.unit store m stands p is_at knows.sees.unit.sound (sym is_at.scope ∙ knows.sees.unit.scope) new old
              (subst (λ q. object_of store.variables q ≡ Some old) called found) refl
              (new_outside p here knows.sees old meant) (new_wide p here knows.sees old meant ∙ sym (old_wide p here knows.sees old meant)) h.slot
              (subst (λ q. g.slots None q ≡ Some h.slot) called (laid.shared x.name h.slot h.there region)) after put;
          rests = rests;
          keeps = λ n among. refl;
        }))

    -- in the words of the body's own protected object, for a component of it
    puts_own : d.region ≡ regions.Object → PutsIn regions.Object → HasPut
    puts_own is stores =
        let region = h.region ∙ is in
        let home = subst (λ q. IsHomeOf v.within q x.home) is h.home in
        let o = home.0 in
        let inside : p.within ≡ Some o = knows.within ∙ home.1 in
        let its : own_object i f ≡ Some o = own ∙ sym within ∙ inside in
        let at = subst (λ q. IsAtHomeIn p x.name q) region (knows.homes x.name h.slot h.there) in
        let there = found_some (object_of (own_components p p.within) x.name) at.1 in
        let old = there.0 in
        let meant = component_meant p x.name old at.0 there.1 in
        let part_room : place_here + size_here ≤ length (object_words (own_object i f) m) =
        subst (λ q. place_here + size_here ≤ length (here.words q)) region (room p here knows.sees old meant) in
        let among : object_of (p.components o) x.name ≡ Some old = ap (λ q. object_of (own_components p q) x.name) (sym inside) ∙ there.1 in
        let called = sym (object_name (p.components o) x.name old among) in
        let found : object_of (store.components o) x.name ≡ Some old = ap (λ c. object_of (c o) x.name) (sym is_at.components) ∙ among in
        let new : Object = record old { value = with_part x.parts y old.value } in
        let after : List ℤ → List ℤ = λ l. with_words place_here (value_words y) l in
        let written = part_written sized (object_words (own_object i f) m) h.slot.offset whole_shape x.parts old.value y h.has
        (old_shaped p here knows.sees old meant) fit
        (subst (λ q. Lies (here.words q) h.slot.offset old.value) region (lies p here knows.sees old meant)) in
        let stands_there = component_stands kept sized program g laid.unit store m stands p is_at knows.sees.unit.sound o new old
        (subst (λ q. object_of (store.components o) q ≡ Some old) called found) refl (new_outside p here knows.sees old meant) h.slot
        (subst (λ q. g.slots (Some o) q ≡ Some h.slot) called (laid.own x.name h.slot o h.there region home.1)) (after (m.objects o))
        (subst (λ w. IsWritten (object_words w m) (after (object_words w m)) h.slot.offset new.value) its written) in
        subst (λ q. Puts i program g schedule k task m f fs mid (stack y) base v (store_with x y store) q) (sym (own_changed x y a o home.2))
        (subst (λ q. Puts i program g schedule k task m f fs mid (stack y) base v q a)
        (sym
        (own_stored x y store o home.2
        ∙ ap (λ q. record store { components = with_entry o (stored_to q x.parts y (store.components o)) store.components }) found))
        (record {
          words = with_object_words (own_object i f) (after (object_words (own_object i f) m)) m;
          locals = f.locals;
          acts = stores part_room;
          shared = subst
              (λ w. StandsFor program g (record store { components = with_entry o (new ∷ store.components o) store.components })
              (with_object_words w (after (object_words w m)) m)) (sym its) stands_there;
          rests = rests;
          keeps = λ n among. refl;
        }))

    pub put_there : PutsIn d.region → HasPut
    put_there puts = by_region d.region refl puts
      where
        by_region : (r : Region) → d.region ≡ r → PutsIn r → HasPut
        by_region regions.Locals is s = puts_locally is s
        by_region regions.Plain is s = puts_plainly is s
        by_region regions.Object is s = puts_own is s

    pub part_puts : StoresIn i d.region mid place_here size_here base stack → HasPut
    part_puts stores = put_there (λ room. stores schedule k task m f fs y many room)
