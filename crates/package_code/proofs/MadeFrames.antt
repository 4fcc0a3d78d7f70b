-- The frames of a procedure: where its body is entered, behind its parameters, and in front of its declarations.
use Rattle.std.proofs.Common.{◌≡◌, ◌≢◌, ℕ, ◌+◌, ◌≤◌, List, [], ◌∷◌, ◌++◌, map, Option, Some, true, refl, sym, ap, ◌∙◌, subst, arith}
use Rattle.std.specs.Prelude.{Bool, false, if◌then◌else◌}
use Rattle.ada_tree.specs.declared.declaration.Formal.{Formal}
use Rattle.ada_tree.specs.declared.declaration.Mode.TheVariants as mode
use Rattle.ada_tree.specs.declared.expression.Identifier.{Identifier}
use Rattle.ada_tree.specs.StatementTree.{SubprogramTree}
use Rattle.ada_tree.specs.ProgramTree.{BodyTree, ProgramTree}
use Rattle.types.specs.declared.entity.Role.{Role}
use Rattle.types.specs.declared.entity.Subtype.{Subtype}
use Rattle.types.specs.Entities as entity
use Rattle.types.specs.Laws.{ShapesStay}
use Rattle.types.specs.Layouts.{words_of}
use Rattle.types.specs.Scopes.{Scope}
use Rattle.types.specs.Shapes.{has_shape, shape_of}
use Rattle.types.specs.Values.{Value}
use Rattle.program_soundness.specs.legality.specs.ProgramRules.{IsLegal}
use Rattle.ravenscar.specs.ProgramRules.{IsRestricted}
use Rattle.expr_soundness.specs.SoundScopes.{IsKnown, SoundScope}
use Rattle.expr_soundness.proofs.Goods.{object_known}
use Rattle.expr_soundness.specs.meaning.specs.Calls.{is_out}
use Rattle.expr_soundness.specs.meaning.specs.Programs.{Parameter, Program, parameter, program_of}
use Rattle.program_soundness.specs.step_soundness.specs.Objects.{IsOf}
use Rattle.program_soundness.proofs.WiderScopes.{number_stands, stands, stands_number, with_all}
use Rattle.program_soundness.proofs.Formals.{AreNew, all_named, all_types}
use Rattle.program_soundness.proofs.Listing.{Has}
use Rattle.program_soundness.proofs.Same.{SameTypes, known_same, types_turned, types_with_all}
use Rattle.expr_code.specs.Seeing.{Package, slot_of}
use Rattle.expr_code.specs.declared.visible.Slot.{Slot}
use Rattle.step_simulation.specs.part_code.specs.Copying.{left_out}
use Rattle.declaration_rules.specs.BodyNames.{formals_scope}
use Rattle.step_simulation.specs.part_code.specs.Layout.{AreApart, AreFree, EndsBelow, IsFree, IsLaidOut, NamesObject}
use Rattle.step_simulation.specs.part_code.specs.Resting.{Framed, NarrowsFrame}
use Rattle.step_simulation.specs.part_code.specs.Formals.{AddsEach, AreInTurn, Placed, addresses_from, outs_end, parameter_at, passed_end}
use Rattle.package_code.specs.Package.{FindsNames, HoldsAll}
use Rattle.package_code.proofs.BodyFronts.{IsEntrance, body_suits, formals_in, formals_text, front_finds, parameters_new}
use Rattle.package_code.proofs.BodyFrames.{HasWidths, OutsBegin, behind_up, holds_in_turn, next_widths, outs_begin, outs_behind, outs_end_is, words_behind}
use Rattle.package_code.proofs.Building.{add_each, each_joined, has_turn, in_turn, outs_of, taken_of, turn_has, turn_new}
use Rattle.package_code.proofs.HeldParameters.{Reached, end_reached}
use Rattle.package_code.proofs.InFront.{LawsOfNames, known, memory}
use Rattle.package_code.proofs.NewParameters.{AreCopiedIn}
use Rattle.package_code.proofs.Reordered.{HasEntries, each_serves, entries_behind, names_reordered, narrows_reordered, new_rest, reserved_reordered, room_stays, scope_behind, slots_reordered, sound_reordered, within_stays}

-- ---- places that are laid out are so where the same names have them in another order

module _ (g : Package) (w u : Framed) (laid : IsLaidOut g w) (names_same : (name : List ℕ) → stands u.names.scope name ≡ stands w.names.scope name)
    (slots_same : (name : List ℕ) → slot_of u.names name ≡ slot_of w.names name)
    (widths : (t : Subtype) → IsKnown u.names.scope t → words_of u.names.scope t ≡ words_of w.names.scope t) (sound : SoundScope u.names.scope)
    (entries : HasEntries u) (reserved : w.reserved ≡ u.reserved) (within : u.within ≡ w.within) where
  named_back : (name : List ℕ) (r : Role) (t : Subtype) → NamesObject u.names.scope name r t → NamesObject w.names.scope name r t
  named_back name r t n =
      let there = sym (names_same name) ∙ stands_number u.names.scope name n.number (entity.Object r t) n.numbered n.stands in
      let k = number_stands w.names.scope name (entity.Object r t) there in
      record { number = k.0; numbered = k.1; stands = k.2 }

  named_on : (name : List ℕ) (r : Role) (t : Subtype) → NamesObject w.names.scope name r t → NamesObject u.names.scope name r t
  named_on name r t n =
      let there = names_same name ∙ stands_number w.names.scope name n.number (entity.Object r t) n.numbered n.stands in
      let k = number_stands u.names.scope name (entity.Object r t) there in
      record { number = k.0; numbered = k.1; stands = k.2 }

  object_words : (name : List ℕ) (r : Role) (t : Subtype) → NamesObject u.names.scope name r t → words_of u.names.scope t ≡ words_of w.names.scope t
  object_words name r t n = widths t (object_known u.names.scope r t (sound.each n.number (entity.Object r t) n.stands))

  told_before : (name : List ℕ) (x : Slot) → slot_of u.names name ≡ Some x → slot_of w.names name ≡ Some x
  told_before name x told = sym (slots_same name) ∙ told

  objects_there : (name : List ℕ) (x : Slot) → slot_of u.names name ≡ Some x → (r : Role) × (t : Subtype) × NamesObject u.names.scope name r t
  objects_there name x told = let o = laid.laid.objects name x (told_before name x told) in (o.0, o.1, named_on name o.0 o.1 o.2)

  apart_there : (one other : List ℕ) (x y : Slot) (q r : Role) (a b : Subtype) → one ≢ other → slot_of u.names one ≡ Some x → slot_of u.names other ≡ Some y
      → x.region ≡ y.region → NamesObject u.names.scope one q a → NamesObject u.names.scope other r b
      → AreApart x.offset (words_of u.names.scope a) y.offset (words_of u.names.scope b)
  apart_there one other x y q r a b differ first second same m n =
      subst (λ k. AreApart x.offset k y.offset (words_of u.names.scope b)) (sym (object_words one q a m))
      (subst (λ k. AreApart x.offset (words_of w.names.scope a) y.offset k) (sym (object_words other r b n))
      (laid.laid.apart one other x y q r a b differ (told_before one x first) (told_before other y second) same (named_back one q a m)
      (named_back other r b n)))

  free_there : AreFree u
  free_there name x r t told local n variable =
      subst (λ l. IsFree l x.offset (words_of u.names.scope t)) reserved
      (subst (λ k. IsFree w.reserved x.offset k) (sym (object_words name r t n))
      (laid.free name x r t (told_before name x told) local (named_back name r t n) variable))

  laid_reordered : IsLaidOut g u
  laid_reordered = record {
    unit = laid.unit;
    laid = record { objects = objects_there; apart = apart_there };
    shared = λ name x told region. laid.shared name x (told_before name x told) region;
    own = λ name x object told region inside. laid.own name x object (told_before name x told) region (sym within ∙ inside);
    free = free_there;
    slots = entries.slots;
    subprograms = entries.subprograms;
  }

  ends_reordered : (top : ℕ) → EndsBelow w top → EndsBelow u top
  ends_reordered top ends name x r t told local n =
      let e = ends name x r t (told_before name x told) local (named_back name r t n) in
      let k = object_words name r t n in
      omega (arith, e, k)

-- ---- those that are not copied in

outs_left : (xs : List Placed) → left_out (map parameter_at xs) ≡ map parameter_at (outs_of xs)
outs_left [] = refl
outs_left (x ∷ xs) = by_mode (is_out x.0.mode) (outs_left xs)
  where
    by_mode : (b : Bool) → left_out (map parameter_at xs) ≡ map parameter_at (outs_of xs)
        → (if b then x.0 ∷ left_out (map parameter_at xs) else left_out (map parameter_at xs)) ≡ map parameter_at (if b then x ∷ outs_of xs else outs_of xs)
    by_mode true h = ap (λ l. x.0 ∷ l) h
    by_mode false h = h

-- a function has none

first_same : (a b : Parameter) (fs gs : List Parameter) → a ∷ fs ≡ b ∷ gs → a ≡ b
first_same a b fs gs h = let first_of : List Parameter → Parameter = λ l. elim l [ [] ↦ a | x ∷ rest ↦ x ] in ap first_of h

rest_same : (a b : Parameter) (fs gs : List Parameter) → a ∷ fs ≡ b ∷ gs → fs ≡ gs
rest_same a b fs gs h = let rest_of : List Parameter → List Parameter = λ l. elim l [ [] ↦ fs | x ∷ rest ↦ rest ] in ap rest_of h

all_taken : (s : Scope) (xs : List Placed) (fs : List Formal) → map parameter_at xs ≡ map (parameter s) fs → AreCopiedIn fs → taken_of xs ≡ xs
all_taken s [] fs same modes = refl
all_taken s (x ∷ xs) [] same modes = cc
all_taken s (x ∷ xs) (f ∷ fs) same modes =
    let mode_is : x.0.mode ≡ mode.In = ap (λ p. p.mode) (first_same x.0 (parameter s f) _ _ same) ∙ modes.0 in
    ap (λ m. if is_out m then taken_of xs else x ∷ taken_of xs) mode_is
    ∙ ap (λ l. x ∷ l) (all_taken s xs fs (rest_same x.0 (parameter s f) _ _ same) modes.1)

pub no_addresses : (base s : Scope) (from : ℕ) (xs : List Placed) (fs : List Formal) → map parameter_at xs ≡ map (parameter s) fs → AreCopiedIn fs
    → addresses_from base from xs ≡ []
no_addresses base s from [] fs same modes = refl
no_addresses base s from (x ∷ xs) [] same modes = cc
no_addresses base s from (x ∷ xs) (f ∷ fs) same modes =
    let mode_is : x.0.mode ≡ mode.In = ap (λ p. p.mode) (first_same x.0 (parameter s f) _ _ same) ∙ modes.0 in
    let many = words_of base x.0.subtype in
    ap
    (λ m. elim m [
      | mode.In ↦ addresses_from base (from + many) xs
      | mode.Out ↦ from ∷ addresses_from base (from + 1) xs
      | mode.InOut ↦ from ∷ addresses_from base ((from + 1) + many) xs
    ])
    mode_is
    ∙ no_addresses base s (from + many) xs fs (rest_same x.0 (parameter s f) _ _ same) modes.1

-- ---- parts of a list of new names

new_behind_all : (s : Scope) (xs ys : List Placed) → AreNew s (map parameter_at (xs ++ ys)) → AreNew s (map parameter_at ys)
new_behind_all s [] ys new = new
new_behind_all s (x ∷ xs) ys new = new_behind_all s xs ys new.3

pub widths_behind : (stay : ShapesStay) (base : Scope) (xs : List Placed) (v w : Framed) → AddsEach v xs w → HasWidths stay base v → HasWidths stay base w
widths_behind stay base [] v w h widths = subst (HasWidths stay base) (sym h) widths
widths_behind stay base (x ∷ xs) v w h widths = widths_behind stay base xs h.0 w h.2 (next_widths stay base v h.0 x.0 x.1 h.1 widths)

-- ---- what is visible behind the parameters in the order of the text

module _ (laws : LawsOfNames) (t : ProgramTree) (legal : IsLegal t) (restricted : IsRestricted t) (g : Package)
    (owner : Option ℕ) (d : SubprogramTree) (b : BodyTree) (v last : Framed) (before : IsEntrance t g owner v d b) (xs : List Placed)
    (texts : map parameter_at xs ≡ map (parameter (program_of t).scope) d.formals) (added : AddsEach v xs last) where
  -- it is the scope in which the body is judged
  pub text_scope : last.names.scope ≡ formals_scope v.names.scope d.formals
  text_scope =
      scope_behind xs v last added ∙ ap (λ fs. with_all v.names.scope (all_named fs)) texts
      ∙ sym (formals_text laws.scopes t owner v.names.scope d b before.front)

  -- and names what the program has
  pub text_serves : FindsNames (program_of t) owner last
  text_serves =
      each_serves (program_of t) owner xs v last added
      (record { finds = front_finds laws.scopes t owner v.names.scope d b before.front (memory laws t legal restricted) })

-- The frames of a procedure, by what is visible in front of its body and in front of its declarations: where it is entered, and behind its `out` parameters.
pub record HasFrames (g : Package) (v middle : Framed) (ps : List Parameter) (xs : List Placed) (out : ℕ) : Type 0 where
  pub begins : Framed
  pub begun : Framed
  pub holds : HoldsAll v 0 v.reserved ps begins (passed_end v.names.scope 0 xs)
  pub left : left_out ps ≡ map parameter_at (outs_of xs)
  pub outs : OutsBegin g v.names.scope begins (outs_of xs) begun
  pub orders : NarrowsFrame g begun middle
  -- the places of all parameters are laid out, and end there
  pub laid : IsLaidOut g middle
  pub sound : SoundScope middle.names.scope
  pub ends : EndsBelow middle (outs_end v.names.scope out xs)

module _ (laws : LawsOfNames) (t : ProgramTree) (legal : IsLegal t) (restricted : IsRestricted t) (g : Package)
    (owner : Option ℕ) (d : SubprogramTree) (b : BodyTree) (v middle : Framed) (before : IsEntrance t g owner v d b) (xs : List Placed)
    (texts : map parameter_at xs ≡ map (parameter (program_of t).scope) d.formals) (added : AddsEach v xs middle) (out : ℕ)
    (turn : AreInTurn v.names.scope 0 out xs) (reserved : v.reserved ≡ addresses_from v.names.scope 0 xs) (passed : passed_end v.names.scope 0 xs ≤ out)
    (room : outs_end v.names.scope out xs ≤ v.room) where
  abbrev program : Program
  program = program_of t

  abbrev base : Scope
  base = v.names.scope

  abbrev top : ℕ
  top = passed_end base 0 xs

  pub suited : (u : Subtype) → IsKnown base u → (x : Value) → IsOf program.scope u.type_number x → has_shape (shape_of base u) x ≡ true
  suited = body_suits laws.scopes t owner base d b before.front (memory laws t legal restricted)

  abbrev AreReached : Framed → ℕ → List ℕ → List Parameter → Type 0
  AreReached = Reached laws.stay laws.sized laws.scopes program g base suited

  sound_base : SoundScope base
  sound_base = before.front.sound

  new : AreNew base (map parameter_at xs)
  new = subst (AreNew base) (sym texts) (parameters_new laws.scopes t owner base d b before.front)

  new_turn : AreNew base (map parameter_at (in_turn xs))
  new_turn = turn_new base xs new

  entries : HasEntries v
  entries = record { slots = before.laid.slots; subprograms = before.laid.subprograms }

  widths : HasWidths laws.stay base v
  widths = record { known = λ u k. k; same = λ u k. refl }

  -- ---- the frames

  first : (w : Framed) × AddsEach v (taken_of xs) w
  first = add_each (taken_of xs) v

  abbrev begins : Framed
  begins = first.0

  second : (w : Framed) × AddsEach begins (outs_of xs) w
  second = add_each (outs_of xs) begins

  abbrev begun : Framed
  begun = second.0

  joined : AddsEach v (in_turn xs) begun
  joined = each_joined (taken_of xs) (outs_of xs) v begins begun first.1 second.1

  holds : HoldsAll v 0 (addresses_from base 0 xs) (map parameter_at xs) begins top
  holds = holds_in_turn laws.stay base xs v begins 0 out new widths turn first.1

  -- ---- behind those that are copied in

  out_up : out ≤ outs_end base out xs
  out_up = let k = behind_up laws.stay base out (outs_of xs) in let e = outs_end_is laws.stay base xs out in omega (arith, k, e)

  top_room : top ≤ v.room
  top_room = let o = out_up in omega (arith, o, passed, room)

  reached : AreReached v 0 (addresses_from base 0 xs) (map parameter_at xs)
  reached = record {
    laid = before.laid;
    sound = sound_base;
    types = types_with_all base [] tt;
    new = new;
    ends = before.ends;
    earlier = [];
    reserved = reserved;
    below = λ n among. let k = among in cc;
  }

  behind : AreReached begins top [] []
  behind =
      end_reached laws.stay laws.sized laws.scopes program g base suited (map parameter_at xs) v begins 0 top (addresses_from base 0 xs) top_room holds reached

  at_outs : AreReached begins out [] (map parameter_at (outs_of xs))
  at_outs = record {
    laid = behind.laid;
    sound = behind.sound;
    types = behind.types;
    new = new_rest (taken_of xs) (outs_of xs) v begins first.1 new_turn;
    ends = λ name x r u told local named. let k = behind.ends name x r u told local named in omega (arith, k, passed);
    earlier = behind.earlier;
    reserved = behind.reserved;
    below = λ n among. let k = behind.below n among in omega (arith, k, passed);
  }

  outs_room : words_behind laws.stay base out (outs_of xs) ≤ begins.room
  outs_room =
      let e = outs_end_is laws.stay base xs out in
      let same = room_stays (taken_of xs) v begins first.1 in
      omega (arith, e, same, room)

  outs : OutsBegin g base begins (outs_of xs) begun × AreReached begun (words_behind laws.stay base out (outs_of xs)) [] []
  outs =
      outs_begin laws.stay base (known laws t legal restricted).kept laws.sized laws.scopes program g suited (outs_of xs) begins begun out at_outs
      (new_behind_all base (taken_of xs) (outs_of xs) new_turn) (widths_behind laws.stay base (taken_of xs) v begins first.1 widths) second.1
      (outs_behind laws.stay base xs 0 out turn) outs_room

  -- ---- in the order of the text

  types_on : (zs : List Placed) (w : Framed) → AddsEach v zs w → SameTypes base w.names.scope
  types_on zs w h =
      subst (SameTypes base) (sym (scope_behind zs v w h)) (types_with_all base (all_named (map parameter_at zs)) (all_types (map parameter_at zs)))

  same_words : (u : Subtype) → IsKnown middle.names.scope u → words_of middle.names.scope u ≡ words_of begun.names.scope u
  same_words u there =
      let k : IsKnown base u = known_same middle.names.scope base (types_turned base middle.names.scope (types_on xs middle added)) u there in
      (widths_behind laws.stay base xs v middle added widths).same u k
      ∙ sym ((widths_behind laws.stay base (in_turn xs) v begun joined widths).same u k)

  on : (p : Placed) → Has (in_turn xs) p → Has xs p
  on p h = has_turn xs p h

  back : (p : Placed) → Has xs p → Has (in_turn xs) p
  back p h = turn_has xs p h

  sound_middle : SoundScope middle.names.scope
  sound_middle = sound_reordered laws.scopes g v begun middle (in_turn xs) xs joined added entries sound_base new_turn new on back

  names_middle : (name : List ℕ) → stands middle.names.scope name ≡ stands begun.names.scope name
  names_middle = names_reordered laws.scopes g v begun middle (in_turn xs) xs joined added entries sound_base new_turn new on back

  slots_middle : (name : List ℕ) → slot_of middle.names name ≡ slot_of begun.names name
  slots_middle = slots_reordered laws.scopes g v begun middle (in_turn xs) xs joined added entries sound_base new_turn new on back

  entries_middle : HasEntries middle
  entries_middle = entries_behind xs v middle added entries new

  reserved_middle : begun.reserved ≡ middle.reserved
  reserved_middle = reserved_reordered laws.scopes g v begun middle (in_turn xs) xs joined added entries sound_base new_turn new on back

  within_middle : middle.within ≡ begun.within
  within_middle = within_stays xs v middle added ∙ sym (within_stays (in_turn xs) v begun joined)

  abbrev ps : List Parameter
  ps = map (parameter program.scope) d.formals

  entered : HoldsAll v 0 v.reserved ps begins top
  entered = subst (λ l. HoldsAll v 0 l ps begins top) (sym reserved) (subst (λ fs. HoldsAll v 0 (addresses_from base 0 xs) fs begins top) texts holds)

  pub procedure_frames : HasFrames g v middle ps xs out
  procedure_frames = record {
    begins = begins;
    begun = begun;
    holds = entered;
    left = ap left_out (sym texts) ∙ outs_left xs;
    outs = outs.0;
    orders = narrows_reordered laws.scopes g v begun middle (in_turn xs) xs joined added entries sound_base new_turn new on back;
    laid = laid_reordered g begun middle outs.1.laid names_middle slots_middle same_words sound_middle entries_middle reserved_middle within_middle;
    sound = sound_middle;
    ends =
        ends_reordered g begun middle outs.1.laid names_middle slots_middle same_words sound_middle entries_middle reserved_middle within_middle
        (outs_end base out xs)
        (subst (EndsBelow begun) (sym (outs_end_is laws.stay base xs out)) outs.1.ends);
  }

-- ---- a function's parameters are those of the text

module _ (laws : LawsOfNames) (t : ProgramTree) (legal : IsLegal t) (restricted : IsRestricted t) (g : Package)
    (owner : Option ℕ) (d : SubprogramTree) (b : BodyTree) (r : Identifier) (some : d.result ≡ Some r) (v last : Framed)
    (before : IsEntrance t g owner v d b) (xs : List Placed)
    (texts : map parameter_at xs ≡ map (parameter (program_of t).scope) d.formals) (added : AddsEach v xs last) (out : ℕ)
    (turn : AreInTurn v.names.scope 0 out xs) (reserved : v.reserved ≡ []) where
  pub function_holds : HoldsAll v 0 v.reserved (map (parameter (program_of t).scope) d.formals) last (passed_end v.names.scope 0 xs)
  function_holds =
      let program : Program = program_of t in
      let base : Scope = v.names.scope in
      let modes = formals_in laws.scopes t owner base d b before.front r some in
      let new : AreNew base (map parameter_at xs) = subst (AreNew base) (sym texts) (parameters_new laws.scopes t owner base d b before.front) in
      let holds =
      holds_in_turn laws.stay base xs v last 0 out new (record { known = λ u k. k; same = λ u k. refl }) turn
      (subst (λ l. AddsEach v l last) (sym (all_taken program.scope xs d.formals texts modes)) added) in
      subst (λ l. HoldsAll v 0 l (map (parameter program.scope) d.formals) last (passed_end base 0 xs))
      (no_addresses base program.scope 0 xs d.formals texts modes ∙ sym reserved)
      (subst (λ fs. HoldsAll v 0 (addresses_from base 0 xs) fs last (passed_end base 0 xs)) texts holds)
