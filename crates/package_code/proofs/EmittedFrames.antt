-- What is visible behind formal parameters that a method has placed, and where their words stand.
use Rattle.std.proofs.Common.{◌≡◌, ℕ, ℤ, ◌<◌, List, [], ◌∷◌, ◌++◌, map, true, Option, Some, inl, inr, refl, sym, ap, ◌∙◌, subst, arith}
use Rattle.ada_tree.specs.declared.declaration.Formal.{Formal}
use Rattle.ada_tree.specs.declared.declaration.Mode.{Mode}
use Rattle.ada_tree.specs.declared.declaration.Mode.TheVariants as mode
use Rattle.ada_tree.specs.StatementTree.{SubprogramTree}
use Rattle.ada_tree.specs.ProgramTree.{BodyTree, ProgramTree}
use Rattle.types.specs.declared.entity.Subtype.{Subtype}
use Rattle.types.specs.Entities as entity
use Rattle.types.specs.Laws.{InitialValuesHaveShape}
use Rattle.types.specs.Layouts.{words_of}
use Rattle.types.specs.Places.{Object, Place, is_among}
use Rattle.types.specs.Scopes.{Scope, form_at}
use Rattle.types.specs.Shapes.{initial, shape_of, value_words}
use Rattle.declaration_rules.specs.BodyNames.{formal_role}
use Rattle.program_soundness.specs.legality.specs.ProgramRules.{IsLegal}
use Rattle.ravenscar.specs.ProgramRules.{IsRestricted}
use Rattle.expr_soundness.specs.Agreeing.{Agrees}
use Rattle.expr_soundness.specs.Laws.{AgreementIsKept}
use Rattle.expr_soundness.specs.SoundScopes.{IsKnown, IsSoundObject}
use Rattle.expr_soundness.specs.meaning.specs.Programs.{Program, parameter, program_of}
use Rattle.program_soundness.proofs.WiderScopes.{none_unseen, number_stands, stands}
use Rattle.program_soundness.proofs.Formals.{AreNew}
use Rattle.program_soundness.proofs.Listing.{Has}
use Rattle.expr_code.specs.Seeing.{Package, slot_of}
use Rattle.expr_code.specs.declared.visible.Visible.{Visible}
use Rattle.step_simulation.specs.part_code.specs.Emitting.{first_word}
use Rattle.step_simulation.specs.part_code.specs.Formals.{AddsEach, AreInTurn, Placed, PlacesFormals, StandInTurn, addresses_from, outs_end, parameter_at, passed_end}
use Rattle.step_simulation.specs.part_code.specs.Resting.{Framed}
use Rattle.step_simulation.specs.part_code.specs.declared.formals.PlacedFormal.{PlacedFormal}
use Rattle.step_simulation.specs.part_code.specs.declared.formals.PlacedFormals.{PlacedFormals}
use Rattle.step_simulation.specs.part_code.specs.declared.frame_words.FrameWords.{FrameWords}
use Rattle.step_simulation.specs.part_code.proofs.Initials.{form_there, initial_word}
use Rattle.package_code.specs.Package.{FindsNames}
use Rattle.package_code.proofs.BodyFronts.{IsEntrance, formal_told, front_agrees, front_place, parameters_new}
use Rattle.package_code.proofs.Building.{add_each}
use Rattle.package_code.proofs.EmittedFormals.{AreTold, addresses_of, addresses_placed, end_placed, outs_placed, placed_in, same_subtype, texts_placed, turn_placed}
use Rattle.package_code.proofs.EmittedParts.{AreShown, addresses_below, each_operations, each_slots, each_subprograms, numbers_placed, outs_up, slots_placed}
use Rattle.package_code.proofs.InFront.{LawsOfNames, known, memory}
use Rattle.package_code.proofs.MadeFrames.{text_scope, text_serves}
use Rattle.package_code.proofs.Reordered.{HasEntries, all_there, formal_entity, names_added, new_next, reserved_stays, slot_at, slots_added}

-- ---- at some place of the program these names mean the same

pub record Agreed (program : Program) (v : Framed) : Type 0 where
  pub place : Place
  pub here : place.scope ≡ program.scope
  pub agrees : Agrees v.names.scope place

sound_role : (s : Scope) (t : Subtype) (m : Mode) → IsKnown s t → IsSoundObject s (formal_role m) t
sound_role s t mode.In h = h
sound_role s t mode.Out h = h
sound_role s t mode.InOut h = h

-- where the parameter is an object that has its first value
abbrev with_first : Framed → Placed → Place → Place
with_first v x p = record p { locals = (let o : Object = record { name = x.0.name; subtype = x.0.subtype; value = initial v.names.scope x.0.subtype } in o) ∷ p.locals }

pub agreed_behind : AgreementIsKept → InitialValuesHaveShape → (program : Program) (xs : List Placed) (v w : Framed) → AddsEach v xs w
    → AreNew v.names.scope (map parameter_at xs)
    → Agreed program v → Agreed program w
agreed_behind kept shaped program [] v w h new a = subst (Agreed program) (sym h) a
agreed_behind kept shaped program (x ∷ xs) v w h new a =
    agreed_behind kept shaped program xs h.0 w h.2 (new_next v h.0 x xs h.1 new) (record {
      place = with_first v x a.place;
      here = a.here;
      agrees = subst (λ s. Agrees s (with_first v x a.place)) (sym h.1.scope)
          (kept.declared v.names.scope a.place x.0.name (formal_role x.0.mode) x.0.subtype (initial v.names.scope x.0.subtype) a.agrees (none_unseen v.names.scope x.0.name new.0)
          (sound_role v.names.scope x.0.subtype x.0.mode new.2) (shaped (shape_of v.names.scope x.0.subtype)));
    })

-- each of them stands where it was placed
shown_all : (base program : Scope) (v w : Framed) (fs : List Formal) (xs : List PlacedFormal) → AreTold base program fs
    → ((y : Placed) → Has (placed_in program fs xs) y → (slot_of w.names y.0.name ≡ Some (slot_at y)) × (stands w.names.scope y.0.name ≡ Some (formal_entity y)))
    → (from out last top : ℕ) → StandInTurn base from out fs xs last top
    → AreShown base program w fs xs
shown_all base program v w [] [] told there from out last top h = tt
shown_all base program v w [] (x ∷ xs) told there from out last top h = absurd h
shown_all base program v w (f ∷ fs) [] told there from out last top h = absurd h
shown_all base program v w (f ∷ fs) (x ∷ xs) told there from out last top h =
    let own : Placed = (parameter program f, x.offset) in
    let two = there own (inl refl) in
    let same = same_subtype base program f x (told f (inl refl)) h.2 in
    let n = number_stands w.names.scope f.name.name (formal_entity own) two.1 in (
      record {
        there = two.0;
        role = formal_role f.mode;
        named = record { number = n.0; numbered = n.1; stands = n.2 ∙ ap (λ t. Some (entity.Object (formal_role f.mode) t)) (sym same) };
      },
      shown_all base program v w fs xs (λ y k. told y (inr k)) (λ y k. there y (inr k)) h.0 h.1 last top h.5,
    )

-- ---- the names and places behind the parameters of a body

-- formal parameters of a body of this protected object, or of none, placed by a method, where these names were visible; the frame has so many words
pub record IsPlaced (owner : Option ℕ) (d : SubprogramTree) : Type 0 where
  pub seen : Visible
  pub later : Visible
  pub framed : FrameWords
  pub placed : PlacedFormals
  pub places : PlacesFormals seen d.formals later framed placed
  pub room : ℕ

-- the frame in front of the parameters
abbrev pub in_front_of : {owner : Option ℕ} {d : SubprogramTree} → IsPlaced owner d → Framed
in_front_of {owner} x = record { names = x.seen; room = x.room; reserved = addresses_of x.placed.formals.items; within = owner }

module _ (laws : LawsOfNames) (shaped : InitialValuesHaveShape) (t : ProgramTree) (legal : IsLegal t) (restricted : IsRestricted t) (g : Package)
    (owner : Option ℕ) (d : SubprogramTree) (b : BodyTree) (x : IsPlaced owner d) (before : IsEntrance t g owner (in_front_of x) d b) where
  abbrev program : Program
  program = program_of t

  abbrev items : List PlacedFormal
  items = x.placed.formals.items

  abbrev v : Framed
  v = in_front_of x

  abbrev base : Scope
  base = x.seen.scope

  abbrev passed : ℕ
  passed = x.placed.passed

  abbrev top : ℕ
  top = x.framed.taken

  pub told : AreTold base program.scope d.formals
  told f has = formal_told laws.scopes t owner base d b before.front f has

  abbrev pub parameters : List Placed
  parameters = placed_in program.scope d.formals items

  pub texts : map parameter_at parameters ≡ map (parameter program.scope) d.formals
  texts = texts_placed base program.scope d.formals items 0 passed passed top x.places.stand

  pub behind : (w : Framed) × AddsEach v parameters w
  behind = add_each parameters v

  abbrev pub middle : Framed
  middle = behind.0

  pub turn : AreInTurn base 0 passed parameters
  turn = turn_placed base program.scope d.formals items 0 passed passed top told x.places.stand

  pub reserved : v.reserved ≡ addresses_from base 0 parameters
  reserved = sym (addresses_placed base program.scope d.formals items 0 passed passed top told x.places.stand)

  pub ends_at : passed_end base 0 parameters ≡ passed
  ends_at = end_placed base program.scope d.formals items 0 passed passed top told x.places.stand

  pub outs_at : outs_end base passed parameters ≡ top
  outs_at = outs_placed base program.scope d.formals items 0 passed passed top told x.places.stand

  pub fresh_names : AreNew base (map parameter_at parameters)
  fresh_names = subst (AreNew base) (sym texts) (parameters_new laws.scopes t owner base d b before.front)

  pub entries : HasEntries v
  entries = record { slots = before.laid.slots; subprograms = before.laid.subprograms }

  -- what the method sees is what is visible behind the parameters
  pub names_are : middle.names ≡ x.later
  names_are =
      let scope = text_scope laws t legal restricted g owner d b v middle before parameters texts behind.1 ∙ sym x.places.scope in
      let slots =
      each_slots parameters v middle behind.1
      ∙ ap (λ l. x.seen.slots ++ l) (slots_placed base program.scope d.formals items 0 passed passed top x.places.stand) ∙ sym x.places.slots in
      let subprograms =
      each_subprograms parameters v middle behind.1
      ∙ ap (λ l. x.seen.subprograms ++ l) (numbers_placed base program.scope d.formals items 0 passed passed top x.places.stand)
      ∙ sym x.places.subprograms in
      let operations = each_operations parameters v middle behind.1 ∙ sym x.places.operations in
      λ j. record { scope = scope j; slots = slots j; subprograms = subprograms j; operations = operations j }

  -- the program sees them so
  pub agreed : Agreed program middle
  agreed =
      agreed_behind (known laws t legal restricted).kept shaped program parameters v middle behind.1 fresh_names (record {
        place = front_place laws.scopes t owner base d b before.front;
        here = refl;
        agrees = front_agrees laws.scopes t owner base d b before.front (memory laws t legal restricted);
      })

  pub finds_behind : FindsNames program owner middle
  finds_behind = text_serves laws t legal restricted g owner d b v middle before parameters texts behind.1

  -- the words of addresses are among those that are passed
  pub reserved_below : (n : ℕ) → is_among middle.reserved n ≡ true → n < top
  reserved_below n among =
      let low = (addresses_below base program.scope d.formals items 0 passed passed top x.places.stand).1 n
      (subst (λ l. is_among l n ≡ true) (reserved_stays parameters v middle behind.1) among) in
      let up = outs_up base program.scope d.formals items 0 passed passed top x.places.stand in
      omega (arith, low, up)

  pub shown : AreShown base program.scope middle d.formals items
  shown = shown_all base program.scope v middle d.formals items told
      (λ y has. (
        all_there (λ f name z. slot_of f.names name ≡ Some z) slot_at slots_added parameters v middle behind.1 entries fresh_names y has,
        all_there (λ f name e. stands f.names.scope name ≡ Some e) formal_entity names_added parameters v middle behind.1 entries fresh_names y has,
      ))
      0 passed passed top x.places.stand

  -- the first word by these names is the first one in the program
  pub word_is : (u : Subtype) (word : ℤ) → first_word (form_at x.later.scope u.type_number) u ≡ Some word
      → (value_words (initial program.scope u) ≡ word ∷ []) × (words_of x.later.scope u ≡ 1)
  word_is u word first =
      let form = form_there (form_at x.later.scope u.type_number) u word first in
      let in_program : form_at program.scope u.type_number ≡ Some form.0 =
      ap (λ z. form_at z u.type_number) (sym agreed.here)
      ∙ agreed.agrees.forms u.type_number form.0 (ap (λ z. form_at z.scope u.type_number) names_are ∙ form.1) in (
        (initial_word program.scope u word (ap (λ o. first_word o u) (in_program ∙ sym form.1) ∙ first)).words,
        (initial_word x.later.scope u word first).single,
      )
