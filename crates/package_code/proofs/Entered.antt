-- What frames know where bodies of the package are entered: procedures, and functions.
use Rattle.std.proofs.Common.{◌≡◌, ℕ, ◌+◌, ◌-◌, ◌≤◌, ℤ, List, [], ◌∷◌, ◌++◌, length, map, Option, Some, true, refl, sym, ap, ◌∙◌, subst, arith}
use Rattle.std.specs.Prelude.{if◌then◌else◌, Bool, false}
use Rattle.std.proofs.lemmas.List.{length-append}
use Rattle.ada_tree.specs.declared.expression.Identifier.{Identifier}
use Rattle.ada_tree.specs.declared.declaration.Formal.{Formal}
use Rattle.ada_tree.specs.declared.declaration.Mode.{Mode}
use Rattle.ada_tree.specs.declared.declaration.Mode.TheVariants as mode
use Rattle.ada_tree.specs.ExpressionTree.{ExprTree}
use Rattle.ada_tree.specs.StatementTree.{SubprogramTree}
use Rattle.ada_tree.specs.ProgramTree.{BodyTree, ProgramTree}
use Rattle.image.specs.Frames.{object_words}
use Rattle.image.specs.Sections.{Sections}
use Rattle.image.specs.Sections.{object_of as kind_object}
use Rattle.image.specs.declared.instruction.Region.TheVariants as regions
use Rattle.image.specs.declared.subprograms.Subprogram.{Subprogram}
use Rattle.types.specs.declared.entity.Subtype.{Subtype}
use Rattle.types.specs.Evaluating.{entered, formal_subtype}
use Rattle.types.specs.Layouts.{words_of}
use Rattle.types.specs.Places.{Function, Place}
use Rattle.types.specs.Scopes.{Scope}
use Rattle.types.specs.Shapes.{has_shape, shape_of, value_words}
use Rattle.types.specs.Values.{Value}
use Rattle.expr_soundness.specs.expr_rules.specs.Laws.{type_shape}
use Rattle.program_soundness.specs.legality.specs.ProgramRules.{IsLegal}
use Rattle.ravenscar.specs.ProgramRules.{IsRestricted}
use Rattle.expr_soundness.specs.SoundScopes.{IsKnown}
use Rattle.expr_soundness.proofs.Parts.{subtype_values}
use Rattle.expr_soundness.specs.meaning.specs.Calls.{activation_of, is_in, is_out, results}
use Rattle.expr_soundness.specs.meaning.specs.Programs.{Parameter, Procedure, Program, formal, parameter, program_of}
use Rattle.program_soundness.specs.step_soundness.specs.Fitting.{taken_types}
use Rattle.program_soundness.specs.step_soundness.specs.Objects.{AreOf, IsOf}
use Rattle.program_soundness.proofs.Callables.{function_by, procedure_by, subprogram_body}
use Rattle.program_soundness.proofs.Formals.{AreNew}
use Rattle.program_soundness.proofs.Same.{types_with_all}
use Rattle.expr_code.specs.Coming.{all_words}
use Rattle.expr_code.specs.Computing.{ArePassed, ArePassedTo}
use Rattle.expr_code.specs.Seeing.{Package, Sees, SeesPackage, library_of}
use Rattle.expr_code.specs.Views.{IsSameTask, View}
use Rattle.step_simulation.specs.part_code.specs.Copying.{held_at, passed_words, taken}
use Rattle.step_simulation.specs.part_code.specs.Resting.{Framed, RestsWith}
use Rattle.step_simulation.specs.part_code.specs.Statements.{parameter_subtype}
use Rattle.stmt_code.proofs.Beginning.{Enters, EntersOne}
use Rattle.stmt_code.proofs.Bodies.{body_rests}
use Rattle.stmt_code.proofs.Functions.{EntersFormals, function_sees, AreScalarFormals}
use Rattle.package_code.specs.Package.{HoldsAll, IsPackageOf}
use Rattle.package_code.proofs.BodyFronts.{IsEntrance, body_suits, formals_in, parameters_new, formals_simple}
use Rattle.package_code.proofs.HeldParameters.{Reached, all_enter, all_long, reserved_same}
use Rattle.package_code.proofs.InFront.{LawsOfNames, known, memory}
use Rattle.package_code.proofs.NewParameters.{AreCopiedIn, distinct_names}
use Rattle.expr_soundness.specs.Lying.{are_between}

-- ---- values of shapes are values of types

module _ (s whole_scope : Scope) (same : s ≡ whole_scope) where
  is_of_type : (u : Subtype) (x : Value) → has_shape (shape_of s u) x ≡ true → IsOf whole_scope u.type_number x
  is_of_type u x h = subst (λ z. has_shape (type_shape z u.type_number) x ≡ true) same (sym (subtype_values s u x) ∙ h)

  pub passed_types : (fs : List Parameter) (vs : List Value) → ArePassed (map (shape_of s) (map parameter_subtype (taken fs))) vs
      → AreOf whole_scope (taken_types fs) vs
  passed_types [] [] h = tt
  passed_types [] (v ∷ vs) h = absurd h
  passed_types (f ∷ fs) vs h = by_test (is_out f.mode) vs h (λ ws k. passed_types fs ws k)
    where
      by_test : (b : Bool) (vs : List Value) → ArePassed (map (shape_of s) (map parameter_subtype (if b then taken fs else f ∷ taken fs))) vs
          → ((ws : List Value) → ArePassed (map (shape_of s) (map parameter_subtype (taken fs))) ws → AreOf whole_scope (taken_types fs) ws)
          → AreOf whole_scope (if b then taken_types fs else f.subtype.type_number ∷ taken_types fs) vs
      by_test true vs k later = later vs k
      by_test false [] k later = absurd k
      by_test false (v ∷ vs) k later = (is_of_type f.subtype v k.0, later vs k.1)

-- ---- formals of functions are parameters that are copied in

module _ (whole_scope : Scope) where
  abbrev as_passed : List Formal → List Parameter
  as_passed fs = map (parameter whole_scope) fs

  module _ (program : Program) (g : Package) where
    abbrev AreEntered : List Formal → Framed → Framed → ℕ → List ℕ → Type 0
    AreEntered fs last v from places = Enters program g v from places (as_passed fs) last

    formals_enter : (fs : List Formal) (v last : Framed) (from : ℕ) (places : List ℕ) → AreCopiedIn fs → AreEntered fs last v from places
        → EntersFormals program g v from (map (formal whole_scope) fs) last
    formals_enter [] v last from places modes h = h.0
    formals_enter (f ∷ fs) v last from places modes h =
        let one = subst (λ m. EntersOne program g m (parameter whole_scope f) v from places (AreEntered fs last)) modes.0 h in (
          one.0,
          record {
            laid = one.1.laid;
            role = one.1.role;
            slot = one.1.slot;
            region = one.1.region;
            at = one.1.at;
            widens = one.1.widens;
            suits = one.1.suits;
          },
          formals_enter fs one.0 last (from + words_of v.names.scope (parameter whole_scope f).subtype) places modes.1 one.2,
        )

  abbrev types_by : Formal → List Formal → Mode → List ℕ
  types_by f fs m = if is_out m then taken_types (as_passed fs) else (parameter whole_scope f).subtype.type_number ∷ taken_types (as_passed fs)

  none_back : (fs : List Formal) → AreCopiedIn fs → results (as_passed fs) ≡ []
  none_back [] modes = refl
  none_back (f ∷ fs) modes = ap (λ m. if is_in m then results (as_passed fs) else f.name.name ∷ results (as_passed fs)) modes.0 ∙ none_back fs modes.1

  formals_typed : (s : Scope) → s ≡ whole_scope → (fs : List Formal) (vs : List Value) → AreCopiedIn fs
      → ArePassed (map (shape_of s) (map formal_subtype (map (formal whole_scope) fs))) vs
      → AreOf whole_scope (taken_types (as_passed fs)) vs
  formals_typed s same [] [] modes h = tt
  formals_typed s same [] (v ∷ vs) modes h = absurd h
  formals_typed s same (f ∷ fs) [] modes h = absurd h
  formals_typed s same (f ∷ fs) (v ∷ vs) modes h =
      subst (λ m. AreOf whole_scope (types_by f fs m) (v ∷ vs)) (sym modes.0)
      (is_of_type s whole_scope same (parameter whole_scope f).subtype v h.0, formals_typed s same fs vs modes.1 h.1)

  words_passed : (fs : List Formal) (vs : List Value) → AreCopiedIn fs → AreOf whole_scope (taken_types (as_passed fs)) vs
      → passed_words (as_passed fs) vs [] ≡ all_words vs
  words_passed [] [] modes h = refl
  words_passed [] (v ∷ vs) modes h = absurd h
  words_passed (f ∷ fs) vs modes h =
      by_values vs (subst (λ m. AreOf whole_scope (types_by f fs m) vs) modes.0 h) (λ ws k. words_passed fs ws modes.1 k)
    where
      by_values : (vs : List Value) → AreOf whole_scope ((parameter whole_scope f).subtype.type_number ∷ taken_types (as_passed fs)) vs
          → ((ws : List Value) → AreOf whole_scope (taken_types (as_passed fs)) ws → passed_words (as_passed fs) ws [] ≡ all_words ws)
          → passed_words (as_passed (f ∷ fs)) vs [] ≡ all_words vs
      by_values [] k later = absurd k
      by_values (v ∷ vs) k later =
          ap
          (λ m. elim m [
            | mode.In ↦ value_words v ++ passed_words (as_passed fs) vs []
            | mode.Out ↦ passed_words (as_passed fs) (v ∷ vs) []
            | mode.InOut ↦ value_words v ++ passed_words (as_passed fs) vs []
          ])
          modes.0
          ∙ ap (λ l. value_words v ++ l) (later vs k.1)

-- ---- the body at a place

module _ (laws : LawsOfNames) (t : ProgramTree) (legal : IsLegal t) (restricted : IsRestricted t) (i : Sections) (g : Package) (of_program : IsPackageOf t i g)
    (owner : Option ℕ) (d : SubprogramTree) (b : BodyTree) (v last : Framed) (before : IsEntrance t g owner v d b) (top : ℕ) where
  abbrev program : Program
  program = program_of t

  abbrev ps : List Parameter
  ps = map (parameter program.scope) d.formals

  module _ (holds : HoldsAll v 0 v.reserved ps last top) (room : top ≤ v.room) (small : v.room ≤ 65536) where
    new : AreNew v.names.scope ps
    new = parameters_new laws.scopes t owner v.names.scope d b before.front

    pub suited : (u : Subtype) → IsKnown v.names.scope u → (x : Value) → IsOf program.scope u.type_number x → has_shape (shape_of v.names.scope u) x ≡ true
    suited = body_suits laws.scopes t owner v.names.scope d b before.front (memory laws t legal restricted)

    abbrev AreReached : Framed → ℕ → List ℕ → List Parameter → Type 0
    AreReached = Reached laws.stay laws.sized laws.scopes program g v.names.scope suited

    reached : AreReached v 0 v.reserved ps
    reached = record {
      laid = before.laid;
      sound = before.front.sound;
      types = types_with_all v.names.scope [] tt;
      new = new;
      ends = before.ends;
      earlier = [];
      reserved = refl;
      below = λ n among. let k = among in cc;
    }

    all_entered : Enters program g v 0 v.reserved ps last
    all_entered =
        all_enter laws.stay laws.sized laws.scopes program g v.names.scope suited ps v last 0 top v.reserved room holds reached

    words_long : (args : List Value) (addresses : List ℕ) → AreOf program.scope (taken_types ps) args → length addresses ≡ length (results ps)
        → length (passed_words ps args addresses) ≡ top
    words_long args addresses of many =
        let k =
        all_long laws.stay laws.sized laws.scopes program g v.names.scope suited ps v last 0 top v.reserved room holds reached args addresses of many in
        omega (arith, k)

    -- ---- a procedure

    abbrev procedure : Procedure
    procedure = procedure_by program.scope (subprogram_body owner d b)

    -- as many words are passed as stand in front of the others
    pub procedure_takes : (args : List Value) (addresses : List ℕ) → ArePassed (map (shape_of g.scope) (map parameter_subtype (taken ps))) args
        → length addresses ≡ length (results ps)
        → length (passed_words ps args addresses) ≡ top
    procedure_takes args addresses passed many = words_long args addresses (passed_types g.scope program.scope of_program.scope ps args passed) many

    pub procedure_enters : (args : List Value) (addresses : List ℕ) (locals : List ℤ)
        → AreOf program.scope (taken_types ps) args
        → length addresses ≡ length (results ps)
        → length locals ≡ v.room - top
        → RestsWith g last (held_at last.reserved addresses) (activation_of procedure args) (passed_words ps args addresses ++ locals)
    procedure_enters args addresses locals of many rest =
        let long = words_long args addresses of many in
        let both = length-append (passed_words ps args addresses) locals in
        body_rests (known laws t legal restricted).kept laws.sized program g of_program.laid procedure v last before.begins
        (distinct_names v.names.scope ps new) args addresses locals v.reserved all_entered (reserved_same ps v last 0 top v.reserved holds) of many
        (omega (arith, long, both, rest, room, small)) (omega (arith, long, both, rest, room))

    -- as the code of a procedure is asked for it
    pub procedure_code : (s : Subprogram) → s.parameters ≡ top → s.locals ≡ v.room
        → (args : List Value) (addresses : List ℕ) (locals : List ℤ)
        → ArePassed (map (shape_of g.scope) (map parameter_subtype (taken ps))) args
        → AreOf program.scope (taken_types ps) args
        → length addresses ≡ length (results ps)
        → length locals ≡ s.locals - s.parameters
        → RestsWith g last (held_at last.reserved addresses) (activation_of procedure args) (passed_words ps args addresses ++ locals)
    procedure_code s takes has args addresses locals passed of many rest =
        procedure_enters args addresses locals of many (rest ∙ (λ j. has j - takes j))

    -- ---- a function

    module _ (r : Identifier) (some : d.result ≡ Some r) (value : ExprTree) where
      abbrev function : Function
      function = function_by program.scope (subprogram_body owner d b) r value

      modes : AreCopiedIn d.formals
      modes = formals_in laws.scopes t owner v.names.scope d b before.front r some

      -- as many words are passed as stand in front of the others
      pub function_takes : (args : List Value) → ArePassed (map (shape_of g.scope) (map formal_subtype function.formals)) args
          → length (all_words args) ≡ top
      function_takes args passed =
          let of = formals_typed program.scope g.scope of_program.scope d.formals args modes passed in
          sym (ap length (words_passed program.scope d.formals args modes of))
          ∙ words_long args [] of (sym (ap length (none_back program.scope d.formals modes)))

      pub function_enters : (p : Place) (view inner : View) (args : List Value) (left : ℕ) (locals : List ℤ)
          → SeesPackage g p view
          → ArePassed (map (shape_of g.scope) (map formal_subtype function.formals)) args
          → are_between (map formal_subtype function.formals) args ≡ true
          → inner.schedule ≡ view.schedule
          → inner.now ≡ view.now
          → IsSameTask p inner
          → inner.memory ≡ view.memory
          → inner.words regions.Locals ≡ all_words args ++ locals
          → length locals ≡ v.room - top
          → inner.words regions.Plain ≡ view.words regions.Plain
          → inner.words regions.Object ≡ object_words owner view.memory
          → Sees g last.names (entered p function args left) inner
      function_enters p view inner args left locals sees passed between schedule now task same_words words rest plain object =
          let long = function_takes args passed in
          let both = length-append (all_words args) locals in
          function_sees (known laws t legal restricted).kept laws.sized program g of_program.scope of_program.laid function v last before.begins
          (formals_enter program.scope program g d.formals v last 0 v.reserved modes all_entered)
          (subst (λ s. AreScalarFormals s function.formals) (sym of_program.scope)
          (formals_simple laws.scopes t owner v.names.scope d b before.front (memory laws t legal restricted) r some))
          p view inner args left locals sees passed between schedule now task same_words words plain object
          (omega (arith, long, both, rest, room, small)) (omega (arith, long, both, rest, room))

      -- as the code of a function is asked for it
      pub function_code : (s : Subprogram) → s.parameters ≡ top → s.locals ≡ v.room → kind_object s.kind ≡ owner
          → (p : Place) (view inner : View) (args : List Value) (left : ℕ) (locals : List ℤ)
          → (library_of g).shared p view
          → ArePassedTo (library_of g) function args
          → inner.schedule ≡ view.schedule
          → inner.now ≡ view.now
          → IsSameTask p inner
          → inner.memory ≡ view.memory
          → inner.words regions.Locals ≡ all_words args ++ locals
          → length locals ≡ s.locals - s.parameters
          → inner.words regions.Plain ≡ view.words regions.Plain
          → inner.words regions.Object ≡ object_words (kind_object s.kind) view.memory
          → inner.left ≡ left
          → Sees g last.names (entered p function args left) inner
      function_code s takes has owned p view inner args left locals sees passed schedule now task memory words rest plain object frames =
          function_enters p view inner args left locals sees passed.0 passed.1 schedule now task memory words (rest ∙ (λ j. has j - takes j)) plain
          (object ∙ ap (λ o. object_words o view.memory) owned)
