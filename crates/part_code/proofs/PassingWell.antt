-- What actual parameters give: values of the shapes and types of the parameters that are copied in, and targets that are placed where it is copied back to.
use Rattle.std.proofs.Common.{◌≡◌, ℕ, List, [], ◌∷◌, ◌++◌, map, Option, Some, None, Bool, true, false, sym, ap, ◌∙◌, subst}
use Rattle.std.specs.Prelude.{if◌then◌else◌, is_some}
use Rattle.ada_tree.specs.declared.declaration.Mode.{Mode}
use Rattle.ada_tree.specs.declared.declaration.Mode.TheVariants as mode
use Rattle.ada_tree.specs.declared.expression.Identifier.{Identifier}
use Rattle.ada_tree.specs.ExpressionTree as tree
use Rattle.ada_tree.specs.ExpressionTree.{ArgumentTree, ArgumentTrees, ExprTree, MoreArguments, Named, NoArguments, SelectorTrees}
use Rattle.image.specs.Sections.{Sections}
use Rattle.types.specs.declared.entity.Subtype.{Subtype}
use Rattle.types.specs.Entities.{TypeForm}
use Rattle.types.specs.Evaluations.{Gives, and_then}
use Rattle.types.specs.Evaluating.{Calls, passed, value_with}
use Rattle.types.specs.Laws.{ValuesHaveWords}
use Rattle.types.specs.Places.{Place, object_of}
use Rattle.types.specs.Scopes.{Scope, form_at}
use Rattle.types.specs.Shapes.{Shape, has_shape, shape_of}
use Rattle.types.specs.Values.{Value}
use Rattle.expr_soundness.specs.expr_rules.specs.Laws.{type_shape}
use Rattle.expr_soundness.specs.SoundScopes.{IsKnown}
use Rattle.expr_soundness.proofs.Agreement.{place_values}
use Rattle.expr_soundness.proofs.Parts.{subtype_values}
use Rattle.expr_soundness.specs.meaning.specs.Calls.{Actuals, copied_both, copied_in, copied_out, is_out, value_or_nothing, with_actuals}
use Rattle.expr_soundness.specs.meaning.specs.Programs.{Parameter, Program}
use Rattle.expr_soundness.specs.meaning.specs.Targets.{value_in}
use Rattle.expr_soundness.specs.meaning.specs.Works.{Target}
use Rattle.step_soundness.specs.Fitting.{taken_types}
use Rattle.step_soundness.specs.Objects.{AreOf, IsOf}
use Rattle.expr_code.specs.Computing.{ArePassed}
use Rattle.expr_code.specs.Seeing.{Package, Sees, library_of}
use Rattle.expr_code.specs.Views.{View}
use Rattle.expr_code.proofs.Locating.{given}
use Rattle.part_code.specs.Copying.{ArePlaced, objects_at, passed_actual, passed_actuals, passed_expression, taken}
use Rattle.part_code.specs.declared.call.Destination.{Destination}
use Rattle.part_code.specs.Resting.{Framed, Knows}
use Rattle.part_code.specs.Statements.{parameter_subtype}
use Rattle.part_code.proofs.Declaring.{IsTypedAs}
use Rattle.part_code.proofs.Pointing.{PointsTo, placed_here, pointed, suited_here, value_here}
use Rattle.part_code.proofs.StoringCode.{passed_same, same_given}

abbrev pub shapes_in : Scope → List Parameter → List Shape
shapes_in s ps = map (shape_of s) (map parameter_subtype ps)

-- the parameter, where it is copied in
abbrev pub taken_one : Bool → Parameter → List Parameter → List Parameter
taken_one out f ps = if out then ps else f ∷ ps

abbrev pub type_taken : Bool → Parameter → List ℕ → List ℕ
type_taken out f ns = if out then ns else f.subtype.type_number ∷ ns

-- ---- one in front of the others

passed_joined : (s : Scope) (out : Bool) (f : Parameter) (ps : List Parameter) (vs ws : List Value) → ArePassed (shapes_in s (taken_one out f [])) vs
    → ArePassed (shapes_in s ps) ws
    → ArePassed (shapes_in s (taken_one out f ps)) (vs ++ ws)
passed_joined s true f ps [] ws h k = k
passed_joined s true f ps (v ∷ vs) ws h k = absurd h
passed_joined s false f ps [] ws h k = absurd h
passed_joined s false f ps (v ∷ []) ws h k = (h.0, k)
passed_joined s false f ps (v ∷ u ∷ vs) ws h k = absurd h.1

types_joined : (s : Scope) (out : Bool) (f : Parameter) (ns : List ℕ) (vs ws : List Value) → AreOf s (type_taken out f []) vs → AreOf s ns ws
    → AreOf s (type_taken out f ns) (vs ++ ws)
types_joined s true f ns [] ws h k = k
types_joined s true f ns (v ∷ vs) ws h k = absurd h
types_joined s false f ns [] ws h k = absurd h
types_joined s false f ns (v ∷ []) ws h k = (h.0, k)
types_joined s false f ns (v ∷ u ∷ vs) ws h k = absurd h.1

placed_joined : (v : Framed) (ds es : List Destination) (xs ys : List Target) → ArePlaced v ds xs → ArePlaced v es ys → ArePlaced v (ds ++ es) (xs ++ ys)
placed_joined v [] es [] ys h k = k
placed_joined v [] es (x ∷ xs) ys h k = absurd h
placed_joined v (d ∷ ds) es [] ys h k = absurd h
placed_joined v (d ∷ ds) es (x ∷ xs) ys h k = (h.0, placed_joined v ds es xs ys h.1 k)

module _ (program : Program) (g : Package) (scope_is : program.scope ≡ g.scope) (v : Framed) where
  -- what is given fits the parameter, and where it is copied back to
  abbrev pub Fits : Bool → Parameter → List Destination → Actuals → Type 0
  Fits out f ds a =
      ArePassed (shapes_in g.scope (taken_one out f [])) a.values × AreOf program.scope (type_taken out f []) a.values × ArePlaced v ds a.targets

  abbrev pub FitAll : List Parameter → List Destination → Actuals → Type 0
  FitAll ps ds a = ArePassed (shapes_in g.scope (taken ps)) a.values × AreOf program.scope (taken_types ps) a.values × ArePlaced v ds a.targets

  -- wherever a frame evaluates it that stands for the place
  abbrev pub PassesWell : Parameter → ArgumentTree → List Destination → Type 0
  PassesWell f x ds =
      (calls : Calls) (p : Place) (view : View) (a : Actuals) → (library_of g).sound calls → Knows g v p view
      → passed_actual calls p f x ≡ Gives a
      → Fits (is_out f.mode) f ds a

  abbrev pub PassAllWell : List Parameter → ArgumentTrees → List Destination → Type 0
  PassAllWell ps xs ds =
      (calls : Calls) (p : Place) (view : View) (a : Actuals) → (library_of g).sound calls → Knows g v p view
      → passed_actuals calls p ps xs ≡ Gives a
      → FitAll ps ds a

  pub passes_none : PassAllWell [] NoArguments []
  passes_none calls p view a good knows gives = subst (λ q. FitAll [] [] q) (same_given (record { values = []; targets = [] }) a gives) (tt, tt, tt)

  pub passes_more : (f : Parameter) (fs : List Parameter) (x : ArgumentTree) (rest : ArgumentTrees) (ds es : List Destination) → PassesWell f x ds
      → PassAllWell fs rest es
      → PassAllWell (f ∷ fs) (MoreArguments x rest) (ds ++ es)
  passes_more f fs x rest ds es first others calls p view a good knows gives =
      let one = given (passed_actual calls p f x) (λ o. and_then (passed_actuals calls p fs rest) (with_actuals o)) a gives in
      let all = given (passed_actuals calls p fs rest) (with_actuals one.0) a one.2 in
      let o = one.0 in
      let r = all.0 in
      let h = first calls p view o good knows one.1 in
      let k = others calls p view r good knows all.1 in
      subst (λ q. FitAll (f ∷ fs) (ds ++ es) q) (same_given (record { values = o.values ++ r.values; targets = o.targets ++ r.targets }) a all.2) (
        passed_joined g.scope (is_out f.mode) f (taken fs) o.values r.values h.0 k.0,
        types_joined program.scope (is_out f.mode) f (taken_types fs) o.values r.values h.1 k.1,
        placed_joined v ds es o.targets r.targets h.2 k.2,
      )

  -- ---- a value that the frame sees

  module _ (p : Place) (view : View) (sees : Sees g v.names p view) (t : Subtype) (known : IsKnown v.names.scope t) (x : Value)
      (suited : has_shape (shape_of v.names.scope t) x ≡ true) where
    value_outside : has_shape (shape_of g.scope t) x ≡ true
    value_outside =
        ap (λ s. has_shape (shape_of s t) x) (sym sees.unit.scope) ∙ place_values v.names.scope p sees.names.agrees t x known ∙ suited

    value_typed : IsOf program.scope t.type_number x
    value_typed = sym (subtype_values program.scope t x) ∙ ap (λ s. has_shape (shape_of s t) x) scope_is ∙ value_outside

  by_mode : (f : Parameter) (ds : List Destination) (a : Actuals) (m : Mode) → f.mode ≡ m → Fits (is_out m) f ds a → Fits (is_out f.mode) f ds a
  by_mode f ds a m is h = subst (λ q. Fits (is_out q) f ds a) (sym is) h

  -- `in`
  pub passes_in : (f : Parameter) (e : ExprTree) → f.mode ≡ mode.In → IsTypedAs v.names f.subtype e → PassesWell f (tree.Value e) []
  passes_in f e is typed calls p view a good knows gives =
      let now = sym (ap (λ q. passed_expression calls p (record f { mode = q }) e) is) ∙ gives in
      let one = given (and_then (value_with calls p e) (passed f.subtype)) copied_in a now in
      let x = one.0 in
      let suited = typed.typed calls p knows.sees.names.agrees (good.0 p knows.sees.unit.sound) x (passed_same f.subtype (value_with calls p e) x one.1) in
      by_mode f [] a mode.In is
      (subst (λ q. Fits false f [] q) (same_given (record { values = x ∷ []; targets = [] }) a one.2) (
        (value_outside p view knows.sees f.subtype typed.known x suited, tt),
        (value_typed p view knows.sees f.subtype typed.known x suited, tt),
        tt,
      ))

  -- ---- targets

  module _ {i : Sections} {first : Identifier} {selectors : SelectorTrees} {last : Subtype} {from low : ℕ} (sized : ValuesHaveWords)
      (way : PointsTo i g v.names first selectors last from low) (form : TypeForm)
      (known : form_at v.names.scope last.type_number ≡ Some form) (f : Parameter) where
    abbrev name : ExprTree
    name = Named first selectors

    abbrev to_here : List Destination
    to_here = record { region = way.slot.region; subtype = last } ∷ []

    -- `out`
    pub passes_out : f.mode ≡ mode.Out → PassesWell f (tree.Value name) to_here
    passes_out is calls p view a good knows gives =
        let now = sym (ap (λ q. passed_expression calls p (record f { mode = q }) name) is) ∙ gives in
        let one = given (pointed first selectors calls p) copied_out a now in
        let z = one.0 in
        let placed = placed_here sized v way form known calls p view good knows z one.1 in
        by_mode f to_here a mode.Out is
        (subst (λ q. Fits true f to_here q) (same_given (record { values = []; targets = z ∷ [] }) a one.2) (tt, tt, (placed, tt)))

    -- `in out`: the target's subtype and the parameter's are of one type
    pub passes_both : f.mode ≡ mode.InOut → last.type_number ≡ f.subtype.type_number → PassesWell f (tree.Value name) to_here
    passes_both is same calls p view a good knows gives =
        let sees = knows.sees in
        let now = sym (ap (λ q. passed_expression calls p (record f { mode = q }) name) is) ∙ gives in
        let one = given (pointed first selectors calls p)
        (λ y. and_then (and_then (value_or_nothing (value_in (object_of (objects_at y p) y.name) y.parts)) (passed f.subtype)) (copied_both y)) a now in
        let z = one.0 in
        let placed = placed_here sized v way form known calls p view good knows z one.1 in
        let stored = value_in (object_of (objects_at z p) z.name) z.parts in
        let two = given (and_then (value_or_nothing stored) (passed f.subtype)) (copied_both z) a one.2 in
        let x = two.0 in
        let at = sym (value_here sized way calls p view good sees z one.1)
        ∙ value_there stored x (passed_same f.subtype (value_or_nothing stored) x two.1) in
        let suited = suited_here sized way calls p view good sees z one.1 x at in
        let fits : has_shape (shape_of v.names.scope f.subtype) x ≡ true =
        subtype_values v.names.scope f.subtype x ∙ ap (λ q. has_shape (type_shape v.names.scope q) x) (sym same)
        ∙ sym (subtype_values v.names.scope last x) ∙ suited in
        let declared : IsKnown v.names.scope f.subtype = ap (λ q. is_some (form_at v.names.scope q)) (sym same) ∙ ap is_some known in
        by_mode f to_here a mode.InOut is
        (subst (λ q. Fits false f to_here q) (same_given (record { values = x ∷ []; targets = z ∷ [] }) a two.2) (
          (value_outside p view sees f.subtype declared x fits, tt),
          (value_typed p view sees f.subtype declared x fits, tt),
          (placed, tt),
        ))
      where
        value_there : (o : Option Value) (x : Value) → value_or_nothing o ≡ Gives x → o ≡ Some x
        value_there (Some y) x h = ap Some (same_given y x h)
        value_there None x h = cc
