-- What code promises that passes actual parameters to a procedure and copies back (RM 6.4.1).
use Rattle.std.specs.Prelude.{◌≡◌, ℕ, suc, ◌+◌, ◌≤◌, List, ◌++◌, length, map, Option, Some, None}
use Rattle.ada_tree.specs.declared.expression.Identifier.{Identifier}
use Rattle.ada_tree.specs.ExpressionTree.{ArgumentTree, ArgumentTrees, Arguments, MoreSelectors, NoArguments, NoSelectors, SelectorTrees, Component}
use Rattle.image.specs.Sections.{Sections}
use Rattle.types.specs.Evaluating.{Calls}
use Rattle.types.specs.Evaluations.{Gives}
use Rattle.types.specs.Layouts.{words_of}
use Rattle.types.specs.Places.{Place}
use Rattle.types.specs.Scopes.{Scope}
use Rattle.types.specs.Shapes.{shape_of}
use Rattle.expr_soundness.specs.meaning.specs.Calls.{Actuals, results}
use Rattle.expr_soundness.specs.meaning.specs.Programs.{Parameter, Program}
use Rattle.step_soundness.specs.Fitting.{taken_types}
use Rattle.step_soundness.specs.Objects.{AreOf}
use Rattle.expr_code.specs.Actuals.{arguments_in_front}
use Rattle.expr_code.specs.Computing.{ArePassed, Everywhere}
use Rattle.expr_code.specs.Seeing.{Package, Sees, library_of}
use Rattle.expr_code.specs.Views.{View}
use Rattle.part_code.specs.Copying.{ArePlaced, actuals_on, passed_actuals, taken}
use Rattle.part_code.specs.Resting.{Framed, Knows}
use Rattle.part_code.specs.Statements.{parameter_subtype}
use Rattle.part_code.specs.declared.call.Destination.{Destination}

-- ---- actual parameters

-- the words that come back for one that is copied back, with the address of its target
abbrev pub copied_width : Scope → Destination → ℕ
copied_width s d = suc (words_of s d.subtype)

-- those behind the name of what is called
abbrev pub actuals_behind : SelectorTrees → Option ArgumentTrees
actuals_behind NoSelectors = Some NoArguments
actuals_behind (MoreSelectors (Arguments a) NoSelectors) = Some a
actuals_behind other = None

-- `Object.P`, `Object.P (..)`: the operation that is named behind a protected object, and the actual parameters behind that (RM 9.5)
pub record ExternalName : Type 0 where
  pub operation : Identifier
  pub arguments : ArgumentTrees

abbrev pub operation_behind : SelectorTrees → Option ExternalName
operation_behind (MoreSelectors (Component operation) NoSelectors) = Some (record { operation = operation; arguments = NoArguments })
operation_behind (MoreSelectors (Component operation) (MoreSelectors (Arguments a) NoSelectors)) = Some (record { operation = operation; arguments = a })
operation_behind other = None

module _ (i : Sections) (program : Program) (g : Package) (v : Framed) where
  -- the code between two places computes them
  abbrev pub ComputesActuals : (from to : ℕ) → List Parameter → ArgumentTrees → Type 0
  ComputesActuals from to ps rest =
      Everywhere i (library_of g) (Sees g v.names) from to (actuals_on v.names ps) (λ calls p. passed_actuals calls p ps rest)

  -- their values have the shapes and types of the parameters, and their targets are placed where it is copied back to
  abbrev pub ArePassedAndPlaced : List Parameter → ArgumentTrees → List Destination → Type 0
  ArePassedAndPlaced ps rest ds =
      (calls : Calls) (p : Place) (view : View) (a : Actuals) → (library_of g).sound calls → Knows g v p view
      → passed_actuals calls p ps rest ≡ Gives a
      → ArePassed (map (shape_of g.scope) (map parameter_subtype (taken ps))) a.values × AreOf program.scope (taken_types ps) a.values
      × ArePlaced v ds a.targets

  -- these actual parameters are passed before others, of whatever kind
  pub record ArePassedInFront (from mid : ℕ) (ps : List Parameter) (all : List ArgumentTree) (ds : List Destination) : Type 0 where
    pub computes : (to : ℕ) (qs : List Parameter) (rest : ArgumentTrees) → mid ≤ to → ComputesActuals mid to qs rest
        → ComputesActuals from to (ps ++ qs) (arguments_in_front all rest)
    pub passes : (qs : List Parameter) (rest : ArgumentTrees) (es : List Destination) → ArePassedAndPlaced qs rest es
        → ArePassedAndPlaced (ps ++ qs) (arguments_in_front all rest) (ds ++ es)
    pub many : length ds ≡ length (results ps)
