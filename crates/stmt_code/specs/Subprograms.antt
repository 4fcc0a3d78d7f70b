-- What methods promise that add the code of whole subprograms: of procedures and functions of a package, and of main (docs/CODEGEN.md).
use Rattle.std.specs.Prelude.{◌≡◌, ℕ, suc, ◌+◌, ◌≤◌, Bool, true, false, List, [], ◌∷◌, length, map, None, Some, is_some, ⊤}
use Rattle.std.specs.List.{All}
use Rattle.base.specs.declared.limits.TheConstants.{FRAME_WORDS, INSTRUCTIONS}
use Rattle.ada_tree.specs.declared.declaration.Formal.{Formal}
use Rattle.ada_tree.specs.declared.program.MainStatement.{MainStatement}
use Rattle.ada_tree.specs.declared.program.MainStatement.TheVariants as main
use Rattle.ada_tree.specs.ExpressionTree.{ExprTree}
use Rattle.ada_tree.specs.ProgramTree.{BodyTree}
use Rattle.ada_tree.specs.Size.{total}
use Rattle.image.specs.Operations.{called}
use Rattle.image.specs.Sections.{Sections}
use Rattle.image.specs.declared.instruction.Operation.TheVariants as op
use Rattle.image.specs.declared.subprograms.Subprogram as code
use Rattle.types.specs.declared.entity.FormalParameter.{FormalParameter}
use Rattle.types.specs.declared.entity.Subtype.{Subtype}
use Rattle.types.specs.Entities.{Profile}
use Rattle.types.specs.Layouts.{words_of}
use Rattle.types.specs.Scopes.{Scope}
use Rattle.type_rules.specs.ProfileRules.{formal_parameters}
use Rattle.expr_soundness.specs.Agreeing.{parameter_subtype}
use Rattle.type_rules.specs.SubtypeNames.{subtype_of}
use Rattle.declaration_rules.specs.BodyNames.{formals_scope}
use Rattle.expr_soundness.specs.SoundScopes.{AreIn, IsKnown, SoundScope}
use Rattle.expr_code.specs.Code.{Adds, Extends, Holds, StandsFrom, here}
use Rattle.expr_code.specs.Emitting.{EmitsChecked}
use Rattle.expr_code.specs.Flows.{AreKeptBetween}
use Rattle.expr_code.specs.Seeing.{NamesProfile, Suits}
use Rattle.expr_code.specs.Views.{At}
use Rattle.expr_code.specs.declared.code.Code.{Code}
use Rattle.expr_code.specs.declared.visible.Visible.{Visible}
use Rattle.part_code.specs.Bounds.{function_bound, main_bound, procedure_bound}
use Rattle.stmt_code.specs.Emitting.{AddsRows, EmitsRun, HasLabels}
use Rattle.part_code.specs.Formals.{Initialises, PlacesFormals, Returns}
use Rattle.part_code.specs.Suiting.{SuitsStatements, passed_width, returned_width}
use Rattle.stmt_code.specs.declared.draft.Draft.{Draft}
use Rattle.part_code.specs.declared.frame_words.FrameWords.{FrameWords}
use Rattle.part_code.specs.declared.formals.PlacedFormals.{PlacedFormals}
use Rattle.stmt_code.specs.declared.subprogram.SubprogramWords.{SubprogramWords}
use Rattle.part_code.specs.MainCalls.{AddsCalls}

-- ---- what is asked

-- what is named as the subtype of each formal is one
abbrev pub NameSubtypes : Scope → List Formal → Type 0
NameSubtypes s [] = ⊤
NameSubtypes s (f ∷ fs) = (is_some (subtype_of s f.subtype) ≡ true) × NameSubtypes s fs

-- legal formals in front of which these names are visible: each has a name of its own
pub record AreLegalFormals (s : Scope) (fs : List Formal) : Type 0 where
  pub named : NameSubtypes s fs
  pub new_names : length (formals_scope s fs) ≡ length s + length fs
  pub sound : SoundScope (formals_scope s fs)

-- ---- code that was added

-- code behind which a subprogram begins, of which nothing stood on the operand stack yet
abbrev pub fresh : Code → Code
fresh c = record c { deepest = 0 }

-- The code of a procedure was added, of at most so many instructions: first values of its `out` parameters, its declarations and statements, and what it gives
-- back.
pub record AddsProcedure (v : Visible) (old : Draft) (fs : List Formal) (b : BodyTree) (words : SubprogramWords) (new : Draft) : Type 0 where
  pub sized : here new.code ≤ here old.code + procedure_bound v.scope fs b
  pub placed : PlacedFormals
  pub later : Visible
  pub framed : FrameWords
  pub places : PlacesFormals v fs later framed placed
  pub initial : Code
  pub initialises : Initialises later.scope (fresh old.code) placed.formals.items initial
  pub run : Draft
  pub runs : EmitsRun later (record old { code = initial; words = framed }) b.declarations b.statements b.handlers run
  pub returns : Returns later.scope run.code placed.formals.items words.results new.code
  pub labels : new.labels ≡ run.labels
  pub rows : new.rows ≡ run.rows
  pub exceptions : new.exceptions ≡ run.exceptions
  pub passed : words.passed ≡ placed.passed
  pub locals : words.locals ≡ run.words.most
  pub stack : words.stack ≡ new.code.deepest
  pub fits : words.locals + words.stack ≤ FRAME_WORDS

-- The code of a function was added that returns this value: the value, checked, and the return.
pub record AddsFunction (v : Visible) (old : Draft) (fs : List Formal) (result : Subtype) (value : ExprTree) (words : SubprogramWords)
    (new : Draft) : Type 0 where
  pub sized : here new.code ≤ here old.code + function_bound fs value
  pub placed : PlacedFormals
  pub later : Visible
  pub framed : FrameWords
  pub places : PlacesFormals v fs later framed placed
  pub valued : Code
  pub emits : EmitsChecked later (fresh old.code) 0 result value valued
  pub returns : Adds valued 1 op.Return new.code
  pub labels : new.labels ≡ old.labels
  pub rows : new.rows ≡ old.rows
  pub exceptions : new.exceptions ≡ old.exceptions
  pub passed : words.passed ≡ placed.passed
  pub results : words.results ≡ 1
  pub locals : words.locals ≡ framed.most
  pub stack : words.stack ≡ new.code.deepest
  pub fits : words.locals + words.stack ≤ FRAME_WORDS

-- The code of main was added: its calls, and the return.
pub record AddsMain (v : Visible) (old : Draft) (all : List MainStatement) (words : SubprogramWords) (new : Draft) : Type 0 where
  pub sized : here new.code ≤ here old.code + main_bound all
  pub called : Code
  pub calls : AddsCalls v (fresh old.code) all called
  pub returns : Adds called 0 op.Return new.code
  pub labels : new.labels ≡ old.labels
  pub rows : new.rows ≡ old.rows
  pub exceptions : new.exceptions ≡ old.exceptions
  pub passed : words.passed ≡ 0
  pub results : words.results ≡ 0
  pub locals : words.locals ≡ 0
  pub stack : words.stack ≡ new.code.deepest
  pub fits : words.locals + words.stack ≤ FRAME_WORDS

-- ---- the rules of images

-- a procedure without parameters has this name
pub record NamesBare (s : Scope) (name : List ℕ) : Type 0 where
  pub profile : Profile
  pub names : NamesProfile s name profile
  pub formals : profile.formals ≡ []
  pub result : profile.result ≡ None

-- main calls such procedures
abbrev pub NamesIfCalled : Scope → MainStatement → Type 0
NamesIfCalled s (main.Null place) = ⊤
NamesIfCalled s (main.Call package_ procedure) = NamesBare s procedure.name

abbrev pub CallsProcedures : Scope → List MainStatement → Type 0
CallsProcedures s all = All (NamesIfCalled s) all

-- the words that are passed and come back are those of a call of a procedure whose profile has these formals
pub record IsCalledProcedure (s : Scope) (fs : List Formal) (words : SubprogramWords) : Type 0 where
  pub passed : (all : List FormalParameter) → formal_parameters s fs ≡ Some all → words.passed ≡ total (passed_width s) all
  pub results : (all : List FormalParameter) → formal_parameters s fs ≡ Some all → words.results ≡ total (returned_width s) all

-- the words of a function that is called, which has this result
pub record IsCalledFunction (s : Scope) (fs : List Formal) (result : Subtype) (words : SubprogramWords) : Type 0 where
  pub passed : (all : List FormalParameter) → formal_parameters s fs ≡ Some all → AreIn all → words.passed ≡ total (words_of s) (map parameter_subtype all)
  pub results : IsKnown s result → words.results ≡ words_of s result

-- the subprogram has these words
pub record HasSubprogramWords (s : code.Subprogram) (words : SubprogramWords) : Type 0 where
  pub parameters : s.parameters ≡ words.passed
  pub results : s.results ≡ words.results
  pub locals : s.locals ≡ words.locals
  pub stack : s.stack ≡ words.stack

-- what the code of a body may name stands there, in the image and in its subprogram; that of a function stores nothing
abbrev pub SuitsBody : (stores : Bool) → Visible → Sections → code.Subprogram → Type 0
SuitsBody true v i s = SuitsStatements v i s
SuitsBody false v i s = Suits v i s

-- The code that was added keeps the rules of images on one subprogram (docs/FORMATS.md, 43 to 47): its words are within a frame, and what is passed within
-- those of its names; it ends with a return; the rows that were added are rows of its code; and in every image that holds it, in a subprogram with these words
-- and whatever has what is visible in front of it, each instruction keeps the rules, jumps within the subprogram, and the first one finds an empty operand
-- stack.
pub record KeepsRules (stores : Bool) (v : Visible) (old : Draft) (words : SubprogramWords) (new : Draft) : Type 0 where
  pub extends : Extends (fresh old.code) new.code
  pub labels : StandsFrom 0 old.labels new.labels
  pub few : here new.code ≤ INSTRUCTIONS
  pub rows : AddsRows old new
  pub passed : words.passed ≤ words.locals
  pub fits : words.locals + words.stack ≤ FRAME_WORDS
  pub last : ℕ
  pub up : here old.code ≤ last
  pub end : here new.code ≡ suc last
  pub returns : (i : Sections) → Holds i (here old.code) new.code → At i last op.Return
  pub flows : (i : Sections) (s : code.Subprogram) → Holds i (here old.code) new.code → HasLabels i new.labels → HasSubprogramWords s words
      → SuitsBody stores v i s
      → AreKeptBetween i s (here old.code) last (here old.code) (here new.code) 0
