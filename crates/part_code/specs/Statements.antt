-- Which code is that of a statement, of a sequence of statements, and of the body of a procedure (RM 5, 6.3).
use Rattle.std.specs.Prelude.{◌≡◌, ◌≤◌, ℕ, suc, ◌-◌, ℤ, pos, List, [], ◌∷◌, ◌++◌, length, map, Option, Some, None, if◌then◌else◌, ⊤, true}
use Rattle.base.specs.declared.schedule.ScheduleLine.{ScheduleLine}
use Rattle.kernel.specs.State.{Kernel}
use Rattle.kernel.specs.Calm.{Calm}
use Rattle.kernel.specs.Counting.{Spends}
use Rattle.image.specs.Sections.{Sections, first_place}
use Rattle.image.specs.Frames.{Frame, Words}
use Rattle.image.specs.Steps.{behaviour}
use Rattle.expr_soundness.specs.meaning.specs.SameMeaning.{frames_of}
use Rattle.expr_soundness.specs.meaning.specs.SourceSteps.{chooses, some_covers}
use Rattle.image.specs.Operations.{called}
use Rattle.image.specs.Texts.{text_at}
use Rattle.image.specs.declared.instruction.Operation.{Operation}
use Rattle.image.specs.declared.instruction.Operation.TheVariants as op
use Rattle.image.specs.declared.subprograms.Kind.{Kind}
use Rattle.image.specs.declared.subprograms.Kind.TheVariants.{EntryBody, Plain, ProtectedProcedure}
use Rattle.image.specs.declared.subprograms.Subprogram.{Subprogram}
use Rattle.ada_tree.specs.declared.expression.Identifier.{Identifier}
use Rattle.ada_tree.specs.declared.statement.ExceptionChoice.{ExceptionChoice}
use Rattle.ada_tree.specs.declared.program.MainStatement.{MainStatement}
use Rattle.ada_tree.specs.declared.program.MainStatement.TheVariants as main
use Rattle.ada_tree.specs.ExpressionTree.{ExprTree, SelectorTrees, NoSelectors, MoreSelectors, Arguments, MoreArguments, NoArguments, NameTree, Text, Value}
use Rattle.ada_tree.specs.StatementTree.{DeclarationTree, LocalObject, Forever, While, For, StmtTree, Null, Assignment, Call, Exit, Return, Raise, DelayUntil, If, Case, Loop, Block, ChoicesTree, AlternativeTrees, NoAlternatives, MoreAlternatives, StmtTrees, NoStmts, MoreStmts, ElsifTrees, NoElsifs, MoreElsifs, HandlerTrees, NoHandlers, MoreHandlers}
use Rattle.types.specs.declared.entity.Subtype.{Subtype}
use Rattle.types.specs.Entities.{Put}
use Rattle.types.specs.Places.{Place}
use Rattle.types.specs.Shapes.{Shape, initial, shape_of}
use Rattle.types.specs.Values as values
use Rattle.types.specs.Evaluations.{Gives}
use Rattle.types.specs.Evaluating.{Calls, val}
use Rattle.type_rules.specs.SubtypeNames.{named_entity}
use Rattle.expr_soundness.specs.meaning.specs.Programs.{Parameter, Procedure, Program, exception_number}
use Rattle.expr_soundness.specs.meaning.specs.Calls.{Actuals, Callee, activation_of, callee_by, procedure_among, procedure_here, results}
use Rattle.step_soundness.specs.Fitting.{entry_of, taken_types}
use Rattle.step_soundness.specs.Objects.{AreOf, IsException}
use Rattle.expr_code.specs.Views.{At, View, in_frame, placed, view_of}
use Rattle.expr_code.specs.Coming.{most_steps, on}
use Rattle.expr_code.specs.Computing.{ArePassed, Computes, Everywhere}
use Rattle.expr_code.specs.Seeing.{library_of, Package, Sees}
use Rattle.part_code.specs.Resting.{Framed, Knows, NarrowsFrame, RestsWith}
use Rattle.part_code.specs.Copying.{AreCopies, ArePlaced, GivesBack, actuals_on, held_at, left_out, passed_actuals, passed_words, taken}
use Rattle.part_code.specs.declared.call.Destination.{Destination}
use Rattle.part_code.specs.Counting.{IsCounted, IsRange}
use Rattle.part_code.specs.Jumping.{Jumps}
use Rattle.part_code.specs.Handling.{GoesBy, Handling, KeepsException, unhandled}
use Rattle.part_code.specs.Storing.{Assigns, Stores, assigned, declared, object_declared}
use Rattle.expr_soundness.specs.meaning.specs.Targets.{activation_with, store_with}
use Rattle.base.specs.Arithmetic.{is_in_base_range}

-- the ways out of a statement: behind the innermost loop, and to the end of the body; and the word that holds the exception of the handler around it
pub record Ways : Type 0 where
  pub exit : Option ℕ
  pub return : Option ℕ
  pub handled : Option ℕ

abbrev pub with_exit : Option ℕ → Ways → Ways
with_exit exit w = record w { exit = exit }

abbrev pub within_loop : ℕ → Ways → Ways
within_loop exit w = with_exit (Some exit) w

abbrev pub within_handler : ℕ → Ways → Ways
within_handler word w = record w { handled = Some word }

-- ---- parameters

abbrev pub parameter_subtype : Parameter → Subtype
parameter_subtype f = f.subtype

-- the procedures that code may call: which subprogram is whose
abbrev pub Numbers : Type 0
Numbers = Procedure → Option ℕ

-- ---- how a procedure is called: within its object, or from anywhere where it has none; or through the name of its object, which opens an action (RM 9.5.1)

abbrev pub procedure_operation : (through : Option ℕ) → (number : ℕ) → Operation
procedure_operation None number = op.Call number
procedure_operation (Some o) number = op.ProtectedCall number

-- the kind of the subprogram of a procedure, or of the body of an entry, which alone has a barrier
abbrev pub operation_kind : (object : ℕ) → (barrier : Option ExprTree) → Kind
operation_kind o None = ProtectedProcedure o
operation_kind o (Some barrier) = EntryBody o

abbrev pub procedure_kind : (object : Option ℕ) → (barrier : Option ExprTree) → Kind
procedure_kind None barrier = Plain
procedure_kind (Some o) barrier = operation_kind o barrier

-- wherever the frame stands the value is a number of 64 bits
abbrev pub IsTimely : Package → Framed → ExprTree → Type 0
IsTimely g v e = (p : Place) (view : View) (z : ℤ) → Knows g v p view → val p e ≡ Gives (values.Number z) → is_in_base_range z ≡ true

module _ (i : Sections) (program : Program) (g : Package) (numbers : Numbers) where
  -- the shapes of the parameters that are copied in
  abbrev pub shapes_of : Procedure → List Shape
  shapes_of q = map (shape_of g.scope) (map parameter_subtype (taken q.parameters))

  abbrev pub IsValue : Framed → (from to : ℕ) → ExprTree → Type 0
  IsValue v from to e = Computes i (library_of g) (Sees g v.names) from to e

  -- ---- statements without others within

  -- the value of a line and the instruction that writes it
  abbrev pub IsPutCode : Framed → (from to : ℕ) → SelectorTrees → Type 0
  IsPutCode v from to (MoreSelectors (Arguments (MoreArguments (Text label at) (MoreArguments (Value e) NoArguments))) NoSelectors) =
      (mid : ℕ) × (number : ℕ) × (from ≤ mid) × IsValue v from mid e × At i mid (op.PutLine number) × (text_at i.labels number ≡ label) × (to ≡ suc mid)
  IsPutCode v from to s = ⊥

  -- the actual parameters, an instruction that calls, and what is copied back
  pub record IsInvoked (v : Framed) (from to : ℕ) (c : Callee) (call : Operation) : Type 0 where
    pub mid : ℕ
    pub up : from ≤ mid
    pub over : suc mid ≤ to
    pub computes : Everywhere i (library_of g) (Sees g v.names) from mid (actuals_on v.names c.procedure.parameters)
        (λ calls p. passed_actuals calls p c.procedure.parameters c.arguments)
    pub calls : At i mid call
    pub destinations : List Destination
    pub many : length destinations ≡ length (results c.procedure.parameters)
    pub copies : AreCopies i program g v (suc mid) to destinations
    -- what is passed has the shapes, and is of the types, of the parameters; and the targets are placed where it is copied back to
    pub passes : (calls : Calls) (p : Place) (view : View) (a : Actuals) → (library_of g).sound calls → Knows g v p view
        → passed_actuals calls p c.procedure.parameters c.arguments ≡ Gives a
        → ArePassed (shapes_of c.procedure) a.values × AreOf program.scope (taken_types c.procedure.parameters) a.values
        × ArePlaced v destinations a.targets

  -- the call of a procedure, through an object or not
  pub record IsCall (v : Framed) (from to : ℕ) (c : Callee) : Type 0 where
    pub number : ℕ
    pub numbered : numbers c.procedure ≡ Some number
    pub plain : c.procedure.barrier ≡ None
    pub invoked : IsInvoked v from to c (procedure_operation c.through number)

  -- what is called is the entry of this object (RM 9.5.2)
  pub record IsEntryOf (c : Callee) (object : ℕ) : Type 0 where
    pub barrier : ExprTree
    pub condition : c.procedure.barrier ≡ Some barrier
    pub owner : c.procedure.object ≡ Some object
    pub only : entry_of program.procedures object ≡ Some c.procedure

  -- the call of an entry through its object: a test that no action is open, in front of the actual parameters (RM 9.5.1, 9.5.3)
  pub record IsEntryCall (v : Framed) (from to : ℕ) (c : Callee) : Type 0 where
    pub object : ℕ
    pub through : c.through ≡ Some object
    pub entry : IsEntryOf c object
    pub test : At i from op.CheckBlocking
    pub invoked : IsInvoked v (suc from) to c (op.EntryCall object)

  -- the call of an entry in a body of its own object, within an action of it: the test alone, which raises there
  pub record IsOwnEntryCall (from to : ℕ) (c : Callee) : Type 0 where
    pub object : ℕ
    pub inside : c.through ≡ None
    pub entry : IsEntryOf c object
    pub test : At i from op.CheckBlocking
    pub end : to ≡ suc from

  pub data IsCallCode (v : Framed) (from to : ℕ) (c : Callee) : Type 0 where
    OfProcedure : IsCall v from to c → IsCallCode v from to c
    OfEntry : IsEntryCall v from to c → IsCallCode v from to c
    OfOwnEntry : IsOwnEntryCall from to c → IsCallCode v from to c

  -- a statement of main, which calls a procedure of the package without parameters (RM 10.2)
  abbrev pub IsMainStatementCode : (from to : ℕ) → MainStatement → Type 0
  IsMainStatementCode from to (main.Null place) = from ≡ to
  IsMainStatementCode from to (main.Call package_ procedure) =
      (q : Procedure) × (number : ℕ) × (procedure_here program None procedure.name ≡ Some q) × (numbers q ≡ Some number) × (q.parameters ≡ []) × At i from
      (op.Call number) × (to ≡ suc from)

  abbrev pub IsCalleeCode : Framed → (from to : ℕ) → NameTree → Option Callee → Type 0
  IsCalleeCode v from to name (Some c) = IsCallCode v from to c
  IsCalleeCode v from to name None = (named_entity program.scope name.first ≡ Some Put) × IsPutCode v from to name.selectors

  abbrev pub IsAssigned : Framed → (from to : ℕ) → NameTree → ExprTree → Type 0
  IsAssigned v from to name e = Assigns i program g v v from to (assigned name e) (λ x m. store_with x.target x.value m)
      (λ x a. activation_with x.target x.value a)

  -- a jump to one of the ways out
  abbrev pub IsJump : Option ℕ → (from to : ℕ) → Type 0
  IsJump way from to = (place : ℕ) × (way ≡ Some place) × At i from (op.Jump place) × (to ≡ suc from)

  abbrev pub IsConditionalExit : Framed → Option ℕ → (from to : ℕ) → ExprTree → Type 0
  IsConditionalExit v way from to e = (place : ℕ) × (mid : ℕ) × (way ≡ Some place) × (from ≤ mid) × IsValue v from mid e × At i mid (op.JumpIfNotZero place)
      × (to ≡ suc mid)

  -- the exception is put on the operand stack, and raised (RM 11.3): one that is named, or that of the handler around
  abbrev pub IsRaised : Ways → (from to : ℕ) → Option Identifier → Type 0
  IsRaised w from to (Some name) =
      (x : ℕ) × (exception_number program name.name ≡ Some x) × At i from (op.Push (pos x)) × At i (suc from) op.Raise × (to ≡ suc (suc from))
  IsRaised w from to None = (word : ℕ) × (w.handled ≡ Some word) × At i from (op.LoadLocal word) × At i (suc from) op.Raise × (to ≡ suc (suc from))

  -- a test that no action is open, in front of the time, and the delay (RM 9.5.1, 9.6)
  abbrev pub IsDelay : Framed → (from to : ℕ) → ExprTree → Type 0
  IsDelay v from to e =
      (mid : ℕ) × (suc from ≤ mid) × At i from op.CheckBlocking × IsValue v (suc from) mid e × At i mid op.DelayUntil × (to ≡ suc mid) × IsTimely g v e

  -- ---- declarations

  abbrev pub IsDeclared : (v : Framed) → (from to : ℕ) → (later : Framed) → DeclarationTree → Type 0
  IsDeclared v from to later (LocalObject d) =
      Stores i program g v later from to (declared program.scope d) (λ x m. m) (λ x a. record a { locals = object_declared program.scope d x ∷ a.locals })
  IsDeclared v from to later d = ⊥

  abbrev pub AreDeclared : (v : Framed) → (from to : ℕ) → (later : Framed) → List DeclarationTree → Type 0
  AreDeclared v from to later [] = (from ≡ to) × (later ≡ v)
  AreDeclared v from to later (d ∷ ds) =
      (mid : ℕ) × (next : Framed) × (from ≤ mid) × (mid ≤ to) × IsDeclared v from mid next d × NarrowsFrame g next v × AreDeclared next mid to later ds

  -- an `out` parameter, which begins as an object without initial value (RM 6.4.1)
  abbrev pub IsParameterDeclared : (v : Framed) → (from to : ℕ) → (later : Framed) → Parameter → Type 0
  IsParameterDeclared v from to later f =
      Stores i program g v later from to (λ calls p. Gives (initial program.scope f.subtype)) (λ x m. m)
      (λ x a. record a { locals = record { name = f.name; subtype = f.subtype; value = x } ∷ a.locals })

  abbrev pub AreParametersDeclared : (v : Framed) → (from to : ℕ) → (later : Framed) → List Parameter → Type 0
  AreParametersDeclared v from to later [] = (from ≡ to) × (later ≡ v)
  AreParametersDeclared v from to later (f ∷ fs) =
      (mid : ℕ) × (next : Framed) × (from ≤ mid) × (mid ≤ to) × IsParameterDeclared v from mid next f × NarrowsFrame g next v
      × AreParametersDeclared next mid to later fs

  -- ---- statements by their parts

  -- a condition, a jump behind the statements for it where it does not hold, and behind them jumps to the end, however many
  abbrev pub IsBranch : Framed → Handling → (from to : ℕ) → ExprTree → (holds fails : ℕ → ℕ → Type 0) → Type 0
  IsBranch v r from to e holds fails =
      (mid : ℕ) × (joint : ℕ) × (next : ℕ) × (from ≤ mid) × (suc mid ≤ joint) × (joint ≤ next) × (next ≤ to) × IsValue v from mid e
      × At i mid (op.JumpIfZero next)
      × holds (suc mid) joint
      × Jumps i joint to
      × fails next to
      × GoesBy i r from mid

  -- Jumps to the statements of a turn, these, a jump back to them, and from the way out jumps to the end, however many.
  abbrev pub IsForever : (from to : ℕ) → (turn : (exit from to : ℕ) → Type 0) → Type 0
  IsForever from to turn =
      (start : ℕ) × (out : ℕ) × (back : ℕ) × (from ≤ start) × (start ≤ back) × (from ≤ out) × (out ≤ to) × Jumps i from start × Jumps i out to
      × turn out start back
      × At i back (op.Jump start)
      × (to ≡ suc back)

  -- Jumps to the condition, this, a jump to the end where it does not hold, the statements of a turn, a jump back to the condition, and from the way out
  -- jumps to the end.
  abbrev pub IsWhile : Framed → Handling → (from to : ℕ) → ExprTree → (turn : (exit from to : ℕ) → Type 0) → Type 0
  IsWhile v r from to e turn =
      (start : ℕ) × (out : ℕ) × (mid : ℕ) × (back : ℕ) × (from ≤ start) × (start ≤ mid) × (suc mid ≤ back) × (from ≤ out) × (out ≤ to) × Jumps i from start
      × Jumps i out to
      × IsValue v start mid e
      × At i mid (op.JumpIfZero to)
      × turn out (suc mid) back
      × At i back (op.Jump start)
      × (to ≡ suc back)
      × GoesBy i r start mid

  -- declarations, and statements that see them
  abbrev pub IsBlock : Framed → Handling → (from to : ℕ) → List DeclarationTree → (body : Framed → ℕ → ℕ → Type 0) → Type 0
  IsBlock v r from to ds body =
      (mid : ℕ) × (later : Framed) × (from ≤ mid) × (mid ≤ to) × AreDeclared v from mid later ds × body later mid to × GoesBy i r from mid

  -- statements whose exceptions go on elsewhere than around them, a jump over their handlers, and these
  abbrev pub IsCovered : (from to : ℕ) → (covered handling : Handling → ℕ → ℕ → Type 0) → Type 0
  IsCovered from to covered handling =
      (mid : ℕ) × (inner : Handling) × (from ≤ mid) × (suc mid ≤ to) × covered inner from mid × At i mid (op.Jump to) × handling inner (suc mid) to

  -- A handler: an exception for which it has a choice goes on at its first place, each other one as the next handlers answer. It keeps the exception, its
  -- statements follow, and a jump to the end.
  pub record IsHandler (v : Framed) (w : Ways) (inner next : Handling) (from mid to : ℕ) (choices : List ExceptionChoice)
      (body : Framed → Ways → (from to : ℕ) → Type 0) : Type 0 where
    pub goes : (x : ℕ) → IsException program x → inner x ≡ (if some_covers program x choices then Some from else next x)
    pub later : Framed
    pub word : ℕ
    pub keeps : KeepsException i g v later word from
    pub up : suc from ≤ mid
    pub over : suc mid ≤ to
    pub statements : body later (within_handler word w) (suc from) mid
    pub jump : At i mid (op.Jump to)

  -- by whether there are handlers
  abbrev pub IfHandled : HandlerTrees → (none some : Type 0) → Type 0
  IfHandled NoHandlers none some = none
  IfHandled (MoreHandlers choices body rest) none some = some

  -- The words of the expression's value stand on the operand stack, and are compared with choices: where one of them chooses it, the frame goes on at `start`
  -- with an empty operand stack, and else at `next` as it is.
  pub record IsChoice (v : Framed) (e : ExprTree) (from start next : ℕ) (choices : ChoicesTree) : Type 0 where
    pub tests : (schedule : List ScheduleLine) (k : Kernel) (t : ℕ) (m : Words) (f : Frame) (fs : List Frame) (p : Place) (x : values.Value)
        → Calm k t
        → Sees g v.names p (view_of i schedule k t m f fs)
        → val p e ≡ Gives x
        → Spends (behaviour i schedule) t frames_of (most_steps i) (suc (length fs)) (next - from) k (in_frame m (placed f from (on [] x)) fs) k
        (in_frame m (if chooses p choices x then placed f start [] else placed f next (on [] x)) fs)

  abbrev mutual
    pub IsStatement : Framed → Ways → Handling → (from to : ℕ) → StmtTree → Type 0
    IsStatement v w r from to (Null place) = from ≡ to
    IsStatement v w r from to (Assignment name e) = IsAssigned v from to name e × GoesBy i r from to
    IsStatement v w r from to (Call name) = IsCalleeCode v from to name (callee_by program v.within name.first name.selectors) × GoesBy i r from to
    IsStatement v w r from to (Exit place None) = IsJump w.exit from to
    IsStatement v w r from to (Exit place (Some e)) = IsConditionalExit v w.exit from to e × GoesBy i r from to
    IsStatement v w r from to (Return place None) = IsJump w.return from to
    IsStatement v w r from to (Raise place name) = IsRaised w from to name × GoesBy i r from to
    IsStatement v w r from to (DelayUntil place e) = IsDelay v from to e × GoesBy i r from to
    IsStatement v w r from to (If place e body elsifs others) =
        IsBranch v r from to e (λ a b. AreStatements v w r a b body) (λ a b. IsOtherwise v w r a b elsifs (λ x y. AreStatements v w r x y others))
    IsStatement v w r from to (Case place e all) =
        (mid : ℕ) × (from ≤ mid) × (mid ≤ to) × IsValue v from mid e × AreAlternatives v w r mid to e all × GoesBy i r from mid
    IsStatement v w r from to (Loop place Forever body) = IsForever from to (λ exit a b. AreStatements v (within_loop exit w) r a b body)
    IsStatement v w r from to (Loop place (While e) body) = IsWhile v r from to e (λ exit a b. AreStatements v (within_loop exit w) r a b body)
    IsStatement v w r from to (Loop place (For parameter reversed range) body) =
        (start : ℕ) × (out : ℕ) × (from ≤ start) × (from ≤ out) × (out ≤ to) × Jumps i from start × Jumps i out to
        × (c : IsCounted i g v start to parameter.name reversed)
        × IsRange i g v c.inner c.counter c.limit start c.start to parameter.name reversed range c.subtype
        × AreStatements c.inner (within_loop out w) r c.start c.back body
        × GoesBy i r start c.start
        × GoesBy i r c.back to
    IsStatement v w r from to (Block place ds body hs) =
        IsBlock v r from to ds
        (λ later a b. IfHandled hs (AreStatements later w r a b body)
        (IsCovered a b (λ inner x y. AreStatements later w inner x y body) (λ inner x y. AreHandlers later w r inner x y hs)))
    IsStatement v w r from to s = ⊥

    pub AreStatements : Framed → Ways → Handling → (from to : ℕ) → StmtTrees → Type 0
    AreStatements v w r from to NoStmts = from ≡ to
    AreStatements v w r from to (MoreStmts s rest) = (mid : ℕ) × (from ≤ mid) × (mid ≤ to) × IsStatement v w r from mid s × AreStatements v w r mid to rest

    -- handlers, one behind another; what their statements raise goes on as around the sequence, and so does an exception without choice
    pub AreHandlers : Framed → Ways → Handling → (inner : Handling) → (from to : ℕ) → HandlerTrees → Type 0
    AreHandlers v w r inner from to NoHandlers = (x : ℕ) → IsException program x → inner x ≡ r x
    AreHandlers v w r inner from to (MoreHandlers choices body rest) =
        (next : Handling) × (mid : ℕ) × IsHandler v w inner next from mid to choices (λ later ways a b. AreStatements later ways r a b body)
        × AreHandlers v w r next (suc mid) to rest

    -- each alternative: its choices, its statements, and a jump to the end; behind the last one no value is left to be chosen
    pub AreAlternatives : Framed → Ways → Handling → (from to : ℕ) → ExprTree → AlternativeTrees → Type 0
    AreAlternatives v w r from to e NoAlternatives = ⊤
    AreAlternatives v w r from to e (MoreAlternatives at choices body rest) =
        (start : ℕ) × (joint : ℕ) × (from ≤ start) × (start ≤ joint) × (suc joint ≤ to) × IsChoice v e from start (suc joint) choices
        × AreStatements v w r start joint body
        × At i joint (op.Jump to)
        × AreAlternatives v w r (suc joint) to e rest

    -- the parts of an `if` behind its first statements
    pub IsOtherwise : Framed → Ways → Handling → (from to : ℕ) → ElsifTrees → (last : ℕ → ℕ → Type 0) → Type 0
    IsOtherwise v w r from to NoElsifs last = last from to
    IsOtherwise v w r from to (MoreElsifs e body rest) last =
        IsBranch v r from to e (λ a b. AreStatements v w r a b body) (λ a b. IsOtherwise v w r a b rest last)

  -- statements with their handlers, which cover nothing else (RM 11.2)
  abbrev pub IsSequence : Framed → Ways → Handling → (from to : ℕ) → StmtTrees → HandlerTrees → Type 0
  IsSequence v w r from to body hs =
      IfHandled hs (AreStatements v w r from to body)
      (IsCovered from to (λ inner x y. AreStatements v w inner x y body) (λ inner x y. AreHandlers v w r inner x y hs))

  -- ---- bodies

  -- Declarations, jumps to statements that see them, and the way out of these, to which a return leads, and from there jumps to the end. Their handlers cover
  -- the statements alone; what the declarations raise goes on at the call.
  pub record IsRun (v : Framed) (from to : ℕ) (ds : List DeclarationTree) (body : StmtTrees) (hs : HandlerTrees) : Type 0 where
    pub later : Framed
    pub mid : ℕ
    pub start : ℕ
    pub out : ℕ
    pub up : from ≤ mid
    pub down : mid ≤ start
    pub over : start ≤ to
    pub below : mid ≤ out
    pub high : out ≤ to
    pub declared : AreDeclared v from mid later ds
    pub uncovered : GoesBy i unhandled from mid
    pub skip : Jumps i mid start
    pub way : Jumps i out to
    pub statements : IsSequence later (record { exit = None; return = Some out; handled = None }) unhandled start to body hs

  -- the code of a procedure of the package or of a protected object, or of the body of an entry: its `out` parameters, its declarations and statements, and
  -- what it gives back
  pub record IsProcedureCode (q : Procedure) (number : ℕ) : Type 0 where
    pub s : Subprogram
    pub there : called i number ≡ Some s
    pub kind : s.kind ≡ procedure_kind q.object q.barrier
    pub parameters : (args : List values.Value) (addresses : List ℕ) → ArePassed (shapes_of q) args → length addresses ≡ length (results q.parameters)
        → length (passed_words q.parameters args addresses) ≡ s.parameters
    -- what is visible in front of its `out` parameters and behind them, and in front of its declarations, where its parameters stand in the order of the text
    pub begins : Framed
    pub begun : Framed
    pub middle : Framed
    pub first : ℕ
    pub stop : ℕ
    pub down : first_place i number ≤ first
    pub ready : AreParametersDeclared begins (first_place i number) first begun (left_out q.parameters)
    pub orders : NarrowsFrame g begun middle
    pub runs : IsRun middle first stop q.body.declarations q.body.statements q.body.handlers
    pub gives : GivesBack i program g middle (results q.parameters) number stop
    pub within : suc gives.back ≤ s.end_
    -- what the frame sees when it is entered
    pub enters : (args : List values.Value) (addresses : List ℕ) (locals : List ℤ)
        → ArePassed (shapes_of q) args
        → AreOf program.scope (taken_types q.parameters) args
        → length addresses ≡ length (results q.parameters)
        → length locals ≡ s.locals - s.parameters
        → RestsWith g begins (held_at begins.reserved addresses) (activation_of q args) (passed_words q.parameters args addresses ++ locals)

  -- those that calls find by their names, in the package or in a protected object
  abbrev pub HasProcedures : Type 0
  HasProcedures =
      (owner : Option ℕ) (name : List ℕ) (q : Procedure) (number : ℕ) → procedure_among program.procedures owner name ≡ Some q → numbers q ≡ Some number
      → IsProcedureCode q number
