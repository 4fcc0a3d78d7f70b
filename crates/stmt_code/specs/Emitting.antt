-- What methods that add the code of statements promise.
use Rattle.std.specs.List.{All}
use Rattle.std.specs.Prelude.{◌≡◌, ◌≢◌, ℕ, ◌+◌, ◌≤◌, ◌<◌, Bool, true, List, [], ◌∷◌, ◌++◌, length, Option, Some, None, is_some, slice_get, ⊤}
use Rattle.ada_tree.specs.StatementTree.{DeclarationTree, ElsifTrees, HandlerTrees, LocalObject, StmtTree, StmtTrees}
use Rattle.handlers.specs.Nesting.{all_nested}
use Rattle.handlers.specs.declared.rows.Row.{Row}
use Rattle.image.specs.Sections.{Sections}
use Rattle.image.specs.Rules.{has_depth}
use Rattle.image.specs.declared.instruction.Operation.{Operation}
use Rattle.image.specs.declared.subprograms.Subprogram.{Subprogram}
use Rattle.types.specs.Entities.{Entity, Profile, ProtectedObject, Protected}
use Rattle.types.specs.Places.{Place, is_among}
use Rattle.types.specs.Scopes.{Scope}
use Rattle.declaration_rules.specs.LocalRules.{locals_faults, locals_scope}
use Rattle.part_code.specs.step_soundness.specs.body_restrictions.specs.BodyRules as restrictions
use Rattle.part_code.specs.stmt_rules.specs.declared.around.Around.{Around}
use Rattle.part_code.specs.stmt_rules.specs.declared.around.BodyKind.{BodyKind}
use Rattle.part_code.specs.stmt_rules.specs.declared.around.BodyKind.TheVariants as kinds
use Rattle.part_code.specs.stmt_rules.specs.StatementRules.{elsifs_faults, in_body, more_handlers_faults, stmt_faults, stmts_faults}
use Rattle.expr_soundness.specs.Agreeing.{Agrees}
use Rattle.expr_soundness.specs.meaning.specs.Calls.{procedure_here, procedure_among}
use Rattle.expr_soundness.specs.meaning.specs.Programs.{Procedure, Program}
use Rattle.part_code.specs.step_soundness.specs.Fitting.{IsFound, entity_named}
use Rattle.expr_code.specs.Code.{Extends, Holds, StandsFrom, here}
use Rattle.expr_code.specs.Flows.{AreKeptBetween}
use Rattle.expr_code.specs.Seeing.{Package, subprogram_of, NamesProfile, external_of}
use Rattle.expr_code.specs.declared.code.Code.{Code}
use Rattle.expr_code.specs.declared.visible.Visible.{Visible}
use Rattle.part_code.specs.EntryNames.{entry_behind}
use Rattle.part_code.specs.Bounds.{run_bound}
use Rattle.part_code.specs.Layout.{EndsBelow, IsLaidOut}
use Rattle.part_code.specs.Suiting.{SuitsStatements}
use Rattle.part_code.specs.Resting.{Framed}
use Rattle.part_code.specs.Handling.{GoesByRows, Handling, unhandled}
use Rattle.part_code.specs.Raising.{AreNamed}
use Rattle.part_code.specs.Rows.{LiesWithin}
use Rattle.part_code.specs.Statements.{IsDeclared, IsRun, IsStatement, Numbers, Ways}
use Rattle.stmt_code.specs.declared.draft.Draft.{Draft}
use Rattle.stmt_code.specs.declared.tables.PlaceRow.{PlaceRow}
use Rattle.stmt_code.specs.Leaves.{any_leave, elsifs_leave, handlers_leave, leaves}
use Rattle.stmt_code.specs.declared.leaves.WayOut.{WayOut}
use Rattle.stmt_code.specs.declared.leaves.WayOut.TheVariants as way
use Rattle.stmt_code.specs.Placing.{AreInnermostFirst, Construct, OfDeclaration, OfStatement, StandsBetween, body_within, construct_place}
use Rattle.part_code.specs.Emitting.{IsReachable}

-- ---- what is asked

-- no rule is broken in a statement, wherever it stands
pub record IsLegalStatement (s : Scope) (x : StmtTree) : Type 0 where
  pub around : Around
  pub unbroken : stmt_faults s around x ≡ []

-- What is known of the ways out, where a statement stands in the body of no function: that of the loop around it, if one is, and that of the body are there if
-- it takes them; and the word with the exception of the handler around it is, if one is.
pub record HasWays (w : Ways) (a : Around) (taken : WayOut → Bool) : Type 0 where
  pub exit : a.in_loop ≡ true → taken way.Exit ≡ true → is_some w.exit ≡ true
  pub return : taken way.Return ≡ true → is_some w.return ≡ true
  pub handled : a.in_handler ≡ true → is_some w.handled ≡ true
  pub gives_nothing : (t : Option ℕ) → a.kind ≢ kinds.Function t

-- no rule and no restriction is broken in a statement that has these ways out; in statements, and in parts of an `if`
pub record IsAcceptedStatement (s : Scope) (w : Ways) (x : StmtTree) : Type 0 where
  pub around : Around
  pub ways : HasWays w around (leaves x)
  pub unbroken : stmt_faults s around x ≡ []
  pub restricted : restrictions.stmt_faults x ≡ []

pub record AreAcceptedStatements (s : Scope) (w : Ways) (body : StmtTrees) : Type 0 where
  pub around : Around
  pub ways : HasWays w around (any_leave body)
  pub unbroken : stmts_faults s around body ≡ []
  pub restricted : restrictions.stmts_faults body ≡ []

pub record AreAcceptedElsifs (s : Scope) (w : Ways) (all : ElsifTrees) : Type 0 where
  pub around : Around
  pub ways : HasWays w around (elsifs_leave all)
  pub unbroken : elsifs_faults s around all ≡ []
  pub restricted : restrictions.elsifs_faults all ≡ []

-- no rule is broken in handlers that come after others, which name some exceptions
pub record AreAcceptedHandlers (s : Scope) (w : Ways) (all : HandlerTrees) : Type 0 where
  pub around : Around
  pub ways : HasWays w around (handlers_leave all)
  pub before : List (List ℕ)
  pub unbroken : more_handlers_faults s around before all ≡ []
  pub restricted : restrictions.handlers_faults all ≡ []

-- ---- what is known where the code stands

-- the image has these labels at their numbers
pub record HasLabels (i : Sections) (texts : List (List ℕ)) : Type 0 where
  pub labels : StandsFrom 0 texts i.labels

-- The program in whose body the statements stand: what is visible names what the program has, and means the same at some place of it; each procedure that is
-- called has the number that is told; and what is visible is laid out in the words of the frame that are taken, and those that statements leave alone are among
-- these.
pub record Serves (program : Program) (g : Package) (numbers : Numbers) (v : Framed) (taken : ℕ) : Type 0 where
  pub finds : (name : List ℕ) (e : Entity) → entity_named v.names.scope name ≡ Some e → IsFound program v.within name e
  -- of a name that is visible there as a procedure's
  pub numbered : (name : List ℕ) (q : Procedure) (n : ℕ) (profile : Profile) → procedure_here program v.within name ≡ Some q
      → subprogram_of v.names name ≡ Some n
      → NamesProfile v.names.scope name profile → profile.result ≡ None
      → numbers q ≡ Some n
  -- what is told of an operation behind the name of a protected object is the number of its subprogram; of an entry nothing is told
  pub externals : (name operation : List ℕ) (n : ℕ) (o : ProtectedObject) (q : Procedure) → external_of v.names name operation ≡ Some n
      → entity_named program.scope name ≡ Some (Protected o)
      → procedure_among program.procedures (Some o.number) operation ≡ Some q
      → (numbers q ≡ Some n) × (q.barrier ≡ None)
  -- where its entry is named behind the name of a protected object, the number that is told is that of the program's object of this name
  pub entries : (name operation : List ℕ) (n : ℕ) (o : ProtectedObject) → entry_behind v.names.scope name operation ≡ Some n
      → entity_named program.scope name ≡ Some (Protected o)
      → o.number ≡ n
  pub scope : program.scope ≡ g.scope
  pub place : Place
  pub here : place.scope ≡ program.scope
  pub agrees : Agrees v.names.scope place
  pub laid : IsLaidOut g v
  pub ends : EndsBelow v taken
  pub below : (n : ℕ) → is_among v.reserved n ≡ true → n < taken

-- The ways out may be gone to, and the word that holds an exception is one of the frame.
pub record Allows (i : Sections) (s : Subprogram) (low high : ℕ) (w : Ways) : Type 0 where
  pub exit : (place : ℕ) → w.exit ≡ Some place → IsReachable i low high place
  pub return : (place : ℕ) → w.return ≡ Some place → IsReachable i low high place
  pub handled : (word : ℕ) → w.handled ≡ Some word → word < s.locals

-- ---- where the code of statements and declarations stands

-- The code between these places is that of the statement, with some ways out and wherever exceptions go on; or that of the declaration, after which other names
-- are visible.
abbrev pub IsConstruct : Sections → Program → Package → Numbers → Framed → (from to : ℕ) → Construct → Type 0
IsConstruct i program g numbers f from to (OfStatement x) = (ways : Ways) × (handling : Handling) × IsStatement i program g numbers f ways handling from to x
IsConstruct i program g numbers f from to (OfDeclaration d) = (later : Framed) × IsDeclared i program g numbers f from to later (LocalObject d)

-- The row is that of the statement or the declaration: its place, and the code between its places is that of it, where what is visible in front of it is as at
-- some place of the program.
pub record TellsPlace (i : Sections) (program : Program) (g : Package) (numbers : Numbers) (q : PlaceRow) (x : Construct) : Type 0 where
  pub place : q.place ≡ construct_place x
  pub frame : Framed
  pub taken : ℕ
  pub serves : Serves program g numbers frame taken
  pub code : IsConstruct i program g numbers frame q.first q.behind x

-- as many rows as statements and declarations, in the same order, each that of its own
abbrev pub TellPlaces : Sections → Program → Package → Numbers → List PlaceRow → List Construct → Type 0
TellPlaces i program g numbers [] [] = ⊤
TellPlaces i program g numbers (q ∷ rows) (x ∷ xs) = TellsPlace i program g numbers q x × TellPlaces i program g numbers rows xs
TellPlaces i program g numbers rows xs = ⊥

-- ---- rows that were added

-- the instruction there finds one word on the operand stack, which is the exception
pub record FindsException (c : Code) (place : ℕ) : Type 0 where
  pub operation : Operation
  pub there : slice_get c.instructions.items place ≡ Some (record { depth = 1; operation = operation })

-- Rows were added for the code that was added. Of handlers: each covers places of it, and leads to one of it that finds the exception; they are for exceptions
-- of the program; and the regions of any two are nested, equal or disjoint. Of places: each is that of code of it, inner ones first. The exceptions stay the
-- same.
pub record AddsRows (old new : Draft) : Type 0 where
  pub added : List Row
  pub appended : new.rows.items ≡ old.rows.items ++ added
  pub exceptions : new.exceptions ≡ old.exceptions
  pub within : All (LiesWithin (here old.code) (here new.code)) added
  pub nested : all_nested added ≡ true
  pub known : All (λ q. q.exception ≤ length old.exceptions.items) added
  pub ready : All (λ q. FindsException new.code q.target) added
  pub placed : List PlaceRow
  pub located : new.rows.places ≡ old.rows.places ++ placed
  pub between : All (StandsBetween (here old.code) (here new.code)) placed
  pub innermost : AreInnermostFirst placed

-- The program has these exceptions, each of which is found by its name, and what the added code raises goes on as the added rows tell, and else as around it.
pub record IsHandled (i : Sections) (program : Program) (old new : Draft) (rows : AddsRows old new) (r : Handling) : Type 0 where
  pub exceptions : program.exceptions ≡ old.exceptions.items
  pub named : AreNamed program
  pub goes : GoesByRows i rows.added r (here old.code) (here new.code)

-- ---- code that was added

-- which code this is, by the program and what is visible, and where it begins and ends
abbrev pub Meant : Type 1
Meant = Sections → Program → Package → Numbers → Framed → Handling → (from to : ℕ) → Type 0

-- The code that was added is what is meant, in every image that holds it and has the labels, whatever the rows of handlers around it answer, and in every frame
-- with as many words; it has at most so many instructions; and it keeps the rules of images wherever what is behind it and the ways out are reached with an
-- empty operand stack. The words that it takes for names of its own are given back. The rows of places that were added tell of these statements and
-- declarations.
pub record Emits (Is : Meant) (v : Visible) (w : Ways) (old : Draft) (size : ℕ) (within : List Construct) (new : Draft) : Type 0 where
  pub extends : Extends old.code new.code
  pub labels : StandsFrom 0 old.labels new.labels
  pub taken : new.words.taken ≡ old.words.taken
  pub most : old.words.most ≤ new.words.most
  pub sized : here new.code ≤ here old.code + size
  pub rows : AddsRows old new
  pub stands : (i : Sections) → Holds i (here old.code) new.code → HasLabels i new.labels
      → (program : Program) (g : Package) (numbers : Numbers) (f : Framed) → f.names ≡ v → Serves program g numbers f old.words.taken
      → new.words.most ≤ f.room
      → (handling : Handling) → IsHandled i program old new rows handling
      → Is i program g numbers f handling (here old.code) (here new.code)
  pub tells : (i : Sections) → Holds i (here old.code) new.code → HasLabels i new.labels
      → (program : Program) (g : Package) (numbers : Numbers) (f : Framed) → f.names ≡ v → Serves program g numbers f old.words.taken
      → new.words.most ≤ f.room
      → (handling : Handling) → IsHandled i program old new rows handling
      → TellPlaces i program g numbers rows.placed within
  pub flows : (i : Sections) (s : Subprogram) (low high : ℕ) → low ≤ here old.code → here new.code ≤ high
      → Holds i (here old.code) new.code → HasLabels i new.labels → SuitsStatements v i s → new.code.deepest ≤ s.stack → new.words.most ≤ s.locals
      → has_depth i (here new.code) 0 ≡ true → Allows i s low high w
      → AreKeptBetween i s low high (here old.code) (here new.code) 0

-- ---- declarations

-- the same frame, where other names are visible
abbrev pub seeing : Framed → Visible → Framed
seeing f later = record f { names = later }

-- ---- bodies

-- no rule and no restriction is broken in the declarations, the statements and the handlers of a body, which is that of no function
pub record IsAcceptedRun (s : Scope) (ds : List DeclarationTree) (body : StmtTrees) (all : HandlerTrees) : Type 0 where
  pub kind : BodyKind
  pub gives_nothing : (t : Option ℕ) → kind ≢ kinds.Function t
  pub declared : locals_faults s ds ≡ []
  pub statements : stmts_faults (locals_scope s ds) (in_body kind) body ≡ []
  pub handled : more_handlers_faults (locals_scope s ds) (in_body kind) [] all ≡ []
  pub restricted : (restrictions.locals_faults ds ++ restrictions.stmts_faults body) ++ restrictions.handlers_faults all ≡ []

abbrev pub no_ways : Ways
no_ways = record { exit = None; return = None; handled = None }

-- the code of all was added, with a way out of the body in front of the statements if these return, where nothing is handled around
abbrev pub EmitsRun : Visible → Draft → List DeclarationTree → StmtTrees → HandlerTrees → Draft → Type 0
EmitsRun v old ds body all new =
    Emits (λ i program g numbers f handling from to. handling ≡ unhandled → IsRun i program g numbers f from to ds body all) v no_ways old
    (run_bound v.scope ds body all) (body_within ds body all) new
