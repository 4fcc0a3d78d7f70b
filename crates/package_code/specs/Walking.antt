-- What a walk over the declarations and bodies of a package adds: the code of each body, one behind another, each a subprogram, and the rows of its handlers.
use Rattle.std.specs.Prelude.{◌≡◌, ◌+◌, ◌<◌, ◌≤◌, ◌⊎◌, ℕ, zero, suc, Bool, false, List, [], ◌∷◌, ◌++◌, is_none, is_some, length, map, Option, Some, None, slice_get, take}
use Rattle.std.specs.List.{All}
use Rattle.ada_tree.specs.declared.expression.Identifier.{Identifier}
use Rattle.ada_tree.specs.ExpressionTree.{ExprTree}
use Rattle.ada_tree.specs.StatementTree.{MoreStmts, NoStmts, StmtTrees, SubprogramTree}
use Rattle.ada_tree.specs.ProgramTree.{BodyItemTree, BodyTree, EntryBody, OperationBody, ProgramTree, ProtectedBody, ProtectedItemTree}
use Rattle.image_laws.specs.handlers.specs.declared.rows.Row.{Row}
use Rattle.image.specs.Sections.{end_of}
use Rattle.image.specs.declared.subprograms.Kind.{Kind}
use Rattle.image.specs.declared.subprograms.Subprogram.{Subprogram}
use Rattle.types.specs.declared.entity.RecordComponent.{RecordComponent}
use Rattle.types.specs.declared.entity.Subtype.{Subtype}
use Rattle.types.specs.Layouts.{total}
use Rattle.types.specs.Scopes.{Scope}
use Rattle.type_rules.specs.ProfileRules.{subprogram_scope}
use Rattle.declaration_rules.specs.BodyNames.{components_scope}
use Rattle.unit_rules.specs.ProtectedBodyRules.{protected_items_scope}
use Rattle.expr_soundness.specs.meaning.specs.Programs.{program_of, returned, subtype_named}
use Rattle.program_soundness.specs.Fronts.{declared_in, front, start_in}
use Rattle.expr_code.specs.Code.{StandsFrom, here}
use Rattle.expr_code.specs.declared.refusal.Refusal.{Refusal}
use Rattle.expr_code.specs.declared.visible.Visible.{Visible}
use Rattle.step_simulation.specs.part_code.specs.Bounds.{procedure_bound}
use Rattle.stmt_code.specs.Emitting.{AddsRows}
use Rattle.step_simulation.specs.part_code.specs.Needs.{HasManyLabels, IsNeeding}
use Rattle.step_simulation.specs.part_code.specs.Rows.{LiesWithin}
use Rattle.stmt_code.specs.Subprograms.{AddsFunction, AddsProcedure, IsCalledFunction, IsCalledProcedure, KeepsRules}
use Rattle.stmt_code.specs.Placing.{stmt_place}
use Rattle.stmt_code.specs.declared.draft.Draft.{Draft}
use Rattle.stmt_code.specs.declared.subprogram.SubprogramWords.{SubprogramWords}
use Rattle.stmt_code.specs.declared.tables.PlaceRow.{PlaceRow}
use Rattle.package_code.specs.Bodies.{Coded, bodies_before, bodies_of, coded_at, of_operation, operations_of, own_body, own_head}
use Rattle.package_code.specs.Counts.{bound_of, bounds_from}
use Rattle.package_code.specs.Directory.{AreTold, IsUnseen, number_told, seen_inside}
use Rattle.package_code.specs.Owners.{component_names}
use Rattle.package_code.specs.Refusing.{coded_labels, coded_rows, items_labels, items_rows, seen_at, seen_with, subprogram_labels, subprogram_needs, subprogram_rows}
use Rattle.package_code.specs.declared.directory.Directory.{Directory}
use Rattle.package_code.specs.declared.walk.Walk.{Walk}

-- these stand one behind another in the whole, from a place on
abbrev pub StandFrom : (whole : List BodyItemTree) (from : ℕ) (part : List BodyItemTree) → Type 0
StandFrom whole from part = (n : ℕ) (item : BodyItemTree) → slice_get part n ≡ Some item → slice_get whole (from + n) ≡ Some item

-- ---- one body

-- the place of the first of these statements
abbrev pub first_statement_place : StmtTrees → ℕ
first_statement_place NoStmts = 0
first_statement_place (MoreStmts x rest) = stmt_place x

-- the code of a function was added, which returns the value of one expression, and a row for all of it with the place of the return
pub record AddsValueFunction (t : ProgramTree) (d : SubprogramTree) (b : BodyTree) (r : Identifier) (v : Visible) (old : Draft) (words : SubprogramWords)
    (new : Draft)
    : Type 0 where
  pub value : ExprTree
  pub returns : returned b.statements ≡ Some value
  pub result : Subtype
  pub named : result ≡ subtype_named (program_of t).scope r
  pub mid : Draft
  pub adds : AddsFunction v old d.formals result value words mid
  pub marked : new ≡ record mid {
    rows = record mid.rows {
      places = mid.rows.places ++ (record
          { first = here old.code; behind = here mid.code; place = first_statement_place b.statements }) ∷ [];
    };
  }

-- the code of the procedure, or of the function, was added
abbrev pub AddsSubprogram : ProgramTree → SubprogramTree → BodyTree → Visible → (old : Draft) → SubprogramWords → (new : Draft) → Type 0
AddsSubprogram t d b v old words new =
    elim d.result [ None ↦ AddsProcedure v old d.formals b words new | Some r ↦ AddsValueFunction t d b r v old words new ]

-- The code of a body was added with the labels of its lines, and with as many rows as its handlers have choices.
pub record AddsAsTold (old : Draft) (d : SubprogramTree) (b : BodyTree) (new : Draft) : Type 0 where
  pub labels : new.labels ≡ subprogram_labels old.labels d b
  pub rows : length new.rows.items ≡ subprogram_rows (length old.rows.items) d b

-- the words that are passed to its code and come back are those of its calls
abbrev pub IsCalledSubprogram : ProgramTree → SubprogramTree → Scope → SubprogramWords → Type 0
IsCalledSubprogram t d s words =
    elim d.result [ None ↦ IsCalledProcedure s d.formals words | Some r ↦ IsCalledFunction s d.formals (subtype_named (program_of t).scope r) words ]

-- the subprogram of this kind with these words that ends there
abbrev pub row_of : Kind → SubprogramWords → (end : ℕ) → Subprogram
row_of kind words end = record {
  kind = kind;
  end_ = end;
  parameters = words.passed;
  results = words.results;
  locals = words.locals;
  stack = words.stack;
}

-- The body was added, and is the next subprogram; its code keeps the rules of images. Its number is the one that the directory tells of its name.
pub record AddsBody (t : ProgramTree) (directory : Directory) (c : Coded) (old new : Walk) : Type 0 where
  pub words : SubprogramWords
  pub adds : AddsSubprogram t c.head c.body old.visible old.draft words new.draft
  pub called : IsCalledSubprogram t c.head old.visible.scope words
  pub keeps : KeepsRules (is_none c.head.result) old.visible old.draft words new.draft
  pub told : AddsAsTold old.draft c.head c.body new.draft
  pub numbered : number_told (program_of t).scope directory c.owner c.head.name.name ≡ Some (length old.subprograms.items)
  pub row : new.subprograms.items ≡ old.subprograms.items ++ row_of c.kind words (here new.draft.code) ∷ []
  pub visible : new.visible ≡ old.visible
  pub place : new.place ≡ old.place

-- why the code of a body isn't made, where the names in front of its parameters are visible
abbrev pub RefusesBody : Visible → (old : Draft) → SubprogramTree → BodyTree → Refusal → Type 0
RefusesBody v old d b why =
    IsNeeding (here old.code + procedure_bound v.scope d.formals b) (subprogram_needs v d b) why
    ⊎ HasManyLabels (subprogram_labels old.labels d b) why

-- ---- the body of an operation of a protected object

-- what is visible where these components have become so, in a function as constants
abbrev pub with_components : (whole : Scope) → Directory → (o : ℕ) → (is_function : Bool) → List RecordComponent → Visible → Visible
with_components whole directory o is_function components v =
    seen_inside whole directory o (record v { scope = components_scope v.scope is_function components }) (component_names components)

-- what is visible with the name of an operation
abbrev pub with_own_name : (whole : Scope) → Directory → (o : ℕ) → SubprogramTree → Visible → Visible
with_own_name whole directory o d v = seen_inside whole directory o (record v { scope = subprogram_scope v.scope d }) (d.name.name ∷ [])

-- in front of the parameters of an operation, where these names are visible in front of its body; an entry's own name is visible by its declaration alone
abbrev pub operation_visible : (whole : Scope) → Directory → (o : ℕ) → List RecordComponent → ProtectedItemTree → Visible → Visible
operation_visible whole directory o components (OperationBody d b) v =
    with_own_name whole directory o d (with_components whole directory o (is_some d.result) components v)
operation_visible whole directory o components (EntryBody d barrier b) v = with_components whole directory o false components v

-- what is visible after the body of an operation
abbrev pub behind_operation : (whole : Scope) → Directory → (o : ℕ) → ProtectedItemTree → Visible → Visible
behind_operation whole directory o (OperationBody d b) v = with_own_name whole directory o d v
behind_operation whole directory o (EntryBody d barrier b) v = v

-- the first names
abbrev pub first_visible : (many : ℕ) → Visible → Visible
first_visible many v = record v { scope = take many v.scope; slots = take many v.slots; subprograms = take many v.subprograms }

-- The body of an operation or entry of this object was added. Behind it the names are visible that were so in front of it, and that of an operation.
pub record AddsOperation (t : ProgramTree) (directory : Directory) (o : ℕ) (components : List RecordComponent) (i : ProtectedItemTree) (old new : Walk)
    : Type 0 where
  pub after : Walk
  pub adds : AddsBody t directory (of_operation o old.visible.scope components i)
      (record old { visible = operation_visible (program_of t).scope directory o components i old.visible }) after
  pub told : AddsAsTold old.draft (own_head i) (own_body i) after.draft
  pub visible : new.visible
      ≡ behind_operation (program_of t).scope directory o i
      (first_visible (length old.visible.scope) (operation_visible (program_of t).scope directory o components i old.visible))
  pub draft : new.draft ≡ after.draft
  pub subprograms : new.subprograms ≡ after.subprograms
  pub place : new.place ≡ old.place

-- ---- all of them

-- where the subprogram of this number begins
abbrev pub begins_at : List Subprogram → ℕ → ℕ
begins_at all zero = 0
begins_at all (suc n) = end_of (slice_get all n)

-- what one draft has, the other has too; its other rows of handlers are those of code behind, and other places stand behind its own
pub record IsDraftKept (old new : Draft) : Type 0 where
  pub instructions : StandsFrom 0 old.code.instructions.items new.code.instructions.items
  pub longer : here old.code ≤ here new.code
  pub labels : StandsFrom 0 old.labels new.labels
  pub exceptions : new.exceptions ≡ old.exceptions
  pub later : List Row
  pub rows : new.rows.items ≡ old.rows.items ++ later
  pub behind : All (λ q. here old.code ≤ q.start) later
  pub placed : List PlaceRow
  pub places : new.rows.places ≡ old.rows.places ++ placed

-- rows of handlers that lie in front of a place
abbrev pub LieInFront : (place : ℕ) → List Row → Type 0
LieInFront place rows = All (λ q. q.end_ ≤ place) rows

-- The body of this number has its code, and its subprogram; the rows in front of its own lie in front of its code.
pub record HasBody (t : ProgramTree) (directory : Directory) (number : ℕ) (c : Coded) (w : Walk) : Type 0 where
  pub seen : Visible
  pub scope : seen.scope ≡ c.front
  pub told : AreTold (program_of t).scope directory c.owner seen
  pub old : Draft
  pub new : Draft
  pub words : SubprogramWords
  pub adds : AddsSubprogram t c.head c.body seen old words new
  pub called : IsCalledSubprogram t c.head seen.scope words
  pub keeps : KeepsRules (is_none c.head.result) seen old words new
  pub rows : length new.rows.items ≡ subprogram_rows (length old.rows.items) c.head c.body
  pub before : LieInFront (here old.code) old.rows.items
  pub numbered : number_told (program_of t).scope directory c.owner c.head.name.name ≡ Some number
  pub there : slice_get w.subprograms.items number ≡ Some (row_of c.kind words (here new.code))
  pub begins : begins_at w.subprograms.items number ≡ here old.code
  pub kept : IsDraftKept new w.draft

-- The row of a place was added with the code of the body of this number.
pub record IsOfBody (t : ProgramTree) (directory : Directory) (w : Walk) (q : PlaceRow) : Type 0 where
  pub number : ℕ
  pub coded : Coded
  pub less : number < length w.subprograms.items
  pub there : slice_get (bodies_of t) number ≡ Some coded
  pub body : HasBody t directory number coded w
  pub index : ℕ
  pub among : slice_get body.keeps.rows.placed index ≡ Some q

-- ---- rows of handlers

-- the row covers places of one of these subprograms, and leads to one of it
pub record LiesInOne (all : List Subprogram) (q : Row) : Type 0 where
  pub number : ℕ
  pub there : number < length all
  pub within : LiesWithin (begins_at all number) (begins_at all (suc number)) q

-- All rows of the draft were added to one that had neither code nor rows, and each of handlers lies in one of these subprograms.
pub record HasRows (all : List Subprogram) (draft : Draft) : Type 0 where
  pub begun : Draft
  pub bare : begun.code.instructions.items ≡ []
  pub none : begun.rows.items ≡ []
  pub unplaced : begun.rows.places ≡ []
  pub rows : AddsRows begun draft
  pub inside : All (LiesInOne all) rows.added

-- ---- the walk

-- in front of all of them, where these names are visible and operations have these numbers, in a program with these exceptions
pub record BeginsWalk (s : Scope) (operations : List (List (Option ℕ))) (names : List (List ℕ)) (w : Walk) : Type 0 where
  pub visible : IsUnseen s operations w.visible
  pub place : w.place ≡ 0
  pub instructions : w.draft.code.instructions.items ≡ []
  pub labels : w.draft.labels ≡ []
  pub rows : w.draft.rows.items ≡ []
  pub places : w.draft.rows.places ≡ []
  pub exceptions : w.draft.exceptions.items ≡ names
  pub subprograms : w.subprograms.items ≡ []

-- Each body in front of the place where the walk is has its code, and no others have; what is visible there is told by the directory; the program has the
-- draft's exceptions, and the rows of handlers and of places are rows of the bodies.
pub record IsWalked (t : ProgramTree) (directory : Directory) (w : Walk) : Type 0 where
  pub scope : w.visible.scope ≡ front t w.place
  pub told : AreTold (program_of t).scope directory None w.visible
  pub bodies : (number : ℕ) (c : Coded) → number < length w.subprograms.items → slice_get (bodies_of t) number ≡ Some c → HasBody t directory number c w
  pub end : begins_at w.subprograms.items (length w.subprograms.items) ≡ here w.draft.code
  pub many : length w.subprograms.items ≡ bodies_before t w.place
  pub exceptions : w.draft.exceptions.items ≡ (program_of t).exceptions
  pub rows : HasRows w.subprograms.items w.draft
  pub places : (index : ℕ) (q : PlaceRow) → slice_get w.draft.rows.places index ≡ Some q → IsOfBody t directory w q

-- What is visible where the walk is, the labels there, how many rows of handlers there are, and how many instructions at most, are told by the text alone.
pub record IsAsTold (t : ProgramTree) (w : Walk) : Type 0 where
  pub seen : w.visible ≡ seen_at t w.place
  pub few : here w.draft.code ≤ total (bounds_from t 0 (take w.place (declared_in t.package_)))
  pub labels : w.draft.labels ≡ items_labels [] (take w.place (declared_in t.package_))
  pub rows : length w.draft.rows.items ≡ items_rows 0 (take w.place (declared_in t.package_))

-- ---- in the body of a protected object

-- the body of the object with this name stands there, with these bodies of operations and entries
abbrev pub HasObjectBody : ProgramTree → (place : ℕ) → Identifier → List ProtectedItemTree → Type 0
HasObjectBody t place name items = (end_name : Identifier) × (slice_get (declared_in t.package_) place ≡ Some (ProtectedBody name items end_name))

-- The walk is at the body of the object with this number and these components, behind the first of its bodies: each of these has its code too. In front of the
-- first the names `s` are visible.
pub record IsInObjectBody (t : ProgramTree) (directory : Directory) (o : ℕ) (s : Scope) (components : List RecordComponent) (items : List ProtectedItemTree)
    (k : ℕ)
    (w : Walk) : Type 0 where
  pub item : BodyItemTree
  pub at : slice_get (declared_in t.package_) w.place ≡ Some item
  pub coded : coded_at t w.place item ≡ operations_of o s components items
  -- the names in front of the package are among them
  pub wide : length (start_in t.package_) ≤ length s
  pub seen : w.visible ≡ seen_with t (Some o) (protected_items_scope s (take k items))
  pub told : AreTold (program_of t).scope directory (Some o) w.visible
  pub bodies : (number : ℕ) (c : Coded) → number < length w.subprograms.items → slice_get (bodies_of t) number ≡ Some c → HasBody t directory number c w
  pub end : begins_at w.subprograms.items (length w.subprograms.items) ≡ here w.draft.code
  pub many : length w.subprograms.items ≡ bodies_before t w.place + k
  pub exceptions : w.draft.exceptions.items ≡ (program_of t).exceptions
  pub rows : HasRows w.subprograms.items w.draft
  pub places : (index : ℕ) (q : PlaceRow) → slice_get w.draft.rows.places index ≡ Some q → IsOfBody t directory w q
  pub few : here w.draft.code ≤ total (bounds_from t 0 (take w.place (declared_in t.package_))) + total (map bound_of (take k (coded_at t w.place item)))
  pub labels : w.draft.labels ≡ coded_labels (items_labels [] (take w.place (declared_in t.package_))) (take k (coded_at t w.place item))
  pub choices : length w.draft.rows.items ≡ coded_rows (items_rows 0 (take w.place (declared_in t.package_))) (take k (coded_at t w.place item))
