-- A well-formed image that was put together from an accepted program has the program's code, and so its meaning.
use Rattle.std.proofs.Common.{◌≡◌, ℕ, zero, suc, ◌+◌, ◌<◌, ◌≤◌, List, [], ◌∷◌, ◌++◌, length, map, inl, inr, Option, None, Some, refl, sym, ap, ◌∙◌, subst, arith, append-nil, append_assoc, take_all, ◌⊎◌, ◌-◌, cond, false}
use Rattle.std.specs.Prelude.{pos, replicate, slice_get, nat_lt}
use Rattle.std.proofs.lemmas.List.Elements.{All-nil, All-weaker}
use Rattle.std.proofs.lemmas.Bool.{lt-ltb}
use Rattle.std.proofs.lemmas.Option.{slice_get_within, none-some}
use Rattle.image_laws.specs.kernel.specs.Laws.{QuietStays, ViewsBack, ViewsOn}
use Rattle.ada_tree.specs.declared.expression.Identifier.{Identifier}
use Rattle.ada_tree.specs.declared.program.MainStatement.{MainStatement}
use Rattle.ada_tree.specs.declared.program.MainStatement.TheVariants as main
use Rattle.ada_tree.specs.ExpressionTree.{ExprTree}
use Rattle.ada_tree.specs.StatementTree.{EntryTree, SubprogramTree}
use Rattle.ada_tree.specs.ProgramTree.{BodyItemTree, BodyTree, EntryBody, OperationBody, ProgramTree, ProtectedBody, ProtectedItemTree, SubprogramBody, TaskBody}
use Rattle.image_laws.specs.handlers.specs.declared.rows.Row.{Row}
use Rattle.image.specs.Code.{ceiling_of as ceiling_row_of, initial_words_of, body_frame, initial_state}
use Rattle.image.specs.Operations.{called, entry_of as code_entry_of, results_of, called_if}
use Rattle.image.specs.Rules.{IsWellFormed}
use Rattle.image.specs.Frames.{Inner, Opened, TaskState, kind_of}
use Rattle.image.specs.Sections.{Sections, first_place, object_of}
use Rattle.image.specs.declared.subprograms.Kind.TheVariants as kinds
use Rattle.image.specs.declared.subprograms.Subprogram.{Subprogram}
use Rattle.image.specs.declared.tasks.Task as rows
use Rattle.image_laws.specs.Laws.{ImagesHaveSize}
use Rattle.types.specs.Laws.{InitialValuesHaveShape}
use Rattle.types.specs.Scopes.{Scope}
use Rattle.program_soundness.specs.legality.specs.ProgramRules.{IsLegal}
use Rattle.ravenscar.specs.ProgramRules.{IsRestricted}
use Rattle.expr_soundness.specs.meaning.specs.Calls.{procedure_among, procedure_here, body_items, results}
use Rattle.expr_soundness.specs.meaning.specs.Programs.{OfBody, OfMain, Procedure, Program, Task, items_among, main_task, package_bodies, package_items, program_of, returned, tasks_among, Attached, handler_at, object_attached, program_partition}
use Rattle.expr_soundness.specs.meaning.specs.Source.{duty_items, initial_work, task_items, handler_work, outermost, procedure_work, task_work}
use Rattle.expr_soundness.specs.meaning.specs.Works.{DoesMain as DoesStatement, Store, TaskWork, EndsCall}
use Rattle.program_soundness.specs.step_soundness.specs.Fitting.{entry_of, taken_types}
use Rattle.program_soundness.specs.step_soundness.specs.Holding.{IsSoundTask}
use Rattle.program_soundness.specs.step_soundness.specs.Judged.{IsReady, Judged}
use Rattle.program_soundness.specs.step_soundness.specs.Objects.{first_store, AreOf}
use Rattle.program_soundness.specs.Fronts.{declared_in, front, start_in}
use Rattle.program_soundness.proofs.Callables.{function_by, operation_body, procedure_by, subprogram_body}
use Rattle.program_soundness.proofs.Listing.{Has, front_at, has_either, or_else_some, same_some}
use Rattle.program_soundness.proofs.Trees.{tasks_are}
use Rattle.program_soundness.proofs.Whole.{IsPackage}
use Rattle.expr_code.specs.Code.{Extends, Holds, here}
use Rattle.expr_code.specs.Computing.{IsFunctionCode, function_kind, ArePassed}
use Rattle.expr_code.specs.Seeing.{Package, library_of, told_of}
use Rattle.expr_code.specs.declared.visible.Visible.{Visible}
use Rattle.expr_code.proofs.Growing.{added_extends, extends_trans, get_last}
use Rattle.image.specs.declared.instruction.Operation.TheVariants as op
use Rattle.stmt_code.specs.Emitting.{HasLabels, IsHandled}
use Rattle.step_simulation.specs.part_code.specs.Handling.{GoesBy, unhandled}
use Rattle.step_simulation.specs.part_code.specs.Raising.{AreNamed}
use Rattle.step_simulation.specs.Laws.{HasCode}
use Rattle.step_simulation.specs.part_code.specs.Resting.{Framed, RestsWith}
use Rattle.step_simulation.specs.Standing.{Follows, CodeStands, Going, LeadsEnd, Note}
use Rattle.step_simulation.specs.part_code.specs.Statements.{IsProcedureCode, Numbers, procedure_kind, parameter_subtype, shapes_of}
use Rattle.stmt_code.specs.Subprograms.{AddsProcedure, fresh}
use Rattle.stmt_code.specs.declared.draft.Draft.{Draft}
use Rattle.stmt_code.specs.declared.subprogram.SubprogramWords.{SubprogramWords}
use Rattle.package_code.specs.LinkLaws.{LinkedKeepsCount, LinkedMeansTheSame}
use Rattle.package_code.specs.Linked.{AreLinkedTasks, IsLinkedProgram, IsLinkedTask}
use Rattle.package_code.specs.Objects.{bare_objects, object_rows, service_of}
use Rattle.package_code.specs.Package.{IsInFront, IsInOrder, IsPackageOf, first_objects}
use Rattle.package_code.proofs.BodyFronts.{IsEntrance}
use Rattle.package_code.proofs.NamedExceptions.{exceptions_are_named}
use Rattle.package_code.proofs.CodedPackage.{HasBodies, IsInRow, IsOperation, StandsAt, program_is_coded, procedures_coded}
use Rattle.package_code.proofs.EntryRows.{element, entry_body, entry_number, row_is}
use Rattle.package_code.proofs.Barred.{barriers_agree}
use Rattle.package_code.proofs.EmittedBodies.{procedure_emitted}
use Rattle.package_code.proofs.EmittedFunctions.{function_emitted}
use Rattle.package_code.proofs.EmittedMain.{AreMainCalls, main_emitted, main_returns, main_within}
use Rattle.package_code.proofs.EmittedTasks.{task_begins}
use Rattle.package_code.proofs.FirstWords.{first_words}
use Rattle.package_code.proofs.InFront.{LawsOfNames, bare_rests, few_locals, whole}
use Rattle.package_code.proofs.InOrder.{package_in_order}
use Rattle.package_code.proofs.LinkedMain.{DoesMain, linked_main}
use Rattle.package_code.proofs.Coded.{body_at, from_many}
use Rattle.package_code.proofs.Numbered.{bodies_numbered}
use Rattle.package_code.proofs.ObjectFronts.{object_entrance}
use Rattle.package_code.proofs.ObjectNumbers.{ceiling_row, many_rows, row_words}
use Rattle.package_code.proofs.Offered.{procedure_named}
use Rattle.package_code.proofs.OperationsAdded.{number_is}
use Rattle.package_code.proofs.OperationBodies.{code_of, coded, has_number, object, object_few}
use Rattle.package_code.proofs.PackageFronts.{package_entrance}
use Rattle.package_code.proofs.Placed.{items_are}
use Rattle.package_code.proofs.TaskRows.{HasTaskBody, task_found}
use Rattle.package_code.specs.Directory.{AreTold, number_told, slot_told}
use Rattle.package_code.specs.Laws.{SectionsMeanTheSame}
use Rattle.package_code.specs.Bodies.{Coded, bodies_among, bodies_before, bodies_of, coded_at, number_in, of_subprogram, of_task, operation_kind, own_body, own_head, own_name}
use Rattle.package_code.specs.Program.{HasProgram}
use Rattle.package_code.specs.Tasks.{HasDuty, HasTask, HaveTasks}
use Rattle.package_code.specs.Walking.{AddsSubprogram, AddsValueFunction, HasBody, LieInFront, begins_at, row_of}
use Rattle.package_code.specs.declared.directory.Directory.{Directory}
use Rattle.package_code.proofs.BodyRows.{goes_by_own, goes_past}
use Rattle.package_code.proofs.Walked.{begins_kept, rows_in_front}
use Rattle.image_laws.specs.kernel.specs.State.{Kernel, is_task}
use Rattle.image_laws.specs.kernel.specs.Interrupts.{interrupts_of}
use Rattle.image.specs.Attachments.{attached_to, handling_object}
use Rattle.image.specs.Starting.{handler_state, handler_state_of, lowest_frame, role_within, task_state}
use Rattle.program_soundness.specs.step_soundness.specs.Starting.{IsSoundHandler}
use Rattle.step_simulation.proofs.Entering.{entered, entered_frame}
use Rattle.step_simulation.proofs.Opening.{object_is}
use Rattle.package_code.proofs.HandlerBodies.{handler_number, number_of_body}
use Rattle.package_code.proofs.ChannelHandlers.{attached_none, attached_some}
use Rattle.types.specs.Shapes.{shape_of}
use Rattle.step_simulation.specs.part_code.specs.Copying.{passed_words, taken}

-- ---- the package of code

abbrev pub package_of : Program → Directory → Package
package_of program d = record {
  scope = program.scope;
  first = first_objects program;
  slots = slot_told program.scope d;
  functions = program.functions;
  subprograms = number_told program.scope d;
}

abbrev pub numbers_of : Program → Directory → Numbers
numbers_of program d = λ q. number_told program.scope d q.object q.name

-- the number of a procedure of the package is the one that is told of its name
procedure_numbered : (program : Program) (d : Directory) (name : List ℕ) (q : Procedure) (n : ℕ) → procedure_here program None name ≡ Some q
    → told_of program.scope d.numbers.items name ≡ Some n
    → numbers_of program d q ≡ Some n
procedure_numbered program d name q n found told =
    let at : procedure_among program.procedures None name ≡ Some q =
    elim (or_else_some (procedure_among program.procedures None name) (procedure_among program.procedures None name) q found) [ inl k ↦ k | inr k ↦ k.1 ] in
    let x = procedure_named program.procedures None name q at in
    (λ j. number_told program.scope d (x.0 j) (x.1 j)) ∙ told

-- ---- what holds of a body by its result

abbrev pub by_result : Type 0 → (Identifier → Type 0) → Option Identifier → Type 0
by_result P V o = elim o [ None ↦ P | Some r ↦ V r ]

pub without : (P : Type 0) (V : Identifier → Type 0) (o : Option Identifier) → by_result P V o → o ≡ None → P
without P V None a e = a
without P V (Some r) a e = cc

pub with_one : (P : Type 0) (V : Identifier → Type 0) (o : Option Identifier) → by_result P V o → (r : Identifier) → o ≡ Some r → V r
with_one P V None a r e = cc
with_one P V (Some q) a r e = subst V (same_some q r e) a

module _ (t : ProgramTree) (d : SubprogramTree) (b : BodyTree) (v : Visible) (old : Draft) (words : SubprogramWords) (new : Draft)
    (a : AddsSubprogram t d b v old words new) where
  pub as_procedure : d.result ≡ None → AddsProcedure v old d.formals b words new
  as_procedure e = without (AddsProcedure v old d.formals b words new) (λ r. AddsValueFunction t d b r v old words new) d.result a e

  pub as_function : (r : Identifier) → d.result ≡ Some r → AddsValueFunction t d b r v old words new
  as_function r e = with_one (AddsProcedure v old d.formals b words new) (λ z. AddsValueFunction t d b z v old words new) d.result a r e

-- ---- where subprograms begin

pub first_begins : (i : Sections) (n : ℕ) → first_place i n ≡ begins_at i.subprograms n
first_begins i zero = refl
first_begins i (suc n) = refl

-- ---- main's calls

module _ (program : Program) (d : Directory) (v : Visible) (told : AreTold program.scope d None v) (m : Store) (w : TaskWork) (task : IsSoundTask program m None w) where
  calls_judged : (all : List MainStatement) → Judged program task.scope task.outer task.around (map DoesStatement all)
      → AreMainCalls program (numbers_of program d) v all
  calls_judged [] j = tt
  calls_judged (main.Null place ∷ rest) j = calls_judged rest j.1
  calls_judged (main.Call package_ procedure ∷ rest) j = (
    record {
      procedure = j.0.0;
      found = j.0.1;
      bare = j.0.2;
      numbered = λ number there. procedure_numbered program d procedure.name j.0.0 number j.0.1 (told.calls procedure.name number there);
    },
    calls_judged rest j.1,
  )

  calls_ready : (all : List MainStatement) → IsReady program w.own task.scope task.outer task.around (map DoesStatement all)
      → AreMainCalls program (numbers_of program d) v all
  calls_ready [] r = tt
  calls_ready (x ∷ rest) r = calls_judged (x ∷ rest) r

-- ---- what the image holds

-- main's row, by its words and where it ends
abbrev pub main_row : SubprogramWords → (end : ℕ) → Subprogram
main_row words end = row_of kinds.TaskBody words end

module _ (t : ProgramTree) (i : Sections) (h : HasProgram t i) where
  abbrev program : Program
  program = program_of t

  abbrev all : List Subprogram
  all = h.walk.subprograms.items

  abbrev g : Package
  g = package_of program h.directory

  abbrev numbers : Numbers
  numbers = numbers_of program h.directory

  pub ordered : IsInOrder t i g
  ordered = record {
    scope = refl;
    functions = refl;
    first = λ owner. refl;
    slots = λ name. ap (λ v. told_of program.scope v.items name) h.slots ∙ h.are.slots name;
    components = h.told.components;
    words = h.plain_words ∙ h.are.words;
    object_words = λ object.
        ap (λ l. initial_words_of (slice_get l object)) h.objects ∙ row_words t program.scope (package_items t.package_) object;
  }

  pub in_front : (s : Scope) (owner : Option ℕ) (v : Framed) → v.names.scope ≡ s → v.within ≡ owner → AreTold program.scope h.directory owner v.names
      → IsInFront s g owner v
  in_front s owner v scope within told = record {
    scope = scope;
    slots = told.slots;
    calls = told.calls;
    within = within;
    operations = told.operations;
    many_slots = told.entries.slots;
    many_subprograms = told.entries.subprograms;
  }

  pub called_front : (number : ℕ) (s : Subprogram) → slice_get all number ≡ Some s → called i number ≡ Some s
  called_front number s there = ap (λ l. slice_get l number) h.subprograms ∙ front_at all (main_row h.words (here h.draft.code) ∷ []) number s there

  pub called_main : called i (length all) ≡ Some (main_row h.words (here h.draft.code))
  called_main = ap (λ l. slice_get l (length all)) h.subprograms ∙ get_last all (main_row h.words (here h.draft.code))

  pub first_is : (number : ℕ) → number ≤ length all → first_place i number ≡ begins_at all number
  first_is number up =
      first_begins i number ∙ ap (λ l. begins_at l number) h.subprograms ∙ begins_kept all (main_row h.words (here h.draft.code) ∷ []) number up

  pub first_main : first_place i (length all) ≡ here h.walk.draft.code
  first_main = first_is (length all) (omega arith) ∙ h.walked.end

  grows : Extends (fresh h.walk.draft.code) h.draft.code
  grows =
      extends_trans (fresh h.walk.draft.code) h.main.called h.draft.code h.main.calls.extends
      (added_extends h.main.called h.draft.code 0 op.Return h.main.returns)

  pub holds_main : Holds i (here h.walk.draft.code) h.draft.code
  holds_main k x le e = ap (λ l. slice_get l k) h.instructions ∙ e

  many : length all ≡ bodies_before t (length (declared_in t.package_))
  many = h.walked.many ∙ ap (bodies_before t) h.whole

  -- those of bodies: main has none
  rows_are : i.rows ≡ h.walk.draft.rows.items
  rows_are = h.rows ∙ ap (λ r. r.items) h.main.rows

  -- ---- bodies

  pub body_there : (number : ℕ) (c : Coded) → slice_get (bodies_of t) number ≡ Some c → HasBody t h.directory number c h.walk
  body_there number c is =
      let less = slice_get_within (bodies_of t) number c is in
      let counted = from_many t 0 (declared_in t.package_) in
      let all_of = ap bodies_among (take_all (length (declared_in t.package_)) (declared_in t.package_) (omega arith)) in
      h.walked.bodies number c (omega (arith, less, counted, many, all_of)) is

  -- that of the subprogram or task at this place
  pub body_there_at : (place : ℕ) (x : BodyItemTree) (c : Coded) → slice_get (declared_in t.package_) place ≡ Some x → slice_get (coded_at t place x) 0 ≡ Some c
      → HasBody t h.directory (bodies_before t place) c h.walk
  body_there_at place x c at is =
      (let none : bodies_before t place ≡ bodies_before t place + 0 = omega arith in
      body_there (bodies_before t place) c (ap (slice_get (bodies_of t)) none ∙ body_at t place 0 x c at is))

  module _ (number : ℕ) (c : Coded) (body : HasBody t h.directory number c h.walk) where
    pub begins_there : first_place i number ≡ here body.old.code
    begins_there =
        let up = slice_get_within all number (row_of c.kind body.words (here body.new.code)) body.there in
        first_is number (omega (arith, up)) ∙ body.begins

    pub holds_there : Holds i (here body.old.code) body.new.code
    holds_there k y le e =
        ap (λ l. slice_get l k) h.instructions ∙ grows.instructions k y (omega arith) (body.kept.instructions k y (omega arith) e)

    pub labels_there : HasLabels i body.new.labels
    labels_there = record { labels = λ k y le e. ap (λ l. slice_get l k) (h.labels ∙ h.main.labels) ∙ body.kept.labels k y (omega arith) e }

    rows_with : (own : List Row) → body.new.rows.items ≡ body.old.rows.items ++ own → i.rows ≡ body.old.rows.items ++ (own ++ body.kept.later)
    rows_with own more =
        rows_are ∙ body.kept.rows ∙ ap (λ l. l ++ body.kept.later) more ∙ append_assoc body.old.rows.items own body.kept.later

    -- what a procedure raises goes on by the rows that were added with its code
    pub handled_there : AreNamed program → (adds : AddsProcedure body.seen body.old c.head.formals c.body body.words body.new)
        → IsHandled i program (record body.old { code = adds.initial; words = adds.framed }) adds.run adds.runs.rows unhandled
    handled_there named adds = record {
      named = named;
      exceptions = sym h.walked.exceptions ∙ ap (λ e. e.items) (body.kept.exceptions ∙ adds.exceptions ∙ adds.runs.rows.exceptions);
      goes = goes_by_own i body.old.rows.items adds.runs.rows.added body.kept.later (here adds.initial) (here adds.run.code)
          (rows_with adds.runs.rows.added (ap (λ r. r.items) adds.rows ∙ adds.runs.rows.appended))
          (All-weaker (λ q. q.end_ ≤ here body.old.code) (λ q. q.end_ ≤ here adds.initial)
          (λ q up. let e = adds.initialises.extends.longer in omega (arith, e, up)) body.old.rows.items body.before)
          (All-weaker (λ q. here body.new.code ≤ q.start) (λ q. here adds.run.code ≤ q.start)
          (λ q up. let e = adds.returns.extends.longer in omega (arith, e, up)) body.kept.later body.kept.behind);
    }

    -- no row covers code that adds none
    uncovered_there : body.new.rows.items ≡ body.old.rows.items → GoesBy i unhandled (here body.old.code) (here body.new.code)
    uncovered_there same =
        goes_past i body.old.rows.items body.kept.later (here body.old.code) (here body.new.code)
        (rows_are ∙ body.kept.rows ∙ ap (λ r. r ++ body.kept.later) same) body.before body.kept.behind

  module _ (laws : LawsOfNames) (quiet : QuietStays) (views : ViewsOn) (back : ViewsBack) (shaped : InitialValuesHaveShape) (legal : IsLegal t)
      (restricted : IsRestricted t) (well_formed : IsWellFormed i) where
    pub of_program : IsPackageOf t i g
    of_program = package_in_order laws t legal restricted i g ordered

    -- ---- the body of an operation or an entry

    module _ (owner : Option ℕ) (u : ProtectedItemTree) (x : IsOperation laws t legal restricted owner u) where
      abbrev pub operation_code : Coded
      operation_code = code_of laws.scopes laws.names laws.premises t legal restricted x.place x.name x.items x.end_name x.at x.k u

      abbrev operation_number : ℕ
      operation_number = bodies_before t x.place + x.k

      operation_is : slice_get (bodies_of t) operation_number ≡ Some operation_code
      operation_is =
          body_at t x.place x.k (ProtectedBody x.name x.items x.end_name) operation_code x.at
          (coded laws.scopes laws.names laws.premises t legal restricted x.place x.name x.items x.end_name x.at x.k u x.there)

      -- its name has its number
      operation_numbered : number_told program.scope h.directory owner (own_name u) ≡ Some operation_number
      operation_numbered =
          ap (λ o. number_told program.scope h.directory o (own_name u)) x.owned
          ∙ h.told.operations (object laws.scopes laws.names laws.premises t legal restricted x.place x.name x.items x.end_name x.at).number (own_name u)
          ∙ has_number laws.scopes laws.names laws.premises t legal restricted x.place x.name x.items x.end_name x.at x.k u x.there

    -- ---- a body of a subprogram, whosever it is, with what is visible in front of its parameters

    module _ (number : ℕ) (c : Coded) (is : slice_get (bodies_of t) number ≡ Some c)
        (entrance : (v : Framed) → IsInFront c.front g c.owner v → IsEntrance t g c.owner v c.head c.body) where
      abbrev body : HasBody t h.directory number c h.walk
      body = body_there number c is

      abbrev row : Subprogram
      row = row_of c.kind body.words (here body.new.code)

      there : called i number ≡ Some row
      there = called_front number row body.there

      first : first_place i number ≡ here body.old.code
      first = begins_there number c body

      holds : Holds i (here body.old.code) body.new.code
      holds = holds_there number c body

      labels : HasLabels i body.new.labels
      labels = labels_there number c body

      -- that of an entry has a barrier
      procedure_there : (barrier : Option ExprTree) → c.head.result ≡ None → c.kind ≡ procedure_kind c.owner barrier
          → IsProcedureCode i program g numbers (record (procedure_by program.scope (subprogram_body c.owner c.head c.body)) { barrier = barrier }) number
      procedure_there barrier none kind =
          let adds = as_procedure t c.head c.body body.seen body.old body.words body.new body.adds none in
          procedure_emitted laws quiet shaped t legal restricted i well_formed g of_program numbers c.owner c.head c.body body.seen body.old body.new body.words
          adds number row there first refl refl (ap results_of there) refl barrier kind holds labels
          (handled_there number c body (exceptions_are_named laws.premises t legal restricted) adds) (λ q n told. told)
          (entrance _ (in_front c.front c.owner _ body.scope refl body.told))

      function_there : (r : Identifier) → c.head.result ≡ Some r → (value : ExprTree) → returned c.body.statements ≡ Some value
          → c.kind ≡ function_kind c.owner
          → IsFunctionCode i (library_of g) (function_by program.scope (subprogram_body c.owner c.head c.body) r value) number
      function_there r some value returns kind =
          let y = as_function t c.head c.body body.seen body.old body.words body.new body.adds r some in
          let code = ap (λ z. z.code) y.marked in
          subst (λ e. IsFunctionCode i (library_of g) (function_by program.scope (subprogram_body c.owner c.head c.body) r e) number)
          (same_some y.value value (sym y.returns ∙ returns))
          (function_emitted laws shaped t legal restricted i well_formed g of_program numbers c.owner c.head c.body r some y.value y.result y.named body.seen
          body.old y.mid body.words y.adds number row there first (ap here code) refl refl kind (subst (Holds i (here body.old.code)) code holds)
          (subst (λ n. GoesBy i unhandled (here body.old.code) n) (ap here code)
          (uncovered_there number c body (ap (λ z. z.rows.items) y.marked ∙ ap (λ z. z.items) y.adds.rows)))
          (entrance _ (in_front c.front c.owner _ body.scope refl body.told)))

      -- the number is the one that is told of the name
      numbered : (n : ℕ) → number_told program.scope h.directory c.owner c.head.name.name ≡ Some n → number ≡ n
      numbered n e = same_some number n (sym body.numbered ∙ e)

    -- ---- those of the package, and those of protected objects

    module _ (place : ℕ) (d : SubprogramTree) (b : BodyTree) (at : slice_get (declared_in t.package_) place ≡ Some (SubprogramBody d b)) where
      abbrev pub own_code : Coded
      own_code = of_subprogram (front t (suc place)) d b

      abbrev package_number : ℕ
      package_number = bodies_before t place + 0

      package_is : slice_get (bodies_of t) package_number ≡ Some own_code
      package_is = body_at t place 0 (SubprogramBody d b) own_code at refl

      pub package_enters : (v : Framed) → IsInFront (front t (suc place)) g None v → IsEntrance t g None v d b
      package_enters v before = package_entrance laws t legal restricted i g of_program place d b at v before

    module _ (owner : Option ℕ) (u : ProtectedItemTree) (x : IsOperation laws t legal restricted owner u) where
      pub operation_enters : (v : Framed) → IsInFront (operation_code owner u x).front g (operation_code owner u x).owner v
          → IsEntrance t g (operation_code owner u x).owner v (own_head u) (own_body u)
      operation_enters v before =
          object_entrance laws t legal restricted x.place x.name x.items x.end_name x.at x.k u x.there i g ordered of_program h.told.operations v before

    procedure_code : (owner : Option ℕ) (d : SubprogramTree) (b : BodyTree) → StandsAt laws t legal restricted owner d b → d.result ≡ None → (n : ℕ)
        → numbers (procedure_by program.scope (subprogram_body owner d b)) ≡ Some n
        → IsProcedureCode i program g numbers (procedure_by program.scope (subprogram_body owner d b)) n
    procedure_code owner d b (inl p) none n told =
        let place = p.1 in
        let number = package_number place d b p.2 in
        let is = package_is place d b p.2 in
        let enters = package_enters place d b p.2 in
        let same = numbered number (own_code place d b p.2) is enters n
        (ap (λ o. number_told program.scope h.directory o d.name.name) (sym p.0) ∙ told) in
        subst (λ o. IsProcedureCode i program g numbers (procedure_by program.scope (subprogram_body o d b)) n) (sym p.0)
        (subst (IsProcedureCode i program g numbers (procedure_by program.scope (subprogram_body None d b))) same
        (procedure_there number (own_code place d b p.2) is enters None none refl))
    procedure_code owner d b (inr x) none n told =
        let number = operation_number owner (OperationBody d b) x in
        let is = operation_is owner (OperationBody d b) x in
        let enters = operation_enters owner (OperationBody d b) x in
        let same = same_some number n (sym (operation_numbered owner (OperationBody d b) x) ∙ told) in
        subst (λ o. IsProcedureCode i program g numbers (procedure_by program.scope (subprogram_body o d b)) n) (sym x.owned)
        (subst
        (IsProcedureCode i program g numbers
        (procedure_by program.scope (subprogram_body (operation_code owner (OperationBody d b) x).owner d b))) same
        (procedure_there number (operation_code owner (OperationBody d b) x) is enters None none
        (ap (operation_kind (object laws.scopes laws.names laws.premises t legal restricted x.place x.name x.items x.end_name x.at).number) none)))

    -- an entry's is that of its procedure
    entry_code : (owner : Option ℕ) (d : EntryTree) (barrier : ExprTree) (b : BodyTree)
        → IsOperation laws t legal restricted owner (EntryBody d barrier b) → (n : ℕ)
        → numbers (procedure_by program.scope (operation_body owner (EntryBody d barrier b))) ≡ Some n
        → IsProcedureCode i program g numbers (procedure_by program.scope (operation_body owner (EntryBody d barrier b))) n
    entry_code owner d barrier b x n told =
        let u : ProtectedItemTree = EntryBody d barrier b in
        let number = operation_number owner u x in
        let same = same_some number n (sym (operation_numbered owner u x) ∙ told) in
        subst (λ o. IsProcedureCode i program g numbers (procedure_by program.scope (operation_body o u)) n) (sym x.owned)
        (subst
        (IsProcedureCode i program g numbers (procedure_by program.scope (operation_body (operation_code owner u x).owner u))) same
        (procedure_there number (operation_code owner u x) (operation_is owner u x) (operation_enters owner u x) (Some barrier) refl refl))

    function_code : (owner : Option ℕ) (d : SubprogramTree) (b : BodyTree) → StandsAt laws t legal restricted owner d b → (r : Identifier) → d.result ≡ Some r
        → (value : ExprTree) → returned b.statements ≡ Some value → (n : ℕ) → g.subprograms owner d.name.name ≡ Some n
        → IsFunctionCode i (library_of g) (function_by program.scope (subprogram_body owner d b) r value) n
    function_code owner d b (inl p) r some value returns n told =
        let place = p.1 in
        let number = package_number place d b p.2 in
        let is = package_is place d b p.2 in
        let enters = package_enters place d b p.2 in
        let same = numbered number (own_code place d b p.2) is enters n
        (ap (λ o. number_told program.scope h.directory o d.name.name) (sym p.0) ∙ told) in
        subst (λ o. IsFunctionCode i (library_of g) (function_by program.scope (subprogram_body o d b) r value) n) (sym p.0)
        (subst (IsFunctionCode i (library_of g) (function_by program.scope (subprogram_body None d b) r value)) same
        (function_there number (own_code place d b p.2) is enters r some value returns refl))
    function_code owner d b (inr x) r some value returns n told =
        let number = operation_number owner (OperationBody d b) x in
        let is = operation_is owner (OperationBody d b) x in
        let enters = operation_enters owner (OperationBody d b) x in
        let same = same_some number n (sym (operation_numbered owner (OperationBody d b) x) ∙ told) in
        subst (λ o. IsFunctionCode i (library_of g) (function_by program.scope (subprogram_body o d b) r value) n) (sym x.owned)
        (subst
        (IsFunctionCode i (library_of g)
        (function_by program.scope (subprogram_body (operation_code owner (OperationBody d b) x).owner d b) r value)) same
        (function_there number (operation_code owner (OperationBody d b) x) is enters r some value returns
        (ap (operation_kind (object laws.scopes laws.names laws.premises t legal restricted x.place x.name x.items x.end_name x.at).number) some)))

    bodies : HasBodies laws t legal restricted i g of_program numbers
    bodies = record {
      procedures = procedure_code;
      functions = function_code;
      entries = entry_code;
    }

    -- ---- the rows of objects

    abbrev all_items : List BodyItemTree
    all_items = declared_in t.package_

    abbrev start : Scope
    start = start_in t.package_

    w : IsPackage program start all_items
    w = whole laws t legal restricted

    items : package_items t.package_ ≡ items_among all_items
    items = items_are t.package_

    many_objects : length i.objects ≡ program.objects
    many_objects = ap length h.objects ∙ ap (λ l. length (object_rows t 0 (bare_objects program.scope l))) items ∙ many_rows program start all_items w t

    -- that of an entry's object names the number of its body
    rows_there : (o : ℕ) (q : Procedure) → entry_of program.procedures o ≡ Some q → IsInRow laws t legal restricted i g of_program numbers o q
    rows_there o q found =
        let y = entry_body laws t legal restricted o q found in
        let few = object_few laws.scopes laws.names laws.premises t legal restricted y.place y.name y.items y.end_name y.at in
        let mine = number_is laws.scopes laws.names laws.premises t legal restricted y.place y.name y.items y.end_name y.at in
        let count = many_objects in
        let number = y.number in
        let less : o < length i.objects = omega (arith, few, mine, count, number) in
        let r = element i.objects o less in
        let x = row_is t i.objects h.objects o r.0 r.1 in
        let told = entry_number laws t legal restricted o q y in
        record {
          number = bodies_before t y.place + y.k;
          row = ap code_entry_of r.1 ∙ ap (λ z. z.entry) x.1 ∙ ap (λ e. (service_of t o e).entry) found ∙ told;
          numbered = (λ j. number_told program.scope h.directory (y.is j).object (y.is j).name) ∙ h.told.operations o y.d.name.name
              ∙ ap (λ z. number_in t (Some o) z.name) (sym y.is) ∙ told;
        }

    -- ---- handlers

    module _ (a : Attached) (s : IsSoundHandler program a) where
      -- the procedure of a handler has a number, and the code of that number
      abbrev n : ℕ
      n = handler_number laws t legal restricted a s

      abbrev q : Procedure
      q = s.procedure

      told_number : number_told program.scope h.directory (Some a.object) a.name ≡ Some n
      told_number = h.told.operations a.object a.name ∙ number_of_body laws t legal restricted a s

      owner : (q.object ≡ Some a.object) × (q.name ≡ a.name)
      owner = procedure_named program.procedures (Some a.object) a.name q s.is

      numbered_handler : numbers q ≡ Some n
      numbered_handler = (λ j. number_told program.scope h.directory (owner.0 j) (owner.1 j)) ∙ told_number

      proc : IsProcedureCode i program g numbers q n
      proc = procedures_coded laws t legal restricted i g of_program numbers bodies (Some a.object) a.name q n s.is numbered_handler

      object_there : object_of proc.s.kind ≡ Some a.object
      object_there = ap object_of proc.kind ∙ object_is q.object q.barrier ∙ owner.0

      passes : ArePassed (shapes_of i program g numbers q) [] × AreOf program.scope (taken_types q.parameters) []
      passes =
          subst (λ ps. ArePassed (map (shape_of g.scope) (map parameter_subtype (taken ps))) [] × AreOf program.scope (taken_types ps) []) (sym s.plain) (tt, tt)

      no_results : results q.parameters ≡ []
      no_results = ap results s.plain

      no_addresses : length {A = ℕ} [] ≡ length (results q.parameters)
      no_addresses = ap length (sym no_results)

      no_words : passed_words q.parameters [] [] ≡ []
      no_words = ap (λ ps. passed_words ps [] []) s.plain

      no_parameters : proc.s.parameters ≡ 0
      no_parameters = sym (proc.parameters [] [] passes.0 no_addresses) ∙ ap length no_words

      -- the frame of the procedure, above the one that never runs, at its start
      abbrev begun : Note → TaskState
      begun note = record {
        frame = entered_frame i program g numbers note q n proc [] [] (Opened a.object);
        callers = lowest_frame i ∷ [];
        raising = None;
      }

      begun_is : (note : Note) → handler_state_of i (Some n) ≡ begun note
      begun_is note =
          let state_by : Option Subprogram → TaskState = λ c. record {
            frame = (let f = body_frame i n c in record f { role = role_within (object_of (kind_of c)) });
            callers = lowest_frame i ∷ [];
            raising = None;
          } in
          let none = no_parameters in
          let many : proc.s.locals ≡ proc.s.locals - proc.s.parameters = omega (arith, none) in
          let locals : replicate proc.s.locals (pos 0) ≡ passed_words q.parameters [] [] ++ replicate (proc.s.locals - proc.s.parameters) (pos 0) =
          ap (λ k. replicate k (pos 0)) many ∙ ap (λ l. l ++ replicate (proc.s.locals - proc.s.parameters) (pos 0)) (sym no_words) in
          ap state_by proc.there
          ∙ (λ j. record {
            frame = record { subprogram = n; place = first_place i n; locals = locals j; stack = []; role = role_within (object_there j) };
            callers = lowest_frame i ∷ [];
            raising = None;
          })

      -- it stands for the body, behind whose end nothing is left to do
      handler_stands : (note : Note) (l : Kernel) (u : ℕ) → CodeStands i program g numbers note l u (procedure_work a.object (Some q)) (handler_state_of i (Some n))
      handler_stands note l u =
          subst (CodeStands i program g numbers note l u (procedure_work a.object (Some q))) (sym (begun_is note))
          (Going (body_items q (EndsCall [] (Some a.object) []) []) refl
          (entered i program g numbers note q n proc [] [] passes.0 passes.1 no_addresses (EndsCall [] (Some a.object) []) [] (Opened a.object)
          (lowest_frame i ∷ []) (outermost ∷ []) refl
          (λ around m from ret way same here_ there_. (
            ret,
            lowest_frame i,
            [],
            outermost,
            [],
            around,
            [],
            0,
            refl,
            subst (λ names. LeadsEnd i program g numbers around m from around.visible names []) no_results here_,
            way,
            same,
            subst (λ names. LeadsEnd i program g numbers around m ret around.ending names []) no_results there_,
            refl,
            refl,
            inr (record { lowest = refl; callers = refl; no_names = refl; opens = (a.object, refl); no_targets = refl; last = refl }),
          ))))

    as_many_tasks : (xs : List Task) (table : List rows.Task) → HaveTasks t xs table → length table ≡ length xs
    as_many_tasks [] [] has = refl
    as_many_tasks (x ∷ xs) (line ∷ table) has = ap suc (as_many_tasks xs table has.1)
    as_many_tasks [] (line ∷ table) has = absurd has
    as_many_tasks (x ∷ xs) [] has = absurd has

    sound_handler : (channel : ℕ) (a : Attached) → handler_at channel program.handlers ≡ Some a → IsSoundHandler program a
    sound_handler channel a found = (laws.starts t legal restricted).handlers channel a found

    -- the procedure that is attached to a channel is its handler's
    attached_is : (channel : ℕ) (a : Attached) (found : handler_at channel program.handlers ≡ Some a)
        → attached_to channel i.attachments ≡ Some (n a (sound_handler channel a found))
    attached_is channel a found =
        ap (attached_to channel) h.attachments ∙ (attached_some t h.directory channel a found ∙ told_number a (sound_handler channel a found))

    restarts : (note : Note) (l : Kernel) (u : ℕ) (a : Attached) → is_task (program_partition program) u ≡ false
        → handler_at (u - length program.tasks) program.handlers ≡ Some a
        → CodeStands i program g numbers note l u (initial_work program u) (initial_state i u)
    restarts note l u a no_task found =
        let channel = u - length program.tasks in
        let s = sound_handler channel a found in
        let many = as_many_tasks program.tasks i.tasks h.tasks in
        let work : initial_work program u ≡ procedure_work a.object (Some s.procedure) =
        ap (λ b. cond b (task_work program u) (handler_work program (handler_at (u - length program.tasks) program.handlers))) no_task
        ∙ (ap (handler_work program) found ∙ ap (procedure_work a.object) s.is) in
        let state : initial_state i u ≡ handler_state_of i (Some (n a s)) =
        (λ j. cond (nat_lt u (many j)) (task_state i u) (handler_state i (u - many j)))
        ∙ (ap (λ b. cond b (task_state i u) (handler_state i (u - length program.tasks))) no_task ∙ ap (handler_state_of i) (attached_is channel a found)) in
        subst (λ x. CodeStands i program g numbers note l u x (initial_state i u)) (sym work)
        (subst (CodeStands i program g numbers note l u (procedure_work a.object (Some s.procedure))) (sym state) (handler_stands a s note l u))

    handled_object : (channel : ℕ) → handling_object i channel ≡ object_attached (handler_at channel program.handlers)
    handled_object channel = by_handler (handler_at channel program.handlers) refl
      where
        by_handler : (o : Option Attached) → handler_at channel program.handlers ≡ o → handling_object i channel ≡ object_attached o
        by_handler None e =
            ap (λ m. object_of (kind_of (called_if i m))) (ap (attached_to channel) h.attachments ∙ attached_none t h.directory channel e)
        by_handler (Some a) e =
            let s = sound_handler channel a e in
            ap (λ m. object_of (kind_of (called_if i m))) (attached_is channel a e) ∙ (ap (λ c. object_of (kind_of c)) (proc a s).there ∙ object_there a s)

    attached_handler : (channel number : ℕ) → attached_to channel i.attachments ≡ Some number → (a : Attached) × (handler_at channel program.handlers ≡ Some a)
    attached_handler channel number there = by_handler (handler_at channel program.handlers) refl
      where
        by_handler : (o : Option Attached) → handler_at channel program.handlers ≡ o → (a : Attached) × (handler_at channel program.handlers ≡ Some a)
        by_handler None e =
            absurd (none-some number (sym (ap (attached_to channel) h.attachments ∙ attached_none t h.directory channel e) ∙ there))
        by_handler (Some a) e = (a, e)

    code : HasCode i program g numbers
    code = program_is_coded laws t legal restricted i g of_program numbers bodies quiet views back (h.exceptions ∙ h.are.exceptions) rows_there
        (λ m words o store lying stands. barriers_agree laws t legal restricted i h.objects many_objects g ordered of_program m words store lying stands o)
        restarts

    -- ---- main

    calls : AreMainCalls program numbers h.walk.visible t.main.statements
    calls =
        let tasks : List Task = tasks_among program.scope (package_bodies t.package_) (package_items t.package_) in
        let last : slice_get program.tasks (length tasks) ≡ Some (main_task program.scope t) = get_last tasks (main_task program.scope t) in
        let less : length tasks < length program.tasks = slice_get_within program.tasks (length tasks) (main_task program.scope t) last in
        let start : initial_work program (length tasks) ≡ task_work program (length tasks) =
        ap (λ b. cond b (task_work program (length tasks)) (handler_work program (handler_at (length tasks - length program.tasks) program.handlers)))
        (lt-ltb (length tasks) (length program.tasks) less) in
        let task : IsSoundTask program (first_store program) None (task_work program (length tasks)) =
        subst (IsSoundTask program (first_store program) None) start ((laws.starts t legal restricted).works (length tasks)) in
        calls_ready program h.directory h.walk.visible h.walked.told (first_store program) (task_work program (length tasks)) task t.main.statements
        (subst (λ x. IsReady program (task_work program (length tasks)).own task.scope task.outer task.around (task_items x)) last task.work)

    does : DoesMain t i g numbers
    does = record {
      number = length all;
      s = main_row h.words (here h.draft.code);
      there = called_main;
      object = refl;
      results = h.main.results;
      stop = here h.main.called;
      up = (let e = h.main.calls.extends.longer in omega (arith, first_main, e));
      within =
          let e =
          main_within i program g numbers h.walk.visible h.walk.draft h.draft h.words t.main.statements h.main holds_main calls (length all) first_main in
          omega (arith, e);
      statements =
          main_emitted i program g numbers h.walk.visible h.walk.draft h.draft h.words t.main.statements h.main holds_main calls (length all) first_main;
      return = main_returns i program g numbers h.walk.visible h.walk.draft h.draft h.words t.main.statements h.main holds_main calls (length all) first_main;
      uncovered = goes_past i h.walk.draft.rows.items [] (first_place i (length all)) (here h.main.called)
          (rows_are ∙ sym (append-nil h.walk.draft.rows.items))
          (subst (λ n. LieInFront n h.walk.draft.rows.items) (sym first_main) (rows_in_front all h.walk.draft h.walked.rows))
          (All-nil (λ q. here h.main.called ≤ q.start));
    }

    abbrev seen : Framed
    seen = record { names = h.walk.visible; room = 0; reserved = []; within = None }

    -- ---- tasks

    main_rests : RestsWith g seen [] (record { within = None; locals = [] }) (replicate does.s.locals (pos 0))
    unfolding does
    main_rests =
        bare_rests laws t legal restricted i g of_program seen (length (declared_in t.package_))
        (in_front (front t (length (declared_in t.package_))) None seen (h.walked.scope ∙ ap (front t) h.whole) refl h.walked.told) refl does.s.locals (omega arith)
        (few_locals i well_formed (length all) does.s called_main).1

    -- a task with a body: the row names the subprogram of the body with its name
    linked_body : (x : Task) (line : rows.Task) → HasTask t x line → HasTaskBody (declared_in t.package_) x → IsLinkedTask program i g numbers x line
    linked_body x line has f =
        let c : Coded = of_task (front t (suc f.place)) f.own f.body in
        let n : ℕ = bodies_before t f.place in
        let body : HasBody t h.directory n c h.walk = body_there_at f.place (TaskBody f.own f.body) c f.at refl in
        let s : Subprogram = row_of kinds.TaskBody body.words (here body.new.code) in
        let called_so : called i n ≡ Some s = called_front n s body.there in
        let none : n + 0 ≡ n = omega arith in
        let counted = (bodies_numbered laws.scopes laws.names laws.premises t legal restricted f.place (TaskBody f.own f.body) 0 c f.at refl).0 ∙ ap Some none in
        let told : HasDuty t x line.subprogram (OfBody f.body) = subst (HasDuty t x line.subprogram) f.duty has.duty in
        let same : line.subprogram ≡ n = same_some line.subprogram n (sym told ∙ ap (number_in t None) (sym f.named) ∙ counted) in
        let r = task_begins laws t legal restricted i well_formed g of_program numbers f.place f.body body.seen body.old body.new body.words body.adds
        n s called_so (begins_there n c body) refl refl refl (holds_there n c body) (labels_there n c body)
        (handled_there n c body (exceptions_are_named laws.premises t legal restricted) body.adds)
        (λ q n told. told) (in_front (front t (suc f.place)) None _ body.scope refl body.told) in
        record {
          name = has.name;
          priority = has.priority;
          s = s;
          there = ap (called i) same ∙ called_so;
          object = refl;
          around = r.0;
          begins = λ note. subst (λ m. Follows i program g numbers note r.0 m (first_place i m) (duty_items x.duty) Inner [] []) (sym same)
              (subst (λ d. Follows i program g numbers note r.0 n (first_place i n) (duty_items d) Inner [] []) (sym f.duty) (r.1 note));
          rests = r.2;
        }

    linked_task : (x : Task) (line : rows.Task) → Has program.tasks x → HasTask t x line → IsLinkedTask program i g numbers x line
    unfolding does
    linked_task x line among has =
        by_case (has_either (tasks_among program.scope (declared_in t.package_) (items_among (declared_in t.package_))) (main_task program.scope t ∷ []) x
        (subst (λ l. Has l x) (tasks_are t) among))
      where
        main : x ≡ main_task program.scope t → IsLinkedTask program i g numbers x line
        main same =
            let duty : x.duty ≡ OfMain t.main.statements = ap (λ y. y.duty) same in
            linked_main t i g numbers seen does main_rests x line duty has.name has.priority
            (subst (HasDuty t x line.subprogram) duty has.duty
            ∙ sym (many ∙ ap bodies_among (take_all (length (declared_in t.package_)) (declared_in t.package_) (omega arith))))

        by_case : Has (tasks_among program.scope (declared_in t.package_) (items_among (declared_in t.package_))) x ⊎ Has (main_task program.scope t ∷ []) x
            → IsLinkedTask program i g numbers x line
        by_case (inl k) = linked_body x line has (task_found program.scope (declared_in t.package_) (items_among (declared_in t.package_)) x k)
        by_case (inr (inl e)) = main (sym e)
        by_case (inr (inr k)) = absurd k

    linked_tasks : (xs : List Task) (table : List rows.Task) → ((x : Task) → Has xs x → Has program.tasks x) → HaveTasks t xs table
        → AreLinkedTasks program i g numbers xs table
    linked_tasks [] [] among has = tt
    linked_tasks (x ∷ xs) (line ∷ table) among has =
        (linked_task x line (among x (inl refl)) has.0, linked_tasks xs table (λ y k. among y (inr k)) has.1)
    linked_tasks [] (line ∷ table) among has = absurd has
    linked_tasks (x ∷ xs) [] among has = absurd has

    pub sections_linked : ImagesHaveSize → IsLinkedProgram t i g numbers
    sections_linked sizes = record {
      exceptions = h.exceptions ∙ h.are.exceptions;
      objects = many_objects;
      ceilings = λ o. ceiling_row program start all_items w t o
          ∙ sym (ap (λ l. ceiling_row_of (slice_get l o)) h.objects
          ∙ ap (λ l. ceiling_row_of (slice_get (object_rows t 0 (bare_objects program.scope l)) o)) items);
      tasks = linked_tasks program.tasks i.tasks (λ x among. among) h.tasks;
      interrupts = λ schedule. (λ j. interrupts_of (λ channel. handled_object channel j) schedule);
      attached = attached_handler;
      code = code;
      words = first_words laws t legal restricted i g of_program sizes well_formed;
    }

pub sections_mean_the_same : LawsOfNames → QuietStays → ViewsOn → ViewsBack → InitialValuesHaveShape → ImagesHaveSize → LinkedMeansTheSame → LinkedKeepsCount
    → SectionsMeanTheSame
sections_mean_the_same laws quiet views back shaped sizes means keeps t i legal restricted well_formed h =
    let program = program_of t in
    let linked = sections_linked t i h laws quiet views back shaped legal restricted well_formed sizes in (
      means t i (package_of program h.directory) (numbers_of program h.directory) well_formed legal restricted linked,
      keeps t i (package_of program h.directory) (numbers_of program h.directory) well_formed legal restricted linked,
    )
