-- Which frames of code stand for which work of a task.
use Rattle.std.specs.Prelude.{◌≡◌, ◌≢◌, ◌⊎◌, ◌≤◌, ℕ, suc, ◌+◌, ◌*◌, ℤ, pos, Bool, true, false, List, [], ◌∷◌, length, map, reverse, Option, Some, None, ◌<◌}
use Rattle.part_code.specs.ada_tree.specs.Size.{declaration_size, stmt_size, stmts_size}
use Rattle.part_code.specs.ada_tree.specs.StatementTree.{NoHandlers, MoreHandlers, StmtTrees}
use Rattle.part_code.specs.base.specs.declared.schedule.ScheduleLine.{ScheduleLine}
use Rattle.part_code.specs.handlers.specs.Innermost.{handler_of}
use Rattle.kernel.specs.State.{Action, Kernel, Outcome, Serves}
use Rattle.kernel.specs.Effects.{Effect, Ends, Queues, Quiet, after, is_above_ceiling, is_inside_any, Delays}
use Rattle.kernel.specs.Worlds.{is_handler_over}
use Rattle.part_code.specs.image.specs.Sections.{Sections, first_place}
use Rattle.part_code.specs.image.specs.Operations.{called, results_of}
use Rattle.part_code.specs.image.specs.Frames.{Inner, Opened, Serving, Role, Frame, TaskState, Words, own_object}
use Rattle.part_code.specs.image.specs.Starting.{lowest_frame}
use Rattle.part_code.specs.image.specs.Steps as steps
use Rattle.part_code.specs.image.specs.declared.instruction.Operation.TheVariants as op
use Rattle.part_code.specs.types.specs.Values.{Value}
use Rattle.step_soundness.specs.meaning.specs.Meeting.{Relation}
use Rattle.step_soundness.specs.meaning.specs.Programs.{Parameter, Procedure, Program}
use Rattle.step_soundness.specs.meaning.specs.Calls.{results}
use Rattle.step_soundness.specs.meaning.specs.Works.{Item, Declares, DeclaresParameter, Sequence, Does, DoesMain, Repeats, RepeatsWhile, RepeatsFor, Handles, EndsHandler, EndsCall, EndsAction, EndsServed, Queued, Completion, Completed, Pending, Work, Goes, Copies, Raising, Activation, GivenToCaller, Store, Target, TaskWork, ends_of_calls}
use Rattle.step_soundness.specs.meaning.specs.Works as works
use Rattle.step_soundness.specs.meaning.specs.SourceSteps.{before, completed, handler_for}
use Rattle.step_soundness.specs.Fitting.{taken_types}
use Rattle.step_soundness.specs.Objects.{AreOf, IsException}
use Rattle.part_code.specs.expr_code.specs.Views.{At, placed}
use Rattle.part_code.specs.expr_code.specs.Coming.{size_of}
use Rattle.part_code.specs.expr_code.specs.Computing.{ArePassed}
use Rattle.part_code.specs.expr_code.specs.Seeing.{Package}
use Rattle.part_code.specs.Resting.{AreHeld, Framed, HeldWord, NarrowsFrame, Rests, RestsWith, Shows, StandsFor, held_offset}
use Rattle.part_code.specs.Handling.{GoesBy, Handling, exception_in}
use Rattle.part_code.specs.Copying.{AreCopies, ArePlaced, GivesBack, addresses_of, copies_on, held_at, passed_words}
use Rattle.part_code.specs.declared.call.Destination.{Destination}
use Rattle.part_code.specs.Counting.{IsCounted, in_turn, are_turns_inside}
use Rattle.part_code.specs.Jumping.{Jumps}
use Rattle.part_code.specs.Statements.{AreHandlers, AreStatements, IsDeclared, IsForever, IsMainStatementCode, IsParameterDeclared, IsSequence, IsStatement, IsWhile, Numbers, Ways, shapes_of, within_handler, within_loop}
use Rattle.part_code.specs.base.specs.Arithmetic.{is_in_base_range}

-- ---- what is left to do, as a size that falls where no code is run

abbrev item_size : Item → ℕ
item_size (Declares d) = 4 * declaration_size d
item_size (Sequence body hs) = 4 * stmts_size body + 2
item_size (Does s) = 4 * stmt_size s
item_size (EndsCall names opened xs) = 3
item_size i = 1

abbrev pub items_size : List Item → ℕ
items_size [] = 0
items_size (i ∷ items) = item_size i + items_size items

abbrev pub work_size : Work → ℕ
work_size (Goes items) = suc (items_size items)
work_size (Copies vs xs items) = suc (suc (items_size items))
work_size (Raising x items) = items_size items

-- how many frames stand below that of a task which has still to do these items
abbrev pub frames_in : List Item → ℕ
frames_in items = ends_of_calls items

-- the role of the frame of a call, which has opened an action of this object, or none
abbrev pub role_of : (opened : Option ℕ) → Role
role_of None = Inner
role_of (Some o) = Opened o

-- the addresses that each task has passed in the entry call in which it waits
abbrev pub Note : Type 0
Note = ℕ → List ℕ

-- what a call passes stands on the operand stack, or was taken from it
abbrev pub stack_at_call : (passed : Bool) → List Parameter → List Value → (addresses : List ℕ) → List ℤ
stack_at_call true ps vs addresses = reverse (passed_words ps vs addresses)
stack_at_call false ps vs addresses = []

module _ (i : Sections) (program : Program) (g : Package) (numbers : Numbers) where
  -- places of the subprogram's code
  abbrev pub Inside : ℕ → ℕ → Type 0
  Inside n place = (first_place i n ≤ place) × (place < first_place i n + size_of i n)

  -- What is visible now, the ways out, where exceptions go on, the words that are held, and what is visible behind the innermost loop, at the end of the body,
  -- and at the handlers of the innermost sequence that has some.
  pub record Around : Type 0 where
    pub visible : Framed
    pub ways : Ways
    pub raised : Handling
    pub held : List HeldWord
    pub behind : Framed
    pub ending : Framed
    pub handling : Framed

  abbrev pub with_visible : Framed → Around → Around
  with_visible v a = record a { visible = v }

  -- in the statements of a loop with this way out, of which this is around
  abbrev pub in_loop : ℕ → Framed → Around → Around
  in_loop exit v outer = record outer { visible = v; ways = within_loop exit outer.ways; behind = outer.visible }

  -- in the statements of a turn of a loop over a range, of which this is around
  abbrev pub in_range : (exit counter limit : ℕ) → (now last : ℤ) → Framed → Around → Around
  in_range exit counter limit now last v outer = record outer {
    visible = v;
    ways = within_loop exit outer.ways;
    held = in_turn counter limit now last outer.held;
    behind = outer.visible;
  }

  -- in statements that have handlers
  abbrev pub in_sequence : Handling → Framed → Around → Around
  in_sequence inner v outer = record outer { visible = v; raised = inner; handling = outer.visible }

  -- in those of a handler, which holds its exception
  abbrev pub in_handler : (word exception : ℕ) → Framed → Around → Around
  in_handler word exception v outer = record outer {
    visible = v;
    ways = within_handler word outer.ways;
    held = exception_in word exception ∷ outer.held;
  }

  -- what is visible at the ways out, and at the handlers, is visible here
  abbrev pub ReachesWays : Around → Framed → Type 0
  ReachesWays a v = Shows g v a.behind × Shows g v a.ending × Shows g v a.handling

  -- the part of the subprogram's code between two places, to which forward jumps lead, in front of all statements
  pub record LeadsInto (v : Framed) (n from at to : ℕ) (now : Framed) : Type 0 where
    pub jumps : Jumps i from at
    pub narrows : NarrowsFrame g v now
    pub from_inside : Inside n from
    pub up : at ≤ to
    pub to_inside : Inside n to

  -- the part of the subprogram's code between two places from which ways out may lead
  pub record LeadsByWays (a : Around) (n from at to : ℕ) (now : Framed) : Type 0 where
    pub jumps : Jumps i from at
    pub narrows : NarrowsFrame g a.visible now
    pub reaches : ReachesWays a now
    pub from_inside : Inside n from
    pub up : at ≤ to
    pub to_inside : Inside n to

  -- the jump back to the place at which each turn of a loop starts; the loop's code ends behind it, and its way out is this
  pub record LeadsBack (a : Around) (n from head start out to : ℕ) (outer : Around) : Type 0 where
    pub back : ℕ
    pub jumps : Jumps i from back
    pub jump : At i back (op.Jump start)
    pub end : to ≡ suc back
    pub up : head ≤ back
    pub loop : a ≡ in_loop out a.visible outer
    pub narrows : NarrowsFrame g a.visible outer.visible
    pub reaches : Shows g outer.visible outer.ending
    pub handles : Shows g outer.visible outer.handling
    pub from_inside : Inside n from
    pub head_inside : Inside n head
    pub to_inside : Inside n to

  -- forward jumps to the end of a turn of a loop over a range, from whose way out forward jumps lead to the end
  pub record LeadsNext (a : Around) (n from head to back counter limit : ℕ) (now last : ℤ) (inner : Framed) (outer : Around) : Type 0 where
    pub jumps : Jumps i from back
    pub out : ℕ
    pub way : Jumps i out to
    pub out_inside : Inside n out
    pub loop : a ≡ in_range out counter limit now last a.visible outer
    pub narrows : NarrowsFrame g a.visible inner
    pub reaches : Shows g outer.visible outer.ending
    pub handles : Shows g outer.visible outer.handling
    pub from_inside : Inside n from
    pub head_inside : Inside n head
    pub to_inside : Inside n to

  -- forward jumps over the handlers of a sequence, which stand in front of its end
  pub record LeadsOver (a : Around) (n from at to : ℕ) (outer : Around) : Type 0 where
    pub jumps : Jumps i from to
    pub sequence : a ≡ in_sequence a.raised a.visible outer
    pub narrows : NarrowsFrame g a.visible outer.visible
    pub reaches : ReachesWays outer outer.visible
    pub from_inside : Inside n from
    pub at_inside : Inside n at
    pub to_inside : Inside n to

  -- forward jumps from the end of a handler to the end of its sequence
  pub record LeadsBehind (a : Around) (n from to word exception : ℕ) (outer : Around) : Type 0 where
    pub jumps : Jumps i from to
    pub handler : a ≡ in_handler word exception a.visible outer
    pub shows : Shows g a.visible outer.visible
    pub reserved : a.visible.reserved ≡ word ∷ outer.visible.reserved
    pub from_inside : Inside n from
    pub to_inside : Inside n to

  -- at the end of a body no loop and no handler is left, and what is raised goes on at the call
  pub record IsOutermost (a : Around) : Type 0 where
    pub exit : a.ways.exit ≡ None
    pub handled : a.ways.handled ≡ None
    pub raised : (x : ℕ) → a.raised x ≡ None

  -- the return of a body without results
  pub record LeadsOut (a : Around) (n from : ℕ) : Type 0 where
    pub at : ℕ
    pub jumps : Jumps i from at
    pub return : At i at op.Return
    pub results : results_of (called i n) ≡ 0
    pub outermost : IsOutermost a
    pub from_inside : Inside n from
    pub to_inside : Inside n at

  -- the end of a body that gives back the values of these objects, each with one of these addresses, which are held meanwhile
  pub record LeadsEnd (a : Around) (n from : ℕ) (now : Framed) (names : List (List ℕ)) (addresses : List ℕ) : Type 0 where
    pub at : ℕ
    pub last : Framed
    pub jumps : Jumps i from at
    pub narrows : NarrowsFrame g now last
    pub gives : GivesBack i program g last names n at
    pub held : a.held ≡ held_at last.reserved addresses
    pub outermost : IsOutermost a
    pub from_inside : Inside n from
    pub to_inside : Inside n gives.back

  -- the frame and the activation that wait for the end of the call, and go on behind it
  pub record WaitsFor (outer : Around) (c : Frame) (o : Activation) : Type 0 where
    pub object : own_object i c ≡ o.within
    pub rests : RestsWith g outer.visible outer.held o c.locals
    pub stack : c.stack ≡ []
    pub here : Inside c.subprogram c.place
    pub next : Inside c.subprogram (suc c.place)
    pub handles : Shows g outer.visible outer.handling

  -- from which places of which subprogram code goes on with what is left to do, around these names
  abbrev pub Places : Type 1
  Places = Around → (n from : ℕ) → Type 0

  -- The frame goes on with the items at its place.
  pub record GoesOnBy (goes_on : Places) (items : List Item) (own : Activation) (s : TaskState) : Type 0 where
    pub around : Around
    pub follows : goes_on around s.frame.subprogram s.frame.place
    pub rests : RestsWith g around.visible around.held own s.frame.locals
    pub object : own_object i s.frame ≡ own.within
    pub stack : s.frame.stack ≡ []
    pub going : s.raising ≡ None
    pub depth : length s.callers ≡ frames_in items

  -- The results of a call stand on the operand stack, each above its address; the code stores them, and goes on with the items.
  pub record CopiesBy (goes_on : Places) (vs : List Value) (xs : List Target) (items : List Item) (own : Activation) (s : TaskState) : Type 0 where
    pub around : Around
    pub destinations : List Destination
    pub to : ℕ
    pub placed : ArePlaced around.visible destinations xs
    pub many : length vs ≡ length xs
    pub up : s.frame.place ≤ to
    pub copies : AreCopies i program g around.visible s.frame.place to destinations
    pub from_inside : Inside s.frame.subprogram s.frame.place
    pub to_inside : Inside s.frame.subprogram to
    pub follows : goes_on around s.frame.subprogram to
    pub rests : RestsWith g around.visible around.held own s.frame.locals
    pub object : own_object i s.frame ≡ own.within
    pub stack : s.frame.stack ≡ copies_on vs (addresses_of around.visible.names xs) []
    pub going : s.raising ≡ None
    pub depth : length s.callers ≡ frames_in items
    pub goes : GoesBy i around.raised s.frame.place to
    pub handles : Shows g around.visible around.handling

  -- The exception goes on in the frame, as around these names, from which code goes on with the items.
  pub record RaisesBy (goes_on : Places) (x : ℕ) (items : List Item) (own : Activation) (f : Frame) (fs : List Frame) : Type 0 where
    pub around : Around
    pub from : ℕ
    pub follows : goes_on around f.subprogram from
    pub known : IsException program x
    pub goes : handler_of i.rows f.place x ≡ around.raised x
    pub rests : Rests g around.handling own f.locals
    pub held : AreHeld f.locals around.held
    pub apart : map held_offset around.held ≡ around.visible.reserved
    pub object : own_object i f ≡ own.within
    pub depth : length fs ≡ frames_in items

  -- at the end of a handler no results are copied back
  abbrev pub EndsBare : Completion → Type 0
  EndsBare (Completed vs xs) = (vs ≡ []) × (xs ≡ [])
  EndsBare (Pending x) = Unit {0}

  -- the frame that never runs, below those of a handler: there nothing is left to do
  pub record IsLowest (done : Completion) (items : List Item) (s : TaskState) : Type 0 where
    pub lowest : s.frame.subprogram ≡ (lowest_frame i).subprogram
    pub callers : s.callers ≡ []
    pub last : items ≡ []
    pub bare : EndsBare done

  abbrev pub Completes : Places → Completion → List Item → (own : Activation) → TaskState → Type 0
  Completes goes_on (Completed vs xs) items own s = CopiesBy goes_on vs xs items own s
  Completes goes_on (Pending x) items own s = (s.raising ≡ Some x) × RaisesBy goes_on x items own s.frame s.callers

  -- What a state stands for once an action has ended: the results are copied back, or the exception goes on in the frame; or a handler is over.
  abbrev pub CompletesBy : Places → Completion → List Item → (own : Activation) → TaskState → Type 0
  CompletesBy goes_on done items own s = Completes goes_on done items own s ⊎ IsLowest done items s

  -- Behind the end of a call the code of the frame below copies back to the targets, and goes on.
  pub record CallsOn (goes_on : Places) (outer : Around) (c : Frame) (o : Activation) (ds : List Destination) (to : ℕ) (names : List (List ℕ))
      (xs : List Target) : Type 0 where
    pub waits : WaitsFor outer c o
    pub many : length ds ≡ length names
    pub placed : ArePlaced outer.visible ds xs
    pub over : suc c.place ≤ to
    pub inside : Inside c.subprogram to
    pub copies : AreCopies i program g outer.visible (suc c.place) to ds
    pub follows : goes_on outer c.subprogram to
    pub goes : GoesBy i outer.raised c.place to

  -- Behind the end of a handler's procedure, whose action is the handler's own, nothing is left to do.
  pub record IsLastBelow (c : Frame) (below : List Frame) (names : List (List ℕ)) (opened : Option ℕ) (xs : List Target) (items : List Item) : Type 0 where
    pub lowest : c.subprogram ≡ (lowest_frame i).subprogram
    pub callers : below ≡ []
    pub no_names : names ≡ []
    pub opens : (o : ℕ) × (opened ≡ Some o)
    pub no_targets : xs ≡ []
    pub last : items ≡ []

  -- where task t has no action open, and may call the entry of an object in whose queue a call waits, the barrier is closed (RM 9.5.3)
  abbrev pub AreQueuesClosed : Kernel → (t : ℕ) → Words → Type 0
  AreQueuesClosed k t m = (o u : ℕ) → k.queued o ≡ Some u → is_inside_any k t ≡ false → is_above_ceiling k t o ≡ false → steps.is_open i m o ≡ false

  -- the next step of task t raises the exception from this frame on, whatever the words are
  pub record RaisesNext (k : Kernel) (t x : ℕ) (s : TaskState) (f : Frame) (fs : List Frame) : Type 0 where
    pub raises : (schedule : List ScheduleLine) (m : Words) → AreQueuesClosed k t m
        → steps.act i schedule k t (record { memory = m; task = s }) ≡ steps.unwind i m x f fs

  -- the next step of task t ends the action of this object, whatever the words are, and leaves this state
  pub record EndsItsAction (k : Kernel) (t o : ℕ) (s next : TaskState) : Type 0 where
    pub ends : (schedule : List ScheduleLine) (m : Words) → AreQueuesClosed k t m
        → steps.act i schedule k t (record { memory = m; task = s })
        ≡ steps.does (Ends (steps.is_open i m o)) m next.frame next.callers next.raising None

  -- the same is given to a served caller whose targets have these addresses: results, each above its address, or an exception
  abbrev pub GivesSame : (addresses : List ℕ) → Option GivenToCaller → Option steps.Given → Type 0
  GivesSame addresses (Some (works.Results vs)) (Some (steps.Results words)) = (length vs ≡ length addresses) × (words ≡ copies_on vs addresses [])
  GivesSame addresses (Some (works.Raised x)) (Some (steps.Raised y)) = (x ≡ y) × IsException program x
  GivesSame addresses p q = ⊥

  -- ---- under a note

  module _ (note : Note) where
    -- The code at a place of the subprogram goes on with the items, in a frame with this role, above these frames and activations.
    abbrev pub Follows : Around → (n from : ℕ) → List Item → Role → List Frame → List Activation → Type 0
    Follows a n from [] role fs os =
        LeadsOut a n from × ((ret : ℕ) → a.ways.return ≡ Some ret → (a.visible.reserved ≡ a.ending.reserved) × LeadsOut a n ret) × (fs ≡ [])
    Follows a n from (Declares d ∷ items) role fs os =
        (at : ℕ) × (to : ℕ) × (now : Framed) × (later : Framed) × LeadsByWays a n from at to now × NarrowsFrame g later now
        × IsDeclared i program g numbers now at to later d
        × Follows (with_visible later a) n to items role fs os
        × GoesBy i a.raised at to
    Follows a n from (DeclaresParameter f ∷ items) role fs os =
        (at : ℕ) × (to : ℕ) × (now : Framed) × (later : Framed) × LeadsInto a.visible n from at to now × NarrowsFrame g later now
        × IsParameterDeclared i program g numbers now at to later f
        × Follows (with_visible later a) n to items role fs os
    Follows a n from (Sequence body hs ∷ items) role fs os =
        (at : ℕ) × (to : ℕ) × (now : Framed) × LeadsByWays a n from at to now
        × IsSequence i program g numbers now a.ways a.raised at to body hs
        × Follows (with_visible now a) n to items role fs os
    Follows a n from (Does s ∷ items) role fs os =
        (at : ℕ) × (to : ℕ) × (now : Framed) × LeadsByWays a n from at to now
        × IsStatement i program g numbers now a.ways a.raised at to s
        × Follows (with_visible now a) n to items role fs os
    Follows a n from (DoesMain s ∷ items) role fs os =
        (at : ℕ) × (to : ℕ) × (now : Framed) × LeadsByWays a n from at to now
        × IsMainStatementCode i program g numbers at to s
        × Follows (with_visible now a) n to items role fs os
        × GoesBy i a.raised at to
    Follows a n from (Handles NoHandlers ∷ items) role fs os = Follows a n from items role fs os
    Follows a n from (Handles (MoreHandlers choices body rest) ∷ items) role fs os =
        (at : ℕ) × (to : ℕ) × (outer : Around) × LeadsOver a n from at to outer
        × AreHandlers i program g numbers outer.visible outer.ways outer.raised a.raised at to (MoreHandlers choices body rest)
        × Follows outer n to items role fs os
    Follows a n from (EndsHandler x ∷ items) role fs os =
        (to : ℕ) × (word : ℕ) × (outer : Around) × LeadsBehind a n from to word x outer × Follows outer n to items role fs os
    Follows a n from (Repeats body ∷ items) role fs os =
        (head : ℕ) × (to : ℕ) × (outer : Around)
        × (code : IsForever i program g numbers head to
        (λ exit x y. AreStatements i program g numbers outer.visible (within_loop exit outer.ways) outer.raised x y body))
        × LeadsBack a n from head code.0 code.1 to outer
        × Follows outer n to items role fs os
    Follows a n from (RepeatsWhile e body ∷ items) role fs os =
        (head : ℕ) × (to : ℕ) × (outer : Around)
        × (code : IsWhile i program g numbers outer.visible outer.raised head to e
        (λ exit x y. AreStatements i program g numbers outer.visible (within_loop exit outer.ways) outer.raised x y body))
        × LeadsBack a n from head code.0 code.1 to outer
        × Follows outer n to items role fs os
    Follows a n from (RepeatsFor parameter reversed now last body ∷ items) role fs os =
        (head : ℕ) × (to : ℕ) × (outer : Around) × (c : IsCounted i g outer.visible head to parameter reversed)
        × (leads : LeadsNext a n from head to c.back c.counter c.limit now last c.inner outer)
        × AreStatements i program g numbers c.inner (within_loop leads.out outer.ways) outer.raised c.start c.back body
        × Follows outer n to items role fs os
        × GoesBy i outer.raised c.back to
        × (are_turns_inside c.subtype reversed now last ≡ true)
    Follows a n from (EndsCall names opened xs ∷ items) role fs os =
        (ret : ℕ) × (c : Frame) × (below : List Frame) × (o : Activation) × (older : List Activation) × (outer : Around) × (ds : List Destination) × (to : ℕ)
        × (role ≡ role_of opened)
        × LeadsEnd a n from a.visible names (addresses_of outer.visible.names xs)
        × (a.ways.return ≡ Some ret) × (a.visible.reserved ≡ a.ending.reserved)
        × LeadsEnd a n ret a.ending names (addresses_of outer.visible.names xs)
        × (fs ≡ c ∷ below) × (os ≡ o ∷ older)
        × (CallsOn (λ b m at. Follows b m at items c.role below older) outer c o ds to names xs ⊎ IsLastBelow c below names opened xs items)
    -- the body is run for task u; behind its end the frame below goes on with what was still to do, where an exception may be pending
    Follows a n from (EndsServed o names done ∷ items) role fs os =
        (u : ℕ) × (ret : ℕ) × (c : Frame) × (below : List Frame) × (pending : Option ℕ) × (own : Activation) × (older : List Activation)
        × (role ≡ Serving o u pending)
        × (length (note u) ≡ length names)
        × LeadsEnd a n from a.visible names (note u)
        × (a.ways.return ≡ Some ret) × (a.visible.reserved ≡ a.ending.reserved)
        × LeadsEnd a n ret a.ending names (note u)
        × (fs ≡ c ∷ below) × (os ≡ own ∷ older)
        × CompletesBy (λ b m at. Follows b m at items c.role below older) done items own (record { frame = c; callers = below; raising = pending })
    Follows a n from (i ∷ items) role fs os = ⊥

    abbrev pub FollowsIn : List Item → Role → List Frame → List Activation → Places
    FollowsIn items role fs os = λ a n from. Follows a n from items role fs os

    abbrev pub IsGoingOn : List Item → (own : Activation) → List Activation → TaskState → Type 0
    IsGoingOn items own os s = GoesOnBy (FollowsIn items s.frame.role s.callers os) items own s

    abbrev pub IsCopying : List Value → List Target → List Item → (own : Activation) → List Activation → TaskState → Type 0
    IsCopying vs xs items own os s = CopiesBy (FollowsIn items s.frame.role s.callers os) vs xs items own s

    -- The frame has come to a handler with the exception on its operand stack; its next instruction keeps it, and then the code goes on with the items.
    pub record IsCatching (items : List Item) (own : Activation) (os : List Activation) (s : TaskState) : Type 0 where
      pub inside : Inside s.frame.subprogram s.frame.place
      pub place : ℕ
      pub locals : List ℤ
      pub acts : (schedule : List ScheduleLine) (k : Kernel) (t : ℕ) (m : Words)
          → steps.act i schedule k t (record { memory = m; task = s })
          ≡ steps.does Quiet m (record s.frame { place = place; locals = locals; stack = [] }) s.callers None None
      pub going : IsGoingOn items own os (record { frame = record s.frame { place = place; locals = locals; stack = [] }; callers = s.callers; raising = None })

    -- The exception goes on in the frame at a handler, which keeps it there and has these statements.
    pub record IsCaught (x : ℕ) (f : Frame) (fs : List Frame) (own : Activation) (os : List Activation) (body : StmtTrees) (items : List Item) : Type 0 where
      pub target : ℕ
      pub taken : handler_of i.rows f.place x ≡ Some target
      pub catching : IsCatching (before body (EndsHandler x ∷ items)) own os (record { frame = placed f target (pos x ∷ []); callers = fs; raising = None })

    abbrev pub CaughtIf : (x : ℕ) (f : Frame) (fs : List Frame) (own : Activation) (os : List Activation) (items : List Item) → Option StmtTrees →
        (other : Type 0)
        → Type 0
    CaughtIf x f fs own os items (Some body) other = IsCaught x f fs own os body items
    CaughtIf x f fs own os items None other = other

    -- Where the exception goes on that is raised in the frame, above these frames and activations: at the first handler for it, or it ends the task.
    abbrev pub Catches : (x : ℕ) (f : Frame) (fs : List Frame) (own : Activation) (os : List Activation) → List Item → Type 0
    Catches x f fs own os [] = (handler_of i.rows f.place x ≡ None) × (fs ≡ [])
    Catches x f fs own os (Handles hs ∷ items) = CaughtIf x f fs own os items (handler_for program x hs) (Catches x f fs own os items)
    Catches x f fs own os (EndsCall names None xs ∷ items) =
        (c : Frame) × (below : List Frame) × (o : Activation) × (older : List Activation)
        × (f.role ≡ Inner) × (handler_of i.rows f.place x ≡ None) × (fs ≡ c ∷ below) × (os ≡ o ∷ older)
        × Catches x c below o older items
    -- the action that the call has opened ends first
    Catches x f fs own os (EndsCall names (Some object) xs ∷ items) =
        (c : Frame) × (below : List Frame) × (o : Activation) × (older : List Activation)
        × (f.role ≡ Opened object) × (handler_of i.rows f.place x ≡ None) × (fs ≡ c ∷ below) × (os ≡ o ∷ older)
        × CompletesBy (FollowsIn items c.role below older) (Pending x) items o (record { frame = c; callers = below; raising = Some x })
    -- the exception is the served caller's
    Catches x f fs own os (EndsServed object names done ∷ items) =
        (u : ℕ) × (c : Frame) × (below : List Frame) × (pending : Option ℕ) × (o : Activation) × (older : List Activation)
        × (f.role ≡ Serving object u pending) × (handler_of i.rows f.place x ≡ None) × (fs ≡ c ∷ below) × (os ≡ o ∷ older)
        × CompletesBy (FollowsIn items c.role below older) done items o (record { frame = c; callers = below; raising = pending })
    Catches x f fs own os (i ∷ items) = Catches x f fs own os items

    abbrev pub IsCompleted : Completion → List Item → (own : Activation) → List Activation → TaskState → Type 0
    IsCompleted done items own os s = CompletesBy (FollowsIn items s.frame.role s.callers os) done items own s

    -- ---- entry calls (RM 9.5.3)

    -- The frame stands at its call of this entry with these values of its parameters: behind the call the code copies back to the targets, which have these
    -- addresses, and goes on with the items.
    pub record IsAtCall (q : Procedure) (vs : List Value) (xs : List Target) (addresses : List ℕ) (passed : Bool) (items : List Item) (own : Activation)
        (os : List Activation) (s : TaskState) : Type 0 where
      pub around : Around
      pub destinations : List Destination
      pub to : ℕ
      pub shaped : ArePassed (shapes_of i program g numbers q) vs
      pub typed : AreOf program.scope (taken_types q.parameters) vs
      pub addressed : addresses ≡ addresses_of around.visible.names xs
      pub placed : ArePlaced around.visible destinations xs
      pub many : length destinations ≡ length (results q.parameters)
      pub over : suc s.frame.place ≤ to
      pub copies : AreCopies i program g around.visible (suc s.frame.place) to destinations
      pub here : Inside s.frame.subprogram s.frame.place
      pub next : Inside s.frame.subprogram (suc s.frame.place)
      pub to_inside : Inside s.frame.subprogram to
      pub follows : FollowsIn items s.frame.role s.callers os around s.frame.subprogram to
      pub rests : RestsWith g around.visible around.held own s.frame.locals
      pub object : own_object i s.frame ≡ own.within
      pub stack : s.frame.stack ≡ stack_at_call passed q.parameters vs addresses
      pub going : s.raising ≡ None
      pub depth : length s.callers ≡ frames_in items
      pub goes : GoesBy i around.raised s.frame.place to
      pub handles : Shows g around.visible around.handling

    -- ---- tasks

    -- what the state of task t stands for in a kernel
    pub data CodeStands (k : Kernel) (t : ℕ) (w : TaskWork) (s : TaskState) : Type 0 where
      Going : (items : List Item) → w.work ≡ Goes items → IsGoingOn items w.own w.callers s → CodeStands k t w s
      Copying : (vs : List Value) (xs : List Target) (items : List Item) → w.work ≡ Copies vs xs items → IsCopying vs xs items w.own w.callers s
          → CodeStands k t w s
      Catching : (items : List Item) → w.work ≡ Goes items → IsCatching items w.own w.callers s → CodeStands k t w s
      -- the next step of the task, which runs, raises the exception
      Raised : (x : ℕ) (items : List Item) (f : Frame) (fs : List Frame) → w.work ≡ Raising x items → k.running ≡ Some t → RaisesNext k t x s f fs
          → Catches x f fs w.own w.callers items
          → CodeStands k t w s
      -- an action has ended, and the exception is still to be raised: others may run before
      Throwing : (x : ℕ) (items : List Item) → w.work ≡ Raising x items → s.raising ≡ Some x
          → RaisesBy (FollowsIn items s.frame.role s.callers w.callers) x items w.own s.frame s.callers
          → CodeStands k t w s
      -- the body of a call has ended that opened an action, or an exception has left it: its frame is still there, until the task, which runs, ends the action
      Closing : (o : ℕ) (done : Completion) (items : List Item) (next : TaskState) → w.work ≡ Goes (EndsAction o done ∷ items) → k.running ≡ Some t
          → EndsItsAction k t o s next
          → IsCompleted done items w.own w.callers next
          → CodeStands k t w s
      -- the call waits in the queue of the object; or another task runs the entry's body for it
      Queueing : (o : ℕ) (q : Procedure) (vs : List Value) (xs : List Target) (items : List Item) → w.work ≡ Goes (Queued q vs xs ∷ items)
          → k.queued o ≡ Some t
          → IsAtCall q vs xs (note t) true items w.own w.callers s
          → CodeStands k t w s
      Awaiting : (q : Procedure) (vs : List Value) (xs : List Target) (items : List Item) → w.work ≡ Goes (Queued q vs xs ∷ items)
          → ((o : ℕ) → k.queued o ≢ Some t)
          → IsAtCall q vs xs (note t) false items w.own w.callers s
          → CodeStands k t w s
      Over : (o : Outcome) → k.outcome ≡ Some o → CodeStands k t w s

    -- ---- right behind a step

    -- The task has ended an action, and has not yet served a caller: what it has still to do, and what it gives to the caller for whom it ran the body.
    pub record HasEnded (k : Kernel) (t : ℕ) (w : TaskWork) (s : TaskState) (p : Option GivenToCaller) (q : Option steps.Given) : Type 0 where
      pub done : Completion
      pub items : List Item
      pub work : w.work ≡ completed done items
      pub goes_on : IsCompleted done items w.own w.callers s
      pub gives : (o u : ℕ) (outer : List Action) → k.actions t ≡ Serves o u ∷ outer → GivesSame (note u) p q

    -- The task is a handler that is over, and holds what its next start needs.
    pub record IsOver (k : Kernel) (t : ℕ) (is_open : Bool) (w : TaskWork) (s : TaskState) (p : Option GivenToCaller) (q : Option steps.Given) : Type 0 where
      pub over : is_handler_over k t (Ends is_open) ≡ true
      pub stands : (l : Kernel) → CodeStands l t w s
      pub gives : (o u : ℕ) (outer : List Action) → k.actions t ≡ Serves o u ∷ outer → GivesSame (note u) p q

    -- The task waits in the queue, in which there was no call before; the targets have addresses that no note tells yet.
    pub record HasQueued (k : Kernel) (o : ℕ) (w : TaskWork) (s : TaskState) : Type 0 where
      pub free : k.queued o ≡ None
      pub q : Procedure
      pub vs : List Value
      pub xs : List Target
      pub addresses : List ℕ
      pub items : List Item
      pub work : w.work ≡ Goes (Queued q vs xs ∷ items)
      pub at_call : IsAtCall q vs xs addresses true items w.own w.callers s

    -- what the state of task t stands for right behind its step with this effect, in kernel k before it
    abbrev pub LeavesBy : Kernel → (t : ℕ) → Effect → TaskWork → TaskState → Option GivenToCaller → Option steps.Given → Type 0
    LeavesBy k t (Ends is_open) w s p q = HasEnded k t w s p q ⊎ IsOver k t is_open w s p q
    LeavesBy k t (Queues o) w s p q = HasQueued k o w s
    LeavesBy k t (Delays until) w s p q = (is_in_base_range until ≡ true) × CodeStands (after t (Delays until) k) t w s
    LeavesBy k t e w s p q = CodeStands (after t e k) t w s

  -- Words stand for variables and components, and frames for the work of each task, under a note; after its step the frames stand for what it has still to do.
  -- That work breaks no rule is said nowhere here: it is so in each world of the program's runs.
  abbrev pub relation : Relation Note Store TaskWork GivenToCaller Words TaskState steps.Given
  relation = record {
    shares = StandsFor program g;
    stands = λ note k t w s. CodeStands note k t w s;
    leaves = λ note k t e w s p q. LeavesBy note k t e w s p q;
    size = λ w. work_size w.work;
  }
