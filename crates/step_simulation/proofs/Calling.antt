-- Calls of procedures.
use Rattle.std.proofs.Common.{◌≡◌, ℕ, zero, suc, ◌+◌, ◌-◌, ◌<◌, ◌≤◌, ℤ, List, [], ◌∷◌, length, map, Option, Some, None, ◌⊎◌, inl, refl, sym, ap, ◌∙◌, subst, arith}
use Rattle.std.specs.Prelude.{⊤}
use Rattle.part_code.specs.base.specs.Exceptions.{number_of}
use Rattle.part_code.specs.base.specs.declared.exceptions.PredefinedException.TheVariants.{ProgramError, StorageError}
use Rattle.part_code.specs.base.specs.declared.limits.TheConstants.{FRAMES}
use Rattle.kernel.specs.State.{Kernel}
use Rattle.kernel.specs.Effects.{Opens, Quiet, Refusal, after}
use Rattle.kernel.specs.Counting.{Done}
use Rattle.part_code.specs.image.specs.Frames.{Role, Frame, TaskState, frames_in_use, own_object}
use Rattle.part_code.specs.image.specs.Steps as steps
use Rattle.part_code.specs.image.specs.Steps.{act}
use Rattle.part_code.specs.image.specs.declared.subprograms.Kind.{Kind}
use Rattle.part_code.specs.types.specs.Evaluations.{Val, Gives, Raises, Meaningless, and_then}
use Rattle.part_code.specs.types.specs.Evaluating.{call}
use Rattle.part_code.specs.ada_tree.specs.declared.program.MainStatement.TheVariants as main
use Rattle.part_code.specs.ada_tree.specs.declared.expression.Identifier.{Identifier}
use Rattle.part_code.specs.ada_tree.specs.ExpressionTree.{ArgumentTrees, Arguments, Component, ExprTree, MoreArguments, MoreSelectors, Named, NameTree, NoArguments, NoSelectors, SelectorTrees, Text}
use Rattle.part_code.specs.types.specs.Shapes.{shape_of}
use Rattle.part_code.specs.ada_tree.specs.ExpressionTree as expressions
use Rattle.part_code.specs.ada_tree.specs.StatementTree as tree
use Rattle.step_soundness.specs.meaning.specs.Meeting.{Last}
use Rattle.step_soundness.specs.meaning.specs.Calls.{Actuals, Callee, body_items, actual_expression, actuals, activation_of, callee_by, callee_through, callee_with, procedure_among, procedure_here, results, with_actuals}
use Rattle.step_soundness.specs.meaning.specs.Programs.{Parameter, Procedure, Program, object_numbered}
use Rattle.step_soundness.specs.meaning.specs.SourceSteps as source
use Rattle.step_soundness.specs.meaning.specs.SourceSteps.{frames_here, place_of, with_value, work_step}
use Rattle.step_soundness.specs.meaning.specs.Works.{Item, Does, DoesMain, EndsCall, Goes, Activation, TaskWork}
use Rattle.step_soundness.specs.Fitting.{taken_types}
use Rattle.step_soundness.specs.Objects.{AreOf}
use Rattle.step_soundness.proofs.Calling.{among_owner, found_here}
use Rattle.part_code.specs.expr_code.specs.Views.{At, in_frame, placed, view_of}
use Rattle.part_code.specs.expr_code.specs.Coming.{Comes, Throws, size_of}
use Rattle.part_code.specs.expr_code.specs.Computing.{ArePassed}
use Rattle.part_code.specs.expr_code.proofs.Coming as coming
use Rattle.part_code.specs.Resting.{Framed, RestsWith}
use Rattle.part_code.specs.Copying.{AreCopies, ArePlaced, actuals_on, addresses_of, passed_actuals, passed_expression, passed_words, taken}
use Rattle.part_code.specs.declared.call.Destination.{Destination}
use Rattle.part_code.specs.Handling.{GoesBy}
use Rattle.part_code.specs.Statements.{IsCall, IsProcedureCode, parameter_subtype, procedure_kind, procedure_operation, shapes_of}
use Rattle.step_simulation.specs.Standing.{CodeStands, Follows, Going, IsGoingOn, LeadsByWays, LeavesBy, WaitsFor, frames_in, items_size, role_of, work_size}
use Rattle.step_simulation.proofs.Entering.{entered, entered_frame}
use Rattle.step_simulation.proofs.Going.{jumps_up}
use Rattle.step_simulation.proofs.Sizes.{item_counts}
use Rattle.step_simulation.proofs.Copying as copy
use Rattle.part_code.proofs.Handling.{goes_within}
use Rattle.step_simulation.proofs.Opening.{IsThrough, effect_of, enters, full, refusal_kept, refusal_of, refused}
use Rattle.step_simulation.proofs.Scenes.{Scene}
use Rattle.step_simulation.proofs.Scenes as scene

-- how the procedure is found that a name calls: one which is called through an object is its own, and else it belongs to the object of the body that calls, or
-- to none
pub record IsFoundBy (p : Program) (within : Option ℕ) (c : Callee) : Type 0 where
  pub owner : Option ℕ
  pub name : List ℕ
  pub found : procedure_among p.procedures owner name ≡ Some c.procedure
  pub own : (o : ℕ) → c.through ≡ Some o → c.procedure.object ≡ Some o
  pub here : c.through ≡ None → (c.procedure.object ≡ within) ⊎ (c.procedure.object ≡ None)

pub callee_found : (p : Program) (within : Option ℕ) (first : Identifier) (s : SelectorTrees) (c : Callee) → callee_by p within first s ≡ Some c
    → IsFoundBy p within c
callee_found p within first s c h = by_selectors s h
  where
    by_name : (o : Option Procedure) (a : ArgumentTrees) → procedure_here p within first.name ≡ o → callee_with o None a ≡ Some c → IsFoundBy p within c
    by_name (Some q) a is e =
        let here = found_here p within first.name q is in
        let same : q ≡ c.procedure = ap (λ x. elim x [ None ↦ q | Some y ↦ y.procedure ]) e in
        let through : None ≡ c.through = ap (λ x. elim x [ None ↦ None | Some y ↦ y.through ]) e in
        record {
          owner = here.owner;
          name = first.name;
          found = here.is ∙ ap Some same;
          own = λ o t. let never = through ∙ t in cc;
          here = λ t. subst (λ x. (x.object ≡ within) ⊎ (x.object ≡ None)) same here.place;
        }
    by_name None a is e = cc

    by_object : (o : Option ℕ) (name : List ℕ) (a : ArgumentTrees) → callee_through p o name a ≡ Some c → IsFoundBy p within c
    by_object (Some n) name a e = by_found (procedure_among p.procedures (Some n) name) refl e
      where
        by_found : (o : Option Procedure) → procedure_among p.procedures (Some n) name ≡ o → callee_with o (Some n) a ≡ Some c → IsFoundBy p within c
        by_found (Some q) is e =
            let same : q ≡ c.procedure = ap (λ x. elim x [ None ↦ q | Some y ↦ y.procedure ]) e in
            let through : Some n ≡ c.through = ap (λ x. elim x [ None ↦ Some n | Some y ↦ y.through ]) e in
            let found = is ∙ ap Some same in
            record {
              owner = Some n;
              name = name;
              found = found;
              own = λ o t. among_owner p.procedures (Some n) name c.procedure found ∙ through ∙ t;
              here = λ t. let never = through ∙ t in absurd cc;
            }
        by_found None is e = cc
    by_object None name a e = cc

    by_selectors : (s : SelectorTrees) → callee_by p within first s ≡ Some c → IsFoundBy p within c
    by_selectors NoSelectors e = by_name (procedure_here p within first.name) NoArguments refl e
    by_selectors (MoreSelectors (Arguments a) NoSelectors) e = by_name (procedure_here p within first.name) a refl e
    by_selectors (MoreSelectors (Component name) NoSelectors) e = by_object (object_numbered p.scope first) name.name NoArguments e
    by_selectors (MoreSelectors (Component name) (MoreSelectors (Arguments a) NoSelectors)) e = by_object (object_numbered p.scope first) name.name a e
    by_selectors other e = cc

-- what is called through an object, and has no barrier, is a procedure of the object
through_kind : (through object : Option ℕ) (barrier : Option ExprTree) (kind : Kind) → kind ≡ procedure_kind object barrier → barrier ≡ None
    → ((o : ℕ) → through ≡ Some o → object ≡ Some o)
    → IsThrough through kind
through_kind None object barrier kind is none own = tt
through_kind (Some o) object barrier kind is none own = is ∙ ap (λ b. procedure_kind object b) none ∙ ap (λ x. procedure_kind x None) (own o refl)

module _ (this : Scene) where
  open this use {quiet, i, program, g, numbers, has, schedule, k, t, calm, store, m, shares, w}

  abbrev now : source.Here
  now = scene.now this

  abbrev Meet : TaskState → Type 0
  Meet s = scene.Meet this s

  abbrev Meets : source.SourceStepped → steps.Stepped → Type 0
  Meets x y = scene.Meets this x y

  abbrev Setting : Type 0
  Setting = scene.Setting this

  abbrev seeing : Framed → Setting → Setting
  seeing v a = scene.seeing this v a

  abbrev In : ℕ → ℕ → Type 0
  In n place = scene.In this n place

  abbrev Follow : Setting → (n from : ℕ) → List Item → Role → List Frame → List Activation → Type 0
  Follow a n from items role above waiting = scene.Follow this a n from items role above waiting

  module _ (s : TaskState) where
    abbrev f : Frame
    f = s.frame

    abbrev fs : List Frame
    fs = s.callers

    abbrev IsAtItems : List Item → Type 0
    IsAtItems items = scene.IsAtItems this s items

    -- ---- calls

    -- actual parameters, as the values of calls tell them
    one_actual : (items : List Item) (q : Parameter) (e : ExprTree)
        → actual_expression (place_of now items) store w.own q e ≡ passed_expression (call (frames_here now items)) (place_of now items) q e
    one_actual items q (Named first path) = refl
    one_actual items q e = refl

    pub actuals_are : (items : List Item) (ps : List Parameter) (xs : ArgumentTrees)
        → actuals (place_of now items) store w.own ps xs ≡ passed_actuals (call (frames_here now items)) (place_of now items) ps xs
    actuals_are items [] NoArguments = refl
    actuals_are items [] (MoreArguments x rest) = refl
    actuals_are items (p ∷ ps) NoArguments = refl
    actuals_are items (p ∷ ps) (MoreArguments (Text label at) rest) = refl
    actuals_are items (p ∷ ps) (MoreArguments (expressions.Value e) rest) =
        (λ j. and_then (one_actual items p e j) (λ one. and_then (actuals_are items ps rest j) (with_actuals one)))

    -- the refusals in their order, and the body
    abbrev passing : (through : Option ℕ) → Procedure → List Item → Actuals → source.SourceStepped
    passing through q items z =
        source.unless_refused now (refusal_of k t through) items
        (source.if_frame_left now (frames_here now items) items (source.run_body now (effect_of through) through q z items))

    passes_by : (c : Callee) (through : Option ℕ) (items : List Item)
        → source.procedure_call now c through items ≡ source.with_actuals_of now c items (passing through c.procedure items)
    passes_by c None items = refl
    passes_by c (Some o) items = refl

    -- The body of a call goes on, up to an end behind which the frame that called goes on.
    pub call_entered : (q : Procedure) (number : ℕ) (proc : IsProcedureCode i program g numbers q number) (through : Option ℕ) (z : Actuals)
        (items : List Item) (outer : Setting) (c : Frame) (below : List Frame) (ds : List Destination) (to : ℕ)
        → ArePassed (shapes_of i program g numbers q) z.values
        → AreOf program.scope (taken_types q.parameters) z.values
        → length (addresses_of outer.visible.names z.targets) ≡ length (results q.parameters)
        → WaitsFor i program g numbers outer c w.own
        → length ds ≡ length (results q.parameters)
        → ArePlaced outer.visible ds z.targets
        → suc c.place ≤ to
        → In c.subprogram to
        → AreCopies i program g outer.visible (suc c.place) to ds
        → Follows i program g numbers this.note outer c.subprogram to items c.role below w.callers
        → GoesBy i outer.raised c.place to
        → length below ≡ frames_in items
        → IsGoingOn i program g numbers this.note (body_items q (EndsCall (results q.parameters) through z.targets) items) (activation_of q z.values)
        (w.own ∷ w.callers)
        (record {
          frame = entered_frame i program g numbers this.note q number proc z.values (addresses_of outer.visible.names z.targets) (role_of through);
          callers = c ∷ below;
          raising = None;
        })
    call_entered q number proc through z items outer c below ds to shaped typed many waits as_many placed over inside copies rest goes depth =
        entered i program g numbers this.note q number proc z.values (addresses_of outer.visible.names z.targets) shaped typed many
        (EndsCall (results q.parameters) through z.targets) items (role_of through) (c ∷ below) (w.own ∷ w.callers) (ap suc depth)
        (λ a n from ret way same here there. (
          ret,
          c,
          below,
          w.own,
          w.callers,
          outer,
          ds,
          to,
          refl,
          here,
          way,
          same,
          there,
          refl,
          refl,
          inl (record {
            waits = waits;
            many = as_many;
            placed = placed;
            over = over;
            inside = inside;
            copies = copies;
            follows = rest;
            goes = goes;
          }),
        ))

    -- a call gives nothing to a served caller, and whatever kernel comes of it, the task stands for its work
    left_by_call : (through : Option ℕ) (u : TaskWork) (next : TaskState) → ((l : Kernel) → CodeStands i program g numbers this.note l t u next)
        → LeavesBy i program g numbers this.note k t (effect_of through) u next None None
    left_by_call None u next h = h (after t Quiet k)
    left_by_call (Some o) u next h = h (after t (Opens o) k)

    -- the call of a procedure, where its actual parameters are computed
    met_procedure : (i' : Item) (items : List Item) → w.work ≡ Goes (i' ∷ items) → s.frame.stack ≡ [] → s.raising ≡ None
        → (a : Setting) (now' : Framed) (at mid to : ℕ) (q : Procedure) (number : ℕ) (through : Option ℕ) (ds : List Destination) (v : Val Actuals)
        → source.item_step now i' items ≡ with_value now v items (passing through q items)
        → LeadsByWays i program g numbers a f.subprogram f.place at to now'
        → at ≤ mid
        → suc mid ≤ to
        → numbers q ≡ Some number
        → (owner : Option ℕ) (name : List ℕ) → procedure_among program.procedures owner name ≡ Some q
        → ((kind : Kind) → kind ≡ procedure_kind q.object q.barrier → IsThrough through kind)
        → At i mid (procedure_operation through number)
        → Comes i schedule k t m (placed f at []) fs (mid - at) mid (actuals_on now'.names q.parameters []) v
        → length ds ≡ length (results q.parameters)
        → AreCopies i program g now' (suc mid) to ds
        → ((x : Actuals) → v ≡ Gives x → ArePassed (shapes_of i program g numbers q) x.values × AreOf program.scope (taken_types q.parameters) x.values
        × ArePlaced now' ds x.targets)
        → Follow (seeing now' a) f.subprogram to items f.role fs w.callers
        → RestsWith g a.visible a.held w.own f.locals
        → own_object i f ≡ w.own.within
        → length fs ≡ frames_in items
        → GoesBy i a.raised at to
        → Meet s
    met_procedure i' items is stack going a now' at mid to q number through ds v same leads le over numbered owner name found kinds here comes many copies
        passes rest rests object depth goes =
        by_refusal (refusal_of k t through) refl
      where
        proc : IsProcedureCode i program g numbers q number
        proc = has.procedures owner name q number found numbered

        kind : IsThrough through proc.s.kind
        kind = kinds proc.s.kind proc.kind

        names : List (List ℕ)
        names = results q.parameters

        x : In f.subprogram f.place
        x = leads.from_inside

        y : In f.subprogram to
        y = leads.to_inside

        up : ⊤ → f.place ≤ at
        up u = jumps_up i program g numbers f.place at leads.jumps

        low : (n : ℕ) → n ≤ 1 → (at - f.place) + ((mid - at) + n) < size_of i f.subprogram + size_of i f.subprogram
        low n few = let u = up tt in omega (arith, x.0, y.1, le, over, u, few)

        less : ⊤ → items_size items < work_size w.work
        less u = subst (λ q. items_size items < work_size q) (sym is) (let c = item_counts i' items in omega (arith, c))

        -- no frame is left
        all_taken : frames_here now items ≡ 0 → (l : Kernel) → l.partition ≡ k.partition → FRAMES ≤ frames_in_use l.partition t fs
        all_taken e l ranked =
            let same = scene.frames_same this items fs depth in subst (λ p. FRAMES ≤ frames_in_use p t fs) (sym ranked) (omega (arith, e, same))

        few : (n : ℕ) → frames_here now items ≡ suc n → frames_in_use k.partition t fs < FRAMES
        few n e = let same = scene.frames_same this items fs depth in omega (arith, e, same)

        step_of : Actuals → source.SourceStepped
        step_of z = source.run_body now (effect_of through) through q z items

        words_of_call : Actuals → List ℤ
        words_of_call z = passed_words q.parameters z.values (addresses_of now'.names z.targets)

        refused_step : (x : ℕ) → ((z : Actuals) → passing through q items z ≡ source.raises now x items) → (v : Val Actuals)
            → with_value now v items (passing through q items) ≡ with_value now (and_then v (λ z. Raises x)) items step_of
        refused_step x each (Gives z) = each z
        refused_step x each (Raises y) = refl
        refused_step x each Meaningless = refl

        entered_step : (n : ℕ) → frames_here now items ≡ suc n → refusal_of k t through ≡ None → (v : Val Actuals)
            → with_value now v items (passing through q items) ≡ with_value now v items step_of
        entered_step n e none (Gives z) =
            ap (λ o. source.unless_refused now o items
            (source.if_frame_left now (frames_here now items) items (source.run_body now (effect_of through) through q z items))) none
            ∙ ap (λ n. source.if_frame_left now n items (source.run_body now (effect_of through) through q z items)) e
        entered_step n e none (Raises y) = refl
        entered_step n e none Meaningless = refl

        -- as many addresses as parameters that are copied back
        as_many : (z : Actuals) → v ≡ Gives z → length (addresses_of now'.names z.targets) ≡ length names
        as_many z ez = copy.placed_many now' ds z.targets (passes z ez).2 ∙ many

        passed_many : (z : Actuals) → v ≡ Gives z → length (words_of_call z) ≡ proc.s.parameters
        passed_many z ez = proc.parameters z.values (addresses_of now'.names z.targets) (passes z ez).0 (as_many z ez)

        -- the frame of the body, and what it does
        begins : (z : Actuals) → v ≡ Gives z → (n : ℕ) → frames_here now items ≡ suc n → refusal_of k t through ≡ None
            → (r : steps.Stepped) × (act i schedule k t (in_frame m (placed f mid (actuals_on now'.names q.parameters [] z)) fs) ≡ r) × Meets (step_of z) r
        begins z ez n e none =
            let given = passes z ez in
            let caller = placed f mid [] in
            let u = up tt in
            let body = entered_frame i program g numbers this.note q number proc z.values (addresses_of now'.names z.targets) (role_of through) in
            let waits : WaitsFor i program g numbers (seeing now' a) caller w.own =
            record {
              object = object;
              rests = scene.narrowed this s a.visible now' w.own f.locals leads.narrows rests;
              stack = refl;
              here = (omega (arith, x.0, u, le), omega (arith, y.1, over));
              next = (omega (arith, x.0, u, le), omega (arith, y.1, over));
              handles = leads.reaches.2;
            } in
            let goes_on = call_entered q number proc through z items (seeing now' a) caller fs ds to given.0 given.1 (as_many z ez) waits many given.2 over y
            copies rest (goes_within i a.raised at mid to to goes le (omega arith)) depth in (
              steps.does (effect_of through) m body (caller ∷ fs) None None,
              enters quiet i number proc.s proc.there schedule k t m f fs mid [] (words_of_call z) (passed_many z ez) through kind here none (few n e),
              record {
                effect = refl;
                leaves = left_by_call through (step_of z).solo.task (record { frame = body; callers = caller ∷ fs; raising = None })
                    (λ l. Going (body_items q (EndsCall names through z.targets) items) refl goes_on);
                words = shares;
              },
            )

        handled : {A : Type 0} (u : Val A) (end : ℕ) → end ≤ to → scene.Handled this f fs u items at end
        handled u end below =
            scene.handled_by this s (seeing now' a) now' to items u at end rest (goes_within i a.raised at at end to goes (omega arith) below)
            (scene.narrowed this s a.visible now' w.own f.locals leads.narrows rests) refl leads.reaches.2 object depth

        -- where it is refused
        raises : (x : ℕ) → ((z : Actuals) → passing through q items z ≡ source.raises now x items)
            → ((z : Actuals) → v ≡ Gives z → Throws i k t x (in_frame m (placed f mid (actuals_on now'.names q.parameters [] z)) fs).task
            (placed f mid (actuals_on now'.names q.parameters [] z)) fs)
            → Meet s
        raises x each throws =
            subst Meet (sym (scene.going_is this s stack going))
            (scene.met_comes this f fs (at - f.place) at ((mid - at) + 1) (suc mid) (actuals_on now'.names q.parameters []) (and_then v (λ z. Raises x)) items
            step_of
            (scene.jumps_spend this f fs f.place at leads.jumps)
            (coming.then_comes quiet i schedule k t m calm (placed f at []) fs (mid - at) 1 mid (suc mid) (actuals_on now'.names q.parameters [])
            (actuals_on now'.names q.parameters []) v (λ z. Raises x) le (omega arith) comes
            (λ z ez. (
              (in_frame m (placed f mid (actuals_on now'.names q.parameters [] z)) fs).task,
              mid,
              actuals_on now'.names q.parameters [] z,
              Last refl,
              omega arith,
              omega arith,
              throws z ez,
            )))
            (low 1 (omega arith)) (ap (λ q. work_step now q) is ∙ same ∙ refused_step x each v) (less tt)
            (handled (and_then v (λ z. Raises x)) (suc mid) over)
            (λ z ez. absurd (never v z ez)))
          where
            never : (v : Val Actuals) (z : Actuals) → and_then v (λ (y : Actuals). Raises x) ≡ Gives z → ⊥
            never (Gives y) z e = cc
            never (Raises y) z e = cc
            never Meaningless z e = cc

        by_left : refusal_of k t through ≡ None → (n : ℕ) → frames_here now items ≡ n → Meet s
        by_left none zero e =
            raises (number_of StorageError)
            (λ z. ap (λ o. source.unless_refused now o items
            (source.if_frame_left now (frames_here now items) items (source.run_body now (effect_of through) through q z items))) none
            ∙ ap (λ n. source.if_frame_left now n items (source.run_body now (effect_of through) through q z items)) e)
            (λ z ez. record {
              throws = λ schedule' l m' opened ranked. full quiet i number proc.s proc.there schedule' l t m' f fs mid [] (words_of_call z) (passed_many z ez)
                  through kind here (refusal_kept k l t through opened ranked ∙ none) (all_taken e l ranked);
            })
        by_left none (suc n) e =
            subst Meet (sym (scene.going_is this s stack going))
            (scene.met_comes this f fs (at - f.place) at (mid - at) mid (actuals_on now'.names q.parameters []) v items step_of
            (scene.jumps_spend this f fs f.place at leads.jumps) comes
            (let h = low 0 (omega arith) in omega (arith, h)) (ap (λ q. work_step now q) is ∙ same ∙ entered_step n e none v) (less tt)
            (handled v mid (omega (arith, over)))
            (λ z ez. begins z ez n e none))

        by_refusal : (o : Option Refusal) → refusal_of k t through ≡ o → Meet s
        by_refusal (Some r) e =
            raises (number_of ProgramError)
            (λ z. ap (λ o. source.unless_refused now o items
            (source.if_frame_left now (frames_here now items) items (source.run_body now (effect_of through) through q z items))) e)
            (λ z ez. record {
              throws = λ schedule' l m' opened ranked. refused quiet i number proc.s proc.there schedule' l t m' f fs mid [] (words_of_call z)
                  (passed_many z ez)
                  through kind here r (refusal_kept k l t through opened ranked ∙ e);
            })
        by_refusal None e = by_left e (frames_here now items) refl

    pub met_call : (name : NameTree) (c : Callee) (items : List Item) → w.work ≡ Goes (Does (tree.Call name) ∷ items)
        → (h : IsAtItems (Does (tree.Call name) ∷ items))
        → (let r = h.follows in callee_by program r.2.within name.first name.selectors ≡ Some c)
        → source.item_step now (Does (tree.Call name)) items ≡ source.call_of now c c.procedure.barrier items
        → (let r = h.follows in IsCall i program g numbers r.2 r.0 r.1 c)
        → Meet s
    met_call name c items is h found same code =
        let r = h.follows in
        let by_code = code.invoked in
        let leads = r.3 in
        let rests = scene.narrowed this s h.around.visible r.2 w.own f.locals leads.narrows h.rests in
        let place = place_of now items in
        let by = callee_found program r.2.within name.first name.selectors c found in
        let knows = scene.sees_here this r.2 items f fs rests h.object in
        met_procedure (Does (tree.Call name)) items is h.stack h.going h.around r.2 r.0 by_code.mid r.1 c.procedure code.number c.through by_code.destinations
        (passed_actuals (call (frames_here now items)) place c.procedure.parameters c.arguments)
        (same ∙ ap (λ q. source.call_of now c q items) code.plain ∙ passes_by c c.through items
        ∙ ap (λ q. with_value now q items (passing c.through c.procedure items)) (actuals_are items c.procedure.parameters c.arguments))
        leads by_code.up by_code.over code.numbered by.owner by.name by.found
        (λ kind here. through_kind c.through c.procedure.object c.procedure.barrier kind here code.plain by.own) by_code.calls
        (scene.evaluates this r.2 r.0 by_code.mid (actuals_on r.2.names c.procedure.parameters)
        (λ calls p. passed_actuals calls p c.procedure.parameters c.arguments)
        items f fs by_code.computes rests h.object h.depth)
        by_code.many by_code.copies
        (λ z ez. by_code.passes (call (frames_here now items)) place (view_of i schedule k t m f fs) z (has.functions (frames_here now items)).sound knows ez)
        r.5 h.rests h.object h.depth r.4.1

    -- a call that main makes
    pub met_main_call : (package_ : _) (procedure : _) (items : List Item) → w.work ≡ Goes (DoesMain (main.Call package_ procedure) ∷ items)
        → (h : IsAtItems (DoesMain (main.Call package_ procedure) ∷ items)) → Meet s
    met_main_call package_ procedure items is h =
        let r = h.follows in
        let code = r.4 in
        let end = code.6 in
        let by = found_here program None procedure.name code.0 code.2 in
        met_procedure (DoesMain (main.Call package_ procedure)) items is h.stack h.going h.around r.2 r.0 r.0 r.1 code.0 code.1 None [] (Gives nothing)
        (ap (λ q. source.main_call now q items) code.2) r.3 (omega arith) (omega (arith, end)) code.3 by.owner procedure.name by.is (λ kind here. tt) code.5
        (let e : r.0 - r.0 ≡ 0 = omega arith in
        subst (λ n. Comes i schedule k t m (placed f r.0 []) fs n r.0 (actuals_on r.2.names code.0.parameters []) (Gives nothing)) (sym e)
        (subst (λ ps. Comes i schedule k t m (placed f r.0 []) fs 0 r.0 (actuals_on r.2.names ps []) (Gives nothing)) (sym code.4) Done))
        (subst (λ ps. length {A = Destination} [] ≡ length (results ps)) (sym code.4) refl) (sym end)
        (λ z ez. subst (λ y. ArePassed (shapes_of i program g numbers code.0) y.values × AreOf program.scope (taken_types code.0.parameters) y.values
        × ArePlaced r.2 [] y.targets) (given z ez)
        (subst (λ ps. ArePassed (map (shape_of g.scope) (map parameter_subtype (taken ps))) [] × AreOf program.scope (taken_types ps) [] × ⊤) (sym code.4)
        (tt, tt, tt)))
        r.5 h.rests h.object h.depth r.6
      where
        nothing : Actuals
        nothing = record { values = []; targets = [] }

        given : (z : Actuals) → Gives nothing ≡ Gives z → nothing ≡ z
        given z e = cc
