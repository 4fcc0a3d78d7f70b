-- Steps that evaluate: conditions, loops, values that are stored, lines.
use Rattle.std.proofs.Common.{◌≡◌, ℕ, suc, ◌+◌, ◌-◌, ◌<◌, ◌≤◌, ℤ, List, [], ◌∷◌, length, Option, Some, None, Bool, true, false, refl, sym, ap, ◌∙◌, subst, arith}
use Rattle.std.specs.Prelude.{if◌then◌else◌}
use Rattle.kernel.specs.Effects.{Quiet, Says}
use Rattle.kernel.specs.RunLaws.{spends_trans}
use Rattle.part_code.specs.image.specs.Frames.{Frame, TaskState, Role, own_object}
use Rattle.part_code.specs.image.specs.Steps as steps
use Rattle.part_code.specs.image.specs.Steps.{act, behaviour, does_operation}
use Rattle.part_code.specs.image.specs.declared.instruction.Operation.{Operation}
use Rattle.part_code.specs.image.specs.declared.instruction.Operation.TheVariants as op
use Rattle.part_code.specs.ada_tree.specs.StatementTree.{ObjectTree, LocalObject, Assignment, Exit, If, Loop, StmtTrees, ElsifTrees, NoElsifs, MoreElsifs, Forever, While}
use Rattle.part_code.specs.types.specs.Evaluations.{Val, Gives, Raises, Meaningless, and_then}
use Rattle.part_code.specs.types.specs.Evaluating.{Calls, call, passed, truth_of, value_with}
use Rattle.part_code.specs.types.specs.Shapes.{initial, word_of}
use Rattle.part_code.specs.types.specs.Values.{Value, Number, Truth, Array, Record}
use Rattle.part_code.specs.ada_tree.specs.ExpressionTree.{Arguments, ExprTree, MoreArguments, MoreSelectors, NameTree, NoArguments, NoSelectors, Text}
use Rattle.part_code.specs.ada_tree.specs.ExpressionTree as expressions
use Rattle.part_code.specs.ada_tree.specs.StatementTree as tree
use Rattle.part_code.specs.types.specs.Places.{Place}
use Rattle.step_soundness.specs.meaning.specs.Programs.{Parameter}
use Rattle.step_soundness.specs.meaning.specs.Targets.{activation_with, store_with, target}
use Rattle.step_soundness.specs.meaning.specs.SameMeaning.{frames_of}
use Rattle.step_soundness.specs.meaning.specs.SourceSteps as source
use Rattle.step_soundness.specs.meaning.specs.SourceSteps.{place_of, with_value, work_step, frames_here}
use Rattle.step_soundness.specs.meaning.specs.Works.{Item, Declares, DeclaresParameter, Does, Repeats, RepeatsWhile, Goes, Activation, Store, Target}
use Rattle.part_code.specs.expr_code.specs.Views.{At, in_frame, placed}
use Rattle.part_code.specs.expr_code.specs.Coming.{Comes, most_steps, on, size_of}
use Rattle.part_code.specs.expr_code.proofs.Coming.{acts}
use Rattle.part_code.specs.expr_code.proofs.Coming as coming
use Rattle.part_code.specs.Resting.{Framed, HeldWord, RestsWith, Shows}
use Rattle.part_code.proofs.Holding.{held_kept}
use Rattle.part_code.specs.Handling.{GoesBy}
use Rattle.part_code.specs.Storing.{Arrives, Assigned, Assigns, Puts, assigned, assigned_to, declared, declared_from, object_declared}
use Rattle.part_code.specs.Statements.{AreStatements, IsOtherwise, IsPutCode, IsWhile, within_loop}
use Rattle.part_code.specs.Jumping.{Here, Jumps}
use Rattle.part_code.proofs.Jumping.{jumps_both}
use Rattle.step_simulation.specs.Standing.{Going, LeadsByWays, LeadsInto, ReachesWays, frames_in, in_loop, items_size, work_size}
use Rattle.step_simulation.proofs.Going.{before_ends, before_follows, earlier, into, jumps_up, narrows_same, way_out}
use Rattle.step_simulation.proofs.Sizes.{before_size, item_counts}
use Rattle.part_code.proofs.Handling.{goes_within}
use Rattle.part_code.proofs.StoringCode.{same_given}
use Rattle.part_code.proofs.Arriving.{by_evaluation, stores_assign}
use Rattle.step_simulation.proofs.Copying.{same_within}
use Rattle.step_simulation.proofs.Scenes.{Scene}
use Rattle.step_simulation.proofs.Scenes as scene

module _ (this : Scene) where
  open this use {quiet, i, program, g, numbers, schedule, k, t, calm, store, m, shares, w}

  abbrev now : source.Here
  now = scene.now this

  abbrev Meet : TaskState → Type 0
  Meet s = scene.Meet this s

  abbrev Meets : source.SourceStepped → steps.Stepped → Type 0
  Meets x y = scene.Meets this x y

  abbrev Setting : Type 0
  Setting = scene.Setting this

  abbrev seeing : Framed → Setting → Setting
  seeing v a = scene.seeing this v a

  abbrev In : ℕ → ℕ → Type 0
  In n place = scene.In this n place

  abbrev Follow : Setting → (n from : ℕ) → List Item → Role → List Frame → List Activation → Type 0
  Follow a n from items role above waiting = scene.Follow this a n from items role above waiting

  abbrev Reaching : Frame → List Frame → (n from to : ℕ) → Type 0
  Reaching above fs n from to = scene.Reaching this above fs n from to

  abbrev goes_at : Frame → ℕ → List ℤ → Frame
  goes_at above place locals = scene.goes_at this above place locals

  module _ (s : TaskState) where
    abbrev f : Frame
    f = s.frame

    abbrev fs : List Frame
    fs = s.callers

    abbrev IsAtItems : List Item → Type 0
    IsAtItems items = scene.IsAtItems this s items

    abbrev Handled : {A : Type 0} → Val A → List Item → (from to : ℕ) → Type 0
    Handled v items from to = scene.Handled this f fs v items from to

    -- what takes the exceptions of these places of a statement
    pub handled_at : {A : Type 0} {i' : Item} (items : List Item) (v : Val A) (h : IsAtItems (i' ∷ items)) (now' : Framed) (at to end : ℕ)
        → frames_in (i' ∷ items) ≡ frames_in items
        → LeadsByWays i program g numbers h.around f.subprogram f.place at to now' → Follow (seeing now' h.around) f.subprogram to items f.role fs w.callers
        → GoesBy i h.around.raised at to → end ≤ to → Handled v items at end
    handled_at items v h now' at to end ends leads rest goes le =
        scene.handled_by this s (seeing now' h.around) now' to items v at end rest (goes_within i h.around.raised at at end to goes (omega arith) le)
        (scene.narrowed this s h.around.visible now' w.own f.locals leads.narrows h.rests) refl leads.reaches.2 h.object (h.depth ∙ ends)

    -- ---- conditions

    -- the word of a truth value
    pub holds_comes : (from to n : ℕ) (v : Val Value) → Comes i schedule k t m (placed f from []) fs n to (on []) v
        → Comes i schedule k t m (placed f from []) fs n to (λ b. word_of b ∷ []) (and_then v truth_of)
    holds_comes from to n (Gives (Truth b)) h = h
    holds_comes from to n (Gives (Number z)) h = tt
    holds_comes from to n (Gives (Array vs)) h = tt
    holds_comes from to n (Gives (Record vs)) h = tt
    holds_comes from to n (Raises x) h = h
    holds_comes from to n Meaningless h = tt

    -- a condition is evaluated, and one of two lists of items is done: the one where the frame jumps from its next place, the other behind it
    pub met_test : (o : Operation) (jumps_on : Bool) (items when_jumps when_not : List Item) → s.frame.stack ≡ [] → s.raising ≡ None
        → (v : Framed) (from mid n target : ℕ) (e : ExprTree)
        → work_step now w.work ≡ with_value now (source.condition now items e) items
        (λ holds. source.goes now (if holds then (if jumps_on then when_jumps else when_not) else (if jumps_on then when_not else when_jumps)))
        → items_size items < work_size w.work
        → Handled (source.condition now items e) items from mid
        → Reaching f fs n f.place from
        → Comes i schedule k t m (placed f from []) fs (mid - from) mid (on []) (source.evaluate now items e)
        → n + (mid - from) < size_of i f.subprogram + size_of i f.subprogram
        → At i mid o
        → ((b : Bool) → does_operation i schedule k t m (placed f mid (word_of b ∷ [])) fs o ≡ steps.does Quiet m
        (goes_at f (if b then (if jumps_on then target else mid + 1) else (if jumps_on then mid + 1 else target)) f.locals) fs None None)
        → Meets (source.goes now when_jumps) (steps.does Quiet m (goes_at f target f.locals) fs None None)
        → Meets (source.goes now when_not) (steps.does Quiet m (goes_at f (mid + 1) f.locals) fs None None)
        → Meet s
    met_test o jumps_on items when_jumps when_not stack going v from mid n target e is less handled first comes low here there at_target at_next =
        subst Meet (sym (scene.going_is this s stack going))
        (scene.met_comes this f fs n from (mid - from) mid (λ b. word_of b ∷ []) (source.condition now items e) items
        (λ holds. source.goes now (if holds then (if jumps_on then when_jumps else when_not) else (if jumps_on then when_not else when_jumps)))
        first (holds_comes from mid (mid - from) (source.evaluate now items e) comes) low is less handled
        (λ b eb. (
          steps.does Quiet m (goes_at f (if b then (if jumps_on then target else mid + 1) else (if jumps_on then mid + 1 else target)) f.locals) fs None None,
          acts quiet i mid o here schedule k t m f fs (word_of b ∷ []) ∙ there b,
          chosen b jumps_on,
        )))
      where
        chosen : (b j : Bool)
            → Meets (source.goes now (if b then (if j then when_jumps else when_not) else (if j then when_not else when_jumps)))
            (steps.does Quiet m (goes_at f (if b then (if j then target else mid + 1) else (if j then mid + 1 else target)) f.locals) fs None None)
        chosen true true = at_target
        chosen true false = at_next
        chosen false true = at_next
        chosen false false = at_target

    -- a jump where the condition does not hold
    pub on_zero : (mid target : ℕ) (b : Bool)
        → does_operation i schedule k t m (placed f mid (word_of b ∷ [])) fs (op.JumpIfZero target) ≡ steps.does Quiet m
        (goes_at f (if b then mid + 1 else target) f.locals) fs None None
    on_zero mid target true = refl
    on_zero mid target false = refl

    pub on_one : (mid target : ℕ) (b : Bool)
        → does_operation i schedule k t m (placed f mid (word_of b ∷ [])) fs (op.JumpIfNotZero target) ≡ steps.does Quiet m
        (goes_at f (if b then target else mid + 1) f.locals) fs None None
    on_one mid target true = refl
    on_one mid target false = refl

    pub met_exit_when : (place : ℕ) (e : ExprTree) (items : List Item) → w.work ≡ Goes (Does (Exit place (Some e)) ∷ items)
        → (h : IsAtItems (Does (Exit place (Some e)) ∷ items)) → Meet s
    met_exit_when place e items is h =
        let r = h.follows in
        let leads = r.3 in
        let code = r.4.0 in
        let target = code.0 in
        let mid = code.1 in
        let le = code.3 in
        let end = code.6 in
        let out = way_out i program g numbers this.note items (seeing r.2 h.around) f.subprogram r.1 target f.role fs w.callers r.5 code.2 in
        let x = leads.from_inside in
        let y = leads.to_inside in
        let up = jumps_up i program g numbers f.place r.0 leads.jumps in
        let rests = scene.narrowed this s h.around.visible r.2 w.own f.locals leads.narrows h.rests in
        let next : r.1 ≡ mid + 1 = omega (arith, end) in
        met_test (op.JumpIfNotZero target) true items (source.behind_loop items) items h.stack h.going r.2 r.0 mid (r.0 - f.place) target e
        (ap (λ q. work_step now q) is)
        (subst (λ q. items_size items < work_size q) (sym is) (let c = item_counts (Does (Exit place (Some e))) items in omega (arith, c)))
        (handled_at items (source.condition now items e) h r.2 r.0 r.1 mid refl leads r.5 r.4.1 (omega (arith, end)))
        (scene.jumps_spend this f fs f.place r.0 leads.jumps) (scene.evaluates this r.2 r.0 mid on (λ calls p. value_with calls p e) items f fs code.4 rests
        h.object h.depth)
        (omega (arith, x.0, y.1, up, le, end)) code.5 (on_one mid target)
        (scene.goes_to this s (source.behind_loop items) out.outer target out.follows
        (scene.way_rests this s h.around out.outer r.2 h.around.behind h.rests leads.narrows leads.reaches.0 out.visible out.drops) h.object
        (h.depth ∙ sym out.ends))
        (scene.goes_to this s items (seeing r.2 h.around) (mid + 1)
        (subst (λ q. Follow (seeing r.2 h.around) f.subprogram q items f.role fs w.callers) next r.5)
        rests h.object h.depth)

    -- the parts of an `if` behind its first statements
    pub otherwise_follows : (place : ℕ) (elsifs : ElsifTrees) (others : StmtTrees) (a : Setting) (now' : Framed) (from to : ℕ) (items : List Item)
        → IsOtherwise i program g numbers now' a.ways a.raised from to elsifs (λ x y. AreStatements i program g numbers now' a.ways a.raised x y others)
        → from ≤ to
        → In f.subprogram from → In f.subprogram to → ReachesWays i program g numbers a now'
        → Follow (seeing now' a) f.subprogram to items f.role fs w.callers
        → Follow (seeing now' a) f.subprogram from (source.otherwise place elsifs others items) f.role fs w.callers
    otherwise_follows place NoElsifs others a now' from to items code le x y reach rest =
        before_follows i program g numbers this.note others a now' f.subprogram from
        to items f.role fs w.callers code le x y reach rest
    otherwise_follows place (MoreElsifs e body more) others a now' from to items code le x y reach rest =
        (from, to, now', (record { jumps = Here; narrows = narrows_same g now'; reaches = reach; from_inside = x; up = le; to_inside = y }), code, rest)

    pub otherwise_ends : (place : ℕ) (elsifs : ElsifTrees) (others : StmtTrees) (items : List Item)
        → frames_in (source.otherwise place elsifs others items) ≡ frames_in items
    otherwise_ends place NoElsifs others items = before_ends i program g numbers others items
    otherwise_ends place (MoreElsifs e body more) others items = refl

    pub met_if : (place : ℕ) (e : ExprTree) (body : StmtTrees) (elsifs : ElsifTrees) (others : StmtTrees) (items : List Item)
        → w.work ≡ Goes (Does (If place e body elsifs others) ∷ items)
        → (h : IsAtItems (Does (If place e body elsifs others) ∷ items)) → Meet s
    met_if place e body elsifs others items is h =
        let r = h.follows in
        let leads = r.3 in
        let code = r.4 in
        let mid = code.0 in
        let joint = code.1 in
        let next = code.2 in
        let le = code.3 in
        let between = code.4 in
        let after = code.5 in
        let above = code.6 in
        let x = leads.from_inside in
        let y = leads.to_inside in
        let up = jumps_up i program g numbers f.place r.0 leads.jumps in
        let rests = scene.narrowed this s h.around.visible r.2 w.own f.locals leads.narrows h.rests in
        let a = seeing r.2 h.around in
        let one : suc mid ≡ mid + 1 = omega arith in
        let then_in : In f.subprogram (mid + 1) = (omega (arith, x.0, up, le), omega (arith, y.1, between, after, above)) in
        let joint_in : In f.subprogram joint = (omega (arith, x.0, up, le, between), omega (arith, y.1, after, above)) in
        let else_in : In f.subprogram next = (omega (arith, x.0, up, le, between, after), omega (arith, y.1, above)) in
        met_test (op.JumpIfZero next) false items (source.otherwise place elsifs others items) (source.before body items) h.stack h.going r.2 r.0 mid
        (r.0 - f.place) next e
        (ap (λ q. work_step now q) is)
        (subst (λ q. items_size items < work_size q) (sym is) (let c = item_counts (Does (If place e body elsifs others)) items in omega (arith, c)))
        (scene.handled_by this s a r.2 r.1 items (source.condition now items e) r.0 mid r.5 code.12 rests refl leads.reaches.2 h.object h.depth)
        (scene.jumps_spend this f fs f.place r.0 leads.jumps) (scene.evaluates this r.2 r.0 mid on (λ calls p. value_with calls p e) items f fs code.7 rests
        h.object h.depth)
        (omega (arith, x.0, y.1, up, le, between, after, above)) code.8 (on_zero mid next)
        (scene.goes_to this s (source.otherwise place elsifs others items) a next
        (otherwise_follows place elsifs others h.around r.2 next r.1 items code.11 above else_in y leads.reaches r.5) rests h.object
        (h.depth ∙ sym (otherwise_ends place elsifs others items)))
        (scene.goes_to this s (source.before body items) a (mid + 1)
        (before_follows i program g numbers this.note body h.around r.2 f.subprogram (mid + 1) joint items f.role fs w.callers
        (subst (λ q. AreStatements i program g numbers r.2 h.around.ways h.around.raised q joint body) one code.9) (omega (arith, between)) then_in joint_in
        leads.reaches
        (earlier i program g numbers this.note items a r.2 f.subprogram joint r.1 f.role fs w.callers code.10
        (narrows_same g r.2) joint_in r.5)) rests
        h.object
        (h.depth ∙ sym (before_ends i program g numbers body items)))

    -- ---- loops

    pub met_forever : (place : ℕ) (body : StmtTrees) (items : List Item) → w.work ≡ Goes (Does (Loop place Forever body) ∷ items)
        → (h : IsAtItems (Does (Loop place Forever body) ∷ items)) → Meet s
    met_forever place body items is h =
        let r = h.follows in
        let leads = r.3 in
        let code = r.4 in
        let at = r.0 in
        let start = code.0 in
        let back = code.2 in
        let down = code.3 in
        let le = code.4 in
        let end = code.11 in
        let x = leads.from_inside in
        let y = leads.to_inside in
        let up = jumps_up i program g numbers f.place at leads.jumps in
        let outer = seeing r.2 h.around in
        let inner = in_loop i program g numbers code.1 r.2 outer in
        let all = source.before body (Repeats body ∷ items) in
        let total = before_size body (Repeats body ∷ items) in
        let head_in : In f.subprogram at = (omega (arith, x.0, up), omega (arith, y.1, down, le, end)) in
        let turn_in : In f.subprogram start = (omega (arith, x.0, up, down), omega (arith, y.1, le, end)) in
        let back_in : In f.subprogram back = (omega (arith, x.0, up, down, le), omega (arith, y.1, end)) in
        scene.met_items this s (source.goes now all) all (ap (λ q. work_step now q) is)
        (subst (λ q. suc (items_size all) < work_size q) (sym is) (omega (arith, total))) h.stack h.going
        (seeing h.around.visible inner)
        (earlier i program g numbers this.note all inner h.around.visible f.subprogram f.place start f.role fs w.callers
        (jumps_both i leads.jumps code.7) leads.narrows x
        (before_follows i program g numbers this.note body inner r.2 f.subprogram start back
        (Repeats body ∷ items) f.role fs w.callers code.9 le turn_in back_in
        ((narrows_same g r.2).shows, leads.reaches.1, leads.reaches.2) (
          at,
          r.1,
          outer,
          code,
          record {
            back = back;
            jumps = Here;
            jump = code.10;
            end = end;
            up = omega (arith, down, le);
            loop = refl;
            narrows = narrows_same g r.2;
            reaches = leads.reaches.1;
            handles = leads.reaches.2;
            from_inside = back_in;
            head_inside = head_in;
            to_inside = y;
          },
          r.5,
        )))
        h.rests h.object (h.depth ∙ sym (before_ends i program g numbers body (Repeats body ∷ items)))

    -- a loop holds the same words as what is around it
    turned : (v : Framed) (one other : List HeldWord) → one ≡ other → RestsWith g v one w.own f.locals → RestsWith g v other w.own f.locals
    turned v one other same rests = subst (λ q. RestsWith g v q w.own f.locals) same rests

    pub met_repeats : (body : StmtTrees) (items : List Item) → w.work ≡ Goes (Repeats body ∷ items) → (h : IsAtItems (Repeats body ∷ items)) → Meet s
    met_repeats body items is h =
        let r = h.follows in
        let head = r.0 in
        let outer = r.2 in
        let code = r.3 in
        let leads = r.4 in
        let start = code.0 in
        let last = code.2 in
        let down = code.3 in
        let le = code.4 in
        let end = code.11 in
        let x = leads.from_inside in
        let y = leads.to_inside in
        let z = leads.head_inside in
        let there = leads.end in
        let up = jumps_up i program g numbers f.place leads.back leads.jumps in
        let rests = turned outer.visible h.around.held outer.held (ap (λ q. q.held) leads.loop)
        (scene.narrowed this s h.around.visible outer.visible w.own f.locals leads.narrows h.rests) in
        let inner = in_loop i program g numbers code.1 outer.visible outer in
        let all = source.before body (Repeats body ∷ items) in
        let turn_in : In f.subprogram start = (omega (arith, z.0, down), omega (arith, y.1, le, end)) in
        let back_in : In f.subprogram last = (omega (arith, z.0, down, le), omega (arith, y.1, end)) in
        scene.met_plain this s (op.Jump start) (source.goes now all) (steps.does Quiet m (goes_at f start f.locals) fs None None) leads.back items
        (ap (λ q. work_step now q) is) h.stack h.going
        leads.jumps x (omega (arith, x.0, up), omega (arith, y.1, there)) leads.jump refl
        (scene.goes_to this s all inner start
        (before_follows i program g numbers this.note body inner outer.visible f.subprogram start last
        (Repeats body ∷ items) f.role fs w.callers code.9 le turn_in
        back_in ((narrows_same g outer.visible).shows, leads.reaches, leads.handles) (
          head,
          r.1,
          outer,
          code,
          record {
            back = last;
            jumps = Here;
            jump = code.10;
            end = end;
            up = omega (arith, down, le);
            loop = refl;
            narrows = narrows_same g outer.visible;
            reaches = leads.reaches;
            handles = leads.handles;
            from_inside = back_in;
            head_inside = z;
            to_inside = y;
          },
          r.5,
        ))
        rests h.object (h.depth ∙ sym (before_ends i program g numbers body (Repeats body ∷ items))))

    -- a loop whose condition is evaluated
    pub met_turn : (i' : Item) (e : ExprTree) (body : StmtTrees) (items : List Item) → w.work ≡ Goes (i' ∷ items)
        → source.item_step now i' items ≡ source.while_turn now e body items
        → s.frame.stack ≡ [] → s.raising ≡ None
        → (head to n : ℕ) (outer : Setting)
        → (code : IsWhile i program g numbers outer.visible outer.raised head to e
        (λ exit x y. AreStatements i program g numbers outer.visible (within_loop exit outer.ways) outer.raised x y body))
        → Shows g outer.visible outer.ending
        → Shows g outer.visible outer.handling
        → Follow outer f.subprogram to items f.role fs w.callers
        → RestsWith g outer.visible outer.held w.own f.locals
        → own_object i f ≡ w.own.within
        → length fs ≡ frames_in items
        → In f.subprogram head
        → In f.subprogram to
        → Reaching f fs n f.place code.0
        → n + (code.2 - code.0) < size_of i f.subprogram + size_of i f.subprogram
        → Meet s
    met_turn i' e body items is same stack going head to n outer code reaches handles rest rests object depth z y first low =
        let start = code.0 in
        let mid = code.2 in
        let back = code.3 in
        let down = code.4 in
        let le = code.5 in
        let between = code.6 in
        let end = code.15 in
        let one : suc mid ≡ mid + 1 = omega arith in
        let loop = in_loop i program g numbers code.1 outer.visible outer in
        let all = source.before body (RepeatsWhile e body ∷ items) in
        let turn_in : In f.subprogram (mid + 1) = (omega (arith, z.0, down, le), omega (arith, y.1, between, end)) in
        let back_in : In f.subprogram back = (omega (arith, z.0, down, le, between), omega (arith, y.1, end)) in
        met_test (op.JumpIfZero to) false items items all stack going outer.visible start mid n to e
        (ap (λ q. work_step now q) is ∙ same)
        (subst (λ q. items_size items < work_size q) (sym is) (let c = item_counts i' items in omega (arith, c)))
        (scene.handled_by this s outer outer.visible to items (source.condition now items e) start mid rest code.16 rests refl handles object depth) first
        (scene.evaluates this outer.visible start mid on (λ calls p. value_with calls p e) items f fs code.11 rests object depth) low code.12
        (on_zero mid to)
        (scene.goes_to this s items outer to rest rests object depth)
        (scene.goes_to this s all loop (mid + 1)
        (before_follows i program g numbers this.note body loop outer.visible f.subprogram (mid + 1) back (RepeatsWhile e body ∷ items) f.role fs w.callers
        (subst (λ q. AreStatements i program g numbers outer.visible (within_loop code.1 outer.ways) outer.raised q back body) one code.13)
        (omega (arith, between))
        turn_in back_in ((narrows_same g outer.visible).shows, reaches, handles) (
          head,
          to,
          outer,
          code,
          record {
            back = back;
            jumps = Here;
            jump = code.14;
            end = end;
            up = omega (arith, down, le, between);
            loop = refl;
            narrows = narrows_same g outer.visible;
            reaches = reaches;
            handles = handles;
            from_inside = back_in;
            head_inside = z;
            to_inside = y;
          },
          rest,
        ))
        rests object (depth ∙ sym (before_ends i program g numbers body (RepeatsWhile e body ∷ items))))

    -- jumps, and one more jump to the condition of a loop
    pub reaches_head : (at head : ℕ) → Jumps i f.place at → At i at (op.Jump head) → Reaching f fs ((at - f.place) + 1) f.place head
    reaches_head at head jumps here =
        spends_trans (behaviour i schedule) t frames_of (most_steps i) 1 k (in_frame m (placed f head []) fs)
        (scene.jumps_spend this f fs f.place at jumps)
        (coming.steps quiet i schedule k t m calm (placed f at []) (placed f head []) fs
        (acts quiet i at (op.Jump head) here schedule k t m f fs []))

    pub met_while : (place : ℕ) (e : ExprTree) (body : StmtTrees) (items : List Item) → w.work ≡ Goes (Does (Loop place (While e) body) ∷ items)
        → (h : IsAtItems (Does (Loop place (While e) body) ∷ items)) → Meet s
    met_while place e body items is h =
        let r = h.follows in
        let leads = r.3 in
        let code = r.4 in
        let at = r.0 in
        let start = code.0 in
        let mid = code.2 in
        let down = code.4 in
        let le = code.5 in
        let between = code.6 in
        let end = code.15 in
        let x = leads.from_inside in
        let y = leads.to_inside in
        let up = jumps_up i program g numbers f.place at leads.jumps in
        let head_in : In f.subprogram at = (omega (arith, x.0, up), omega (arith, y.1, down, le, between, end)) in
        met_turn (Does (Loop place (While e) body)) e body items is refl h.stack h.going at r.1 (start - f.place) (seeing r.2 h.around) code
        leads.reaches.1 leads.reaches.2 r.5
        (scene.narrowed this s h.around.visible r.2 w.own f.locals leads.narrows h.rests) h.object h.depth head_in y
        (scene.jumps_spend this f fs f.place start (jumps_both i leads.jumps code.9))
        (omega (arith, x.0, y.1, up, down, le, between, end))

    pub met_repeats_while : (e : ExprTree) (body : StmtTrees) (items : List Item) → w.work ≡ Goes (RepeatsWhile e body ∷ items)
        → (h : IsAtItems (RepeatsWhile e body ∷ items)) → Meet s
    met_repeats_while e body items is h =
        let r = h.follows in
        let code = r.3 in
        let leads = r.4 in
        let start = code.0 in
        let mid = code.2 in
        let down = code.4 in
        let le = code.5 in
        let between = code.6 in
        let end = code.15 in
        let x = leads.from_inside in
        let y = leads.to_inside in
        let z = leads.head_inside in
        let there = leads.end in
        let up = jumps_up i program g numbers f.place leads.back leads.jumps in
        met_turn (RepeatsWhile e body) e body items is refl h.stack h.going r.0 r.1 ((leads.back - f.place) + 1) r.2 code leads.reaches leads.handles r.5
        (turned r.2.visible h.around.held r.2.held (ap (λ q. q.held) leads.loop)
        (scene.narrowed this s h.around.visible r.2.visible w.own f.locals leads.narrows h.rests)) h.object h.depth z y
        (reaches_head leads.back start leads.jumps leads.jump)
        (omega (arith, x.0, y.1, z.0, up, down, le, between, end, there))

    -- ---- values that are stored

    -- the instruction that stores a value meets the step that does, where forward jumps lead on behind it
    stored_meets : (items : List Item) (now' later : Framed) (mid to : ℕ) (store' : Store) (own' : Activation) (a : Setting) (stack : List ℤ)
        → Jumps i (suc mid) to → In f.subprogram (suc mid) → later.reserved ≡ now'.reserved
        → RestsWith g now' a.held w.own f.locals
        → Follow (seeing later a) f.subprogram to items f.role fs w.callers
        → own_object i f ≡ own'.within
        → length fs ≡ frames_in items
        → Puts i program g schedule k t m f fs mid stack [] later store' own'
        → (y : steps.Stepped) × (act i schedule k t (in_frame m (placed f mid stack) fs) ≡ y)
        × Meets
        (record {
          effect = Quiet;
          solo = record { memory = store'; task = record { work = Goes items; own = own'; callers = w.callers } };
          given = None;
        }) y
    stored_meets items now' later mid to store' own' a stack jumps inside same here rest object depth put =
        let kept : RestsWith g later a.held own' put.locals =
        record {
          rests = put.rests;
          held = held_kept a.held later.reserved f.locals put.locals (here.apart ∙ sym same) put.keeps here.held;
          apart = here.apart ∙ sym same;
        } in (
          steps.does Quiet put.words (goes_at f (suc mid) put.locals) fs None None,
          put.acts,
          record {
            effect = refl;
            leaves = Going items refl
                (scene.goes_on this s items own' (seeing later a) (suc mid) put.locals
                (earlier i program g numbers this.note items (seeing later a) later f.subprogram (suc mid) to f.role fs w.callers jumps
                (narrows_same g later) inside rest)
                kept object depth);
            words = put.shared;
          },
        )

    -- code that arrives at an instruction which meets the step meets it
    met_arrived : {A : Type 0} (items : List Item) (go : A → source.SourceStepped) (n from to : ℕ) (later : Framed) (store_after' : A → Store)
        (own_after : A → Activation) (u : Val A)
        → work_step now w.work ≡ with_value now u items go
        → items_size items < work_size w.work
        → Handled u items from to
        → Reaching f fs n f.place from
        → n + (to - from) < size_of i f.subprogram + size_of i f.subprogram
        → ((z : A) (mid : ℕ) (stack : List ℤ) → from ≤ mid → suc mid ≤ to → Jumps i (suc mid) to
        → Puts i program g schedule k t m f fs mid stack [] later (store_after' z) (own_after z)
        → (y : steps.Stepped) × (act i schedule k t (in_frame m (placed f mid stack) fs) ≡ y) × Meets (go z) y)
        → Arrives i program g schedule k t m f fs from to later store_after' own_after u
        → Meet (in_frame m (placed f f.place []) fs).task
    met_arrived {A} items go n from to later store_after' own_after u is less handled first low meets h =
        by_evaluation (Arrives i program g schedule k t m f fs from to later store_after' own_after) (Meet (in_frame m (placed f f.place []) fs).task) u
        (λ z e it.
        let up = it.2 in
        let over = it.3 in
        scene.met_comes this f fs n from (it.0 - from) it.0 (λ y. it.1) (Gives z) items go first it.5 (lower n from it.0 to _ up over low)
        (is ∙ ap (λ q. with_value now q items go) e) less
        (λ x place left known ex low' high. absurd cc)
        (λ x ex. meets x it.0 it.1 up over it.4
        (subst (λ y. Puts i program g schedule k t m f fs it.0 it.1 [] later (store_after' y) (own_after y)) (same_given z x ex) it.6)))
        (λ x e it.
        scene.met_comes this f fs n from (to - from) to (λ (y : A). []) (Raises x) items go first it low (is ∙ ap (λ q. with_value now q items go) e) less
        (λ y place left known ey low' high. handled y place left known (e ∙ ey) low' high) (λ y ey. cc))
        (λ e it.
        scene.met_comes this f fs n from (to - from) to (λ (y : A). []) Meaningless items go first tt low (is ∙ ap (λ q. with_value now q items go) e) less
        (λ x place left known ex low' high. absurd cc) (λ y ey. cc))
        h
      where
        lower : (n from mid to most : ℕ) → from ≤ mid → suc mid ≤ to → n + (to - from) < most → n + (mid - from) < most
        lower n from mid to most up over low = omega (arith, up, over, low)

    pub met_assigns : {A : Type 0} (i' : Item) (items : List Item) → w.work ≡ Goes (i' ∷ items) → s.frame.stack ≡ [] → s.raising ≡ None
        → (v later : Framed) (at to : ℕ) (value : Calls → Place → Val A) (store_after' : A → Store → Store) (own_after : A → Activation → Activation)
        → source.item_step now i' items ≡ with_value now (value (call (frames_here now items)) (place_of now items)) items
        (λ x. record {
          effect = Quiet;
          solo = record {
            memory = store_after' x store;
            task = record
                { work = Goes items; own = own_after x w.own; callers = w.callers };
          };
          given = None;
        })
        → (a : Setting) (now' : Framed)
        → LeadsInto i program g numbers a.visible f.subprogram f.place at to now'
        → Assigns i program g now' later at to value store_after' own_after
        → Follow (seeing later a) f.subprogram to items f.role fs w.callers
        → RestsWith g a.visible a.held w.own f.locals
        → own_object i f ≡ w.own.within
        → ((x : A) → (own_after x w.own).within ≡ w.own.within)
        → length fs ≡ frames_in items
        → Handled (value (call (frames_here now items)) (place_of now items)) items at to
        → Meet s
    met_assigns i' items is stack going v later at to value store_after' own_after same a now' leads code rest rests object stays depth handled =
        let le = leads.up in
        let x = leads.from_inside in
        let y = leads.to_inside in
        let up = jumps_up i program g numbers f.place at leads.jumps in
        let here = scene.narrowed this s a.visible now' w.own f.locals leads.narrows rests in
        let knows = scene.sees_here this now' items f fs here object in
        subst Meet (sym (scene.going_is this s stack going))
        (met_arrived items
        (λ z. record {
          effect = Quiet;
          solo = record { memory = store_after' z store; task = record { work = Goes items; own = own_after z w.own; callers = w.callers } };
          given = None;
        }) (at - f.place) at to later (λ z. store_after' z store) (λ z. own_after z w.own)
        (value (call (frames_here now items)) (place_of now items)) (ap (λ q. work_step now q) is ∙ same)
        (subst (λ q. items_size items < work_size q) (sym is) (let h = item_counts i' items in omega (arith, h))) handled
        (scene.jumps_spend this f fs f.place at leads.jumps) (omega (arith, x.0, y.1, up, le))
        (λ z mid left low high jumps put.
        stored_meets items now' later mid to (store_after' z store) (own_after z w.own) a left jumps
        (omega (arith, x.0, up, low), omega (arith, y.1, high)) code.same here rest (object ∙ sym (stays z)) depth put)
        (code.arrives schedule k t m f fs store w.own (place_of now items) this.has.functions calm
        (record { scope = refl; functions = refl; variables = refl; components = refl }) refl refl shares here.rests
        object knows (scene.frames_same this items fs depth)))

    -- an `out` parameter
    pub met_parameter : (p : Parameter) (items : List Item) → w.work ≡ Goes (DeclaresParameter p ∷ items) → (h : IsAtItems (DeclaresParameter p ∷ items))
        → Meet s
    met_parameter p items is h =
        let r = h.follows in
        met_assigns (DeclaresParameter p) items is h.stack h.going r.2 r.3 r.0 r.1 (λ calls q. Gives (initial program.scope p.subtype)) (λ x m. m)
        (λ x a. record a { locals = record { name = p.name; subtype = p.subtype; value = x } ∷ a.locals })
        refl h.around r.2 r.4 (stores_assign i program g r.6) r.7 h.rests h.object (λ x. refl) h.depth (λ x place left known e low high. absurd cc)

    pub met_declares : (d : ObjectTree) (items : List Item) → w.work ≡ Goes (Declares (LocalObject d) ∷ items)
        → (h : IsAtItems (Declares (LocalObject d) ∷ items)) → Meet s
    met_declares d items is h =
        let r = h.follows in
        met_assigns (Declares (LocalObject d)) items is h.stack h.going r.2 r.3 r.0 r.1 (declared program.scope d) (λ x m. m)
        (λ x a. record a { locals = object_declared program.scope d x ∷ a.locals })
        (by_value d d.value) h.around r.2 (into i program g numbers h.around f.subprogram f.place r.0 r.1 r.2 r.4) (stores_assign i program g r.6) r.7 h.rests
        h.object
        (λ x. refl) h.depth
        (scene.handled_by this s (seeing r.3 h.around) r.2 r.1 items (declared program.scope d (call (frames_here now items)) (place_of now items)) r.0 r.1 r.7 r.8
        (scene.narrowed this s h.around.visible r.2 w.own f.locals r.4.narrows h.rests) (sym r.5.reserved) r.4.reaches.2 h.object h.depth)
      where
        by_value : (d : ObjectTree) (e : Option ExprTree)
            → with_value now (source.declared_value now items d e) items (λ v. source.with_object now (object_declared program.scope d v) items)
            ≡ with_value now (declared_from program.scope d e (call (frames_here now items)) (place_of now items)) items
            (λ x. record {
              effect = Quiet;
              solo = record {
                memory = store;
                task = record
                    { work = Goes items; own = record w.own { locals = object_declared program.scope d x ∷ w.own.locals }; callers = w.callers };
              };
              given = None;
            })
        by_value d (Some e) = refl
        by_value d None = refl

    pub met_assignment : (name : NameTree) (e : ExprTree) (items : List Item) → w.work ≡ Goes (Does (Assignment name e) ∷ items)
        → (h : IsAtItems (Does (Assignment name e) ∷ items)) → Meet s
    met_assignment name e items is h =
        let r = h.follows in
        met_assigns (Does (Assignment name e)) items is h.stack h.going r.2 r.2 r.0 r.1 (assigned name e) (λ x m. store_with x.target x.value m)
        (λ x a. activation_with x.target x.value a)
        (by_target (target (place_of now items) name.first.name name.selectors)) h.around r.2
        (into i program g numbers h.around f.subprogram f.place r.0 r.1 r.2 r.3) r.4.0 r.5 h.rests
        h.object (λ x. same_within x.target x.value w.own) h.depth
        (handled_at items (assigned name e (call (frames_here now items)) (place_of now items)) h r.2 r.0 r.1 r.1 refl r.3 r.5 r.4.1 (omega arith))
      where
        go : Assigned → source.SourceStepped
        go x = record {
          effect = Quiet;
          solo = record {
            memory = store_with x.target x.value store;
            task = record
                { work = Goes items; own = activation_with x.target x.value w.own; callers = w.callers };
          };
          given = None;
        }

        by_value : (x : Target) (v : Val Value)
            → with_value now v items (λ z. source.stores now x z (Goes items)) ≡ with_value now (and_then v (λ z. Gives (record { target = x; value = z })))
            items go
        by_value x (Gives z) = refl
        by_value x (Raises y) = refl
        by_value x Meaningless = refl

        by_target : (v : Val Target)
            → with_value now v items (λ x. with_value now (and_then (source.evaluate now items e) (passed x.subtype)) items
            (λ z. source.stores now x z (Goes items)))
            ≡ with_value now (and_then v (assigned_to (call (frames_here now items)) (place_of now items) e)) items go
        by_target (Gives x) = by_value x (and_then (source.evaluate now items e) (passed x.subtype))
        by_target (Raises y) = refl
        by_target Meaningless = refl

    -- ---- numbers, of lines and of delays

    abbrev pub number_of_value : Value → Val ℤ
    number_of_value (Number z) = Gives z
    number_of_value v = Meaningless

    -- what goes on with a value goes on with its number, where nothing else has a meaning
    pub by_number : (v : Val Value) (items : List Item) (go : Value → source.SourceStepped) (of : ℤ → source.SourceStepped)
        → ((x : Value) → go x ≡ with_value now (number_of_value x) items of)
        → with_value now v items go ≡ with_value now (and_then v number_of_value) items of
    by_number (Gives x) items go of same = same x
    by_number (Raises y) items go of same = refl
    by_number Meaningless items go of same = refl

    -- the word of a number
    pub number_comes : (v : Val Value) (from to : ℕ) → Comes i schedule k t m (placed f from []) fs (to - from) to (on []) v
        → Comes i schedule k t m (placed f from []) fs (to - from) to (λ z. z ∷ []) (and_then v number_of_value)
    number_comes (Gives (Number z)) from to h = h
    number_comes (Gives (Truth b)) from to h = tt
    number_comes (Gives (Array vs)) from to h = tt
    number_comes (Gives (Record vs)) from to h = tt
    number_comes (Raises y) from to h = h
    number_comes Meaningless from to h = tt

    -- ---- lines

    pub met_put : (name : NameTree) (label : _) (at : ℕ) (e : ExprTree) (items : List Item) → w.work ≡ Goes (Does (tree.Call name) ∷ items)
        → (h : IsAtItems (Does (tree.Call name) ∷ items))
        → source.item_step now (Does (tree.Call name)) items ≡ with_value now (source.evaluate now items e) items (source.put_line now label items)
        → (let r = h.follows in IsPutCode i program g numbers r.2 r.0 r.1
        (MoreSelectors (Arguments (MoreArguments (Text label at) (MoreArguments (expressions.Value e) NoArguments))) NoSelectors))
        → Meet s
    met_put name label at e items is h same code =
        let r = h.follows in
        let leads = r.3 in
        let mid = code.0 in
        let number = code.1 in
        let le = code.2 in
        let named = code.5 in
        let end = code.6 in
        let x = leads.from_inside in
        let y = leads.to_inside in
        let up = jumps_up i program g numbers f.place r.0 leads.jumps in
        let rests = scene.narrowed this s h.around.visible r.2 w.own f.locals leads.narrows h.rests in
        let next : mid + 1 ≡ r.1 = omega (arith, end) in
        subst Meet (sym (scene.going_is this s h.stack h.going))
        (scene.met_comes this f fs (r.0 - f.place) r.0 (mid - r.0) mid (λ z. z ∷ []) (and_then (source.evaluate now items e) number_of_value) items
        (λ z. source.works now (Says label z) (Goes items))
        (scene.jumps_spend this f fs f.place r.0 leads.jumps)
        (number_comes (source.evaluate now items e) r.0 mid (scene.evaluates this r.2 r.0 mid on (λ calls p. value_with calls p e) items f fs code.3 rests
        h.object h.depth))
        (omega (arith, x.0, y.1, up, le, end))
        (ap (λ q. work_step now q) is ∙ same ∙ by_number (source.evaluate now items e) items (source.put_line now label items)
        (λ z. source.works now (Says label z) (Goes items)) line_numbers)
        (subst (λ q. items_size items < work_size q) (sym is) (let c = item_counts (Does (tree.Call name)) items in omega (arith, c)))
        (handled_at items (and_then (source.evaluate now items e) number_of_value) h r.2 r.0 r.1 mid refl leads r.5 r.4.1 (omega (arith, end)))
        (λ z ez. (
          steps.does (Says label z) m (goes_at f r.1 f.locals) fs None None,
          acts quiet i mid (op.PutLine number) code.4 schedule k t m f fs (z ∷ []) ∙
              (λ j. steps.does (Says (named j) z) m (goes_at f (next j) f.locals) fs None None),
          record {
            effect = refl;
            leaves = Going items refl (scene.goes_on this s items w.own (seeing r.2 h.around) r.1 f.locals r.5 rests h.object h.depth);
            words = shares;
          },
        )))
      where
        line_numbers : (v : Value)
            → source.put_line now label items v ≡ with_value now (number_of_value v) items (λ z. source.works now (Says label z) (Goes items))
        line_numbers (Number z) = refl
        line_numbers (Truth b) = refl
        line_numbers (Array vs) = refl
        line_numbers (Record vs) = refl
