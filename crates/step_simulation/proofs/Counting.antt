-- Steps of loops over ranges: the range and the first turn, and the end of each turn.
use Rattle.std.proofs.Common.{◌≡◌, ℕ, suc, ◌+◌, ◌-◌, ◌<◌, ◌≤◌, ℤ, List, [], ◌∷◌, length, None, Bool, true, false, refl, sym, ap, ◌∙◌, subst, arith}
use Rattle.std.specs.Prelude.{if◌then◌else◌, int_lt, ⊤}
use Rattle.kernel.specs.Effects.{Quiet}
use Rattle.kernel.specs.Counting.{Spends}
use Rattle.part_code.specs.image.specs.Frames.{Frame, TaskState, Role, own_object}
use Rattle.part_code.specs.image.specs.Steps as steps
use Rattle.part_code.specs.image.specs.Steps.{behaviour}
use Rattle.part_code.specs.image.specs.declared.instruction.Operation.TheVariants as op
use Rattle.part_code.specs.ada_tree.specs.declared.expression.Identifier.{Identifier}
use Rattle.part_code.specs.ada_tree.specs.StatementTree.{For, Loop, RangeTree, StmtTrees}
use Rattle.part_code.specs.types.specs.Evaluations.{Val, Gives, Raises, Meaningless, and_then}
use Rattle.part_code.specs.types.specs.Evaluating.{call, val}
use Rattle.part_code.specs.types.specs.Operators.{are_same}
use Rattle.part_code.specs.types.specs.Places.{Place}
use Rattle.part_code.specs.types.specs.Values.{Value, Number, Truth, Array, Record}
use Rattle.step_soundness.specs.meaning.specs.Meeting.{Last}
use Rattle.step_soundness.specs.meaning.specs.MeetingLaws.{spends_takes}
use Rattle.step_soundness.specs.meaning.specs.SameMeaning.{frames_of}
use Rattle.step_soundness.specs.meaning.specs.SourceSteps as source
use Rattle.step_soundness.specs.meaning.specs.SourceSteps.{place_of, with_value, work_step, frames_here}
use Rattle.step_soundness.specs.meaning.specs.Works.{Item, Does, RepeatsFor, Goes, Activation}
use Rattle.part_code.specs.expr_code.specs.Views.{in_frame, placed, view_of}
use Rattle.part_code.specs.expr_code.specs.Coming.{most_steps}
use Rattle.part_code.specs.expr_code.proofs.Coming.{acts}
use Rattle.part_code.specs.Resting.{Framed, RestsWith}
use Rattle.part_code.specs.Counting.{Bounds, GoesOn, IsCounted, IsRange, bounds, in_turn, number_bounds, turn_first, turn_last, with_last, with_parameter, are_turns_inside}
use Rattle.part_code.specs.Jumping.{Here, Jumps}
use Rattle.part_code.proofs.Jumping.{jumps_both}
use Rattle.step_simulation.specs.Standing.{CodeStands, Going, frames_in, in_range, items_size, work_size}
use Rattle.step_simulation.proofs.Going.{before_ends, before_follows, jumps_up, narrows_same, rest_of}
use Rattle.step_simulation.proofs.Sizes.{before_size, item_counts}
use Rattle.part_code.proofs.Handling.{goes_within}
use Rattle.step_simulation.proofs.Scenes.{Scene}
use Rattle.step_simulation.proofs.Scenes as scene
use Rattle.part_code.proofs.TurnNumbers.{next_inside, turn_within}

module _ (this : Scene) where
  open this use {quiet, i, program, g, numbers, schedule, k, t, calm, store, m, shares, w}

  abbrev now : source.Here
  now = scene.now this

  abbrev Meet : TaskState → Type 0
  Meet s = scene.Meet this s

  abbrev Setting : Type 0
  Setting = scene.Setting this

  abbrev seeing : Framed → Setting → Setting
  seeing v a = scene.seeing this v a

  abbrev In : ℕ → ℕ → Type 0
  In n place = scene.In this n place

  abbrev Follow : Setting → (n from : ℕ) → List Item → Role → List Frame → List Activation → Type 0
  Follow a n from items role above waiting = scene.Follow this a n from items role above waiting

  abbrev goes_at : Frame → ℕ → List ℤ → Frame
  goes_at above place locals = scene.goes_at this above place locals

  module _ (s : TaskState) where
    abbrev f : Frame
    f = s.frame

    abbrev fs : List Frame
    fs = s.callers

    abbrev IsAtItems : List Item → Type 0
    IsAtItems items = scene.IsAtItems this s items

    abbrev Spent : ℕ → Frame → Frame → Type 0
    Spent n from to = Spends (behaviour i schedule) t frames_of (most_steps i) (suc (length fs)) n k (in_frame m from fs) k (in_frame m to fs)

    -- the step leaves the task with these items and this activation, and changes nothing else
    abbrev left_with : Activation → List Item → source.SourceStepped
    left_with own items = record {
      effect = Quiet;
      solo = record { memory = store; task = record { work = Goes items; own = own; callers = w.callers } };
      given = None;
    }

    -- the frame goes on elsewhere, by steps that no other task notices
    met_goes_on : (n n' mid target : ℕ) (start locals : List ℤ) (items : List Item) (own : Activation) (a : Setting)
        → work_step now w.work ≡ left_with own items
        → Spent n (placed f f.place []) (placed f mid start)
        → Spent n' (placed f mid start) (goes_at f target locals)
        → n + (n' + 1) < most_steps i (in_frame m f fs).task
        → Follow a f.subprogram target items f.role fs w.callers
        → RestsWith g a.visible a.held own locals
        → own_object i f ≡ own.within
        → length fs ≡ frames_in items
        → suc (items_size items) < work_size w.work
        → Meet (in_frame m (placed f f.place []) fs).task
    met_goes_on n n' mid target start locals items own a is first second low follows rests object depth less =
        let end = in_frame m (goes_at f target locals) fs in
        scene.met_quiet this f fs (n + (n' + 1)) end.task (left_with own items) is refl refl
        (spends_takes (behaviour i schedule) t frames_of (most_steps i) (n' + 1) k end first
        (spends_takes (behaviour i schedule) t frames_of (most_steps i) 1 k end second (Last refl)))
        low
        (λ other e. subst (λ q. CodeStands i program g numbers this.note k t (left_with own items).solo.task q) (sym e)
        (Going items refl (scene.goes_on this s items own a target locals follows rests object depth)))
        less

    -- ---- the range

    range_is : (range : RangeTree) (go : Value → Value → source.SourceStepped) (items : List Item) (p : Place)
        → with_value now (val p range.first) items (λ v. with_value now (val p range.last) items (go v))
        ≡ with_value now (bounds range (call p.frames_left) p) items (λ b. go b.first b.last)
    range_is range go items p = by_first (val p range.first)
      where
        by_last : (v : Value) (u : Val Value) → with_value now u items (go v) ≡ with_value now (and_then u (with_last v)) items (λ b. go b.first b.last)
        by_last v (Gives u) = refl
        by_last v (Raises x) = refl
        by_last v Meaningless = refl

        by_first : (v : Val Value) → with_value now v items (λ v. with_value now (val p range.last) items (go v))
            ≡ with_value now (and_then v (λ a. and_then (val p range.last) (with_last a))) items (λ b. go b.first b.last)
        by_first (Gives v) = by_last v (val p range.last)
        by_first (Raises x) = refl
        by_first Meaningless = refl

    pub met_for : (place : ℕ) (parameter : Identifier) (reversed : Bool) (range : RangeTree) (body : StmtTrees) (items : List Item)
        → w.work ≡ Goes (Does (Loop place (For parameter reversed range) body) ∷ items)
        → (h : IsAtItems (Does (Loop place (For parameter reversed range) body) ∷ items))
        → Meet s
    met_for place parameter reversed range body items is h =
        let u1 = c.up in
        let u2 = c.over in
        let u3 = c.on in
        let u4 = c.end in
        let u5 = begin.up in
        let u6 = begin.over in
        let x = r.3.from_inside in
        let y = r.3.to_inside in
        let up = jumps_up i program g numbers f.place first come in
        let p = place_of now items in
        subst Meet (sym (scene.going_is this s h.stack h.going))
        (scene.met_value this f fs (first - f.place) first (begin.mid - first) begin.mid (begin.stack [])
        (bounds range (call (frames_here now items)) p)
        items
        (λ b. source.for_range now parameter reversed body items b.first b.last)
        (scene.jumps_spend this f fs f.place first come)
        (scene.evaluates this r.2 first begin.mid begin.stack (bounds range) items f fs begin.computes here h.object h.depth)
        (omega (arith, x.0, y.1, up, u1, u2, u3, u4, u5, u6))
        (ap (λ q. work_step now q) is ∙ range_is range (source.for_range now parameter reversed body items) items p)
        (subst (λ q. items_size items < work_size q) (sym is)
        (let e = item_counts (Does (Loop place (For parameter reversed range) body)) items in omega (arith, e)))
        (scene.handled_by this s outer r.2 r.1 items (bounds range (call (frames_here now items)) p) first begin.mid r.5
        (goes_within i outer.raised first first begin.mid c.start r.4.10 (omega arith) u6) here refl r.3.reaches.2 h.object h.depth)
        (λ b eb there spends. by_bounds b.first b.last eb there spends))
      where
        r : Follow h.around f.subprogram f.place (Does (Loop place (For parameter reversed range) body) ∷ items) f.role fs w.callers
        r = h.follows

        outer : Setting
        outer = seeing r.2 h.around

        -- where the bounds are evaluated, and the way out
        first : ℕ
        first = r.4.0

        out : ℕ
        out = r.4.1

        come : Jumps i f.place first
        come = jumps_both i r.3.jumps r.4.5

        c : IsCounted i g r.2 first r.1 parameter.name reversed
        c = r.4.7

        begin : IsRange i g r.2 c.inner c.counter c.limit first c.start r.1 parameter.name reversed range c.subtype
        begin = r.4.8

        here : RestsWith g r.2 h.around.held w.own f.locals
        here = scene.narrowed this s h.around.visible r.2 w.own f.locals r.3.narrows h.rests

        inside : (place : ℕ) → r.0 ≤ place → place ≤ r.1 → In f.subprogram place
        inside place low high =
            let x = r.3.from_inside in
            let y = r.3.to_inside in
            let up = jumps_up i program g numbers f.place r.0 r.3.jumps in
            (omega (arith, x.0, up, low), omega (arith, y.1, high))

        few : ⊤ → ((first - f.place) + (begin.mid - first)) + ((c.start - begin.mid) + 1) < most_steps i (in_frame m f fs).task
        few u =
            let x = r.3.from_inside in
            let y = r.3.to_inside in
            let up = jumps_up i program g numbers f.place first come in
            let u1 = c.up in
            let u2 = c.over in
            let u3 = c.on in
            let u4 = c.end in
            let u5 = begin.up in
            let u6 = begin.over in
            omega (arith, x.0, y.1, up, u1, u2, u3, u4, u5, u6)

        ComesTo : Bounds → Type 0
        ComesTo b = Spent ((first - f.place) + (begin.mid - first)) (placed f f.place []) (placed f begin.mid (begin.stack [] b))

        -- the first turn
        turns : (now' last : ℤ) (b : Bounds) → are_turns_inside c.subtype reversed now' last ≡ true → work_step now w.work ≡ source.for_turn now parameter.name reversed now' last body items → ComesTo b
            → GoesOn i g schedule k t m (placed f begin.mid (begin.stack [] b)) fs (c.start - begin.mid) c.start c.inner
            (in_turn c.counter c.limit now' last h.around.held) (with_parameter parameter.name now' w.own)
            → Meet (in_frame m (placed f f.place []) fs).task
        turns now' last b inside_it there spends on =
            let u1 = c.up in
            let u2 = c.over in
            let u3 = c.on in
            let u4 = c.end in
            let loop = RepeatsFor parameter.name reversed now' last body ∷ items in
            let turn_setting = in_range i program g numbers out c.counter c.limit now' last c.inner outer in
            let down = r.4.2 in
            let start_in = inside c.start (omega (arith, down, u1)) (omega (arith, u2, u3, u4)) in
            let back_in = inside c.back (omega (arith, down, u1, u2)) (omega (arith, u3, u4)) in
            let head_in = inside first down (omega (arith, u1, u2, u3, u4)) in
            let out_in = inside out r.4.3 r.4.4 in
            let total = before_size body loop in
            met_goes_on ((first - f.place) + (begin.mid - first)) (c.start - begin.mid) begin.mid c.start (begin.stack [] b) on.locals
            (source.before body loop) (with_parameter parameter.name now' w.own) turn_setting there spends on.spends (few tt)
            (before_follows i program g numbers this.note body turn_setting c.inner f.subprogram c.start c.back loop f.role fs w.callers r.4.9
            u2 start_in back_in
            (c.shows, (λ q view z. r.3.reaches.1 q view (c.shows q view z)), λ q view z. r.3.reaches.2 q view (c.shows q view z)) (
              first,
              r.1,
              outer,
              c,
              record {
                jumps = Here;
                out = out;
                way = r.4.6;
                out_inside = out_in;
                loop = refl;
                narrows = narrows_same g c.inner;
                reaches = r.3.reaches.1;
                handles = r.3.reaches.2;
                from_inside = back_in;
                head_inside = head_in;
                to_inside = r.3.to_inside;
              },
              r.4.9,
              r.5,
              r.4.11,
              inside_it,
            ))
            on.rests h.object (h.depth ∙ sym (before_ends i program g numbers body loop))
            (subst (λ q. suc (items_size (source.before body loop)) < work_size q) (sym is) (omega (arith, total)))

        of_numbers : (x y : ℤ) → bounds range (call (frames_here now items)) (place_of now items) ≡ Gives (number_bounds x y)
            → work_step now w.work ≡ source.for_range now parameter reversed body items (Number x) (Number y)
            → ComesTo (number_bounds x y) → Meet (in_frame m (placed f f.place []) fs).task
        of_numbers x y eb there spends = by_null (int_lt y x) refl
          where
            by_null : (b : Bool) → int_lt y x ≡ b → Meet (in_frame m (placed f f.place []) fs).task
            by_null true null =
                let on = begin.null schedule k t m f fs h.around.held w.own (place_of now items) x y calm refl
                (scene.sees_here this r.2 items f fs here h.object) here eb null in
                met_goes_on ((first - f.place) + (begin.mid - first)) (c.start - begin.mid) begin.mid r.1 (begin.stack [] (number_bounds x y)) on.locals
                items w.own outer (there ∙ ap (λ q. if q then source.goes now items else started) null) spends on.spends (few tt) r.5 on.rests h.object h.depth
                (subst (λ q. suc (items_size items) < work_size q) (sym is)
                (let e = item_counts (Does (Loop place (For parameter reversed range) body)) items in omega (arith, e)))
              where
                started : source.SourceStepped
                started = if reversed then source.for_turn now parameter.name true y x body items else source.for_turn now parameter.name false x y body items
            by_null false full =
                turns (turn_first reversed x y) (turn_last reversed x y) (number_bounds x y)
                (begin.inside (place_of now items) (view_of i schedule k t m f fs) x y (scene.sees_here this r.2 items f fs here h.object) eb full)
                (there ∙ ap (λ q. if q then source.goes now items else (if reversed then source.for_turn now parameter.name true y x body items
                else source.for_turn now parameter.name false x y body items)) full ∙ directed reversed)
                spends
                (begin.begins schedule k t m f fs h.around.held w.own (place_of now items) x y calm refl (scene.sees_here this r.2 items f fs here h.object)
                here eb full)
              where
                directed : (d : Bool) → (if d then source.for_turn now parameter.name true y x body items else source.for_turn now parameter.name false x y
                    body items)
                    ≡ source.for_turn now parameter.name d (turn_first d x y) (turn_last d x y) body items
                directed true = refl
                directed false = refl

        by_bounds : (first last : Value) → bounds range (call (frames_here now items)) (place_of now items) ≡ Gives (record { first = first; last = last })
            → work_step now w.work ≡ source.for_range now parameter reversed body items first last
            → ComesTo (record { first = first; last = last }) → Meet (in_frame m (placed f f.place []) fs).task
        by_bounds (Number x) (Number y) eb there spends = of_numbers x y eb there spends
        by_bounds (Number x) (Truth b) eb there spends = absurd (scene.has_meaning this items there)
        by_bounds (Number x) (Array vs) eb there spends = absurd (scene.has_meaning this items there)
        by_bounds (Number x) (Record vs) eb there spends = absurd (scene.has_meaning this items there)
        by_bounds (Truth b) last eb there spends = absurd (scene.has_meaning this items there)
        by_bounds (Array vs) last eb there spends = absurd (scene.has_meaning this items there)
        by_bounds (Record vs) last eb there spends = absurd (scene.has_meaning this items there)

    -- ---- the end of a turn

    pub met_next : (parameter : List ℕ) (reversed : Bool) (now' last : ℤ) (body : StmtTrees) (items : List Item)
        → w.work ≡ Goes (RepeatsFor parameter reversed now' last body ∷ items) → (h : IsAtItems (RepeatsFor parameter reversed now' last body ∷ items)) → Meet s
    met_next parameter reversed now' last body items is h = subst Meet (sym (scene.going_is this s h.stack h.going)) (by_end (are_same now' last) refl)
      where
        r : Follow h.around f.subprogram f.place (RepeatsFor parameter reversed now' last body ∷ items) f.role fs w.callers
        r = h.follows

        outer : Setting
        outer = r.2

        c : IsCounted i g outer.visible r.0 r.1 parameter reversed
        c = r.3

        here : RestsWith g c.inner (in_turn c.counter c.limit now' last outer.held) w.own f.locals
        here = subst (λ q. RestsWith g c.inner q w.own f.locals) (ap (λ q. q.held) r.4.loop)
            (scene.narrowed this s h.around.visible c.inner w.own f.locals r.4.narrows h.rests)

        -- what rests behind the loop
        behind : (locals : List ℤ) → RestsWith g c.inner (in_turn c.counter c.limit now' last outer.held) w.own locals
            → RestsWith g outer.visible outer.held w.own locals
        behind locals rests = record {
          rests = scene.shown this s c.inner outer.visible w.own locals c.shows rests.rests;
          held = rests.held.1.1;
          apart = ap (λ l. rest_of (rest_of l)) (rests.apart ∙ c.reserved);
        }

        step : work_step now w.work ≡ source.next_turn now parameter reversed now' last body items
        step = ap (λ q. work_step now q) is

        go : ℤ → source.SourceStepped
        go next = source.for_turn now parameter reversed next last body items

        by_end : (b : Bool) → are_same now' last ≡ b → Meet (in_frame m (placed f f.place []) fs).task
        by_end true same =
            let on = c.next.ends schedule k t m f fs outer.held w.own now' last calm here same in
            let x = r.4.from_inside in
            let y = r.4.to_inside in
            let up = jumps_up i program g numbers f.place c.back r.4.jumps in
            let u3 = c.on in
            let u4 = c.end in
            met_goes_on (c.back - f.place) (c.turn - c.back) c.back r.1 [] on.locals items w.own outer
            (step ∙ ap (λ q. if q then source.goes now items else with_value now (source.next_number now reversed now') items go) same)
            (scene.jumps_spend this f fs f.place c.back r.4.jumps) on.spends (omega (arith, x.0, y.1, up, u3, u4)) r.6 (behind on.locals on.rests) h.object
            h.depth (subst (λ q. suc (items_size items) < work_size q) (sym is) (omega arith))
        by_end false other =
            let x = r.4.from_inside in
            let y = r.4.to_inside in
            let up = jumps_up i program g numbers f.place c.back r.4.jumps in
            let u1 = c.up in
            let u2 = c.over in
            let u3 = c.on in
            let u4 = c.end in
            let u5 = c.next.up in
            let u6 = c.next.over in
            scene.met_value this f fs (c.back - f.place) c.back (c.next.mid - c.back) c.next.mid c.next.stack (source.next_number now reversed now') items go
            (scene.jumps_spend this f fs f.place c.back r.4.jumps)
            (c.next.counts schedule k t m f fs outer.held w.own now' last calm here other)
            (omega (arith, x.0, y.1, up, u3, u4, u5, u6))
            (step ∙ ap (λ q. if q then source.goes now items else with_value now (source.next_number now reversed now') items go) other)
            (subst (λ q. items_size items < work_size q) (sym is) (omega arith))
            (scene.handled_by this s outer outer.visible r.1 items (source.next_number now reversed now') c.back c.next.mid r.6
            (goes_within i outer.raised c.back c.back c.next.mid r.1 r.7 (omega arith) (omega (arith, u4, u6))) (behind f.locals here) refl r.4.handles h.object
            h.depth)
            (λ next ez there spends.
            let next_in = next_inside c.subtype reversed now' last next r.8 other ez in
            let on = c.next.goes schedule k t m f fs outer.held w.own now' last next calm here (turn_within c.subtype reversed next last next_in) in
            let own' = with_parameter parameter next w.own in
            let loop = RepeatsFor parameter reversed next last body ∷ items in
            let turn_setting = in_range i program g numbers r.4.out c.counter c.limit next last c.inner outer in
            let z = r.4.head_inside in
            let start_in : In f.subprogram c.start = (omega (arith, z.0, u1), omega (arith, y.1, u2, u3, u4)) in
            let back_in : In f.subprogram c.back = (omega (arith, z.0, u1, u2), omega (arith, y.1, u3, u4)) in
            let last_frame = goes_at f c.turn on.locals in
            let y' : steps.Stepped = steps.does Quiet m (goes_at f c.start on.locals) fs None None in
            scene.moves_from this (in_frame m (placed f f.place []) fs).task (((c.back - f.place) + (c.next.mid - c.back)) + ((c.turn - c.next.mid) + 1))
            (in_frame m last_frame fs) (go next) y' there
            (acts quiet i c.turn (op.Jump c.start) c.jump schedule k t m last_frame fs [])
            (spends_takes (behaviour i schedule) t frames_of (most_steps i) ((c.turn - c.next.mid) + 1) k (in_frame m last_frame fs) spends
            (spends_takes (behaviour i schedule) t frames_of (most_steps i) 1 k (in_frame m last_frame fs) on.spends (Last refl)))
            (omega (arith, x.0, y.1, up, u3, u4, u5, u6), λ some. omega (arith, x.0, y.1, up, u3, u4, u5, u6))
            (record {
              effect = refl;
              leaves = Going (source.before body loop) refl (scene.goes_on this s (source.before body loop) own' turn_setting c.start on.locals
                  (before_follows i program g numbers this.note body turn_setting c.inner f.subprogram c.start c.back loop f.role fs w.callers r.5
                  u2 start_in back_in
                  (c.shows, (λ q view z. r.4.reaches q view (c.shows q view z)), λ q view z. r.4.handles q view (c.shows q view z)) (
                    r.0,
                    r.1,
                    outer,
                    c,
                    record {
                      jumps = Here;
                      out = r.4.out;
                      way = r.4.way;
                      out_inside = r.4.out_inside;
                      loop = refl;
                      narrows = narrows_same g c.inner;
                      reaches = r.4.reaches;
                      handles = r.4.handles;
                      from_inside = back_in;
                      head_inside = r.4.head_inside;
                      to_inside = r.4.to_inside;
                    },
                    r.5,
                    r.6,
                    r.7,
                    next_in,
                  ))
                  on.rests h.object (h.depth ∙ sym (before_ends i program g numbers body loop)));
              words = shares;
            }))
