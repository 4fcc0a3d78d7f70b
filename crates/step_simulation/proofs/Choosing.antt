-- Steps of `case`: the value is compared with the choices of each alternative.
use Rattle.std.proofs.Common.{◌≡◌, ℕ, suc, ◌+◌, ◌-◌, ◌<◌, ◌≤◌, ℤ, List, [], ◌∷◌, length, Option, Some, None, Bool, true, false, refl, sym, ap, ◌∙◌, subst, arith}
use Rattle.std.specs.Prelude.{if◌then◌else◌}
use Rattle.kernel.specs.Counting.{Spends}
use Rattle.kernel.specs.RunLaws.{spends_more, spends_trans}
use Rattle.step_soundness.specs.meaning.specs.Meeting.{Last}
use Rattle.step_soundness.specs.meaning.specs.MeetingLaws.{spends_takes}
use Rattle.part_code.specs.image.specs.Frames.{Frame, TaskState}
use Rattle.part_code.specs.image.specs.Steps.{behaviour}
use Rattle.part_code.specs.image.specs.declared.instruction.Operation.TheVariants as op
use Rattle.part_code.specs.ada_tree.specs.Size.{alternatives_size, stmts_size}
use Rattle.part_code.specs.ada_tree.specs.StatementTree.{Case, AlternativeTrees, NoAlternatives, MoreAlternatives, StmtTrees}
use Rattle.part_code.specs.types.specs.Evaluations.{Gives}
use Rattle.part_code.specs.types.specs.Evaluating.{val, value_with}
use Rattle.part_code.specs.types.specs.Values.{Value}
use Rattle.part_code.specs.ada_tree.specs.ExpressionTree.{ExprTree}
use Rattle.part_code.specs.types.specs.Places.{Place}
use Rattle.step_soundness.specs.meaning.specs.SameMeaning.{frames_of}
use Rattle.step_soundness.specs.meaning.specs.SourceSteps as source
use Rattle.step_soundness.specs.meaning.specs.SourceSteps.{place_of, work_step}
use Rattle.step_soundness.specs.meaning.specs.Works.{Item, Does, Goes}
use Rattle.part_code.specs.expr_code.specs.Views.{At, in_frame, placed, view_of}
use Rattle.part_code.specs.expr_code.specs.Coming.{most_steps, on}
use Rattle.part_code.specs.expr_code.specs.Seeing.{Sees}
use Rattle.part_code.specs.Resting.{Framed}
use Rattle.part_code.specs.Handling.{Handling}
use Rattle.part_code.specs.Statements.{AreAlternatives, AreStatements, Ways}
use Rattle.part_code.specs.Jumping.{Here, There}
use Rattle.step_simulation.specs.Standing.{CodeStands, Going, items_size, work_size}
use Rattle.step_simulation.proofs.Going.{before_ends, before_follows, earlier, jumps_up, narrows_same}
use Rattle.step_simulation.proofs.Sizes.{before_size, item_counts}
use Rattle.step_simulation.proofs.Scenes.{Scene}
use Rattle.step_simulation.proofs.Scenes as scene

module _ (this : Scene) where
  open this use {quiet, i, program, g, numbers, schedule, k, t, calm, store, m, shares, w}

  abbrev now : source.Here
  now = scene.now this

  abbrev Meet : TaskState → Type 0
  Meet s = scene.Meet this s

  abbrev Setting : Type 0
  Setting = scene.Setting this

  abbrev seeing : Framed → Setting → Setting
  seeing v a = scene.seeing this v a

  abbrev In : ℕ → ℕ → Type 0
  In n place = scene.In this n place

  abbrev goes_at : Frame → ℕ → List ℤ → Frame
  goes_at above place locals = scene.goes_at this above place locals

  module _ (s : TaskState) where
    abbrev f : Frame
    f = s.frame

    abbrev fs : List Frame
    fs = s.callers

    abbrev IsAtItems : List Item → Type 0
    IsAtItems items = scene.IsAtItems this s items

    module _ (v : Framed) (ways : Ways) (raised : Handling) (e : ExprTree) (p : Place) (x : Value) (sees : Sees g v.names p (view_of i schedule k t m f fs))
        (ev : val p e ≡ Gives x) where
      -- where the statements of the alternative stand that is chosen
      record IsTaken (from to : ℕ) (body : StmtTrees) : Type 0 where
        start : ℕ
        joint : ℕ
        up : from ≤ start
        over : start ≤ joint
        below : suc joint ≤ to
        statements : AreStatements i program g numbers v ways raised start joint body
        jump : At i joint (op.Jump to)
        spends : Spends (behaviour i schedule) t frames_of (most_steps i) (suc (length fs)) (to - from) k (in_frame m (placed f from (on [] x)) fs) k
            (in_frame m (placed f start []) fs)

      further : (from mid to : ℕ) (body : StmtTrees) → from ≤ mid → mid ≤ to
          → Spends (behaviour i schedule) t frames_of (most_steps i) (suc (length fs)) (mid - from) k (in_frame m (placed f from (on [] x)) fs) k
          (in_frame m (placed f mid (on [] x)) fs)
          → IsTaken mid to body → IsTaken from to body
      further from mid to body up over first h =
          let a = h.up in
          let e : (mid - from) + (to - mid) ≤ to - from = omega (arith, up, over) in
          record {
            start = h.start;
            joint = h.joint;
            up = omega (arith, up, a);
            over = h.over;
            below = h.below;
            statements = h.statements;
            jump = h.jump;
            spends = spends_more (behaviour i schedule) t frames_of (most_steps i) (to - from) e
                (spends_trans (behaviour i schedule) t frames_of (most_steps i) (to - mid) k (in_frame m (placed f h.start []) fs) first h.spends);
          }

      taken_from : (all : AlternativeTrees) (from to : ℕ) (body : StmtTrees) → AreAlternatives i program g numbers v ways raised from to e all
          → source.alternative_for p x all ≡ Some body → IsTaken from to body
      taken_from NoAlternatives from to body code is = cc
      taken_from (MoreAlternatives at choices statements rest) from to body code is = by_choice (source.chooses p choices x) refl is
          (λ k. taken_from rest (suc code.1) to body code.8 k)
        where
          by_choice : (b : Bool) → source.chooses p choices x ≡ b → (if b then Some statements else source.alternative_for p x rest) ≡ Some body
              → (source.alternative_for p x rest ≡ Some body → IsTaken (suc code.1) to body) → IsTaken from to body
          by_choice true chosen is later =
              let up = code.2 in
              let over = code.3 in
              let below = code.4 in
              let less : suc code.1 - from ≤ to - from = omega (arith, up, over, below) in
              record {
                start = code.0;
                joint = code.1;
                up = up;
                over = over;
                below = below;
                statements = subst (λ q. AreStatements i program g numbers v ways raised code.0 code.1 q) (same_statements is) code.6;
                jump = code.7;
                spends = spends_more (behaviour i schedule) t frames_of (most_steps i) (to - from) less
                    (subst (λ b. Spends (behaviour i schedule) t frames_of (most_steps i) (suc (length fs)) (suc code.1 - from) k
                    (in_frame m (placed f from (on [] x)) fs) k
                    (in_frame m (if b then placed f code.0 [] else placed f (suc code.1) (on [] x)) fs)) chosen
                    (code.5.tests schedule k t m f fs p x calm sees ev));
              }
            where
              same_statements : Some statements ≡ Some body → statements ≡ body
              same_statements e = cc
          by_choice false chosen is later =
              let up = code.2 in
              let over = code.3 in
              let below = code.4 in
              further from (suc code.1) to body (omega (arith, up, over)) below
              (subst (λ b. Spends (behaviour i schedule) t frames_of (most_steps i) (suc (length fs)) (suc code.1 - from) k
              (in_frame m (placed f from (on [] x)) fs) k
              (in_frame m (if b then placed f code.0 [] else placed f (suc code.1) (on [] x)) fs)) chosen (code.5.tests schedule k t m f fs p x calm sees ev))
              (later is)

    chosen_size : (place : Place) (x : Value) (all : AlternativeTrees) (body : StmtTrees) → source.alternative_for place x all ≡ Some body
        → stmts_size body < alternatives_size all
    chosen_size place x NoAlternatives body is = cc
    chosen_size place x (MoreAlternatives at choices statements rest) body is = by_choice (source.chooses place choices x) is
        (λ k. chosen_size place x rest body k)
      where
        by_choice : (b : Bool) → (if b then Some statements else source.alternative_for place x rest) ≡ Some body
            → (source.alternative_for place x rest ≡ Some body → stmts_size body < alternatives_size rest)
            → stmts_size body < alternatives_size (MoreAlternatives at choices statements rest)
        by_choice true e later = subst (λ q. stmts_size q < alternatives_size (MoreAlternatives at choices statements rest)) (same_statements e) (omega arith)
          where
            same_statements : Some statements ≡ Some body → statements ≡ body
            same_statements e = cc
        by_choice false e later = let h = later e in omega (arith, h)

    pub met_case : (place : ℕ) (e : ExprTree) (all : AlternativeTrees) (items : List Item) → w.work ≡ Goes (Does (Case place e all) ∷ items)
        → (h : IsAtItems (Does (Case place e all) ∷ items)) → Meet s
    met_case place e all items is h =
        let r = h.follows in
        let leads = r.3 in
        let code = r.4 in
        let mid = code.0 in
        let le = code.1 in
        let up' = code.2 in
        let x = leads.from_inside in
        let y = leads.to_inside in
        let up = jumps_up i program g numbers f.place r.0 leads.jumps in
        let rests = scene.narrowed this s h.around.visible r.2 w.own f.locals leads.narrows h.rests in
        let p = place_of now items in
        subst Meet (sym (scene.going_is this s h.stack h.going))
        (scene.met_value this f fs (r.0 - f.place) r.0 (mid - r.0) mid (on []) (source.evaluate now items e) items
        (λ v. source.alternative now (source.alternative_for p v all) items)
        (scene.jumps_spend this f fs f.place r.0 leads.jumps)
        (scene.evaluates this r.2 r.0 mid on (λ calls p. value_with calls p e) items f fs code.3 rests h.object h.depth)
        (omega (arith, x.0, y.1, up, le, up'))
        (ap (λ q. work_step now q) is)
        (subst (λ q. items_size items < work_size q) (sym is) (let c = item_counts (Does (Case place e all)) items in omega (arith, c)))
        (scene.handled_by this s (seeing r.2 h.around) r.2 r.1 items
        (source.evaluate now items e) r.0 mid r.5 code.5 rests refl leads.reaches.2 h.object h.depth)
        (λ v ev there spends. chosen v ev (source.alternative_for p v all) refl there spends))
      where
        chosen : (v : Value) → source.evaluate now items e ≡ Gives v → (o : Option StmtTrees) → source.alternative_for (place_of now items) v all ≡ o
            → work_step now w.work ≡ source.alternative now (source.alternative_for (place_of now items) v all) items
            → (let r = h.follows in Spends (behaviour i schedule) t frames_of (most_steps i) (suc (length fs)) ((r.0 - f.place) + (r.4.0 - r.0)) k
            (in_frame m (placed f f.place []) fs) k (in_frame m (placed f r.4.0 (on [] v)) fs))
            → Meet (in_frame m (placed f f.place []) fs).task
        chosen v ev None found there spends = absurd (scene.has_meaning this items (there ∙ ap (λ o. source.alternative now o items) found))
        chosen v ev (Some body) found there spends =
            let r = h.follows in
            let leads = r.3 in
            let code = r.4 in
            let mid = code.0 in
            let le = code.1 in
            let up' = code.2 in
            let x = leads.from_inside in
            let y = leads.to_inside in
            let up = jumps_up i program g numbers f.place r.0 leads.jumps in
            let rests = scene.narrowed this s h.around.visible r.2 w.own f.locals leads.narrows h.rests in
            let taken = taken_from r.2 h.around.ways h.around.raised e (place_of now items) v (scene.sees_here this r.2 items f fs rests h.object).sees ev all
            mid r.1 body code.4
            found in
            let start = taken.start in
            let joint = taken.joint in
            let u1 = taken.up in
            let u2 = taken.over in
            let u3 = taken.below in
            let size = chosen_size (place_of now items) v all body found in
            let total = before_size body items in
            let start_in : In f.subprogram start = (omega (arith, x.0, up, le, u1), omega (arith, y.1, u2, u3)) in
            let joint_in : In f.subprogram joint = (omega (arith, x.0, up, le, u1, u2), omega (arith, y.1, u3)) in
            let all' = source.before body items in
            scene.met_quiet this f fs (((r.0 - f.place) + (mid - r.0)) + ((r.1 - mid) + 1))
            (record { frame = goes_at f start f.locals; callers = fs; raising = None }) (source.goes now all')
            (there ∙ ap (λ o. source.alternative now o items) found) refl refl
            (spends_takes (behaviour i schedule) t frames_of (most_steps i) ((r.1 - mid) + 1) k (in_frame m (placed f start []) fs) spends
            (spends_takes (behaviour i schedule) t frames_of (most_steps i) 1 k (in_frame m (placed f start []) fs) taken.spends (Last refl)))
            (omega (arith, x.0, y.1, up, le, up'))
            (λ other same. subst (λ q. CodeStands i program g numbers this.note k t (source.goes now all').solo.task q) (sym same)
            (Going all' refl (scene.goes_on this s all' w.own (seeing r.2 h.around) start f.locals
            (before_follows i program g numbers this.note body h.around r.2 f.subprogram start joint items f.role fs w.callers taken.statements
            u2 start_in joint_in leads.reaches
            (earlier i program g numbers this.note items (seeing r.2 h.around) r.2 f.subprogram joint r.1 f.role fs w.callers (There taken.jump u3 Here)
            (narrows_same g r.2) joint_in r.5))
            rests h.object (h.depth ∙ sym (before_ends i program g numbers body items)))))
            (subst (λ q. suc (items_size all') < work_size q) (sym is) (omega (arith, size, total)))
