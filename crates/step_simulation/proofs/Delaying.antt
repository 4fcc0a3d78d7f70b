-- Steps of `delay until`.
use Rattle.std.proofs.Common.{◌≡◌, ℕ, ℤ, suc, ◌+◌, ◌-◌, ◌<◌, List, [], ◌∷◌, Bool, None, true, false, refl, sym, ap, ◌∙◌, subst, arith}
use Rattle.std.specs.Prelude.{if◌then◌else◌}
use Rattle.kernel.specs.Effects.{Delays, is_inside_any}
use Rattle.kernel.specs.RunLaws.{spends_trans}
use Rattle.part_code.specs.base.specs.declared.exceptions.PredefinedException.TheVariants.{ProgramError}
use Rattle.part_code.specs.image.specs.Frames.{Frame, TaskState}
use Rattle.part_code.specs.image.specs.Steps as steps
use Rattle.part_code.specs.image.specs.Steps.{behaviour}
use Rattle.part_code.specs.image.specs.declared.instruction.Operation.TheVariants as op
use Rattle.part_code.specs.ada_tree.specs.ExpressionTree.{ExprTree}
use Rattle.part_code.specs.ada_tree.specs.StatementTree.{DelayUntil}
use Rattle.part_code.specs.types.specs.Evaluations.{and_then, Val, Gives, Raises, Meaningless}
use Rattle.part_code.specs.types.specs.Evaluating.{value_with}
use Rattle.part_code.specs.types.specs.Values.{Value, Number, Truth, Array, Record}
use Rattle.step_soundness.specs.meaning.specs.SameMeaning.{frames_of}
use Rattle.step_soundness.specs.meaning.specs.SourceSteps as source
use Rattle.step_soundness.specs.meaning.specs.SourceSteps.{with_value, work_step}
use Rattle.step_soundness.specs.meaning.specs.Works.{Item, Does, Goes}
use Rattle.part_code.specs.expr_code.specs.Views.{in_frame, placed, view_of}
use Rattle.part_code.specs.expr_code.specs.Coming.{most_steps, on}
use Rattle.part_code.specs.expr_code.proofs.Coming.{acts}
use Rattle.part_code.proofs.Handling.{goes_within}
use Rattle.step_simulation.specs.Standing.{Going, items_size, work_size}
use Rattle.step_simulation.proofs.Going.{jumps_up}
use Rattle.step_simulation.proofs.Sizes.{item_counts}
use Rattle.step_simulation.proofs.Scenes.{Scene}
use Rattle.step_simulation.proofs.Scenes as scene
use Rattle.step_simulation.proofs.Turning as turn
use Rattle.step_simulation.proofs.Blocking as block

module _ (this : Scene) (s : TaskState) where
  open this use {quiet, i, program, g, numbers, schedule, k, t, calm, m, shares, w}

  abbrev f : Frame
  f = s.frame

  abbrev fs : List Frame
  fs = s.callers

  abbrev now : source.Here
  now = scene.now this

  -- a test that no action is open, the time, and the delay
  pub met_delay : (place : ℕ) (e : ExprTree) (items : List Item) → w.work ≡ Goes (Does (DelayUntil place e) ∷ items)
      → (h : scene.IsAtItems this s (Does (DelayUntil place e) ∷ items)) → scene.Meet this s
  met_delay place e items is h = by_actions (is_inside_any k t) refl
    where
      delay_numbers : (v : Value)
          → source.delay_until now items v ≡ with_value now (turn.number_of_value this s v) items (λ z. source.works now (Delays z) (Goes items))
      delay_numbers (Number z) = refl
      delay_numbers (Truth b) = refl
      delay_numbers (Array vs) = refl
      delay_numbers (Record vs) = refl

      number_given : (v : Val Value) (z : ℤ) → and_then v (turn.number_of_value this s) ≡ Gives z → v ≡ Gives (Number z)
      number_given (Gives (Number y)) z e = cc
      number_given (Gives (Truth b)) z e = cc
      number_given (Gives (Array vs)) z e = cc
      number_given (Gives (Record vs)) z e = cc
      number_given (Raises x) z e = cc
      number_given Meaningless z e = cc

      by_actions : (b : Bool) → is_inside_any k t ≡ b → scene.Meet this s
      by_actions true inside =
          let r = h.follows in
          let code = r.4.0 in
          let le = code.1 in
          let end = code.5 in
          block.met_inside this s (DelayUntil place e) items is h inside code.2 (omega (arith, le, end)) r.4.1
          (ap (λ q. work_step now q) is
          ∙ ap (λ b. if b then source.raises_predefined now ProgramError items else with_value now (source.evaluate now items e) items
          (source.delay_until now items)) inside)
      by_actions false free =
          let r = h.follows in
          let leads = r.3 in
          let at = r.0 in
          let code = r.4.0 in
          let mid = code.0 in
          let le = code.1 in
          let end = code.5 in
          let x = leads.from_inside in
          let y = leads.to_inside in
          let up = jumps_up i program g numbers f.place at leads.jumps in
          let rests = scene.narrowed this s h.around.visible r.2 w.own f.locals leads.narrows h.rests in
          let next : mid + 1 ≡ r.1 = omega (arith, end) in
          let seen = scene.sees_here this r.2 items f fs rests h.object in
          let timely = code.6 (source.place_of now items) (view_of i schedule k t m f fs) in
          let around = scene.seeing this r.2 h.around in
          let value = and_then (source.evaluate now items e) (turn.number_of_value this s) in
          subst (scene.Meet this) (sym (scene.going_is this s h.stack h.going))
          (scene.met_comes this f fs ((at - f.place) + 1) (suc at) (mid - suc at) mid (λ z. z ∷ []) value items (λ z. source.works now (Delays z) (Goes items))
          (spends_trans (behaviour i schedule) t frames_of (most_steps i) 1 k (in_frame m (placed f (suc at) []) fs)
          (scene.jumps_spend this f fs f.place at leads.jumps) (block.tested this s at code.2 free))
          (turn.number_comes this s (source.evaluate now items e) (suc at) mid
          (scene.evaluates this r.2 (suc at) mid on (λ calls p. value_with calls p e) items f fs code.3 rests h.object h.depth))
          (omega (arith, x.0, y.1, up, le, end))
          (ap (λ q. work_step now q) is
          ∙ ap (λ b. if b then source.raises_predefined now ProgramError items else with_value now (source.evaluate now items e) items
          (source.delay_until now items)) free
          ∙ turn.by_number this s (source.evaluate now items e) items (source.delay_until now items) (λ z. source.works now (Delays z) (Goes items))
          delay_numbers)
          (subst (λ q. items_size items < work_size q) (sym is) (let c = item_counts (Does (DelayUntil place e)) items in omega (arith, c)))
          (scene.handled_by this s around r.2 r.1 items value (suc at) mid r.5
          (goes_within i h.around.raised at (suc at) mid r.1 r.4.1 (omega arith) (omega (arith, end))) rests refl leads.reaches.2 h.object h.depth)
          (λ z ez. (
            steps.does (Delays z) m (scene.goes_at this f r.1 f.locals) fs None None,
            acts quiet i mid op.DelayUntil code.4 schedule k t m f fs (z ∷ [])
                ∙ ap (λ b. if b then steps.raises i schedule k t m (placed f mid (z ∷ [])) fs ProgramError
                else steps.next_after i schedule k t m (placed f mid (z ∷ [])) fs (Delays z) []) free
                ∙ (λ j. steps.does (Delays z) m (scene.goes_at this f (next j) f.locals) fs None None),
            record {
              effect = refl;
              leaves = (timely z seen (number_given (source.evaluate now items e) z ez), Going items refl (scene.goes_on this s items w.own around r.1 f.locals r.5 rests h.object h.depth));
              words = shares;
            },
          )))
