-- Tests that no action is open, in front of what may block (RM 9.5.1, H.5).
use Rattle.std.proofs.Common.{◌≡◌, ℕ, suc, ◌+◌, ◌-◌, ◌≤◌, ◌<◌, ℤ, List, [], ◌∷◌, length, None, true, false, refl, sym, ap, ◌∙◌, subst, arith}
use Rattle.std.specs.Prelude.{if◌then◌else◌}
use Rattle.kernel.specs.Effects.{Quiet, is_inside_any}
use Rattle.kernel.specs.Counting.{Spends}
use Rattle.part_code.specs.base.specs.Exceptions.{number_of}
use Rattle.part_code.specs.base.specs.declared.exceptions.PredefinedException.TheVariants.{ProgramError}
use Rattle.part_code.specs.image.specs.Frames.{Frame, TaskState}
use Rattle.part_code.specs.image.specs.Steps as steps
use Rattle.part_code.specs.image.specs.Steps.{behaviour}
use Rattle.part_code.specs.image.specs.declared.instruction.Operation.TheVariants as op
use Rattle.part_code.specs.ada_tree.specs.StatementTree.{StmtTree}
use Rattle.part_code.specs.types.specs.Evaluations.{Val, Raises}
use Rattle.step_soundness.specs.meaning.specs.Meeting.{Last}
use Rattle.step_soundness.specs.meaning.specs.SameMeaning.{frames_of}
use Rattle.step_soundness.specs.meaning.specs.SourceSteps as source
use Rattle.step_soundness.specs.meaning.specs.SourceSteps.{work_step}
use Rattle.step_soundness.specs.meaning.specs.Works.{Item, Does, Goes}
use Rattle.part_code.specs.expr_code.specs.Views.{At, in_frame, placed}
use Rattle.part_code.specs.expr_code.specs.Coming.{Throws, most_steps}
use Rattle.part_code.specs.expr_code.proofs.Coming.{acts}
use Rattle.part_code.specs.expr_code.proofs.Coming as coming
use Rattle.part_code.specs.Handling.{GoesBy}
use Rattle.step_simulation.specs.Standing.{items_size, work_size}
use Rattle.step_simulation.proofs.Going.{jumps_up}
use Rattle.step_simulation.proofs.Sizes.{item_counts}
use Rattle.step_simulation.proofs.Scenes.{Scene}
use Rattle.step_simulation.proofs.Scenes as scene

module _ (this : Scene) (s : TaskState) where
  open this use {quiet, i, program, g, numbers, schedule, k, t, calm, m, w}

  abbrev f : Frame
  f = s.frame

  abbrev fs : List Frame
  fs = s.callers

  abbrev now : source.Here
  now = scene.now this

  -- inside an action the test raises
  refuses : is_inside_any k t ≡ true → (at : ℕ) → At i at op.CheckBlocking
      → Throws i k t (number_of ProgramError) (in_frame m (placed f at []) fs).task (placed f at []) fs
  refuses inside at here = record {
    throws = λ schedule' l m' opened ranked.
        acts quiet i at op.CheckBlocking here schedule' l t m' f fs []
        ∙ ap (λ b. if b then steps.raises i schedule' l t m' (placed f at []) fs ProgramError else steps.next i schedule' l t m' (placed f at []) fs [])
        (ap (λ q. elim q [ [] ↦ false | a ∷ outer ↦ true ]) opened ∙ inside);
  }

  -- outside of all it is passed
  pub tested : (at : ℕ) → At i at op.CheckBlocking → is_inside_any k t ≡ false
      → Spends (behaviour i schedule) t frames_of (most_steps i) (suc (length fs)) 1 k (in_frame m (placed f at []) fs) k
      (in_frame m (placed f (suc at) []) fs)
  tested at here free =
      let one : at + 1 ≡ suc at = omega arith in
      coming.steps quiet i schedule k t m calm (placed f at []) (placed f (suc at) []) fs
      (acts quiet i at op.CheckBlocking here schedule k t m f fs []
      ∙ ap (λ b. if b then steps.raises i schedule k t m (placed f at []) fs ProgramError else steps.next i schedule k t m (placed f at []) fs []) free
      ∙ (λ j. steps.does Quiet m (placed f (one j) []) fs None None))

  -- a statement with a test in front raises inside an action
  pub met_inside : (st : StmtTree) (items : List Item) → w.work ≡ Goes (Does st ∷ items) → (h : scene.IsAtItems this s (Does st ∷ items))
      → is_inside_any k t ≡ true
      → (let r = h.follows in At i r.0 op.CheckBlocking)
      → (let r = h.follows in suc r.0 ≤ r.1)
      → (let r = h.follows in GoesBy i h.around.raised r.0 r.1)
      → work_step now w.work ≡ source.raises_predefined now ProgramError items
      → scene.Meet this s
  met_inside st items is h inside here over goes step =
      let r = h.follows in
      let leads = r.3 in
      let at = r.0 in
      let x = leads.from_inside in
      let y = leads.to_inside in
      let up = jumps_up i program g numbers f.place at leads.jumps in
      let rests = scene.narrowed this s h.around.visible r.2 w.own f.locals leads.narrows h.rests in
      let around = scene.seeing this r.2 h.around in
      let value : Val ℤ = Raises (number_of ProgramError) in
      subst (scene.Meet this) (sym (scene.going_is this s h.stack h.going))
      (scene.met_value this f fs (at - f.place) at 0 r.1 (λ z. z ∷ []) value items (λ z. source.goes now items)
      (scene.jumps_spend this f fs f.place at leads.jumps) (
        (in_frame m (placed f at []) fs).task,
        at,
        [],
        Last refl,
        omega arith,
        omega (arith, over),
        refuses inside at here,
      )
      (omega (arith, x.0, y.1, up, over))
      step
      (subst (λ q. items_size items < work_size q) (sym is) (let c = item_counts (Does st) items in omega (arith, c)))
      (scene.handled_by this s around r.2 r.1 items value at r.1 r.5 goes rests refl leads.reaches.2 h.object h.depth)
      (λ z ez next spends. absurd cc))
