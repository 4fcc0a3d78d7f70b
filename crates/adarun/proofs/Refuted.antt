-- Runs of a small text that are cut at another time, or too early, are refused by what is promised of runs.
use Rattle.std.proofs.Common.{◌≡◌, ℕ, ◌+◌, ◌-◌, ◌<◌, ◌≤◌, ℤ, pos, List, [], Option, Some, None, true, refl, sym, ap, ◌∙◌, subst, ⊎_elim, arith}
use Rattle.std.specs.Prelude.{codes, int_le}
use Rattle.std.proofs.lemmas.Bool.{cases_lt}
use Rattle.kernel.specs.RunLaws.{run_over, run_plus}
use Rattle.kernel.specs.State.{Ended}
use Rattle.kernel.specs.Worlds.{Local, Tasks, among, run}
use Rattle.compiler.specs.ada_tree.specs.ProgramTree.{ProgramTree}
use Rattle.compiler.specs.meaning.specs.NullExample.{null_program}
use Rattle.compiler.specs.meaning.specs.Source.{partition_of, source, source_behaviour, source_start}
use Rattle.compiler.specs.meaning.specs.Works.{Store, TaskWork}
use Rattle.machine.specs.declared.reports.Outcome.TheVariants.{StepLimit}
use Rattle.adarun.specs.Headline.{WritesItsMeaning, WritesSource}
use Rattle.adarun.specs.Progress.{enough_steps}
use Rattle.likeness.proofs.Onward.{IsAhead, begins_ahead, le_both, run_onward}

-- `procedure M is begin null; end M;`
abbrev small : ProgramTree
small = null_program (record { place = 10; name = codes "M" }) 1

abbrev steps_of : Local (Tasks Store TaskWork)
steps_of = among (source_behaviour small [])

-- after ten steps it has ended, at time 0
ended : (source small [] 10).kernel.outcome ≡ Some Ended
ended = refl

ended_at : (source small [] 10).kernel.now ≡ pos 0
ended_at = refl

-- and so after more
stays_ended : (steps : ℕ) → 10 ≤ steps → source small [] steps ≡ source small [] 10
stays_ended steps le =
    let far : 10 + (steps - 10) ≡ steps = omega (arith, le) in
    ap (source small []) (sym far)
    ∙ (run_plus steps_of 10 (steps - 10) (source_start small []) ∙ run_over steps_of (steps - 10) (source small [] 10) Ended ended)

-- no time passes
always_at : (steps : ℕ) → (source small [] steps).kernel.now ≡ pos 0
always_at steps = ⊎_elim earlier (λ le. ap (λ w. w.kernel.now) (stays_ended steps le) ∙ ended_at) (cases_lt steps 10)
  where
    start_ahead : IsAhead (source_start small []).kernel
    start_ahead = begins_ahead (partition_of small) (λ channel. None) [] refl

    earlier : steps < 10 → (source small [] steps).kernel.now ≡ pos 0
    earlier less =
        let far : steps + (10 - steps) ≡ 10 = omega (arith, less) in
        let first = run_onward steps_of steps (source_start small []) start_ahead in
        let last = run_onward steps_of (10 - steps) (source small [] steps) first.ahead in
        let there : run steps_of (10 - steps) (source small [] steps) ≡ source small [] 10 =
        sym (run_plus steps_of steps (10 - steps) (source_start small [])) ∙ ap (source small []) far in
        let low : int_le (source small [] steps).kernel.now (pos 0) ≡ true =
        subst (λ z. int_le (source small [] steps).kernel.now z ≡ true) (ap (λ w. w.kernel.now) there ∙ ended_at) last.now in
        le_both (source small [] steps).kernel.now (pos 0) low first.now

-- `step limit at 77`
pub late_cut_refuted : (text input : List ℕ) (limit : ℕ) (old new : Option (List ℕ)) (w : WritesItsMeaning text input limit (StepLimit (pos 77)) old new)
    → w.tree ≡ small
    → w.schedule ≡ []
    → ⊥
late_cut_refuted text input limit old new w is none =
    let writes : WritesSource small [] limit (StepLimit (pos 77)) old new =
    subst (λ s. WritesSource small s limit (StepLimit (pos 77)) old new) none
    (subst (λ t. WritesSource t w.schedule limit (StepLimit (pos 77)) old new) is w.writes) in
    let same : pos 0 ≡ pos 77 = sym (always_at writes.steps) ∙ writes.time in
    absurd cc

-- a cut where the limit is enough for all of it
pub early_cut_refuted : (time : ℤ) (limit : ℕ) (old new : Option (List ℕ)) → WritesSource small [] limit (StepLimit time) old new
    → enough_steps small 10 ≤ limit
    → ⊥
early_cut_refuted time limit old new writes enough =
    let over = ap (λ w. w.kernel.outcome) (stays_ended writes.steps (writes.comes_far 10 enough)) ∙ ended in
    let none : Some Ended ≡ None = sym over ∙ writes.ends in
    absurd cc
