-- The small compiler by the laws of met steps: null statements are met by no step, the end of main by the return.
use Rattle.std.proofs.Common.{◌≡◌, inl, ℕ, zero, suc, ◌<◌, ◌≤◌, List, [], ◌∷◌, map, length, Some, None, Bool, true, false, cond, refl, sym, ap, ◌∙◌, subst, arith, ⊎_elim}
use Rattle.std.proofs.lemmas.Bool.{cases_lt, le-ltb}
use Rattle.base.specs.declared.schedule.ScheduleLine.{ScheduleLine}
use Rattle.kernel.specs.State.{Kernel, put}
use Rattle.kernel.specs.Dispatching.{leaves}
use Rattle.kernel.specs.Effects.{Finishes, after, blank, activated, begin, is_inside_any}
use Rattle.kernel.specs.Worlds.{Tasks, Solo, among, ending, reached, restarted, solo_of}
use Rattle.kernel.specs.Calm.{IsRunner}
use Rattle.kernel.specs.Invariant.{AreAttached, Fits, IsInOwn, Kept, Passed}
use Rattle.kernel.specs.Laws.{BeginsKept, KeptByEvery, LinesGrow, QuietStays, ReachesCallers, RunnerIsCalm, SettlesTo, StartSettles, StepsSettle}
use Rattle.kernel.specs.PutLaws.{put_same}
use Rattle.kernel.specs.RunLaws.{Behaves, run_kept}
use Rattle.image.specs.Attachments.{interrupts}
use Rattle.image.specs.Sections.{Sections}
use Rattle.image.specs.Texts.{names_of}
use Rattle.image.specs.Frames.{Words, TaskState}
use Rattle.image.specs.Steps as steps
use Rattle.image.specs.Steps.{behaviour, does}
use Rattle.image.specs.Code.{CodeWorld, initial_state, initial_words, start}
use Rattle.image.specs.Code as image
use Rattle.ada_tree.specs.declared.expression.Identifier.{Identifier}
use Rattle.ada_tree.specs.ProgramTree.{ProgramTree}
use Rattle.meaning.specs.Meeting.{Relation, Last, Met, Still, Moves, Owed, Meets, Related}
use Rattle.meaning.specs.Works.{DoesMain, Goes, TaskWork, Store, GivenToCaller}
use Rattle.meaning.specs.Programs.{program_interrupts, program_of}
use Rattle.meaning.specs.Starts.{handler_work, task_work}
use Rattle.meaning.specs.SourceSteps.{here_of, items_of, work_step}
use Rattle.meaning.specs.Source.{partition_of, source_names, source_behaviour, source_start, initial_work}
use Rattle.meaning.specs.SameMeaning.{frames_of}
use Rattle.meaning.specs.Compiling.{MeetsUnder, met_keeps_count}
use Rattle.meaning.specs.NullExample.{nulls, null_program, return_image, ReturnMeansNulls}
use Rattle.meaning.proofs.Runs.{count_gives_meaning}

module _ (name : Identifier) where
  abbrev code_image : Sections
  code_image = return_image name.name

  -- where the task stands that has not returned; after the return it is as it was
  abbrev first_state : TaskState
  first_state = initial_state code_image 0

  -- the image has no handlers
  none_heard : (schedule : List ScheduleLine) → interrupts code_image schedule ≡ []
  none_heard [] = refl
  none_heard (l ∷ ls) = none_heard ls

  module _ (schedule : List ScheduleLine) where
    act_first : (k : Kernel) (t : ℕ) (s : Solo Words TaskState) → s.task ≡ first_state → (behaviour code_image schedule).act k t s ≡ does Finishes s.memory first_state.frame [] None None
    act_first k t s e = ap (λ x. (behaviour code_image schedule).act k t (record { memory = s.memory; task = x })) e

    abbrev closed : (Tasks Words TaskState → ℕ → Bool)
    closed d o = false

    pub record Own (w : CodeWorld) : Type 0 where
      pub partition : w.kernel.partition ≡ image.partition_of code_image
      pub bare : (t : ℕ) → w.kernel.actions t ≡ []
      pub none : w.kernel.pending ≡ []
      pub first : w.rest.tasks 0 ≡ first_state

    -- only the one task runs
    zero_runs : (k : Kernel) (t : ℕ) (d : Tasks Words TaskState) → Own (record { kernel = k; rest = d }) → Kept (closed d) k → k.running ≡ Some t → t ≡ 0
    zero_runs k t d own kept runs =
        let one : k.partition.tasks ≡ 1 = ap (λ p. p.tasks) own.partition in
        ⊎_elim
        (λ lt. omega arith)
        (λ le. let within : IsInOwn [] = subst IsInOwn (own.bare t) (kept.within t le runs) in absurd within)
        (cases_lt t k.partition.tasks)

    -- with no interrupts pending none is delivered
    abbrev Bare : Kernel → Type 0
    Bare k = (k.partition ≡ image.partition_of code_image) × ((t : ℕ) → k.actions t ≡ []) × (k.pending ≡ [])

    settled_bare : (k l : Kernel) → SettlesTo k l → Bare k → Bare l
    settled_bare k l h bare =
        ⊎_elim
        (λ e. (h.partition ∙ bare.0, λ t. ap (λ f. f t) e.1 ∙ bare.1 t, e.0 ∙ bare.2))
        (λ x. let no : x.0 ∷ l.pending ≡ [] = sym x.1.first ∙ bare.2 in absurd (cc))
        h.actions

    behaves : StepsSettle → (k : Kernel) (t : ℕ) (d : Tasks Words TaskState) → Own (record { kernel = k; rest = d }) → Kept (closed d) k → IsRunner k t → Behaves (among (behaviour code_image schedule)) closed Own k t d
    behaves settles k t d own kept runs =
        let g = behaviour code_image schedule in
        let a = g.act k t (solo_of t d) in
        let here : t ≡ 0 = zero_runs k t d own kept runs.running in
        let is : a ≡ does Finishes d.memory first_state.frame [] None None = act_first k t (solo_of t d) (ap d.tasks here ∙ own.first) in
        let finishes : a.effect ≡ Finishes = ap (λ x. x.effect) is in
        let stands : (among g k t d).rest.tasks ≡ put t first_state d.tasks =
        ap (λ x. reached g t (ending k t x.effect) x.given (put t x.solo.task d.tasks)) is in
        let passed : is_inside_any k t ≡ false = ap (λ l. elim l [ [] ↦ false | x ∷ outer ↦ true ]) (own.bare t) in
        let settled : SettlesTo (leaves t k) (after t Finishes k) = settles (closed d) (closed d) k t Finishes runs.running (λ o. inl refl) passed kept in
        let bare : Bare (after t Finishes k) = settled_bare (leaves t k) (after t Finishes k) settled (own.partition, own.bare, own.none) in
        record {
          held = λ o. inl refl;
          passed = subst (λ e. Passed (closed (among g k t d).rest) k t e) (sym finishes) passed;
          own = record {
            partition = ap (λ x. (after t x k).partition) finishes ∙ bare.0;
            bare = λ u. ap (λ x. (after t x k).actions u) finishes ∙ bare.1 u;
            none = ap (λ x. (after t x k).pending) finishes ∙ bare.2;
            first = ap (λ f. f 0) stands ∙ put_same t 0 first_state d.tasks (sym here);
          };
        }

    abbrev Keeps : CodeWorld → Type 0
    Keeps w = Own w × Kept (closed w.rest) w.kernel

  abbrev Shared : Store → Words → Type 0
  Shared m words = m.variables ≡ []

  record Stands (k : Kernel) (u : ℕ) (w : TaskWork) (s : TaskState) : Type 0 where
    first : u ≡ 0 → s ≡ first_state
    left : ℕ
    work : w.work ≡ Goes (map DoesMain (nulls left))

  abbrev size : TaskWork → ℕ
  size w = length (items_of w.work)

  abbrev limit : TaskState → ℕ
  limit s = 1

  -- no task is tied to another one
  abbrev rel : Relation (Unit {0}) Store TaskWork GivenToCaller Words TaskState steps.Given
  rel = record { shares = Shared; stands = λ note k u w s. Stands k u w s; leaves = λ note k t e a b p q. (e ≡ Finishes) × Stands k t a b; size = size }

  module _ (n : ℕ) (schedule : List ScheduleLine) where
    abbrev p : ProgramTree
    p = null_program name n

    abbrev Meet : Kernel → ℕ → Solo Store TaskWork → Solo Words TaskState → Type 0
    Meet = Met (source_behaviour p schedule) (behaviour code_image schedule) rel frames_of limit tt

    met_by : (i : ℕ) (k : Kernel) (t : ℕ) (a : Solo Store TaskWork) (b : Solo Words TaskState) → Shared a.memory b.memory → b.task ≡ first_state → a.task.work ≡ Goes (map DoesMain (nulls i)) → Meet k t a b
    met_by zero k t a b sh first e =
        let is = ap (λ w. restarted (initial_work (program_of p) t) k t (work_step (here_of (program_of p) schedule k t a) w)) e in
        let there = act_first schedule k t b first in
        Moves 1 b (Last refl) (omega arith) (ap (λ y. y.effect) there ∙ sym (ap (λ y. y.effect) is)) (ap (λ y. y.solo.memory.variables) is ∙ sh)
        (ap (λ y. y.effect) is, record { first = λ zero_. ap (λ y. y.solo.task) there; left = 0; work = ap (λ y. y.solo.task.work) is })
    met_by (suc i) k t a b sh first e =
        let is = ap (λ w. restarted (initial_work (program_of p) t) k t (work_step (here_of (program_of p) schedule k t a) w)) e in
        let less : size ((source_behaviour p schedule).act k t a).solo.task ≡ length (map DoesMain (nulls i)) = ap (λ y. size y.solo.task) is in
        let more : size a.task ≡ length (map DoesMain (nulls (suc i))) = ap (λ w. length (items_of w)) e in
        Still (ap (λ y. y.effect) is) (ap (λ y. y.solo.memory.variables) is ∙ sh) (record { first = λ zero_. first; left = i; work = ap (λ y. y.solo.task.work) is }) (omega (arith, less, more))

    module _ (begins : BeginsKept) (every : KeptByEvery) (settles : StepsSettle) (starts_settled : StartSettles) (reaches : ReachesCallers) (calm : RunnerIsCalm) where
      meets : Meets (source_behaviour p schedule) (behaviour code_image schedule) rel frames_of limit (λ v. Unit {0}) (Keeps schedule)
      meets = record {
        kept_ones = λ v h. tt;
        kept_others = λ w h. run_kept (among (behaviour code_image schedule)) (closed schedule) (Own schedule) every (behaves schedule settles) 1 w h.0 h.1;
        runner = λ w t h runs. record { calm = calm (closed schedule w.rest) w.kernel t h.1 runs; reaches = λ e. reaches (closed schedule w.rest) w.kernel t e runs.running h.1 };
        met = λ note k t c d r.
            let here = zero_runs schedule k t d r.others.0 r.others.1 r.runner.calm.runs.running in
            met_by (r.stand t).left k t (solo_of t c) (solo_of t d) r.shared ((r.stand t).first here) (r.stand t).work;
        owed = λ note k t c d e a b given gives m. (
          tt,
          subst
              (λ x. Owed (source_behaviour p schedule) (behaviour code_image schedule) rel frames_of limit tt k t x c.tasks d.tasks a.task b.task given gives
              (ending k t x))
              (sym m.leaves.0) (
                record { first = m.leaves.1.first; left = m.leaves.1.left; work = m.leaves.1.work },
                λ v ne. let st = m.before.stand v in record { first = st.first; left = st.left; work = st.work },
              ),
        );
      }

      base_same : (t : ℕ) → (partition_of p).base t ≡ (image.partition_of code_image).base t
      base_same zero = refl
      base_same (suc t) = refl

      same_partition : partition_of p ≡ image.partition_of code_image
      same_partition = λ j. record { tasks = 1; objects = 0; base = λ t. base_same t j; ceiling = λ o. 0 }

      base_low : (t : ℕ) → (image.partition_of code_image).base t < 32
      base_low zero = omega arith
      base_low (suc t) = omega arith

      base_high : (u : ℕ) → 1 ≤ u → suc ((image.partition_of code_image).base u) ≡ 32
      base_high zero le = absurd (omega arith)
      base_high (suc u) le = refl

      fits : Fits (image.partition_of code_image)
      fits = record { base_low = base_low; ceiling_low = λ o. omega arith; urgent = base_high }

      none_due : (lines : List ScheduleLine) → program_interrupts (program_of p) lines ≡ []
      none_due [] = refl
      none_due (l ∷ ls) = none_due ls

      stands_first : (u : ℕ) → Stands (source_start p schedule).kernel u (initial_work (program_of p) u) (initial_state code_image u)
      stands_first zero = record { first = λ e. refl; left = n; work = refl }
      stands_first (suc u) =
          record {
            first = λ e. absurd (omega (arith, e));
            left = 0;
            work = ap (λ b. (cond b (task_work (program_of p) (suc u)) (handler_work (program_of p) None)).work) (le-ltb (suc u) 1 (omega arith));
          }

      starts : Related (source_behaviour p schedule) (behaviour code_image schedule) rel frames_of limit (λ v. Unit {0}) (Keeps schedule)
          (source_start p schedule) (start code_image schedule)
      starts =
          let q = image.partition_of code_image in
          let is = interrupts code_image schedule in
          let attached : AreAttached q is = subst (AreAttached q) (sym (none_heard schedule)) tt in
          let bare = settled_bare schedule (activated 1 (blank q is)) (begin q is) (starts_settled q is fits attached) (refl, λ t. refl, none_heard schedule) in
          record {
            same = λ j. begin (same_partition j) ((none_due schedule ∙ sym (none_heard schedule)) j);
            ones = tt;
            note = tt;
            others = (
              record { partition = bare.0; bare = bare.1; none = bare.2; first = refl },
              begins (λ o. false) q is fits attached,
            );
            shared = refl;
            stands = stands_first;
          }

      under : MeetsUnder p code_image rel limit (λ s v. Unit {0}) Keeps schedule
      under = record { meets = meets; starts = starts }

  task_named : (t : ℕ) → (names_of code_image).task t ≡ (source_names (null_program name 0)).task t
  task_named zero = refl
  task_named (suc t) = refl

pub return_means_nulls : BeginsKept → KeptByEvery → StepsSettle → StartSettles → LinesGrow → QuietStays → ReachesCallers → RunnerIsCalm → ReturnMeansNulls
return_means_nulls begins every settles starts grow quiet reaches calm name n =
    let i = return_image name.name in
    count_gives_meaning grow (null_program name n) i (limit name) (record { tasks = task_named name; exceptions = λ x. refl })
    (met_keeps_count (null_program name n) i (rel name) (limit name) (λ schedule v. Unit {0}) (Keeps name) grow quiet
    (λ schedule ok. under name n schedule begins every settles starts reaches calm))
