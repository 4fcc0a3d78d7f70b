-- Runs, whatever lines were written before them.
use Rattle.std.proofs.Common.{◌≡◌, ℕ, zero, suc, List, ◌++◌, Bool, cond, Option, Some, None, refl, sym, ap, ◌∙◌, append_assoc}
use Rattle.base.specs.declared.schedule.ScheduleLine.{ScheduleLine}
use Rattle.kernel.specs.Effects.{Effect, Quiet, Finishes, Breaks, Says, Delays, Opens, Views, Queues, Ends, Dies, Ending, after}
use Rattle.kernel.specs.State.{Kernel, Line, Outcome, put}
use Rattle.kernel.specs.Worlds.{Did, Local, Tasks, among, ending, is_handler_over, reached, run, solo_of, step, step_of}
use Rattle.image.specs.Code.{CodeWorld, initial_state}
use Rattle.image.specs.Frames.{TaskState, Words}
use Rattle.image.specs.Sections.{Sections}
use Rattle.image.specs.Steps.{Stepped, act, behaviour}
use Rattle.image_laws.specs.Whole.{LinesUnread}
use Rattle.tasking.specs.Laws.{LinesApart, said}

module _ (apart : LinesApart) (unread : LinesUnread) (i : Sections) (schedule : List ScheduleLine) (pre : List Line) where
  abbrev f : Local (Tasks Words TaskState)
  f = among (behaviour i schedule)

  abbrev behind : Kernel → Kernel
  behind k = record k { lines = pre ++ k.lines }

  abbrev pub world_behind : CodeWorld → CodeWorld
  world_behind w = record { kernel = behind w.kernel; rest = w.rest }

  ending_behind : (k : Kernel) (t : ℕ) (e : Effect) → ending (behind k) t e ≡ ending k t e
  ending_behind k t Quiet = refl
  ending_behind k t Finishes = refl
  ending_behind k t Breaks = refl
  ending_behind k t (Says label value) = refl
  ending_behind k t (Delays until) = refl
  ending_behind k t (Opens o) = refl
  ending_behind k t (Views o) = refl
  ending_behind k t (Queues o) = refl
  ending_behind k t (Ends is_open) = refl
  ending_behind k t (Dies x) = refl

  over_behind : (k : Kernel) (t : ℕ) (e : Effect) → is_handler_over (behind k) t e ≡ is_handler_over k t e
  over_behind k t Quiet = refl
  over_behind k t Finishes = refl
  over_behind k t Breaks = refl
  over_behind k t (Says label value) = refl
  over_behind k t (Delays until) = refl
  over_behind k t (Opens o) = refl
  over_behind k t (Views o) = refl
  over_behind k t (Queues o) = refl
  over_behind k t (Ends is_open) = refl
  over_behind k t (Dies x) = refl

  abbrev did_by : ℕ → Tasks Words TaskState → Ending → Bool → Stepped → Did (Tasks Words TaskState)
  did_by t d e over a = record {
    effect = a.effect;
    rest = record { memory = a.solo.memory; tasks = reached (behaviour i schedule) t e a.given (put t (cond over (initial_state i t) a.solo.task) d.tasks) };
  }

  among_behind : (k : Kernel) (t : ℕ) (d : Tasks Words TaskState) → f (behind k) t d ≡ f k t d
  among_behind k t d =
      let e = unread i schedule k (pre ++ k.lines) t (solo_of t d) in
      let a = act i schedule k t (solo_of t d) in
      ap (λ x. did_by t d (ending (behind k) t x.effect) (is_handler_over (behind k) t x.effect) x) e
      ∙ (λ j. did_by t d (ending_behind k t a.effect j) (over_behind k t a.effect j) a)

  after_behind : (t : ℕ) (e : Effect) (k : Kernel) → after t e (behind k) ≡ behind (after t e k)
  after_behind t e k =
      let grown : (after t e k).lines ≡ k.lines ++ said t k.now e = ap (λ l. l.lines) (apart t e k k.lines) in
      apart t e k (pre ++ k.lines) ∙ ap (λ l. record (after t e k) { lines = l }) (append_assoc pre k.lines (said t k.now e) ∙ ap (λ l. pre ++ l) (sym grown))

  step_behind : (k : Kernel) (d : Tasks Words TaskState) (o : Option Outcome) (r : Option ℕ) → step_of f (behind k) d o r ≡ world_behind (step_of f k d o r)
  step_behind k d (Some o) r = refl
  step_behind k d None None = refl
  step_behind k d None (Some t) =
      λ j. record { kernel = (ap (λ a. after t a.effect (behind k)) (among_behind k t d) ∙ after_behind t (f k t d).effect k) j; rest = (among_behind k t d j).rest }

  pub run_behind : (n : ℕ) (w : CodeWorld) → run f n (world_behind w) ≡ world_behind (run f n w)
  run_behind zero w = refl
  run_behind (suc n) w = ap (run f n) (step_behind w.kernel w.rest w.kernel.outcome w.kernel.running) ∙ run_behind n (step f w)
