-- What a step does depends on the input at its time alone, of all that the schedule and what is pending say; and on none of it where it reads no input.
use Rattle.std.proofs.Common.{◌≡◌, ℕ, ℤ, pos, negsuc, List, [], ◌∷◌, Option, Some, None, Ok, Bool, true, false, cond, refl, sym, ap, ◌∙◌}
use Rattle.std.specs.Prelude.{◌&&◌, nat_le, slice_get}
use Rattle.base.specs.Arithmetic.{Checked, constraint_error}
use Rattle.base.specs.Schedule.{input}
use Rattle.base.specs.declared.limits.TheConstants.{CHANNELS}
use Rattle.base.specs.declared.schedule.ScheduleLine.{ScheduleLine}
use Rattle.kernel.specs.State.{Interrupt, Kernel, put}
use Rattle.kernel.specs.Effects.{Breaks, Closes, Delays, Dies, Effect, Ending, Ends, Finishes, HandsBack, Opens, Queues, Quiet, Says, TakesOver, Views}
use Rattle.kernel.specs.Worlds.{Did, Tasks, among, ending, is_handler_over, reached, solo_of}
use Rattle.image.specs.Code.{initial_state}
use Rattle.image.specs.Frames.{Frame, TaskState, Words}
use Rattle.image.specs.Scalars.{input_of}
use Rattle.image.specs.Sections.{Sections}
use Rattle.image.specs.Steps.{Given, Stepped, act, behaviour, does_instruction, does_operation, does_or_raises, gives, with_one}
use Rattle.image.specs.declared.instruction.Instr.{Instr}
use Rattle.image.specs.declared.instruction.Operation.{Operation}
use Rattle.image.specs.declared.instruction.Operation.TheVariants.{ReadInput}
use Rattle.likeness.specs.Schedules.{AgreeAt, reads_input}
use Rattle.likeness.specs.Worlds.{IsBlind}
use Rattle.likeness.proofs.Pending.{with}

module _ (i : Sections) (r s : List ScheduleLine) (k : Kernel) (t : ℕ) where
  module _ (m : Words) (f : Frame) (fs : List Frame) where
    -- a step that reads no input
    operation_blind : (x : Operation) → reads_input x ≡ false → does_operation i r k t m f fs x ≡ does_operation i s k t m f fs x
    operation_blind ReadInput h = absurd cc
    operation_blind _ h = refl

    instruction_blind : (x : Option Instr) → IsBlind x → does_instruction i r k t m f fs x ≡ does_instruction i s k t m f fs x
    instruction_blind None h = refl
    instruction_blind (Some x) h = operation_blind x.operation h

    blind : (o : Option ℕ) → IsBlind (slice_get i.instructions f.place) → does_or_raises i r k t m f fs o ≡ does_or_raises i s k t m f fs o
    blind (Some x) h = refl
    blind None h = instruction_blind (slice_get i.instructions f.place) h

    -- one that may read it
    module _ (agree : AgreeAt r s k.now) where
      checked : (c : ℕ) (b : Bool) → (nat_le 1 c && nat_le c CHANNELS) ≡ b
          → cond b (Ok (input r c k.now)) constraint_error ≡ cond b (Ok (input s c k.now)) constraint_error
      checked c true e = ap (λ v. Ok v) (agree c e)
      checked c false e = refl

      input_same : (z : ℤ) → input_of r k.now z ≡ input_of s k.now z
      input_same (negsuc c) = refl
      input_same (pos c) = checked c (nat_le 1 c && nat_le c CHANNELS) refl

      read_same : (stack : List ℤ) → with_one i r k t m f fs stack (λ channel rest. gives i r k t m f fs (input_of r k.now channel) rest)
          ≡ with_one i s k t m f fs stack (λ channel rest. gives i s k t m f fs (input_of s k.now channel) rest)
      read_same [] = refl
      read_same (x ∷ stack) = ap (λ v. gives i r k t m f fs v stack) (input_same x) ∙ gives_same (input_of s k.now x)
        where
          gives_same : (v : Checked) → gives i r k t m f fs v stack ≡ gives i s k t m f fs v stack
          gives_same v = refl

      operation_same : (x : Operation) → does_operation i r k t m f fs x ≡ does_operation i s k t m f fs x
      operation_same ReadInput = read_same f.stack
      operation_same _ = refl

      instruction_same : (x : Option Instr) → does_instruction i r k t m f fs x ≡ does_instruction i s k t m f fs x
      instruction_same None = refl
      instruction_same (Some x) = operation_same x.operation

      same : (o : Option ℕ) → does_or_raises i r k t m f fs o ≡ does_or_raises i s k t m f fs o
      same (Some x) = refl
      same None = instruction_same (slice_get i.instructions f.place)

    module _ (x : List Interrupt) where
      instruction_apart : (y : Option Instr) → does_instruction i s (with x k) t m f fs y ≡ does_instruction i s k t m f fs y
      instruction_apart None = refl
      instruction_apart (Some y) = refl

      apart : (o : Option ℕ) → does_or_raises i s (with x k) t m f fs o ≡ does_or_raises i s k t m f fs o
      apart (Some y) = refl
      apart None = instruction_apart (slice_get i.instructions f.place)

  -- ---- among all tasks

  abbrev did_by : List ScheduleLine → Tasks Words TaskState → Ending → Bool → Stepped → Did (Tasks Words TaskState)
  did_by schedule d e over a = record {
    effect = a.effect;
    rest = record { memory = a.solo.memory; tasks = reached (behaviour i schedule) t e a.given (put t (cond over (initial_state i t) a.solo.task) d.tasks) };
  }

  reached_same : (e : Ending) (g : Option Given) (tasks : ℕ → TaskState) → reached (behaviour i r) t e g tasks ≡ reached (behaviour i s) t e g tasks
  reached_same Closes g tasks = refl
  reached_same (TakesOver o u) g tasks = refl
  reached_same (HandsBack u) None tasks = refl
  reached_same (HandsBack u) (Some g) tasks = refl

  ending_apart : (x : List Interrupt) (e : Effect) → ending (with x k) t e ≡ ending k t e
  ending_apart x Quiet = refl
  ending_apart x Finishes = refl
  ending_apart x Breaks = refl
  ending_apart x (Says label value) = refl
  ending_apart x (Delays until) = refl
  ending_apart x (Opens o) = refl
  ending_apart x (Views o) = refl
  ending_apart x (Queues o) = refl
  ending_apart x (Ends is_open) = refl
  ending_apart x (Dies y) = refl

  over_apart : (x : List Interrupt) (e : Effect) → is_handler_over (with x k) t e ≡ is_handler_over k t e
  over_apart x Quiet = refl
  over_apart x Finishes = refl
  over_apart x Breaks = refl
  over_apart x (Says label value) = refl
  over_apart x (Delays until) = refl
  over_apart x (Opens o) = refl
  over_apart x (Views o) = refl
  over_apart x (Queues o) = refl
  over_apart x (Ends is_open) = refl
  over_apart x (Dies y) = refl

  module _ (d : Tasks Words TaskState) where
    -- by the step of the task itself
    by_act : act i r k t (solo_of t d) ≡ act i s k t (solo_of t d) → among (behaviour i r) k t d ≡ among (behaviour i s) k t d
    by_act e =
        let a = act i s k t (solo_of t d) in
        let over = is_handler_over k t a.effect in
        ap (λ y. did_by r d (ending k t y.effect) (is_handler_over k t y.effect) y) e
        ∙ (λ j. record {
          effect = a.effect;
          rest = record { memory = a.solo.memory; tasks = reached_same (ending k t a.effect) a.given (put t (cond over (initial_state i t) a.solo.task) d.tasks) j };
        })

    pub among_blind : IsBlind (slice_get i.instructions (d.tasks t).frame.place)
        → among (behaviour i r) k t d ≡ among (behaviour i s) k t d
    among_blind h = by_act (blind d.memory (d.tasks t).frame (d.tasks t).callers (d.tasks t).raising h)

    pub among_same : AgreeAt r s k.now → among (behaviour i r) k t d ≡ among (behaviour i s) k t d
    among_same agree = by_act (same d.memory (d.tasks t).frame (d.tasks t).callers agree (d.tasks t).raising)

    pub among_apart : (x : List Interrupt) → among (behaviour i s) (with x k) t d ≡ among (behaviour i s) k t d
    among_apart x =
        let e = apart d.memory (d.tasks t).frame (d.tasks t).callers x (d.tasks t).raising in
        let a = act i s k t (solo_of t d) in
        ap (λ y. did_by s d (ending (with x k) t y.effect) (is_handler_over (with x k) t y.effect) y) e
        ∙ (λ j. did_by s d (ending_apart x a.effect j) (over_apart x a.effect j) a)
