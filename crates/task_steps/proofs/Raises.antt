-- What a step raises: where it is foreseen that it raises an exception it is that exception's unwinding, and else it is the same whatever handlers there are.
use Rattle.std.proofs.Common.{◌≡◌, ◌+◌, ℕ, ℤ, pos, drop, List, [], ◌∷◌, length, map, Bool, true, false, cond, Option, Some, None, Ok, Err, option_map, refl, sym, ap, ◌∙◌, subst}
use Rattle.std.proofs.lemmas.List.{length-map}
use Rattle.std.proofs.lemmas.Option.{none-some, same_Some}
use Rattle.std.specs.Prelude.{slice_get}
use Rattle.base.specs.Arithmetic.{Checked, absolute_of, difference_of, modulus_of, negation_of, product_of, quotient_of, remainder_of, sum_of}
use Rattle.base.specs.declared.schedule.ScheduleLine.{ScheduleLine}
use Rattle.kernel.specs.State.{Kernel, is_task}
use Rattle.kernel.specs.Effects.{Effect, Delays, Opens, Quiet, Refusal, Views}
use Rattle.kernel.specs.Worlds.{Solo}
use Rattle.handlers.specs.declared.rows.Row.{Row}
use Rattle.image.specs.Sections.{Sections}
use Rattle.image.specs.Operations.{called, entry_of}
use Rattle.image.specs.Frames.{Words, Role, Inner, Opened, Serving, Frame, TaskState, arguments, region_words, word_put, words_put, frames_counted, frames_in_use}
use Rattle.image.specs.Scalars.{exception_of, in_bounds, input_of}
use Rattle.image.specs.Steps as steps
use Rattle.image.specs.Steps.{Stepped, act, unwind}
use Rattle.image.specs.declared.instruction.Instr.{Instr}
use Rattle.image.specs.declared.instruction.Operation.{Operation}
use Rattle.image.specs.declared.instruction.Operation.TheVariants as op
use Rattle.image.specs.declared.instruction.Region.{Region}
use Rattle.image.specs.declared.instruction.Region.TheVariants as regions
use Rattle.image.specs.declared.subprograms.Kind.{Kind}
use Rattle.image.specs.declared.subprograms.Kind.TheVariants.{Plain, ProtectedProcedure, ProtectedFunction, EntryBody, TaskBody}
use Rattle.image.specs.declared.subprograms.Subprogram.{Subprogram}
use Rattle.task_steps.specs.Foreseen as seen
use Rattle.task_steps.specs.Foreseen.{failure, foreseen, of_one, of_three, of_two}
use Rattle.task_steps.specs.Raised.{death_of, exposed, raised, unhandled, unopened}

-- the image with other handlers
abbrev pub handled : Sections → List Row → Sections
handled i rows = record i { rows = rows }

module _ (i : Sections) (m : Words) (f : Frame) (fs : List Frame) where
  -- by the exception that is foreseen: a step, as it is with these or those handlers
  abbrev pub Raises : Option ℕ → (List Row → Stepped) → Type 0
  Raises None step = (rows : List Row) → (death_of (step rows).effect ≡ None) × (step rows ≡ step i.rows)
  Raises (Some x) step = (rows : List Row) → step rows ≡ unwind (handled i rows) m x f fs

  record AreRaised (o : Option ℕ) (step : List Row → Stepped) : Type 0 where
    is : Raises o step

module _ (i : Sections) (schedule : List ScheduleLine) (k : Kernel) (t : ℕ) (m : Words) (f : Frame) (fs : List Frame) where
  abbrev Tells : Option ℕ → (List Row → Stepped) → Type 0
  Tells o step = AreRaised i m f fs o step

  abbrev in_use : ℕ
  in_use = frames_in_use k.partition t fs

  -- nothing is raised, whatever the handlers
  abbrev Same : Stepped → Type 0
  Same step = death_of step.effect ≡ None

  same : (step : Stepped) → Same step → Tells None (λ rows. step)
  same step calm = record { is = λ rows. (calm, refl) }

  raises_told : (x : ℕ) → Tells (Some x) (λ rows. unwind (handled i rows) m x f fs)
  raises_told x = record { is = λ rows. refl }

  cond_told : (b : Bool) (o p : Option ℕ) (x y : List Row → Stepped) → Tells o x → Tells p y → Tells (cond b o p) (λ rows. cond b (x rows) (y rows))
  cond_told true o p x y a b = a
  cond_told false o p x y a b = b

  gives_told : (v : Checked) (stack : List ℤ) → Tells (failure v) (λ rows. steps.gives (handled i rows) schedule k t m f fs v stack)
  gives_told (Ok v) stack = same _ refl
  gives_told (Err x) stack = raises_told _

  one_told : (stack : List ℤ) (go : List Row → ℤ → List ℤ → Stepped) (told : ℤ → Option ℕ) → ((x : ℤ) (rest : List ℤ) → Tells (told x) (λ rows. go rows x rest))
      → Tells (of_one told stack) (λ rows. steps.with_one (handled i rows) schedule k t m f fs stack (go rows))
  one_told [] go told rest = same _ refl
  one_told (x ∷ stack) go told rest = rest x stack

  two_told : (stack : List ℤ) (go : List Row → ℤ → ℤ → List ℤ → Stepped) (told : ℤ → ℤ → Option ℕ)
      → ((x y : ℤ) (rest : List ℤ) → Tells (told x y) (λ rows. go rows x y rest))
      → Tells (of_two told stack) (λ rows. steps.with_two (handled i rows) schedule k t m f fs stack (go rows))
  two_told [] go told rest = same _ refl
  two_told (y ∷ []) go told rest = same _ refl
  two_told (y ∷ x ∷ stack) go told rest = rest x y stack

  three_told : (stack : List ℤ) (go : List Row → ℤ → ℤ → ℤ → List ℤ → Stepped) (told : ℤ → ℤ → ℤ → Option ℕ)
      → ((x y z : ℤ) (rest : List ℤ) → Tells (told x y z) (λ rows. go rows x y z rest))
      → Tells (of_three told stack) (λ rows. steps.with_three (handled i rows) schedule k t m f fs stack (go rows))
  three_told [] go told rest = same _ refl
  three_told (z ∷ []) go told rest = same _ refl
  three_told (z ∷ y ∷ []) go told rest = same _ refl
  three_told (z ∷ y ∷ x ∷ stack) go told rest = rest x y z stack

  -- what raises nothing

  one_same : (stack : List ℤ) (go : ℤ → List ℤ → Stepped) → ((x : ℤ) (rest : List ℤ) → Same (go x rest))
      → Tells None (λ rows. steps.with_one i schedule k t m f fs stack go)
  one_same [] go rest = same _ refl
  one_same (x ∷ stack) go rest = same _ (rest x stack)

  two_same : (stack : List ℤ) (go : ℤ → ℤ → List ℤ → Stepped) → ((x y : ℤ) (rest : List ℤ) → Same (go x y rest))
      → Tells None (λ rows. steps.with_two i schedule k t m f fs stack go)
  two_same [] go rest = same _ refl
  two_same (y ∷ []) go rest = same _ refl
  two_same (y ∷ x ∷ stack) go rest = same _ (rest x y stack)

  loaded_same : (o : Option ℤ) (stack : List ℤ) → Same (steps.loaded i schedule k t m f fs o stack)
  loaded_same None stack = refl
  loaded_same (Some v) stack = refl

  block_same : (o : Option (List ℤ)) (stack : List ℤ) → Same (steps.block_loaded i schedule k t m f fs o stack)
  block_same None stack = refl
  block_same (Some words) stack = refl

  stored_same : (r : Region) (o : Option (List ℤ)) (stack : List ℤ) → Same (steps.stored i schedule k t m f fs r o stack)
  stored_same r None stack = refl
  stored_same r (Some words) stack = refl

  copied_same : (r : Region) (index : ℤ) (o : Option (List ℤ)) (stack : List ℤ) → Same (steps.copied i schedule k t m f fs r index o stack)
  copied_same r index None stack = refl
  copied_same r index (Some words) stack = stored_same r _ stack

  returned_same : (cs : List Frame) (role : Role) (results : List ℤ) → Same (steps.returns_to i schedule k t m f fs cs role results)
  returned_same [] role results = refl
  returned_same (c ∷ cs) Inner results = refl
  returned_same (c ∷ cs) (Opened o) results = refl
  returned_same (c ∷ cs) (Serving o u pending) results = refl

  returns_same : (b : Bool) (results : List ℤ) → Same (cond b (steps.returns_to i schedule k t m f fs fs f.role results) (steps.breaks i schedule k t m f fs))
  returns_same true results = returned_same fs f.role results
  returns_same false results = refl

  -- calls

  unless_told : (r : Option Refusal) (o : Option ℕ) (go : List Row → Stepped) → Tells o go
      → Tells (seen.unless r o) (λ rows. steps.unless_refused (handled i rows) schedule k t m f fs r (go rows))
  unless_told None o go told = told
  unless_told (Some r) o go told = raises_told _

  frame_told : (o : Option ℕ) (go : List Row → Stepped) → Tells o go
      → Tells (seen.with_frame in_use o) (λ rows. steps.with_frame_left (handled i rows) schedule k t m f fs (go rows))
  frame_told o go told = cond_told _ o _ go _ told (raises_told _)

  enters_told : (e : Effect) (role : Role) (n : ℕ) (s : Subprogram) → death_of e ≡ None
      → Tells (seen.with_frame in_use None)
      (λ rows. steps.with_frame_left (handled i rows) schedule k t m f fs (steps.enters (handled i rows) schedule k t m f fs e role n s))
  enters_told e role n s calm = frame_told None _ (same (steps.enters i schedule k t m f fs e role n s) calm)

  call_told : (n : ℕ) (c : Option Subprogram) → Tells (seen.of_call in_use (length f.stack) c) (λ rows. steps.call (handled i rows) schedule k t m f fs n c)
  call_told n None = same _ refl
  call_told n (Some s) = cond_told _ _ None _ _ (enters_told Quiet Inner n s refl) (same _ refl)

  external_told : (n : ℕ) (s : Subprogram) (kind : Kind)
      → Tells (seen.of_external k t in_use kind) (λ rows. steps.external_call (handled i rows) schedule k t m f fs n s kind)
  external_told n s (ProtectedProcedure o) = unless_told _ _ _ (enters_told (Opens o) (Opened o) n s refl)
  external_told n s (ProtectedFunction o) = unless_told _ _ _ (enters_told (Views o) (Opened o) n s refl)
  external_told n s Plain = same _ refl
  external_told n s (EntryBody o) = same _ refl
  external_told n s TaskBody = same _ refl

  protected_told : (n : ℕ) (c : Option Subprogram)
      → Tells (seen.of_protected k t in_use (length f.stack) c) (λ rows. steps.protected_call (handled i rows) schedule k t m f fs n c)
  protected_told n None = same _ refl
  protected_told n (Some s) = cond_told _ _ None _ _ (external_told n s s.kind) (same _ refl)

  queue_told : (o : ℕ) → Tells (seen.of_queue k o) (λ rows. steps.queues (handled i rows) schedule k t m f fs o)
  queue_told o = cond_told _ _ None _ _ (raises_told _) (same _ refl)

  entry_call_told : (o n : ℕ) (s : Subprogram)
      → Tells (seen.of_entry_call i k t m in_use o) (λ rows. steps.entry_call_of (handled i rows) schedule k t m f fs o n s)
  entry_call_told o n s = cond_told _ _ _ _ _ (raises_told _)
      (frame_told _ _ (cond_told _ None _ _ _ (same (steps.enters i schedule k t m f fs (Opens o) (Opened o) n s) refl) (queue_told o)))

  entry_at_told : (o n : ℕ) (c : Option Subprogram)
      → Tells (seen.of_entry_at i k t m in_use (length f.stack) o c) (λ rows. steps.entry_call_at (handled i rows) schedule k t m f fs o n c)
  entry_at_told o n None = same _ refl
  entry_at_told o n (Some s) = cond_told _ _ None _ _ (entry_call_told o n s) (same _ refl)

  entry_told : (o : ℕ) (e : Option ℕ)
      → Tells (seen.of_entry i k t m in_use (length f.stack) o e) (λ rows. steps.entry_call (handled i rows) schedule k t m f fs o e)
  entry_told o None = same _ refl
  entry_told o (Some n) = entry_at_told o n (called i n)

  number_told : (o : Option ℕ) → Tells o (λ rows. steps.raises_number (handled i rows) schedule k t m f fs o)
  number_told None = same _ refl
  number_told (Some x) = raises_told x

  inside_told : (go : Stepped) → Same go
      → Tells (seen.of_blocking k t) (λ rows. steps.unless_inside (handled i rows) schedule k t m f fs go)
  inside_told go calm = cond_told _ _ None _ _ (raises_told _) (same go calm)

  value_told : (value : ℤ → Checked) → Tells (seen.of_value value f.stack) (λ rows. steps.unary (handled i rows) schedule k t m f fs value)
  value_told value = one_told f.stack _ _ (λ x stack. gives_told (value x) stack)

  values_told : (value : ℤ → ℤ → Checked) → Tells (seen.of_values value f.stack) (λ rows. steps.binary (handled i rows) schedule k t m f fs value)
  values_told value = two_told f.stack _ _ (λ x y stack. gives_told (value x y) stack)

  operation_told : (o : Operation) → Tells (seen.of_operation i schedule k t m f in_use o) (λ rows. steps.does_operation (handled i rows) schedule k t m f fs o)
  operation_told (op.Push v) = same _ refl
  operation_told op.Drop = one_same f.stack _ (λ x stack. refl)
  operation_told op.Duplicate = one_same f.stack _ (λ x stack. refl)
  operation_told (op.LoadLocal a) = same _ (loaded_same _ f.stack)
  operation_told (op.StoreLocal a) = one_same f.stack _ (λ x stack. stored_same regions.Locals (word_put (region_words i regions.Locals m f) (pos a) x) stack)
  operation_told (op.LoadPlain a) = same _ (loaded_same _ f.stack)
  operation_told (op.StorePlain a) = one_same f.stack _ (λ x stack. stored_same regions.Plain (word_put (region_words i regions.Plain m f) (pos a) x) stack)
  operation_told (op.LoadObject a) = same _ (loaded_same _ f.stack)
  operation_told (op.StoreObject a) = one_same f.stack _ (λ x stack. stored_same regions.Object (word_put (region_words i regions.Object m f) (pos a) x) stack)
  operation_told (op.LoadIndexed r) = one_same f.stack _ (λ x stack. loaded_same _ stack)
  operation_told (op.StoreIndexed r) = two_same f.stack _ (λ x y stack. stored_same r _ stack)
  operation_told (op.LoadBlock r n) = one_same f.stack _ (λ x stack. block_same _ stack)
  operation_told (op.StoreBlock r n) = one_same (drop n f.stack) _ (λ x stack. stored_same r (words_put (region_words i r m f) x (arguments n f.stack)) stack)
  operation_told (op.Copy target source n) = two_same f.stack _ (λ x y stack. copied_same target x _ stack)
  operation_told op.Negate = value_told negation_of
  operation_told op.Absolute = value_told absolute_of
  operation_told op.Add = values_told sum_of
  operation_told op.Subtract = values_told difference_of
  operation_told op.Multiply = values_told product_of
  operation_told op.Divide = values_told quotient_of
  operation_told op.Modulo = values_told modulus_of
  operation_told op.Remainder = values_told remainder_of
  operation_told op.CheckRange = three_told f.stack _ _ (λ x y z stack. gives_told (in_bounds y z x) stack)
  operation_told op.Equal = two_same f.stack _ (λ x y stack. refl)
  operation_told op.NotEqual = two_same f.stack _ (λ x y stack. refl)
  operation_told op.Less = two_same f.stack _ (λ x y stack. refl)
  operation_told op.LessOrEqual = two_same f.stack _ (λ x y stack. refl)
  operation_told op.Greater = two_same f.stack _ (λ x y stack. refl)
  operation_told op.GreaterOrEqual = two_same f.stack _ (λ x y stack. refl)
  operation_told op.And = two_same f.stack _ (λ x y stack. refl)
  operation_told op.Or = two_same f.stack _ (λ x y stack. refl)
  operation_told op.ExclusiveOr = two_same f.stack _ (λ x y stack. refl)
  operation_told op.Not = one_same f.stack _ (λ x stack. refl)
  operation_told (op.Jump a) = same _ refl
  operation_told (op.JumpIfZero a) = one_same f.stack _ (λ x stack. refl)
  operation_told (op.JumpIfNotZero a) = one_same f.stack _ (λ x stack. refl)
  operation_told (op.Call n) = call_told n (called i n)
  operation_told (op.ProtectedCall n) = protected_told n (called i n)
  operation_told (op.EntryCall o) = entry_told o (entry_of (slice_get i.objects o))
  operation_told op.Return = same _ (returns_same _ _)
  operation_told op.Raise = one_told f.stack _ _ (λ x stack. number_told (exception_of (length i.exceptions) x))
  operation_told op.CheckBlocking = inside_told (steps.next i schedule k t m f fs f.stack) refl
  operation_told op.DelayUntil = one_told f.stack _ _ (λ x stack. inside_told (steps.next_after i schedule k t m f fs (Delays x) stack) refl)
  operation_told (op.PutLine a) = one_same f.stack _ (λ x stack. refl)
  operation_told op.ReadInput = value_told (input_of schedule k.now)
  operation_told op.Clock = same _ refl

  instruction_told : (x : Option Instr) → Tells (seen.of_instruction i schedule k t m f in_use x)
      (λ rows. steps.does_instruction (handled i rows) schedule k t m f fs x)
  instruction_told None = same _ refl
  instruction_told (Some x) = operation_told x.operation

  act_told : (x : Option ℕ) → Tells (foreseen i schedule k t m f in_use x) (λ rows. steps.does_or_raises (handled i rows) schedule k t m f fs x)
  act_told None = instruction_told (slice_get i.instructions f.place)
  act_told (Some x) = raises_told x

-- nothing stops the exception of a task that is exposed
dies : (i : Sections) (m : Words) (x : ℕ) (f : Frame) (fs : List Frame) → death_of (unwind (unhandled i) m x (unopened f) (map unopened fs)).effect ≡ Some x
dies i m x f [] = refl
dies i m x f (c ∷ fs) = dies i m x c fs

-- and it has as many frames
counted_map : (own : Bool) (fs : List Frame) → frames_counted own (map unopened fs) ≡ frames_counted own fs
counted_map true fs = ap (λ n. n + 1) (length-map fs unopened)
counted_map false fs = length-map fs unopened

module _ (i : Sections) (schedule : List ScheduleLine) (k : Kernel) (t : ℕ) (s : Solo Words TaskState) where
  abbrev ahead : Option ℕ
  ahead = foreseen i schedule k t s.memory s.task.frame (frames_in_use k.partition t s.task.callers) s.task.raising

  by_death : (o : Option ℕ) → Raises (unhandled i) s.memory (unopened s.task.frame) (map unopened s.task.callers) o
      (λ rows. act (handled i rows) schedule k t (record s { task = exposed s.task })) → raised i schedule k t s ≡ o
  by_death None told = (told []).0
  by_death (Some x) told = ap (λ (a : Stepped). death_of a.effect) (told []) ∙ dies i s.memory x s.task.frame s.task.callers

  -- what is raised is what is foreseen
  pub raised_is : raised i schedule k t s ≡ ahead
  raised_is =
      let far = counted_map (is_task k.partition t) s.task.callers in
      let bare : (n : ℕ) → Option ℕ = λ n. foreseen i schedule k t s.memory s.task.frame n s.task.raising in
      let o = bare (frames_in_use k.partition t (map unopened s.task.callers)) in
      by_death o (act_told (unhandled i) schedule k t s.memory (unopened s.task.frame) (map unopened s.task.callers) s.task.raising).is ∙ ap bare far

  abbrev told : Raises i s.memory s.task.frame s.task.callers ahead (λ rows. act (handled i rows) schedule k t s)
  told = (act_told i schedule k t s.memory s.task.frame s.task.callers s.task.raising).is

  -- so a step that raises an exception is its unwinding, with these handlers
  pub unwinds : (x : ℕ) → raised i schedule k t s ≡ Some x → act i schedule k t s ≡ unwind i s.memory x s.task.frame s.task.callers
  unwinds x is =
      subst (λ o. Raises i s.memory s.task.frame s.task.callers o (λ rows. act (handled i rows) schedule k t s)) (sym raised_is ∙ is) told i.rows

  -- and one that raises none does the same with any handlers, and is no death
  pub stays : raised i schedule k t s ≡ None → (rows : List Row) → (death_of (act (handled i rows) schedule k t s).effect ≡ None)
      × (act (handled i rows) schedule k t s ≡ act i schedule k t s)
  stays is =
      subst (λ o. Raises i s.memory s.task.frame s.task.callers o (λ rows. act (handled i rows) schedule k t s)) (sym raised_is ∙ is) told

  -- what the operation of its instruction raises
  pub operation_raises : (operation : Operation) → s.task.raising ≡ None
      → Some operation ≡ option_map (λ x. x.operation) (slice_get i.instructions s.task.frame.place)
      → seen.of_operation i schedule k t s.memory s.task.frame (frames_in_use k.partition t s.task.callers) operation ≡ raised i schedule k t s
  operation_raises operation quiet here =
      go (slice_get i.instructions s.task.frame.place) here
      ∙ ap (foreseen i schedule k t s.memory s.task.frame (frames_in_use k.partition t s.task.callers)) (sym quiet) ∙ sym raised_is where
        go : (x : Option Instr) → Some operation ≡ option_map (λ x. x.operation) x
            → seen.of_operation i schedule k t s.memory s.task.frame
            (frames_in_use k.partition t s.task.callers) operation ≡ seen.of_instruction i schedule k t s.memory s.task.frame (frames_in_use k.partition t s.task.callers) x
        go None e = absurd (none-some operation (sym e))
        go (Some x) e = ap (seen.of_operation i schedule k t s.memory s.task.frame (frames_in_use k.partition t s.task.callers)) (same_Some operation x.operation e)
