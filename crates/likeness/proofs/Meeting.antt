-- Two runs that have met have one future: under schedules that differ in their fronts alone, from worlds just before the time of the tail that are the same but
-- for the lines that were written, where both give the same input from that time on.
use Rattle.std.proofs.Common.{◌≡◌, ℕ, zero, suc, ◌+◌, ℤ, List, [], ◌∷◌, ◌++◌, Option, Some, None, Bool, true, false, refl, sym, ap, subst, ◌∙◌, arith, append-nil}
use Rattle.std.specs.Prelude.{int_le, int_lt, slice_get}
use Rattle.std.proofs.lemmas.Int.{ints}
use Rattle.base.specs.Schedule.{is_schedule}
use Rattle.base.specs.declared.schedule.ScheduleLine.{ScheduleLine}
use Rattle.kernel.specs.State.{Interrupt, Kernel, Line, Outcome}
use Rattle.kernel.specs.Effects.{after}
use Rattle.kernel.specs.RunLaws.{run_over, run_plus}
use Rattle.kernel.specs.Worlds.{Local, Tasks, among, run, step, step_of}
use Rattle.image.specs.Attachments.{handling_object, interrupts}
use Rattle.image.specs.Code.{CodeWorld, code, partition_of, start}
use Rattle.image.specs.Frames.{TaskState, Words}
use Rattle.image.specs.Sections.{Sections}
use Rattle.image.specs.Steps.{behaviour}
use Rattle.likeness.specs.Schedules.{AgreeFrom, AreBefore, AreFrom}
use Rattle.likeness.proofs.Futures.{Paired, paired_next, run_paired_from, run_same}
use Rattle.likeness.specs.Worlds.{IsEarly, IsSure, IsBlind, NoneSooner, ReadsNothing}
use Rattle.likeness.proofs.Inputs.{interrupts_both, interrupts_early, interrupts_from, same_before}
use Rattle.likeness.proofs.Onward.{IsAhead, begins_ahead, run_onward}
use Rattle.likeness.proofs.Pending.{Swapped, swapped_back, with}
use Rattle.likeness.proofs.Pending as pending
use Rattle.likeness.proofs.Unread.{among_blind}

le_through : (a b c : ℤ) → int_le a b ≡ true → int_le b c ≡ true → int_le a c ≡ true
le_through a b c h i = grind (arith, ints)

not_lt : (a b : ℤ) → int_lt a b ≡ false → int_le b a ≡ true
not_lt a b h = grind (arith, ints)

never : (a b : ℤ) → int_lt a b ≡ true → int_le b a ≡ true → ⊥
never a b h i = grind (arith, ints)

-- a world with other lines before its own
abbrev pub world_behind : List Line → CodeWorld → CodeWorld
world_behind pre w = record { kernel = record w.kernel { lines = pre ++ w.kernel.lines }; rest = w.rest }

-- they matter to no run
abbrev pub LinesBehind : Sections → Type 0
LinesBehind i = (schedule : List ScheduleLine) (pre : List Line) (n : ℕ) (w : CodeWorld)
    → run (among (behaviour i schedule)) n (world_behind pre w) ≡ world_behind pre (run (among (behaviour i schedule)) n w)

-- behind n steps of one run, and m steps of another, time, outcome and lines are the same but for the lines that were written before
pub record HaveOneFuture (i : Sections) (r s : List ScheduleLine) (n m : ℕ) (lines others : List Line) : Type 0 where
  pub more : ℕ → List Line
  pub now : (j : ℕ) → (code i r (n + suc j)).kernel.now ≡ (code i s (m + suc j)).kernel.now
  pub outcome : (j : ℕ) → (code i r (n + suc j)).kernel.outcome ≡ (code i s (m + suc j)).kernel.outcome
  pub here : (j : ℕ) → (code i r (n + suc j)).kernel.lines ≡ lines ++ more j
  pub there : (j : ℕ) → (code i s (m + suc j)).kernel.lines ≡ others ++ more j

pub sure : (time : ℤ) (k : Kernel) → IsEarly time k → IsSure time k
sure time k h = record { now = h.now; on = λ is. absurd (let on = h.on in cc) }

-- ---- the world just before the time, under a schedule with another tail

module _ (i : Sections) (time : ℤ) (c d e : List ScheduleLine) (before_c : AreBefore time c) (from_d : AreFrom time d) (from_e : AreFrom time e)
    (lawful : is_schedule (c ++ d) ≡ true) (n : ℕ) (before : IsSure time (code i (c ++ d) n).kernel) where
  ahead_first : IsAhead (start i (c ++ d)).kernel
  ahead_first = begins_ahead (partition_of i) (handling_object i) (c ++ d) lawful

  pub paired : Paired time (interrupts i d) (interrupts i e) (code i (c ++ d) n) (code i (c ++ e) n)
  paired =
      run_paired_from i (c ++ d) (c ++ e) time (interrupts i d) (interrupts i e) (interrupts_from (handling_object i) time d from_d)
      (interrupts_from (handling_object i) time e from_e) (same_before time c d e from_d from_e) (interrupts i c)
      (interrupts_early (handling_object i) time c before_c) (interrupts_both (handling_object i) c d) (interrupts_both (handling_object i) c e) ahead_first n
      before

  module _ (none : NoneSooner time (code i (c ++ d) n)) where
    all_later : (sooner : List Interrupt) → pending.AreEarly time sooner → (code i (c ++ d) n).kernel.pending ≡ sooner ++ interrupts i d → sooner ≡ []
    all_later [] early h = refl
    all_later (x ∷ xs) early h = absurd (never x.time time early.0 (none x (xs ++ interrupts i d) h))

    -- it is the same but for what is pending
    pub other_world : code i (c ++ e) n ≡ record { kernel = with (interrupts i e) (code i (c ++ d) n).kernel; rest = (code i (c ++ d) n).rest }
    other_world =
        let p = paired in
        let k = (code i (c ++ d) n).kernel in
        let there : (code i (c ++ e) n).kernel ≡ with (interrupts i e) k =
        p.kernels.there ∙ ap (λ x. with (x ++ interrupts i e) k) (all_later p.kernels.sooner p.kernels.early p.kernels.here) in
        λ j. record { kernel = there j; rest = p.rest j }

-- the next world is before the time under one tail where it is so under the other one
module _ (i : Sections) (time : ℤ) (c d e : List ScheduleLine) (before_c : AreBefore time c) (from_d : AreFrom time d) (from_e : AreFrom time e)
    (lawful : is_schedule (c ++ d) ≡ true) (lawful_e : is_schedule (c ++ e) ≡ true) (n : ℕ) (before : IsEarly time (code i (c ++ d) n).kernel) where
  next_before : IsEarly time (step (among (behaviour i (c ++ e))) (code i (c ++ e) n)).kernel → IsEarly time (step (among (behaviour i (c ++ d))) (code i (c ++ d) n)).kernel
  next_before h =
      let p = paired i time c d e before_c from_d from_e lawful n (sure time (code i (c ++ d) n).kernel before) in
      let g = among (behaviour i (c ++ e)) in
      let first : IsAhead (start i (c ++ e)).kernel = begins_ahead (partition_of i) (handling_object i) (c ++ e) lawful_e in
      let ahead = (run_onward g n (start i (c ++ e)) first).ahead in
      let back : Paired time (interrupts i e) (interrupts i d) (code i (c ++ e) n) (code i (c ++ d) n) =
      record { kernels = swapped_back time (interrupts i d) (interrupts i e) _ _ p.kernels; rest = sym p.rest } in
      let q =
      paired_next i (c ++ e) (c ++ d) time (interrupts i e) (interrupts i d) (interrupts_from (handling_object i) time e from_e)
      (interrupts_from (handling_object i) time d from_d) (same_before time c e d from_e from_d) (code i (c ++ e) n) (code i (c ++ d) n) ahead back (sure time _ h) in
      record {
        now = subst (λ (k : Kernel). int_lt k.now time ≡ true) (sym q.kernels.there) h.now;
        on = ap (λ (k : Kernel). k.outcome) q.kernels.there ∙ h.on;
      }

-- ---- the meeting

module _ (i : Sections) (r s : List ScheduleLine) where
  step_blind : (k : Kernel) (d : Tasks Words TaskState) (o : Option Outcome) (x : Option ℕ)
      → ((t : ℕ) → x ≡ Some t → IsBlind (slice_get i.instructions (d.tasks t).frame.place))
      → step_of (among (behaviour i r)) k d o x ≡ step_of (among (behaviour i s)) k d o x
  step_blind k d (Some o) x blind = refl
  step_blind k d None None blind = refl
  step_blind k d None (Some t) blind = ap (λ y. record { kernel = after t y.effect k; rest = y.rest }) (among_blind i r s k t d (blind t refl))

module _ (i : Sections) (behind : LinesBehind i) (time : ℤ) (c e d first : List ScheduleLine) (before_c : AreBefore time c)
    (before_e : AreBefore time e) (from_d : AreFrom time d) (from_first : AreFrom time first) (lawful_c : is_schedule (c ++ first) ≡ true)
    (lawful_e : is_schedule (e ++ first) ≡ true) (lawful : is_schedule (c ++ d) ≡ true) (n m : ℕ) (before : IsEarly time (code i (c ++ first) n).kernel)
    (same : (code i (c ++ first) n).kernel ≡ record (code i (e ++ first) m).kernel { pending = (code i (c ++ first) n).kernel.pending; lines = (code i (c ++ first) n).kernel.lines })
    (rest : (code i (c ++ first) n).rest ≡ (code i (e ++ first) m).rest) (none : NoneSooner time (code i (c ++ first) n)) (none_e : NoneSooner time (code i (e ++ first) m))
    (blind : ReadsNothing i (code i (c ++ first) n)) (crossed : IsEarly time (code i (c ++ first) (n + 1)).kernel → ⊥) (agree : AgreeFrom (c ++ d) (e ++ d) time) where
  abbrev f : Local (Tasks Words TaskState)
  f = among (behaviour i (c ++ d))

  abbrev g : Local (Tasks Words TaskState)
  g = among (behaviour i (e ++ d))

  abbrev x : CodeWorld
  x = code i (c ++ first) n

  abbrev y : CodeWorld
  y = code i (e ++ first) m

  abbrev a : List Interrupt
  a = interrupts i d

  -- the world at which both have met, without lines
  abbrev met : CodeWorld
  met = record { kernel = record y.kernel { pending = a; lines = [] }; rest = y.rest }

  before_y : IsEarly time y.kernel
  before_y = record {
    now = subst (λ (k : Kernel). int_lt k.now time ≡ true) same before.now;
    on = sym (ap (λ (k : Kernel). k.outcome) same) ∙ before.on;
  }

  met_here : code i (c ++ d) n ≡ world_behind x.kernel.lines met
  met_here =
      other_world i time c first d before_c from_first from_d lawful_c n (sure time x.kernel before) none
      ∙ (λ j. record { kernel = record (same j) { pending = a; lines = sym (append-nil x.kernel.lines) j }; rest = rest j })

  met_there : code i (e ++ d) m ≡ world_behind y.kernel.lines met
  met_there =
      other_world i time e first d before_e from_first from_d lawful_e m (sure time y.kernel before_y) none_e
      ∙ (λ j. record { kernel = record y.kernel { pending = a; lines = sym (append-nil y.kernel.lines) j }; rest = y.rest })

  next_same : step f met ≡ step g met
  next_same =
      step_blind i (c ++ d) (e ++ d) met.kernel met.rest met.kernel.outcome met.kernel.running
      (λ t runs. subst (λ (w : Tasks Words TaskState). IsBlind (slice_get i.instructions (w.tasks t).frame.place)) rest
      (blind t (ap (λ (k : Kernel). k.running) same ∙ runs)))

  next_world : step f (code i (c ++ d) n) ≡ world_behind x.kernel.lines (step f met)
  next_world = ap (step f) met_here ∙ behind (c ++ d) x.kernel.lines 1 met

  not_before : IsEarly time (step f met).kernel → ⊥
  not_before h =
      let there : IsEarly time (step f (code i (c ++ d) n)).kernel = record {
        now = subst (λ (w : CodeWorld). int_lt w.kernel.now time ≡ true) (sym next_world) h.now;
        on = ap (λ (w : CodeWorld). w.kernel.outcome) next_world ∙ h.on;
      } in
      let back = next_before i time c first d before_c from_first from_d lawful_c lawful n before there in
      let one = run_plus (among (behaviour i (c ++ first))) n 1 (start i (c ++ first)) in
      crossed (record {
        now = subst (λ (w : CodeWorld). int_lt w.kernel.now time ≡ true) (sym one) back.now;
        on = ap (λ (w : CodeWorld). w.kernel.outcome) one ∙ back.on;
      })

  ahead : IsAhead (step f met).kernel
  ahead =
      let first_ahead : IsAhead (start i (c ++ d)).kernel = begins_ahead (partition_of i) (handling_object i) (c ++ d) lawful in
      let there = (run_onward f (n + 1) (start i (c ++ d)) first_ahead).ahead in
      let is : code i (c ++ d) (n + 1) ≡ world_behind x.kernel.lines (step f met) = run_plus f n 1 (start i (c ++ d)) ∙ next_world in
      let h : IsAhead (world_behind x.kernel.lines (step f met)).kernel = subst (λ (w : CodeWorld). IsAhead w.kernel) is there in
      record { sleepers = h.sleepers; pending = h.pending }

  on_by : (j : ℕ) (o : Option Outcome) (b : Bool) → (step f met).kernel.outcome ≡ o → int_lt (step f met).kernel.now time ≡ b → run f j (step f met) ≡ run g j (step f met)
  on_by j (Some o) b is h = run_over f j (step f met) o is ∙ sym (run_over g j (step f met) o is)
  on_by j None true is h = absurd (not_before (record { now = h; on = is }))
  on_by j None false is h =
      run_same i (c ++ d) (e ++ d) j (step f met) ahead
      (λ now le. agree now (le_through time (step f met).kernel.now now (not_lt (step f met).kernel.now time h) le))

  run_on : (j : ℕ) → run f j (step f met) ≡ run g j (step g met)
  run_on j = on_by j (step f met).kernel.outcome (int_lt (step f met).kernel.now time) refl refl ∙ ap (run g j) next_same

  worlds_here : (j : ℕ) → code i (c ++ d) (n + suc j) ≡ world_behind x.kernel.lines (run f j (step f met))
  worlds_here j = run_plus f n (suc j) (start i (c ++ d)) ∙ (ap (run f (suc j)) met_here ∙ behind (c ++ d) x.kernel.lines (suc j) met)

  worlds_there : (j : ℕ) → code i (e ++ d) (m + suc j) ≡ world_behind y.kernel.lines (run f j (step f met))
  worlds_there j =
      run_plus g m (suc j) (start i (e ++ d))
      ∙ (ap (run g (suc j)) met_there ∙ (behind (e ++ d) y.kernel.lines (suc j) met ∙ ap (world_behind y.kernel.lines) (sym (run_on j))))

  pub have_one_future : HaveOneFuture i (c ++ d) (e ++ d) n m x.kernel.lines y.kernel.lines
  have_one_future = record {
    more = λ j. (run f j (step f met)).kernel.lines;
    now = λ j. ap (λ (w : CodeWorld). w.kernel.now) (worlds_here j) ∙ sym (ap (λ (w : CodeWorld). w.kernel.now) (worlds_there j));
    outcome = λ j. ap (λ (w : CodeWorld). w.kernel.outcome) (worlds_here j) ∙ sym (ap (λ (w : CodeWorld). w.kernel.outcome) (worlds_there j));
    here = λ j. ap (λ (w : CodeWorld). w.kernel.lines) (worlds_here j);
    there = λ j. ap (λ (w : CodeWorld). w.kernel.lines) (worlds_there j);
  }

-- a run that has come to its end before the time of the tail has come to it under each tail
module _ (i : Sections) (time : ℤ) (c d e : List ScheduleLine) (before_c : AreBefore time c) (from_d : AreFrom time d) (from_e : AreFrom time e)
    (lawful : is_schedule (c ++ d) ≡ true) (n : ℕ) (before : IsSure time (code i (c ++ d) n).kernel) (o : Outcome)
    (over : (code i (c ++ d) n).kernel.outcome ≡ Some o) where
  kernels : Swapped time (interrupts i d) (interrupts i e) (code i (c ++ d) n).kernel (code i (c ++ e) n).kernel
  kernels = (paired i time c d e before_c from_d from_e lawful n before).kernels

  over_there : (code i (c ++ e) n).kernel.outcome ≡ Some o
  over_there = ap (λ (k : Kernel). k.outcome) kernels.there ∙ over

  stays_here : (j : ℕ) → code i (c ++ d) (n + suc j) ≡ code i (c ++ d) n
  stays_here j = run_plus (among (behaviour i (c ++ d))) n (suc j) (start i (c ++ d)) ∙ run_over (among (behaviour i (c ++ d))) (suc j) (code i (c ++ d) n) o over

  stays_there : (j : ℕ) → code i (c ++ e) (n + suc j) ≡ code i (c ++ e) n
  stays_there j =
      run_plus (among (behaviour i (c ++ e))) n (suc j) (start i (c ++ e)) ∙ run_over (among (behaviour i (c ++ e))) (suc j) (code i (c ++ e) n) o over_there

  pub have_one_end : HaveOneFuture i (c ++ e) (c ++ d) n n (code i (c ++ d) n).kernel.lines (code i (c ++ d) n).kernel.lines
  have_one_end = record {
    more = λ j. [];
    now =
        λ j. ap (λ (w : CodeWorld). w.kernel.now) (stays_there j)
        ∙ (ap (λ (k : Kernel). k.now) kernels.there ∙ sym (ap (λ (w : CodeWorld). w.kernel.now) (stays_here j)));
    outcome =
        λ j. ap (λ (w : CodeWorld). w.kernel.outcome) (stays_there j)
        ∙ (ap (λ (k : Kernel). k.outcome) kernels.there ∙ sym (ap (λ (w : CodeWorld). w.kernel.outcome) (stays_here j)));
    here =
        λ j. ap (λ (w : CodeWorld). w.kernel.lines) (stays_there j)
        ∙ (ap (λ (k : Kernel). k.lines) kernels.there ∙ sym (append-nil (code i (c ++ d) n).kernel.lines));
    there = λ j. ap (λ (w : CodeWorld). w.kernel.lines) (stays_here j) ∙ sym (append-nil (code i (c ++ d) n).kernel.lines);
  }
