-- Runs under two schedules: from one world on where they agree from its time on; and up to a time before which they agree, but for what is pending later.
use Rattle.std.proofs.Common.{◌≡◌, ℕ, zero, suc, ◌+◌, ℤ, List, [], ◌∷◌, ◌++◌, Option, Some, None, Bool, true, false, refl, sym, ap, subst, ◌∙◌, arith}
use Rattle.std.specs.Prelude.{int_le, int_lt}
use Rattle.std.proofs.lemmas.Int.{ints}
use Rattle.base.specs.declared.schedule.ScheduleLine.{ScheduleLine}
use Rattle.kernel.specs.State.{Interrupt, Kernel, Outcome, WaitsForever}
use Rattle.kernel.specs.Effects.{after, begin}
use Rattle.kernel.specs.Interrupts.{interrupts_of}
use Rattle.kernel.specs.Worlds.{Local, Tasks, among, run, step, step_of}
use Rattle.kernel.specs.RunLaws.{run_over}
use Rattle.image.specs.Attachments.{handling_object, interrupts}
use Rattle.image.specs.Code.{CodeWorld, code, initial_state, initial_words, partition_of, start}
use Rattle.image.specs.Frames.{TaskState, Words}
use Rattle.image.specs.Sections.{Sections}
use Rattle.image.specs.Steps.{behaviour}
use Rattle.likeness.specs.Schedules.{AgreeAt, AgreeBefore, AgreeFrom, AreFrom}
use Rattle.likeness.proofs.Inputs.{interrupts_both, interrupts_from, same_before}
use Rattle.likeness.proofs.Onward.{IsAhead, Onward, run_onward, step_onward}
use Rattle.likeness.specs.Worlds.{IsSure}
use Rattle.likeness.proofs.Pending.{Swapped, after_swapped, begin_swapped, swapped_back, with}
use Rattle.likeness.proofs.Pending as pending
use Rattle.likeness.proofs.Unread.{among_apart, among_same}

le_self : (a : ℤ) → int_le a a ≡ true
le_self a = grind (arith, ints)

le_through : (a b c : ℤ) → int_le a b ≡ true → int_le b c ≡ true → int_le a c ≡ true
le_through a b c h i = grind (arith, ints)

lt_before : (a b c : ℤ) → int_le a b ≡ true → int_lt b c ≡ true → int_lt a c ≡ true
lt_before a b c h i = grind (arith, ints)

-- worlds that differ in what is pending from a time on
pub record Paired (time : ℤ) (a b : List Interrupt) (v w : CodeWorld) : Type 0 where
  pub kernels : Swapped time a b v.kernel w.kernel
  pub rest : w.rest ≡ v.rest

module _ (i : Sections) (r s : List ScheduleLine) where
  abbrev f : Local (Tasks Words TaskState)
  f = among (behaviour i r)

  abbrev g : Local (Tasks Words TaskState)
  g = among (behaviour i s)

  -- ---- where they agree

  step_same : (k : Kernel) (d : Tasks Words TaskState) (o : Option Outcome) (t : Option ℕ) → AgreeAt r s k.now → step_of f k d o t ≡ step_of g k d o t
  step_same k d (Some o) t agree = refl
  step_same k d None None agree = refl
  step_same k d None (Some t) agree = ap (λ x. record { kernel = after t x.effect k; rest = x.rest }) (among_same i r s k t d agree)

  pub run_same : (n : ℕ) (w : CodeWorld) → IsAhead w.kernel → AgreeFrom r s w.kernel.now → run f n w ≡ run g n w
  run_same zero w ahead agree = refl
  run_same (suc n) w ahead agree =
      let one : step f w ≡ step g w = step_same w.kernel w.rest w.kernel.outcome w.kernel.running (agree w.kernel.now (le_self w.kernel.now)) in
      let on : Onward w.kernel (step g w).kernel = step_onward g w.kernel w.rest w.kernel.outcome w.kernel.running ahead in
      ap (run f n) one ∙ run_same n (step g w) on.ahead (λ now le. agree now (le_through w.kernel.now (step g w).kernel.now now on.now le))

  -- ---- where they agree before a time

  module _ (time : ℤ) (a b : List Interrupt) (from_a : pending.AreFrom time a) (from_b : pending.AreFrom time b) (agree : AgreeBefore r s time) where
    step_paired : (k : Kernel) (d : Tasks Words TaskState) (sooner : List Interrupt) → pending.AreEarly time sooner → k.pending ≡ sooner ++ a → (o : Option Outcome) (t : Option ℕ)
        → int_lt k.now time ≡ true → IsSure time (step_of f k d o t).kernel → Paired time a b (step_of f k d o t) (step_of g (with (sooner ++ b) k) d o t)
    step_paired k d sooner early here (Some o) t lt h = record { kernels = record { sooner = sooner; early = early; here = here; there = refl }; rest = refl }
    step_paired k d sooner early here None None lt h = record { kernels = record { sooner = sooner; early = early; here = here; there = refl }; rest = refl }
    step_paired k d sooner early here None (Some t) lt h =
        let x = sooner ++ b in
        let e : g (with x k) t d ≡ f k t d = among_apart i r s k t d x ∙ sym (among_same i r s k t d (agree k.now lt)) in
        record {
          kernels =
              subst (λ y. Swapped time a b (after t (f k t d).effect k) (after t y.effect (with x k))) (sym e)
              (after_swapped time a b from_a from_b t (f k t d).effect k (with x k) lt (record { sooner = sooner; early = early; here = here; there = refl }) h);
          rest = ap (λ y. y.rest) e;
        }

    paired_step : (v w : CodeWorld) → Paired time a b v w → int_lt v.kernel.now time ≡ true → IsSure time (step f v).kernel → Paired time a b (step f v) (step g w)
    paired_step v w p lt h =
        let k = v.kernel in
        let x = p.kernels.sooner ++ b in
        let other : CodeWorld = record { kernel = with x k; rest = v.rest } in
        let e : w ≡ other = λ j. record { kernel = p.kernels.there j; rest = p.rest j } in
        subst (λ u. Paired time a b (step f v) (step g u)) (sym e) (step_paired k v.rest p.kernels.sooner p.kernels.early p.kernels.here k.outcome k.running lt h)

    -- what holds of a run's later world holds of its next one
    step_before : (n : ℕ) (v : CodeWorld) → IsAhead (step f v).kernel → IsSure time (run f n (step f v)).kernel → IsSure time (step f v).kernel
    step_before n v ahead h = record {
      now = lt_before (step f v).kernel.now (run f n (step f v)).kernel.now time (run_onward f n (step f v) ahead).now h.now;
      on = λ is. h.on (ap (λ (u : CodeWorld). u.kernel.outcome) (run_over f n (step f v) WaitsForever is) ∙ is);
    }

    run_paired : (n : ℕ) (v w : CodeWorld) → IsAhead v.kernel → Paired time a b v w → IsSure time (run f n v).kernel → Paired time a b (run f n v) (run g n w)
    run_paired zero v w ahead p h = p
    run_paired (suc n) v w ahead p h =
        let on : Onward v.kernel (step f v).kernel = step_onward f v.kernel v.rest v.kernel.outcome v.kernel.running ahead in
        let next = step_before n v on.ahead h in
        run_paired n (step f v) (step g w) on.ahead (paired_step v w p (lt_before v.kernel.now (step f v).kernel.now time on.now next.now) next) h

    pub paired_next : (v w : CodeWorld) → IsAhead v.kernel → Paired time a b v w → IsSure time (step f v).kernel → Paired time a b (step f v) (step g w)
    paired_next v w ahead p h =
        let on : Onward v.kernel (step f v).kernel = step_onward f v.kernel v.rest v.kernel.outcome v.kernel.running ahead in
        paired_step v w p (lt_before v.kernel.now (step f v).kernel.now time on.now h.now) h

    pub run_paired_from : (sooner : List Interrupt) → pending.AreEarly time sooner → interrupts i r ≡ sooner ++ a → interrupts i s ≡ sooner ++ b → IsAhead (start i r).kernel
        → (n : ℕ) → IsSure time (code i r n).kernel → Paired time a b (code i r n) (code i s n)
    run_paired_from sooner early e h ahead n before =
        run_paired n (start i r) (start i s) ahead (starts_paired (first_before before)) before
      where
        first_before : IsSure time (run f n (start i r)).kernel → IsSure time (start i r).kernel
        first_before b = record {
          now = lt_before (start i r).kernel.now (run f n (start i r)).kernel.now time (run_onward f n (start i r) ahead).now b.now;
          on = λ is. b.on (ap (λ (u : CodeWorld). u.kernel.outcome) (run_over f n (start i r) WaitsForever is) ∙ is);
        }

        starts_paired : IsSure time (start i r).kernel → Paired time a b (start i r) (start i s)
        starts_paired z = record {
          kernels =
              subst (λ x. Swapped time a b (begin (partition_of i) x) (begin (partition_of i) (interrupts i s))) (sym e)
              (subst (λ x. Swapped time a b (begin (partition_of i) (sooner ++ a)) (begin (partition_of i) x)) (sym h)
              (begin_swapped time a b from_a from_b (partition_of i) sooner early (subst (λ x. IsSure time (begin (partition_of i) x)) e z)));
          rest = refl;
        }
