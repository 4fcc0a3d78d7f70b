-- Lines that are written from a kernel on are not before its time.
use Rattle.std.proofs.Common.{◌≡◌, ◌⊎◌, inl, inr, ℕ, zero, suc, ℤ, List, [], ◌∷◌, ◌++◌, Option, Some, None, Bool, true, false, refl, sym, ap, ◌∙◌, arith, append_assoc}
use Rattle.std.specs.Prelude.{int_le, int_lt}
use Rattle.std.proofs.lemmas.Bool.{cond_both}
use Rattle.std.proofs.lemmas.Int.{ints}
use Rattle.std.proofs.lemmas.List.{append-nil}
use Rattle.kernel.specs.State.{Action, Interrupt, Kernel, Line, Outcome, Reads, Serves, Writes}
use Rattle.kernel.specs.Dispatching.{becomes_ready, dispatch, leaves}
use Rattle.kernel.specs.Interrupts.{delivers, starts}
use Rattle.kernel.specs.Calm.{Calm, IsRunner}
use Rattle.kernel.specs.Clock.{clock, falls_asleep}
use Rattle.kernel.specs.Effects.{Breaks, Delays, Dies, Effect, Ends, Finishes, Opens, Queues, Quiet, Says, Views, after, effect, ending_of, ends, goes_if, is_over, outer_of, service}
use Rattle.kernel.specs.Laws.{LeftUnmoved}
use Rattle.kernel.specs.Worlds.{Local, World, run, step, step_of}
use Rattle.kernel.proofs.Calm.{says_on}
use Rattle.likeness.proofs.Onward.{IsAhead, Onward, le_through, step_onward}

-- none of these is before the time
abbrev pub AreFrom : ℤ → List Line → Type 0
AreFrom time [] = Unit {0}
AreFrom time (l ∷ lines) = (int_le time l.time ≡ true) × AreFrom time lines

pub record Late (k l : Kernel) : Type 0 where
  pub more : List Line
  pub grown : l.lines ≡ k.lines ++ more
  pub from : AreFrom k.now more

-- from one kernel to another nothing is written, or one line, at the time of both
abbrev pub WritesAtOnce : Kernel → Kernel → Type 0
WritesAtOnce k l = (l.lines ≡ k.lines) ⊎ ((line : Line) × (l.lines ≡ k.lines ++ line ∷ []) × (line.time ≡ k.now) × (l.now ≡ k.now))

no_line : (k l : Kernel) → l.lines ≡ k.lines → Late k l
no_line k l e = record { more = []; grown = e ∙ sym (append-nil k.lines); from = tt }

delivers_lines : (is : List Interrupt) (k : Kernel) → (delivers is k).lines ≡ k.lines
delivers_lines [] k = refl
delivers_lines (i ∷ is) k =
    cond_both (int_lt k.now i.time) k (starts i (record k { pending = is })) (λ l. l.lines ≡ k.lines) (λ later. refl) (λ due. refl)

goes_lines : (t : ℕ) (c : Bool) (k : Kernel) → (goes_if c t k).lines ≡ k.lines
goes_lines t false k = refl
goes_lines t true k = delivers_lines k.pending (leaves t k)

service_lines : (t o : ℕ) (is_open : Bool) (q : Option ℕ) (outer : List Action) (k : Kernel) → (ends t (service is_open o q) outer k).lines ≡ k.lines
service_lines t o false q outer k = refl
service_lines t o true None outer k = refl
service_lines t o true (Some u) outer k = refl

ends_lines : (t : ℕ) (is_open : Bool) (l : List Action) (k : Kernel) → (ends t (ending_of is_open l k.queued) (outer_of l) k).lines ≡ k.lines
ends_lines t is_open [] k = refl
ends_lines t is_open (Reads o ∷ outer) k = refl
ends_lines t is_open (Writes o ∷ outer) k = service_lines t o is_open (k.queued o) outer k
ends_lines t is_open (Serves o u ∷ outer) k = refl

module _ (unmoved : LeftUnmoved) where
  settled : (k l : Kernel) → l.lines ≡ k.lines → Late k (clock (dispatch l))
  settled k l e = no_line k (clock (dispatch l)) ((unmoved l).lines ∙ e)

  after_late : (t : ℕ) (e : Effect) (k : Kernel) → Late k (after t e k)
  after_late t Quiet k = settled k k refl
  after_late t (Says label value) k = record {
    more = record { time = k.now; task = t; label = label; value = value } ∷ [];
    grown = (unmoved (effect t (Says label value) k)).lines;
    from = (le_self k.now, tt);
  }
    where
      le_self : (a : ℤ) → int_le a a ≡ true
      le_self a = grind (arith, ints)
  after_late t (Delays until) k =
      settled k (effect t (Delays until) k)
      (cond_both (int_lt k.now until) (falls_asleep t until (leaves t k)) (becomes_ready t (leaves t k)) (λ l. l.lines ≡ k.lines) (λ later. refl) (λ due. refl))
  after_late t (Opens o) k = settled k (effect t (Opens o) k) refl
  after_late t (Views o) k = settled k (effect t (Views o) k) refl
  after_late t (Queues o) k = settled k (effect t (Queues o) k) refl
  after_late t (Ends is_open) k =
      let e = ending_of is_open (k.actions t) k.queued in
      let l = ends t e (outer_of (k.actions t)) k in
      settled k (effect t (Ends is_open) k) (goes_lines t (is_over k.partition t (k.actions t) e) l ∙ ends_lines t is_open (k.actions t) k)
  after_late t Finishes k = settled k (effect t Finishes k) refl
  after_late t (Dies x) k = no_line k (effect t (Dies x) k) refl
  after_late t Breaks k = no_line k (effect t Breaks k) refl

  silent : (k l : Kernel) → l.lines ≡ k.lines → WritesAtOnce k (clock (dispatch l))
  silent k l e = inl ((unmoved l).lines ∙ e)

  after_at_once : (t : ℕ) (e : Effect) (k : Kernel) → Calm k t → WritesAtOnce k (after t e k)
  after_at_once t Quiet k calm = silent k k refl
  after_at_once t (Says label value) k calm = inr (
    record { time = k.now; task = t; label = label; value = value },
    (unmoved (effect t (Says label value) k)).lines,
    refl,
    ap (λ l. l.now) (says_on k t label value calm).0,
  )
  after_at_once t (Delays until) k calm =
      silent k (effect t (Delays until) k)
      (cond_both (int_lt k.now until) (falls_asleep t until (leaves t k)) (becomes_ready t (leaves t k)) (λ l. l.lines ≡ k.lines) (λ later. refl) (λ due. refl))
  after_at_once t (Opens o) k calm = silent k (effect t (Opens o) k) refl
  after_at_once t (Views o) k calm = silent k (effect t (Views o) k) refl
  after_at_once t (Queues o) k calm = silent k (effect t (Queues o) k) refl
  after_at_once t (Ends is_open) k calm =
      let e = ending_of is_open (k.actions t) k.queued in
      let l = ends t e (outer_of (k.actions t)) k in
      silent k (effect t (Ends is_open) k) (goes_lines t (is_over k.partition t (k.actions t) e) l ∙ ends_lines t is_open (k.actions t) k)
  after_at_once t Finishes k calm = silent k (effect t Finishes k) refl
  after_at_once t (Dies x) k calm = inl refl
  after_at_once t Breaks k calm = inl refl

  -- whoever runs is not to be preempted
  pub step_at_once : {D : Type 0} (f : Local D) (k : Kernel) (d : D) (o : Option Outcome) (r : Option ℕ) → k.outcome ≡ o → k.running ≡ r
      → ((t : ℕ) → IsRunner k t → Calm k t) → WritesAtOnce k (step_of f k d o r).kernel
  step_at_once f k d (Some o) r on running calm = inl refl
  step_at_once f k d None None on running calm = inl refl
  step_at_once f k d None (Some t) on running calm = after_at_once t (f k t d).effect k (calm t (record { on = on; running = running }))

  step_late : {D : Type 0} (f : Local D) (k : Kernel) (d : D) (o : Option Outcome) (r : Option ℕ) → Late k (step_of f k d o r).kernel
  step_late f k d (Some o) r = no_line k k refl
  step_late f k d None None = no_line k k refl
  step_late f k d None (Some t) = after_late t (f k t d).effect k

  from_earlier : (a b : ℤ) (lines : List Line) → int_le a b ≡ true → AreFrom b lines → AreFrom a lines
  from_earlier a b [] le h = tt
  from_earlier a b (l ∷ lines) le h = (le_through a b l.time le h.0, from_earlier a b lines le h.1)

  both_from : (time : ℤ) (xs ys : List Line) → AreFrom time xs → AreFrom time ys → AreFrom time (xs ++ ys)
  both_from time [] ys h i = i
  both_from time (x ∷ xs) ys h i = (h.0, both_from time xs ys h.1 i)

  late_then : (a b c : Kernel) → int_le a.now b.now ≡ true → Late a b → Late b c → Late a c
  late_then a b c le h i = record {
    more = h.more ++ i.more;
    grown = i.grown ∙ ap (λ l. l ++ i.more) h.grown ∙ append_assoc a.lines h.more i.more;
    from = both_from a.now h.more i.more h.from (from_earlier a.now b.now i.more le i.from);
  }

  pub run_late : {D : Type 0} (f : Local D) (n : ℕ) (w : World D) → IsAhead w.kernel → Late w.kernel (run f n w).kernel
  run_late f zero w h = no_line w.kernel w.kernel refl
  run_late f (suc n) w h =
      let on : Onward w.kernel (step f w).kernel = step_onward f w.kernel w.rest w.kernel.outcome w.kernel.running h in
      late_then w.kernel (step f w).kernel (run f n (step f w)).kernel on.now
      (step_late f w.kernel w.rest w.kernel.outcome w.kernel.running)
      (run_late f n (step f w) on.ahead)
