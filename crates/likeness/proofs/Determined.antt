-- In a whole world where nobody is ready, the kernel is told by where everybody is, by the frames, the sleepers, the time, the outcome and what is pending.
use Rattle.std.proofs.Common.{◌≡◌, ◌≢◌, ◌⊎◌, ℕ, zero, suc, ◌+◌, ◌≤◌, ℤ, List, [], ◌∷◌, Option, Some, None, Bool, true, false, cond, nat_lt, nat_eq, refl, sym, ap, subst, ◌∙◌, arith, rules, ⊎_elim, inl, inr}
use Rattle.kernel.specs.State.{Action, Interrupt, IsAsleep, IsFinished, IsQueued, IsReady, IsRunning, IsServed, Kernel, Line, Outcome, Sleeper, TaskPlace, active, is_task}
use Rattle.kernel.specs.Invariant.{Busy, IsInOwn, Kept, count, listed}
use Rattle.image.specs.Code.{CodeWorld, partition_of}
use Rattle.image.specs.Sections.{Sections}
use Rattle.image.specs.Steps.{is_open}
use Rattle.image_laws.specs.Linked.{IsGone, actions_of, frames_of}
use Rattle.image_laws.specs.Shape.{is_own}
use Rattle.image_laws.specs.Whole.{IsWhole}

-- options that hold the same
option_same : (o p : Option ℕ) → ((t : ℕ) → o ≡ Some t → p ≡ Some t) → ((t : ℕ) → p ≡ Some t → o ≡ Some t) → o ≡ p
option_same None None f g = refl
option_same None (Some t) f g = g t refl
option_same (Some t) p f g = sym (f t refl)

-- a list in which nobody stands
one_self : (t : ℕ) → nat_eq t t ≡ true
one_self t = search rules

nobody_in : (ts : List ℕ) → ((t : ℕ) → count t ts ≡ 0) → ts ≡ []
nobody_in [] none = refl
nobody_in (t ∷ ts) none = absurd (let e = none t in let s = ap (λ b. cond b 1 0 + count t ts) (one_self t) in let x : 1 + count t ts ≡ 0 = sym s ∙ e in omega (arith, x))

unlisted : (p : TaskPlace) (a h : ℕ) → p ≢ IsReady → listed p a h ≡ 0
unlisted IsReady a h not = absurd (not refl)
unlisted IsRunning a h not = refl
unlisted IsAsleep a h not = refl
unlisted (IsQueued o) a h not = refl
unlisted (IsServed o) a h not = refl
unlisted IsFinished a h not = refl

idle : (actions : List Action) → (Busy actions → ⊥) → actions ≡ []
idle [] not = refl
idle (a ∷ outer) not = absurd (not tt)

is_beyond : (i : Sections) (t : ℕ) → is_own i t ≡ false → (partition_of i).tasks ≤ t
is_beyond i t h = search (rules, h)

module _ (i : Sections) (v : CodeWorld) (whole : IsWhole i v) (calm : (u : ℕ) → v.kernel.place u ≢ IsReady) where
  abbrev k : Kernel
  k = v.kernel

  nobody_ready : (h : ℕ) → k.ready h ≡ []
  nobody_ready h = nobody_in (k.ready h) (λ t. whole.kept.sound.lists t h ∙ unlisted (k.place t) (active k t) h (calm t))

  -- who doesn't run is in no action
  not_running : (t : ℕ) → k.place t ≢ IsRunning → k.actions t ≡ []
  not_running t not = idle (k.actions t) (λ busy. ⊎_elim (λ runs. not runs) (λ ready. calm t ready) (whole.kept.sound.awake t busy))

  -- a runner's actions are those of its frames
  runner_actions : (t : ℕ) → k.place t ≡ IsRunning → k.actions t ≡ actions_of i (frames_of (v.rest.tasks t))
  runner_actions t runs = whole.linked.by_frames t here
    where
      own : IsGone i k.actions t → IsInOwn (k.actions t)
      own gone = whole.kept.within t (subst (λ p. p.tasks ≤ t) (sym whole.partition) (is_beyond i t gone.0)) (whole.kept.sound.runner t runs)

      here : IsGone i k.actions t → ⊥
      here gone = subst IsInOwn gone.1 (own gone)

module _ (i : Sections) (v w : CodeWorld) (whole_v : IsWhole i v) (whole_w : IsWhole i w) (place : (u : ℕ) → v.kernel.place u ≡ w.kernel.place u)
    (calm : (u : ℕ) → v.kernel.place u ≢ IsReady) (rest : v.rest ≡ w.rest) where
  calm_w : (u : ℕ) → w.kernel.place u ≢ IsReady
  calm_w u ready = calm u (place u ∙ ready)

  running_same : v.kernel.running ≡ w.kernel.running
  running_same =
      option_same v.kernel.running w.kernel.running
      (λ t h. whole_w.kept.sound.runner t (sym (place t) ∙ whole_v.kept.sound.runs t h))
      (λ t h. whole_v.kept.sound.runner t (place t ∙ whole_w.kept.sound.runs t h))

  queued_same : (o : ℕ) → v.kernel.queued o ≡ w.kernel.queued o
  queued_same o =
      option_same (v.kernel.queued o) (w.kernel.queued o)
      (λ t h. whole_w.kept.sound.waits o t (sym (place t) ∙ whole_v.kept.sound.queue o t h))
      (λ t h. whole_v.kept.sound.waits o t (place t ∙ whole_w.kept.sound.queue o t h))

  ready_same : (h : ℕ) → v.kernel.ready h ≡ w.kernel.ready h
  ready_same h = nobody_ready i v whole_v calm h ∙ sym (nobody_ready i w whole_w calm_w h)

  idle_same : (t : ℕ) → v.kernel.place t ≢ IsRunning → v.kernel.actions t ≡ w.kernel.actions t
  idle_same t not = not_running i v whole_v calm t not ∙ sym (not_running i w whole_w calm_w t (λ runs. not (place t ∙ runs)))

  actions_by : (t : ℕ) (p : TaskPlace) → v.kernel.place t ≡ p → v.kernel.actions t ≡ w.kernel.actions t
  actions_by t IsRunning e =
      runner_actions i v whole_v calm t e
      ∙ (ap (λ (d : _). actions_of i (frames_of (d.tasks t))) rest ∙ sym (runner_actions i w whole_w calm_w t (sym (place t) ∙ e)))
  actions_by t IsReady e = absurd (calm t e)
  actions_by t IsAsleep e = idle_same t (λ runs. absurd (let x = sym e ∙ runs in cc))
  actions_by t IsFinished e = idle_same t (λ runs. absurd (let x = sym e ∙ runs in cc))
  actions_by t (IsQueued o) e = idle_same t (λ runs. absurd (let x = sym e ∙ runs in cc))
  actions_by t (IsServed o) e = idle_same t (λ runs. absurd (let x = sym e ∙ runs in cc))

  actions_same : (t : ℕ) → v.kernel.actions t ≡ w.kernel.actions t
  actions_same t = actions_by t (v.kernel.place t) refl

  module _ (sleepers : v.kernel.sleepers ≡ w.kernel.sleepers) (now : v.kernel.now ≡ w.kernel.now) (outcome : v.kernel.outcome ≡ w.kernel.outcome) where
    -- the kernels are the same beside what is pending and the lines
    pub kernels_same : v.kernel ≡ record w.kernel { pending = v.kernel.pending; lines = v.kernel.lines }
    kernels_same = λ j. record {
      partition = (whole_v.partition ∙ sym whole_w.partition) j;
      running = running_same j;
      ready = λ h. ready_same h j;
      sleepers = sleepers j;
      pending = v.kernel.pending;
      queued = λ o. queued_same o j;
      actions = λ t. actions_same t j;
      place = λ u. place u j;
      now = now j;
      lines = v.kernel.lines;
      outcome = outcome j;
    }
