-- Exclusion by ceilings: the four statements that hold between the steps of every run; the actor of a handler counts as a task.
use Rattle.std.specs.Prelude.{◌≡◌, ◌≢◌, ◌⊎◌, ℕ, ◌≤◌, List, [], ◌∷◌, Some, Bool, true, false}
use Rattle.kernel.specs.State.{Kernel, active, is_object_open}
use Rattle.kernel.specs.Effects.{is_inside_any}

abbrev pub StandsIn : List ℕ → ℕ → Type 0
StandsIn [] t = ⊥
StandsIn (u ∷ us) t = (t ≡ u) ⊎ StandsIn us t

-- task t has an open action of object o
abbrev pub IsInside : Kernel → ℕ → ℕ → Type 0
IsInside k o t = is_object_open o (k.actions t) ≡ true

-- task t has an open action
abbrev pub IsInAction : Kernel → ℕ → Type 0
IsInAction k t = is_inside_any k t ≡ true

-- `barrier o` tells whether the barrier of o is open
pub record FourStatements (barrier : ℕ → Bool) (k : Kernel) : Type 0 where
  -- at most one task is inside each object (RM 9.5.1)
  pub one_inside : (o t u : ℕ) → IsInside k o t → IsInside k o u → t ≡ u
  -- tasks within actions have pairwise different active priorities, and none of them waits (RM D.3, H.5)
  pub different : (t u : ℕ) → t ≢ u → IsInAction k t → IsInAction k u → active k t ≢ active k u
  pub none_waits : (t : ℕ) → IsInAction k t → (k.running ≡ Some t) ⊎ StandsIn (k.ready (active k t)) t
  -- no ready task has a higher active priority than the running one (RM D.2.1)
  pub highest_runs : (r u h : ℕ) → k.running ≡ Some r → StandsIn (k.ready h) u → active k u ≤ active k r
  -- a call is queued only while its barrier is closed or some task is inside its object (RM 9.5.3)
  pub queued_closed : (o u : ℕ) → k.queued o ≡ Some u → (barrier o ≡ false) ⊎ ((t : ℕ) × IsInside k o t)
