-- Whom and what the kernel holds: tasks and times within given bounds; nobody has to believe this.
use Rattle.std.specs.Prelude.{◌≡◌, ℕ, ◌+◌, ℤ, List, [], ◌∷◌, Some}
use Rattle.kernel.specs.State.{Interrupt, Kernel, Sleeper, Action, Reads, Writes, Serves}

module _ (R : ℕ → Type 0) (W : ℤ → Type 0) where
  abbrev pub Each : List ℕ → Type 0
  Each [] = Unit {0}
  Each (t ∷ ts) = R t × Each ts

  abbrev pub Sleeps : List Sleeper → Type 0
  Sleeps [] = Unit {0}
  Sleeps (s ∷ ss) = R s.task × W s.wake × Sleeps ss

  abbrev pub Callers : List Action → Type 0
  Callers [] = Unit {0}
  Callers (Reads o ∷ outer) = Callers outer
  Callers (Writes o ∷ outer) = Callers outer
  Callers (Serves o u ∷ outer) = R u × Callers outer

  -- handlers of interrupts beyond so many tasks
  abbrev pub Awaits : ℕ → List Interrupt → Type 0
  Awaits tasks [] = Unit {0}
  Awaits tasks (i ∷ is) = R (tasks + i.channel) × W i.time × Awaits tasks is

  pub record Bounded (k : Kernel) : Type 0 where
    pub running : (t : ℕ) → k.running ≡ Some t → R t
    pub ready : (h : ℕ) → Each (k.ready h)
    pub sleepers : Sleeps k.sleepers
    pub pending : Awaits k.partition.tasks k.pending
    pub queued : (o u : ℕ) → k.queued o ≡ Some u → R u
    pub callers : (t : ℕ) → Callers (k.actions t)
    pub now : W k.now

-- any time
abbrev pub Anytime : ℤ → Type 0
Anytime z = Unit {0}
