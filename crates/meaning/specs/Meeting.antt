-- What it is that each step of a task on one side is met by steps of the task on the other, counted for each frame; and what is owed where a step reaches other
-- tasks.
use Rattle.std.specs.Prelude.{◌≡◌, ◌≢◌, ℕ, suc, ◌+◌, ◌<◌, ◌≤◌, Option, Some, None}
use Rattle.kernel.specs.State.{Kernel, put}
use Rattle.kernel.specs.Effects.{Effect, Quiet, Ending, Closes, TakesOver, HandsBack, after}
use Rattle.kernel.specs.Worlds.{World, Tasks, Solo, Behaviour, ending, reached, solo_of, among, step}
use Rattle.kernel.specs.Calm.{IsRunner, Calm}
use Rattle.kernel.specs.Counting.{Alone, next_kernel, next_solo, Spends, Done, Own, Calls}
use Rattle.kernel.specs.Laws.{Reaches}

-- Counted steps

module _ {N T H : Type 0} (g : Behaviour N T H) (t : ℕ) (frames limit : T → ℕ) where
  -- steps up to and with the one that is taken in kernel l and state r: the frame that is the d-th takes at most n of them itself,
  -- and each frame that comes above it at most the limit for the state in which it begins
  pub data Takes : ℕ → ℕ → Kernel → Solo N T → Kernel → Solo N T → Type 0 where
    -- the last step, by the frame itself
    Last : {d n : ℕ} {k : Kernel} {s : Solo N T} → frames s.task ≡ d → Takes d (suc n) k s k s
    -- a step of the frame itself, which no other task notices
    OwnStep :
        {d n : ℕ} {k l : Kernel} {s r : Solo N T}
        → Alone g t k s
        → frames s.task ≡ d
        → Takes d n (next_kernel g t k s) (next_solo g t k s) l r
        → Takes d (suc n) k s l r
    -- a call that comes to its end, and what comes then
    Over :
        {d n m : ℕ} {k l o : Kernel} {s r v : Solo N T}
        → Alone g t k s
        → frames s.task ≡ d
        → Spends g t frames limit (suc d) m (next_kernel g t k s) (next_solo g t k s) l r
        → m ≤ limit (next_solo g t k s).task
        → Takes d n l r o v
        → Takes d (suc n) k s o v
    -- a call within which the last step is taken
    Within :
        {d n m : ℕ} {k l : Kernel} {s r : Solo N T}
        → Alone g t k s
        → frames s.task ≡ d
        → Takes (suc d) m (next_kernel g t k s) (next_solo g t k s) l r
        → m ≤ limit (next_solo g t k s).task
        → Takes d (suc n) k s l r

  -- how many steps there are in all
  abbrev pub spent : {d n : ℕ} {k l : Kernel} {s r : Solo N T} → Spends g t frames limit d n k s l r → ℕ
  spent Done = 0
  spent (Own alone here rest) = suc (spent rest)
  spent (Calls alone here above low rest) = suc (spent above + spent rest)

  abbrev pub taken : {d n : ℕ} {k l : Kernel} {s r : Solo N T} → Takes d n k s l r → ℕ
  taken (Last here) = 1
  taken (OwnStep alone here rest) = suc (taken rest)
  taken (Over alone here above low rest) = suc (spent above + taken rest)
  taken (Within alone here above low) = suc (taken above)

-- j steps from a world for one step of the other side: a single one where no task runs, or else steps of the running task,
-- of which its frame takes at most the limit for the state in which they begin
pub data Counted {N T H : Type 0} (g : Behaviour N T H) (frames limit : T → ℕ) (w : World (Tasks N T)) (j : ℕ) : Type 0 where
  Idle : ((t : ℕ) → IsRunner w.kernel t → ⊥) → j ≡ 1 → Counted g frames limit w j
  Busy :
      (t n : ℕ) (s : Solo N T)
      → IsRunner w.kernel t
      → (all : Takes g t frames limit (frames (w.rest.tasks t)) n w.kernel (solo_of t w.rest) w.kernel s)
      → n ≤ limit (w.rest.tasks t)
      → j ≡ taken g t frames limit all
      → Counted g frames limit w j
  -- steps up to the last one of those for one step of the other side
  Begun :
      (t n : ℕ) (s : Solo N T)
      → IsRunner w.kernel t
      → (all : Takes g t frames limit (frames (w.rest.tasks t)) n w.kernel (solo_of t w.rest) w.kernel s)
      → n ≤ limit (w.rest.tasks t)
      → suc j ≡ taken g t frames limit all
      → Counted g frames limit w j

-- what is known of the running task t
pub record Runner (k : Kernel) (t : ℕ) : Type 0 where
  pub calm : Calm k t
  pub reaches : (e : Effect) → Reaches k t e

abbrev pub received : {M T G : Type 0} → Behaviour M T G → Option G → T → T
received b None s = s
received b (Some g) s = b.receives g s

-- How the two sides stand for one another. A note says what ties tasks to one another and is told neither by the kernel nor by the memories nor by the
-- state of one task, as the words that one task has handed to another. Neither side keeps it: it is of the relation alone. All tasks stand under one
-- note, and behind each step that moves another one may be chosen.
pub record Relation (Note M S G N T H : Type 0) : Type 1 where
  -- the memories
  pub shares : M → N → Type 0
  -- the states of the task with this number in a kernel, between steps
  pub stands : Note → Kernel → ℕ → S → T → Type 0
  -- the states of the running task, and what it gives to the caller that it has served, right after its own step with this effect; note and kernel are
  -- the states of the running task, and what it gives to the caller that it has served, before its step
  pub leaves : Note → Kernel → ℕ → Effect → S → T → Option G → Option H → Type 0
  -- the size of a state, which falls where no step meets
  pub size : S → ℕ

-- the world behind a step of task t with this effect, which leaves memory and task as in s and gives p to the caller that it has served; before it, the
-- kernel was k, and all other tasks as in d
abbrev pub behind : {M T G : Type 0} → Behaviour M T G → ℕ → Kernel → Effect → Tasks M T → Solo M T → Option G → World (Tasks M T)
behind b t k e d s p =
    record { kernel = after t e k; rest = record { memory = s.memory; tasks = reached b t (ending k t e) p (put t s.task d.tasks) } }

module _ {Note M S G N T H : Type 0} (f : Behaviour M S G) (g : Behaviour N T H) (rel : Relation Note M S G N T H)
    (frames limit : T → ℕ) where
  -- A step of f's task t from state a is met from state b: by no step, and then the size falls; or by steps of which the last one has the same effect.
  -- All is under one note.
  pub data Met (note : Note) (k : Kernel) (t : ℕ) (a : Solo M S) (b : Solo N T) : Type 0 where
    Still :
        (f.act k t a).effect ≡ Quiet
        → rel.shares (f.act k t a).solo.memory b.memory
        → rel.stands note k t (f.act k t a).solo.task b.task
        → rel.size (f.act k t a).solo.task < rel.size a.task
        → Met note k t a b
    Moves :
        (n : ℕ) (c : Solo N T)
        → Takes g t frames limit (frames b.task) n k b k c
        → n ≤ limit b.task
        → (g.act k t c).effect ≡ (f.act k t a).effect
        → rel.shares (f.act k t a).solo.memory (g.act k t c).solo.memory
        → rel.leaves note k t (f.act k t a).effect (f.act k t a).solo.task (g.act k t c).solo.task (f.act k t a).given (g.act k t c).given
        → Met note k t a b
    -- a quiet step, by some steps that no other task notices, up to one that is still to be taken
    Walks :
        (j n : ℕ) (c : Solo N T)
        → (all : Takes g t frames limit (frames b.task) n k b k c)
        → taken g t frames limit all ≡ suc (suc j)
        → n ≤ limit b.task
        → (f.act k t a).effect ≡ Quiet
        → rel.shares (f.act k t a).solo.memory c.memory
        → rel.stands note k t (f.act k t a).solo.task c.task
        → Met note k t a b

  -- what is to stand under the next note once the effect has reached the others: the task itself, the caller that it takes over or has served, and every
  -- other one
  abbrev pub Owed : (Note → Kernel → ℕ → Effect → (ℕ → S) → (ℕ → T) → S → T → Option G → Option H → Ending → Type 0)
  Owed next k t e ones others a b p q Closes =
      rel.stands next (after t e k) t a b × ((v : ℕ) → v ≢ t → rel.stands next (after t e k) v (ones v) (others v))
  Owed next k t e ones others a b p q (TakesOver o u) =
      rel.stands next (after t e k) t (f.serving o u (ones u) a) (g.serving o u (others u) b)
      × rel.stands next (after t e k) u (f.taken o (ones u)) (g.taken o (others u))
      × ((v : ℕ) → v ≢ t → v ≢ u → rel.stands next (after t e k) v (ones v) (others v))
  Owed next k t e ones others a b p q (HandsBack u) =
      rel.stands next (after t e k) t a b
      × rel.stands next (after t e k) u (received f p (ones u)) (received g q (others u))
      × ((v : ℕ) → v ≢ t → v ≢ u → rel.stands next (after t e k) v (ones v) (others v))

  -- `Ones` and `Others` are invariants of the worlds of f and of g
  module _ (Ones : World (Tasks M S) → Type 0) (Others : World (Tasks N T) → Type 0) where
    -- What is known where task t is to take a step: it runs in kernel k, the worlds of both sides over this kernel keep their invariants, and memories and
    -- all tasks stand for one another under the note.
    pub record Before (note : Note) (k : Kernel) (t : ℕ) (c : Tasks M S) (d : Tasks N T) : Type 0 where
      pub ones : Ones (record { kernel = k; rest = c })
      pub others : Others (record { kernel = k; rest = d })
      pub runner : Runner k t
      pub shared : rel.shares c.memory d.memory
      pub stand : (u : ℕ) → rel.stands note k u (c.tasks u) (d.tasks u)

    -- What is known right behind a step of task t that moves, with effect e, and leaves a and gives p on the one side, b and q on the other: what was known
    -- before it, that the worlds behind it keep their invariants too, and what stands for one another of memories and task.
    pub record Moved (note : Note) (k : Kernel) (t : ℕ) (c : Tasks M S) (d : Tasks N T) (e : Effect) (a : Solo M S) (b : Solo N T)
        (p : Option G) (q : Option H) : Type 0 where
      pub before : Before note k t c d
      pub ones : Ones (behind f t k e c a p)
      pub others : Others (behind g t k e d b q)
      pub shared : rel.shares a.memory b.memory
      pub leaves : rel.leaves note k t e a.task b.task p q

    -- what the two sides owe
    pub record Meets : Type 0 where
      -- each step keeps the invariant of its side
      pub kept_ones : (v : World (Tasks M S)) → Ones v → Ones (step (among f) v)
      pub kept_others : (w : World (Tasks N T)) → Others w → Others (step (among g) w)
      -- which tells what is known of the running task
      pub runner : (w : World (Tasks N T)) (t : ℕ) → Others w → IsRunner w.kernel t → Runner w.kernel t
      -- each step is met
      pub met : (note : Note) (k : Kernel) (t : ℕ) (c : Tasks M S) (d : Tasks N T) → Before note k t c d
          → Met note k t (solo_of t c) (solo_of t d)
      -- and where it moves, there is a note under which all tasks stand behind it, those among them that its effect has reached
      pub owed :
          (note : Note) (k : Kernel) (t : ℕ) (c : Tasks M S) (d : Tasks N T) (e : Effect) (a : Solo M S) (b : Solo N T)
          (p : Option G) (q : Option H)
          → Moved note k t c d e a b p q
          → (next : Note) × Owed next k t e c.tasks d.tasks a.task b.task p q (ending k t e)

    -- two worlds between steps: over equal kernels, each with its invariant; memories and all tasks stand for one another, under some note
    pub record Related (v : World (Tasks M S)) (w : World (Tasks N T)) : Type 0 where
      pub same : v.kernel ≡ w.kernel
      pub ones : Ones v
      pub others : Others w
      pub shared : rel.shares v.rest.memory w.rest.memory
      pub note : Note
      pub stands : (u : ℕ) → rel.stands note v.kernel u (v.rest.tasks u) (w.rest.tasks u)
