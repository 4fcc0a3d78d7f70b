-- The ready tasks: for each priority a list, its head first (RM D.2.1).
use Rattle.base.specs.declared.limits.TheConstants.{PRIORITIES}
use Rattle.std.specs.Prelude.{ℕ, zero, suc, List, [], ◌∷◌, ◌++◌, drop, Option, Some, None, Bool, true, false, nat_eq, if◌then◌else◌}

abbrev pub Queues : Type 0
Queues = ℕ → List ℕ

-- the lists with this one at a priority
abbrev pub put : ℕ → List ℕ → Queues → Queues
put priority tasks queues p = if nat_eq p priority then tasks else queues p

-- a task at the tail, or at the head, of the list of a priority
abbrev pub with_tail : ℕ → ℕ → Queues → Queues
with_tail task priority queues = put priority (queues priority ++ task ∷ []) queues

abbrev pub with_head : ℕ → ℕ → Queues → Queues
with_head task priority queues = put priority (task ∷ queues priority) queues

abbrev pub is_occupied : List ℕ → Bool
is_occupied [] = false
is_occupied (task ∷ tasks) = true

abbrev pub unless_empty : List ℕ → ℕ → Option ℕ → Option ℕ
unless_empty [] priority lower = lower
unless_empty (task ∷ tasks) priority lower = Some priority

-- the highest priority below n whose list is not empty
abbrev pub highest_below : ℕ → Queues → Option ℕ
highest_below zero queues = None
highest_below (suc n) queues = unless_empty (queues n) n (highest_below n queues)

abbrev pub head_of : List ℕ → Option ℕ
head_of [] = None
head_of (task ∷ tasks) = Some task

-- the highest priority whose list is not empty
unfoldable pub highest : Queues → Option ℕ
highest queues = highest_below PRIORITIES queues

-- the head of the list of a priority, and the lists without it
abbrev pub head_at : Option ℕ → Queues → Option ℕ
head_at None queues = None
head_at (Some priority) queues = head_of (queues priority)

abbrev pub without_head : Option ℕ → Queues → Queues
without_head None queues = queues
without_head (Some priority) queues = put priority (drop 1 (queues priority)) queues
