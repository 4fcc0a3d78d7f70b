-- Sleepers in a heap: the one that is taken first stands at the front, and each other one behind its parent.
use Rattle.std.specs.Prelude.{◌≡◌, ℕ, ℤ, int_le, ◌+◌, ◌-◌, ◌/◌, ◌<◌, List, [], ◌∷◌, ◌++◌, filter, length, map, get_or, Option, Some, None, Bool, true, false, nat_eq, nat_lt, ◌⊎◌, if◌then◌else◌}
use Rattle.std.specs.Ordering.{int_cmp, is_lt, nat_cmp, ordering_then}
use Rattle.std.specs.List.{IsDistinct}
use Rattle.std.specs.List.Sorted.{IsPermutation}
use Rattle.clock.specs.declared.delays.Sleeper.{Sleeper}
use Rattle.clock.specs.declared.heap.Entry.{Entry}

-- by wake time, then by the number of its adding
abbrev pub is_before : Entry → Entry → Bool
is_before a b = is_lt (ordering_then (int_cmp a.wake b.wake) (nat_cmp a.number b.number))

abbrev pub parent : ℕ → ℕ
parent k = (k - 1) / 2

-- none comes before its parent
abbrev pub IsHeap : List Entry → Type 0
IsHeap entries = (k : ℕ) (d : Entry) → 0 < k → k < length entries → is_before (get_or entries k d) (get_or entries (parent k) d) ≡ false

-- of the first entries, and of those below the children of the front, none comes before its parent
abbrev pub IsHeapUpTo : ℕ → List Entry → Type 0
IsHeapUpTo count entries = (k : ℕ) (d : Entry) → 0 < k → k < count → is_before (get_or entries k d) (get_or entries (parent k) d) ≡ false

abbrev pub IsHeapBelowFront : List Entry → Type 0
IsHeapBelowFront entries =
    (k : ℕ) (d : Entry) → 0 < parent k → k < length entries → is_before (get_or entries k d) (get_or entries (parent k) d) ≡ false

-- the one of two children that is taken first, of the entry at a place
abbrev pub IsFirstChild : ℕ → ℕ → List Entry → Type 0
IsFirstChild at child entries =
    (0 < child) × (parent child ≡ at) × (child < length entries)
    × ((k : ℕ) (d : Entry) → 0 < k → parent k ≡ at → k < length entries → is_before (get_or entries k d) (get_or entries child d) ≡ false)

abbrev pub HasNoChild : ℕ → List Entry → Type 0
HasNoChild at entries = (k : ℕ) → 0 < k → parent k ≡ at → k < length entries → ⊥

-- an element of a list
abbrev pub IsAmong : Entry → List Entry → Type 0
IsAmong e [] = ⊥
IsAmong e (x ∷ xs) = (e ≡ x) ⊎ IsAmong e xs

abbrev pub IsWithin : List Entry → List Entry → Type 0
IsWithin xs ys = (e : Entry) → IsAmong e xs → IsAmong e ys

-- all are taken after this one, or with it
abbrev pub IsSoonest : Entry → List Entry → Type 0
IsSoonest e entries = (x : Entry) → IsAmong x entries → is_before x e ≡ false

abbrev pub is_due_entry : ℤ → Entry → Bool
is_due_entry now e = int_le e.wake now

abbrev pub IsNobodyDue : ℤ → List Entry → Type 0
IsNobodyDue now entries = (x : Entry) → IsAmong x entries → is_due_entry now x ≡ false

-- one entry is taken out, any or one that is due, and the others change places
abbrev pub TakesOut : List Entry → List Entry → Entry → Type 0
TakesOut before after e = IsPermutation before (e ∷ after) × (length before ≡ length after + 1)

abbrev pub TakesDue : ℤ → List Entry → List Entry → Entry → Type 0
TakesDue now before after e = IsPermutation before (e ∷ after) × (is_due_entry now e ≡ true) × (length before ≡ length after + 1)

-- all that are due are taken out, in any order, and the others change places
pub record TakesAllDue (now : ℤ) (before after due : List Entry) : Type 0 where
  pub moved : IsPermutation before (due ++ after)
  pub all_due : (e : Entry) → IsAmong e due → is_due_entry now e ≡ true
  pub nobody_due : IsNobodyDue now after

-- more than a quarter are due
abbrev pub are_many_due : ℤ → List Entry → Bool
are_many_due now entries = nat_lt (length entries / 4) (length (filter (is_due_entry now) entries))

-- an entry among others that stand by their numbers
abbrev pub insert : Entry → List Entry → List Entry
insert e [] = e ∷ []
insert e (x ∷ xs) = if nat_lt e.number x.number then e ∷ x ∷ xs else x ∷ insert e xs

-- entries by their numbers, which is the order of their adding
abbrev pub by_number : List Entry → List Entry
by_number [] = []
by_number (x ∷ xs) = insert x (by_number xs)

abbrev pub sleeper_of : Entry → Sleeper
sleeper_of e = record { task = e.task; wake = e.wake }

-- the sleepers in the order of their adding
abbrev pub sleepers_of : List Entry → List Sleeper
sleepers_of entries = map sleeper_of (by_number entries)

-- no two have one number
abbrev pub AreDistinct : List Entry → Type 0
AreDistinct entries = IsDistinct nat_eq (map (λ e. e.number) entries)

-- and each number is below the next one
abbrev pub AreNumbered : ℕ → List Entry → Type 0
AreNumbered next entries = AreDistinct entries × ((e : Entry) → IsAmong e entries → e.number < next)

-- of two entries the one with the lower number, where there are two
abbrev pub earlier : Entry → Option Entry → Entry
earlier e None = e
earlier e (Some f) = if nat_lt e.number f.number then e else f

-- the entry of a task, if it has one; of several, the one with the least number
abbrev pub entry_of : ℕ → List Entry → Option Entry
entry_of task [] = None
entry_of task (e ∷ es) = if nat_eq e.task task then Some (earlier e (entry_of task es)) else entry_of task es
