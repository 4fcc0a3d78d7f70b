-- Worked rows of actions, ceilings and queues.
use Rattle.std.proofs.Common.{◌≡◌, [], ◌∷◌, true, false, Some, None, Ok, Err, refl}
use Rattle.protected.specs.Actions.{Actions, active_of, calling, has_any, opened_by, opening, queued_at, served, with_opened, with_queued, without_last}
use Rattle.protected.specs.declared.refusal.Refusal.TheVariants.{AboveCeiling, QueueFull, SameObject}

-- task 0 of priority 5 and task 1 of priority 9; object 0 with ceiling 8 and object 1 with ceiling 10
abbrev start : Actions
start = record { bases = 5 ∷ 9 ∷ []; ceilings = 8 ∷ 10 ∷ []; opened = [] ∷ [] ∷ []; queued = None ∷ None ∷ [] }

allowed : opening start 0 0 ≡ Ok tt
allowed = refl

-- a task may not open an action of an object below its base priority
too_high : opening start 1 0 ≡ Err AboveCeiling
too_high = refl

abbrev low : Actions
low = with_opened 0 (0 ∷ []) start

raised_to_ceiling : active_of low 0 ≡ 8
raised_to_ceiling = refl

twice : opening low 0 0 ≡ Err SameObject
twice = refl

upwards : opening low 0 1 ≡ Ok tt
upwards = refl

-- within the action of ceiling 10 the one of ceiling 8 may not be opened, though the base priority is 5
abbrev high : Actions
high = with_opened 0 (1 ∷ []) start

downwards : opening high 0 0 ≡ Err AboveCeiling
downwards = refl

-- where both rules are broken, the same object is what is named
abbrev both : Actions
both = with_opened 0 (0 ∷ 1 ∷ []) start

same_first : opening both 0 0 ≡ Err SameObject
same_first = refl

greatest : active_of both 0 ≡ 10
greatest = refl

inner_closes : active_of (with_opened 0 (without_last (opened_by both 0)) both) 0 ≡ 8
inner_closes = refl

others_stay : active_of both 1 ≡ 9
others_stay = refl

in_one : has_any (opened_by both 0) ≡ true
in_one = refl

in_none : has_any (opened_by both 1) ≡ false
in_none = refl

abbrev waits : Actions
waits = with_queued 1 (Some 0) start

first_call : calling (queued_at start 1) ≡ Ok tt
first_call = refl

second_call : calling (queued_at waits 1) ≡ Err QueueFull
second_call = refl

other_queue : calling (queued_at waits 0) ≡ Ok tt
other_queue = refl

closed_barrier : served false (queued_at waits 1) ≡ None
closed_barrier = refl

open_barrier : served true (queued_at waits 1) ≡ Some 0
open_barrier = refl
