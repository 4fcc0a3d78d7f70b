-- Worked rows of tasks outside of actions, and of queues whose call has been served.
use Rattle.std.proofs.Common.{◌≡◌, [], ◌∷◌, true, false, None, Some, Ok, refl}
use Rattle.protected.specs.Actions.{Actions, active_of, calling, has_any, opened_by, queued_at, served, with_queued}

-- task 0 of priority 5 and task 1 of priority 9, outside of any action
abbrev outside : Actions
outside = record { bases = 5 ∷ 9 ∷ []; ceilings = 8 ∷ 10 ∷ []; opened = [] ∷ [] ∷ []; queued = None ∷ None ∷ [] }

base_priority : active_of outside 0 ≡ 5
base_priority = refl

other_base_priority : active_of outside 1 ≡ 9
other_base_priority = refl

in_no_action : has_any (opened_by outside 0) ≡ false
in_no_action = refl

nobody_waits : served true (queued_at outside 1) ≡ None
nobody_waits = refl

abbrev has_served : Actions
has_served = with_queued 1 None (with_queued 1 (Some 0) outside)

nobody_waits_again : served true (queued_at has_served 1) ≡ None
nobody_waits_again = refl

another_call : calling (queued_at has_served 1) ≡ Ok tt
another_call = refl
