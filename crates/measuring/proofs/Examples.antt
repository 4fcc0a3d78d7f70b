-- Worked examples: jobs, actions and blocking. Stories have the latest first.
use Rattle.std.proofs.Common.{◌≡◌, ℕ, List, [], ◌∷◌, pos, Option, Some, None, refl, get_or}
use Rattle.kernel.specs.State.{Partition}
use Rattle.execution.specs.declared.frame_use.FrameUse.{FrameUse}
use Rattle.measuring.specs.Measures.{below_of, blocking, greatest, longest_job, shortest_job, usage_measures, words_of}
use Rattle.measuring.specs.declared.happening.Happening.{Happening}
use Rattle.measuring.specs.declared.happening.Happening.TheVariants.{Released, Steps, Rests, Preempted}
use Rattle.measuring.specs.declared.usage.Usage.TheVariants as uses

abbrev pub of_frames : (below words : ℕ) → Option FrameUse
of_frames below words = Some (record { below = below; words = words })

-- a job of three steps in which the task is preempted, one of two, and one of a step that isn't over
abbrev pub three_jobs : List Happening
three_jobs =
    Steps 9 None ∷ Released (pos 20) 8 ∷ Rests ∷ Steps 8 (of_frames 0 3) ∷ Steps 7 (of_frames 2 9) ∷ Released (pos 10) 6 ∷ Rests ∷ Steps 6 (of_frames 1 10) ∷ Preempted ∷ Steps 2 None ∷ Steps 1 None
    ∷ Released (pos 0) 0 ∷ []

pub least_is_of_those_over : shortest_job three_jobs ≡ Some 2
least_is_of_those_over = refl

pub longest_is_of_all : longest_job three_jobs ≡ 3
longest_is_of_all = refl

pub none_is_over : shortest_job (Steps 1 None ∷ Released (pos 0) 0 ∷ []) ≡ None
none_is_over = refl

-- the most frames and the most words need not be those of one step
pub most_frames : greatest below_of three_jobs ≡ 2
most_frames = refl

pub most_words : greatest words_of three_jobs ≡ 10
most_words = refl

-- a call that opens an action of three steps, one that waits in the queue and is served by another task, and one that opens an action of one step
pub three_calls : usage_measures (uses.Leaves ∷ uses.StepsInside ∷ uses.Calls ∷ uses.Calls ∷ uses.Leaves ∷ uses.StepsInside ∷ uses.StepsInside ∷ uses.StepsInside ∷ uses.Calls ∷ [])
    ≡ record { calls = 3; last_action = 0; longest_action = 3 }
three_calls = refl

-- a handler of two steps after which its next one has begun
pub two_handlers : usage_measures (uses.StepsInside ∷ uses.Leaves ∷ uses.StepsInside ∷ uses.StepsInside ∷ []) ≡ record { calls = 0; last_action = 1; longest_action = 2 }
two_handlers = refl

-- tasks of priorities 4, 10 and 10, and objects of ceilings 10 and 5
abbrev pub partition : Partition
partition = record { tasks = 3; objects = 2; base = λ t. get_or (4 ∷ 10 ∷ 10 ∷ []) t 31; ceiling = λ o. get_or (10 ∷ 5 ∷ []) o 0 }

-- the first one took 7 steps in an action of the first object and 9 in one of the second; the last one took 20 and 30
abbrev pub longest : ℕ → ℕ → ℕ
longest u o = get_or (get_or ((7 ∷ 9 ∷ []) ∷ [] ∷ (20 ∷ 30 ∷ []) ∷ []) u []) o 0

-- the ceiling of the second object is too low to block the second task, and the priority of the last task isn't lower
pub blocked_by_the_first : blocking partition 3 longest 1 ≡ 7
blocked_by_the_first = refl

pub lowest_is_not_blocked : blocking partition 3 longest 0 ≡ 0
lowest_is_not_blocked = refl
