-- Situations worked by computation: effects one after the other, and what the kernel then shows.
use Rattle.std.proofs.Common.{◌≡◌, ℕ, zero, suc, ℤ, List, [], ◌∷◌, ◌++◌, Option, Some, None, true, false, refl}
use Rattle.std.specs.Prelude.{pos, negsuc, codes, nat_lt, if◌then◌else◌}
use Rattle.std.specs.Fmt.{digits}
use Rattle.base.specs.declared.limits.TheConstants.{PRIORITIES}
use Rattle.kernel.specs.State.{Kernel, Partition, Sleeper, inside}
use Rattle.kernel.specs.Effects.{Effect, Quiet, Says, Delays, Opens, Queues, Ends, Finishes, Dies, Breaks, SameObject, AboveCeiling, is_inside_any, is_above_ceiling, call_refusal, is_full, begin, after}
use Rattle.kernel.specs.Text.{Names, text}

-- What a kernel shows

-- the list of a priority that is not empty
pub record Level : Type 0 where
  pub priority : ℕ
  pub tasks : List ℕ

abbrev pub level_if : ℕ → List ℕ → List Level
level_if h [] = []
level_if h (t ∷ ts) = record { priority = h; tasks = t ∷ ts } ∷ []

abbrev pub levels : ℕ → (ℕ → List ℕ) → List Level
levels zero ready = []
levels (suc n) ready = levels n ready ++ level_if n (ready n)

abbrev pub sleeping : List Sleeper → List ℕ
sleeping [] = []
sleeping (s ∷ ss) = s.task ∷ sleeping ss

pub record View : Type 0 where
  pub running : Option ℕ
  pub ready : List Level
  pub asleep : List ℕ
  pub now : ℤ

abbrev pub shown : Kernel → View
shown k = record { running = k.running; ready = levels PRIORITIES k.ready; asleep = sleeping k.sleepers; now = k.now }

-- The running task does each of these effects

abbrev pub does_at : Effect → Option ℕ → Kernel → Kernel
does_at e None k = k
does_at e (Some t) k = after t e k

abbrev pub does : List Effect → Kernel → Kernel
does [] k = k
does (e ∷ es) k = does es (does_at e k.running k)

-- what is shown after each of them
abbrev pub views : List Effect → Kernel → List View
views [] k = []
views (e ∷ es) k = let l = does_at e k.running k in shown l ∷ views es l

abbrev pub runs : ℕ → List Level → List ℕ → ℕ → View
runs t ready asleep now = record { running = Some t; ready = ready; asleep = asleep; now = pos now }

abbrev pub nobody : ℕ → View
nobody now = record { running = None; ready = []; asleep = []; now = pos now }

abbrev pub at : ℕ → List ℕ → Level
at h tasks = record { priority = h; tasks = tasks }

abbrev pub one_of : {T : Type 0} → List T → T → ℕ → T
one_of [] other n = other
one_of (x ∷ xs) other zero = x
one_of (x ∷ xs) other (suc n) = one_of xs other n

-- base priorities of tasks, main and handlers, ceilings of objects
abbrev pub program : ℕ → ℕ → List ℕ → List ℕ → Partition
program tasks objects bases ceilings = record { tasks = tasks; objects = objects; base = λ t. if nat_lt t tasks then one_of bases 15 t else 31; ceiling = one_of ceilings 30 }

abbrev pub named : List (List ℕ) → Names
named tasks = record { task = one_of tasks (codes "MAIN"); exception = λ x. codes "BAD" }

abbrev pub says : List ℕ → ℕ → Effect
says label n = Says label (pos n)

-- Two tasks of one priority whose due delays let them take turns: the yielding task goes to the tail

abbrev pub turns : Partition
turns = program 3 0 (5 ∷ 5 ∷ []) []

abbrev pub turn_effects : List Effect
turn_effects = Finishes ∷ says (codes "n") 1 ∷ Delays (pos 0) ∷ says (codes "n") 1 ∷ Delays (pos 0) ∷ says (codes "n") 2 ∷ Delays (pos 0) ∷ says (codes "n") 2 ∷ Delays (pos 0) ∷ says (codes "n") 3 ∷ Delays (pos 0) ∷ says (codes "n") 3 ∷ Delays (pos 0) ∷ Finishes ∷ Finishes ∷ []

turns_views : views (Finishes ∷ Delays (pos 0) ∷ Delays (pos 0) ∷ Delays (pos 0) ∷ []) (begin turns [])
    ≡ runs 0 (at 5 (1 ∷ []) ∷ []) [] 0
    ∷ runs 1 (at 5 (0 ∷ []) ∷ []) [] 0
    ∷ runs 0 (at 5 (1 ∷ []) ∷ []) [] 0
    ∷ runs 1 (at 5 (0 ∷ []) ∷ []) [] 0
    ∷ []
turns_views = refl

turns_text : text (named (codes "A" ∷ codes "B" ∷ [])) (does turn_effects (begin turns [])) ≡ codes "0 A n 1\n0 B n 1\n0 A n 2\n0 B n 2\n0 A n 3\n0 B n 3\nended at 0\n"
unfolding digits
turns_text = refl

-- Three tasks sleep until one time: they become ready in the order in which they began to wait, not by number

abbrev pub sleepers : Partition
sleepers = program 4 0 (5 ∷ 5 ∷ 5 ∷ []) []

abbrev pub sleeper_effects : List Effect
sleeper_effects = Finishes ∷ Delays (pos 0) ∷ Delays (pos 1000) ∷ Delays (pos 1000) ∷ Delays (pos 1000) ∷ []

sleepers_views : views sleeper_effects (begin sleepers [])
    ≡ runs 0 (at 5 (1 ∷ 2 ∷ []) ∷ []) [] 0
    ∷ runs 1 (at 5 (2 ∷ 0 ∷ []) ∷ []) [] 0
    ∷ runs 2 (at 5 (0 ∷ []) ∷ []) (1 ∷ []) 0
    ∷ runs 0 [] (1 ∷ 2 ∷ []) 0
    ∷ runs 1 (at 5 (2 ∷ 0 ∷ []) ∷ []) [] 1000
    ∷ []
sleepers_views = refl

abbrev pub wakes : Effect
wakes = says (codes "w") 1

sleepers_text : text (named (codes "A" ∷ codes "B" ∷ codes "C" ∷ [])) (does (sleeper_effects ++ (wakes ∷ Finishes ∷ wakes ∷ Finishes ∷ wakes ∷ Finishes ∷ [])) (begin sleepers [])) ≡ codes "1000 B w 1\n1000 C w 1\n1000 A w 1\nended at 1000\n"
unfolding digits
sleepers_text = refl

-- The clock moves to the least wake time, and only the tasks due then become ready

alarms_views : views (Finishes ∷ Delays (pos 900) ∷ Delays (pos 700) ∷ Delays (pos 800) ∷ Delays (pos 900) ∷ []) (begin sleepers [])
    ≡ runs 0 (at 5 (1 ∷ 2 ∷ []) ∷ []) [] 0
    ∷ runs 1 (at 5 (2 ∷ []) ∷ []) (0 ∷ []) 0
    ∷ runs 2 [] (0 ∷ 1 ∷ []) 0
    ∷ runs 1 [] (0 ∷ 2 ∷ []) 700
    ∷ runs 2 [] (0 ∷ 1 ∷ []) 800
    ∷ []
alarms_views = refl

-- A closed barrier: the call queues, and the task that opens the barrier runs the body for the caller at the end of its action

abbrev pub mailbox : Partition
mailbox = program 3 1 (10 ∷ 5 ∷ []) (10 ∷ [])

mailbox_views : views (Finishes ∷ Queues 0 ∷ Opens 0 ∷ Ends true ∷ Ends false ∷ []) (begin mailbox [])
    ≡ runs 0 (at 5 (1 ∷ []) ∷ []) [] 0
    ∷ runs 1 [] [] 0
    ∷ runs 1 [] [] 0
    ∷ runs 1 [] [] 0
    ∷ runs 0 (at 5 (1 ∷ []) ∷ []) [] 0
    ∷ []
mailbox_views = refl

-- a queued caller is not inside; who runs its body is
mailbox_outside : inside (does (Finishes ∷ Queues 0 ∷ []) (begin mailbox [])) 0 ≡ []
mailbox_outside = refl

mailbox_inside : inside (does (Finishes ∷ Queues 0 ∷ Opens 0 ∷ Ends true ∷ []) (begin mailbox [])) 0 ≡ 1 ∷ []
mailbox_inside = refl

abbrev pub gives : List Effect
gives = Opens 0 ∷ Ends true ∷ Ends false ∷ []

mailbox_text : text (named (codes "CONS" ∷ codes "PROD" ∷ []))
    (does ((Finishes ∷ Queues 0 ∷ []) ++ gives ++ (says (codes "got") 7 ∷ Queues 0 ∷ says (codes "gave") 7 ∷ []) ++ gives ++ (says (codes "got") 8 ∷ Finishes ∷ says (codes "gave") 8 ∷ Finishes ∷ [])) (begin mailbox []))
    ≡ codes "0 CONS got 7\n0 PROD gave 7\n0 CONS got 8\n0 PROD gave 8\nended at 0\n"
unfolding digits
mailbox_text = refl

-- A full queue: one call is queued, the second caller is refused

abbrev pub crowd : Partition
crowd = program 4 1 (9 ∷ 9 ∷ 5 ∷ []) (10 ∷ [])

abbrev pub crowded : Kernel
crowded = does (Finishes ∷ Queues 0 ∷ []) (begin crowd [])

crowd_full : is_full crowded 0 ≡ true
crowd_full = refl

crowd_else_free : is_inside_any crowded 1 ≡ false
crowd_else_free = refl

crowd_below_ceiling : is_above_ceiling crowded 1 0 ≡ false
crowd_below_ceiling = refl

crowd_views : views (Finishes ∷ Queues 0 ∷ Finishes ∷ Opens 0 ∷ Ends true ∷ Ends false ∷ []) (begin crowd [])
    ≡ runs 0 (at 5 (2 ∷ []) ∷ at 9 (1 ∷ []) ∷ []) [] 0
    ∷ runs 1 (at 5 (2 ∷ []) ∷ []) [] 0
    ∷ runs 2 [] [] 0
    ∷ runs 2 [] [] 0
    ∷ runs 2 [] [] 0
    ∷ runs 0 (at 5 (2 ∷ []) ∷ []) [] 0
    ∷ []
crowd_views = refl

crowd_text : text (named (codes "T1" ∷ codes "T2" ∷ codes "T3" ∷ [])) (does ((says (codes "pe") 0 ∷ Finishes ∷ []) ++ gives ++ (says (codes "got") 4 ∷ Finishes ∷ Finishes ∷ [])) crowded) ≡ codes "0 T2 pe 0\n0 T1 got 4\nended at 0\n"
unfolding digits
crowd_text = refl

-- A ceiling violation: a caller above the ceiling is refused, one at the ceiling is not

abbrev pub ceilings : Partition
ceilings = program 3 1 (12 ∷ 10 ∷ []) (10 ∷ [])

ceiling_violated : call_refusal (does (Finishes ∷ []) (begin ceilings [])) 0 0 ≡ Some AboveCeiling
ceiling_violated = refl

ceiling_met : call_refusal (does (Finishes ∷ Finishes ∷ []) (begin ceilings [])) 1 0 ≡ None
ceiling_met = refl

ceilings_text : text (named (codes "HI" ∷ codes "EQ" ∷ [])) (does (Finishes ∷ says (codes "pe") 1 ∷ Finishes ∷ Opens 0 ∷ Ends true ∷ Opens 0 ∷ Ends false ∷ says (codes "got") 5 ∷ Finishes ∷ []) (begin ceilings [])) ≡ codes "0 HI pe 1\n0 EQ got 5\nended at 0\n"
unfolding digits
ceilings_text = refl

-- A task that is preempted inside an outer action goes to the head of its list, before a task that became ready earlier

abbrev pub nested : Partition
nested = program 4 3 (5 ∷ 15 ∷ 10 ∷ []) (10 ∷ 15 ∷ 10 ∷ [])

abbrev pub outer_action : List Effect
outer_action = Queues 1 ∷ Finishes ∷ Queues 0 ∷ Opens 2 ∷ []

nested_views : views (outer_action ++ (Opens 0 ∷ Ends true ∷ Ends false ∷ Opens 1 ∷ Ends true ∷ Ends false ∷ Finishes ∷ Ends false ∷ [])) (begin nested [])
    ≡ runs 3 (at 5 (0 ∷ []) ∷ at 10 (2 ∷ []) ∷ []) [] 0
    ∷ runs 2 (at 5 (0 ∷ []) ∷ []) [] 0
    ∷ runs 0 [] [] 0
    ∷ runs 0 [] [] 0
    ∷ runs 0 [] [] 0
    ∷ runs 0 [] [] 0
    ∷ runs 0 (at 10 (2 ∷ []) ∷ []) [] 0
    ∷ runs 0 (at 10 (2 ∷ []) ∷ []) [] 0
    ∷ runs 0 (at 10 (2 ∷ []) ∷ []) [] 0
    ∷ runs 1 (at 10 (0 ∷ 2 ∷ []) ∷ []) [] 0
    ∷ runs 0 (at 10 (2 ∷ []) ∷ []) [] 0
    ∷ runs 2 (at 5 (0 ∷ []) ∷ []) [] 0
    ∷ []
nested_views = refl

nested_text : text (named (codes "T1" ∷ codes "T3" ∷ codes "T4" ∷ []))
    (does (outer_action ++ (Opens 0 ∷ Ends true ∷ Ends false ∷ Opens 1 ∷ Ends true ∷ Ends false ∷ says (codes "t3") 3 ∷ Finishes ∷ says (codes "mid") 1 ∷ Ends false ∷ Opens 2 ∷ says (codes "touch") 2 ∷ Ends false ∷ Finishes ∷ says (codes "done") 4 ∷ Finishes ∷ [])) (begin nested []))
    ≡ codes "0 T3 t3 3\n0 T1 mid 1\n0 T4 touch 2\n0 T1 done 4\nended at 0\n"
unfolding digits
nested_text = refl

-- within the outer action the same object is refused before its ceiling, and an object below the active priority by its ceiling
nested_same_object : call_refusal (does (outer_action ++ (Opens 1 ∷ [])) (begin nested [])) 0 2 ≡ Some SameObject
nested_same_object = refl

nested_above_ceiling : call_refusal (does (outer_action ++ (Opens 1 ∷ [])) (begin nested [])) 0 0 ≡ Some AboveCeiling
nested_above_ceiling = refl

-- An entry body that raises: the caller goes on, with the exception, and the action of the server closes

entry_raises_text : text (named (codes "C" ∷ codes "D" ∷ [])) (does ((Finishes ∷ Queues 0 ∷ []) ++ gives ++ (says (codes "bad") 1 ∷ Finishes ∷ says (codes "on") 2 ∷ Finishes ∷ [])) (begin mailbox [])) ≡ codes "0 C bad 1\n0 D on 2\nended at 0\n"
unfolding digits
entry_raises_text = refl

-- A procedure that is left by an exception serves the queued call all the same

abbrev pub raising_opener : List Effect
raising_opener = Finishes ∷ Queues 0 ∷ Opens 0 ∷ Ends true ∷ says (codes "body") 1 ∷ Ends false ∷ says (codes "c") 2 ∷ Finishes ∷ []

opener_raises_text : text (named (codes "C" ∷ codes "D" ∷ [])) (does (raising_opener ++ (says (codes "bad") 3 ∷ Finishes ∷ [])) (begin mailbox [])) ≡ codes "0 D body 1\n0 C c 2\n0 D bad 3\nended at 0\n"
unfolding digits
opener_raises_text = refl

-- A delay inside an action is refused, the procedure is left by the exception, and the queued call is served

delay_refused : is_inside_any (does (Finishes ∷ Queues 0 ∷ Opens 0 ∷ []) (begin mailbox [])) 1 ≡ true
delay_refused = refl

delay_raises_text : text (named (codes "C" ∷ codes "D" ∷ [])) (does (raising_opener ++ (says (codes "pe") 3 ∷ Finishes ∷ [])) (begin mailbox [])) ≡ codes "0 D body 1\n0 C c 2\n0 D pe 3\nended at 0\n"
unfolding digits
delay_raises_text = refl

-- A call that nobody serves: nobody runs, is ready or sleeps, and the run waits forever

abbrev pub lonely : Partition
lonely = program 2 1 (10 ∷ []) (10 ∷ [])

lonely_views : views (Finishes ∷ Queues 0 ∷ []) (begin lonely []) ≡ runs 0 [] [] 0 ∷ nobody 0 ∷ []
lonely_views = refl

lonely_text : text (named (codes "C" ∷ [])) (does (Finishes ∷ Queues 0 ∷ []) (begin lonely [])) ≡ codes "waits forever at 0\n"
unfolding digits
lonely_text = refl

-- The other last lines: cut at the bound, an unhandled exception, an image fault; and a negative value

bound_text : text (named (codes "SPIN" ∷ [])) (does (Finishes ∷ says (codes "go") 1 ∷ Quiet ∷ Quiet ∷ []) (begin lonely [])) ≡ codes "0 SPIN go 1\nstep limit at 0\n"
unfolding digits
bound_text = refl

unhandled_text : text (named (codes "C" ∷ [])) (does (Says (codes "m") (negsuc 9) ∷ Dies 1 ∷ []) (begin lonely [])) ≡ codes "0 MAIN m -10\nunhandled BAD in MAIN at 0\n"
unfolding digits
unhandled_text = refl

fault_text : text (named (codes "C" ∷ [])) (does (Finishes ∷ Delays (pos 25) ∷ Breaks ∷ []) (begin lonely [])) ≡ codes "image fault at 25\n"
unfolding digits
fault_text = refl
