-- A script of effects over five tasks and two objects, worked by computation: who runs, who is ready and who sleeps after each of them.
use Rattle.std.proofs.Common.{◌≡◌, List, [], ◌∷◌, ◌++◌, true, false, refl}
use Rattle.std.specs.Prelude.{pos, codes}
use Rattle.std.specs.Fmt.{digits}
use Rattle.kernel.specs.State.{Partition, inside}
use Rattle.kernel.specs.Effects.{Effect, Delays, Opens, Queues, Ends, Finishes, begin, is_full}
use Rattle.kernel.specs.Text.{text}
use Rattle.kernel.proofs.Examples.{at, does, named, nobody, program, runs, views}

-- tasks 0, 1 and 4 have priority 5, task 2 has 9, task 3 has 3; object 0 has ceiling 9, object 1 has 5
abbrev five : Partition
five = program 5 2 (5 ∷ 5 ∷ 9 ∷ 3 ∷ 5 ∷ []) (9 ∷ 5 ∷ [])

-- task 0 waits for a time that is due, and so stands behind 1 and 4
abbrev falls_asleep : List Effect
falls_asleep = Delays (pos 100) ∷ Delays (pos 0) ∷ Opens 0 ∷ Ends false ∷ Delays (pos 100) ∷ Delays (pos 100) ∷ Delays (pos 50) ∷ []

falls_asleep_views : views falls_asleep (begin five [])
    ≡ runs 0 (at 3 (3 ∷ []) ∷ at 5 (1 ∷ 4 ∷ []) ∷ []) (2 ∷ []) 0
    ∷ runs 1 (at 3 (3 ∷ []) ∷ at 5 (4 ∷ 0 ∷ []) ∷ []) (2 ∷ []) 0
    ∷ runs 1 (at 3 (3 ∷ []) ∷ at 5 (4 ∷ 0 ∷ []) ∷ []) (2 ∷ []) 0
    ∷ runs 1 (at 3 (3 ∷ []) ∷ at 5 (4 ∷ 0 ∷ []) ∷ []) (2 ∷ []) 0
    ∷ runs 4 (at 3 (3 ∷ []) ∷ at 5 (0 ∷ []) ∷ []) (2 ∷ 1 ∷ []) 0
    ∷ runs 0 (at 3 (3 ∷ []) ∷ []) (2 ∷ 1 ∷ 4 ∷ []) 0
    ∷ runs 3 [] (2 ∷ 1 ∷ 4 ∷ 0 ∷ []) 0
    ∷ []
falls_asleep_views = refl

inside_while_open : inside (does (Delays (pos 100) ∷ Delays (pos 0) ∷ Opens 0 ∷ []) (begin five [])) 0 ≡ 1 ∷ []
inside_while_open = refl

inside_no_more : inside (does (Delays (pos 100) ∷ Delays (pos 0) ∷ Opens 0 ∷ Ends false ∷ []) (begin five [])) 0 ≡ []
inside_no_more = refl

-- 2, 1 and 4 wake in the order in which they began to wait; 1 serves the call of 2, which preempts it, and it stays before 4
abbrev wakes_and_serves : List Effect
wakes_and_serves = Finishes ∷ Opens 1 ∷ Ends true ∷ Finishes ∷ Queues 0 ∷ Opens 0 ∷ Ends true ∷ Ends true ∷ Finishes ∷ Finishes ∷ Finishes ∷ []

wakes_and_serves_views : views wakes_and_serves (does falls_asleep (begin five []))
    ≡ runs 0 [] (2 ∷ 1 ∷ 4 ∷ []) 50
    ∷ runs 0 [] (2 ∷ 1 ∷ 4 ∷ []) 50
    ∷ runs 0 [] (2 ∷ 1 ∷ 4 ∷ []) 50
    ∷ runs 2 (at 5 (1 ∷ 4 ∷ []) ∷ []) [] 100
    ∷ runs 1 (at 5 (4 ∷ []) ∷ []) [] 100
    ∷ runs 1 (at 5 (4 ∷ []) ∷ []) [] 100
    ∷ runs 1 (at 5 (4 ∷ []) ∷ []) [] 100
    ∷ runs 2 (at 5 (1 ∷ 4 ∷ []) ∷ []) [] 100
    ∷ runs 1 (at 5 (4 ∷ []) ∷ []) [] 100
    ∷ runs 4 [] [] 100
    ∷ nobody 100
    ∷ []
wakes_and_serves_views = refl

full_while_one_waits : is_full (does (falls_asleep ++ Finishes ∷ Opens 1 ∷ Ends true ∷ Finishes ∷ Queues 0 ∷ []) (begin five [])) 0 ≡ true
full_while_one_waits = refl

ends_at_100 : text (named []) (does (falls_asleep ++ wakes_and_serves) (begin five [])) ≡ codes "ended at 100\n"
unfolding digits
ends_at_100 = refl
