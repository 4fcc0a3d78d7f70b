-- Worlds worked by computation: tasks that follow scripts, hand over parameters and are given what a served call comes to.
use Rattle.std.proofs.Common.{◌≡◌, ℕ, List, [], ◌∷◌, Option, Some, None, true, false, refl}
use Rattle.std.specs.Prelude.{codes}
use Rattle.std.specs.Fmt.{digits}
use Rattle.kernel.specs.Effects.{Effect, Quiet, Queues, Opens, Ends, Finishes, begin}
use Rattle.kernel.specs.Worlds.{World, Tasks, Solo, Act, Behaviour, among, run}
use Rattle.kernel.specs.Text.{text}
use Rattle.kernel.proofs.Examples.{named, one_of, says, mailbox}

-- what comes back from a served call
data Answer : Type 0 where
  Results : List ℕ → Answer
  Raised : ℕ → Answer

record Item : Type 0 where
  effect : Effect
  given : Option Answer

record Script : Type 0 where
  items : List Item
  -- the parameters of a call that it has queued, those of a body that it runs, and the answer to its call
  sent : List ℕ
  taken : List ℕ
  answer : Option Answer

abbrev act_of : List Item → Solo (List ℕ) Script → Act (List ℕ) Script Answer
act_of [] s = record { effect = Quiet; solo = s; given = None }
act_of (i ∷ is) s = record { effect = i.effect; solo = record { memory = s.memory; task = record s.task { items = is } }; given = i.given }

abbrev scripted : Behaviour (List ℕ) Script Answer
scripted = record {
  act = λ k t s. act_of s.task.items s;
  taken = λ o u. record u { sent = [] };
  serving = λ o n u t. record t { taken = u.sent };
  receives = λ g u. record u { answer = Some g };
}

abbrev only : Effect → Item
only e = record { effect = e; given = None }

abbrev script : List Item → List ℕ → Script
script items sent = record { items = items; sent = sent; taken = []; answer = None }

-- An entry call with the parameter 7 queues; the task that opens the barrier takes the parameter over, and the body raises exception 5, which the caller is given

abbrev caller : Script
caller = script (only (Queues 0) ∷ only (says (codes "bad") 1) ∷ only Finishes ∷ []) (7 ∷ [])

abbrev opener : Script
opener = script (only (Opens 0) ∷ only (Ends true) ∷ record { effect = Ends false; given = Some (Raised 5) } ∷ only (says (codes "on") 2) ∷ only Finishes ∷ []) []

abbrev scene : World (Tasks (List ℕ) Script)
scene = record { kernel = begin mailbox []; rest = record { memory = []; tasks = one_of (caller ∷ opener ∷ []) (script (only Finishes ∷ []) []) } }

abbrev after_steps : ℕ → World (Tasks (List ℕ) Script)
after_steps n = run (among scripted) n scene

queued_keeps_parameters : ((after_steps 3).rest.tasks 0).sent ≡ 7 ∷ []
queued_keeps_parameters = refl

served_loses_parameters : ((after_steps 4).rest.tasks 0).sent ≡ []
served_loses_parameters = refl

server_takes_parameters : ((after_steps 4).rest.tasks 1).taken ≡ 7 ∷ []
server_takes_parameters = refl

waits_for_answer : ((after_steps 4).rest.tasks 0).answer ≡ None
waits_for_answer = refl

caller_is_given : ((after_steps 5).rest.tasks 0).answer ≡ Some (Raised 5)
caller_is_given = refl

caller_runs : (after_steps 5).kernel.running ≡ Some 0
caller_runs = refl

scene_text : text (named (codes "C" ∷ codes "D" ∷ [])) (after_steps 9).kernel ≡ codes "0 C bad 1\n0 D on 2\nended at 0\n"
unfolding digits
scene_text = refl

-- a world with an outcome does not change
scene_stays : text (named (codes "C" ∷ codes "D" ∷ [])) (after_steps 12).kernel ≡ codes "0 C bad 1\n0 D on 2\nended at 0\n"
unfolding digits
scene_stays = refl
