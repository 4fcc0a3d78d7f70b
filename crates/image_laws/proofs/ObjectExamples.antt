-- Runs of images with protected objects worked by computation: service, refusals, preemption inside an action.
use Rattle.std.proofs.Common.{◌≡◌, ℕ, ◌+◌, List, [], ◌∷◌, ◌++◌, pos, Some, None, true, refl}
use Rattle.std.specs.Prelude.{codes}
use Rattle.std.specs.Fmt.{digits}
use Rattle.handlers.specs.declared.rows.Row.{Row}
use Rattle.image.specs.Code.{code, code_text}
use Rattle.base.specs.Names.{predefined}
use Rattle.image.specs.ObjectTable.{ObjectRow}
use Rattle.image.specs.Sections.{Sections}
use Rattle.image.specs.declared.instruction.Instr.{Instr}
use Rattle.image.specs.declared.instruction.Operation.TheVariants as op
use Rattle.image.specs.declared.objects.Barrier.TheVariants as barriers
use Rattle.image.specs.declared.subprograms.Kind.TheVariants.{ProtectedProcedure, ProtectedFunction, EntryBody}
use Rattle.image.specs.declared.subprograms.Subprogram.{Subprogram}
use Rattle.image.specs.declared.tasks.Task.{Task}
use Rattle.image_laws.proofs.Examples.{at, body, keeps, main_is, row, say, sub, task}

abbrev object_image : List (List ℕ) → List ObjectRow → List Subprogram → List Task → List Row → List Instr → Sections
object_image labels objects subprograms tasks rows instructions =
    record { exceptions = predefined ++ codes "BAD" ∷ []; labels = labels; plain_words = []; objects = objects; subprograms = subprograms; tasks = tasks; rows = rows; attachments = []; instructions = instructions }

-- A box: Give (X) puts a value and opens the barrier, Take (X) takes it and closes it; words 0 and 1 are the value and the barrier

abbrev box : ℕ → ℕ → ObjectRow
box ceiling entry = record { ceiling = ceiling; entry = Some entry; barrier = barriers.Word 1; words = pos 0 ∷ pos 0 ∷ [] }

-- 11 instructions
abbrev box_code : List Instr
box_code =
    at 0 (op.LoadLocal 0) ∷ at 1 (op.StoreObject 0) ∷ at 0 (op.Push (pos 1)) ∷ at 1 (op.StoreObject 1) ∷ at 0 op.Return
    ∷ at 0 (op.LoadObject 0) ∷ at 1 (op.StoreLocal 0) ∷ at 0 (op.Push (pos 0)) ∷ at 1 (op.StoreObject 1) ∷ at 0 (op.LoadLocal 0) ∷ at 1 op.Return ∷ []

-- those of a box that is object o, from a place on
abbrev box_subs : ℕ → ℕ → List Subprogram
box_subs o start = sub (ProtectedProcedure o) (start + 5) 1 0 1 1 ∷ sub (EntryBody o) (start + 11) 0 1 1 1 ∷ []

abbrev give : ℕ → ℕ → List Instr
give value n = at 0 (op.Push (pos value)) ∷ at 1 (op.ProtectedCall n) ∷ []

abbrev take_and_say : ℕ → ℕ → List Instr
take_and_say o label = at 0 op.CheckBlocking ∷ at 0 (op.EntryCall o) ∷ at 1 (op.PutLine label) ∷ []

abbrev return_ : List Instr
return_ = at 0 op.Return ∷ []

-- a handler that writes a line and returns, 4 instructions
abbrev handler : ℕ → ℕ → List Instr
handler value label = at 1 op.Drop ∷ say value label ++ return_

-- A queued call is served by the task that opens the barrier; its caller preempts that task
abbrev consumer : Sections
consumer =
    object_image (codes "got" ∷ codes "gave" ∷ []) (box 10 1 ∷ []) (box_subs 0 0 ++ body 18 0 1 ∷ body 27 0 1 ∷ body 28 0 0 ∷ [])
    (task (codes "CONS") 10 2 ∷ task (codes "PROD") 5 3 ∷ main_is 4) []
    (box_code ++ take_and_say 0 0 ++ take_and_say 0 0 ++ return_ ++ give 7 0 ++ say 7 1 ++ give 8 0 ++ say 8 1 ++ return_ ++ return_)

consumer_keeps : keeps consumer ≡ true
consumer_keeps = refl

consumer_text : code_text consumer [] 100 ≡ codes "0 CONS got 7\n0 PROD gave 7\n0 CONS got 8\n0 PROD gave 8\nended at 0\n"
unfolding digits
consumer_text = refl

-- The second call that would queue raises Program_Error
abbrev crowd : Sections
crowd =
    object_image (codes "got" ∷ codes "pe" ∷ []) (box 10 1 ∷ []) (box_subs 0 0 ++ body 19 0 1 ∷ body 22 0 1 ∷ body 23 0 0 ∷ [])
    (task (codes "T1") 9 2 ∷ task (codes "T2") 9 2 ∷ task (codes "T3") 5 3 ∷ main_is 4) (row 11 14 2 15 ∷ [])
    (box_code ++ take_and_say 0 0 ++ return_ ++ handler 0 1 ++ give 4 0 ++ return_ ++ return_)

crowd_keeps : keeps crowd ≡ true
crowd_keeps = refl

crowd_text : code_text crowd [] 100 ≡ codes "0 T2 pe 0\n0 T1 got 4\nended at 0\n"
unfolding digits
crowd_text = refl

-- A call from above the ceiling raises Program_Error, one at the ceiling does not
abbrev ceilings : Sections
ceilings =
    object_image (codes "pe" ∷ codes "got" ∷ []) (box 10 1 ∷ []) (box_subs 0 0 ++ body 18 0 1 ∷ body 24 0 1 ∷ body 25 0 0 ∷ [])
    (task (codes "HI") 12 2 ∷ task (codes "EQ") 10 3 ∷ main_is 4) (row 11 13 2 14 ∷ [])
    (box_code ++ give 3 0 ++ return_ ++ handler 1 0 ++ give 5 0 ++ take_and_say 0 1 ++ return_ ++ return_)

ceilings_keeps : keeps ceilings ≡ true
ceilings_keeps = refl

ceilings_text : code_text ceilings [] 100 ≡ codes "0 HI pe 1\n0 EQ got 5\nended at 0\n"
unfolding digits
ceilings_text = refl

-- A task that is preempted inside an action runs on before one that became ready earlier:
-- P.Go serves the calls at Q and R; T3 preempts at the end of the action of R, T4 has to wait for the end of Go
abbrev inside : Sections
inside =
    object_image (codes "mid" ∷ codes "touch" ∷ codes "done" ∷ codes "t3" ∷ [])
    (box 10 1 ∷ box 15 3 ∷ record { ceiling = 10; entry = None; barrier = barriers.Closed; words = [] } ∷ [])
    (box_subs 0 0 ++ box_subs 1 11 ++ sub (ProtectedProcedure 2) 29 0 0 0 1 ∷ sub (ProtectedProcedure 2) 32 0 0 0 1 ∷ body 36 0 1 ∷ body 41 0 1 ∷ body 45 0 1 ∷ body 46 0 0 ∷ [])
    (task (codes "T1") 5 6 ∷ task (codes "T3") 15 7 ∷ task (codes "T4") 10 8 ∷ main_is 9) []
    (box_code ++ box_code
    ++ give 1 0 ++ give 1 2 ++ say 1 0 ++ return_
    ++ say 2 1 ++ return_
    ++ at 0 (op.ProtectedCall 4) ∷ say 4 2 ++ return_
    ++ at 0 (op.EntryCall 1) ∷ at 1 op.Drop ∷ say 3 3 ++ return_
    ++ at 0 (op.EntryCall 0) ∷ at 1 op.Drop ∷ at 0 (op.ProtectedCall 5) ∷ return_
    ++ return_)

inside_keeps : keeps inside ≡ true
inside_keeps = refl

inside_text : code_text inside [] 100 ≡ codes "0 T3 t3 3\n0 T1 mid 1\n0 T4 touch 2\n0 T1 done 4\nended at 0\n"
unfolding digits
inside_text = refl

-- Doors: Open sets word 0, the barrier

abbrev door : List ObjectRow
door = record { ceiling = 10; entry = Some 1; barrier = barriers.Word 0; words = pos 0 ∷ [] } ∷ []

abbrev set : ℕ → List Instr
set value = at 0 (op.Push (pos value)) ∷ at 1 (op.StoreObject 0) ∷ []

abbrev raise : ℕ → List Instr
raise x = at 0 (op.Push (pos x)) ∷ at 1 op.Raise ∷ []

-- an entry body that raises: its caller has the exception, the task that ran it goes on
abbrev entry_raises : Sections
entry_raises =
    object_image (codes "bad" ∷ codes "on" ∷ []) door (sub (ProtectedProcedure 0) 3 0 0 0 1 ∷ sub (EntryBody 0) 7 0 0 0 1 ∷ body 13 0 1 ∷ body 17 0 1 ∷ body 18 0 0 ∷ [])
    (task (codes "C") 10 2 ∷ task (codes "D") 5 3 ∷ main_is 4) (row 7 8 5 9 ∷ [])
    (set 1 ++ return_ ++ set 0 ++ raise 5
    ++ at 0 (op.EntryCall 0) ∷ return_ ++ handler 1 0
    ++ at 0 (op.ProtectedCall 0) ∷ say 2 1 ++ return_ ++ return_)

entry_raises_keeps : keeps entry_raises ≡ true
entry_raises_keeps = refl

entry_raises_text : code_text entry_raises [] 100 ≡ codes "0 C bad 1\n0 D on 2\nended at 0\n"
unfolding digits
entry_raises_text = refl

-- a procedure that is left by an exception serves the queued call all the same, and its own exception goes on after that
abbrev opener_raises : Sections
opener_raises =
    object_image (codes "body" ∷ codes "c" ∷ codes "bad" ∷ []) door (sub (ProtectedProcedure 0) 4 0 0 0 1 ∷ sub (EntryBody 0) 9 0 0 0 1 ∷ body 13 0 1 ∷ body 19 0 1 ∷ body 20 0 0 ∷ [])
    (task (codes "C") 10 2 ∷ task (codes "D") 5 3 ∷ main_is 4) (row 13 14 5 15 ∷ [])
    (set 1 ++ raise 5 ++ set 0 ++ say 1 0 ++ return_
    ++ at 0 (op.EntryCall 0) ∷ say 2 1 ++ return_
    ++ at 0 (op.ProtectedCall 0) ∷ return_ ++ handler 3 2 ++ return_)

opener_raises_keeps : keeps opener_raises ≡ true
opener_raises_keeps = refl

opener_raises_text : code_text opener_raises [] 100 ≡ codes "0 D body 1\n0 C c 2\n0 D bad 3\nended at 0\n"
unfolding digits
opener_raises_text = refl

-- a delay inside the action, in a procedure that the protected one calls, raises Program_Error though it is due
abbrev nap_raises : Sections
nap_raises =
    object_image (codes "body" ∷ codes "c" ∷ codes "pe" ∷ []) door
    (sub (ProtectedProcedure 0) 4 0 0 0 1 ∷ sub (EntryBody 0) 9 0 0 0 1 ∷ sub (ProtectedProcedure 0) 13 0 0 0 1 ∷ body 17 0 1 ∷ body 23 0 1 ∷ body 24 0 0 ∷ [])
    (task (codes "C") 10 3 ∷ task (codes "D") 5 4 ∷ main_is 5) (row 17 18 2 19 ∷ [])
    (set 1 ++ at 0 (op.Call 2) ∷ return_ ++ set 0 ++ say 1 0 ++ return_
    ++ at 0 op.CheckBlocking ∷ at 0 op.Clock ∷ at 1 op.DelayUntil ∷ return_
    ++ at 0 (op.EntryCall 0) ∷ say 2 1 ++ return_
    ++ at 0 (op.ProtectedCall 0) ∷ return_ ++ handler 3 2 ++ return_)

nap_raises_keeps : keeps nap_raises ≡ true
nap_raises_keeps = refl

nap_raises_text : code_text nap_raises [] 100 ≡ codes "0 D body 1\n0 C c 2\n0 D pe 3\nended at 0\n"
unfolding digits
nap_raises_text = refl

-- an external call of the same object from inside raises Program_Error; a function's action closes without service
abbrev again : Sections
again =
    object_image (codes "f" ∷ codes "pe" ∷ []) (record { ceiling = 20; entry = None; barrier = barriers.Closed; words = pos 6 ∷ [] } ∷ [])
    (sub (ProtectedProcedure 0) 3 0 0 0 1 ∷ sub (ProtectedFunction 0) 5 0 1 0 1 ∷ body 13 0 1 ∷ []) (task (codes "MAIN") 15 2 ∷ []) (row 7 8 2 9 ∷ [])
    (at 0 (op.ProtectedCall 1) ∷ at 1 (op.PutLine 0) ∷ return_
    ++ at 0 (op.LoadObject 0) ∷ at 1 op.Return
    ∷ at 0 (op.ProtectedCall 1) ∷ at 1 (op.PutLine 0) ∷ at 0 (op.ProtectedCall 0) ∷ return_ ++ handler 0 1)

again_keeps : keeps again ≡ true
again_keeps = refl

again_text : code_text again [] 100 ≡ codes "0 MAIN f 6\n0 MAIN pe 0\nended at 0\n"
unfolding digits
again_text = refl

-- a call that nobody serves
abbrev lonely : Sections
lonely =
    object_image (codes "got" ∷ []) (box 10 1 ∷ []) (box_subs 0 0 ++ body 15 0 1 ∷ body 16 0 0 ∷ []) (task (codes "C") 10 2 ∷ main_is 3) []
    (box_code ++ take_and_say 0 0 ++ return_ ++ return_)

lonely_text : code_text lonely [] 100 ≡ codes "waits forever at 0\n"
unfolding digits
lonely_text = refl

-- the queued call keeps its parameters; those of a served one leave its operand stack and are the first locals of the body:
-- Sum (X, Y) of an entry with two parameters, the second on top
abbrev sums : Sections
sums =
    object_image (codes "sum" ∷ []) door (sub (ProtectedProcedure 0) 3 0 0 0 1 ∷ sub (EntryBody 0) 9 2 1 2 2 ∷ body 14 0 2 ∷ body 16 0 1 ∷ body 17 0 0 ∷ [])
    (task (codes "C") 10 2 ∷ task (codes "D") 5 3 ∷ main_is 4) []
    (set 1 ++ return_
    ++ set 0 ++ at 0 (op.LoadLocal 0) ∷ at 1 (op.LoadLocal 1) ∷ at 2 op.Subtract ∷ at 1 op.Return
    ∷ at 0 (op.Push (pos 9)) ∷ at 1 (op.Push (pos 4)) ∷ at 2 (op.EntryCall 0) ∷ at 1 (op.PutLine 0) ∷ return_
    ++ at 0 (op.ProtectedCall 0) ∷ return_ ++ return_)

sums_keeps : keeps sums ≡ true
sums_keeps = refl

queued_keeps_parameters : ((code sums [] 4).rest.tasks 0).frame.stack ≡ pos 4 ∷ pos 9 ∷ []
queued_keeps_parameters = refl

served_loses_parameters : ((code sums [] 8).rest.tasks 0).frame.stack ≡ []
served_loses_parameters = refl

server_takes_parameters : ((code sums [] 8).rest.tasks 1).frame.locals ≡ pos 9 ∷ pos 4 ∷ []
server_takes_parameters = refl

sums_text : code_text sums [] 100 ≡ codes "0 C sum 5\nended at 0\n"
unfolding digits
sums_text = refl
