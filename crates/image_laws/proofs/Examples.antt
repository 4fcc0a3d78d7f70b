-- Runs of images worked by computation: the text that each writes. All of them are well-formed (see `keeps`).
use Rattle.std.proofs.Common.{◌≡◌, ℕ, ◌-◌, ◌^◌, List, [], ◌∷◌, ◌++◌, ℤ, pos, negsuc, Bool, Some, None, true, ◌&&◌, refl}
use Rattle.std.specs.Prelude.{codes}
use Rattle.std.specs.Fmt.{digits}
use Rattle.handlers.specs.Innermost.{handler_of}
use Rattle.handlers.specs.declared.rows.Row.{Row}
use Rattle.image.specs.Code.{code_text}
use Rattle.base.specs.Names.{predefined}
use Rattle.image.specs.Rules.{operands_in_range, jumps_stay_inside, named_things_exist, depths_agree, tables_agree}
use Rattle.image.specs.Sections.{Sections}
use Rattle.image.specs.Texts.{names_of}
use Rattle.image.specs.declared.instruction.Instr.{Instr}
use Rattle.image.specs.declared.instruction.Operation.{Operation}
use Rattle.image.specs.declared.instruction.Operation.TheVariants as op
use Rattle.image.specs.declared.instruction.Region.TheVariants as regions
use Rattle.image.specs.declared.subprograms.Kind.{Kind}
use Rattle.image.specs.declared.subprograms.Kind.TheVariants.{Plain, TaskBody}
use Rattle.image.specs.declared.subprograms.Subprogram.{Subprogram}
use Rattle.image.specs.declared.tasks.Task.{Task}

abbrev pub at : ℕ → Operation → Instr
at depth operation = record { depth = depth; operation = operation }

abbrev pub sub : Kind → ℕ → ℕ → ℕ → ℕ → ℕ → Subprogram
sub kind end_ parameters results locals stack = record { kind = kind; end_ = end_; parameters = parameters; results = results; locals = locals; stack = stack }

abbrev pub body : ℕ → ℕ → ℕ → Subprogram
body end_ locals stack = sub TaskBody end_ 0 0 locals stack

abbrev pub task : List ℕ → ℕ → ℕ → Task
task name priority n = record { name = name; priority = priority; subprogram = n }

abbrev pub main_is : ℕ → List Task
main_is n = task (codes "MAIN") 15 n ∷ []

abbrev pub row : ℕ → ℕ → ℕ → ℕ → Row
row start end_ exception target = record { start = start; end_ = end_; exception = exception; target = target }

-- labels, subprograms, tasks, rows and instructions of an image without objects
abbrev pub plain_image : List (List ℕ) → List Subprogram → List Task → List Row → List Instr → Sections
plain_image labels subprograms tasks rows instructions =
    record { exceptions = predefined; labels = labels; plain_words = []; objects = []; subprograms = subprograms; tasks = tasks; rows = rows; attachments = []; instructions = instructions }

abbrev pub keeps : Sections → Bool
keeps i = operands_in_range i && (jumps_stay_inside i && (named_things_exist i && (depths_agree i && tables_agree i)))

abbrev pub say : ℕ → ℕ → List Instr
say value label = at 0 (op.Push (pos value)) ∷ at 1 (op.PutLine label) ∷ []

-- One line of 1000

abbrev pub thousand : Sections
thousand = plain_image (codes "x" ∷ []) (body 3 0 1 ∷ []) (main_is 0) [] (say 1000 0 ++ at 0 op.Return ∷ [])

thousand_keeps : keeps thousand ≡ true
thousand_keeps = refl

thousand_cut : code_text thousand [] 2 ≡ codes "0 MAIN x 1000\nstep limit at 0\n"
unfolding digits
thousand_cut = refl

thousand_whole : code_text thousand [] 3 ≡ codes "0 MAIN x 1000\nended at 0\n"
unfolding digits
thousand_whole = refl

-- a world with an outcome does not change
thousand_stays : code_text thousand [] 7 ≡ codes "0 MAIN x 1000\nended at 0\n"
unfolding digits
thousand_stays = refl

-- exceptions are named from 1 on: 0 is none, and so is a number past the last
none_is_unnamed : (names_of thousand).exception 0 ≡ []
none_is_unnamed = refl

first_is_named : (names_of thousand).exception 1 ≡ codes "CONSTRAINT_ERROR"
first_is_named = refl

fifth_is_unnamed : (names_of thousand).exception 5 ≡ []
fifth_is_unnamed = refl

-- Arithmetic at its edges: 7 mod -3 is -2; the first value mod -1 is 0, and divided by -1 raises

abbrev first : ℤ
first = negsuc (2 ^ 63 - 1)

abbrev edges : Sections
edges =
    plain_image (codes "d" ∷ codes "m" ∷ codes "q" ∷ []) (body 13 0 2 ∷ []) (main_is 0) []
    (at 0 (op.Push (pos 7)) ∷ at 1 (op.Push (negsuc 2)) ∷ at 2 op.Modulo ∷ at 1 (op.PutLine 0)
    ∷ at 0 (op.Push first) ∷ at 1 (op.Push (negsuc 0)) ∷ at 2 op.Modulo ∷ at 1 (op.PutLine 1)
    ∷ at 0 (op.Push first) ∷ at 1 (op.Push (negsuc 0)) ∷ at 2 op.Divide ∷ at 1 (op.PutLine 2) ∷ at 0 op.Return ∷ [])

edges_keeps : keeps edges ≡ true
edges_keeps = refl

edges_text : code_text edges [] 100 ≡ codes "0 MAIN d -2\n0 MAIN m 0\nunhandled CONSTRAINT_ERROR in MAIN at 0\n"
unfolding digits
edges_text = refl

-- Words: bit by bit, comparison, a block read in order, an index at the end and past it

abbrev blocks : Sections
blocks = record {
  exceptions = predefined;
  labels = codes "a" ∷ codes "b" ∷ codes "c" ∷ codes "n" ∷ [];
  plain_words = pos 10 ∷ pos 20 ∷ pos 30 ∷ [];
  objects = [];
  subprograms = body 25 0 3 ∷ [];
  tasks = main_is 0;
  rows = [];
  attachments = [];
  instructions =
      -- words 0 and 1 are put at 1 and 2, both read before
      at 0 (op.Push (pos 1)) ∷ at 1 (op.Push (pos 0)) ∷ at 2 (op.Copy regions.Plain regions.Plain 2)
      -- words 1 and 2 in order: the second is on top
      ∷ at 0 (op.Push (pos 1)) ∷ at 1 (op.LoadBlock regions.Plain 2) ∷ at 2 (op.PutLine 0) ∷ at 1 (op.PutLine 1)
      -- 5 and 6 are stored at 0 and 1
      ∷ at 0 (op.Push (pos 0)) ∷ at 1 (op.Push (pos 5)) ∷ at 2 (op.Push (pos 6)) ∷ at 3 (op.StoreBlock regions.Plain 2)
      ∷ at 0 (op.LoadPlain 1) ∷ at 1 (op.PutLine 2)
      -- -1 xor 5 is -6
      ∷ at 0 (op.Push (negsuc 0)) ∷ at 1 (op.Push (pos 5)) ∷ at 2 op.ExclusiveOr ∷ at 1 (op.PutLine 3)
      ∷ at 0 (op.Push (pos 2)) ∷ at 1 (op.LoadIndexed regions.Plain) ∷ at 1 (op.PutLine 0)
      ∷ at 0 (op.Push (pos 2)) ∷ at 1 (op.LoadBlock regions.Plain 2) ∷ at 2 op.Drop ∷ at 1 op.Drop ∷ at 0 op.Return ∷ [];
}

blocks_keeps : keeps blocks ≡ true
blocks_keeps = refl

blocks_text : code_text blocks [] 100 ≡ codes "0 MAIN a 20\n0 MAIN b 10\n0 MAIN c 6\n0 MAIN n -6\n0 MAIN a 20\nimage fault at 0\n"
unfolding digits
blocks_text = refl

-- an index is exact: the last value and a length of 2 do not wrap
abbrev far : Sections
far = plain_image [] (body 5 1 1 ∷ []) (main_is 0) [] (at 0 (op.Push (pos (2 ^ 63 - 1))) ∷ at 1 (op.LoadBlock regions.Locals 1) ∷ at 1 op.Drop ∷ at 0 op.Return ∷ at 0 op.Return ∷ [])

far_keeps : keeps far ≡ true
far_keeps = refl

far_text : code_text far [] 100 ≡ codes "image fault at 0\n"
unfolding digits
far_text = refl

-- an exception without a number
abbrev no_exception : Sections
no_exception = plain_image [] (body 2 0 1 ∷ []) (main_is 0) [] (at 0 (op.Push (pos 5)) ∷ at 1 op.Raise ∷ [])

no_exception_text : code_text no_exception [] 100 ≡ codes "image fault at 0\n"
unfolding digits
no_exception_text = refl

-- Handlers: the innermost row that covers the place and handles the exception; its ends are exact; of equal regions the first

abbrev nested : List Row
nested = row 2 4 1 20 ∷ row 2 6 2 21 ∷ row 2 6 0 22 ∷ row 0 8 0 23 ∷ []

inner_start : handler_of nested 2 1 ≡ Some 20
inner_start = refl

inner_last : handler_of nested 3 1 ≡ Some 20
inner_last = refl

past_inner : handler_of nested 4 1 ≡ Some 22
past_inner = refl

other_exception : handler_of nested 3 2 ≡ Some 21
other_exception = refl

equal_regions : handler_of nested 5 2 ≡ Some 21
equal_regions = refl

before_middle : handler_of nested 1 2 ≡ Some 23
before_middle = refl

past_all : handler_of nested 8 2 ≡ None
past_all = refl

-- an exception goes from the call's frame to a row that covers the call; one raised there again is not the row's own
abbrev handlers : Sections
handlers =
    plain_image (codes "h" ∷ codes "o" ∷ []) (sub Plain 2 0 0 0 1 ∷ body 14 0 1 ∷ []) (main_is 1) (row 2 3 3 4 ∷ row 2 8 0 9 ∷ [])
    -- a procedure that raises Storage_Error
    (at 0 (op.Push (pos 3)) ∷ at 1 op.Raise
    -- main: the call, its handler that raises again, and the one around
    ∷ at 0 (op.Call 0) ∷ at 0 op.Return
    ∷ at 1 (op.PutLine 0) ∷ at 0 (op.Push (pos 2)) ∷ at 1 op.Raise ∷ at 0 op.Return ∷ at 0 op.Return
    ∷ at 1 (op.PutLine 1) ∷ at 0 (op.Push (pos 4)) ∷ at 1 op.Raise ∷ at 0 op.Return ∷ at 0 op.Return ∷ [])

handlers_keeps : keeps handlers ≡ true
handlers_keeps = refl

handlers_text : code_text handlers [] 100 ≡ codes "0 MAIN h 3\n0 MAIN o 2\nunhandled TASKING_ERROR in MAIN at 0\n"
unfolding digits
handlers_text = refl

-- Two tasks of one priority take turns by delays that are due

abbrev turn : ℕ → List Instr
turn n = say n 0 ++ at 0 op.CheckBlocking ∷ at 0 op.Clock ∷ at 1 op.DelayUntil ∷ []

abbrev three_turns : List Instr
three_turns = turn 1 ++ turn 2 ++ turn 3 ++ at 0 op.Return ∷ []

abbrev turns : Sections
turns =
    plain_image (codes "n" ∷ []) (body 16 0 1 ∷ body 17 0 0 ∷ []) (task (codes "A") 5 0 ∷ task (codes "B") 5 0 ∷ main_is 1) []
    (three_turns ++ at 0 op.Return ∷ [])

turns_keeps : keeps turns ≡ true
turns_keeps = refl

turns_text : code_text turns [] 100 ≡ codes "0 A n 1\n0 B n 1\n0 A n 2\n0 B n 2\n0 A n 3\n0 B n 3\nended at 0\n"
unfolding digits
turns_text = refl

-- Time and input: a schedule's line is heard from its time on

abbrev reads_on : ℕ → List Instr
reads_on wait = at 0 (op.Push (pos 1)) ∷ at 1 op.ReadInput ∷ at 1 (op.PutLine 0) ∷ at 0 op.Clock ∷ at 1 (op.Push (pos wait)) ∷ at 2 op.Add ∷ at 1 op.DelayUntil ∷ []

abbrev reader : Sections
reader =
    plain_image (codes "r" ∷ []) (body 18 0 2 ∷ body 19 0 0 ∷ []) (task (codes "R") 5 0 ∷ main_is 1) []
    (reads_on 500 ++ reads_on 1 ++ at 0 (op.Push (pos 1)) ∷ at 1 op.ReadInput ∷ at 1 (op.PutLine 0) ∷ at 0 op.Return ∷ at 0 op.Return ∷ [])

reader_keeps : keeps reader ≡ true
reader_keeps = refl

reader_text : code_text reader (record { time = pos 500; channel = 1; value = pos 7 } ∷ []) 100 ≡ codes "0 R r 0\n500 R r 7\n501 R r 7\nended at 501\n"
unfolding digits
reader_text = refl

-- The 129th frame: F (125) takes frames 3 to 128, F (126) one more

abbrev deep : Sections
deep =
    plain_image (codes "f" ∷ codes "g" ∷ codes "se" ∷ []) (sub Plain 11 1 1 1 3 ∷ sub Plain 22 0 0 0 1 ∷ body 24 0 0 ∷ []) (main_is 2) (row 11 18 3 18 ∷ [])
    (at 0 (op.LoadLocal 0) ∷ at 1 (op.JumpIfNotZero 4) ∷ at 0 (op.Push (pos 0)) ∷ at 1 op.Return
    ∷ at 0 (op.Push (pos 1)) ∷ at 1 (op.LoadLocal 0) ∷ at 2 (op.Push (pos 1)) ∷ at 3 op.Subtract ∷ at 2 (op.Call 0) ∷ at 2 op.Add ∷ at 1 op.Return
    ∷ at 0 (op.Push (pos 125)) ∷ at 1 (op.Call 0) ∷ at 1 (op.PutLine 0) ∷ at 0 (op.Push (pos 126)) ∷ at 1 (op.Call 0) ∷ at 1 (op.PutLine 1) ∷ at 0 op.Return
    ∷ at 1 op.Drop ∷ at 0 (op.Push (pos 0)) ∷ at 1 (op.PutLine 2) ∷ at 0 op.Return
    ∷ at 0 (op.Call 1) ∷ at 0 op.Return ∷ [])

deep_keeps : keeps deep ≡ true
deep_keeps = refl

deep_text : code_text deep [] 4000 ≡ codes "0 MAIN f 125\n0 MAIN se 0\nended at 0\n"
unfolding digits
deep_text = refl

-- a loop that runs up to the bound, and no step at all
abbrev spin : Sections
spin = plain_image (codes "go" ∷ []) (body 3 0 1 ∷ body 4 0 0 ∷ []) (task (codes "SPIN") 5 0 ∷ main_is 1) [] (say 1 0 ++ at 0 (op.Jump 2) ∷ at 0 op.Return ∷ [])

spin_text : code_text spin [] 50 ≡ codes "0 SPIN go 1\nstep limit at 0\n"
unfolding digits
spin_text = refl

spin_at_once : code_text spin [] 0 ≡ codes "step limit at 0\n"
unfolding digits
spin_at_once = refl
