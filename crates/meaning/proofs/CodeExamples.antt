-- Code beside source: what hand-written images of the worked programs write, and one that does nothing refused.
use Rattle.std.proofs.Common.{◌≡◌, ℕ, zero, suc, List, [], ◌∷◌, ◌++◌, None, refl, sym, ap, ◌∙◌}
use Rattle.std.specs.Prelude.{pos, codes}
use Rattle.std.specs.Fmt.{digits}
use Rattle.base.specs.declared.schedule.ScheduleLine.{ScheduleLine}
use Rattle.kernel.specs.Effects.{begin}
use Rattle.kernel.specs.State.{Ended, Interrupt}
use Rattle.kernel.specs.Worlds.{among, run}
use Rattle.kernel.specs.RunLaws.{run_over}
use Rattle.image.specs.Sections.{Sections}
use Rattle.image.specs.Steps.{behaviour}
use Rattle.image.specs.Attachments.{interrupts}
use Rattle.image.specs.Code.{CodeWorld, code, code_text, initial_state, initial_words, partition_of}
use Rattle.image.specs.declared.instruction.Instr.{Instr}
use Rattle.image.specs.declared.instruction.Operation.{Operation}
use Rattle.image.specs.declared.instruction.Operation.TheVariants as op
use Rattle.image.specs.declared.subprograms.Kind.TheVariants.{Plain, TaskBody}
use Rattle.base.specs.Names.{predefined}
use Rattle.declaration_rules.specs.TaskRules.{default_priority}
use Rattle.meaning.specs.Source.{source, source_text}
use Rattle.meaning.specs.SameMeaning.{SameMeaning}
use Rattle.meaning.specs.NullExample.{return_image}
use Rattle.ada_tree.specs.declared.program.MainStatement.TheVariants as main
use Rattle.meaning.proofs.Examples.{overflow, overflow_text, program_of, sums, sums_text}

abbrev at : ℕ → Operation → Instr
at depth operation = record { depth = depth; operation = operation }

abbrev push : ℕ → ℕ → Instr
push depth n = at depth (op.Push (pos n))

-- main calls one procedure, which ends with a return after these instructions
abbrev image_of : List (List ℕ) → ℕ → List Instr → Sections
image_of labels end instructions =
    record {
      exceptions = predefined;
      labels = labels;
      plain_words = [];
      objects = [];
      subprograms = record { kind = TaskBody; end_ = 2; parameters = 0; results = 0; locals = 0; stack = 0 } ∷ record { kind = Plain; end_ = end; parameters = 0; results = 0; locals = 0; stack = 3 } ∷ [];
      tasks = record { name = codes "MAIN"; priority = default_priority; subprogram = 0 } ∷ [];
      rows = [];
      attachments = [];
      instructions = at 0 (op.Call 1) ∷ at 0 op.Return ∷ (instructions ++ at 0 op.Return ∷ []);
    }

abbrev sums_image : Sections
sums_image =
    image_of (codes "a" ∷ codes "b" ∷ []) 14
    (push 0 2 ∷ push 1 3 ∷ push 2 4 ∷ at 3 op.Multiply ∷ at 2 op.Add ∷ at 1 (op.PutLine 0) ∷ push 0 7 ∷ push 1 10 ∷ at 2 op.Subtract ∷ at 1 op.Negate ∷ at 1 (op.PutLine 1) ∷ [])

sums_written : code_text sums_image [] 30 ≡ codes "0 MAIN a 14\n0 MAIN b 3\nended at 0\n"
unfolding digits
sums_written = refl

sums_code : code_text sums_image [] 30 ≡ source_text sums [] 20
sums_code = sums_written ∙ sym sums_text

abbrev overflow_image : Sections
overflow_image =
    image_of (codes "a" ∷ codes "b" ∷ codes "c" ∷ []) 11
    (push 0 9223372036854775807 ∷ at 1 (op.PutLine 0) ∷ push 0 9223372036854775807 ∷ push 1 1 ∷ at 2 op.Add ∷ at 1 (op.PutLine 1) ∷ push 0 2 ∷ at 1 (op.PutLine 2) ∷ [])

overflow_written : code_text overflow_image [] 30 ≡ codes "0 MAIN a 9223372036854775807\nunhandled CONSTRAINT_ERROR in MAIN at 0\n"
unfolding digits
overflow_written = refl

overflow_code : code_text overflow_image [] 30 ≡ source_text overflow [] 20
overflow_code = overflow_written ∙ sym overflow_text

-- An image that ends at once does not mean a program that writes

abbrev idle_image : Sections
idle_image = return_image (codes "MAIN")

-- it has no handlers, so no line is one of an interrupt
none_attached : (schedule : List ScheduleLine) → interrupts idle_image schedule ≡ []
none_attached [] = refl
none_attached (l ∷ ls) = none_attached ls

abbrev idle_with : List ScheduleLine → List Interrupt → ℕ → CodeWorld
idle_with schedule pending m =
    run (among (behaviour idle_image schedule)) m (record { kernel = begin (partition_of idle_image) pending; rest = record { memory = initial_words idle_image; tasks = initial_state idle_image } })

idle_after : (schedule : List ScheduleLine) (m : ℕ) → (code idle_image schedule m).kernel.lines ≡ []
idle_after schedule zero = ap (λ q. (idle_with schedule q 0).kernel.lines) (none_attached schedule)
idle_after schedule (suc m) =
    ap (λ w. w.kernel.lines)
    (run_over (among (behaviour idle_image schedule)) m (code idle_image schedule 1) Ended
    (ap (λ q. (idle_with schedule q 1).kernel.outcome) (none_attached schedule)))
    ∙ ap (λ q. (idle_with schedule q 1).kernel.lines) (none_attached schedule)

sums_lines : (source sums [] 3).kernel.lines ≡ record { time = pos 0; task = 0; label = codes "a"; value = pos 14 } ∷ []
sums_lines = refl

idle_refuted : SameMeaning sums idle_image → ⊥
idle_refuted same =
    let x = (same.shows [] refl).forth 3 in
    let none : [] ≡ (record { time = pos 0; task = 0; label = codes "a"; value = pos 14 } ∷ []) ++ x.1.begins.0 = sym (idle_after [] x.0) ∙ x.1.begins.1 ∙ ap (λ l. l ++ x.1.begins.0) sums_lines in
    cc

-- An image whose task has another name does not mean a main of null statements, and the one with main's name does (return_means_nulls)

other_name_refuted : SameMeaning (program_of None (main.Null 0 ∷ [])) (return_image (codes "OTHER")) → ⊥
other_name_refuted same = let names : codes "OTHER" ≡ codes "MAIN" = same.names.tasks 0 in cc
