-- The run of a program under a schedule: its start, and its world after n steps.
use Rattle.std.specs.Prelude.{ℕ, List}
use Rattle.base.specs.declared.schedule.ScheduleLine.{ScheduleLine}
use Rattle.kernel.specs.State.{Partition}
use Rattle.kernel.specs.Effects.{begin}
use Rattle.kernel.specs.Worlds.{World, Tasks, Behaviour, among, run}
use Rattle.kernel.specs.Text.{Names, text}
use Rattle.ada_tree.specs.ProgramTree.{ProgramTree}
pub use Rattle.meaning.specs.Starts.{duty_items, handler_work, initial_work, items_work, outermost, procedure_work, task_items, task_work}
use Rattle.meaning.specs.Works.{TaskWork, Store, GivenToCaller}
use Rattle.meaning.specs.Programs.{Program, program_interrupts, program_names, program_of, program_partition}
use Rattle.meaning.specs.SourceSteps.{program_behaviour}

abbrev pub SourceWorld : Type 0
SourceWorld = World (Tasks Store TaskWork)

abbrev pub start_of : Program → List ScheduleLine → SourceWorld
start_of p schedule = record {
  kernel = begin (program_partition p) (program_interrupts p schedule);
  rest = record {
    memory = record { variables = p.variables; components = p.components };
    tasks = initial_work p;
  };
}

-- the world after n steps
abbrev pub run_of : Program → List ScheduleLine → ℕ → SourceWorld
run_of p schedule n = run (among (program_behaviour p schedule)) n (start_of p schedule)

-- what the run writes that is cut after n steps
abbrev pub text_of : Program → List ScheduleLine → ℕ → List ℕ
text_of p schedule n = text (program_names p) (run_of p schedule n).kernel

-- ---- the same of a program by its tree

abbrev pub partition_of : ProgramTree → Partition
partition_of p = program_partition (program_of p)

abbrev pub source_names : ProgramTree → Names
source_names p = program_names (program_of p)

abbrev pub source_behaviour : ProgramTree → List ScheduleLine → Behaviour Store TaskWork GivenToCaller
source_behaviour p schedule = program_behaviour (program_of p) schedule

abbrev pub source_start : ProgramTree → List ScheduleLine → SourceWorld
source_start p schedule = start_of (program_of p) schedule

abbrev pub source : ProgramTree → List ScheduleLine → ℕ → SourceWorld
source p schedule n = run_of (program_of p) schedule n

abbrev pub source_text : ProgramTree → List ScheduleLine → ℕ → List ℕ
source_text p schedule n = text_of (program_of p) schedule n
