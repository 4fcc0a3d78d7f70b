-- The start of an accepted program is sound by the laws of its names, objects, priorities, barriers, functions, bodies and tasks.
use Rattle.std.proofs.Common.{refl}
use Rattle.expr_soundness.specs.ada_tree.specs.ProgramTree.{ProgramTree}
use Rattle.legality.specs.ProgramRules.{IsLegal}
use Rattle.ravenscar.specs.ProgramRules.{IsRestricted}
use Rattle.expr_soundness.specs.meaning.specs.Programs.{Program, program_of}
use Rattle.expr_soundness.specs.meaning.specs.Works.{Store}
use Rattle.step_soundness.specs.Holding.{SameObjects}
use Rattle.step_soundness.specs.Objects.{first_store}
use Rattle.step_soundness.specs.Starting.{IsSoundStart}
use Rattle.program_soundness.specs.ScopeLaws.{BarriersAreTheirOwn, ObjectsAreSound, PartitionsFit}
use Rattle.program_soundness.specs.BodyLaws.{HandlersAreSound, HasSoundBodies, IsSoundMemory, PremisesHold, ProceduresAreSound, WorksAreSound}
use Rattle.program_soundness.specs.FunctionLaws.{ProgramFunctionsAreSound}
use Rattle.program_soundness.specs.RunLaws.{RunsHaveMeaning}
use Rattle.program_soundness.specs.ProgramLaws.{ProgramsHaveMeaning, StartsAreSound}

pub record LawsBelow : Type 0 where
  pub partitions : PartitionsFit
  pub barriers : BarriersAreTheirOwn
  pub objects : ObjectsAreSound
  pub premises : PremisesHold
  pub functions : ProgramFunctionsAreSound
  pub procedures : ProceduresAreSound
  pub handlers : HandlersAreSound
  pub works : WorksAreSound

module _ (laws : LawsBelow) (t : ProgramTree) (legal : IsLegal t) (restricted : IsRestricted t) where
  abbrev program : Program
  program = program_of t

  abbrev first : Store
  first = first_store program

  same : SameObjects first first
  same = record { variables = λ name. refl; components = λ o name. refl }

  memory : IsSoundMemory program first
  memory = record { variables = laws.objects.variables t legal; components = laws.objects.components t legal; same = same }

  bodies : HasSoundBodies program first
  bodies = laws.procedures t first legal restricted memory

  pub start_sound : IsSoundStart program
  start_sound =
      record {
        partition = laws.partitions t;
        scope = (laws.premises t legal).sound;
        barriers = laws.barriers t restricted;
        store = record {
          functions = laws.functions t first legal restricted memory;
          procedures = bodies.procedures;
          entries = bodies.entries;
          variables = memory.variables;
          components = memory.components;
          same = same;
        };
        handlers = laws.handlers t first legal restricted memory;
        works = laws.works t first legal restricted memory;
      }

pub starts_are_sound : LawsBelow → StartsAreSound
starts_are_sound laws t legal restricted = start_sound laws t legal restricted

pub programs_have_meaning : RunsHaveMeaning → StartsAreSound → ProgramsHaveMeaning
programs_have_meaning runs starts t schedule n u legal restricted = runs (program_of t) schedule n u (starts t legal restricted)
