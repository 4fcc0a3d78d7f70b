-- What holds at the start of a run of an accepted program.
use Rattle.std.specs.Prelude.{◌≡◌, ℕ, suc, [], Some, None}
use Rattle.expr_soundness.specs.base.specs.declared.limits.TheConstants.{PRIORITIES}
use Rattle.expr_soundness.specs.kernel.specs.Invariant.{Fits}
use Rattle.expr_soundness.specs.types.specs.Places.{ceiling_of}
use Rattle.expr_soundness.specs.SoundScopes.{SoundScope}
use Rattle.expr_soundness.specs.meaning.specs.Programs.{Attached, Procedure, Program, handler_at, program_partition}
use Rattle.expr_soundness.specs.meaning.specs.Calls.{procedure_among}
use Rattle.expr_soundness.specs.meaning.specs.Source.{initial_work}
use Rattle.step_soundness.specs.Objects.{first_store}
use Rattle.step_soundness.specs.Holding.{IsSoundStore, IsSoundTask}
use Rattle.step_soundness.specs.Laws.{BarriersAreOwn}

-- the handler of a channel is a procedure without parameters, of an object with the highest ceiling (RM C.3.1)
pub record IsSoundHandler (program : Program) (a : Attached) : Type 0 where
  pub procedure : Procedure
  pub is : procedure_among program.procedures (Some a.object) a.name ≡ Some procedure
  pub closed : procedure.barrier ≡ None
  pub plain : procedure.parameters ≡ []
  pub highest : suc (ceiling_of program.scope a.object) ≡ PRIORITIES

pub record IsSoundStart (program : Program) : Type 0 where
  -- priorities and ceilings are in their range (RM D.1, D.3)
  pub partition : Fits (program_partition program)
  -- the names of the package are known
  pub scope : SoundScope program.scope
  -- barriers tell the same while the components of their object do (RM D.7)
  pub barriers : BarriersAreOwn program
  -- variables and components have values of their types, and the bodies of subprograms break no rule
  pub store : IsSoundStore program (first_store program)
  pub handlers : (channel : ℕ) (a : Attached) → handler_at channel program.handlers ≡ Some a → IsSoundHandler program a
  -- the bodies of tasks and of main break no rule, nor do those of handlers
  pub works : (u : ℕ) → IsSoundTask program (first_store program) None (initial_work program u)
