-- Values of a world, whatever lines were written.
use Rattle.std.proofs.Common.{◌≡◌, ℕ, ℤ, zero, suc, List, [], ◌∷◌, ◌++◌, refl, sym, ap, ◌∙◌, slice_get, if◌then◌else◌, w64}
use Rattle.std.specs.Int.{cast_unsigned}
use Rattle.base.specs.declared.limits.TheConstants.{CHANNELS}
use Rattle.base.specs.declared.schedule.ScheduleLine.{ScheduleLine}
use Rattle.kernel.specs.State.{Kernel, Line, actor, inside_among, is_object_open}
use Rattle.execution.specs.Held.{HeldWorld, world_of}
use Rattle.image.specs.Code.{CodeWorld}
use Rattle.machine.specs.Stands.{HoldsWorld}
use Rattle.waveforms.specs.Instants.{world_before}
use Rattle.waveforms.specs.LastValues.{HeldRows, shown_by}
use Rattle.waveforms.specs.Lines.{TaskLabel, line_values}
use Rattle.waveforms.specs.Signals.{all_below, components, from_one, input_values, known_values, package_variables, shown, task_values, values, variable_values}
use Rattle.waveforms.specs.Scopes.{Scopes}

inside_beside : (n : ℕ) (k : Kernel) (lines : List Line) (o : ℕ) → inside_among n (record k { lines = lines }) o ≡ inside_among n k o
inside_beside zero k lines o = refl
inside_beside (suc n) k lines o = ap (λ v. v ++ (if is_object_open o (k.actions n) then n ∷ [] else [])) (inside_beside n k lines o)

pub known_beside : (scopes : Scopes) (schedule : List ScheduleLine) (w : CodeWorld) (lines : List Line) → known_values scopes schedule (record { kernel = record w.kernel { lines = lines }; rest = w.rest }) ≡ known_values scopes schedule w
known_beside scopes schedule w lines = λ j.
    let k = w.kernel in
    (cast_unsigned w64 k.now ∷ [])
    ++ all_below k.partition.tasks (task_values k)
    ++ variable_values w.rest.memory.plain (package_variables scopes)
    ++ all_below k.partition.objects
    (λ o. (from_one (shown k (slice_get (inside_beside (suc (actor k.partition CHANNELS)) k lines o j) 0)) ∷ from_one (k.queued o) ∷ [])
    ++ variable_values (w.rest.memory.objects o) (components scopes o))
    ++ input_values schedule k.now

-- what rows are to show of a machine is what there is to show of the world that it represents, where they have the values of its lines
module _ (scopes : Scopes) (schedule : List ScheduleLine) (labels : List TaskLabel) (h : HeldWorld) (w : CodeWorld) (stands : HoldsWorld h w)
    (r : HeldRows) (read : r.schedule ≡ schedule) (current : r.lines.current ≡ line_values labels w.kernel.lines) where
  pub shown_held : shown_by scopes r (world_of h) ≡ values scopes schedule labels w
  shown_held =
      let known : known_values scopes r.schedule (world_of h) ≡ known_values scopes schedule w =
      ap (λ s. known_values scopes s (world_of h)) read ∙ sym (ap (known_values scopes schedule) stands ∙ known_beside scopes schedule (world_of h) w.kernel.lines) in
      λ j. record { known = known j; lines = current j }

  -- the same where the clock moves from this time
  pub before_held : (time : ℤ) → shown_by scopes r (world_before time (world_of h)) ≡ values scopes schedule labels (world_before time w)
  before_held time =
      let known : known_values scopes r.schedule (world_before time (world_of h)) ≡ known_values scopes schedule (world_before time w) =
      ap (λ s. known_values scopes s (world_before time (world_of h))) read
      ∙ sym (ap (λ (v : CodeWorld). known_values scopes schedule (world_before time v)) stands ∙ known_beside scopes schedule (world_before time (world_of h)) w.kernel.lines) in
      λ j. record { known = known j; lines = current j }
