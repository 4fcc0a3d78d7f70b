use Rattle.std.proofs.Common.{◌≡◌, [], ◌∷◌, ◌++◌, ◌+◌, ◌*◌, ◌≤◌, ◌∙◌, ap, arith, length, of_z, rules, sym, to_z, w64}
use Rattle.std.specs.Int.{cast_unsigned}
use Rattle.execution.specs.Held.{world_of}
use Rattle.tasking.specs.Held.{kernel_of}
use Rattle.waveforms.specs.Instants.{waiting}
use Rattle.waveforms.specs.Signals.{all_below, object_first, package_variables, task_values, variable_values}
use Rattle.waveforms.proofs.Counts.{fewer}
use Rattle.waveforms.proofs.Waiting.{objects_timed}
use Rattle.waveforms.proofs.before_clock.read_values_before_clock.Goals as goal

pub add_tasks-requires : goal.add_tasks-requires
add_tasks-requires g c =
    let tasks = length c.args.machine.now.image.tasks in
    let objects = length c.args.machine.now.image.objects in
    let least : 1 + 2 * tasks + length (package_variables c.args.scopes.now) ≤ object_first c.args.scopes.now tasks objects = fewer c.args.scopes.now tasks 0 objects (omega arith) in
    omega (arith, least, c.clear.ensures.len, c.clear.ensures.capacity, c.push_reserved.ensures.len, c.push_reserved.ensures.capacity, c.requires)

pub add_variables-requires : goal.add_variables-requires
add_variables-requires g c =
    let tasks = length c.args.machine.now.image.tasks in
    let objects = length c.args.machine.now.image.objects in
    let least : 1 + 2 * tasks + length (package_variables c.args.scopes.now) ≤ object_first c.args.scopes.now tasks objects = fewer c.args.scopes.now tasks 0 objects (omega arith) in
    let many = ap (λ vs. length vs) c.package_variables.ensures in
    omega (arith, least, many, c.clear.ensures.len, c.clear.ensures.capacity, c.push_reserved.ensures.len, c.push_reserved.ensures.capacity, c.add_tasks.ensures.len, c.add_tasks.ensures.capacity, c.requires)

pub returns-clause-items : goal.returns-clause-items
returns-clause-items g c =
    let k = waiting (kernel_of c.args.machine.now.tasking) in
    let same : to_z w64 (of_z w64 c.args.time) ≡ c.args.time = search rules in
    let number = c.cast_unsigned.ensures ∙ ap (cast_unsigned w64) same in
    let time = c.push_reserved.ensures.items ∙ (λ j. c.clear.ensures.items j ++ number j ∷ []) in
    let tasks = c.add_tasks.ensures.items ∙ (λ j. time j ++ all_below k.partition.tasks (task_values k)) in
    let variables = c.add_variables.ensures.items ∙ (λ j. tasks j ++ variable_values (c.plain_words-words.ensures j) (c.package_variables.ensures j)) in
    let objects = sym (objects_timed c.args.scopes.now c.args.time (world_of c.args.machine.now) k.partition.objects) in
    c.add_objects.ensures.items ∙ (λ j. variables j ++ objects j)
