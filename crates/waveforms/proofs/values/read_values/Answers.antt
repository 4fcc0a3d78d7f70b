use Rattle.std.proofs.Common.{◌+◌, ◌*◌, ◌≤◌, ap, arith, length}
use Rattle.waveforms.specs.Signals.{object_first, package_variables}
use Rattle.waveforms.proofs.Counts.{fewer}
use Rattle.waveforms.proofs.values.read_values.Goals as goal

pub add_tasks-requires : goal.add_tasks-requires
add_tasks-requires g c =
    let tasks = length c.args.machine.now.image.tasks in
    let objects = length c.args.machine.now.image.objects in
    let least : 1 + 2 * tasks + length (package_variables c.args.scopes.now) ≤ object_first c.args.scopes.now tasks objects = fewer c.args.scopes.now tasks 0 objects (omega arith) in
    omega (arith, least, c.clear.ensures.len, c.clear.ensures.capacity, c.push_reserved.ensures.len, c.push_reserved.ensures.capacity, c.requires)

pub add_variables-requires : goal.add_variables-requires
add_variables-requires g c =
    let tasks = length c.args.machine.now.image.tasks in
    let objects = length c.args.machine.now.image.objects in
    let least : 1 + 2 * tasks + length (package_variables c.args.scopes.now) ≤ object_first c.args.scopes.now tasks objects = fewer c.args.scopes.now tasks 0 objects (omega arith) in
    let many = ap (λ vs. length vs) c.package_variables.ensures in
    omega (arith, least, many, c.clear.ensures.len, c.clear.ensures.capacity, c.push_reserved.ensures.len, c.push_reserved.ensures.capacity, c.add_tasks.ensures.len, c.add_tasks.ensures.capacity, c.requires)
