use Rattle.std.proofs.Common.{◌+◌, ◌++◌, append_assoc, drop, sym, ap, ◌∙◌}
use Rattle.package_code.specs.Directory.{number_told}
use Rattle.package_code.specs.Owners.{objects_at, protected_objects, told_behind_objects}
use Rattle.package_code.proofs.ToldInside.{objects_told}
use Rattle.package_code.proofs.directory.Directory.visible_operations.Goals as goal

pub loop-number-preserved : goal.loop-number-preserved
loop-number-preserved c =
    let l = c.loop-number in
    let whole = c.args.whole.now in
    let tell = number_told whole c.args.self.now in
    let here = told_behind_objects tell (objects_at whole l.number) in
    let left = told_behind_objects tell (protected_objects (drop (l.number + 1) whole)) in
    ap (λ ns. ns ++ left) c.in_ok-add_operations.ensures.adds ∙ append_assoc l.numbers here left
    ∙ ap (λ ns. l.numbers ++ ns) (sym (objects_told tell whole l.number)) ∙ l.invariant
