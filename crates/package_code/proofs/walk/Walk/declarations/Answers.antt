use Rattle.ada_tree.specs.ProgramTree.{program_tree}
use Rattle.program_soundness.specs.Fronts.{declared_in}
use Rattle.package_code.proofs.Declared.{declaration_at}
use Rattle.package_code.proofs.walk.Walk.declarations.Goals as goal

pub declaration-requires-clause-walked : goal.declaration-requires-clause-walked
declaration-requires-clause-walked c = c.loop-item.invariant.0

pub declaration-requires-clause-at : goal.declaration-requires-clause-at
declaration-requires-clause-at c =
    declaration_at (declared_in (program_tree c.args.accepted.now).package_) c.args.self.now.place c.loop-item.self.place c.args.items.now
    c.loop-item.item-index c.item-item.result c.requires.at c.loop-item.invariant.1.1 c.loop-item-test.true c.item-item.is
