use Rattle.std.proofs.Common.{map}
use Rattle.ada_tree.specs.StatementTree.{declaration_tree}
use Rattle.stmt_code.proofs.DeclarationsMade.{declarations_begin, declarations_end, declarations_step}
use Rattle.stmt_code.proofs.sketch.Sketch.declarations.Goals as goal

pub loop-declaration-init : goal.loop-declaration-init
loop-declaration-init c = declarations_begin c.args.visible.now c.args.taken c.args.self.now (map declaration_tree c.args.all.now)

pub loop-declaration-preserved : goal.loop-declaration-preserved
loop-declaration-preserved c =
    declarations_step _ _ _ _ _ _ _ _ _ _ c.args.all.now _ c.declaration-item.result c.loop-declaration-test.true c.declaration-item.is
    c.loop-declaration.invariant c.in_ok-more.ensures.declares

pub returns : goal.returns
returns c = record { declares = declarations_end _ _ _ _ _ _ _ c.args.all.now _ c.loop-declaration-test.false c.loop-declaration.invariant }
