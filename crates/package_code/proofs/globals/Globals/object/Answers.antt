use Rattle.std.proofs.lemmas.Result.{IfErr-weaker, on_ok_weaker}
use Rattle.ada_tree.specs.StatementTree.{object_tree}
use Rattle.package_code.proofs.Variables.{adds_constant, adds_variable}
use Rattle.package_code.proofs.GlobalsRefused.{variable_refused}
use Rattle.package_code.proofs.globals.Globals.object.Goals as goal

pub returns-then-object-clause-adds : goal.returns-then-object-clause-adds
returns-then-object-clause-adds c = adds_constant c.args.scope.now (object_tree c.args.object.now) c.args.self.now c.if-object.true

pub returns-else-object-clause-adds : goal.returns-else-object-clause-adds
returns-else-object-clause-adds c = on_ok_weaker c.variable.result
    (λ h. adds_variable c.args.scope.now (object_tree c.args.object.now) c.args.self.now c.variable.new.self c.if-object.false h) c.variable.ensures.adds

pub returns-else-object-clause-refused : goal.returns-else-object-clause-refused
returns-else-object-clause-refused c =
    IfErr-weaker _ _ _
    (λ why r. variable_refused c.args.scope.now c.args.self.now (object_tree c.args.object.now) why r) c.variable.ensures.refused
