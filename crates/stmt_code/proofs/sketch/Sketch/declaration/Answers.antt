use Rattle.std.proofs.Common.{◌∷◌, [], subst, sym}
use Rattle.ada_tree.specs.StatementTree.{declaration_tree, protected_tree, task_tree}
use Rattle.stmt_code.specs.Declaring.{AddsLocals}
use Rattle.stmt_code.proofs.DeclarationsMade.{protected_declared, task_declared}
use Rattle.stmt_code.proofs.sketch.Sketch.declaration.Goals as goal

pub returns-in-Task : goal.returns-in-Task
returns-in-Task c = record {
  declares = subst (λ d. AddsLocals c.args.visible.now c.args.taken c.args.self.now (declaration_tree d ∷ []) c.args.visible.now c.args.taken c.args.self.now)
      (sym c.in-Task.is) (task_declared c.args.visible.now c.args.taken c.args.self.now (task_tree c.in-Task.field-0));
}

pub returns-in-Protected : goal.returns-in-Protected
returns-in-Protected c = record {
  declares = subst (λ d. AddsLocals c.args.visible.now c.args.taken c.args.self.now (declaration_tree d ∷ []) c.args.visible.now c.args.taken c.args.self.now)
      (sym c.in-Protected.is) (protected_declared c.args.visible.now c.args.taken c.args.self.now (protected_tree c.in-Protected.field-0));
}
