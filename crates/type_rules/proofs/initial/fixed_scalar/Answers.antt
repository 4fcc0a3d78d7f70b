use Rattle.std.proofs.Common.{sym, ◌∙◌}
use Rattle.ada_tree.specs.ExpressionTree.{expr_tree}
use Rattle.type_rules.specs.ObjectRules.{fixed_faults, fixed_value}
use Rattle.type_rules.proofs.Calls.{value_broken, value_unbroken}
use Rattle.type_rules.proofs.initial.fixed_scalar.Goals as goal

pub returns-in-None : goal.returns-in-None
returns-in-None c =
    let s = c.args.scope.now in
    let t = expr_tree c.args.e.now in
    value_unbroken c.least_is_least.ensures (fixed_faults s c.args.subtype t) c.fixed_value.result (fixed_value s c.args.subtype t) (sym c.in-None.is ∙ c.fixed_fault.ensures) c.fixed_value.ensures

pub returns-in-Some : goal.returns-in-Some
returns-in-Some c =
    let s = c.args.scope.now in
    let t = expr_tree c.args.e.now in
    value_broken (fixed_faults s c.args.subtype t) c.in-Some.field-0 (fixed_value s c.args.subtype t) (sym c.in-Some.is ∙ c.fixed_fault.ensures)
