use Rattle.std.proofs.Common.{sym, ◌∙◌}
use Rattle.ada_tree.specs.ExpressionTree.{expr_tree}
use Rattle.types.specs.Statics.{static_form, static_value}
use Rattle.expr_rules.specs.StaticRules.{static_faults}
use Rattle.expr_rules.proofs.Unbroken.{broken_scalar, unknown_scalar}
use Rattle.expr_rules.proofs.statics.static_scalar.Goals as goal

pub returns-in-Err : goal.returns-in-Err
returns-in-Err c =
    let s = c.args.scope.now in
    let t = expr_tree c.args.e.now in
    unknown_scalar (static_faults s c.args.wanted c.args.within t) (static_form s t) (static_value s t) c.in-Err.field-0.number c.in-Err.ensures.fault

pub returns-in-Some : goal.returns-in-Some
returns-in-Some c =
    let s = c.args.scope.now in
    let t = expr_tree c.args.e.now in
    broken_scalar (static_faults s c.args.wanted c.args.within t) (static_form s t) (static_value s t) c.in-Some.field-0 (sym c.in-Some.is ∙ c.static_fault.ensures)
