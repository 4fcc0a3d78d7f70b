use Rattle.std.proofs.Common.{sym, ◌∙◌}
use Rattle.ada_tree.specs.ExpressionTree.{expr_tree}
use Rattle.types.specs.Statics.{start_of, static_form, static_value}
use Rattle.expr_rules.specs.Findings.{noted}
use Rattle.expr_rules.specs.ExpressionRules.{faults_of}
use Rattle.expr_rules.specs.StaticRules.{form_rule, value_rule}
use Rattle.expr_rules.specs.Walks.{noted_broken, noted_unbroken}
use Rattle.expr_rules.proofs.Least.{least_is_least}
use Rattle.expr_rules.proofs.statics.static_faults.Goals as goal

pub returns-in-None : goal.returns-in-None
returns-in-None c =
    let s = c.args.scope.now in
    let t = expr_tree c.args.e.now in
    let form = form_rule (start_of t) (static_form s t) in
    let value = value_rule (start_of t) c.args.within (static_form s t) (static_value s t) in
    let formed = c.form_rule.ensures ∙ (λ j. noted c.args.found.now (form_rule (c.start_of.ensures j) (c.static_form-form.ensures j))) in
    noted_unbroken least_is_least (faults_of s c.args.wanted t) form value c.args.found.now c.form_rule.new.found c.value_rule.new.found (sym c.in-None.is ∙ c.expression_fault.ensures) formed c.value_rule.ensures

pub returns-in-Some : goal.returns-in-Some
returns-in-Some c =
    let s = c.args.scope.now in
    let t = expr_tree c.args.e.now in
    let form = form_rule (start_of t) (static_form s t) in
    let value = value_rule (start_of t) c.args.within (static_form s t) (static_value s t) in
    let formed = c.form_rule-in-Some.ensures ∙ (λ j. noted c.expression_faults.new.found (form_rule (c.start_of-in-Some.ensures j) (c.static_form-form.ensures j))) in
    noted_broken (faults_of s c.args.wanted t) form value c.in-Some.field-0 c.args.found.now c.expression_faults.new.found c.form_rule-in-Some.new.found (sym c.in-Some.is ∙ c.expression_fault.ensures) c.expression_faults.ensures formed
