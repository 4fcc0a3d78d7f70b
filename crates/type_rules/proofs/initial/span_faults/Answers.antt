use Rattle.std.proofs.Common.{sym, ap, ◌∙◌}
use Rattle.ada_tree.specs.ExpressionTree.{expr_tree}
use Rattle.types.specs.Statics.{start_of, static_form}
use Rattle.expr_rules.specs.Faults.{least}
use Rattle.expr_rules.specs.Findings.{noted}
use Rattle.expr_rules.specs.ExpressionRules.{faults_of}
use Rattle.expr_rules.specs.StaticRules.{form_rule}
use Rattle.expr_rules.specs.Walks.{noted_broken, noted_unbroken}
use Rattle.type_rules.specs.SubtypeNames.{wanted_by}
use Rattle.type_rules.specs.ObjectRules.{computed_faults}
use Rattle.type_rules.proofs.initial.span_faults.Goals as goal

pub returns-in-None : goal.returns-in-None
returns-in-None c =
    let s = c.args.scope.now in
    let t = expr_tree c.args.e.now in
    let a = expr_tree c.args.argument.now in
    let all = c.expression_fault.ensures ∙ ap (λ w. least (faults_of s w t)) c.wanted_by-wanted.ensures in
    let formed = c.form_rule.ensures ∙ (λ j. noted c.args.found.now (form_rule (c.start_of-place.ensures j) (c.static_form-form.ensures j))) in
    let computed = c.computed_faults.ensures ∙ ap (λ p. noted c.form_rule.new.found (computed_faults s p c.args.operation a)) c.start_of-place.ensures in
    noted_unbroken c.least_is_least.ensures (faults_of s (wanted_by c.args.subtype) t) (form_rule (start_of t) (static_form s a)) (computed_faults s (start_of t) c.args.operation a)
    c.args.found.now c.form_rule.new.found c.computed_faults.new.found (sym c.in-None.is ∙ all) formed computed

pub returns-in-Some : goal.returns-in-Some
returns-in-Some c =
    let s = c.args.scope.now in
    let t = expr_tree c.args.e.now in
    let a = expr_tree c.args.argument.now in
    let all = c.expression_fault.ensures ∙ ap (λ w. least (faults_of s w t)) c.wanted_by-wanted.ensures in
    let inside = c.expression_faults.ensures ∙ ap (λ w. noted c.args.found.now (faults_of s w t)) c.wanted_by-wanted.ensures in
    let formed = c.form_rule-in-Some.ensures ∙ (λ j. noted c.expression_faults.new.found (form_rule (c.start_of-place.ensures j) (c.static_form-form.ensures j))) in
    noted_broken (faults_of s (wanted_by c.args.subtype) t) (form_rule (start_of t) (static_form s a)) (computed_faults s (start_of t) c.args.operation a) c.in-Some.field-0
    c.args.found.now c.expression_faults.new.found c.form_rule-in-Some.new.found (sym c.in-Some.is ∙ all) inside formed
