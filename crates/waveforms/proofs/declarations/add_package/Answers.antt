use Rattle.std.proofs.Common.{◌≡◌, ◌∙◌, ◌+◌, ◌*◌, ◌++◌, OnOk, ap, option_map, subst, sym}
use Rattle.waveforms.specs.Signals.{package_first}
use Rattle.waveforms.specs.Waves.{package_name, package_scope, variables_text}
use Rattle.waveforms.proofs.Declared.{scope_added}
use Rattle.waveforms.proofs.declarations.add_package.Goals as goal

pub returns-in_ok-add_variables-in-Some : goal.returns-in_ok-add_variables-in-Some
returns-in_ok-add_variables-in-Some c =
    let old = c.args.text.now.items in
    let begun = c.begin_scope.new.text.items in
    let shown = c.in-Some.scope.now in
    let new = c.end_scope.new.text.items in
    let declared = c.in_ok-add_variables-in-Some.ensures ∙ (λ j. begun ++ variables_text (1 + 2 * c.from.ensures j) (c.variables.ensures j)) in
    subst (λ o. OnOk c.end_scope.result (new ≡ old ++ package_scope c.args.tasks (option_map (λ s. s.now) o))) (sym c.in-Some.is)
    (subst (λ l. OnOk c.end_scope.result (new ≡ l))
    (scope_added old begun c.add_variables.new.text.items c.package_name.result.now (package_name shown.name)
    (variables_text (package_first c.args.tasks) shown.variables) (c.package_name.ensures ∙ ap package_name c.name.ensures) c.in_ok-begin_scope-in-Some.ensures declared)
    c.end_scope.ensures)
