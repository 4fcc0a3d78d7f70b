use Rattle.std.proofs.Common.{rules, ◌≡◌, ◌∙◌, ◌++◌, ◌∷◌, [], List, Bool, sym, ap, if◌then◌else◌}
use Rattle.std.specs.List.{list_any}
use Rattle.types.specs.contracts.entity.ValuePartialEq.TheImpl.{eq-value}
use Rattle.stmt_rules.specs.CaseRules.{same_scalar}
use Rattle.stmt_rules.specs.Choosing.{chosen_once}
use Rattle.stmt_rules.proofs.case.choose.Goals as goal

pub returns-in_ok-insert-in-Some-clause-chosen : goal.returns-in_ok-insert-in-Some-clause-chosen
returns-in_ok-insert-in-Some-clause-chosen c =
    let v = c.in-Some.value in
    let ks = c.args.chosen.now.keys in
    let test : list_any (eq-value.it v) ks ≡ list_any (same_scalar v) ks = search rules in
    c.in_ok-insert-in-Some.ensures.keys ∙ ap (λ b. if b then ks else ks ++ v ∷ []) test ∙ ap (chosen_once ks) (sym c.in-Some.is)
