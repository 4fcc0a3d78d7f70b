use Rattle.std.proofs.Common.{◌++◌, sym, ap, ◌∙◌}
use Rattle.std.proofs.lemmas.Result.{on_ok_weaker}
use Rattle.ada_tree.specs.ExpressionTree.{expr_tree}
use Rattle.ada_tree.specs.StatementTree.{optional_tree}
use Rattle.package_code.proofs.InitialWords.{given_words}
use Rattle.package_code.proofs.initial.push_initial.Goals as goal

pub returns-in-Some-fixed_scalar-clause-words : goal.returns-in-Some-fixed_scalar-clause-words
returns-in-Some-fixed_scalar-clause-words c =
    let given = ap (optional_tree expr_tree) c.in-Some.is in
    let known = sym c.fixed_scalar.ensures ∙ c.in-Some-fixed_scalar.is in
    let same = given_words c.static_is_value.ensures c.args.scope.now c.requires.sound c.args.subtype (optional_tree expr_tree c.args.value.now)
    (expr_tree c.in-Some.value) c.in-Some-fixed_scalar.first given known c.push_fixed.ensures.fits in
    on_ok_weaker c.push_fixed.result (λ p. p ∙ ap (λ l. c.args.words.now.items ++ l) same) c.push_fixed.ensures.words
