use Rattle.std.proofs.Common.{rules}
use Rattle.ada_tree.specs.ExpressionTree.{expr_tree}
use Rattle.stmt_code.proofs.ChoicesMade.{no_word, word_given}
use Rattle.stmt_code.proofs.selection.choice_word.Goals as goal

pub returns-in-Ok : goal.returns-in-Ok
returns-in-Ok c =
    let e = expr_tree c.args.choice.now in
    let whole = word_given c.args.scope.now e c.in-Ok.value c.in-Ok.ensures.form c.in-Ok.ensures.value in
    search (rules, whole)

pub returns-in-Err : goal.returns-in-Err
returns-in-Err c =
    let e = expr_tree c.args.choice.now in
    let whole = no_word c.args.scope.now e _ c.in-Err.ensures.fault in
    search (rules, whole)
