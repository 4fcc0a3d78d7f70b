use Rattle.std.proofs.Common.{◌≡◌, ◌+◌, ◌*◌, ◌∙◌, ap, map, sym}
use Rattle.std.proofs.lemmas.List.{length-map}
use Rattle.std.proofs.lemmas.Result.{on_ok_weaker}
use Rattle.ada_tree.specs.ExpressionTree.{expr_tree}
use Rattle.expr_code.specs.Pieces.{adds, end_of, narrow}
use Rattle.stmt_code.specs.SimpleCode.{tests_code}
use Rattle.stmt_code.proofs.ChoicesMade.{choices_made}
use Rattle.stmt_code.proofs.selection.add_choices.Goals as goal

pub returns : goal.returns
returns c =
    let s = c.args.scope.now in
    let m = c.args.fragment.now in
    let cs = map expr_tree c.args.choices.now in
    record {
      made = on_ok_weaker c.add_tests.result
          (λ (p : c.add_tests.new.fragment ≡ adds m (tests_code s c.in_ok-label.label cs)).
          choices_made s m c.add_tests.new.fragment cs c.in_ok-label.label
          (c.in_ok-label.ensures.label ∙ ap (λ n. narrow (end_of m + 4 * n + 1)) (sym (length-map c.args.choices.now expr_tree))) p)
          c.add_tests.ensures.made;
    }
