-- Expressions with a doubtful name, which no text of checks/rules.txt can show. Places are those in the text above each.
use Rattle.std.proofs.Common.{◌≡◌, [], ◌∷◌, None, refl}
use Rattle.std.specs.Prelude.{codes}
use Rattle.ada_tree.specs.declared.expression.BinaryOperator.TheVariants as binary
use Rattle.expr_rules.specs.declared.own.Wanted.TheVariants.{Anything}
use Rattle.expr_rules.specs.Faults.{least}
use Rattle.expr_rules.specs.Typing.{boolean_wanted}
use Rattle.expr_rules.specs.ExpressionRules.{faults_of}
use Rattle.expr_rules.proofs.Sample.{num, two, name, of, at, dot, broken, package_scope}

-- `W + 1 and W.X`
doubtful_is_not_judged : least (faults_of package_scope boolean_wanted (two binary.And (two binary.Add (name 0 (codes "W") []) (num 4 1)) (name 10
    (codes "W") (dot 12 (codes "X") ∷ [])))) ≡ None
doubtful_is_not_judged = refl

-- `W (Nobody)`
argument_of_doubtful : least (faults_of package_scope Anything (name 0 (codes "W") (at (of (name 3 (codes "NOBODY") []) ∷ []) ∷ []))) ≡ broken 10 3
argument_of_doubtful = refl
