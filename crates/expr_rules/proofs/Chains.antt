-- What is found of a chain of operators, operand by operand.
use Rattle.std.proofs.Common.{◌≡◌, ◌++◌, suc, List, [], ◌∷◌, length, refl, sym, ap, ◌∙◌}
use Rattle.std.specs.Prelude.{true}
use Rattle.base.specs.declared.faults.TheConstants.{NO_MEANING}
use Rattle.ada_tree.specs.declared.expression.BinaryOperator.{BinaryOperator}
use Rattle.ada_tree.specs.declared.expression.Operand.{Operand}
use Rattle.ada_tree.specs.declared.expression.Argument.{Argument}
use Rattle.ada_tree.specs.ExpressionTree.{ExprTree, Binary, chain_tree, expr_tree, argument_trees}
use Rattle.types.specs.Scopes.{Scope}
use Rattle.types.specs.Standings.{count}
use Rattle.types.specs.Statics.{start_of}
use Rattle.expr_rules.specs.declared.own.Wanted.{Wanted}
use Rattle.expr_rules.specs.Faults.{rule}
use Rattle.expr_rules.specs.Findings.{Findings, noted}
use Rattle.expr_rules.specs.Typing.{own_of}
use Rattle.expr_rules.specs.ExpressionRules.{faults_in, beside, binary_rule}
use Rattle.expr_rules.specs.NameRules.{actual_rule}
use Rattle.expr_rules.specs.Judging.{own_after, judged, judged_after, joined_faults, operands_faults}
use Rattle.expr_rules.specs.Walks.{noted_append}

pub count_is : (xs : List Argument) → length xs ≡ count (argument_trees xs)
count_is [] = refl
count_is (x ∷ xs) = ap suc (count_is xs)

pub own_chain : (s : Scope) (left : ExprTree) (operands : List Operand) → own_of s (chain_tree left operands) ≡ own_after s (own_of s left) operands
own_chain s left [] = refl
own_chain s left (o ∷ rest) = own_chain s (Binary o.operator left (expr_tree o.value)) rest

pub judged_chain : (s : Scope) (operator : BinaryOperator) (a b : ExprTree) (operands : List Operand)
    → judged s (chain_tree (Binary operator a b) operands) ≡ judged_after s (judged s (Binary operator a b)) operands
judged_chain s operator a b [] = refl
judged_chain s operator a b (o ∷ rest) = judged_chain s o.operator (Binary operator a b) (expr_tree o.value) rest

-- what is broken in the left operand, and then what the right one and the operation add
pub binary_faults : (s : Scope) (wanted : Wanted) (operator : BinaryOperator) (a b : ExprTree) (found : Findings)
    → noted (noted found (faults_in s (beside s operator (own_of s b)) a)) (joined_faults s (judged s a) operator b) ≡ noted found (faults_in s wanted (Binary operator a b))
binary_faults s wanted operator a b found =
    let left = faults_in s (beside s operator (own_of s b)) a in
    let right = faults_in s (beside s operator (own_of s a)) b in
    let last = binary_rule s operator (start_of a) (own_of s a) (own_of s b) in
    noted_append (noted found left) right last ∙ ap (λ f. noted f last) (sym (noted_append found left right)) ∙ sym (noted_append found (left ++ right) last)

-- what is broken in a chain; its left operand is an operation, and so uses nothing that is wanted of it
pub chain_faults : (s : Scope) (wanted : Wanted) (operator : BinaryOperator) (a b : ExprTree) (operands : List Operand) (found : Findings)
    → noted found (faults_in s wanted (chain_tree (Binary operator a b) operands))
    ≡ noted (noted found (faults_in s wanted (Binary operator a b))) (operands_faults s (judged s (Binary operator a b)) operands)
chain_faults s wanted operator a b [] found = refl
chain_faults s wanted operator a b (o ∷ rest) found =
    let both = Binary operator a b in
    let e = expr_tree o.value in
    let behind = operands_faults s (judged s (Binary o.operator both e)) rest in
    chain_faults s wanted o.operator both e rest found
    ∙ ap (λ f. noted f behind) (sym (binary_faults s wanted o.operator both e found))
    ∙ sym (noted_append (noted found (faults_in s wanted both)) (joined_faults s (judged s both) o.operator e) behind)

-- a chain is no name
pub chain_is_no_variable : (s : Scope) (wanted : Wanted) (operator : BinaryOperator) (a b : ExprTree) (operands : List Operand)
    → actual_rule s wanted (chain_tree (Binary operator a b) operands) ≡ rule NO_MEANING (start_of (chain_tree (Binary operator a b) operands)) true
chain_is_no_variable s wanted operator a b [] = refl
chain_is_no_variable s wanted operator a b (o ∷ rest) = chain_is_no_variable s wanted o.operator (Binary operator a b) (expr_tree o.value) rest
