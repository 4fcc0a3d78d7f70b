-- What is found of a chain of operators, operand by operand, and of the parts of an if expression; the first obstacle in a chain.
use Rattle.std.proofs.Common.{◌≡◌, ◌++◌, ℕ, ◌+◌, ◌<◌, List, [], ◌∷◌, length, drop, refl, sym, ap, ◌∙◌, true}
use Rattle.std.specs.Prelude.{get_or}
use Rattle.ada_tree.specs.declared.expression.BinaryOperator.{BinaryOperator}
use Rattle.ada_tree.specs.declared.expression.Operand.{Operand}
use Rattle.ada_tree.specs.ExpressionTree.{ExprTree, Binary, Conditional, ElsifValueTrees, chain_tree, expr_tree}
use Rattle.types.specs.Scopes.{Scope}
use Rattle.types.specs.Statics.{start_of}
use Rattle.expr_rules.specs.declared.own.Wanted.{Wanted}
use Rattle.expr_rules.specs.ExpressionRules.{beside, conditional_wanted}
use Rattle.expr_rules.specs.Typing.{boolean_wanted, own_of}
use Rattle.mismatches.specs.declared.conflict.Conflict.TheVariants.{NoVariable}
use Rattle.mismatches.specs.declared.expressions.LeftOperand.{LeftOperand}
use Rattle.mismatches.specs.Chaining.{operands_obstacle}
use Rattle.mismatches.specs.Conflicts.{Mismatches, Search, conflict_if, noted}
use Rattle.mismatches.specs.ExpressionMismatches.{actual_mismatch, binary_mismatch, elsifs_mismatches, mismatches_in, mismatches_of}
use Rattle.mismatches.specs.Operating.{joined, joined_mismatches, left_operand, operands_mismatches}
use Rattle.mismatches.specs.StaticMismatches.{obstacle_in, or_obstacle}
use Rattle.mismatches.proofs.Noted.{noted_append, noted_turn}

-- what the left operand has, and then what the right one and the operation add
pub binary_mismatches : (s : Scope) (wanted : Wanted) (operator : BinaryOperator) (a b : ExprTree) (search : Search)
    → noted (noted search (mismatches_in s (beside s operator (own_of s b)) a)) (joined_mismatches s (left_operand s a) operator b)
    ≡ noted search (mismatches_in s wanted (Binary operator a b))
binary_mismatches s wanted operator a b search =
    let left = mismatches_in s (beside s operator (own_of s b)) a in
    let right = mismatches_in s (beside s operator (own_of s a)) b in
    let last = binary_mismatch s operator (start_of a) (own_of s a) (own_of s b) in
    noted_append (noted search left) right last ∙ ap (λ f. noted f last) (sym (noted_append search left right)) ∙ sym (noted_append search (left ++ right) last)

pub chain_mismatches : (s : Scope) (wanted : Wanted) (operator : BinaryOperator) (a b : ExprTree) (operands : List Operand) (search : Search)
    → noted search (mismatches_in s wanted (chain_tree (Binary operator a b) operands))
    ≡ noted (noted search (mismatches_in s wanted (Binary operator a b))) (operands_mismatches s (left_operand s (Binary operator a b)) operands)
chain_mismatches s wanted operator a b [] search = refl
chain_mismatches s wanted operator a b (o ∷ rest) search =
    let both = Binary operator a b in
    let e = expr_tree o.value in
    let after = operands_mismatches s (left_operand s (Binary o.operator both e)) rest in
    chain_mismatches s wanted o.operator both e rest search
    ∙ ap (λ f. noted f after) (sym (binary_mismatches s wanted o.operator both e search))
    ∙ sym (noted_append (noted search (mismatches_in s wanted both)) (joined_mismatches s (left_operand s both) o.operator e) after)

-- a turn of the loop over the operands of a chain
pub operands_turn : (s : Scope) (all : List Operand) (n : ℕ) (x : Operand) (left next : LeftOperand) (search one whole : Search)
    → n < length all
    → x ≡ get_or all n x
    → noted search (operands_mismatches s left (drop n all)) ≡ whole
    → next ≡ joined s left x.operator (expr_tree x.value)
    → one ≡ noted search (joined_mismatches s left x.operator (expr_tree x.value))
    → noted one (operands_mismatches s next (drop (n + 1) all)) ≡ whole
operands_turn s all n x left next search one whole less at h is noting =
    let rest = drop (n + 1) all in
    let after = joined s left x.operator (expr_tree x.value) in
    let first = joined_mismatches s left x.operator (expr_tree x.value) in
    (λ j. noted (noting j) (operands_mismatches s (is j) rest))
    ∙ noted_turn (operands_mismatches s left) all n x search first (operands_mismatches s after rest) whole less at refl h

-- a chain is no name
pub chain_is_no_variable : (s : Scope) (wanted : Wanted) (operator : BinaryOperator) (a b : ExprTree) (operands : List Operand)
    → actual_mismatch s wanted (chain_tree (Binary operator a b) operands)
    ≡ conflict_if (start_of (chain_tree (Binary operator a b) operands)) NoVariable true
chain_is_no_variable s wanted operator a b [] = refl
chain_is_no_variable s wanted operator a b (o ∷ rest) = chain_is_no_variable s wanted o.operator (Binary operator a b) (expr_tree o.value) rest

-- ---- if expressions

pub conditional_mismatches : (s : Scope) (wanted inner : Wanted) (tree : ExprTree) (place : ℕ) (condition value last : ExprTree) (parts : ElsifValueTrees)
    (f fc fv fo fl : Search)
    → tree ≡ Conditional place condition value parts last
    → inner ≡ conditional_wanted s wanted value parts last
    → fc ≡ noted f (mismatches_of s boolean_wanted condition)
    → fv ≡ noted fc (mismatches_of s inner value)
    → fo ≡ noted fv (elsifs_mismatches s inner parts)
    → fl ≡ noted fo (mismatches_of s inner last)
    → fl ≡ noted f (mismatches_in s wanted tree)
conditional_mismatches s wanted inner tree place condition value last parts f fc fv fo fl is expected hc hv ho hl =
    let a = mismatches_of s boolean_wanted condition in
    let b = mismatches_of s inner value in
    let d = elsifs_mismatches s inner parts in
    let whole : Wanted → Mismatches = λ w. a ++ mismatches_of s w value ++ elsifs_mismatches s w parts ++ mismatches_of s w last in
    hl
    ∙ ap (λ g. noted g (mismatches_of s inner last)) (ho ∙ ap (λ g. noted g d) (hv ∙ ap (λ g. noted g b) hc ∙ sym (noted_append f a b)) ∙ sym (noted_append f (a ++ b) d))
    ∙ sym (noted_append f (a ++ b ++ d) (mismatches_of s inner last))
    ∙ ap (λ w. noted f (whole w)) expected
    ∙ ap (λ t. noted f (mismatches_in s wanted t)) (sym is)

-- ---- obstacles

pub chain_obstacle : (s : Scope) (operator : BinaryOperator) (a b : ExprTree) (operands : List Operand)
    → obstacle_in s (chain_tree (Binary operator a b) operands) ≡ operands_obstacle s (or_obstacle (obstacle_in s a) (obstacle_in s b)) operands
chain_obstacle s operator a b [] = refl
chain_obstacle s operator a b (o ∷ rest) = chain_obstacle s o.operator (Binary operator a b) (expr_tree o.value) rest
