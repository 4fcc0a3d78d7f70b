-- Turns of the loops over the parts of expressions.
use Rattle.std.proofs.Common.{◌≡◌, ◌++◌, ℕ, ◌+◌, ◌<◌, List, ◌∷◌, length, drop, refl, sym, ap, ◌∙◌}
use Rattle.std.specs.Prelude.{get_or}
use Rattle.std.proofs.lemmas.List.{at_drop_more}
use Rattle.ada_tree.specs.declared.expression.Operand.{Operand}
use Rattle.ada_tree.specs.ExpressionTree.{ExprTree, Conditional, ElsifValueTrees, expr_tree}
use Rattle.types.specs.Scopes.{Scope}
use Rattle.expr_rules.specs.declared.own.Own.{Own}
use Rattle.expr_rules.specs.declared.own.Wanted.{Wanted}
use Rattle.expr_rules.specs.declared.walk.Judged.{Judged}
use Rattle.expr_rules.specs.Findings.{Findings, noted}
use Rattle.expr_rules.specs.Typing.{own_of, elsif_own_of, join, boolean_wanted}
use Rattle.expr_rules.specs.ExpressionRules.{faults_in, faults_of, conditional_wanted, elsif_faults}
use Rattle.expr_rules.specs.Judging.{joined, joined_faults, judged_after, operands_faults}
use Rattle.expr_rules.specs.Walks.{noted_append, noted_turn}

-- a turn of the loop over the operands of a chain
pub judged_turn : (s : Scope) (all : List Operand) (n : ℕ) (x : Operand) (left next : Judged) (found one : Findings) (own : Judged) (whole : Findings)
    → n < length all
    → x ≡ get_or all n x
    → (judged_after s left (drop n all) ≡ own) × (noted found (operands_faults s left (drop n all)) ≡ whole)
    → next ≡ joined s left x.operator (expr_tree x.value)
    → one ≡ noted found (joined_faults s left x.operator (expr_tree x.value))
    → (judged_after s next (drop (n + 1) all) ≡ own) × (noted one (operands_faults s next (drop (n + 1) all)) ≡ whole)
judged_turn s all n x left next found one own whole less at h is noting =
    let rest = drop (n + 1) all in
    let after = joined s left x.operator (expr_tree x.value) in
    let first = joined_faults s left x.operator (expr_tree x.value) in (
      ap (λ o. judged_after s o rest) is ∙ sym (at_drop_more (judged_after s left) all n x less ∙ ap (λ y. judged_after s left (y ∷ rest)) (sym at)) ∙ h.0,
      (λ j. noted (noting j) (operands_faults s (is j) rest)) ∙ noted_turn (operands_faults s left) all n x found first (operands_faults s after rest) whole less at refl h.1,
    )

-- ---- if expressions

pub conditional_own : (s : Scope) (tree : ExprTree) (place : ℕ) (condition value last : ExprTree) (parts : ElsifValueTrees) (a b d : Own)
    → tree ≡ Conditional place condition value parts last → a ≡ own_of s value → b ≡ elsif_own_of s a parts → d ≡ own_of s last → join s b d ≡ own_of s tree
conditional_own s tree place condition value last parts a b d is ha hb hd =
    ap (λ o. join s o d) (hb ∙ ap (λ o. elsif_own_of s o parts) ha) ∙ ap (λ o. join s (elsif_own_of s (own_of s value) parts) o) hd ∙ ap (own_of s) (sym is)

pub conditional_faults : (s : Scope) (w : Wanted) (tree : ExprTree) (place : ℕ) (condition value last : ExprTree) (parts : ElsifValueTrees) (inner : Wanted) (f fc fv fo fl : Findings)
    → tree ≡ Conditional place condition value parts last → inner ≡ conditional_wanted s w value parts last
    → fc ≡ noted f (faults_of s boolean_wanted condition) → fv ≡ noted fc (faults_of s inner value) → fo ≡ noted fv (elsif_faults s inner parts) → fl ≡ noted fo (faults_of s inner last)
    → fl ≡ noted f (faults_in s w tree)
conditional_faults s w tree place condition value last parts inner f fc fv fo fl is hinner hc hv ho hl =
    let a = faults_of s boolean_wanted condition in
    let b = faults_of s inner value in
    let d = elsif_faults s inner parts in
    hl
    ∙ ap (λ g. noted g (faults_of s inner last)) (ho ∙ ap (λ g. noted g d) (hv ∙ ap (λ g. noted g b) hc ∙ sym (noted_append f a b)) ∙ sym (noted_append f (a ++ b) d))
    ∙ sym (noted_append f (a ++ b ++ d) (faults_of s inner last))
    ∙ ap (λ p. noted f (a ++ faults_of s p value ++ elsif_faults s p parts ++ faults_of s p last)) hinner
    ∙ ap (λ t. noted f (faults_in s w t)) (sym is)
