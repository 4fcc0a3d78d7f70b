-- What refuses the code of a part of an expression refuses that of the whole.
use Rattle.std.proofs.Common.{◌≡◌, ◌≤◌, ◌+◌, ℕ, suc, [], ◌∷◌, List, map, Some, refl, ap, arith}
use Rattle.std.specs.Prelude.{cond, is_none, max}
use Rattle.std.proofs.Math.Nat.{le-max_left, le-max_right}
use Rattle.ada_tree.specs.declared.expression.ElsifValue.{ElsifValue}
use Rattle.ada_tree.specs.declared.expression.BinaryOperator.{BinaryOperator}
use Rattle.ada_tree.specs.ExpressionTree as tree
use Rattle.ada_tree.specs.ExpressionTree.{elsif_value_trees, ExprTree, NoElsifValues, SelectorTrees, NoSelectors, MoreSelectors}
use Rattle.image.specs.declared.instruction.Operation.{Operation}
use Rattle.types.specs.Scopes.{number_of, Scope}
use Rattle.types.specs.Standings.{stands_first}
use Rattle.expr_code.specs.Branches.{Branch, branch_of, in_front}
use Rattle.expr_code.specs.OperatorCode.{binary_operation}
use Rattle.expr_code.specs.Refusing.{branches_peak, elsifs_peak, IsRefused, IsRefusedBeside, operand_peak, peak, selector_peak, selectors_peak, words_below}
use Rattle.expr_code.specs.Widths.{width_of}
use Rattle.expr_code.specs.declared.code.Code.{Code}
use Rattle.expr_code.specs.declared.refusal.ImageLimit.{ImageLimit}
use Rattle.expr_code.specs.declared.refusal.ImageLimit.TheVariants as limits
use Rattle.expr_code.specs.declared.refusal.Refusal.{Refusal}
use Rattle.expr_code.specs.declared.refusal.Refusal.TheVariants as refusal
use Rattle.expr_code.specs.declared.visible.Visible.{Visible}

-- a part ends no later than the whole, and needs no more words; what is unfit for it is so for the whole
pub refused_beside : {a b : Type 0} (m n l h : ℕ) → (a → b) → m ≤ n → l ≤ h → (why : Refusal) → IsRefusedBeside a m l why → IsRefusedBeside b n h why
refused_beside m n l h unfit up high refusal.Memory r = tt
refused_beside m n l h unfit up high (refusal.Limit limits.Instructions) r = omega (arith, r, up)
refused_beside m n l h unfit up high (refusal.Limit limits.Frame) r = omega (arith, r, high)
refused_beside m n l h unfit up high (refusal.Limit limits.Block) r = unfit r
refused_beside m n l h unfit up high (refusal.Limit other) r = r

-- no limit is passed by no instructions and no words
pub no_limit : (limit : ImageLimit) → IsRefused 0 0 (refusal.Limit limit) → ⊥
no_limit limits.Instructions r = absurd (omega (arith, r))
no_limit limits.Frame r = absurd (omega (arith, r))
no_limit other r = r

-- ---- words

module _ (s : Scope) where
  -- each expression has a word on the operand stack
  pub selectors_some : (below : ℕ) (all : SelectorTrees) → 1 ≤ selectors_peak s below all
  selectors_some below NoSelectors = omega arith
  selectors_some below (MoreSelectors x rest) =
      let more = selectors_some below rest in
      let up = le-max_right (below + selector_peak s x) (selectors_peak s below rest) in
      omega (arith, more, up)

  pub peak_some : (e : ExprTree) → 1 ≤ peak s e
  peak_some (tree.Number z place) = omega arith
  peak_some (tree.Named first selectors) =
      let below = words_below s (stands_first s (number_of s first.name)) in
      let some = selectors_some below selectors in
      let up = le-max_right (width_of s (tree.Named first selectors)) (selectors_peak s below selectors) in
      omega (arith, some, up)
  peak_some (tree.Parenthesized place e) = peak_some e
  peak_some (tree.Unary o place e) = peak_some e
  peak_some (tree.Binary o a b) = let one = peak_some a in let up = le-max_left (peak s a) (operand_peak o (peak s b)) in omega (arith, one, up)
  peak_some (tree.Conditional place c v elsifs l) =
      let one = peak_some c in
      let rest = max (peak s v) (max (elsifs_peak s elsifs) (peak s l)) in
      let up = le-max_left (peak s c) rest in
      let more = le-max_right (width_of s (tree.Conditional place c v elsifs l)) (max (peak s c) rest) in
      omega (arith, one, up, more)

  -- ---- chains of operators

  pub both_peak : (o : BinaryOperator) (x : Operation) (n : ℕ) → binary_operation o ≡ Some x → operand_peak o n ≡ suc n
  both_peak o x n is = ap (λ y. cond (is_none y) (max 2 n) (suc n)) is

module _ (v : Visible) where
  pub branches_high : (all : List Branch) → elsifs_peak v.scope (in_front all NoElsifValues) ≡ branches_peak v.scope all
  branches_high [] = refl
  branches_high (b ∷ all) = ap (λ n. max (peak v.scope b.condition) (max (peak v.scope b.value) n)) (branches_high all)

  module _ (e : ExprTree) (place : ℕ) (condition value : ExprTree) (elsifs : List ElsifValue) (last : ExprTree)
      (same : e ≡ tree.Conditional place condition value (elsif_value_trees elsifs) last) (old : Code) (depth : ℕ) where
    abbrev all : List Branch
    all = map branch_of elsifs

    abbrev conditional : ExprTree
    conditional = tree.Conditional place condition value (in_front all NoElsifValues) last

    high : peak v.scope conditional ≡ max (width_of v.scope conditional)
        (max (peak v.scope condition) (max (peak v.scope value) (max (branches_peak v.scope all) (peak v.scope last))))
    high = ap (λ n. max (width_of v.scope conditional) (max (peak v.scope condition) (max (peak v.scope value) (max n (peak v.scope last)))))
        (branches_high all)
