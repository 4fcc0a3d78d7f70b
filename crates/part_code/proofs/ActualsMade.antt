-- What methods add for actual parameters is their code.
use Rattle.std.proofs.Common.{◌≡◌, ◌<◌, ◌≤◌, ℕ, ◌+◌, List, [], ◌∷◌, ◌++◌, length, drop, Option, Some, None, refl, sym, ap, ◌∙◌, subst}
use Rattle.std.specs.Prelude.{get_or}
use Rattle.ada_tree.specs.declared.expression.Argument.{Argument}
use Rattle.ada_tree.specs.declared.expression.BinaryOperator.{BinaryOperator}
use Rattle.ada_tree.specs.declared.expression.Operand.{Operand}
use Rattle.ada_tree.specs.ExpressionTree as tree
use Rattle.ada_tree.specs.ExpressionTree.{ArgumentTrees, ExprTree, NoArguments, argument_tree, argument_trees, chain_tree, expr_tree}
use Rattle.image.specs.declared.instruction.Operation.{Operation}
use Rattle.image.specs.declared.instruction.Operation.TheVariants as op
use Rattle.types.specs.declared.entity.FormalParameter.{FormalParameter}
use Rattle.types.specs.declared.entity.Subtype.{Subtype}
use Rattle.expr_code.specs.Naming.{loaded_at}
use Rattle.expr_code.specs.Pieces.{Made, adds, nothing, one, ◌▸◌}
use Rattle.expr_code.specs.declared.visible.Visible.{Visible}
use Rattle.expr_code.proofs.Actuals.{nothing_behind}
use Rattle.expr_code.proofs.Going.{drop_at}
use Rattle.expr_code.proofs.Pieces.{adds_nothing, adds_then, drop_end, one_same, then_made}
use Rattle.part_code.specs.PartCode.{actual_code, actual_height, actual_target, actuals_code, actuals_height, actuals_targets, copied_in, range_code, target_code, target_of, with_target, words_in}
use Rattle.part_code.specs.declared.call.Destination.{Destination}
use Rattle.part_code.proofs.Lists.{append_again}

module _ (v : Visible) where
  -- an operator is no target
  pub chain_target : (more : List Operand) (operator : BinaryOperator) (a b : ExprTree) → target_of v (chain_tree (tree.Binary operator a b) more) ≡ None
  chain_target [] operator a b = refl
  chain_target (o ∷ more) operator a b = chain_target more o.operator (tree.Binary operator a b) (expr_tree o.value)

  pub chain_address : (d : ℕ) (more : List Operand) (operator : BinaryOperator) (a b : ExprTree)
      → target_code v d (chain_tree (tree.Binary operator a b) more) ≡ nothing
  chain_address d [] operator a b = refl
  chain_address d (o ∷ more) operator a b = chain_address d more o.operator (tree.Binary operator a b) (expr_tree o.value)

  -- a target's address, a copy of it, the load of its value, and the check
  pub copied_made : (m copied loaded new : Made) (d first second high : ℕ) (o : Option Destination) (x : Destination) (t : Subtype) (load : Operation)
      → o ≡ Some x → first ≡ d + 1 → second ≡ first + 1 → high ≡ first + words_in v.scope x.subtype → load ≡ loaded_at x.region (words_in v.scope x.subtype)
      → copied ≡ adds m (one first op.Duplicate) → loaded ≡ adds copied (one second load) → new ≡ adds loaded (range_code v.scope high t)
      → new ≡ adds m (copied_in v d o t)
  copied_made m copied loaded new d first second high o x t load is p q r s h k l =
      let n = words_in v.scope x.subtype in
      then_made m copied new (one (d + 1) op.Duplicate) (one (d + 1 + 1) (loaded_at x.region n) ▸ range_code v.scope (d + 1 + n) t)
      (one_same m copied first (d + 1) _ _ p refl h)
      (then_made copied loaded new (one (d + 1 + 1) (loaded_at x.region n)) (range_code v.scope (d + 1 + n) t)
      (one_same copied loaded second (d + 1 + 1) _ _ (q ∙ ap (λ i. i + 1) p) s k)
      (l ∙ ap (λ i. adds loaded (range_code v.scope i t)) (r ∙ ap (λ i. i + n) p)))
      ∙ ap (λ y. adds m (copied_in v d y t)) (sym is)

  pub with_all : (o : Option Destination) (before : List Destination) (rest : List Destination) → (before ++ with_target o []) ++ rest ≡ before ++ with_target o rest
  with_all (Some x) before rest = append_again before (x ∷ []) rest
  with_all None before rest = ap (λ l. l ++ rest) (nothing_behind before)

  module _ (fs : List FormalParameter) (all : List Argument) (n : ℕ) (f : FormalParameter) (x : Argument) (less_f : n < length fs) (is_f : f ≡ get_or fs n f)
      (less : n < length all) (is : x ≡ get_or all n x) where
    abbrev formals : List FormalParameter
    formals = drop (n + 1) fs

    abbrev rest : ArgumentTrees
    rest = argument_trees (drop (n + 1) all)

    pub heights_step : (d h whole : ℕ) → h ≡ actual_height v d f (argument_tree x) → actuals_height v d (drop n fs) (argument_trees (drop n all)) ≡ whole
        → actuals_height v h formals rest ≡ whole
    heights_step d h whole high p =
        ap (λ k. actuals_height v k formals rest) high
        ∙ (λ j. actuals_height v d (sym (drop_at fs n f less_f is_f) j) (argument_trees (sym (drop_at all n x less is) j))) ∙ p

    pub codes_step : (m new whole : Made) (d h : ℕ) → h ≡ actual_height v d f (argument_tree x) → new ≡ adds m (actual_code v d f (argument_tree x))
        → adds m (actuals_code v d (drop n fs) (argument_trees (drop n all))) ≡ whole → adds new (actuals_code v h formals rest) ≡ whole
    codes_step m new whole d h high made p =
        (λ j. adds (made j) (actuals_code v (high j) formals rest))
        ∙ adds_then m (actual_code v d f (argument_tree x)) (actuals_code v (actual_height v d f (argument_tree x)) formals rest)
        ∙ (λ j. adds m (actuals_code v d (sym (drop_at fs n f less_f is_f) j) (argument_trees (sym (drop_at all n x less is) j)))) ∙ p

    pub targets_step : (before after whole : List Destination) → after ≡ before ++ with_target (actual_target v f (argument_tree x)) []
        → before ++ actuals_targets v (drop n fs) (argument_trees (drop n all)) ≡ whole → after ++ actuals_targets v formals rest ≡ whole
    targets_step before after whole is_after p =
        ap (λ l. l ++ actuals_targets v formals rest) is_after
        ∙ with_all (actual_target v f (argument_tree x)) before (actuals_targets v formals rest)
        ∙ (λ j. before ++ actuals_targets v (sym (drop_at fs n f less_f is_f) j) (argument_trees (sym (drop_at all n x less is) j))) ∙ p

  -- where the actual parameters have ended, or the formals
  no_code : (d : ℕ) (fs : List FormalParameter) → actuals_code v d fs NoArguments ≡ nothing
  no_code d [] = refl
  no_code d (f ∷ fs) = refl

  no_height : (d : ℕ) (fs : List FormalParameter) → actuals_height v d fs NoArguments ≡ d
  no_height d [] = refl
  no_height d (f ∷ fs) = refl

  no_targets : (fs : List FormalParameter) → actuals_targets v fs NoArguments ≡ []
  no_targets [] = refl
  no_targets (f ∷ fs) = refl

  pub record HasEnded (d : ℕ) (fs : List FormalParameter) (all : ArgumentTrees) : Type 0 where
    pub code : actuals_code v d fs all ≡ nothing
    pub height : actuals_height v d fs all ≡ d
    pub targets : actuals_targets v fs all ≡ []

  pub arguments_ended : (d : ℕ) (fs : List FormalParameter) (all : List Argument) (n : ℕ) → length all ≤ n → HasEnded d fs (argument_trees (drop n all))
  arguments_ended d fs all n le =
      subst (λ l. HasEnded d fs (argument_trees l)) (sym (drop_end all n le)) (record { code = no_code d fs; height = no_height d fs; targets = no_targets fs })

  pub formals_ended : (d : ℕ) (fs : List FormalParameter) (all : ArgumentTrees) (n : ℕ) → length fs ≤ n → HasEnded d (drop n fs) all
  formals_ended d fs all n le = subst (λ l. HasEnded d l all) (sym (drop_end fs n le)) (record { code = refl; height = refl; targets = refl })

  module _ (d : ℕ) (fs : List FormalParameter) (all : ArgumentTrees) (p : HasEnded d fs all) where
    pub height_end : (whole : ℕ) → actuals_height v d fs all ≡ whole → d ≡ whole
    height_end whole h = sym p.height ∙ h

    pub code_end : (m whole : Made) → adds m (actuals_code v d fs all) ≡ whole → m ≡ whole
    code_end m whole h = sym (adds_nothing m) ∙ ap (adds m) (sym p.code) ∙ h

    pub targets_end : (before whole : List Destination) → before ++ actuals_targets v fs all ≡ whole → before ≡ whole
    targets_end before whole h = sym (nothing_behind before) ∙ ap (λ l. before ++ l) (sym p.targets) ∙ h
