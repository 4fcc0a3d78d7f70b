-- What methods add that move arrays and records is the code of the expression that is moved.
use Rattle.std.proofs.Common.{◌≡◌, ◌<◌, ◌≤◌, ℕ, ◌+◌, List, [], ◌∷◌, ◌++◌, length, drop, refl, sym, ap, ◌∙◌, subst}
use Rattle.std.specs.Prelude.{get_or}
use Rattle.ada_tree.specs.declared.expression.BinaryOperator.{BinaryOperator}
use Rattle.ada_tree.specs.declared.expression.ElsifValue.{ElsifValue}
use Rattle.ada_tree.specs.declared.expression.Operand.{Operand}
use Rattle.ada_tree.specs.ExpressionTree as tree
use Rattle.ada_tree.specs.ExpressionTree.{ExprTree, chain_tree, elsif_value_trees, expr_tree}
use Rattle.image.specs.declared.instruction.Operation.TheVariants as op
use Rattle.expr_code.specs.ExpressionCode.{expr_code, fork_code}
use Rattle.expr_code.specs.Pieces.{Made, Opens, Piece, Waits, adds, end_of, narrow, nothing, one, patched, rejoined}
use Rattle.expr_code.specs.declared.visible.Visible.{Visible}
use Rattle.expr_code.proofs.FormsMade.{branch_added, jumped_behind}
use Rattle.expr_code.proofs.Going.{drop_at}
use Rattle.expr_code.proofs.Pieces.{drop_end, none_waits}
use Rattle.part_code.specs.PartCode.{move_code, moves_code}
use Rattle.part_code.specs.declared.moving.Moved.{Moved}

module _ (v : Visible) (to : Moved) where
  -- an operator gives no array or record
  pub chain_moves : (more : List Operand) (operator : BinaryOperator) (a b : ExprTree)
      → move_code v to (chain_tree (tree.Binary operator a b) more) ≡ nothing
  chain_moves [] operator a b = refl
  chain_moves (o ∷ more) operator a b = chain_moves more o.operator (tree.Binary operator a b) (expr_tree o.value)

  abbrev branch : ElsifValue → Piece → Piece
  branch x last = fork_code 1 0 (expr_code v 1 (expr_tree x.condition)) (move_code v to (expr_tree x.value)) last

  abbrev parts : List ElsifValue → Piece → Piece
  parts all = moves_code v to (elsif_value_trees all)

  pub opens_step : (m new final : Made) (before after places : List ℕ) (all : List ElsifValue) (n : ℕ) (x : ElsifValue) → n < length all → x ≡ get_or all n x
      → ((start : Made) (front : Piece → Piece) → Waits start front m before → Waits start (λ last. front (branch x last)) new after)
      → Opens new after (parts (drop (n + 1) all)) final places → Opens m before (parts (drop n all)) final places
  opens_step m new final before after places all n x less is added rest start front waits =
      subst (λ l. Waits start (λ last. front (parts l last)) final places) (sym (drop_at all n x less is))
      (rest start (λ last. front (branch x last)) (added start front waits))

  pub opens_end : (m : Made) (places : List ℕ) (all : List ElsifValue) (n : ℕ) → length all ≤ n → Opens m places (parts (drop n all)) m places
  opens_end m places all n le start front waits = subst (λ l. Waits start (λ last. front (parts l last)) m places) (sym (drop_end all n le)) waits

  -- an if expression
  pub conditional_made : (place : ℕ) (e condition value last : ExprTree) (all : List ElsifValue)
      → e ≡ tree.Conditional place condition value (elsif_value_trees all) last
      → (m tested jumped valued first branched ended new : Made) (height test : ℕ) (none before places : List ℕ) → none ≡ []
      → tested ≡ adds m (expr_code v 1 condition) → jumped ≡ adds tested (one (1 + 1) (op.JumpIfZero 0)) → valued ≡ adds jumped (move_code v to value)
      → before ≡ none ++ length valued.code ∷ [] → test ≡ length tested.code → height ≡ 0
      → first ≡ patched (jumped_behind valued height) test (op.JumpIfZero (narrow (end_of (jumped_behind valued height))))
      → Opens first before (moves_code v to (elsif_value_trees all)) branched places
      → ended ≡ adds branched (move_code v to last) → new ≡ rejoined ended places (narrow (end_of ended)) → new ≡ adds m (move_code v to e)
  conditional_made place e condition value last all is m tested jumped valued first branched ended new height test none before places empty p q r waits at high
      closed opens ends led =
      let added = branch_added m tested jumped valued first 1 0 height test [] before (expr_code v 1 condition) (move_code v to value) p q r
      (waits ∙ ap (λ l. l ++ length valued.code ∷ []) empty) at high closed m (λ rest. rest) (none_waits m) in
      led ∙ ap (λ x. rejoined x places (narrow (end_of ended))) ends
      ∙ (opens m (λ rest. fork_code 1 0 (expr_code v 1 condition) (move_code v to value) rest) added).closes (move_code v to last) (narrow (end_of ended))
      (ap (λ x. narrow (end_of x)) ends)
      ∙ ap (λ t. adds m (move_code v to t)) (sym is)
