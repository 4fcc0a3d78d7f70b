-- What methods add that assign values is their code (RM 5.2).
use Rattle.std.proofs.Common.{◌≡◌, ◌≤◌, ◌<◌, ℕ, Bool, true, List, [], ◌∷◌, length, false, refl, sym, ap, ◌∙◌, arith}
use Rattle.std.proofs.lemmas.Bool.{eqb-true}
use Rattle.std.specs.Prelude.{cond, nat_eq}
use Rattle.ada_tree.specs.declared.expression.Selector.{Selector}
use Rattle.ada_tree.specs.ExpressionTree.{ExprTree, NoSelectors, selector_trees}
use Rattle.expr_code.specs.Pieces.{Made, Piece, adds}
use Rattle.expr_code.specs.declared.visible.Visible.{Visible}
use Rattle.part_code.specs.PartCode.{words_in}
use Rattle.part_code.specs.declared.moving.Source.{Source}
use Rattle.stmt_code.specs.SimpleCode.{assigned_code, stored_code, word_code}

not_one : (n : ℕ) → (n ≡ 1 → ⊥) → nat_eq n 1 ≡ false
not_one n h = by_test (nat_eq n 1) refl
  where
    by_test : (b : Bool) → nat_eq n 1 ≡ b → nat_eq n 1 ≡ false
    by_test true is = absurd (h (eqb-true n 1 is))
    by_test false is = is

module _ (v : Visible) (x : Source) (e : ExprTree) where
  -- to a part
  pub part_assigned : (all : List Selector) → 1 ≤ length all → stored_code v x (selector_trees all) e ≡ assigned_code v x (selector_trees all) e
  part_assigned [] h = absurd (omega (arith, h))
  part_assigned (y ∷ all) h = refl

  -- to a whole object of several words
  pub whole_assigned : (all : List Selector) (n : ℕ) → length all < 1 → n ≡ words_in v.scope x.whole → (n ≡ 1 → ⊥)
      → stored_code v x (selector_trees all) e ≡ assigned_code v x (selector_trees all) e
  whole_assigned [] n h is several =
      ap (λ b. cond b (word_code v x e) (stored_code v x NoSelectors e)) (sym (not_one n several) ∙ ap (λ k. nat_eq k 1) is)
  whole_assigned (y ∷ all) n h is several = absurd (omega (arith, h))

-- ---- one of two pieces

pub first_made : (m : Made) (b : Bool) (x y : Piece) → b ≡ true → adds m x ≡ adds m (cond b x y)
first_made m b x y is = ap (λ t. adds m (cond t x y)) (sym is)
