-- Tests of the elements of lists of trees.
use Rattle.std.proofs.Common.{◌≡◌, List, map, Bool}
use Rattle.std.specs.List.{list_any}
use Rattle.expr_rules.specs.Walks as walks

pub any_of_trees : {A B : Type 0} (test : B → Bool) (tree : A → B) (xs : List A) → list_any test (map tree xs) ≡ list_any (λ x. test (tree x)) xs
any_of_trees test tree xs = walks.any_of_trees test tree xs
