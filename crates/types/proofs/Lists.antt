-- Positions in lists whose items are seen by their names, and numbers of arguments.
use Rattle.std.proofs.Common.{◌≡◌, not, suc, ◌+◌, List, [], ◌∷◌, length, map, Bool, Some, None, refl, ap, sym, ◌∙◌}
use Rattle.std.specs.Prelude.{position, cond, nat_lt}
use Rattle.std.specs.List.{position_or_len}
use Rattle.std.proofs.lemmas.List.{length-map}
use Rattle.ada_tree.specs.declared.expression.Argument.{Argument}
use Rattle.ada_tree.specs.ExpressionTree.{argument_trees}
use Rattle.types.specs.Standings.{count}

first_map : {X Y : Type 0} (f : X → Y) (p : Y → Bool) (xs : List X) → position_or_len (λ x. p (f x)) xs ≡ position_or_len p (map f xs)
first_map f p [] = refl
first_map f p (x ∷ xs) = ap (λ n. cond (not (p (f x))) (1 + n) 0) (first_map f p xs)

pub position_map : {X Y : Type 0} (f : X → Y) (p : Y → Bool) (xs : List X) → position (λ x. p (f x)) xs ≡ position p (map f xs)
position_map f p xs = ap (λ n. cond (nat_lt n (length xs)) (Some n) None) (first_map f p xs) ∙ ap (λ m. cond (nat_lt (position_or_len p (map f xs)) m) (Some (position_or_len p (map f xs))) None) (sym (length-map xs f))

pub count_is : (xs : List Argument) → length xs ≡ count (argument_trees xs)
count_is [] = refl
count_is (x ∷ xs) = ap suc (count_is xs)
