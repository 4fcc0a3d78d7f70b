-- The bounds of names, parentheses and chains of operators, by their parts.
use Rattle.std.proofs.Common.{◌≡◌, ℕ, ℤ, List, [], ◌∷◌, Option, Some, None, refl, sym, ap, ◌∙◌}
use Rattle.ada_tree.specs.declared.expression.BinaryOperator.{BinaryOperator}
use Rattle.ada_tree.specs.declared.expression.Identifier.{Identifier}
use Rattle.ada_tree.specs.declared.expression.Operand.{Operand}
use Rattle.ada_tree.specs.ExpressionTree as tree
use Rattle.ada_tree.specs.ExpressionTree.{ExprTree, ElsifValueTrees, Binary, Conditional, Named, Parenthesized, SelectorTrees, Unary, chain_tree, expr_tree}
use Rattle.types.specs.declared.entity.Value.TheVariants as scalar
use Rattle.types.specs.declared.standing.Standing.{Standing}
use Rattle.types.specs.declared.standing.Standing.TheVariants as standing
use Rattle.types.specs.Evaluating.{fixed_value}
use Rattle.types.specs.Evaluations.{Val, Gives}
use Rattle.types.specs.Scopes.{Scope}
use Rattle.types.specs.Standings.{standing_of}
use Rattle.types.specs.Statics.{name_form}
use Rattle.types.specs.Values.{Value, value_of}
use Rattle.types.specs.Bounds.{StaticBounds, bounds_of, elsif_bounds, known_or, name_bounds, number_found, operation_bounds, spanned, static_number}
use Rattle.types.specs.Walking.{bounds_after, standing_bounds}

known_is : (number : Option ℤ) (others : ℤ × ℤ) (z : ℤ) → number ≡ Some z → known_or number others ≡ (z, z)
known_is number others z h = ap (λ x. known_or x others) h

-- what a static expression is worth is all that lies between its bounds
pub static_bounds : StaticBounds
static_bounds s (tree.Number y place) z h = ap (λ o. known_or o (y, y)) h
static_bounds s (Named first selectors) z h = known_is (static_number s (Named first selectors)) _ z h
static_bounds s (Parenthesized place e) z h = static_bounds s e z h
static_bounds s (Conditional place condition value elsifs else_value) z h = cc
static_bounds s (Unary operator place e) z h = known_is (static_number s (Unary operator place e)) _ z h
static_bounds s (Binary operator a b) z h = known_is (static_number s (Binary operator a b)) _ z h

by_standing : (w : Standing) (other : Val Value)
    → known_or (number_found (name_form w) (elim (fixed_value w) [ Some v ↦ Gives (value_of v) | None ↦ other ])) (name_bounds w) ≡ standing_bounds w
by_standing (standing.Fixed t (Some (scalar.Number z))) other = refl
by_standing (standing.Fixed t (Some (scalar.Truth b))) other = refl
by_standing (standing.Fixed t None) other = refl
by_standing (standing.Given t (Some (scalar.Number z))) other = refl
by_standing (standing.Given t (Some (scalar.Truth b))) other = refl
by_standing (standing.Given t None) other = refl
by_standing (standing.Plain z) other = refl
by_standing (standing.Part r t) other = refl
by_standing (standing.Named t) other = refl
by_standing (standing.Callee f) other = refl
by_standing (standing.Protected n) other = refl
by_standing standing.Put other = refl
by_standing standing.Statement other = refl
by_standing standing.Task other = refl
by_standing standing.Other other = refl
by_standing standing.Doubtful other = refl

pub of_name : (s : Scope) (first : Identifier) (selectors : SelectorTrees)
    → bounds_of s (Named first selectors) ≡ standing_bounds (standing_of s first selectors)
of_name s first selectors = by_standing (standing_of s first selectors) _

-- of a chain of operators that is not static the last one decides
pub of_chain : (s : Scope) (operator : BinaryOperator) (a b : ExprTree) (more : List Operand)
    → bounds_of s (chain_tree (Binary operator a b) more)
    ≡ known_or (static_number s (chain_tree (Binary operator a b) more)) (bounds_after s (operation_bounds operator (static_number s b)) more)
of_chain s operator a b [] = refl
of_chain s operator a b (o ∷ rest) = of_chain s o.operator (Binary operator a b) (expr_tree o.value) rest

-- ---- what a walk has found of a part, and of the whole

pub chain_found : (s : Scope) (whole : ExprTree) (operator : BinaryOperator) (a b : ExprTree) (more : List Operand) (number : Option ℤ)
    (first after result : ℤ × ℤ)
    → whole ≡ chain_tree (Binary operator a b) more → number ≡ static_number s whole → first ≡ operation_bounds operator (static_number s b)
    → after ≡ bounds_after s first more → result ≡ known_or number after → result ≡ bounds_of s whole
chain_found s whole operator a b more number first after result is known one all h =
    h ∙ ap (λ x. known_or x after) (known ∙ ap (static_number s) is)
    ∙ ap (known_or (static_number s (chain_tree (Binary operator a b) more))) (all ∙ ap (λ x. bounds_after s x more) one)
    ∙ sym (ap (bounds_of s) is ∙ of_chain s operator a b more)

pub conditional_found : (s : Scope) (whole : ExprTree) (place : ℕ) (condition value last : ExprTree) (parts : ElsifValueTrees) (a b d result : ℤ × ℤ)
    → whole ≡ Conditional place condition value parts last → a ≡ bounds_of s value → b ≡ elsif_bounds s a parts → d ≡ bounds_of s last
    → result ≡ spanned b d → result ≡ bounds_of s whole
conditional_found s whole place condition value last parts a b d result is one some end h =
    h ∙ ap (λ x. spanned x d) (some ∙ ap (λ x. elsif_bounds s x parts) one) ∙ ap (spanned (elsif_bounds s (bounds_of s value) parts)) end
    ∙ sym (ap (bounds_of s) is)
