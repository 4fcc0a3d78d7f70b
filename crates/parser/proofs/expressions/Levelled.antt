-- With any number of levels, names, sums and expressions are read exactly.
use Rattle.std.proofs.Common.{ℕ, zero, suc, Some}
use Rattle.ada_tree.specs.ExpressionGrammar.{Simple, Expression, derives, spells_name}
use Rattle.parser.specs.ExpressionReading.{starts_selector, conditional_in, values, name_at, simple_at, expression_at}
use Rattle.parser.proofs.general.Exact.{Exact}
use Rattle.parser.proofs.general.Several.{Below, exact_opened, Ends}
use Rattle.parser.proofs.expressions.Expressions.{continues_simple, continues_expression, branches, ExpressionStops, Exacts, exact_name}
use Rattle.parser.proofs.expressions.Primaries.{exact_conditional}
use Rattle.parser.proofs.expressions.Operations.{exact_simple_in}
use Rattle.parser.proofs.expressions.Logical.{exact_expression_in}

pub below : (k : ℕ) → Below Exacts k (values k)
below zero = tt
below (suc k) = (
  exact_expression_in k (values k) (below k),
  λ place. exact_opened Exacts k (values k) (conditional_in place) (branches place) ExpressionStops (below k)
      (exact_conditional place),
)

pub exact_expression : (k : ℕ) → Exact (expression_at k) (derives Expression (Some k)) (λ _. Ends continues_expression)
exact_expression k = exact_expression_in k (values k) (below k)

pub exact_simple : (k : ℕ) → Exact (simple_at k) (derives Simple (Some k)) (λ _. Ends continues_simple)
exact_simple k = exact_simple_in k (values k) (below k)

pub exact_name_at : (k : ℕ) → Exact (name_at k) (spells_name (Some k)) (λ _. Ends starts_selector)
exact_name_at k = exact_name k (values k) (below k)
