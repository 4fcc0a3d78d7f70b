-- Values and exceptions that choices name, each once, as the checks keep them: whether one is among them does not depend on how often it is.
use Rattle.std.specs.Prelude.{List, [], ◌∷◌, ◌++◌, Option, Some, None, ℕ, if◌then◌else◌}
use Rattle.ada_tree.specs.declared.statement.ExceptionChoice.{ExceptionChoice}
use Rattle.ada_tree.specs.declared.statement.ExceptionChoice.TheVariants.{Exception, Others}
use Rattle.ada_tree.specs.ExpressionTree.{ExprTree}
use Rattle.ada_tree.specs.StatementTree.{ChoicesTree, Values, OtherValues}
use Rattle.types.specs.declared.entity.Value.{Value as Scalar}
use Rattle.types.specs.Scopes.{Scope}
use Rattle.types.specs.Seen.{seen_with}
use Rattle.expr_rules.specs.declared.own.Wanted.{Wanted}
use Rattle.stmt_rules.specs.CaseRules.{choice_value, is_chosen}

-- ---- the values of a case statement's choices

abbrev pub chosen_once : (before : List Scalar) → Option Scalar → List Scalar
chosen_once before (Some v) = if is_chosen before (Some v) then before else before ++ v ∷ []
chosen_once before None = before

abbrev pub once_after : Scope → Wanted → (before : List Scalar) → List ExprTree → List Scalar
once_after s w before [] = before
once_after s w before (c ∷ cs) = once_after s w (chosen_once before (choice_value s w c)) cs

abbrev pub once_by : Scope → Wanted → (before : List Scalar) → ChoicesTree → List Scalar
once_by s w before (Values cs) = once_after s w before cs
once_by s w before (OtherValues place) = before

-- ---- the exceptions that handlers name

abbrev pub seen_by : (before : List (List ℕ)) → ExceptionChoice → List (List ℕ)
seen_by before (Exception name) = seen_with before name.name
seen_by before (Others place) = before

abbrev pub seen_after : (before : List (List ℕ)) → List ExceptionChoice → List (List ℕ)
seen_after before [] = before
seen_after before (c ∷ cs) = seen_after (seen_by before c) cs
