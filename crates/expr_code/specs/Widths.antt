-- How many words the values of an expression take: those of its own type.
use Rattle.std.specs.Prelude.{◌≡◌, ℕ, List, [], ◌∷◌, ⊤}
use Rattle.ada_tree.specs.ExpressionTree.{ExprTree}
use Rattle.types.specs.Layouts.{words_of}
use Rattle.types.specs.Scopes.{base_range_of, Scope}
use Rattle.expr_soundness.specs.expr_rules.specs.declared.own.Own.{Own}
use Rattle.expr_soundness.specs.expr_rules.specs.declared.own.Own.TheVariants.{Typed}
use Rattle.expr_soundness.specs.expr_rules.specs.Typing.{own_of}
use Rattle.expr_code.specs.Branches.{Branch}

-- the words of the values of a type; what has no type by itself is a number
abbrev pub own_words : Scope → Own → ℕ
own_words s (Typed n) = words_of s (base_range_of n)
own_words s own = 1

-- the words of the values of an expression: those of its own type
abbrev pub width_of : Scope → ExprTree → ℕ
width_of s e = own_words s (own_of s e)

-- conditions take one word each, and values so many
abbrev pub AreWide : Scope → (width : ℕ) → List Branch → Type 0
AreWide s width [] = ⊤
AreWide s width (b ∷ all) = (width_of s b.condition ≡ 1) × (width_of s b.value ≡ width) × AreWide s width all
