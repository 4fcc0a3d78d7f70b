-- What methods add for the choices of a `case` is their code (RM 5.4).
use Rattle.std.proofs.Common.{◌≡◌, ◌≤◌, ◌<◌, ℕ, ℤ, ◌+◌, ◌*◌, List, ◌++◌, drop, length, map, Some, refl, sym, ap, ◌∙◌}
use Rattle.std.specs.Prelude.{get_or, pos}
use Rattle.ada_tree.specs.declared.expression.Expr.{Expr}
use Rattle.ada_tree.specs.ExpressionTree.{ExprTree, expr_tree}
use Rattle.types.specs.declared.entity.Value.{Value as Scalar}
use Rattle.types.specs.declared.entity.Value.TheVariants as scalar
use Rattle.types.specs.Evaluations.{Gives, Val}
use Rattle.types.specs.Scopes.{Scope}
use Rattle.types.specs.Statics.{fault_of, static_fault, static_form, static_value}
use Rattle.types.specs.declared.statics.StaticForm.TheVariants.{Static}
use Rattle.types.specs.Values.{Number, Truth, Value, value_of}
use Rattle.expr_code.specs.Naming.{scalar_word}
use Rattle.expr_code.specs.Pieces.{Made, adds, end_of, narrow}
use Rattle.expr_code.proofs.Going.{drop_at}
use Rattle.expr_code.proofs.Pieces.{adds_nothing, adds_then, drop_end}
use Rattle.stmt_code.specs.SimpleCode.{choice_word, choices_code, test_code, tests_code}

-- the word of a choice with a static value, and of one without
pub word_given : (s : Scope) (e : ExprTree) (x : Scalar) → static_form s e ≡ Static → static_value s e ≡ Gives (value_of x)
    → scalar_word x ≡ choice_word (static_fault s e) (static_value s e)
word_given s e x static gives = gives_word x ∙ sym (λ j. choice_word (fault_of (static j) (gives j)) (gives j))
  where
    gives_word : (y : Scalar) → scalar_word y ≡ choice_word (fault_of Static (Gives (value_of y))) (Gives (value_of y))
    gives_word (scalar.Number z) = refl
    gives_word (scalar.Truth b) = refl

pub no_word : (s : Scope) (e : ExprTree) (fault : ℕ) → static_fault s e ≡ Some fault → pos 0 ≡ choice_word (static_fault s e) (static_value s e)
no_word s e fault is = by_value (static_value s e) ∙ ap (λ f. choice_word f (static_value s e)) (sym is)
  where
    by_value : (v : Val Value) → pos 0 ≡ choice_word (Some fault) v
    by_value (Gives (Number z)) = refl
    by_value (Gives (Truth b)) = refl
    by_value v = refl

module _ (s : Scope) (label : ℕ) (all : List Expr) where
  abbrev left : ℕ → List ExprTree
  left n = map expr_tree (drop n all)

  pub tests_step : (m new whole : Made) (n : ℕ) (x : Expr) (word : ℤ) → n < length all → x ≡ get_or all n x
      → word ≡ choice_word (static_fault s (expr_tree x)) (static_value s (expr_tree x)) → new ≡ adds m (test_code word label)
      → adds m (tests_code s label (left n)) ≡ whole → adds new (tests_code s label (left (n + 1))) ≡ whole
  tests_step m new whole n x word less is told made rest =
      let c = expr_tree x in
      ap (λ y. adds y (tests_code s label (left (n + 1)))) (made ∙ ap (λ w. adds m (test_code w label)) told)
      ∙ adds_then m (test_code (choice_word (static_fault s c) (static_value s c)) label) (tests_code s label (left (n + 1)))
      ∙ ap (λ l. adds m (tests_code s label (map expr_tree l))) (sym (drop_at all n x less is)) ∙ rest

  pub tests_end : (m whole : Made) (n : ℕ) → length all ≤ n → adds m (tests_code s label (left n)) ≡ whole → m ≡ whole
  tests_end m whole n le rest = sym (adds_nothing m) ∙ ap (λ l. adds m (tests_code s label (map expr_tree l))) (sym (drop_end all n le)) ∙ rest

-- with the place to which they lead
pub choices_made : (s : Scope) (m new : Made) (cs : List ExprTree) (label : ℕ) → label ≡ narrow (end_of m + 4 * length cs + 1)
    → new ≡ adds m (tests_code s label cs) → new ≡ adds m (choices_code s cs)
unfolding adds choices_code
choices_made s m new cs label is made = made ∙ ap (λ n. record m { code = m.code ++ tests_code s n cs (end_of m) }) is
