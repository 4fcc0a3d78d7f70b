-- What methods that add the code of expressions promise.
use Rattle.std.specs.Prelude.{◌≡◌, ℕ, ◌+◌, ◌*◌, ◌≤◌, ◌<◌, [], Bool, true, false, ◌||◌, Option, Some}
use Rattle.image.specs.Sections.{Sections}
use Rattle.ada_tree.specs.ExpressionTree.{ExprTree}
use Rattle.ada_tree.specs.Size.{expr_size}
use Rattle.types.specs.declared.entity.Subtype.{Subtype}
use Rattle.types.specs.Entities.{Arrays, Records, TypeForm}
use Rattle.types.specs.Evaluations.{Gives}
use Rattle.types.specs.Evaluating.{Calls, value_with}
use Rattle.types.specs.Layouts.{words_of}
use Rattle.types.specs.Places.{Place}
use Rattle.types.specs.Scopes.{form_at, Scope}
use Rattle.types.specs.Shapes.{has_shape, shape_of}
use Rattle.types.specs.Values.{Value}
use Rattle.expr_soundness.specs.expr_rules.specs.declared.own.Wanted.{Wanted}
use Rattle.expr_soundness.specs.expr_rules.specs.declared.own.Wanted.TheVariants.{Anything, AnyInteger, OfType}
use Rattle.expr_soundness.specs.expr_rules.specs.ExpressionRules.{faults_in, faults_of}
use Rattle.expr_soundness.specs.expr_rules.specs.Typing.{is_integers, is_spans, is_times}
use Rattle.expr_soundness.specs.Agreeing.{Agrees}
use Rattle.expr_soundness.specs.Answers.{CallsAnswer}
use Rattle.expr_code.specs.Code.{here, Extends, Holds}
use Rattle.expr_code.specs.Computing.{Computes, ComputesChecked}
use Rattle.expr_code.specs.Flows.{Flows}
use Rattle.expr_code.specs.Seeing.{library_of, Package, Sees, Suits}
use Rattle.expr_code.specs.declared.code.Code.{Code}
use Rattle.expr_code.specs.declared.visible.Visible.{Visible}

-- arrays and records
abbrev pub is_composite : Option TypeForm → Bool
is_composite (Some (Arrays index many element)) = true
is_composite (Some (Records components)) = true
is_composite form = false

-- types whose values are numbers: integers, and those of Ada.Real_Time (RM D.8)
abbrev pub has_numbers : Option TypeForm → Bool
has_numbers form = is_integers form || (is_times form || is_spans form)

-- no rule is broken in the expression, where something fit is expected of it
pub record IsLegalExpression (s : Scope) (e : ExprTree) : Type 0 where
  pub wanted : Wanted
  pub unbroken : faults_in s wanted e ≡ []

-- what is wanted of an expression whose value is to lie in a subtype
abbrev pub WantedFits : Scope → Wanted → Subtype → Type 0
WantedFits s (OfType n) t = n ≡ t.type_number
WantedFits s AnyInteger t = is_integers (form_at s t.type_number) ≡ true
WantedFits s Anything t = ⊥

-- no rule is broken in an expression whose value is to lie in the subtype
pub record IsFit (s : Scope) (t : Subtype) (e : ExprTree) : Type 0 where
  pub wanted : Wanted
  pub fits : WantedFits s wanted t
  pub unbroken : faults_of s wanted e ≡ []

-- The code that was added computes the expression, in every image that holds it and wherever a frame stands for the place of evaluation; it keeps the rules
-- of images; and it has fewer than 20 instructions for each part of the expression, so that the step that raises an exception is one of 20. It finds so many
-- words on the operand stack, and leaves those of the value, so many, above them.
pub record EmitsExpression (v : Visible) (old : Code) (depth width : ℕ) (e : ExprTree) (new : Code) : Type 0 where
  pub extends : Extends old new
  pub sized : here new < here old + 20 * expr_size e
  pub computes : (i : Sections) → Holds i (here old) new → (g : Package) → Computes i (library_of g) (Sees g v) (here old) (here new) e
  pub flows : Flows (Suits v) old depth new (depth + width)

-- the code of an expression was added, and the check of its value against a subtype of single words
pub record EmitsChecked (v : Visible) (old : Code) (depth : ℕ) (t : Subtype) (e : ExprTree) (new : Code) : Type 0 where
  pub extends : Extends old new
  pub sized : here new ≤ here old + (20 * expr_size e + 3)
  pub computes : (i : Sections) → Holds i (here old) new → (g : Package) → ComputesChecked i (library_of g) (Sees g v) (here old) (here new) t e
  pub flows : Flows (Suits v) old depth new (depth + 1)
  pub known : (form : TypeForm) × (form_at v.scope t.type_number ≡ Some form)
  pub single : words_of v.scope t ≡ 1
  -- its value, where there is one, is of the subtype's type
  pub typed : (calls : Calls) (p : Place) → Agrees v.scope p → CallsAnswer calls p → (x : Value) → value_with calls p e ≡ Gives x
      → has_shape (shape_of v.scope t) x ≡ true
