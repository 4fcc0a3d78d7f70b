-- How many steps the evaluation of an expression takes at most, by the tokens of the expression (RM 4).
use Rattle.std.specs.Prelude.{◌≡◌, ◌*◌, ◌-◌, ℕ, ℤ, List, length}
use Rattle.base.specs.declared.schedule.ScheduleLine.{ScheduleLine}
use Rattle.kernel.specs.Calm.{Calm}
use Rattle.kernel.specs.State.{Kernel}
use Rattle.lexer.specs.declared.token.Token.{Token}
use Rattle.ada_tree.specs.ExpressionGrammar.{expression}
use Rattle.ada_tree.specs.ExpressionTree.{ExprTree}
use Rattle.ada_tree.specs.Language.{Limit}
use Rattle.image.specs.Frames.{Frame, Words}
use Rattle.image.specs.Sections.{Sections}
use Rattle.types.specs.Evaluating.{Calls, value_with}
use Rattle.types.specs.Places.{Place}
use Rattle.expr_code.specs.Code.{Holds, here}
use Rattle.expr_code.specs.Coming.{Comes, on}
use Rattle.expr_code.specs.Computing.{Answers}
use Rattle.expr_code.specs.Emitting.{EmitsExpression}
use Rattle.expr_code.specs.Seeing.{Package, Sees, library_of}
use Rattle.expr_code.specs.Views.{frames_above, placed, view_of}
use Rattle.expr_code.specs.declared.code.Code.{Code}
use Rattle.expr_code.specs.declared.visible.Visible.{Visible}

-- In every frame that represents the place of evaluation, code that was added for an expression pushes the words of its value and reaches the place after
-- them, in fewer than 20 steps of this frame for each token of the expression; or it raises the exception of the expression at one of its places, within 20
-- steps of this frame for each token, the step that raises it among them.
abbrev pub EvaluationsWithinTokens : Type 0
EvaluationsWithinTokens =
    (v : Visible) (old : Code) (depth width : ℕ) (e : ExprTree) (new : Code)
    → EmitsExpression v old depth width e new
    → (limit : Limit) (tokens : List Token)
    → expression limit e tokens
    → (i : Sections) (g : Package)
    → Holds i (here old) new
    → (calls : Calls) (left : ℕ)
    → Answers i (library_of g) calls left
    → (schedule : List ScheduleLine) (k : Kernel) (t : ℕ) (m : Words) (f : Frame) (fs : List Frame) (p : Place) (base : List ℤ)
    → Calm k t
    → Sees g v p (view_of i schedule k t m f fs)
    → left ≡ frames_above k t fs
    → Comes i schedule k t m (placed f (here old) base) fs (20 * length tokens - 1) (here new) (on base) (value_with calls p e)
