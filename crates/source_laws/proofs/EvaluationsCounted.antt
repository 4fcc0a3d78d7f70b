-- The evaluation of an expression takes at most 20 steps for each of its tokens, with the one that raises an exception: one for each instruction of its code at
-- most, which has fewer than 20 for each part.
use Rattle.std.proofs.Common.{ℕ, ◌+◌, ◌-◌, ◌*◌, ◌≤◌, ◌<◌, length, arith}
use Rattle.kernel.specs.Laws.{QuietStays}
use Rattle.ada_tree.specs.Size.{expr_size}
use Rattle.types.specs.Evaluating.{value_with}
use Rattle.expr_code.specs.Code.{here}
use Rattle.expr_code.specs.Coming.{on}
use Rattle.expr_code.specs.Views.{placed}
use Rattle.expr_code.proofs.Coming.{more}
use Rattle.source_laws.specs.Evaluated.{EvaluationsWithinTokens}
use Rattle.source_laws.proofs.PartsCounted.{parts_within_tokens}

few : (from to size tokens : ℕ) → to < from + 20 * size → size ≤ tokens → to - from ≤ 20 * tokens - 1
few from to size tokens h up = omega (arith, h, up)

pub evaluations_within_tokens : QuietStays → EvaluationsWithinTokens
evaluations_within_tokens quiet v old depth width e new emits limit tokens spelled i g holds calls left answers schedule k t m f fs p base calm sees same =
    let up = few (here old) (here new) (expr_size e) (length tokens) emits.sized (parts_within_tokens.expressions limit e tokens spelled) in
    more quiet i schedule k t m calm (placed f (here old) base) fs (here new - here old) (20 * length tokens - 1) (here new) (on base) (value_with calls p e) up
    (emits.computes i holds g calls left answers schedule k t m f fs p base calm sees same)
