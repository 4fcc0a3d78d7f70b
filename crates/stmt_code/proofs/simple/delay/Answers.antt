use Rattle.std.proofs.Common.{◌≡◌, ◌∙◌, rules, subst, true}
use Rattle.std.proofs.lemmas.Result.{on_ok_weaker}
use Rattle.ada_tree.specs.ExpressionTree.{expr_tree}
use Rattle.image.specs.declared.instruction.Operation.TheVariants as op
use Rattle.image.specs.declared.instruction.Region.TheVariants as regions
use Rattle.types.specs.Bounds.{bounds_of}
use Rattle.types.specs.Scopes.{integer}
use Rattle.expr_soundness.specs.BoundsLaw.{is_inside}
use Rattle.expr_code.specs.Pieces.{adds, one}
use Rattle.stmt_code.specs.SimpleCode.{timed_code}
use Rattle.stmt_code.proofs.AssignmentsMade.{first_made}
use Rattle.stmt_code.proofs.simple.delay.Goals as goal

pub returns : goal.returns
returns c =
    let v = c.args.visible.now in
    let e = expr_tree c.args.until.now in
    let held : is_inside c.bounds.result integer ≡ true = search rules in
    let inside : is_inside (bounds_of v.scope e) integer ≡ true = subst (λ b. is_inside b integer ≡ true) c.bounds.ensures held in
    record {
      made = on_ok_weaker c.timed.result
          (λ (p : c.timed.new.fragment ≡ adds c.args.fragment.now (timed_code v e)).
          p ∙ first_made c.args.fragment.now (is_inside (bounds_of v.scope e) integer) (timed_code v e) (one 0 (op.LoadBlock regions.Locals 0)) inside)
          c.timed.ensures.made;
    }
