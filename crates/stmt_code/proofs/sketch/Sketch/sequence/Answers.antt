use Rattle.std.proofs.Common.{◌≡◌, [], length, false, sym, ap, ◌∙◌, rules}
use Rattle.std.specs.Prelude.{◌==◌}
use Rattle.ada_tree.specs.StatementTree.{handler_trees, stmt_trees}
use Rattle.stmt_code.specs.Drafting.{adds}
use Rattle.stmt_code.specs.StatementCode.{handlers_code, site, stmts_code}
use Rattle.stmt_code.proofs.TurnsMade.{handled, sequence_made}
use Rattle.stmt_code.proofs.sketch.Sketch.sequence.Goals as goal

pub returns-clause-made : goal.returns-clause-made
returns-clause-made c =
    let s = site c.args.visible.now c.args.leaving c.args.taken c.args.exceptions.now in
    let body = stmt_trees c.args.body.now in
    let all = c.args.all.now in
    let some : (length all == 0) ≡ false = search rules in
    sequence_made s c.covered.new.visible c.args.self.now c.covered.new.self c.handlers.new.self body (handler_trees all) c.in_ok-cover.cover c.in_ok-cover.jump
    c.in_ok-cover.ensures.made c.in_ok-cover.ensures.cover c.in_ok-cover.ensures.jump c.in_ok-cover.ensures.same c.in_ok-handlers.ensures.made
    ∙ ap (adds c.args.self.now) (sym (handled all (stmts_code s body) (λ q. handlers_code s q [] (handler_trees all)) some))
