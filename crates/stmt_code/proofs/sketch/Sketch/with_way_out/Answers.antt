use Rattle.std.proofs.Common.{◌≡◌, [], true, sym, ◌∙◌, rules}
use Rattle.std.specs.Prelude.{◌||◌}
use Rattle.ada_tree.specs.StatementTree.{handler_trees, stmt_trees}
use Rattle.stmt_code.specs.Declaring.{site_at}
use Rattle.stmt_code.specs.Emitting.{no_ways}
use Rattle.stmt_code.specs.Leaves.{any_leave, handlers_leave}
use Rattle.stmt_code.specs.StatementCode.{handlers_code, in_body, sequence_code, stmts_code}
use Rattle.stmt_code.specs.declared.leaves.WayOut.TheVariants as way
use Rattle.stmt_code.proofs.TurnsMade.{out_made}
use Rattle.stmt_code.proofs.sketch.Sketch.with_way_out.Goals as goal

pub returns-then-body_returns-clause-made : goal.returns-then-body_returns-clause-made
returns-then-body_returns-clause-made c =
    let s = site_at c.args.visible.now c.args.taken no_ways c.args.exceptions.now in
    let body = stmt_trees c.args.statements.now in
    let all = handler_trees c.args.all.now in
    let there : c.body_returns.result ≡ true = search rules in
    out_made c.args.self.now c.begin_way.new.self c.sequence.new.self c.lead.new.self
    (λ end. sequence_code all (stmts_code (in_body s end) body) (λ q. handlers_code (in_body s end) q [] all))
    (any_leave body way.Return || handlers_leave all way.Return) _ _ _ (sym c.body_returns.ensures ∙ there) c.in_ok-out.ensures.made c.in_ok-out.ensures.out
    c.in_ok-out.ensures.place c.in_ok-sequence.ensures.made c.end-end.ensures c.lead.ensures.led
