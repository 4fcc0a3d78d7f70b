use Rattle.std.proofs.Common.{[], map, subst, ◌∙◌}
use Rattle.std.specs.Prelude.{◌||◌}
use Rattle.ada_tree.specs.StatementTree.{declaration_tree, handler_trees, stmt_trees}
use Rattle.stmt_code.specs.Declaring.{site_at}
use Rattle.stmt_code.specs.Emitting.{no_ways}
use Rattle.stmt_code.specs.Leaves.{any_leave, handlers_leave}
use Rattle.stmt_code.specs.StatementCode.{after_locals, handlers_code, in_body, sequence_code, stmts_code, with_way}
use Rattle.stmt_code.specs.declared.leaves.WayOut.TheVariants as way
use Rattle.stmt_code.specs.Timely.{handlers_timely, stmts_timely}
use Rattle.stmt_code.proofs.DeclarationsMade.{block_made, out_of_sight, shown_after, shows_locals}
use Rattle.stmt_code.proofs.TimesMade.{seen_after}
use Rattle.stmt_code.proofs.sketch.Sketch.run.Goals as goal

pub returns-clause-made : goal.returns-clause-made
returns-clause-made c = λ end_name.
    let ds = map declaration_tree c.args.declarations.now in
    let body = stmt_trees c.args.statements.now in
    let all = handler_trees c.args.all.now in
    block_made c.args.visible.now c.declarations.new.visible c.args.taken c.in_ok-more.more c.args.self.now c.declarations.new.self c.with_way_out.new.self no_ways
    c.args.exceptions.now ds
    (λ s. with_way (any_leave body way.Return || handlers_leave all way.Return)
    (λ end. sequence_code all (stmts_code (in_body s end) body) (λ q. handlers_code (in_body s end) q [] all)))
    c.in_ok-more.ensures.declares c.in_ok-with_way_out.ensures.made

pub returns-clause-same : goal.returns-clause-same
returns-clause-same c =
    let s = site_at c.args.visible.now c.args.taken no_ways c.args.exceptions.now in
    let ds = map declaration_tree c.args.declarations.now in
    out_of_sight c.args.visible.now (after_locals s ds).visible c.with_way_out.new.visible c.restore.new.visible _ _ _
    (shows_locals c.names_are_added.ensures s ds)
    (c.in_ok-with_way_out.ensures.same
    ∙ shown_after c.args.visible.now c.declarations.new.visible c.args.taken c.in_ok-more.more c.args.self.now c.declarations.new.self no_ways
    c.args.exceptions.now ds c.in_ok-more.ensures.declares)
    c.of-extent.ensures.names c.of-extent.ensures.slots c.of-extent.ensures.subprograms c.restore.ensures.visible

pub returns-clause-timely : goal.returns-clause-timely
returns-clause-timely c =
    let body = stmt_trees c.args.statements.now in
    let all = handler_trees c.args.all.now in
    subst (λ z. stmts_timely z body × handlers_timely z all)
    (seen_after c.args.visible.now c.declarations.new.visible c.args.taken c.in_ok-more.more c.args.self.now c.declarations.new.self no_ways c.args.exceptions.now
    (map declaration_tree c.args.declarations.now) c.in_ok-more.ensures.declares) c.in_ok-with_way_out.ensures.timely
