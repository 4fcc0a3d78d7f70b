use Rattle.std.proofs.Common.{◌≡◌, ap, ◌∙◌}
use Rattle.ada_tree.specs.ProgramTree.{body_tree}
use Rattle.stmt_code.specs.Declaring.{site_at}
use Rattle.stmt_code.specs.Drafting.{adds}
use Rattle.stmt_code.specs.Emitting.{no_ways}
use Rattle.stmt_code.specs.StatementCode.{run_code}
use Rattle.stmt_code.specs.Timely.{handlers_timely, locals_seen, stmts_timely}
use Rattle.stmt_code.specs.WholeCode.{height_given}
use Rattle.stmt_code.proofs.Running.{body_parts}
use Rattle.stmt_code.proofs.WholesMade.{procedure_made}
use Rattle.stmt_code.proofs.sketch.Sketch.procedure.Goals as goal

pub returns-clause-made : goal.returns-clause-made
returns-clause-made c =
    let s = site_at c.args.visible.now c.args.taken no_ways c.args.exceptions.now in
    let b = body_tree c.args.body.now in
    procedure_made c.args.self.now c.outs.new.self c.run.new.self c.give_back.new.self s c.args.formals.now b c.run.new.visible.scope
    (ap (λ v. v.scope) c.in_ok-run.ensures.same) c.in_ok-outs.ensures.made
    (body_parts (λ ds body all. c.run.new.self ≡ adds c.outs.new.self (run_code s (record { declarations = ds; statements = body; handlers = all; end_name = b.end_name })))
    _ _ _ _ _ _ c.deref.ensures.value c.deref-2.ensures.value c.deref-3.ensures.value (c.in_ok-run.ensures.made b.end_name))
    c.in_ok-height.ensures.made

pub returns-clause-height : goal.returns-clause-height
returns-clause-height c = c.in_ok-height.ensures.height ∙ ap (λ v. height_given v.scope c.args.formals.now) c.in_ok-run.ensures.same

pub returns-clause-timely : goal.returns-clause-timely
returns-clause-timely c =
    let scope = c.args.visible.now.scope in
    body_parts (λ ds body all. stmts_timely (locals_seen scope ds) body × handlers_timely (locals_seen scope ds) all)
    _ _ _ _ _ _ c.deref.ensures.value c.deref-2.ensures.value c.deref-3.ensures.value c.in_ok-run.ensures.timely
