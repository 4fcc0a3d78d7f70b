use Rattle.std.proofs.Common.{ap, ◌∙◌}
use Rattle.ada_tree.specs.StatementTree.{subprogram_tree}
use Rattle.ada_tree.specs.ProgramTree.{body_tree}
use Rattle.declaration_rules.specs.BodyNames.{formals_scope}
use Rattle.unit_rules.proofs.Parts.{subprogram_found}
use Rattle.unit_rules.proofs.bodies.subprogram_body_faults.Goals as goal

pub returns-clause-found : goal.returns-clause-found
returns-clause-found c =
    let named = c.declare_subprogram.new.scope in
    let d = subprogram_tree c.args.subprogram.now in
    let b = body_tree c.args.body.now in
    subprogram_found c.args.scope.now d b named c.declare_formals.new.scope c.kind_of-kind.result
    c.args.found.now c.head_faults.new.found c.body_faults.new.found c.note_end_name.new.found
    c.in_ok-declare_subprogram.ensures.ok
    (c.in_ok-declare_formals.ensures ∙ ap (λ l. formals_scope named l) c.deref.ensures.value)
    c.kind_of-kind.ensures
    c.in_ok-head_faults.ensures
    c.in_ok-body_faults.ensures.found
    c.note_end_name.ensures
