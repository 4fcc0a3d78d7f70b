use Rattle.std.proofs.Common.{ap, ◌∙◌}
use Rattle.ada_tree.specs.StatementTree.{subprogram_tree}
use Rattle.declaration_rules.specs.BodyNames.{formals_scope}
use Rattle.mismatches.proofs.Objects.{subprogram_left}
use Rattle.mismatches.proofs.bodies.subprogram_mismatches.Goals as goal

pub returns-clause-scope : goal.returns-clause-scope
returns-clause-scope c =
    let named = c.declare_subprogram.new.scope in
    c.truncate.ensures
    ∙ subprogram_left c.names_are_added.ensures c.args.scope.now named c.declare_formals.new.scope c.body_mismatches.new.scope
    (subprogram_tree c.args.subprogram.now) c.len-len.result
    c.in_ok-declare_subprogram.ensures.ok
    (c.in_ok-declare_formals.ensures ∙ ap (λ l. formals_scope named l) c.deref.ensures.value)
    c.in_ok-body_mismatches.ensures.scope
    c.len-len.ensures.value
