use Rattle.std.proofs.Common.{◌≡◌, ◌∙◌, ◌++◌, Option, Some, None, ap, map, option_map, sym}
use Rattle.compiler.specs.ada_tree.specs.ProgramTree.{body_item_tree, item_tree, package_tree, program_tree}
use Rattle.program_soundness.specs.Fronts.{declared_in}
use Rattle.adarun.specs.Operations.{body_names, subprogram_names}
use Rattle.adarun.proofs.BodyNames.{coded_names, declared_none}
use Rattle.adarun.proofs.operations.subprograms_of.Goals as goal
use Rattle.adarun.proofs.operations.subprograms_of.Goals.{in-Some+in_ok-push_bodies, in_default}

pub returns : goal.returns
returns c =
    let t = program_tree c.args.program.now in
    let compiled = sym (coded_names t 0 (declared_in t.package_)) in
    elim c.match-program.branch [
      | in-Some+in_ok-push_bodies w ↦
          let p = w.in-Some.package_ in
          let package_ = ap (λ o. body_names (declared_in (option_map package_tree o))) w.in-Some.is in
          ap (λ names. names.items) w.names-is
          ∙ w.in_ok-push_bodies.ensures
          ∙ ap (λ front. front ++ body_names (map body_item_tree w.deref.result.now)) c.new-names.ensures.items
          ∙ ap (λ items. body_names (map body_item_tree items)) w.deref.ensures.value
          ∙ sym (declared_none (map item_tree p.declaration.items.items) (map body_item_tree p.body.items.items))
          ∙ sym package_ ∙ compiled
      | in_default w ↦
          ap (λ names. names.items) w.names-is ∙ c.new-names.ensures.items ∙ sym (ap (λ o. body_names (declared_in (option_map package_tree o))) w.in_default.is) ∙ compiled
    ]
