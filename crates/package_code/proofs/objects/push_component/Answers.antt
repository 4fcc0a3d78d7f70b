use Rattle.std.proofs.lemmas.Result.{on_ok_weaker}
use Rattle.std.proofs.Common.{sym}
use Rattle.ada_tree.specs.StatementTree.{protected_component_tree}
use Rattle.expr_soundness.proofs.Widening.{subtype_known}
use Rattle.package_code.proofs.ComponentSlots.{words_told}
use Rattle.package_code.proofs.objects.push_component.Goals as goal

pub push_initial-requires-clause-known : goal.push_initial-requires-clause-known
push_initial-requires-clause-known c =
    subtype_known c.args.scope.now c.args.part.now.subtype c.in-Some.subtype c.requires.sound (sym c.in-Some.ensures)

pub returns-clause-made : goal.returns-clause-made
returns-clause-made c =
    on_ok_weaker c.push_initial.result (λ p. words_told c.args.scope.now (protected_component_tree c.args.part.now) c.requires.told)
    c.push_initial.ensures.words
