use Rattle.std.proofs.Common.{ap, ◌∙◌}
use Rattle.ada_tree.specs.ProgramTree.{package_tree}
use Rattle.mismatches.specs.BodyMismatches.{package_mismatches}
use Rattle.mismatches.specs.Conflicts.{noted}
use Rattle.mismatches.proofs.Noted.{all_kept}
use Rattle.mismatches.proofs.listed.found_in.Goals as goal

pub returns-clause-mismatches : goal.returns-clause-mismatches
returns-clause-mismatches c =
    let all = package_mismatches (package_tree c.args.package_.now) in
    let counted = c.in_ok-package_mismatches.ensures.search ∙ ap (λ s. noted s all) c.new-counted.ensures in
    let found = c.in_ok-scope.ensures.search ∙ ap (λ s. noted s all) c.in_ok-search.ensures in
    c.into_kept-mismatches.ensures
    ∙ ap (λ s. s.kept) found
    ∙ all_kept all c.count-count.result (c.count-count.ensures ∙ ap (λ s. s.count) counted) c.if-count.false
