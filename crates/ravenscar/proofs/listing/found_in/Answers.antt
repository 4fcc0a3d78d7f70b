use Rattle.std.proofs.Common.{◌++◌, ap, ◌∙◌}
use Rattle.ada_tree.specs.ProgramTree.{program_tree}
use Rattle.expr_rules.specs.Findings.{noted}
use Rattle.legality.specs.FoundFaults.{found_faults}
use Rattle.ravenscar.specs.ProgramRules.{restriction_faults}
use Rattle.ravenscar.proofs.Counting.{all_kept}
use Rattle.ravenscar.proofs.listing.found_in.Goals as goal

pub returns : goal.returns
returns c =
    let t = program_tree c.args.program.now in
    let all = found_faults t ++ restriction_faults t in
    let counted = c.in_ok-note_found.ensures ∙ ap (λ f. noted f all) c.new-counted.ensures in
    let found = c.in_ok-note_found-2.ensures ∙ ap (λ f. noted f all) c.in_ok-found.ensures in
    c.into_kept.ensures
    ∙ ap (λ f. f.kept) found
    ∙ all_kept c.found_is_all.ensures all c.count-count.result (c.count-count.ensures ∙ ap (λ f. f.count) counted) c.if-count.false
