use Rattle.std.proofs.Common.{◌≡◌, ◌++◌, [], inr, sym, ap, subst, ◌∙◌}
use Rattle.ada_tree.specs.ProgramTree.{program_tree}
use Rattle.types.specs.Scopes.{standard}
use Rattle.unit_rules.specs.MainRules.{main_faults}
use Rattle.size_rules.specs.ProgramSizes.{size_faults}
use Rattle.declaration_rules.specs.PackageNames.{program_scope}
use Rattle.expr_rules.specs.Faults.{least}
use Rattle.legality.specs.FoundFaults.{found_faults}
use Rattle.legality.specs.ProgramLayouts.{HaveRoom}
use Rattle.legality.specs.ProgramRules.{package_part_faults, program_faults}
use Rattle.legality.proofs.Room.{both_empty}
use Rattle.legality.proofs.SameFaults.{least_broken, least_noted, none_broken}
use Rattle.legality.proofs.checked.check.Goals as goal

pub laid_out-requires-clause-legal : goal.laid_out-requires-clause-legal
laid_out-requires-clause-legal c =
    let t = program_tree c.args.parsed in
    let one = least_noted c.found_is_all.ensures (found_faults (program_tree c.program.result.now)) c.new-found.result c.judge.new.found c.least.result
    c.new-found.ensures c.in_ok-scope.ensures.found c.least.ensures
    ∙ ap (λ p. least (found_faults (program_tree p))) c.program.ensures.same in
    none_broken c.check_finds_what_is_broken.ensures t (c.least_is_least.ensures.none (found_faults t) (sym c.in-None.is ∙ one))

pub laid_out-requires-clause-room : goal.laid_out-requires-clause-room
laid_out-requires-clause-room c =
    let t = program_tree c.args.parsed in
    let none : program_faults t ≡ [] = laid_out-requires-clause-legal c in
    let rest = package_part_faults standard t.package_ ++ main_faults t.package_ t.main in
    let scope = c.in_ok-scope.ensures.scope ∙ ap (λ p. program_scope (program_tree p)) c.program.ensures.same in
    subst HaveRoom (sym scope) (c.words_have_room.ensures t (both_empty rest (size_faults t) none).1)

pub returns-in-Some-clause-refused : goal.returns-in-Some-clause-refused
returns-in-Some-clause-refused c =
    let t = program_tree c.args.parsed in
    let one = least_noted c.found_is_all.ensures (found_faults (program_tree c.program.result.now)) c.new-found.result c.judge.new.found c.least.result
    c.new-found.ensures c.in_ok-scope.ensures.found c.least.ensures
    ∙ ap (λ p. least (found_faults (program_tree p))) c.program.ensures.same in
    inr (least_broken c.check_finds_what_is_broken.ensures t c.in-Some.fault
    (c.least_is_least.ensures.some (found_faults t) c.in-Some.fault (sym c.in-Some.is ∙ one)))
