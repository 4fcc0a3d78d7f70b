use Rattle.std.proofs.Common.{◌≡◌, [], rules, sym, subst, true}
use Rattle.ada_tree.specs.StatementTree.{optional_tree}
use Rattle.ada_tree.specs.ProgramTree.{package_tree}
use Rattle.expr_soundness.specs.meaning.specs.Programs.{package_items}
use Rattle.package_code.specs.Globals.{AreGlobals, RefusesGlobals, are_placed}
use Rattle.package_code.proofs.globals.globals_of.Goals as goal

pub returns-in-None-clause-globals : goal.returns-in-None-clause-globals
returns-in-None-clause-globals c =
    subst (λ o. AreGlobals c.args.scope.now (package_items (optional_tree package_tree o)) c.in_ok-globals.globals) (sym c.in-None.is) c.in_ok-globals.ensures.globals

pub returns-in_ok-declarations-in-Some-clause-globals : goal.returns-in_ok-declarations-in-Some-clause-globals
returns-in_ok-declarations-in-Some-clause-globals c =
    subst (λ o. AreGlobals c.args.scope.now (package_items (optional_tree package_tree o)) c.declarations.new.self) (sym c.in-Some.is)
    (c.in_ok-declarations-in-Some.ensures.adds.are [] c.in_ok-globals.ensures.globals
    (subst (λ o. are_placed c.args.scope.now [] (package_items (optional_tree package_tree o)) ≡ true) c.in-Some.is c.requires.placed))

pub returns-in_err-declarations-in-Some-clause-refused : goal.returns-in_err-declarations-in-Some-clause-refused
returns-in_err-declarations-in-Some-clause-refused c =
    let why = c.in_err-declarations-in-Some.field-0.0 in
    let whole = subst (λ o. RefusesGlobals c.args.scope.now [] (package_items (optional_tree package_tree o)) why) (sym c.in-Some.is)
    (c.in_err-declarations-in-Some.ensures.refused [] c.in_ok-globals.ensures.globals
    (subst (λ o. are_placed c.args.scope.now [] (package_items (optional_tree package_tree o)) ≡ true) c.in-Some.is c.requires.placed)) in
    search (rules, whole)
