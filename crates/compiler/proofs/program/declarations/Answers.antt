use Rattle.std.proofs.Common.{[], rules, sym, ap, ◌∙◌, subst}
use Rattle.ada_tree.specs.StatementTree.{optional_tree}
use Rattle.ada_tree.specs.ProgramTree.{package_tree, program_tree}
use Rattle.meaning.specs.Programs.{package_bodies, package_items}
use Rattle.expr_soundness.specs.SoundScopes.{SoundScope}
use Rattle.package_code.specs.Directory.{HasManyBodies}
use Rattle.package_code.specs.Globals.{RefusesGlobals, are_placed}
use Rattle.package_code.specs.Providing.{items_tell}
use Rattle.package_code.specs.Objects.{RefusesObjects, bare_objects, object_rows, objects_have_words}
use Rattle.compiler.proofs.Refusals.{bodies_refused, globals_refused, objects_refused, plain_refused, tables_told}
use Rattle.compiler.proofs.program.declarations.Goals as goal

pub globals_of-requires : goal.globals_of-requires
globals_of-requires c =
    let t = program_tree c.args.accepted.now in
    let items = ap (λ q. package_items (optional_tree package_tree q.package_)) c.program.ensures.same in
    record {
      sound = subst SoundScope (sym c.scope-scope.ensures) (c.names_are_sound.ensures t c.program.ensures.legal);
      told = (λ j. items_tell (c.scope-scope.ensures j) (items j))
          ∙ c.declarations_tell.ensures c.program.ensures.parsed.is.limit t c.program.ensures.parsed.tokens c.program.ensures.parsed.is.tree
          c.program.ensures.legal c.program.ensures.restricted;
      placed = (λ j. are_placed (c.scope-scope.ensures j) [] (items j))
          ∙ c.variables_are_placed.ensures t c.program.ensures.legal c.program.ensures.restricted;
    }

pub protected_objects-requires : goal.protected_objects-requires
protected_objects-requires c =
    let t = program_tree c.args.accepted.now in
    let items = ap (λ q. package_items (optional_tree package_tree q.package_)) c.program.ensures.same in
    record {
      sound = subst SoundScope (sym c.scope-scope.ensures) (c.names_are_sound.ensures t c.program.ensures.legal);
      told = (λ j. items_tell (c.scope-scope.ensures j) (items j))
          ∙ c.declarations_tell.ensures c.program.ensures.parsed.is.limit t c.program.ensures.parsed.tokens c.program.ensures.parsed.is.tree
          c.program.ensures.legal c.program.ensures.restricted;
    }

pub object_rows-requires : goal.object_rows-requires
object_rows-requires c =
    let d = c.in_ok-directory.ensures in
    let p = c.program.result.now in
    record {
      directory = (tables_told (program_tree c.args.accepted.now) c.scope-scope.result.now (package_items (optional_tree package_tree p.package_))
          (package_bodies (optional_tree package_tree p.package_)) c.scope-scope.ensures
          (ap (λ q. package_items (optional_tree package_tree q.package_)) c.program.ensures.same)
          (ap (λ q. package_bodies (optional_tree package_tree q.package_)) c.program.ensures.same) c.in_ok-slots.field-0 c.in_ok-slots.ensures.globals
          c.in_ok-directory.directory d.numbers d.slots d.operations (ap (λ v. v.items) d.components ∙ c.in_ok-declared.ensures.components)).1;
    }

pub returns : goal.returns
returns c =
    let t = program_tree c.args.accepted.now in
    let s = c.scope-scope.result.now in
    let d = c.in_ok-directory.ensures in
    let p = c.program.result.now in
    let items = ap (λ q. package_items (optional_tree package_tree q.package_)) c.program.ensures.same in
    let both =
    tables_told t s (package_items (optional_tree package_tree p.package_)) (package_bodies (optional_tree package_tree p.package_)) c.scope-scope.ensures items
    (ap (λ q. package_bodies (optional_tree package_tree q.package_)) c.program.ensures.same) c.in_ok-slots.field-0 c.in_ok-slots.ensures.globals
    c.in_ok-directory.directory d.numbers d.slots d.operations (ap (λ v. v.items) d.components ∙ c.in_ok-declared.ensures.components) in
    record {
      globals = both.0;
      directory = both.1;
      objects = c.in_ok-objects.ensures.rows ∙ ap (object_rows t 0) (c.deref.ensures.value ∙ c.in_ok-declared.ensures.declared)
          ∙ (λ j. object_rows t 0 (bare_objects (c.scope-scope.ensures j) (items j)));
      made = sym (λ j. objects_have_words (c.scope-scope.ensures j) (items j)) ∙ c.in_ok-declared.ensures.made;
      refused = tt;
    }

pub returns-in_err-slots-clause-refused : goal.returns-in_err-slots-clause-refused
returns-in_err-slots-clause-refused c =
    let t = program_tree c.args.accepted.now in
    let why = c.in_err-slots.field-0.0 in
    let whole = globals_refused t why
    (subst (λ z. RefusesGlobals z [] (package_items t.package_) why) c.scope-scope.ensures
    (subst (λ p. RefusesGlobals c.scope-scope.result.now [] (package_items (optional_tree package_tree p.package_)) why) c.program.ensures.same
    c.in_err-slots.ensures.refused)) in
    search (rules, whole, c.from_residual.ensures)

pub returns-in_err-declared-clause-refused : goal.returns-in_err-declared-clause-refused
returns-in_err-declared-clause-refused c =
    let t = program_tree c.args.accepted.now in
    let why = c.in_err-declared.field-0.0 in
    let whole = objects_refused t why
    (subst (λ z. RefusesObjects z (package_items t.package_) why) c.scope-scope.ensures
    (subst (λ p. RefusesObjects c.scope-scope.result.now (package_items (optional_tree package_tree p.package_)) why) c.program.ensures.same
    c.in_err-declared.ensures.refused)) in
    search (rules, whole, c.from_residual-in_err-declared.ensures)

pub returns-in_err-directory-clause-refused : goal.returns-in_err-directory-clause-refused
returns-in_err-directory-clause-refused c =
    let t = program_tree c.args.accepted.now in
    let why = c.in_err-directory.field-0.0 in
    let whole = bodies_refused t why
    (subst (λ p. HasManyBodies (package_bodies (optional_tree package_tree p.package_)) why) c.program.ensures.same c.in_err-directory.ensures.refused) in
    search (rules, whole, c.from_residual-in_err-directory.ensures)

pub returns-in_err-objects-clause-refused : goal.returns-in_err-objects-clause-refused
returns-in_err-objects-clause-refused c =
    let whole = plain_refused (program_tree c.args.accepted.now) c.in_err-objects.field-0.0 c.in_err-objects.ensures.refused in
    search (rules, whole, c.from_residual-in_err-objects.ensures)
